use Rattle.std.proofs.Common.{rules, ◌≡◌, ◌+◌, true, get_or, refl, subst, arith, sym, take}
use Rattle.jpg_spec.specs.NumberTexts.{is_digit}
use Rattle.jpg_pnm_bmp.specs.Reader.{ReadsDigits}
use Rattle.jpg_pnm_bmp.proofs.Advance.{more_digits, no_digits}
use Rattle.jpg_pnm_bmp.proofs.read.numbers.with_digits.Goals as goal

pub loop-at-init : goal.loop-at-init
loop-at-init c = record { inside = omega arith; read = no_digits c.args.n }

pub loop-at-preserved : goal.loop-at-preserved
loop-at-preserved c =
    let l = c.loop-at in
    let piece = c.args.piece.now in
    let less = c.loop-at-test.true in
    let digit : is_digit (get_or piece l.at 0) ≡ true = search rules in
    record {
      inside = omega (arith, less);
      read = subst (ReadsDigits c.args.n (take (l.at + 1) piece)) (sym c.with_digit-number.ensures) (more_digits c.args.n l.number l.at _ piece less refl digit l.invariant.read);
    }
