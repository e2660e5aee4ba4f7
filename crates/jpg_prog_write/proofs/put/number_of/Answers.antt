use Rattle.std.proofs.Common.{◌≡◌, ◌+◌, ◌*◌, ◌++◌, ◌∷◌, [], Bool, true, cond, false, lit<, refl, sym, ap, ◌∙◌, arith}
use mir.Val.{bool_byte}
use Rattle.std.specs.Prelude.{slice_index_or}
use Rattle.std.proofs.lemmas.List.{take_more}
use Rattle.jpg_prog_write.proofs.Texts.{bits_more, fits_more}
use Rattle.jpg_prog_write.proofs.put.number_of.Goals as goal

byte_of : (b : Bool) → bool_byte b ≡ cond b 1 0
byte_of true = refl
byte_of false = refl

pub loop-bit-init : goal.loop-bit-init
unfolding Rattle.jpg_spec.specs.Bits.bits_of
loop-bit-init c = record { bits = refl; fits = lit< tt }

pub loop-bit-preserved : goal.loop-bit-preserved
loop-bit-preserved c =
    let i = c.loop-bit.bit-index in
    let n = c.loop-bit.number in
    let bits = c.args.bits.now in
    let e = ap (λ x. 2 * n + x) (c.from.ensures ∙ byte_of (slice_index_or bits i false)) in
    record {
      bits = bits_more i n _ (slice_index_or bits i false) e ∙ ap (λ xs. xs ++ slice_index_or bits i false ∷ []) c.loop-bit.invariant.bits ∙ sym (take_more bits i false (omega (arith, c.loop-bit-test.true)));
      fits = fits_more i n _ (slice_index_or bits i false) e c.loop-bit.invariant.fits;
    }
