use Rattle.std.proofs.Common.{rules, ◌≡◌, ◌∙◌, ap, sym, subst, arith, ◌+◌, ◌-◌, ◌/◌, ◌^◌, ℕ, List, ℤ, pos, get_or, drop, drop-drop, refl}
use Rattle.std.specs.Int.{trailing_zeros}
use mir.Syntax.{w16, w64}
use mir.Val.{to_z, of_z}
use Rattle.std.proofs.lemmas.Int.{to_z-of_z}
use Rattle.jpg_base.specs.Marks.{marks}
use Rattle.jpg_base.proofs.Marked.{marks_after}
use Rattle.jpg_spec.specs.Elements.{grown}
use Rattle.jpg_prog_read.specs.declared.band.correcting.Correcting.{Correcting}
use Rattle.jpg_prog_read.specs.Corrected.{Corrects}
use Rattle.jpg_prog_read.proofs.Corrected.{corrects_then, one_corrected}
use Rattle.jpg_prog_read.proofs.Takings.{first_bit}
use Rattle.jpg_prog_read.proofs.band.correcting.correct.Goals as goal

pub loop-here-preserved : goal.loop-here-preserved
loop-here-preserved c =
    let here = c.loop-here.here in
    let values = c.loop-here.values in
    let x = c.loop-here.invariant in
    let word = here.olds / 2 in
    let z = trailing_zeros w64 word in
    let w = to_z w16 (of_z w16 c.corrected.result) in
    let o = c.get-old.result in
    let same : to_z w16 (of_z w16 o) ≡ get_or values here.at (pos 0) = to_z-of_z w16 o (search rules) ∙ c.get-old.ensures.value in
    let value : (al : ℕ) → c.args.scan.now.scale ≡ 2 ^ al → w ≡ grown al c.bit-bit.result (get_or values here.at (pos 0)) =
    λ al e. to_z-of_z w16 c.corrected.result (search rules) ∙ c.corrected.ensures al e ∙ ap (λ (v : ℤ). grown al c.bit-bit.result v) same in
    let marked : word ≡ marks (drop (here.at + 1) values) = ap (λ m. m / 2) x.can.marked ∙ marks_after (drop here.at values) 1 ∙ ap marks (drop-drop 1 here.at values) in
    let split = first_bit c.loop-here.store c.bit-bit.result c.skip_few.new.self (omega (arith, c.if-len-eq0.false, c.len.ensures.value)) c.bit-bit.ensures c.skip_few.ensures in
    let one = one_corrected c.args.scan.now c.args.end here values c.bit-bit.result w z x.can (omega (arith, c.if-zeros-end.false)) (omega (arith, c.if-zeros-here.false)) word refl marked value c.loop-here.store c.skip_few.new.self split in
    let to : Correcting = record { at = here.at + 1 + z; olds = word / 2 ^ z; run = here.run - z } in
    corrects_then c.args.scan.now c.args.end x (subst (λ (l : List ℤ). Corrects c.args.scan.now c.args.end here values c.loop-here.store to l c.skip_few.new.self) (sym c.set.ensures.value) one)
