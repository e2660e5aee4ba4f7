use Rattle.std.proofs.Common.{rules, ◌≡◌, ◌∙◌, ap, sym, arith, ◌*◌, ◌-◌, ◌/◌, ◌%◌, ◌^◌, ◌<◌}
use Rattle.std.proofs.lemmas.Nat.{one_shl}
use Rattle.std.proofs.lemmas.Bool.Decides.{nat_tests}
use Rattle.jpg_spec.specs.Elements.{zeros}
use Rattle.jpg_base.specs.Marks.{marks}
use Rattle.jpg_spec.proofs.Basics.Common.{same_of}
use Rattle.jpg_prog_read.specs.InWork.{band_values}
use Rattle.jpg_prog_read.proofs.AcPassing.{unmarked, zeros_unmarked, band_marks, band_long}
use Rattle.jpg_prog_read.proofs.ac_reader.has_nothing.Goals as goal

pub returns-clause-none : goal.returns-clause-none
returns-clause-none c = λ e.
    let b = c.args.scan.now in let block = c.args.block.now in let word = c.nonzero.result in
    let small : word < 2 ^ 64 = search rules in
    let low : 1 * 2 ^ (b.end - b.start) % 2 ^ 64 ≡ 2 ^ (b.end - b.start) = one_shl (b.end - b.start) 64 (omega (arith, c.requires.some, c.requires.begun, c.requires.inside)) in
    let none : marks (band_values b block) ≡ 0 =
    sym (band_marks b block word c.long.ensures small c.nonzero.ensures) ∙ ap (λ n. word / 2 ^ b.start % n) (sym low) ∙ same_of (word / 2 ^ b.start % (1 * 2 ^ (b.end - b.start) % 2 ^ 64)) 0 e in
    unmarked (band_values b block) none ∙ ap zeros (band_long b block c.requires c.long.ensures)

pub returns-clause-some : goal.returns-clause-some
returns-clause-some c = λ nothing.
    let b = c.args.scan.now in let block = c.args.block.now in let word = c.nonzero.result in
    let small : word < 2 ^ 64 = search rules in
    let low : 1 * 2 ^ (b.end - b.start) % 2 ^ 64 ≡ 2 ^ (b.end - b.start) = one_shl (b.end - b.start) 64 (omega (arith, c.requires.some, c.requires.begun, c.requires.inside)) in
    let none : word / 2 ^ b.start % (1 * 2 ^ (b.end - b.start) % 2 ^ 64) ≡ 0 =
    ap (λ n. word / 2 ^ b.start % n) low ∙ band_marks b block word c.long.ensures small c.nonzero.ensures ∙ ap marks nothing ∙ zeros_unmarked (b.end - b.start) in
    grind (arith, nat_tests, none)
