use Rattle.std.proofs.Common.{rules, ℤ, ◌∙◌, ap}
use mir.Syntax.{w16}
use Rattle.std.proofs.lemmas.Int.{to_z-of_z}
use Rattle.jpg_prog_read.specs.NewValues.{with_new_value}
use Rattle.jpg_prog_read.proofs.NewValues.{next_zeros, value_taken}
use Rattle.jpg_prog_read.proofs.band.BandReader.take_new_value.Goals as goal

pub put_after-requires-clause-zeros : goal.put_after-requires-clause-zeros
put_after-requires-clause-zeros c =
    let h = rw c.values_left.ensures.count at c.in-Some.ensures in
    next_zeros c.args.scan.now c.args.codes.now c.args.left c.args.self.now c.args.store.now c.in-Some.new h c.requires.stage c.requires.open c.requires.quiet c.requires.none

pub returns-in-Some : goal.returns-in-Some
returns-in-Some c =
    let h = rw c.values_left.ensures.count at c.in-Some.ensures in
    value_taken c.args.scan.now c.args.codes.now c.args.left c.args.self.now c.args.store.now c.in-Some.new h c.requires.stage c.requires.open c.requires.quiet c.requires.none
    c.covered.result c.put_after.new.self c.skip_few.new.self c.skip_few.ensures
    (c.put_after.ensures ∙ ap (λ (v : ℤ). with_new_value c.args.self.now c.in-Some.new.run v) (to_z-of_z w16 c.in-Some.new.value (search rules))) c.covered.ensures
