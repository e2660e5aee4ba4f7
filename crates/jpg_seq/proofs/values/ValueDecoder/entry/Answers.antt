use Rattle.std.proofs.Common.{List, subst, slice_index_or, inr}
use Rattle.jpg_spec.specs.Codes.{Code}
use Rattle.jpg_seq.specs.Values.{TellsNone, no_entry}
use Rattle.jpg_seq.proofs.Takings.{entry_not}
use Rattle.jpg_seq.proofs.values.ValueDecoder.entry.Goals as goal

pub returns-then-entry-eq0-clause-value : goal.returns-then-entry-eq0-clause-value
returns-then-entry-eq0-clause-value c =
    let entry = slice_index_or c.self.inside.entries c.peek.result no_entry in
    let P : List Code → Type 0 = λ codes. TellsNone codes c.args.bits.now in
    inr (subst P c.self.view_is (entry_not _ _ _ _ c.peek.ensures.value (c.self.invariant.each c.peek.result c.peek.ensures.fits) c.if-entry-eq0.true))
