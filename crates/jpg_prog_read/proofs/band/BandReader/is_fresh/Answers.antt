use Rattle.std.proofs.Common.{◌≡◌, ◌∙◌, sym, subst, ◌-◌, length, drop}
use Rattle.jpg_spec.specs.Elements.{zeros}
use Rattle.jpg_base.specs.Marks.{marks}
use Rattle.jpg_spec.proofs.Basics.Common.{same_of}
use Rattle.jpg_prog_read.specs.InWork.{InWork}
use Rattle.jpg_prog_read.proofs.NewValues.{none_marked}
use Rattle.jpg_prog_read.proofs.band.BandReader.is_fresh.Goals as goal

pub returns-then-not-self-clause-none : goal.returns-then-not-self-clause-none
returns-then-not-self-clause-none c = λ e.
    let i = c.self.inside in
    let none : marks (drop i.at i.values) ≡ 0 = sym c.self.invariant.marked ∙ same_of i.olds 0 e in
    subst (λ (s : InWork). s.rest ≡ zeros (length s.rest)) c.self.view_is (none_marked (i.end - i.at) (drop i.at i.values) none)
