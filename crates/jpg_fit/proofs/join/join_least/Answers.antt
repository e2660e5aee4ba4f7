use Rattle.std.proofs.Common.{◌≡◌, Some, None, sym, ap, ◌∙◌}
use Rattle.std.specs.Prelude.{is_some}
use Rattle.jpg_spec_fit.specs.Fitted.{joined, least_two}
use Rattle.jpg_fit.specs.Groups.{groups}
use Rattle.jpg_fit.proofs.Joins.{none_first, none_next, two_first, stepped}
use Rattle.jpg_fit.proofs.join.join_least.Goals as goal

none : (c : goal.In_default) → least_two c.args.counts.now ≡ None
none c = none_first c.args.counts.now (sym c.least.ensures.value ∙ c.in_default.is)

one : (c : goal.In_default-next) → least_two c.args.counts.now ≡ None
one c = none_next c.args.counts.now c.in-Some.first (sym c.least.ensures.value ∙ c.in-Some.is) (sym c.next.ensures.value ∙ c.in_default-next.is)

two : (c : goal.After-join) → least_two c.args.counts.now ≡ Some (c.in-Some.first, c.in-Some-next.second)
two c = two_first c.args.counts.now c.in-Some.first c.in-Some-next.second (sym c.least.ensures.value ∙ c.in-Some.is) (sym c.next.ensures.value ∙ c.in-Some-next.is)

pub returns-in_default-clause-step : goal.returns-in_default-clause-step
returns-in_default-clause-step c = sym (stepped (groups c.args.counts.now c.args.members.now) None (none c))

pub returns-in_default-clause-two : goal.returns-in_default-clause-two
returns-in_default-clause-two c = sym (ap is_some (none c))

pub returns-in_default-next-clause-step : goal.returns-in_default-next-clause-step
returns-in_default-next-clause-step c = ap (λ x. groups x c.args.members.now) c.next.ensures.same ∙ sym (stepped (groups c.args.counts.now c.args.members.now) None (one c))

pub returns-in_default-next-clause-two : goal.returns-in_default-next-clause-two
returns-in_default-next-clause-two c = sym (ap is_some (one c))

pub returns-clause-step : goal.returns-clause-step
returns-clause-step c =
    c.join.ensures ∙ ap (λ x. joined (groups x c.args.members.now) c.in-Some.first c.in-Some-next.second) c.next.ensures.same
    ∙ sym (stepped (groups c.args.counts.now c.args.members.now) (Some (c.in-Some.first, c.in-Some-next.second)) (two c))

pub returns-clause-two : goal.returns-clause-two
returns-clause-two c = sym (ap is_some (two c))
