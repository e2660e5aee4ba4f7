use Rattle.jpg_desk.proofs.Judged.{refused_alone, refused_for_one}
use Rattle.jpg_cli.proofs.Outcomes.OneRefusal.{none_refused, none_refused_shown, runs_refuse_once, runs_show_once}
use Rattle.jpg_cli.proofs.laws.refusals_are_one.Goals as goal

pub returns-clause-one : goal.returns-clause-one
returns-clause-one c = λ wanted input f g a b. refused_for_one wanted input f g a b

pub returns-clause-runs : goal.returns-clause-runs
returns-clause-runs c = λ input f g a b. runs_refuse_once input f g a b

pub returns-clause-shows : goal.returns-clause-shows
returns-clause-shows c = λ gray input f g a b. runs_show_once gray input f g a b

pub returns-clause-shown : goal.returns-clause-shown
returns-clause-shown c = λ gray input f refused is. none_refused_shown gray input f refused is

pub returns-clause-none : goal.returns-clause-none
returns-clause-none c = λ input f refused is. none_refused input f (refused_alone input f refused) is
