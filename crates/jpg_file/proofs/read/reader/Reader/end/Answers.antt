use Rattle.std.proofs.Common.{rules, ◌∙◌, sym, ap, subst}
use Rattle.jpg_base.specs.declared.stop.Stop.{Stop}
use Rattle.jpg_file.specs.Read.ReadFile.{HasRead, ReaderState, StopsAt, HasReadAll}
use Rattle.jpg_file.proofs.Files.Leaving.{ends_early}
use Rattle.jpg_file.proofs.Files.FileSteps.{counted}
use Rattle.jpg_file.proofs.ByRow.RowsAnswered.{early_answered, keeps_early, all_taken, all_truncated, truncated}
use Rattle.jpg_file.proofs.read.reader.Reader.end.Goals as goal
use Rattle.jpg_file.specs.Read.File.{limits_of}

pub invariant_of-self : goal.invariant_of-self
invariant_of-self c =
    keeps_early _ c.is_complete.result (ap (λ (r : ReaderState). r.done) c.self.view_is ∙ c.requires) (search rules) c.self.invariant c.is_complete.ensures c.if-is_complete.true

pub returns-then-is_complete-clause-answered : goal.returns-then-is_complete-clause-answered
returns-then-is_complete-clause-answered c = λ bytes h.
    let k = subst (λ (r : ReaderState). HasRead bytes r) (sym c.self.view_is) h in
    (counted (limits_of c.self.inside.work) bytes c.self.inside.work k.open, ends_early _ bytes c.is_complete.result k c.is_complete.ensures c.if-is_complete.true)

pub returns-then-is_complete-clause-rows_answered : goal.returns-then-is_complete-clause-rows_answered
returns-then-is_complete-clause-rows_answered c = λ bytes m h.
    let k = subst (λ (r : ReaderState). HasReadAll bytes m r) (sym c.self.view_is) h in
    (all_taken bytes m _ k, early_answered bytes m _ c.is_complete.result c.self.invariant.limited k c.is_complete.ensures c.if-is_complete.true)

pub returns-clause-answered : goal.returns-clause-answered
returns-clause-answered c = λ bytes h.
    let k = subst (λ (r : ReaderState). HasRead bytes r) (sym c.self.view_is) h in
    subst (λ (s : Stop). StopsAt (limits_of c.self.inside.work) bytes s) (sym c.truncated-stop.ensures) (truncated (limits_of c.self.inside.work) bytes c.self.inside.work c.is_complete.result k.open k.short c.is_complete.ensures c.if-is_complete.false)

pub returns-clause-rows_answered : goal.returns-clause-rows_answered
returns-clause-rows_answered c = λ bytes m h.
    let k = subst (λ (r : ReaderState). HasReadAll bytes m r) (sym c.self.view_is) h in
    subst (λ (s : Stop). StopsAt (limits_of c.self.inside.work) bytes s) (sym c.truncated-stop.ensures) (all_truncated bytes m _ c.is_complete.result k c.is_complete.ensures c.if-is_complete.false)
