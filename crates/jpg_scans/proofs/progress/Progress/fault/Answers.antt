use Rattle.std.proofs.Common.{◌∙◌, sym, ap, cond, not, Some, None}
use Rattle.jpg_spec.specs.declared.fault.Fault.TheVariants.{RepeatedScan, Progression}
use Rattle.jpg_scans.proofs.Histories.{sequential_fault, progressive_fault}
use Rattle.jpg_scans.proofs.progress.Progress.fault.Goals as goal

pub returns-then-are_next : goal.returns-then-are_next
returns-then-are_next c = λ f heads s.
    sym (progressive_fault c.args.self.now f heads c.args.head.now s c.requires c.if-self.true ∙ ap (λ t. cond (not t) (Some Progression) None) (sym c.are_next.ensures ∙ c.if-are_next.true))

pub returns-else-are_next : goal.returns-else-are_next
returns-else-are_next c = λ f heads s.
    sym (progressive_fault c.args.self.now f heads c.args.head.now s c.requires c.if-self.true ∙ ap (λ t. cond (not t) (Some Progression) None) (sym c.are_next.ensures ∙ c.if-are_next.false))

pub returns-then-has_any : goal.returns-then-has_any
returns-then-has_any c = λ f heads s.
    sym (sequential_fault c.args.self.now f heads c.args.head.now s c.requires c.if-self.false ∙ ap (λ t. cond t (Some RepeatedScan) None) (sym c.has_any.ensures ∙ c.if-has_any.true))

pub returns-else-has_any : goal.returns-else-has_any
returns-else-has_any c = λ f heads s.
    sym (sequential_fault c.args.self.now f heads c.args.head.now s c.requires c.if-self.false ∙ ap (λ t. cond t (Some RepeatedScan) None) (sym c.has_any.ensures ∙ c.if-has_any.false))
