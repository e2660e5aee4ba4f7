use Rattle.std.proofs.Common.{◌≡◌, ◌+◌, ◌∙◌, ℕ, arith, drop, subst, ap}
use Rattle.jpg_file.specs.Read.Passing.{HasNoneToPass}
use Rattle.jpg_file.proofs.Files.FileSteps.{goes_segment, none_in_rest}
use Rattle.jpg_file.proofs.read.file.FileState.segments.Goals as goal

pub returns-then-n-eq0-clause-after : goal.returns-then-n-eq0-clause-after
returns-then-n-eq0-clause-after c =
    goes_segment c.args.self.now c.loop-done.self c.whole-n.new.self c.args.bytes.now c.loop-done.done c.whole-n.result c.requires c.loop-done.invariant.0 c.whole-n.ensures.after

pub returns-then-n-eq0-clause-none : goal.returns-then-n-eq0-clause-none
returns-then-n-eq0-clause-none c =
    let same : c.loop-done.done ≡ c.loop-done.done + c.whole-n.result = omega (arith, c.if-n-eq0.true) in
    subst (λ (k : ℕ). HasNoneToPass c.whole-n.new.self (drop k c.args.bytes.now)) same (none_in_rest c.whole-n.new.self c.args.bytes.now c.loop-done.done (c.whole-n.ensures.none c.if-n-eq0.true))

pub loop-done-preserved : goal.loop-done-preserved
loop-done-preserved c = (
  goes_segment c.args.self.now c.loop-done.self c.whole-n.new.self c.args.bytes.now c.loop-done.done c.whole-n.result c.requires c.loop-done.invariant.0 c.whole-n.ensures.after,
  λ sparing. (let s = c.loop-done.invariant.1 sparing in record { keeping = ap (λ s. s.0) c.whole-n.ensures.keeps.keeping ∙ s.keeping; scanned = c.whole-n.ensures.keeps.scanned ∙ s.scanned; room = c.whole-n.ensures.keeps.room s.room }),
  c.whole-n.ensures.keeps.keeping ∙ c.loop-done.invariant.2,
)
