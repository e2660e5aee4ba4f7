use Rattle.std.proofs.Common.{◌∙◌, ap, arith, ◌≡◌}
use Rattle.jpg_spec.specs.Lists.{all_of, below}
use Rattle.jpg_scans.specs.Progress.{begun_at}
use Rattle.jpg_scans.proofs.Histories.{complete_is}
use Rattle.jpg_scans.proofs.progress.Progress.is_complete.Goals as goal

pub returns : goal.returns
returns c = λ f heads s.
    let end : c.loop-i.i ≡ c.args.self.now.count = omega (arith, c.loop-i.auto.i-end, c.loop-i-test.false) in
    c.loop-i.invariant ∙ ap (λ n. all_of (begun_at c.args.self.now) (below n)) end ∙ complete_is c.args.self.now f heads s c.args.self.now.few
