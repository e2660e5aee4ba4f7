use Rattle.std.proofs.Common.{◌≡◌, ◌+◌, ◌<◌, length, sym, ◌∙◌, arith, rules}
use Rattle.std.specs.Prelude.{slice_index}
use Rattle.jpg_fit.proofs.Splits.{at_most, split_next, split_end, split_written, positive}
use Rattle.jpg_fit.proofs.adjust.split.Goals as goal
use Rattle.jpg_fit.proofs.adjust.split.Goals.{then-loop-i-test+else-counts-i-eq0, else-loop-i-test}

pub loop-i-preserved : goal.loop-i-preserved
loop-i-preserved c =
    let l : length c.args.counts.now ≡ 272 = search rules in
    record {
      past = omega (arith, c.loop-i.invariant.past);
      within = omega (arith, c.loop-i-test.true);
      same = sym (split_next c.loop-i.i c.args.counts.now (omega (arith, l, c.loop-i-test.true)) c.if-counts-i-eq0.true) ∙ c.loop-i.invariant.same;
    }

pub overflow_add-counts : goal.overflow_add-counts
overflow_add-counts c =
    let l : length c.args.counts.now ≡ 272 = search rules in
    let few = at_most c.args.at c.loop-i.i 300 c.args.counts.now c.loop-i.invariant.past (omega (arith, l, c.loop-i.invariant.within)) c.requires.few in
    omega (arith, few)

pub returns-then-i-lt271 : goal.returns-then-i-lt271
returns-then-i-lt271 c =
    let l : length c.args.counts.now ≡ 272 = search rules in
    let some : 0 < slice_index c.args.counts.now (c.loop-i.i + 1) =
    elim c.loop-i-test.branch [
      | then-loop-i-test+else-counts-i-eq0 w ↦ positive (slice_index c.args.counts.now (c.loop-i.i + 1)) w.if-counts-i-eq0.false
      | else-loop-i-test w ↦ (let never : ⊥ = omega (arith, w.loop-i-test.false, c.if-i-lt271.true) in absurd never)
    ] in
    split_written c.loop-i.i c.args.counts.now (omega (arith, l, c.if-i-lt271.true)) some ∙ c.loop-i.invariant.same

pub returns-else-i-lt271 : goal.returns-else-i-lt271
returns-else-i-lt271 c =
    let l : length c.args.counts.now ≡ 272 = search rules in
    sym (split_end c.loop-i.i c.args.counts.now (omega (arith, l, c.loop-i.invariant.within)) (omega (arith, l, c.if-i-lt271.false))) ∙ c.loop-i.invariant.same
