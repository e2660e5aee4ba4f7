use Rattle.std.proofs.Common.{◌≡◌, ◌<◌, length, sym, ◌∙◌, arith, rules}
use Rattle.std.specs.Prelude.{slice_index}
use Rattle.jpg_fit.proofs.Splits.{less_first, less_next, less_end, less_written, positive}
use Rattle.jpg_fit.proofs.adjust.one_less.Goals as goal
use Rattle.jpg_fit.proofs.adjust.one_less.Goals.{then-loop-i-test+else-counts-i-eq0, else-loop-i-test}

pub loop-i-init : goal.loop-i-init
loop-i-init c = record { within = omega arith; same = less_first c.args.counts.now }

pub loop-i-preserved : goal.loop-i-preserved
loop-i-preserved c =
    let l : length c.args.counts.now ≡ 16 = search rules in
    record {
      within = omega (arith, c.loop-i-test.true);
      same = sym (less_next c.loop-i.i c.args.counts.now (omega (arith, l, c.loop-i-test.true)) c.if-counts-i-eq0.true) ∙ c.loop-i.invariant.same;
    }

pub returns-then-i-lt16 : goal.returns-then-i-lt16
returns-then-i-lt16 c =
    let l : length c.args.counts.now ≡ 16 = search rules in
    let some : 0 < slice_index c.args.counts.now c.loop-i.i =
    elim c.loop-i-test.branch [
      | then-loop-i-test+else-counts-i-eq0 w ↦ positive (slice_index c.args.counts.now c.loop-i.i) w.if-counts-i-eq0.false
      | else-loop-i-test w ↦ (let never : ⊥ = omega (arith, w.loop-i-test.false, c.if-i-lt16.true) in absurd never)
    ] in
    less_written c.loop-i.i c.args.counts.now (omega (arith, l, c.if-i-lt16.true)) some ∙ c.loop-i.invariant.same

pub returns-else-i-lt16 : goal.returns-else-i-lt16
returns-else-i-lt16 c =
    let l : length c.args.counts.now ≡ 16 = search rules in
    sym (less_end c.loop-i.i c.args.counts.now (omega (arith, l, c.if-i-lt16.false))) ∙ c.loop-i.invariant.same
