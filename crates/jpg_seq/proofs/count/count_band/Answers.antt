use Rattle.std.proofs.Common.{[], drop, ◌∙◌, arith, rules, w16, w64, to_z-of_z}
use Rattle.std.specs.Int.{trailing_zeros}
use Rattle.jpg_huff.proofs.Marks.{but_start, but_then, but_last, notes_nothing}
use Rattle.jpg_seq.specs.ScanWritten.{ac_mark, band_marks}
use Rattle.jpg_seq.proofs.Written.{left_told, left_all, all_left, next_told, none_told, end_marked}
use Rattle.jpg_seq.proofs.count.count_band.Goals as goal

pub loop-rest-init : goal.loop-rest-init
loop-rest-init c =
    let band = drop 1 c.args.block.now in
    record {
      counts = c.requires.counts;
      part = but_start c.args.counts.now (band_marks c.args.slot band) (left_told (ac_mark c.args.slot) band) c.requires.counts (left_all (ac_mark c.args.slot) band);
      left = all_left c.args.block.now c.nonzero.result c.long.ensures (search rules) c.nonzero.ensures;
    }

pub overflow_sub-k : goal.overflow_sub-k
overflow_sub-k c = (next_told (ac_mark c.args.slot) c.loop-rest.invariant.left (omega (arith, c.loop-rest-test.true))).0

pub loop-rest-smaller : goal.loop-rest-smaller
loop-rest-smaller c = (let n = next_told (ac_mark c.args.slot) c.loop-rest.invariant.left (omega (arith, c.loop-rest-test.true)) in omega (arith, n.0, n.1))

pub count_run-requires-clause-few : goal.count_run-requires-clause-few
count_run-requires-clause-few c =
    let n = next_told (ac_mark c.args.slot) c.loop-rest.invariant.left (omega (arith, c.loop-rest-test.true)) in
    rw (to_z-of_z {w = w16} {z = c.get.result} (search rules), c.get.ensures.value) (c.requires.few (trailing_zeros w64 c.loop-rest.rest) (omega (arith, n.0, c.loop-rest.invariant.left.some)) n.1)

pub loop-rest-preserved : goal.loop-rest-preserved
loop-rest-preserved c =
    let n = next_told (ac_mark c.args.slot) c.loop-rest.invariant.left (omega (arith, c.loop-rest-test.true)) in
    record {
      counts = c.count_run.ensures.counts;
      part = but_then _ _ _ _ _ _ _ n.2 c.loop-rest.invariant.part (rw (to_z-of_z {w = w16} {z = c.get.result} (search rules), c.get.ensures.value) at c.count_run.ensures);
      left = n.3;
    }

pub returns-then-next-lt64 : goal.returns-then-next-lt64
returns-then-next-lt64 c =
    let none = none_told (ac_mark c.args.slot) c.loop-rest.invariant.left (omega (arith, c.loop-rest-test.false)) in
    but_last _ _ _ _ _ _ (none.0 (omega (arith, c.if-next-lt64.true)) ∙ end_marked c.args.slot) c.loop-rest.invariant.part c.count_ac.ensures

pub returns-else-next-lt64 : goal.returns-else-next-lt64
returns-else-next-lt64 c =
    let none = none_told (ac_mark c.args.slot) c.loop-rest.invariant.left (omega (arith, c.loop-rest-test.false)) in
    but_last _ _ _ _ _ [] (none.1 (omega (arith, c.if-next-lt64.false))) c.loop-rest.invariant.part (notes_nothing c.loop-rest.counts c.loop-rest.invariant.counts)
