use Rattle.std.proofs.Common.{[], drop, ◌∙◌, arith, rules, w16, w64, to_z-of_z}
use Rattle.std.specs.Int.{trailing_zeros}
use Rattle.std.proofs.lemmas.Result.{err_from_is_err_and}
use Rattle.jpg_seq.specs.ScanWritten.{band_told, spelled}
use Rattle.jpg_seq.proofs.Written.{end_spelled, left_told, left_all, all_left, next_told, none_told}
use Rattle.jpg_huff.specs.BitOut.{Puts, holding}
use Rattle.jpg_huff.proofs.InParts.{of_bits, part_start, part_then, part_end, part_fault}
use Rattle.jpg_huff.proofs.Together.{puts_nothing}
use Rattle.jpg_seq.proofs.Takings.{last_after}
use Rattle.jpg_seq.proofs.write.put_band.Goals as goal

pub loop-rest-init : goal.loop-rest-init
loop-rest-init g c =
    let tell = spelled c.args.codes.ac.now in
    let band = drop 1 c.args.block.now in
    let s = g.D.Desk.state c.args.desk.now in
    let start = holding c.args.out.now c.args.before in
    record {
      created = c.requires.created;
      part = part_start Puts s start (band_told tell band) (left_told tell band) (puts_nothing s start) (left_all tell band);
      none = c.requires.none;
      left = all_left c.args.block.now c.nonzero.result c.long.ensures (search rules) c.nonzero.ensures;
    }

pub overflow_sub-value : goal.overflow_sub-value
overflow_sub-value g c = (next_told (spelled c.args.codes.ac.now) c.loop-rest.invariant.left (omega (arith, c.loop-rest-test.true))).0

pub loop-rest-smaller : goal.loop-rest-smaller
loop-rest-smaller g c = (let n = next_told (spelled c.args.codes.ac.now) c.loop-rest.invariant.left (omega (arith, c.loop-rest-test.true)) in omega (arith, n.0, n.1))

pub put_run-requires-clause-short : goal.put_run-requires-clause-short
put_run-requires-clause-short g c =
    let n = next_told (spelled c.args.codes.ac.now) c.loop-rest.invariant.left (omega (arith, c.loop-rest-test.true)) in
    rw (to_z-of_z {w = w16} {z = c.get.result} (search rules), c.get.ensures.value) (c.requires.short (trailing_zeros w64 c.loop-rest.rest) (omega (arith, n.0, c.loop-rest.invariant.left.some)) n.1)

pub returns-in_err-held-clause-puts : goal.returns-in_err-held-clause-puts
returns-in_err-held-clause-puts g c =
    let n = next_told (spelled c.args.codes.ac.now) c.loop-rest.invariant.left (omega (arith, c.loop-rest-test.true)) in
    let back = err_from_is_err_and c.from_residual.result c.from_residual.ensures.1 in
    rw (back.1, back.2) (part_fault Puts of_bits _ _ _ _ _ (holding c.put_run.new.out []) _ _ _ _ c.in_err-held.field-0.0 n.2 c.loop-rest.invariant.part (rw (to_z-of_z {w = w16} {z = c.get.result} (search rules), c.get.ensures.value) at c.in_err-held.ensures.puts))

pub loop-rest-preserved : goal.loop-rest-preserved
loop-rest-preserved g c =
    let n = next_told (spelled c.args.codes.ac.now) c.loop-rest.invariant.left (omega (arith, c.loop-rest-test.true)) in
    record {
      created = c.in_ok-held.ensures.puts.kept.output_created ∙ c.loop-rest.invariant.created;
      part = part_then Puts of_bits _ _ _ _ _ (holding c.put_run.new.out c.in_ok-held.held) _ _ _ _ n.2 c.loop-rest.invariant.part (rw (to_z-of_z {w = w16} {z = c.get.result} (search rules), c.get.ensures.value) at c.in_ok-held.ensures.puts);
      none = c.in_ok-held.ensures.none;
      left = n.3;
    }

pub returns-then-next-lt64-clause-puts : goal.returns-then-next-lt64-clause-puts
returns-then-next-lt64-clause-puts g c =
    let none = none_told (spelled c.args.codes.ac.now) c.loop-rest.invariant.left (omega (arith, c.loop-rest-test.false)) in
    last_after _ _ _ c.args.out.now c.loop-rest.out c.put_code_after.new.out c.args.before c.loop-rest.held _ _ _ c.put_code_after.result (none.0 (omega (arith, c.if-next-lt64.true)) ∙ end_spelled c.args.codes.ac.now) c.loop-rest.invariant.part c.put_code_after.ensures.puts

pub returns-else-next-lt64-clause-puts : goal.returns-else-next-lt64-clause-puts
returns-else-next-lt64-clause-puts g c =
    let none = none_told (spelled c.args.codes.ac.now) c.loop-rest.invariant.left (omega (arith, c.loop-rest-test.false)) in
    part_end Puts _ _ (holding c.args.out.now c.args.before) (holding c.loop-rest.out c.loop-rest.held) _ _ (none.1 (omega (arith, c.if-next-lt64.false))) c.loop-rest.invariant.part
