use Rattle.std.proofs.Common.{◌+◌, ◌*◌, ◌++◌, refl, sym, ap, ◌∙◌, arith, rules, w16, to_z-of_z}
use Rattle.std.proofs.lemmas.Result.{err_from_is_err_and}
use Rattle.jpg_spec.specs.Numbers.{category, extra_bits}
use Rattle.jpg_spec.specs.Codes.{code_of}
use Rattle.jpg_seq.specs.ScanWritten.{run_bits}
use Rattle.jpg_seq.proofs.Written.{run_spelled, value_spelled}
use Rattle.jpg_huff.specs.BitOut.{Puts}
use Rattle.jpg_huff.proofs.InParts.{of_bits, part_start, part_then, part_last, part_fault}
use Rattle.jpg_huff.proofs.Together.{puts_nothing}
use Rattle.jpg_seq.proofs.write.put_any_run.Goals as goal

pub loop-left-init : goal.loop-left-init
loop-left-init g c =
    let all = run_bits c.args.ac.now c.args.next.run c.args.next.value in
    let s = g.D.Desk.state c.args.desk.now in
    record { created = c.requires.created; part = part_start Puts s c.args.out.now all all (puts_nothing s c.args.out.now) refl }

pub loop-left-preserved : goal.loop-left-preserved
loop-left-preserved g c =
    let spelled = run_spelled c.args.ac.now c.loop-left.left c.args.next.value c.loop-left-test.true in
    record {
      created = c.in_ok-put_code.ensures.kept.output_created ∙ c.loop-left.invariant.created;
      part = part_then Puts of_bits _ _ _ _ _ _ _ _ _ _ spelled c.loop-left.invariant.part c.in_ok-put_code.ensures;
    }

pub returns-in_err-put_code : goal.returns-in_err-put_code
returns-in_err-put_code g c =
    let spelled = run_spelled c.args.ac.now c.loop-left.left c.args.next.value c.loop-left-test.true in
    let back = err_from_is_err_and c.from_residual.result c.from_residual.ensures.1 in
    rw (back.1, back.2) (part_fault Puts of_bits _ _ _ _ _ _ _ _ _ _ _ spelled c.loop-left.invariant.part c.in_err-put_code.ensures)

pub returns : goal.returns
returns g c =
    let codes = c.args.ac.now in
    let v = c.args.next.value in
    let left = c.loop-left.left in
    let e = value_spelled codes left v (omega (arith, c.loop-left-test.false)) ∙ ap (λ x. code_of codes (16 * left + category x) ++ extra_bits x) (sym (to_z-of_z {w = w16} {z = v} (search rules))) ∙ sym c.any_value-bits.ensures.bits in
    part_last Puts of_bits _ _ _ _ _ _ _ _ _ _ e c.loop-left.invariant.part c.put.ensures
