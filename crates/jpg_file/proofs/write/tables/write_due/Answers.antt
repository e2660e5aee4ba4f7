use Rattle.std.proofs.Common.{◌+◌, drop, refl, sym, ap, ◌∙◌}
use Rattle.std.proofs.lemmas.Result.{err_from_is_err_and}
use Rattle.jpg_spec_write.specs.FileText.{tables_given, tables_text}
use Rattle.jpg_huff.specs.BitOut.{Sends}
use Rattle.jpg_huff.proofs.InParts.{of_bytes, part_start, part_same, part_then, part_fault}
use Rattle.jpg_huff.proofs.Together.{can_after, sends_nothing}
use Rattle.jpg_prog_write.specs.Written.{tables_in}
use Rattle.jpg_file.specs.Write.WriteScan.{given_by}
use Rattle.jpg_file.proofs.Writing.ScansDue.{left_due, left_given}
use Rattle.jpg_file.proofs.write.tables.write_due.Goals as goal

pub loop-place-init : goal.loop-place-init
loop-place-init g c =
    let s = g.D.Desk.state c.args.desk.now in
    let all = tables_text (given_by c.args.given.now) (tables_in c.args.tables.now) c.args.needed.now in
    record {
      can = c.requires.can;
      part = part_start Sends s c.args.out.now all all (sends_nothing s c.args.out.now c.requires.can.none) refl;
      given = refl;
    }

pub returns-in_err-write_table-clause-sends : goal.returns-in_err-write_table-clause-sends
returns-in_err-write_table-clause-sends g c =
    let back = err_from_is_err_and c.from_residual.result c.from_residual.ensures.1 in
    rw (back.1, back.2) (part_fault Sends of_bytes _ _ _ _ _ _ _ _ _ _ c.in_err-write_table.field-0.0
    (left_due (given_by c.loop-place.given) (tables_in c.args.tables.now) c.args.needed.now c.loop-place.place-index _ c.loop-place-test.true) c.loop-place.invariant.part c.in_err-write_table.ensures.sends)

pub loop-place-preserved : goal.loop-place-preserved
loop-place-preserved g c =
    let needed = c.args.needed.now in
    let i = c.loop-place.place-index in
    let given = given_by c.loop-place.given in
    let due = tables_in c.args.tables.now in
    let rest = drop (i + 1) needed in
    let now = c.in_ok-write_table.ensures.given in
    record {
      can = can_after _ _ _ _ _ c.loop-place.invariant.can c.in_ok-write_table.ensures.sends;
      part = part_same Sends _ _ _ _ _ _ _ (ap (λ g. tables_text g due rest) (sym now)) (part_then Sends of_bytes _ _ _ _ _ _ _ _ _ _
          (left_due given due needed i _ c.loop-place-test.true) c.loop-place.invariant.part c.in_ok-write_table.ensures.sends);
      given = ap (λ g. tables_given g due rest) now ∙ sym (left_given given due needed i _ c.loop-place-test.true) ∙ c.loop-place.invariant.given;
    }
