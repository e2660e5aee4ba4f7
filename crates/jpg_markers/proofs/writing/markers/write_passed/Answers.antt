use Rattle.std.proofs.Common.{ℕ, List, [], ◌∷◌, ap}
use Rattle.std.specs.Prelude.{filter}
use Rattle.std.proofs.lemmas.Result.{err_from_is_err_and}
use Rattle.jpg_spec_write.specs.FileText.{kept_text}
use Rattle.jpg_markers.specs.Kept.{kept_pair}
use Rattle.jpg_markers.specs.Passed.{is_passed}
use Rattle.jpg_huff.specs.BitOut.{Sends}
use Rattle.jpg_huff.proofs.InParts.{of_bytes, part_start, part_then, part_end, part_fault}
use Rattle.jpg_huff.proofs.Together.{can_after, sends_nothing}
use Rattle.jpg_markers.proofs.HeadText.{passed_step}
use Rattle.jpg_markers.proofs.writing.markers.write_passed.Goals as goal

pub loop-member-init : goal.loop-member-init
loop-member-init g c =
    let text : List (ℕ × List ℕ) → List ℕ = λ ss. kept_text (filter (is_passed c.args.copying c.args.colour) ss) in
    record {
      can = c.requires;
      part = part_start Sends (g.D.Desk.state c.args.desk.now) c.args.out.now (text c.args.kept.now) (text c.markers-rest.result) (sends_nothing (g.D.Desk.state c.args.desk.now) c.args.out.now c.requires.none) (ap text c.markers-rest.ensures);
    }

pub loop-member-preserved : goal.loop-member-preserved
loop-member-preserved g c =
    let state = g.D.Desk.state in
    let p = is_passed c.args.copying c.args.colour in
    let s = kept_pair c.in-Some.member in
    record {
      can = can_after (state c.loop-member.desk) (state c.write_member.new.desk) c.loop-member.out c.write_member.new.out (kept_text (filter p (s ∷ []))) c.loop-member.invariant.can c.in_ok-write_member.ensures;
      part = part_then Sends of_bytes (state c.args.desk.now) (state c.loop-member.desk) (state c.write_member.new.desk) c.args.out.now c.loop-member.out c.write_member.new.out (kept_text (filter p c.args.kept.now)) (kept_text (filter p c.loop-member.rest))
          (kept_text (filter p (s ∷ []))) (kept_text (filter p c.next.new.self)) (passed_step p c.loop-member.rest c.next.new.self s c.in-Some.ensures.next) c.loop-member.invariant.part c.in_ok-write_member.ensures;
    }

pub returns : goal.returns
returns g c =
    let state = g.D.Desk.state in
    let p = is_passed c.args.copying c.args.colour in
    part_end Sends (state c.args.desk.now) (state c.loop-member.desk) c.args.out.now c.loop-member.out (kept_text (filter p c.args.kept.now)) (kept_text (filter p c.loop-member.rest)) (ap (λ (ss : List (ℕ × List ℕ)). kept_text (filter p ss)) c.in_default.ensures.end) c.loop-member.invariant.part

pub returns-in_err-write_member : goal.returns-in_err-write_member
returns-in_err-write_member g c =
    let state = g.D.Desk.state in
    let p = is_passed c.args.copying c.args.colour in
    let s = kept_pair c.in-Some.member in
    let back = err_from_is_err_and c.from_residual.result c.from_residual.ensures.1 in
    rw (back.1, back.2) (part_fault Sends of_bytes (state c.args.desk.now) (state c.loop-member.desk) (state c.write_member.new.desk) c.args.out.now c.loop-member.out c.write_member.new.out (kept_text (filter p c.args.kept.now)) (kept_text (filter p c.loop-member.rest))
    (kept_text (filter p (s ∷ []))) (kept_text (filter p c.next.new.self)) c.in_err-write_member.field-0.0 (passed_step p c.loop-member.rest c.next.new.self s c.in-Some.ensures.next) c.loop-member.invariant.part c.in_err-write_member.ensures)
