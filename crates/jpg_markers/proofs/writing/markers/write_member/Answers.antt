use Rattle.std.proofs.Common.{sym, ◌∙◌}
use Rattle.jpg_markers.specs.Kept.{kept_pair}
use Rattle.jpg_markers.specs.Passed.{is_passed}
use Rattle.jpg_huff.proofs.Together.{sends_same, sends_nothing}
use Rattle.jpg_markers.proofs.HeadText.{not_passed}
use Rattle.jpg_markers.proofs.writing.markers.write_member.Goals as goal

pub returns-else-is_passed : goal.returns-else-is_passed
returns-else-is_passed g c =
    let state = g.D.Desk.state in
    sends_same (state c.args.desk.now) (state c.args.desk.now) c.args.out.now c.args.out.now _ _ _
    (not_passed (is_passed c.args.copying c.args.colour) (kept_pair c.args.member.now) (sym c.is_passed.ensures ∙ c.if-is_passed.false)) (sends_nothing (state c.args.desk.now) c.args.out.now c.requires.can.none)
