use Rattle.std.proofs.Common.{◌≡◌, ◌+◌, ◌*◌, length, sym, ap, ◌∙◌}
use Rattle.std.proofs.lemmas.List.{append-nil}
use Rattle.jpg_spec_image.specs.ImageText.{row_bytes}
use Rattle.jpg_pnm_bmp.specs.EndState.{info_given}
use Rattle.jpg_pnm_bmp.proofs.BmpParts.{state_of, row_held}
use Rattle.jpg_pnm_bmp.proofs.write.bmp.BmpEndImageEnd.row.Goals as goal

pub returns-in-Ok : goal.returns-in-Ok
returns-in-Ok c =
    let b = c.args.self.now in
    let whole : length b.rows.items ≡ b.taken * row_bytes (info_given b.info) = sym b.rows.ok.0 ∙ b.whole in (
      ap (state_of b.info (b.taken + 1) b.parts) c.in-Ok.ensures.items ∙ row_held b.info b.taken b.parts b.rows.items c.args.row.now whole c.requires.long c.requires.unfinished,
      sym (append-nil c.args.out.now),
    )
