use Rattle.std.proofs.Common.{ap, refl, ◌∙◌}
use Rattle.jpg_file.specs.Read.ReadFile.{ReaderState}
use Rattle.jpg_desk.proofs.RowsData.{file_moved}
use Rattle.jpg_desk.proofs.moved_rows.move_rows.Goals as goal

pub take_kept-requires : goal.take_kept-requires
take_kept-requires g c =
    let r = c.requires.job in
    ap (λ (s : ReaderState). s.done) c.deref_mut.ensures.value ∙ (c.in-Ok.ensures (r.0).copying r.2.0 r.2.1).1.done

pub returns-in-Err-new : goal.returns-in-Err-new
returns-in-Err-new g c = λ choice is start begun.
    (let r = c.in-Ok.ensures choice.copying start begun in (r.0, r.1.short))

pub returns-in-Ok-new : goal.returns-in-Ok-new
returns-in-Ok-new g c = λ choice is start begun.
    (let r = c.in-Ok.ensures choice.copying start begun in
    (r.0, file_moved is r.1 _ c.in-Ok-new.ensures.ok (c.take_kept.ensures.kept ∙ ap (λ (s : ReaderState). s.file.items.held.kept) c.deref_mut.ensures.value) refl refl))
