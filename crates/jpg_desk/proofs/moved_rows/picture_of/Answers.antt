use Rattle.std.proofs.Common.{ap, refl, ◌∙◌}
use Rattle.jpg_file.specs.Read.ReadFile.{ReaderState}
use Rattle.jpg_desk.proofs.RowsPicture.{rows_mean, rows_parts}
use Rattle.jpg_desk.proofs.moved_rows.picture_of.Goals as goal

pub invariant_of-result : goal.invariant_of-result
invariant_of-result c =
    let kept = c.take_kept.ensures.kept ∙ ap (λ (r : ReaderState). r.file.items.held.kept) c.deref_mut.ensures.value in
    record { keeps = rows_parts c.requires.has c.in-Kept.is (record { frame = c.copy.ensures; colour = refl; quants = c.copied.ensures ∙ c.as_slice.ensures.value; coefs = c.into_coefs.ensures; kept = kept; jfif = refl }) }

pub returns : goal.returns
returns c = λ from early bytes h.
    (let kept = c.take_kept.ensures.kept ∙ ap (λ (r : ReaderState). r.file.items.held.kept) c.deref_mut.ensures.value in
    rows_mean h c.in-Kept.is (record { frame = c.copy.ensures; colour = refl; quants = c.copied.ensures ∙ c.as_slice.ensures.value; coefs = c.into_coefs.ensures; kept = kept; jfif = refl }))
