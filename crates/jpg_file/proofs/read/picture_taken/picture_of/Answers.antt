use Rattle.std.proofs.Common.{◌<◌, ◌≤◌, ◌∙◌, length, ap, sym, subst}
use Rattle.jpg_spec.specs.Jfif.{jfif_of}
use Rattle.jpg_spec.specs.Geometry.{Frame}
use Rattle.jpg_file.specs.Read.PictureKept.{PictureParts}
use Rattle.jpg_file.proofs.Headers.InForce.{IsLeft, colour_is, left_framed, left_grids, left_jfif, left_means, left_quants, left_range, table_left}
use Rattle.jpg_file.proofs.read.picture_taken.picture_of.Goals as goal

pub tables_of-quants-requires : goal.tables_of-quants-requires
tables_of-quants-requires c = λ i low.
    let o = c.requires in
    let same = left_framed o.0 o.1.0 o.1.1 c.args.file.now o.1.2 c.in-Some.frame (sym c.take.ensures.value ∙ c.in-Some.is) in
    table_left o.0 o.1.0 o.1.1 c.args.file.now o.1.2 i (subst (λ (g : Frame). length g.components ≤ 4) (sym same) c.checked.ensures.count_high) (subst (λ (g : Frame). i < length g.components) (sym same) low)

pub returns-clause-reveals : goal.returns-clause-reveals
returns-clause-reveals c = λ limits segments blocks e.
    let p : PictureParts = record {
      frame = c.in-Some.frame;
      colour = c.colours-colour.result;
      quants = c.tables_of-quants.result.items;
      coefs = c.in-All.coefs;
      kept = c.replace-kept.result;
      jfif = c.args.file.now.items.held.jfif;
    } in
    let l : IsLeft c.args.file.now p = record { frame = sym c.take.ensures.value ∙ c.in-Some.is; coefs = sym c.replace.ensures.value ∙ c.in-All.is; kept = c.replace-kept.ensures.value; few = c.checked.ensures.count_high; tables = c.tables_of-quants.ensures.tables } in
    left_means limits segments blocks c.args.file.now e p l

pub invariant_of-result : goal.invariant_of-result
invariant_of-result c =
    let o = c.requires in
    let p : PictureParts = record {
      frame = c.in-Some.frame;
      colour = c.colours-colour.result;
      quants = c.tables_of-quants.result.items;
      coefs = c.in-All.coefs;
      kept = c.replace-kept.result;
      jfif = c.args.file.now.items.held.jfif;
    } in
    let l : IsLeft c.args.file.now p = record { frame = sym c.take.ensures.value ∙ c.in-Some.is; coefs = sym c.replace.ensures.value ∙ c.in-All.is; kept = c.replace-kept.ensures.value; few = c.checked.ensures.count_high; tables = c.tables_of-quants.ensures.tables } in
    let jfif = left_jfif o.0 o.1.0 o.1.1 c.args.file.now o.1.2 ∙ ap jfif_of (sym c.replace-kept.ensures.value) in
    record {
      keeps = record {
        frame = c.checked.ensures;
        tables = c.tables_of-quants.ensures.count;
        quants = λ i low. left_quants o.0 o.1.0 o.1.1 c.args.file.now o.1.2 p i l low;
        grids = left_grids o.0 o.1.0 o.1.1 c.args.file.now o.1.2 p l;
        range = left_range o.0 o.1.0 o.1.1 c.args.file.now o.1.2 p l;
        colour = c.colours-colour.ensures ∙ colour_is p (sym jfif);
        jfif = jfif;
      };
    }
