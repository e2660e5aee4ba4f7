-- A picture whose MCU rows were put into one: its parts, and what it means; and how rows that began are taken.
use Rattle.std.proofs.Common.{◌≡◌, ℕ, Bool, true, false, cond, List, ◌∷◌, Option, Ok, refl, sym, ap, ◌∙◌, subst}
use Rattle.std.proofs.Math.Path.{fun_ext}
use Rattle.jpg_base.specs.Desk.{DeskState}
use Rattle.jpg_spec.specs.Elements.{IsBlockIn, zeros}
use Rattle.jpg_spec.specs.FileMeaning.{no_blocks}
use Rattle.jpg_spec.specs.Geometry.{Frame, bounds}
use Rattle.jpg_spec.specs.InForce.{frame_of}
use Rattle.jpg_spec.specs.Jfif.{jfif_of}
use Rattle.jpg_spec.specs.Markers.{Segment}
use Rattle.jpg_spec.specs.Meaning.{Meaning, colour_of, real_blocks}
use Rattle.jpg_spec.specs.RowsParsed.{picture_so_far}
use Rattle.jpg_spec.specs.Scan.{Blocks}
use Rattle.jpg_spec.specs.Segments.{QuantTable, standard_limits}
use Rattle.jpg_spec.specs.declared.frame.Colour.{Colour}
use Rattle.jpg_spec.specs.declared.frame.Copying.{Copying}
use Rattle.jpg_spec.specs.declared.jfif.Jfif.{Jfif}
use Rattle.jpg_spec.proofs.Headers.SameNumbers.{is_place}
use Rattle.jpg_spec.proofs.Writing.MovedWritten.{zeros_here}
use Rattle.jpg_spec_move.specs.Moved.{Choice}
use Rattle.jpg_spec_write.specs.WrittenFile.{HasBlocksIn}
use Rattle.jpg_coefs.specs.Picture.{Picture as Coefs, map_of}
use Rattle.jpg_file.specs.Read.File.{keeping_of}
use Rattle.jpg_file.specs.Read.SegmentState.{kept_for}
use Rattle.jpg_file.specs.Read.PictureKept.{ArePictureParts, PictureParts, parts_meaning, IsHeadOfPicture, bare_picture}
use Rattle.jpg_file.specs.Read.PictureRead.{MeansFor}
use Rattle.jpg_file.specs.declared.read.picture.Picture.{Picture}
use Rattle.jpg_file.specs.declared.read.strip_head.StripHead.{StripHead}
use Rattle.jpg_file.proofs.Headers.InForce.{colour_same, jfif_same}
use Rattle.jpg_transform.proofs.MovedFile.{place_real}
use Rattle.jpg_desk.specs.MovedRead.{CanGoOn, EndsMoved, HasAllRows, HasKeptRows, IsKept, IsKeptPicture, IsSomeHead}
use Rattle.jpg_desk.specs.RowsRead.{HasRows}
use Rattle.jpg_desk.specs.RowsTo.{HasAllKept, HaveAll, IsSameGoal}
use Rattle.jpg_desk.specs.declared.moved_rows.MovedInput.TheVariants as input
use Rattle.jpg_desk.specs.declared.row_picture.RowPicture.{RowPicture}
use Rattle.jpg_desk.specs.declared.rows_read.RowsFront.{RowsFront}
use Rattle.jpg_desk.specs.declared.rows_read.RowsRead.{RowsRead}
use Rattle.jpg_desk.specs.declared.rows_to.RowsTo.{RowsTo}
use Rattle.jpg_desk.specs.declared.rows_to.RowsTo.TheVariants as to

-- THE PARTS of a picture: a head, blocks that were all put in, and the markers that are kept
abbrev pub parts_of : StripHead → RowPicture → List Segment → PictureParts
parts_of h k kept = record { frame = h.frame; colour = h.colour; quants = h.quants.items; coefs = k.coefs; kept = kept; jfif = h.jfif }

module _ {h : StripHead} {M : Meaning} {k : RowPicture} (keeping : Copying) {kept : List Segment} (is : IsHeadOfPicture h M) (all : HasAllKept h.frame M.blocks k) (real : real_blocks h.frame M.blocks ≡ M.blocks) (same : kept ≡ (kept_for keeping M).kept) where
  blocks_same : real_blocks h.frame (map_of k.coefs) ≡ real_blocks h.frame M.blocks
  blocks_same = fun_ext (λ i. fun_ext (λ x. fun_ext (λ y. by i x y (is_place h.frame i x y) refl)))
    where
      by : (i x y : ℕ) (b : Bool) → is_place h.frame i x y ≡ b → cond b (map_of k.coefs i x y) (zeros 64) ≡ cond b (M.blocks i x y) (zeros 64)
      by i x y true e = all.same i x y (place_real h.frame i x y e)
      by i x y false e = refl

  -- They mean the picture, with these markers.
  pub parts_mean : parts_meaning (parts_of h k kept) ≡ kept_for keeping M
  parts_mean =
      ap (λ (b : Blocks). (let N : Meaning = record (bare_picture h.frame h.quants.items b) { kept = kept } in N)) (blocks_same ∙ real)
      ∙ ap (λ (l : List Segment). (let N : Meaning = record (bare_picture h.frame h.quants.items M.blocks) { kept = l } in N)) same
      ∙ ap (kept_for keeping) (sym is.same)

  pub are_parts : ArePictureParts (parts_of h k kept)
  are_parts = record {
    frame = is.head.frame;
    tables = is.head.tables;
    quants = is.head.quants;
    grids = all.framed;
    range = all.range;
    colour = is.colour ∙ sym (colour_same keeping M) ∙ ap colour_of (sym parts_mean);
    jfif = is.jfif ∙ sym (jfif_same keeping M.kept) ∙ ap jfif_of (sym same);
  }

-- OF ALL ROWS of a picture: what the parts are made of
pub record ArePartsOf (rows : RowsRead) (k : RowPicture) (p : PictureParts) : Type 0 where
  pub frame : p.frame ≡ ((rows.head).now).frame
  pub colour : p.colour ≡ ((rows.head).now).colour
  pub quants : p.quants ≡ (((rows.head).now).quants).items
  pub coefs : p.coefs ≡ k.coefs
  pub kept : p.kept ≡ ((rows.reader).value).file.items.held.kept
  pub jfif : p.jfif ≡ ((rows.head).now).jfif

module _ {from rows : RowsRead} {early : Option ℕ} {bytes : List ℕ} {k : RowPicture} {p : PictureParts} (h : HasRows from early bytes rows) (there : rows.to ≡ to.Kept k) (are : ArePartsOf rows k p) where
  abbrev M : Meaning
  M = h.meaning

  abbrev keeping : Copying
  keeping = keeping_of ((from.reader).value).file

  head_here : IsHeadOfPicture (rows.head).now M
  head_here = subst (λ (x : StripHead). IsHeadOfPicture x M) (sym h.keeps.head) h.head

  all_here : HasAllKept ((rows.head).now).frame M.blocks k
  all_here = subst (λ (x : StripHead). HasAllKept x.frame M.blocks k) (sym h.keeps.head) (subst (λ (r : RowsTo). HaveAll ((from.head).now).frame M.blocks r) there h.all)

  real_here : real_blocks ((rows.head).now).frame M.blocks ≡ M.blocks
  real_here = ap (λ (x : StripHead). real_blocks x.frame M.blocks) h.keeps.head ∙ h.real

  kept_here : p.kept ≡ (kept_for keeping M).kept
  kept_here = are.kept ∙ h.kept ∙ ap (λ (c : Copying). (kept_for c M).kept) h.keeps.keeps.keeping

  same_parts : p ≡ parts_of (rows.head).now k p.kept
  same_parts =
      ap (λ (x : Frame). (let q : PictureParts = record p { frame = x } in q)) are.frame
      ∙ ap (λ (x : Colour). (let q : PictureParts = record p { frame = ((rows.head).now).frame; colour = x } in q)) are.colour
      ∙ ap (λ (x : List QuantTable). (let q : PictureParts = record p { frame = ((rows.head).now).frame; colour = ((rows.head).now).colour; quants = x } in q)) are.quants
      ∙ ap (λ (x : Coefs). (let q : PictureParts = record (parts_of (rows.head).now k p.kept) { coefs = x; jfif = p.jfif } in q)) are.coefs
      ∙ ap (λ (x : Jfif). (let q : PictureParts = record (parts_of (rows.head).now k p.kept) { jfif = x } in q)) are.jfif

  -- They are those of a picture, and mean it with the markers that were kept.
  pub rows_parts : ArePictureParts p
  rows_parts = subst ArePictureParts (sym same_parts) (are_parts keeping head_here all_here real_here kept_here)

  pub rows_mean : parts_meaning p ≡ kept_for keeping M
  rows_mean = ap parts_meaning same_parts ∙ parts_mean keeping head_here all_here real_here kept_here

-- WHERE ALL ROWS WENT into a picture

kept_goal : (a b : RowsTo) → IsSameGoal a b → IsKept a → IsKept b
kept_goal (to.Moved job scan mover) b same is = absurd is
kept_goal (to.Kept k) (to.Moved job scan mover) same is = absurd same
kept_goal (to.Kept k) (to.Kept l) same is = tt

pub has_kept : {keeping : Copying} {h : StripHead} {k : RowPicture} {start new : DeskState} {rows : RowsRead} {early : Option ℕ} → HasAllRows keeping h (to.Kept k) start rows early new → HasKeptRows rows
has_kept {rows = rows} {early = early} a =
    record { from = a.from; early = early; bytes = a.taken.0; has = a.taken.3; kept = kept_goal a.from.to rows.to a.taken.3.keeps.goal (subst IsKept (sym a.same) tt) }

-- That is what was read.
pub ends_kept : (choice : Choice) {h : StripHead} {goal : RowsTo} {start new : DeskState} {rows : RowsRead} {early : Option ℕ} {p : Picture} → HasAllRows choice.copying h goal start rows early new → IsKeptPicture rows p
    → EndsMoved choice start (Ok (input.Picture p, early)) new
ends_kept choice {early = early} {p = p} a is =
    let has = a.taken.3 in
    (p, refl, ((has.meaning, subst (λ (c : Copying). MeansFor c p has.meaning) a.keeps (is a.from early a.taken.0 has), (a.taken.0, a.taken.1, a.taken.2, has.read)), a.all))

-- A PICTURE with the head at which rows began: that of zeros
none_in : (f g : Frame) → HasBlocksIn f (real_blocks g no_blocks)
none_in f g i x y real = by (is_place g i x y)
  where
    by : (b : Bool) → IsBlockIn (bounds f) (cond b (zeros 64) (zeros 64))
    by true = zeros_here f
    by false = zeros_here f

pub some_head : {keeping : Copying} {h : StripHead} {front : RowsFront} {now : DeskState} → CanGoOn keeping h front now → IsSomeHead h
some_head {h = h} (start, b) = record {
  meaning = picture_so_far standard_limits (b.head).before (b.head).contents no_blocks;
  is = b.told.1 no_blocks;
  range = none_in h.frame (frame_of standard_limits ((0xda, (b.head).contents) ∷ (b.head).before));
}
