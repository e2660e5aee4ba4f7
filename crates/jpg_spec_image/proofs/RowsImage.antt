-- THE LAW: the text of all MCU rows of a complete file is that of its image, if the image is sent row by row.
use Rattle.std.proofs.Common.{◌≡◌, ℕ, Bool, true, false, cond, ◌*◌, ◌-◌, List, [], ◌∷◌, ◌++◌, length, take, map, refl, sym, ap, ◌∙◌, arith}
use Rattle.std.specs.Prelude.{codes, flat_map, replicate, reverse}
use Rattle.std.specs.Fmt.{decimal}
use Rattle.std.proofs.Math.Seq.{take_all}
use Rattle.std.proofs.lemmas.List.{append-nil, length-map}
use Rattle.jpg_spec.specs.Lists.{any_of, below}
use Rattle.jpg_spec.specs.Scan.{Blocks}
use Rattle.jpg_spec.specs.Meaning.{Meaning, colour_of}
use Rattle.jpg_spec.specs.Items.{Item, segments_of}
use Rattle.jpg_spec.specs.Jfif.{jfif_of}
use Rattle.jpg_spec.specs.Markers.{Segment, kept_after}
use Rattle.jpg_spec.specs.InForce.{colours_after}
use Rattle.jpg_spec_image.specs.Upsampling.{has_far_rows}
use Rattle.jpg_spec_image.specs.Pixels.{info, metre, pixel_row, pixels, shown_row, shows_gray, stretch_of}
use Rattle.jpg_spec_image.specs.ImageText.{depth, end_text, file_samples, first_piece, pnm_header, pnm_letter, row_piece, short, targa_header, targa_type}
use Rattle.jpg_spec_image.specs.Strips.{lines, mcu_rows, needed}
use Rattle.jpg_spec.specs.RowsParsed.{CompletesRows}
use Rattle.jpg_spec_image.specs.RowsShown.{ready_rows, rows_text}
use Rattle.jpg_spec_image.specs.RowLaws.{CompletesAll, all_rows_text, is_by_rows, so_far_in, text_in}
use Rattle.jpg_spec.specs.RowLaws.{IsReadByRows, read_so_far}
use Rattle.jpg_spec.specs.declared.frame.Colour.{Colour}
use Rattle.jpg_spec.specs.declared.frame.Limits.{Limits}
use Rattle.jpg_spec_image.specs.declared.image.EndKind.{EndKind}
use Rattle.jpg_spec_image.specs.declared.image.EndKind.TheVariants.{Bmp, Pnm, Targa}
use Rattle.jpg_spec_image.specs.declared.image.ImageInfo.{ImageInfo}
use Rattle.jpg_spec_image.specs.declared.image.ImageKind.TheVariants as samples
use Rattle.jpg_spec.specs.declared.jfif.Jfif.{Jfif}
use Rattle.jpg_spec.proofs.Headers.ColoursKept.{picture_colours, same_colours_after, same_jfif_after}
use Rattle.jpg_spec.proofs.Basics.Common.{length_below, same_itself}
use Rattle.jpg_spec.proofs.Headers.FileHeader.{file_header}
use Rattle.jpg_spec_image.proofs.RowsAlike.{colours_stay}
use Rattle.jpg_spec_image.proofs.RowsCompleted.{complete_all, file_scan}
use Rattle.jpg_spec.proofs.McuRows.RowsOnce.{completed_once}

-- the header of an image has its size and its kind
record IsSameSize (a b : ImageInfo) : Type 0 where
  pub width : a.width ≡ b.width
  pub height : a.height ≡ b.height
  pub kind : a.kind ≡ b.kind

same_header : (a b : ImageInfo) → a.width ≡ b.width → a.height ≡ b.height → a.kind ≡ b.kind → pnm_header a ≡ pnm_header b
unfolding pnm_header
same_header a b w h k =
    ap (λ x. pnm_letter x ++ 10 ∷ decimal a.width ++ codes " " ++ decimal a.height ++ 10 ∷ codes "255" ++ 10 ∷ []) k
    ∙ ap (λ x. pnm_letter b.kind ++ 10 ∷ decimal x ++ codes " " ++ decimal a.height ++ 10 ∷ codes "255" ++ 10 ∷ []) w
    ∙ ap (λ x. pnm_letter b.kind ++ 10 ∷ decimal b.width ++ codes " " ++ decimal x ++ 10 ∷ codes "255" ++ 10 ∷ []) h

same_targa : (a b : ImageInfo) → IsSameSize a b → targa_header a ≡ targa_header b
unfolding targa_header
same_targa a b s =
    ap (λ k. (0 ∷ 0 ∷ targa_type k ∷ replicate 9 0) ++ (short a.width ++ short a.height) ++ (depth k ∷ 32 ∷ [])) s.kind
    ∙ ap (λ w. (0 ∷ 0 ∷ targa_type b.kind ∷ replicate 9 0) ++ (short w ++ short a.height) ++ (depth b.kind ∷ 32 ∷ [])) s.width
    ∙ ap (λ h. (0 ∷ 0 ∷ targa_type b.kind ∷ replicate 9 0) ++ (short b.width ++ short h) ++ (depth b.kind ∷ 32 ∷ [])) s.height

-- In a format that is written row by row, the header and all rows are the text.
rows_are_all : (kind : EndKind) (a b : ImageInfo) (rows : List (List ℕ)) → is_by_rows kind ≡ true → IsSameSize a b
    → first_piece kind a ++ flat_map (row_piece kind a) rows ≡ end_text kind b rows
rows_are_all Pnm a b rows e s =
    ap (λ h. h ++ flat_map (λ row. row) rows) (same_header a b s.width s.height s.kind) ∙ sym (append-nil (pnm_header b ++ flat_map (λ row. row) rows))
rows_are_all Bmp a b rows e s = cc
rows_are_all Targa a b rows e s =
    ap (λ h. h ++ flat_map (file_samples a.kind) rows) (same_targa a b s)
    ∙ ap (λ k. targa_header b ++ flat_map (file_samples k) rows) s.kind
    ∙ sym (append-nil (targa_header b ++ flat_map (file_samples b.kind) rows))

-- A PICTURE with other markers, and the same colours
abbrev pub kept_as : Meaning → List (ℕ × List ℕ) → Meaning
kept_as M kept = record M { kept = kept }

-- the header of an image, by the colours and the JFIF header
abbrev info_of : Meaning → Colour → Jfif → Bool → ImageInfo
info_of M colour jfif gray = record { width = M.width; height = M.height; kind = cond (shows_gray colour gray) samples.Gray samples.Rgb; x_metre = metre jfif jfif.x; y_metre = metre jfif jfif.y }

pub same_pixels : (M : Meaning) (kept : List (ℕ × List ℕ)) (gray smooth : Bool) → colour_of (kept_as M kept) ≡ colour_of M → pixels (kept_as M kept) gray smooth ≡ pixels M gray smooth
same_pixels M kept gray smooth e = ap (λ c. map (shown_row c M gray smooth) (below M.height)) e

all_ready : (M : Meaning) (gray smooth : Bool) (rows : ℕ) → rows ≡ mcu_rows M → ready_rows M gray smooth rows ≡ M.height
all_ready M gray smooth rows e =
    ap (λ n. ready_rows M gray smooth n) e
    ∙ ap (λ b. cond b M.height (cond (any_of (λ i. has_far_rows (stretch_of M smooth i)) (below (needed (colour_of M) gray))) (lines M * mcu_rows M - 1) (lines M * mcu_rows M))) (same_itself (mcu_rows M))

all_pixels : (M : Meaning) (gray smooth : Bool) (rows : ℕ) → rows ≡ mcu_rows M → take (ready_rows M gray smooth rows) (pixels M gray smooth) ≡ pixels M gray smooth
all_pixels M gray smooth rows e =
    let l : length (pixels M gray smooth) ≡ M.height = length-map (below M.height) (pixel_row M gray smooth) ∙ length_below M.height in
    ap (λ n. take n (pixels M gray smooth)) (all_ready M gray smooth rows e) ∙ take_all M.height (pixels M gray smooth) (omega (arith, l))

pub same_text : (M : Meaning) (kept : List (ℕ × List ℕ)) (kind : EndKind) (gray smooth : Bool) → is_by_rows kind ≡ true → colour_of (kept_as M kept) ≡ colour_of M
    → rows_text kind (kept_as M kept) gray smooth (mcu_rows M) ≡ text_in kind M gray smooth
same_text M kept kind gray smooth by e =
    let N = kept_as M kept in
    let same : IsSameSize (info N gray) (info M gray) = record { width = refl; height = refl; kind = ap (λ c. cond (shows_gray c gray) samples.Gray samples.Rgb) e } in
    ap (λ rows. first_piece kind (info N gray) ++ flat_map (row_piece kind (info N gray)) rows) (all_pixels N gray smooth (mcu_rows M) refl ∙ same_pixels M kept gray smooth e)
    ∙ rows_are_all kind (info N gray) (info M gray) (pixels M gray smooth) by same

-- THE COLOURS at the first scan header are those of the file
so_far_colours : (limits : Limits) (bytes : List ℕ) (M : Meaning) (w : IsReadByRows limits bytes M) (blocks : Blocks) → colour_of (read_so_far limits bytes M w blocks) ≡ colour_of M
so_far_colours limits bytes M w blocks =
    let m = w.means in
    let first = file_header limits bytes M m in
    let at = file_scan limits bytes M w first in
    picture_colours limits ((0xda, w.contents) ∷ w.before) blocks ∙ colours_stay limits bytes w.before w.contents w.begins
    ∙ ap (colours_after limits) (sym at.before)
    ∙ sym (ap colour_of m.meaning ∙ picture_colours limits (segments_of m.items) m.blocks ∙ ap (λ (z : List Item). colours_after limits (segments_of z)) first.joined
    ∙ same_colours_after limits first.more first.contents first.intervals first.before m.blocks at.leads)

pub image_of_all : (limits : Limits) (bytes : List ℕ) (M : Meaning) (w : IsReadByRows limits bytes M) (kind : EndKind) (gray smooth : Bool) (blocks : Blocks) → is_by_rows kind ≡ true
    → CompletesRows limits bytes (mcu_rows M) blocks → all_rows_text kind limits bytes M w gray smooth blocks ≡ text_in kind M gray smooth
image_of_all limits bytes M w kind gray smooth blocks by done =
    let all : CompletesAll limits bytes M w = complete_all limits bytes M w in
    let R = read_so_far limits bytes M w all.blocks in
    let same : blocks ≡ all.blocks = (completed_once limits bytes (mcu_rows M) (mcu_rows M) blocks all.blocks done all.completed).1 in
    ap (λ b. rows_text kind (read_so_far limits bytes M w b) gray smooth (mcu_rows M)) same
    ∙ ap (λ N. rows_text kind N gray smooth (mcu_rows M)) all.same
    ∙ same_text M R.kept kind gray smooth by (ap colour_of (sym all.same) ∙ so_far_colours limits bytes M w all.blocks)

-- and so is what the JFIF header says
so_far_jfif : (limits : Limits) (bytes : List ℕ) (M : Meaning) (w : IsReadByRows limits bytes M) (blocks : Blocks) → jfif_of (read_so_far limits bytes M w blocks).kept ≡ jfif_of M.kept
so_far_jfif limits bytes M w blocks =
    let m = w.means in
    let first = file_header limits bytes M m in
    let at = file_scan limits bytes M w first in
    ap (λ (s : List Segment). jfif_of (reverse (kept_after s))) (sym at.before)
    ∙ sym (ap (λ (N : Meaning). jfif_of N.kept) m.meaning ∙ ap (λ (z : List Item). jfif_of (reverse (kept_after (segments_of z)))) first.joined ∙ same_jfif_after first.more first.contents first.intervals first.before)

pub same_info : (M : Meaning) (kept : List (ℕ × List ℕ)) (gray : Bool) → colour_of (kept_as M kept) ≡ colour_of M → jfif_of kept ≡ jfif_of M.kept → info (kept_as M kept) gray ≡ info M gray
same_info M kept gray colours jfif =
    ap (λ c. info_of M c (jfif_of kept) gray) colours ∙ ap (λ j. info_of M (colour_of M) j gray) jfif

-- so is the image in any format
pub image_so_far : (limits : Limits) (bytes : List ℕ) (M : Meaning) (w : IsReadByRows limits bytes M) (kind : EndKind) (gray smooth : Bool) (blocks : Blocks) → CompletesRows limits bytes (mcu_rows M) blocks
    → so_far_in kind limits bytes M w gray smooth blocks ≡ text_in kind M gray smooth
image_so_far limits bytes M w kind gray smooth blocks done =
    let all : CompletesAll limits bytes M w = complete_all limits bytes M w in
    let R = read_so_far limits bytes M w all.blocks in
    let same : blocks ≡ all.blocks = (completed_once limits bytes (mcu_rows M) (mcu_rows M) blocks all.blocks done all.completed).1 in
    let colours : colour_of (kept_as M R.kept) ≡ colour_of M = ap colour_of (sym all.same) ∙ so_far_colours limits bytes M w all.blocks in
    ap (λ b. text_in kind (read_so_far limits bytes M w b) gray smooth) same
    ∙ ap (λ N. text_in kind N gray smooth) all.same
    ∙ ap (λ i. end_text kind i (pixels (kept_as M R.kept) gray smooth)) (same_info M R.kept gray colours (so_far_jfif limits bytes M w all.blocks))
    ∙ ap (end_text kind (info M gray)) (same_pixels M R.kept gray smooth colours)

-- BMP sends nothing before its end
no_pieces : (info : ImageInfo) (rows : List (List ℕ)) → flat_map (row_piece Bmp info) rows ≡ []
no_pieces info [] = refl
no_pieces info (row ∷ rows) = no_pieces info rows

pub nothing_sent : (M : Meaning) (gray smooth : Bool) (rows : ℕ) → rows_text Bmp M gray smooth rows ≡ []
nothing_sent M gray smooth rows = no_pieces (info M gray) (take (ready_rows M gray smooth rows) (pixels M gray smooth))

pub late_rows : (M : Meaning) (kind : EndKind) (gray smooth : Bool) (rows : ℕ) → is_by_rows kind ≡ false → rows_text kind M gray smooth rows ≡ []
late_rows M Pnm gray smooth rows e = cc
late_rows M Bmp gray smooth rows e = nothing_sent M gray smooth rows
late_rows M Targa gray smooth rows e = cc
