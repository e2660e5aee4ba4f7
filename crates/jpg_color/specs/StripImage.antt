-- AN IMAGE THAT IS WRITTEN WHILE ITS PICTURE IS READ, MCU row by MCU row: what was taken and given of it, and which
-- text that is.
use Rattle.std.specs.Prelude.{◌≡◌, ℕ, ◌+◌, ◌-◌, ◌*◌, ◌<◌, Bool, false, List, [], ◌++◌, length, take, drop, flat_map, is_some, true, Some, IfOk, Result}
use Rattle.jpg_base.specs.Desk.{DeskState}
use Rattle.jpg_huff.specs.Out.{OnlyWrites}
use Rattle.jpg_spec.specs.Geometry.{div_up}
use Rattle.jpg_spec.specs.Scan.{Blocks}
use Rattle.jpg_spec.specs.Meaning.{Meaning, colour_of}
use Rattle.jpg_spec_image.specs.Pixels.{info, pixels, samples_across, samples_down}
use Rattle.jpg_spec_image.specs.ImageText.{row_bytes, first_piece, row_piece, rest, end_text}
use Rattle.jpg_spec_image.specs.RowsShown.{ready_rows as rows_ready, rows_text}
use Rattle.jpg_spec_image.specs.Strips.{block_rows, mcu_rows, rows_from}
use Rattle.jpg_spec.specs.Laws.{with_blocks}
use Rattle.jpg_spec_image.specs.declared.image.EndKind.{EndKind}
use Rattle.jpg_spec_image.specs.declared.image.ImageInfo.{ImageInfo}
use Rattle.jpg_coefs.specs.Picture.{Picture as Coefs}
use Rattle.jpg_file.specs.Read.PictureKept.{IsHeadOfPicture}
use Rattle.jpg_file.specs.declared.read.strip_head.StripHead.{StripHead}
use Rattle.jpg_pnm_bmp.specs.EndState.{EndState, IsImageInfo, held_of, info_of}
use Rattle.jpg_color.specs.Shown.{AreMcuRow, Display, IsNextRowDue, IsShowable, ShownState, RepresentsPicture}
use Rattle.jpg_color.specs.Shown.{all_rows, at_top, display_of, picture_of, rows_made_ready, row_length, row_of_blocks}
use Rattle.jpg_color.specs.DecodeRows.{SendsImage, end_at, end_parts, finished, row_pieces, info_for}
use Rattle.jpg_color.specs.declared.decode.DecodeStop.{DecodeStop}

-- the rows, the info of the image, and the pending part of its text
pub record Drawing : Type 0 where
  pub strips : ShownState
  pub info : ImageInfo
  pub out : List ℕ

-- The info of an image that has these rows.
pub record IsToldOf (d : Display) (i : ImageInfo) : Type 0 where
  pub valid : IsImageInfo i
  pub wide : i.width ≡ d.frame.width
  pub high : i.height ≡ d.frame.height
  pub long : row_bytes i ≡ row_length d

-- THE PICTURE

-- the first rows of its image, those that are ready after m MCU rows
abbrev pub first_image_rows : Meaning → Bool → Bool → ℕ → List (List ℕ)
first_image_rows M gray smooth m = take (rows_ready M gray smooth m) (pixels M gray smooth)

-- those that MCU row m adds to them
abbrev pub next_rows : Meaning → Bool → Bool → ℕ → List (List ℕ)
next_rows M gray smooth m = drop (rows_ready M gray smooth m) (first_image_rows M gray smooth (m + 1))

-- THE TEXT: what MCU row m adds to that of the rows before it, and what follows all rows
abbrev pub next_text : EndKind → Meaning → Bool → Bool → ℕ → List ℕ
next_text kind M gray smooth m = flat_map (row_piece kind (info M gray)) (next_rows M gray smooth m)

abbrev pub rest_text : EndKind → Meaning → Bool → Bool → List ℕ
rest_text kind M gray smooth = flat_map (λ part. part) (rest kind (info M gray) (pixels M gray smooth))

abbrev pub whole_text : EndKind → Meaning → Bool → Bool → List ℕ
whole_text kind M gray smooth = end_text kind (info M gray) (pixels M gray smooth)

-- It has no rows at first, each MCU row adds its own, and what follows all rows ends it. At any time it is a prefix of
-- the complete text.
pub record TextsJoin (kind : EndKind) (M : Meaning) (gray smooth : Bool) : Type 0 where
  pub first : rows_text kind M gray smooth 0 ≡ first_piece kind (info M gray)
  pub more : (m : ℕ) → m < mcu_rows M → rows_text kind M gray smooth m ++ next_text kind M gray smooth m ≡ rows_text kind M gray smooth (m + 1)
  pub whole : rows_text kind M gray smooth (mcu_rows M) ++ rest_text kind M gray smooth ≡ whole_text kind M gray smooth
  pub part : (m : ℕ) → (others : List ℕ) × (rows_text kind M gray smooth m ++ others ≡ whole_text kind M gray smooth)

-- WHAT IT DRAWS: the image of M, in grayscale or not, smoothed or not
pub record DrawsImage (d : Drawing) (M : Meaning) (gray smooth : Bool) : Type 0 where
  pub showable : IsShowable d.strips.display
  pub picture : M ≡ record (picture_of d.strips.display M.blocks) { kept = M.kept }
  pub colour : d.strips.display.colour ≡ colour_of M
  pub as_gray : d.strips.display.gray ≡ gray
  pub as_smooth : d.strips.display.smooth ≡ smooth
  pub info : d.info ≡ info M gray

-- M's first m MCU rows were taken, and the image writer took the rows that are ready then.
pub record IsDrawnTo (d : Drawing) (e : EndState) (M : Meaning) (gray smooth : Bool) (m : ℕ) : Type 0 where
  pub image : DrawsImage d M gray smooth
  pub pushed : d.strips.pushed ≡ m
  pub given : d.strips.given ≡ rows_ready M gray smooth m
  pub stands : RepresentsPicture d.strips M.blocks
  pub end : e ≡ end_at e.kind (info M gray) (first_image_rows M gray smooth m)

-- for any picture: the image writer was given this image, and took the rows that were given
pub record IsEndOf (d : Drawing) (e : EndState) : Type 0 where
  pub told : e.info ≡ Some d.info
  pub taken : e.taken ≡ d.strips.given
  pub parts : e.parts ≡ 0
  pub unfinished : e.done ≡ false

-- BEFORE ITS BEGINNING
pub record IsNewDrawing (d : Drawing) : Type 0 where
  pub pushed : d.strips.pushed ≡ 0
  pub given : d.strips.given ≡ 0
  pub stands : (blocks : Blocks) → RepresentsPicture d.strips blocks
  pub out : d.out ≡ []

pub record IsNewOf (h : StripHead) (gray smooth : Bool) (d : Drawing) : Type 0 where
  pub new : IsNewDrawing d
  pub display : d.strips.display ≡ display_of h gray smooth
  pub info : d.info ≡ info_for h.frame h.colour h.jfif gray
  pub draws : (M : Meaning) → IsHeadOfPicture h M → DrawsImage d M gray smooth

-- ITS BEGINNING
pub record BeginsDrawing (old : Drawing) (e : EndState) (new : Drawing) (new_end : EndState) : Type 0 where
  pub strips : new.strips ≡ old.strips
  pub info : new.info ≡ old.info
  pub out : new.out ≡ old.out ++ first_piece e.kind old.info
  pub due : IsNextRowDue new.strips
  pub kind : new_end.kind ≡ e.kind
  pub end : IsEndOf new new_end
  pub drawn : (M : Meaning) (gray smooth : Bool) → DrawsImage old M gray smooth → IsDrawnTo new new_end M gray smooth 0

-- ONE MORE MCU ROW, and all rows that are ready then; for any picture, and for a given one
pub record GoesOnDrawing (old : Drawing) (e : EndState) (new : Drawing) (new_end : EndState) : Type 0 where
  pub pushed : new.strips.pushed ≡ old.strips.pushed + 1
  pub given : new.strips.given ≡ rows_made_ready new.strips.display new.strips.pushed
  pub kind : new_end.kind ≡ e.kind
  pub end : IsEndOf new new_end

pub record DrawsMore (s0 : DeskState) (old : Drawing) (e : EndState) (M : Meaning) (gray smooth : Bool) (m : ℕ) (result : Result (Unit {0}) DecodeStop) (new : Drawing) (new_end : EndState) (s1 : DeskState) : Type 0 where
  pub sent : SendsImage s0 old.out (next_text e.kind M gray smooth m) result new.out s1
  pub drawn : IfOk result (λ u. IsDrawnTo new new_end M gray smooth (m + 1))

pub record DrawsRow (s0 : DeskState) (old : Drawing) (e : EndState) (row : Coefs) (result : Result (Unit {0}) DecodeStop) (new : Drawing) (new_end : EndState) (s1 : DeskState) : Type 0 where
  pub only : OnlyWrites s0 s1
  pub display : new.strips.display ≡ old.strips.display
  pub info : new.info ≡ old.info
  pub goes_on : IfOk result (λ u. GoesOnDrawing old e new new_end)
  pub drawn : (M : Meaning) (gray smooth : Bool) (m : ℕ) → IsDrawnTo old e M gray smooth m → AreMcuRow old.strips.display m at_top row M.blocks
      → DrawsMore s0 old e M gray smooth m result new new_end s1

-- WHEN NOTHING MORE IS TAKEN OR GIVEN: what was drawn remains.
pub record StaysDrawn (old new : Drawing) : Type 0 where
  pub strips : new.strips ≡ old.strips
  pub info : new.info ≡ old.info
  pub end : (e : EndState) → IsEndOf old e → IsEndOf new e
  pub drawn : (e : EndState) (M : Meaning) (gray smooth : Bool) (m : ℕ) → IsDrawnTo old e M gray smooth m → IsDrawnTo new e M gray smooth m

-- ITS END, after all MCU rows were taken and all rows given
pub record IsAllGiven (s : ShownState) : Type 0 where
  pub given : s.given ≡ rows_made_ready s.display s.pushed
  pub all : s.pushed ≡ all_rows s.display

pub record EndsDrawing (s0 : DeskState) (old : Drawing) (e : EndState) (result : Result (Unit {0}) DecodeStop) (new : Drawing) (new_end : EndState) (s1 : DeskState) : Type 0 where
  pub strips : new.strips ≡ old.strips
  pub info : new.info ≡ old.info
  pub sent : SendsImage s0 old.out (end_parts e) result new.out s1
  pub out : IfOk result (λ u. new.out ≡ [])
  pub end : IfOk result (λ u. new_end ≡ finished e)
  pub drawn : (M : Meaning) (gray smooth : Bool) → IsDrawnTo old e M gray smooth (mcu_rows M)
      → SendsImage s0 old.out (rest_text e.kind M gray smooth) result new.out s1

-- ROWS THAT ARE READY, given to an image writer one after another

-- an image writer that can take the next row
pub record CanTakeNext (s : ShownState) (e : EndState) : Type 0 where
  pub started : is_some e.info ≡ true
  pub high : (info_of e).height ≡ s.display.frame.height
  pub long : row_bytes (info_of e) ≡ row_length s.display
  pub taken : e.taken ≡ s.given
  pub parts : e.parts ≡ 0
  pub unfinished : e.done ≡ false

abbrev pub rows_due : ShownState → Blocks → ℕ → List (List ℕ)
rows_due s blocks end = rows_from (row_of_blocks s.display blocks) s.given (end - s.given)

abbrev pub with_rows : EndState → List (List ℕ) → EndState
with_rows e rows = record e { taken = e.taken + length rows; held = e.held ++ held_of e.kind rows }

pub record AreGiven (old : ShownState) (e : EndState) (new : ShownState) (new_end : EndState) : Type 0 where
  pub pushed : new.pushed ≡ old.pushed
  pub given : new.given ≡ rows_made_ready old.display old.pushed
  pub kind : new_end.kind ≡ e.kind
  pub told : new_end.info ≡ e.info
  pub can : CanTakeNext new new_end
  pub stands : (blocks : Blocks) → RepresentsPicture old blocks → RepresentsPicture new blocks
  pub rows : (blocks : Blocks) → RepresentsPicture old blocks → new_end ≡ with_rows e (rows_due old blocks new.given)

pub record SendsReady (s0 : DeskState) (old : ShownState) (e : EndState) (out : List ℕ) (result : Result (Unit {0}) DecodeStop) (new : ShownState) (new_end : EndState) (new_out : List ℕ) (s1 : DeskState) : Type 0 where
  pub only : OnlyWrites s0 s1
  pub display : new.display ≡ old.display
  pub given : IfOk result (λ u. AreGiven old e new new_end)
  pub sent : (blocks : Blocks) → RepresentsPicture old blocks → SendsImage s0 out (row_pieces e (rows_due old blocks (rows_made_ready old.display old.pushed))) result new_out s1

-- PICTURES WITH THE SAME FIRST MCU ROWS: all but blocks the same, and the real blocks of these
pub record AgreeInFirstRows (M N : Meaning) (m : ℕ) : Type 0 where
  pub same : N ≡ with_blocks M N.blocks
  pub blocks : (i x y : ℕ) → i < length M.components → x < div_up (samples_across M i) 8 → y < div_up (samples_down M i) 8 → y < m * block_rows M i
      → M.blocks i x y ≡ N.blocks i x y

abbrev pub AreDrawnAlike : Meaning → Meaning → Bool → Bool → ℕ → Type 0
AreDrawnAlike M N gray smooth m = (d : Drawing) (e : EndState) → IsDrawnTo d e M gray smooth m → IsDrawnTo d e N gray smooth m
