-- A PICTURE AS AN IMAGE FILE: all its rows, and what writing them does (release 6b's djpeg).
use Rattle.std.specs.Prelude.{◌≡◌, ◌<◌, ℕ, Bool, List, [], ◌++◌, length, take, map, flat_map, true, false, if◌then◌else◌, Option, Some, IfOk, Result, Ok, Err}
use Rattle.jpg_spec.specs.Lists.{below}
use Rattle.jpg_spec_image.specs.ImageText.{row_bytes, row_piece, end_text}
use Rattle.jpg_spec.specs.Geometry.{Frame}
use Rattle.jpg_spec_image.specs.Pixels.{info, metre, pixels}
use Rattle.jpg_spec.specs.declared.frame.Colour.{Colour}
use Rattle.jpg_spec.specs.declared.jfif.Jfif.{Jfif}
use Rattle.jpg_spec_image.specs.declared.image.EndKind.{EndKind}
use Rattle.jpg_spec_image.specs.declared.image.ImageInfo.{ImageInfo}
use Rattle.jpg_base.specs.declared.names.Name.{Name}
use Rattle.jpg_base.specs.Desk.{DeskState, Rose, AppendsLast}
use Rattle.jpg_base.specs.Laws.{AppendsPart}
use Rattle.jpg_huff.specs.Out.{OnlyWrites}
use Rattle.jpg_file.specs.Read.PictureRead.{picture_meaning}
use Rattle.jpg_file.specs.declared.read.picture.Picture.{Picture}
use Rattle.jpg_pnm_bmp.specs.EndState.{EndState, held_of, info_of, with_row, with_part, is_last, next_part, parts_due}
use Rattle.jpg_pnm_bmp.specs.declared.write.end.Finish.{Finish}
use Rattle.jpg_pnm_bmp.specs.declared.write.end.Finish.TheVariants.{More, Done}
use Rattle.jpg_color.specs.Admits.{kind_of}
use Rattle.jpg_color.specs.PictureRows.{RowsLeft, shown_blocks}
use Rattle.jpg_color.specs.Shown.{row_of_blocks, row_length}
use Rattle.jpg_color.specs.declared.decode.DecodeStop.{DecodeStop}
use Rattle.jpg_color.specs.declared.decode.DecodeStop.TheVariants as stop

-- the info of an image, from its frame, its colours and the JFIF header
abbrev pub info_for : Frame → Colour → Jfif → Bool → ImageInfo
info_for f colour j gray = record { width = f.width; height = f.height; kind = kind_of colour gray; x_metre = metre j j.x; y_metre = metre j j.y }

-- the text of the image of a picture
abbrev pub picture_text : EndKind → Picture → Bool → Bool → List ℕ
picture_text kind p gray smooth = end_text kind (info (picture_meaning p) gray) (pixels (picture_meaning p) gray smooth)

-- Outputs that are known gain a first part of the bytes, and not all.
abbrev pub AppendsLess : Option (List (Name × List ℕ)) → List ℕ → Option (List (Name × List ℕ)) → Type 0
AppendsLess old bytes new = (n : ℕ) × (n < length bytes) × AppendsLast old (take n bytes) new

-- All of these bytes were written, or a first part of them: after WriteFault, which counts as a write, and after
-- NoMemory, if something is left.
abbrev pub AreDecoded : DeskState → List ℕ → Result (Unit {0}) DecodeStop → DeskState → Type 0
AreDecoded old due (Ok u) new = AppendsLast old.outputs due new.outputs
AreDecoded old due (Err stop.NoMemory) new = AppendsLess old.outputs due new.outputs
AreDecoded old due (Err stop.WriteFault) new = AppendsPart old.outputs due new.outputs × Rose old.counts.writes new.counts.writes

-- and nothing else changed
pub record Decodes (old : DeskState) (due : List ℕ) (result : Result (Unit {0}) DecodeStop) (new : DeskState) : Type 0 where
  pub only : OnlyWrites old new
  pub bytes : AreDecoded old due result new

-- WHAT IS WRITTEN MEANWHILE. Bytes that waited and new bytes are written or wait; after a stop a first part is written,
-- after NoMemory not all.
abbrev pub AreSent : DeskState → List ℕ → List ℕ → Result (Unit {0}) DecodeStop → List ℕ → DeskState → Type 0
AreSent s0 old due (Ok u) new s1 = (gone : List ℕ) × AppendsLast s0.outputs gone s1.outputs × (old ++ due ≡ gone ++ new)
AreSent s0 old due (Err stop.NoMemory) new s1 = AppendsLess s0.outputs (old ++ due) s1.outputs
AreSent s0 old due (Err stop.WriteFault) new s1 = AppendsPart s0.outputs (old ++ due) s1.outputs × Rose s0.counts.writes s1.counts.writes

pub record SendsImage (s0 : DeskState) (old due : List ℕ) (result : Result (Unit {0}) DecodeStop) (new : List ℕ) (s1 : DeskState) : Type 0 where
  pub only : OnlyWrites s0 s1
  pub bytes : AreSent s0 old due result new s1

-- the first n rows, and an image writer that has taken these rows
abbrev pub rows_until : RowsLeft → ℕ → List (List ℕ)
rows_until r n = map (row_of_blocks r.strips.display (shown_blocks r.strips.display r.coefs)) (below n)

abbrev pub rows_in_all : RowsLeft → List (List ℕ)
rows_in_all r = rows_until r r.strips.display.frame.height

abbrev pub end_at : EndKind → ImageInfo → List (List ℕ) → EndState
end_at kind info rows = record { kind = kind; info = Some info; taken = length rows; held = held_of kind rows; parts = 0; done = false }

-- an image writer that appended all that follows the rows; and one that was given an image, took all its rows and did
-- so
abbrev pub finished : EndState → EndState
finished e = record e { parts = length (parts_due e); done = true }

abbrev pub finished_end : EndKind → ImageInfo → List (List ℕ) → EndState
finished_end kind info rows = finished (end_at kind info rows)

-- the image writer after the image of a picture
abbrev pub picture_end : EndKind → Picture → Bool → Bool → EndState
picture_end kind p gray smooth = finished_end kind (info (picture_meaning p) gray) (pixels (picture_meaning p) gray smooth)

-- Rows of an image with this info, none of which was given.
pub record AreRowsOf (i : ImageInfo) (r : RowsLeft) : Type 0 where
  pub first : r.strips.given ≡ 0
  pub high : i.height ≡ r.strips.display.frame.height
  pub long : row_bytes i ≡ row_length r.strips.display

-- An image writer that was started for these rows, none of which was given.
pub record IsEndFor (e : EndState) (r : RowsLeft) : Type 0 where
  pub started : e ≡ end_at e.kind (info_of e) []
  pub rows : AreRowsOf (info_of e) r

-- the pieces of all rows
abbrev pub row_pieces : EndState → List (List ℕ) → List ℕ
row_pieces e rows = flat_map (row_piece e.kind (info_of e)) rows

-- A row, and all rows, taken by an image writer, which appends their text.
pub record SendsRow (s0 : DeskState) (e : EndState) (old row : List ℕ) (result : Result (Unit {0}) DecodeStop) (new_end : EndState) (new : List ℕ) (s1 : DeskState) : Type 0 where
  pub sent : SendsImage s0 old (row_piece e.kind (info_of e) row) result new s1
  pub end : IfOk result (λ u. new_end ≡ with_row e row)

pub record SendsRows (s0 : DeskState) (e : EndState) (old : List ℕ) (rows : List (List ℕ)) (result : Result (Unit {0}) DecodeStop) (new_end : EndState) (new : List ℕ) (s1 : DeskState) : Type 0 where
  pub sent : SendsImage s0 old (row_pieces e rows) result new s1
  pub end : IfOk result (λ u. new_end ≡ end_at e.kind (info_of e) rows)

-- a part of what follows the rows
abbrev pub only_stop : Result Finish DecodeStop → Result (Unit {0}) DecodeStop
only_stop (Ok f) = Ok tt
only_stop (Err fault) = Err fault

pub record SendsPart (s0 : DeskState) (e : EndState) (old : List ℕ) (result : Result Finish DecodeStop) (new_end : EndState) (new : List ℕ) (s1 : DeskState) : Type 0 where
  pub sent : SendsImage s0 old (next_part e) (only_stop result) new s1
  pub answer : IfOk result (λ f. f ≡ (if is_last e then Done else More))
  pub end : IfOk result (λ u. new_end ≡ with_part e)

-- all that follows the rows
abbrev pub end_parts : EndState → List ℕ
end_parts e = flat_map (λ part. part) (parts_due e)
