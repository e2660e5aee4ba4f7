-- What an image writer was given, and what its calls append (release 6b's image files).
use Rattle.std.specs.Prelude.{◌≡◌, ℕ, ◌+◌, ◌*◌, ◌<◌, ◌≤◌, min, Bool, true, false, nat_le, if◌then◌else◌, List, [], ◌∷◌, ◌++◌, length, slice_index_or, Option, None, Some, is_some, Result, Ok, Err}
use Rattle.jpg_spec_image.specs.ImageText.{row_bytes, first_piece, row_piece, rest}
use Rattle.jpg_spec_image.specs.declared.image.EndKind.{EndKind}
use Rattle.jpg_spec_image.specs.declared.image.EndKind.TheVariants.{Pnm, Bmp, Targa}
use Rattle.jpg_spec_image.specs.declared.image.ImageKind.TheVariants.{Gray}
use Rattle.jpg_spec_image.specs.declared.image.ImageInfo.{ImageInfo}
use Rattle.jpg_base.specs.declared.names.NoMemory.{NoMemory}
use Rattle.jpg_pnm_bmp.specs.declared.write.end.Finish.{Finish}
use Rattle.jpg_pnm_bmp.specs.declared.write.end.Finish.TheVariants.{More, Done}

-- the kind of image, its info, how many rows were taken, those that are kept, the parts that `finish` appended, and
-- whether it was the last
pub record EndState : Type 0 where
  pub kind : EndKind
  pub info : Option ImageInfo
  pub taken : ℕ
  pub held : List (List ℕ)
  pub parts : ℕ
  pub done : Bool

abbrev pub new_end : EndKind → EndState
new_end kind = record { kind = kind; info = None; taken = 0; held = []; parts = 0; done = false }

-- the image's info, once it is known
abbrev pub info_given : Option ImageInfo → ImageInfo
info_given None = record { width = 0; height = 0; kind = Gray; x_metre = 0; y_metre = 0 }
info_given (Some info) = info

abbrev pub info_of : EndState → ImageInfo
info_of e = info_given e.info

-- sides and pixels that an image may have
pub record IsImageInfo (info : ImageInfo) : Type 0 where
  pub width_low : 1 ≤ info.width
  pub width_high : info.width ≤ 65500
  pub height_low : 1 ≤ info.height
  pub height_high : info.height ≤ 65500
  pub pixels : info.width * info.height ≤ 1073741824

-- the rows that are kept of those that were taken: all of a BMP, whose last row is written first
abbrev pub held_of : EndKind → List (List ℕ) → List (List ℕ)
held_of Pnm rows = []
held_of Bmp rows = rows
held_of Targa rows = []

-- THE ORDER OF CALLS: `start`, then all rows, then `finish` until it is done

pub record CanTakeRow (e : EndState) (row : List ℕ) : Type 0 where
  pub started : is_some e.info ≡ true
  pub missing : e.taken < (info_of e).height
  pub long : length row ≡ row_bytes (info_of e)
  pub unfinished : e.parts ≡ 0
  pub before : e.done ≡ false

pub record CanFinish (e : EndState) : Type 0 where
  pub started : is_some e.info ≡ true
  pub all : e.taken ≡ (info_of e).height
  pub before : e.done ≡ false

-- WHAT THEY DO. Without memory all remains as it was. `row` and `finish` return NoMemory only if they have something to
-- append, so that something of the text is left then.

abbrev pub started : EndState → ImageInfo → EndState
started e info = record e { info = Some info }

abbrev pub Starts : EndState → List ℕ → ImageInfo → Result (Unit {0}) NoMemory → EndState → List ℕ → Type 0
Starts e out info (Ok u) new grown = (new ≡ started e info) × (grown ≡ out ++ first_piece e.kind info)
Starts e out info (Err fault) new grown = (new ≡ e) × (grown ≡ out)

-- no memory for this piece
abbrev pub HasNoRoom : EndState → List ℕ → List ℕ → EndState → List ℕ → Type 0
HasNoRoom e out piece new grown = (0 < length piece) × (new ≡ e) × (grown ≡ out)

abbrev pub with_row : EndState → List ℕ → EndState
with_row e row = record e { taken = e.taken + 1; held = e.held ++ held_of e.kind (row ∷ []) }

abbrev pub next_piece : EndState → List ℕ → List ℕ
next_piece e row = row_piece e.kind (info_of e) row

abbrev pub TakesRow : EndState → List ℕ → List ℕ → Result (Unit {0}) NoMemory → EndState → List ℕ → Type 0
TakesRow e out row (Ok u) new grown = (new ≡ with_row e row) × (grown ≡ out ++ next_piece e row)
TakesRow e out row (Err fault) new grown = HasNoRoom e out (next_piece e row) new grown

-- the parts after the rows, and the next of them
abbrev pub parts_due : EndState → List (List ℕ)
parts_due e = rest e.kind (info_of e) e.held

abbrev pub next_part : EndState → List ℕ
next_part e = slice_index_or (parts_due e) e.parts []

abbrev pub is_last : EndState → Bool
is_last e = nat_le (length (parts_due e)) (e.parts + 1)

abbrev pub with_part : EndState → EndState
with_part e = record e { parts = min (e.parts + 1) (length (parts_due e)); done = is_last e }

abbrev pub Finishes : EndState → List ℕ → Result Finish NoMemory → EndState → List ℕ → Type 0
Finishes e out (Ok answer) new grown = (answer ≡ (if is_last e then Done else More)) × (new ≡ with_part e) × (grown ≡ out ++ next_part e)
Finishes e out (Err fault) new grown = HasNoRoom e out (next_part e) new grown
