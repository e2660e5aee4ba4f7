-- What the calls of an image writer have appended so far, one after another.
use Rattle.std.specs.Prelude.{◌≡◌, ℕ, ◌-◌, ◌<◌, ◌≤◌, true, List, [], ◌∷◌, ◌++◌, length, take, flat_map, Some, Ok}
use Rattle.jpg_spec_image.specs.ImageText.{first_piece, row_piece, rest, end_text}
use Rattle.jpg_spec_image.specs.declared.image.EndKind.{EndKind}
use Rattle.jpg_spec_image.specs.declared.image.ImageInfo.{ImageInfo}
use Rattle.jpg_pnm_bmp.specs.EndState.{EndState, CanFinish, TakesRow, held_of, parts_due}

-- an image as it was given so far: the rows that were taken, and what preceded its text
pub record WrittenImage : Type 0 where
  pub info : ImageInfo
  pub rows : List (List ℕ)
  pub before : List ℕ

abbrev pub begun : ImageInfo → List ℕ → WrittenImage
begun info before = record { info = info; rows = []; before = before }

abbrev pub with_next : WrittenImage → List ℕ → WrittenImage
with_next image row = record { info = image.info; rows = image.rows ++ row ∷ []; before = image.before }

-- its text up to a number of the parts after the rows
abbrev pub text_up_to : EndKind → WrittenImage → ℕ → List ℕ
text_up_to kind image parts =
    first_piece kind image.info ++ flat_map (row_piece kind image.info) image.rows
    ++ flat_map (λ part. part) (take parts (rest kind image.info image.rows))

-- what preceded it, and its complete text
abbrev pub whole_text : EndKind → WrittenImage → List ℕ
whole_text kind image = image.before ++ end_text kind image.info image.rows

-- a row for which there was memory
abbrev pub Took : EndState → List ℕ → List ℕ → EndState → List ℕ → Type 0
Took e out row = TakesRow e out row (Ok tt)

-- a writer that was given this image, and made `out` of what preceded it
pub record Wrote (e : EndState) (image : WrittenImage) (out : List ℕ) : Type 0 where
  pub told : e.info ≡ Some image.info
  pub taken : e.taken ≡ length image.rows
  pub held : e.held ≡ held_of e.kind image.rows
  pub text : out ≡ image.before ++ text_up_to e.kind image e.parts
  pub whole : e.done ≡ true → length (rest e.kind image.info image.rows) ≤ e.parts

abbrev pub parts_left : EndState → ℕ
parts_left e = length (parts_due e) - e.parts

-- parts are left, and fewer than before
pub record PartsGoOn (old new : EndState) : Type 0 where
  pub can : CanFinish new
  pub fewer : parts_left new < parts_left old
