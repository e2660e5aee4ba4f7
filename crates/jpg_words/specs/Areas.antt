-- Areas as words ask for them.
use Rattle.std.specs.Prelude.{◌≡◌, ℕ, ◌≤◌, List, Option, None, Some}
use Rattle.std.specs.Borrow.{Bor}
use Rattle.jpg_spec_move.specs.declared.area.Area.{Area}
use Rattle.jpg_spec_words.specs.TransformWords.{cut_at, number_before}

-- sides that aren't 0, of at most five digits
pub record AreSides (w h : ℕ) : Type 0 where
  pub w_low : 1 ≤ w
  pub w_high : w ≤ 99999
  pub h_low : 1 ≤ h
  pub h_high : h ≤ 99999

-- an area of one pixel if none is asked for
abbrev pub area_or_one : Option Area → Area
area_or_one None = record { w = 1; h = 1; x = 0; y = 0 }
area_or_one (Some area) = area

-- the texts before and after a byte, and the number before it and the text after it, as they are lent
abbrev pub IsCut : ℕ → List ℕ → Option (Bor (List ℕ) × Bor (List ℕ)) → Type 0
IsCut byte text None = cut_at byte text ≡ None
IsCut byte text (Some cut) = cut_at byte text ≡ Some (cut.0.now, cut.1.now)

abbrev pub IsNumberBefore : ℕ → List ℕ → Option (ℕ × Bor (List ℕ)) → Type 0
IsNumberBefore byte text None = number_before byte text ≡ None
IsNumberBefore byte text (Some found) = number_before byte text ≡ Some (found.0, found.1.now)
