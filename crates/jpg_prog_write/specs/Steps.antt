-- THE RESULTS OF CALLS on bands.
use Rattle.std.specs.Prelude.{◌≡◌, ℕ, ◌<◌, ◌≤◌, Bool, true, List, [], ◌∷◌, length, ℤ}
use Rattle.jpg_spec.specs.Numbers.{category}
use Rattle.jpg_spec.specs.Elements.{Element}
use Rattle.jpg_spec_write.specs.Sending.{Sent, value_elements, band_elements}
use Rattle.jpg_prog_write.specs.Items.{IsItem}
use Rattle.jpg_prog_write.specs.Bands.{IsReady, sents, ends_new, elements_left, cleared, steps_left}
use Rattle.jpg_prog_write.specs.declared.band.Band.{Band}
use Rattle.jpg_prog_write.specs.declared.band.Sending.{Sending}
use Rattle.jpg_prog_write.specs.declared.band.Sending.TheVariants.{Correction, NewlySignificant}
use Rattle.jpg_prog_write.specs.declared.bands.Bands.{Bands}
use Rattle.jpg_prog_write.specs.declared.bands.Step.{Step}
use Rattle.jpg_prog_write.specs.declared.bands.Step.TheVariants.{Goes, Gives as Makes}
use Rattle.jpg_prog_write.specs.declared.bands.Whole.{Whole}
use Rattle.jpg_prog_write.specs.declared.item.Item.{Item}

abbrev pub IsShortSending : Sending → Type 0
IsShortSending (Correction bit) = Unit {0}
IsShortSending (NewlySignificant v) = category v ≤ 14

-- an element with its item and its corrections, and then others
pub record IsFirst (all : List Element) (item : Item) (bits : List Bool) (others : List Element) : Type 0 where
  pub element : Element
  pub is : IsItem element item bits
  pub first : all ≡ element ∷ others

-- A run of zeros and corrections goes on after a value, which can't be the last newly sent one, or an element is
-- complete.
abbrev pub IsElementStep : ℕ → List Bool → List Sent → Step → List Bool → List Sent → Type 0
IsElementStep run bits front (Goes more) new later = (more ≤ 15) × (value_elements run bits front ≡ value_elements more new later) × (ends_new front ≡ true → 1 ≤ length later)
IsElementStep run bits front (Makes item) new later = IsFirst (value_elements run bits front) item new (value_elements 0 [] later)

-- the next element of the values from one place up to another
pub record IsCompleteElement (band : Band) (from last : ℕ) (block : List ℤ) (whole : Whole) (bits : List Bool) : Type 0 where
  pub first : IsFirst (value_elements 0 [] (sents band from last block)) whole.item bits (value_elements 0 [] (sents band whole.at last block))
  pub order : from < whole.at
  pub most : whole.at ≤ last
  pub front : ends_new (sents band whole.at last block) ≡ true

-- the next element of bands, whose corrections are those that wait now
pub record GivesElement (old : Bands) (item : Item) (new : Bands) : Type 0 where
  pub first : (later : List (List Sent)) → IsFirst (elements_left old later) item new.waiting.items (elements_left (cleared new) later)
  pub ready : IsReady (cleared new)
  pub band : new.band ≡ old.band
  pub fewer : steps_left (cleared new) < steps_left old

-- nothing more of this band
pub record LeavesBand (old new : Bands) : Type 0 where
  pub left : (later : List (List Sent)) → elements_left old later ≡ band_elements 32767 new.bands new.waiting.items later
  pub ready : IsReady new
  pub band : new.band ≡ old.band

-- the values up to the last newly sent one are done with, unless an EOB run waits before them
pub record PassesValues (old new : Bands) : Type 0 where
  pub ready : IsReady new
  pub band : new.band ≡ old.band
  pub fewer : steps_left new ≤ steps_left old
