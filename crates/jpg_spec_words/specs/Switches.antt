-- THE SWITCHES of the commands: how a word matches one (the suite's rule).
use Rattle.std.specs.Prelude.{ℕ, ◌+◌, Bool, false, nat_le, ◌&&◌, ◌==◌, if◌then◌else◌, List, [], ◌∷◌, length, map, drop, Option, find, option_map}
use Rattle.jpg_spec.specs.Lists.{begins_with}
use Rattle.jpg_spec.specs.Markers.{is_within}
use Rattle.jpg_spec_words.specs.declared.switch.Purpose.{Purpose}

-- a word that begins with a hyphen
abbrev pub is_switch : List ℕ → Bool
is_switch [] = false
is_switch (b ∷ bytes) = b == 45

-- ASCII letters in lower case
abbrev pub lower : ℕ → ℕ
lower b = if is_within 65 90 b then b + 32 else b

-- a name, and how many letters of it a word needs
pub record Switch : Type 0 where
  pub name : List ℕ
  pub shortest : ℕ
  pub purpose : Purpose

-- Letters match a name of which they are a prefix, in any case, if there are no fewer than its shortest form has.
abbrev pub abbreviates : ℕ → List ℕ → List ℕ → Bool
abbreviates shortest name letters = nat_le shortest (length letters) && begins_with (map lower letters) name

abbrev pub is_match : List ℕ → Switch → Bool
is_match letters s = abbreviates s.shortest s.name letters

-- the purpose of a word that begins with a hyphen, in a command with these switches
abbrev pub purpose_of : List Switch → List ℕ → Option Purpose
purpose_of switches word = option_map (λ s. s.purpose) (find (is_match (drop 1 word)) switches)
