-- SCAN SCRIPTS: the scans that a file is written in.
use Rattle.std.specs.Prelude.{ℕ, Bool, false, not, nat_lt, ◌&&◌, ◌==◌, if◌then◌else◌, List, [], ◌∷◌, length, map}
use Rattle.jpg_spec.specs.Lists.{below}
use Rattle.jpg_spec.specs.Geometry.{Frame, factor_sum}

pub record Entry : Type 0 where
  pub components : List ℕ
  pub ss : ℕ
  pub se : ℕ
  pub ah : ℕ
  pub al : ℕ

abbrev pub all_components : Frame → List ℕ
all_components f = below (length f.components)

-- one scan of all components, or one of each if an MCU of all would have more than 10 blocks
abbrev pub of_all : Frame → ℕ → ℕ → ℕ → ℕ → List Entry
of_all f ss se ah al =
    if nat_lt 1 (length f.components) && nat_lt 10 (factor_sum f (all_components f))
    then map (λ i. record { components = i ∷ []; ss = ss; se = se; ah = ah; al = al }) (all_components f)
    else record { components = all_components f; ss = ss; se = se; ah = ah; al = al } ∷ []

abbrev pub sequential_script : Frame → List Entry
sequential_script f = of_all f 0 63 0 0

-- a script whose first scan is one of all coefficients is sequential
abbrev pub is_progressive_script : List Entry → Bool
is_progressive_script [] = false
is_progressive_script (e ∷ script) = not (e.ss == 0 && e.se == 63)
