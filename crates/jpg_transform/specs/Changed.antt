-- Which signs are changed (T.81, A.3.3).
use Rattle.std.specs.Prelude.{◌≡◌, ℕ, ◌/◌, ◌%◌, Bool, true, false, not, ◌==◌, if◌then◌else◌, List, map, ℤ, pos, int_lt}
use Rattle.jpg_spec.specs.Zigzag.{zigzag}

-- of a natural index, where blocks are mirrored across, down or both
abbrev pub is_changed : Bool → Bool → ℕ → Bool
is_changed false false n = false
is_changed true false n = n % 2 == 1
is_changed false true n = n / 8 % 2 == 1
is_changed true true n = if n % 2 == 1 then not (n / 8 % 2 == 1) else n / 8 % 2 == 1

-- Masks in zigzag order: they are negative where the sign is changed.
abbrev pub AreMasks : Bool → Bool → List ℤ → Type 0
AreMasks across down masks = map (λ m. int_lt m (pos 0)) masks ≡ map (is_changed across down) zigzag
