-- Luminance and chrominance of red, green and blue (JFIF 1.02), in 65536ths. Luminance is rounded; the chrominance,
-- whose middle is 128, has slightly less than a half added.
use Rattle.std.specs.Prelude.{ℕ, ◌+◌, ◌-◌, ◌*◌, ◌/◌, List, [], ◌∷◌}

abbrev pub luminance : ℕ → ℕ → ℕ → ℕ
luminance r g b = (19595 * r + 38470 * g + 7471 * b + 32768) / 65536

-- 8421375 is 128 and a half, minus a 65536th
abbrev pub blue_difference : ℕ → ℕ → ℕ → ℕ
blue_difference r g b = (8421375 + 32768 * b - (11059 * r + 21709 * g)) / 65536

abbrev pub red_difference : ℕ → ℕ → ℕ → ℕ
red_difference r g b = (8421375 + 32768 * r - (27439 * g + 5329 * b)) / 65536

unfoldable pub to_ycc : ℕ → ℕ → ℕ → List ℕ
to_ycc r g b = luminance r g b ∷ blue_difference r g b ∷ red_difference r g b ∷ []
