-- Red, green and blue of luminance and chrominance (JFIF 1.02), in 65536ths, rounded.
use Rattle.std.specs.Prelude.{ℕ, nat_lt, List, [], ◌∷◌, zip, flat_map, ℤ, pos, negsuc, ◌+ℤ◌, ◌-ℤ◌, ◌*ℤ◌, if◌then◌else◌}
use Rattle.std.specs.Int.{int_shr}

-- limited to 0 to 255
abbrev pub clamped : ℤ → ℕ
clamped (pos n) = if nat_lt 255 n then 255 else n
clamped (negsuc n) = 0

-- a chrominance sample minus 128
abbrev pub about_middle : ℕ → ℤ
about_middle n = pos n -ℤ pos 128

abbrev pub red : ℕ → ℕ → ℕ
red y cr = clamped (pos y +ℤ int_shr ((about_middle cr *ℤ pos 91881) +ℤ pos 32768) 16)

abbrev pub green : ℕ → ℕ → ℕ → ℕ
green y cb cr = clamped (pos y +ℤ int_shr ((pos 32768 -ℤ (about_middle cb *ℤ pos 22554)) -ℤ (about_middle cr *ℤ pos 46802)) 16)

abbrev pub blue : ℕ → ℕ → ℕ
blue y cb = clamped (pos y +ℤ int_shr ((about_middle cb *ℤ pos 116130) +ℤ pos 32768) 16)

unfoldable pub to_rgb : ℕ → ℕ → ℕ → List ℕ
to_rgb y cb cr = red y cr ∷ green y cb cr ∷ blue y cb ∷ []

-- three rows, pixel by pixel
abbrev pub rgb_row : List ℕ → List ℕ → List ℕ → List ℕ
rgb_row ys cbs crs = flat_map (λ p. to_rgb p.0 p.1.0 p.1.1) (zip ys (zip cbs crs))

abbrev pub interleaved_row : List ℕ → List ℕ → List ℕ → List ℕ
interleaved_row rs gs bs = flat_map (λ p. p.0 ∷ p.1.0 ∷ p.1.1 ∷ []) (zip rs (zip gs bs))
