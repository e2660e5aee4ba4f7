-- Rows of components, sample by sample.
use Rattle.std.proofs.Common.{◌≡◌, ℕ, slice_index, refl}
use Rattle.jpg_spec_image.specs.Luminance.{luminance, blue_difference, red_difference, to_ycc}

pub luminance_first : (r g b : ℕ) → luminance r g b ≡ slice_index (to_ycc r g b) 0
unfolding to_ycc
luminance_first r g b = refl

pub blue_second : (r g b : ℕ) → blue_difference r g b ≡ slice_index (to_ycc r g b) 1
unfolding to_ycc
blue_second r g b = refl

pub red_third : (r g b : ℕ) → red_difference r g b ≡ slice_index (to_ycc r g b) 2
unfolding to_ycc
red_third r g b = refl
