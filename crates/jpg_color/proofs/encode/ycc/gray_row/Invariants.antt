use Rattle.std.specs.Prelude.{◌≡◌, ◌<◌, ℕ, length, slice_index}
use Rattle.jpg_spec_encode.specs.Encoded.{pixel_component}
use Rattle.jpg_spec_image.specs.declared.image.ImageKind.TheVariants.{Rgb}
use Rattle.jpg_color.proofs.encode.ycc.gray_row.Given as goal

abbrev pub invariant-loop-x : goal.invariant-loop-x
invariant-loop-x l = (length l.ys ≡ length l.fn.ys) × ((k : ℕ) → k < l.x → slice_index l.ys k ≡ pixel_component Rgb l.pixels 0 k)
