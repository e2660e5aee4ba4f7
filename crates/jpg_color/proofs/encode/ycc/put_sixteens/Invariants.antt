use Rattle.std.specs.Prelude.{◌≡◌, ◌<◌, ◌*◌, ℕ, length, slice_index}
use Rattle.jpg_spec_encode.specs.Encoded.{pixel_component}
use Rattle.jpg_spec_image.specs.declared.image.ImageKind.TheVariants.{Rgb}
use Rattle.jpg_color.proofs.encode.ycc.put_sixteens.Given as goal

abbrev pub invariant-loop-c : goal.invariant-loop-c
invariant-loop-c l = (length l.out ≡ length l.fn.out) × ((k : ℕ) → k < 16 * l.c → slice_index l.out k ≡ pixel_component Rgb l.pixels l.i k)
