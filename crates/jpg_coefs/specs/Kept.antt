-- Blocks by number, as they are or packed.
use Rattle.std.specs.Prelude.{List, ℤ}
use Rattle.jpg_coefs.specs.declared.store.Kept.{Kept}
use Rattle.jpg_coefs.specs.declared.store.Kept.TheVariants.{Whole, Packed}

abbrev pub kept_blocks : Kept → List (List ℤ)
kept_blocks (Whole blocks) = blocks.items
kept_blocks (Packed blocks) = blocks
