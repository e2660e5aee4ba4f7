use Rattle.std.specs.Prelude.{◌≡◌, length}
use Rattle.jpg_huff.specs.Sets.{ac_tables}
use Rattle.jpg_huff.specs.Tables.{symbol_codes}
use Rattle.jpg_huff.proofs.EncoderSlots.{HasFirst}
use Rattle.jpg_huff.proofs.encoder.put_encoders.Given as goal

abbrev pub invariant-loop-slot : goal.invariant-loop-slot
invariant-loop-slot l = (length l.places ≡ 4) × HasFirst symbol_codes (ac_tables l.tables) l.slot l.places
