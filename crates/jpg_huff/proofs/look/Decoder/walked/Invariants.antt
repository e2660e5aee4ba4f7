use Rattle.std.specs.Prelude.{◌≡◌, take}
use Rattle.jpg_spec.specs.Parts.{IsFront}
use Rattle.jpg_huff.specs.Tables.{symbol_codes}
use Rattle.jpg_huff.proofs.look.Decoder.walked.Given as goal

abbrev pub invariant-loop-i : goal.invariant-loop-i
invariant-loop-i l = (l.walk ≡ take l.i l.bits) × IsFront (symbol_codes l.self-inside.table) (take l.i l.bits)
