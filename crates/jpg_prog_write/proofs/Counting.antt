-- The slots of a scan that is counted.
use Rattle.std.proofs.Common.{◌<◌, List, [], ◌∷◌, lit<}
use Rattle.std.specs.Prelude.{slice_index_or, All}
use Rattle.std.proofs.lemmas.List.Elements.{All-head}
use Rattle.jpg_spec.specs.Segments.{ScanHead}
use Rattle.jpg_spec.specs.declared.frame.ScanPart.{ScanPart}
use Rattle.jpg_coefs.specs.MarkSinks.{HasSlots}
use Rattle.jpg_prog_write.specs.Written.{no_scan_part, first_slot}

pub small_slot : (head : ScanHead) → All HasSlots head.parts → first_slot head < 2
small_slot head all = by head.parts all
  where
    by : (parts : List ScanPart) → All HasSlots parts → (slice_index_or parts 0 no_scan_part).ac < 2
    by [] all = lit< tt
    by (p ∷ parts) all = (All-head HasSlots p parts all).ac
