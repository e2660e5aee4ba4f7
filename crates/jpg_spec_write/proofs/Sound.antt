-- Sound codings: their data are spelled in one way.
use Rattle.std.proofs.Common.{◌≡◌, true, subst, ◌==◌}
use Rattle.jpg_spec.specs.Codes.{are_codes}
use Rattle.jpg_spec.specs.Segments.{HuffmanTable}
use Rattle.jpg_spec_write.specs.ScanText.{typical_table, typical_tables}
use Rattle.jpg_spec.specs.Sound.{AreTables}
use Rattle.jpg_spec.proofs.Basics.Common.{some_once}
use Rattle.jpg_spec.proofs.Bits.Sound.{typical_by}

pub typical_valid : AreTables typical_tables
typical_valid class slot table e =
    subst (λ (t : HuffmanTable). are_codes 1 0 t.counts ≡ true) (some_once (typical_table class slot) table e) (typical_by (class == 0) (slot == 0))
