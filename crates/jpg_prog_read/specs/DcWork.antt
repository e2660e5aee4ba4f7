-- The current unit of a DC scan.
use Rattle.std.specs.Prelude.{◌≡◌, ℕ, ◌<◌, ◌≤◌, Bool, List, [], ◌∷◌, ◌++◌, length, ℤ, pos, negsuc, ◌≤ℤ◌, ◌*ℤ◌}
use Rattle.jpg_spec.specs.Numbers.{category, extra_bits}
use Rattle.jpg_prog_read.specs.declared.scan.DcScan.{DcScan}
use Rattle.jpg_prog_read.specs.declared.dc.DcValue.{DcValue}
use Rattle.jpg_prog_read.specs.declared.dc.DcValue.TheVariants.{Within, Beyond}
use Rattle.jpg_prog_read.specs.declared.dc.DcSide.{DcSide}
use Rattle.jpg_prog_read.specs.declared.dc.DcSide.TheVariants as side
use Rattle.jpg_prog_read.specs.declared.dc.DcStage.{DcStage}
use Rattle.jpg_prog_read.specs.declared.dc.DcStage.TheVariants.{Code, Number}
use Rattle.jpg_prog_read.specs.declared.dc.DcExtra.{DcExtra}
use Rattle.jpg_prog_read.specs.declared.dc.DcExtra.TheVariants.{Wanting, Whole}
use Rattle.jpg_prog_read.specs.declared.dc.DcStep.{DcStep}
use Rattle.jpg_prog_read.specs.declared.dc.DcStep.TheVariants.{More, Done, Fault}

-- The bits of the current code; and, if a size isn't 0, that of the number whose extra bits follow.
pub record DcWork : Type 0 where
  pub walked : List Bool
  pub size : ℕ
  pub extra : List Bool

-- before the first bit of a unit
abbrev pub fresh : DcWork
fresh = record { walked = []; size = 0; extra = [] }

-- a number that is begun needs bits
abbrev pub IsDcOpen : DcWork → Type 0
IsDcOpen s = 1 ≤ s.size → length s.extra < s.size

-- numbers that fit the reader's types
pub record AreDcSane (b : DcScan) : Type 0 where
  pub low : negsuc 32766 ≤ℤ b.low
  pub high : b.high ≤ℤ pos 32767
  pub some : 1 ≤ b.scale
  pub most : b.most_category ≤ 15

-- a value of the scan
abbrev pub InDcRange : DcScan → ℤ → Type 0
InDcRange b v = (b.low ≤ℤ v) × (v ≤ℤ b.high)

-- w times 2 ^ al, within the range or beyond it
abbrev pub IsDcValue : DcScan → ℤ → DcValue → Type 0
IsDcValue b w (Within p v) = (p ≡ w) × (v ≡ w *ℤ pos b.scale) × InDcRange b (w *ℤ pos b.scale)
IsDcValue b w Beyond = InDcRange b (w *ℤ pos b.scale) → ⊥

-- the current part
abbrev pub IsDcStage : DcStage → DcWork → Type 0
IsDcStage Code s = s.size ≡ 0
IsDcStage Number s = 1 ≤ s.size

-- an extra bit: whether more are needed, or which number is complete
abbrev pub AfterDcExtra : DcWork → Bool → DcExtra → DcWork → Type 0
AfterDcExtra old bit Wanting new = (new ≡ record old { extra = old.extra ++ bit ∷ [] }) × (length new.extra < new.size)
AfterDcExtra old bit (Whole v) new = (category v ≡ old.size) × (extra_bits v ≡ old.extra ++ bit ∷ []) × (new ≡ record old { size = 0; extra = [] })

-- whether the unit goes on
abbrev pub DcStaysOpen : DcStep → DcWork → Type 0
DcStaysOpen More s = IsDcOpen s
DcStaysOpen (Done p v) s = s.size ≡ 0
DcStaysOpen (Fault f) s = Unit {0}

-- whether a number is between two others
abbrev pub IsDcSide : ℤ → ℤ → ℤ → DcSide → Type 0
IsDcSide low high x side.Within = (low ≤ℤ x) × (x ≤ℤ high)
IsDcSide low high x side.Beyond = (low ≤ℤ x) × (x ≤ℤ high) → ⊥
