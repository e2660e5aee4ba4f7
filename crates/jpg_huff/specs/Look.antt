-- The lookup of codes, and the code that bits begin with.
use Rattle.std.specs.Prelude.{◌≡◌, ℕ, ◌-◌, ◌/◌, ◌%◌, ◌<◌, ◌≤◌, ◌==◌, if◌then◌else◌, Bool, List, ◌++◌, length, take, slice_index, Option, None, Some, Contains}
use Rattle.jpg_spec.specs.Bits.{bits_of}
use Rattle.jpg_spec.specs.Codes.{Code}
use Rattle.jpg_spec.specs.Parts.{IsFront}
use Rattle.jpg_huff.specs.Walk.{BeginsNoCode}
use Rattle.jpg_huff.specs.declared.look.Found.{Found}
use Rattle.jpg_huff.specs.declared.look.Look.{Look}
use Rattle.jpg_huff.specs.declared.look.Spotted.{Spotted}
use Rattle.jpg_huff.specs.declared.look.Spotted.TheVariants.{Symbol, Part, NoCode}

-- The code of at most eight bits that these eight begin with, exactly where there is one.
abbrev pub LooksUp : List Code → List Bool → Option Found → Type 0
LooksUp codes eight None = (code : Code) (more : List Bool) → Contains codes code → eight ≡ code.0 ++ more → ⊥
LooksUp codes eight (Some f) = (1 ≤ f.length) × (f.length ≤ 8) × Contains codes (take f.length eight, f.symbol)

-- the entry of eight bits: 256 times the code's length, plus its symbol; 0 for none
abbrev pub found_of : ℕ → Option Found
found_of entry = if entry == 0 then None else Some (record { length = entry / 256; symbol = entry % 256 })

pub record AreLookedUp (codes : List Code) (entries : List ℕ) : Type 0 where
  pub each : (n : ℕ) → n < 256 → LooksUp codes (bits_of 8 n) (found_of (slice_index entries n))

-- it looks up these codes
abbrev pub IsLookOf : List Code → Look → Type 0
IsLookOf codes look = AreLookedUp codes look.entries

-- what these bits begin with: a code with its symbol, a proper prefix of one, or bits that begin none
abbrev pub Spots : List Code → List Bool → Spotted → Type 0
Spots codes bits (Symbol n symbol) = (1 ≤ n) × (n ≤ 16) × (n ≤ length bits) × Contains codes (take n bits, symbol)
Spots codes bits Part = IsFront codes bits × (length bits < 16)
Spots codes bits (NoCode n) = (1 ≤ n) × (n ≤ length bits) × IsFront codes (take (n - 1) bits) × BeginsNoCode codes (take n bits)
