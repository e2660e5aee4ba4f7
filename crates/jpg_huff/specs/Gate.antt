-- What a gate lets through (T.81, B.1.1.5): whether FF waits, a byte, what passes, and whether FF waits then.
use Rattle.std.specs.Prelude.{◌≡◌, ◌≢◌, ℕ, Bool, true, false}
use Rattle.jpg_huff.specs.declared.gate.Passed.{Passed}
use Rattle.jpg_huff.specs.declared.gate.Passed.TheVariants.{More, Data, Marker}

-- the data byte at this byte
abbrev pub IsData : Bool → ℕ → ℕ → Type 0
IsData false byte passed = (byte ≢ 255) × (passed ≡ byte)
IsData true byte passed = (byte ≡ 0) × (passed ≡ 255)

abbrev pub Passes : Bool → ℕ → Passed → Bool → Type 0
Passes old byte More new = (byte ≡ 255) × (new ≡ true)
Passes old byte (Data passed) new = IsData old byte passed × (new ≡ false)
Passes old byte (Marker code) new = (old ≡ true) × (byte ≢ 255) × (byte ≢ 0) × (code ≡ byte) × (new ≡ false)
