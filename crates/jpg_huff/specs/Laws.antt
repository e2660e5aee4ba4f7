-- What holds of every table and every set of them, and of bytes that go through a gate.
use Rattle.std.specs.Prelude.{◌≡◌, ℕ, ◌-◌, ◌≤◌, Bool, true, false, List, [], ◌∷◌, ◌++◌, length, sum, replicate, slice_get, Option, Some, Result, Contains}
use Rattle.jpg_spec.specs.Codes.{Code, AreCodes, are_codes}
use Rattle.jpg_spec.specs.Segments.{HuffmanTable}
use Rattle.jpg_huff.specs.declared.gate.Passed.{Passed}
use Rattle.jpg_huff.specs.declared.gate.Passed.TheVariants.{More}
use Rattle.jpg_huff.specs.Gate.{Passes}
use Rattle.jpg_base.specs.Desk.{DeskState}
use Rattle.jpg_base.specs.declared.stop.WriteFault.{WriteFault}
use Rattle.jpg_spec.specs.Bits.{data_of}
use Rattle.jpg_huff.specs.declared.walk.WalkStep.{WalkStep}
use Rattle.jpg_huff.specs.BitOut.{Puts, Pads, Sends}
use Rattle.jpg_huff.specs.Waiting.{Waiting}
use Rattle.jpg_huff.specs.Walk.{WalkAnswers}

-- counts for sixteen lengths and as many symbols, whose codes fit
pub record IsTable (table : HuffmanTable) : Type 0 where
  pub sixteen : length table.counts ≡ 16
  pub many : length table.symbols ≡ sum table.counts
  pub most : sum table.counts ≤ 256
  pub fit : AreCodes 1 0 table.counts
  pub tested : are_codes 1 0 table.counts ≡ true

-- each of these slots is empty or has such a table
abbrev pub HaveTables : List (Option HuffmanTable) → Type 0
HaveTables slots = (slot : ℕ) (table : HuffmanTable) → slice_get slots slot ≡ Some (Some table) → IsTable table

-- of two codes that the same bits begin with, neither is longer
abbrev pub AreApart : List Code → Type 0
AreApart table = (a b : Code) (x y : List Bool) → Contains table a → Contains table b → a.0 ++ x ≡ b.0 ++ y → a ≡ b

-- bytes that are fed one by one, and the results
abbrev pub PassesAll : Bool → List ℕ → List Passed → Bool → Type 0
PassesAll old [] answers new = (answers ≡ []) × (new ≡ old)
PassesAll old (byte ∷ bytes) [] new = ⊥
PassesAll old (byte ∷ bytes) (answer ∷ answers) new = (mid : Bool) × Passes old byte answer mid × PassesAll mid bytes answers new

-- nothing passes before the last of the bytes
abbrev pub AtLast : Passed → List ℕ → List Passed → Type 0
AtLast last bytes answers = answers ≡ replicate (length bytes - 1) More ++ last ∷ []

-- at the same bits one result of a walk is right
abbrev pub HasOneAnswer : List Code → Type 0
HasOneAnswer table = (bits new other : List Bool) (a b : WalkStep) → WalkAnswers table bits a new → WalkAnswers table bits b other → a ≡ b

-- the bytes that are fed pass as this, at the last of them
abbrev pub PassAs : Passed → List ℕ → Type 0
PassAs last bytes = (answers : List Passed) (new : Bool) → PassesAll false bytes answers new → AtLast last bytes answers × (new ≡ false)

-- what is put after these bits is as put at once
abbrev pub PutsGoOn : DeskState → Waiting → List Bool → Waiting → DeskState → Type 0
PutsGoOn s0 old xs mid s1 = (s2 : DeskState) (new : Waiting) (ys : List Bool) (r : Result (Unit {0}) WriteFault) → Puts s1 mid ys r new s2 → Puts s0 old (xs ++ ys) r new s2

-- a pad after these bits sends their data
abbrev pub PadSendsData : DeskState → Waiting → List Bool → Waiting → DeskState → Type 0
PadSendsData s0 old xs mid s1 = (s2 : DeskState) (new : Waiting) (r : Result (Unit {0}) WriteFault) → Pads s1 mid r new s2 → Sends s0 old (data_of xs) r new s2

-- what is sent after these bytes is as sent at once
abbrev pub SendsGoOn : DeskState → Waiting → List ℕ → Waiting → DeskState → Type 0
SendsGoOn s0 old xs mid s1 = (s2 : DeskState) (new : Waiting) (ys : List ℕ) (r : Result (Unit {0}) WriteFault) → Sends s1 mid ys r new s2 → Sends s0 old (xs ++ ys) r new s2
