-- What a walk returns.
use Rattle.std.specs.Prelude.{◌≡◌, ◌++◌, Bool, List, [], Contains}
use Rattle.jpg_spec.specs.Codes.{Code}
use Rattle.jpg_huff.specs.declared.walk.WalkStep.{WalkStep}
use Rattle.jpg_huff.specs.declared.walk.WalkStep.TheVariants.{More, Symbol, NoCode}
use Rattle.jpg_spec.specs.Parts.{BeginsCode}

-- no code is these bits or begins with them
abbrev pub BeginsNoCode : List Code → List Bool → Type 0
BeginsNoCode table bits = (code : Code) (more : List Bool) → Contains table code → code.0 ≡ bits ++ more → ⊥

-- the result at these bits, and those that are kept
abbrev pub WalkAnswers : List Code → List Bool → WalkStep → List Bool → Type 0
WalkAnswers table bits More new = BeginsCode table bits × (new ≡ bits)
WalkAnswers table bits (Symbol s) new = Contains table (bits, s) × (new ≡ [])
WalkAnswers table bits NoCode new = BeginsNoCode table bits × (new ≡ [])
