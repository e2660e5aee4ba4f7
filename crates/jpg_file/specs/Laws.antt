-- What bytes lack that have no first fault.
use Rattle.std.specs.Prelude.{ℕ, List}
use Rattle.jpg_spec.specs.FirstFault.{IsFirstFault}
use Rattle.jpg_spec.specs.declared.fault.Fault.{Fault}
use Rattle.jpg_spec.specs.declared.frame.Limits.{Limits}

-- no fault is the first one of these bytes
abbrev pub HasNoFault : Limits → List ℕ → Type 0
HasNoFault limits bytes = (fault : Fault) (n : ℕ) → IsFirstFault limits bytes fault n → ⊥
