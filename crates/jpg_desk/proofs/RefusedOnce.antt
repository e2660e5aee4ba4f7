-- An input has one first fault, whatever is asked for.
use Rattle.std.proofs.Common.{◌≡◌, ℕ, List, ap, ◌∙◌}
use Rattle.jpg_spec.specs.Segments.{standard_limits}
use Rattle.jpg_spec.specs.declared.fault.FaultAt.{FaultAt}
use Rattle.jpg_spec.specs.declared.fault.Fault.{Fault}
use Rattle.jpg_spec.proofs.Files.FileLaws.{first_fault_once}
use Rattle.jpg_desk.specs.ReadPicture.{IsRefused}

pub same_refusal : (f g : FaultAt) → f.fault ≡ g.fault → f.at ≡ g.at → f ≡ g
same_refusal f g e h = ap (λ (k : Fault). let x : FaultAt = record { fault = k; at = f.at } in x) e ∙ ap (λ n. let x : FaultAt = record { fault = g.fault; at = n } in x) h

pub one_refusal : (input : List ℕ) (f g : FaultAt) → IsRefused input f → IsRefused input g → f ≡ g
one_refusal input f g a b = let same = first_fault_once standard_limits input f.fault g.fault f.at g.at a b in same_refusal f g same.0 same.1
