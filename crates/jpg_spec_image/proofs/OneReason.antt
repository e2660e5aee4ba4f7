-- A file has at most one header, so that there is at most one reason for which it can't be displayed, at one place.
use Rattle.std.proofs.Common.{◌≡◌, ℕ, Bool, List, length, take, drop, sym, ap, ◌∙◌, Option, Some}
use Rattle.std.proofs.lemmas.List.{take-append-drop, length-take-le}
use Rattle.jpg_spec.specs.Markers.{Segment}
use Rattle.jpg_spec_image.specs.NotShown.{IsNotShown}
use Rattle.jpg_spec.specs.InForce.{frame_of, colours_after, factors_after}
use Rattle.jpg_spec_image.specs.Pixels.{out_fault_of}
use Rattle.jpg_spec.specs.declared.fault.FaultAt.{FaultAt}
use Rattle.jpg_spec.specs.declared.fault.Fault.{Fault}
use Rattle.jpg_spec.specs.declared.frame.Limits.{Limits}
use Rattle.jpg_spec.proofs.Headers.OneHeader.{whole_once}
use Rattle.jpg_spec.proofs.Basics.Common.{some_once}

-- the fault, if any, for which a picture can't be displayed, by these segments
abbrev pub reason_after : Limits → Bool → List Segment → Option Fault
reason_after limits gray before = out_fault_of (frame_of limits before).precision (colours_after limits before) gray (factors_after limits before)

pub one_reason : (limits : Limits) (gray : Bool) (bytes : List ℕ) (f g : FaultAt) → IsNotShown limits gray bytes f → IsNotShown limits gray bytes g → f ≡ g
one_reason limits gray bytes f g s t =
    let cut = take-append-drop f.at bytes ∙ sym (take-append-drop g.at bytes) in
    let same = whole_once limits (take f.at bytes) (take g.at bytes) (drop f.at bytes) (drop g.at bytes) s.before t.before s.contents t.contents s.header t.header cut in
    let place : f.at ≡ g.at = sym (length-take-le f.at bytes s.within) ∙ ap length same.0 ∙ length-take-le g.at bytes t.within in
    let told : Some f.fault ≡ Some g.fault = sym s.fault ∙ ap (reason_after limits gray) same.1 ∙ t.fault in
    ap (λ (x : Fault). (let k : FaultAt = record { fault = x; at = f.at } in k)) (some_once f.fault g.fault told)
    ∙ ap (λ (n : ℕ). (let k : FaultAt = record { fault = g.fault; at = n } in k)) place
