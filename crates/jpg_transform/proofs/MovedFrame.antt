-- Frames whose numbers were made one by one.
use Rattle.std.proofs.Common.{◌≡◌, ℕ, List, sym, subst, ◌∙◌, ap, Ok, Err}
use Rattle.jpg_spec.specs.Geometry.{Frame}
use Rattle.jpg_spec.specs.FrameHeader.{IsFrame, checked_frame}
use Rattle.jpg_spec.specs.Segments.{standard_limits}
use Rattle.jpg_spec.specs.declared.fault.Fault.{Fault}
use Rattle.jpg_spec.specs.declared.frame.Component.{Component}
use Rattle.jpg_spec.specs.declared.frame.Limits.{Limits}
use Rattle.jpg_spec.specs.declared.frame.Process.{Process}
use Rattle.jpg_spec.proofs.Headers.SameNumbers.{frame_passes}
use Rattle.jpg_base.specs.Frame.{numbers_of}

-- a frame that has the properties of the checks has no fault
pub has_none : {f : Frame} {q : Process} {m : ℕ} {limits : Limits} {fault : Fault} → f.process ≡ q → f.precision ≡ m → limits ≡ standard_limits
    → Err fault ≡ checked_frame limits f → IsFrame (numbers_of q m f.width f.height f.components) → ⊥
has_none {f} {q} {m} {fault = fault} a b e err is =
    let g : Frame = numbers_of q m f.width f.height f.components in
    let same : f ≡ g = ap (λ p. numbers_of p f.precision f.width f.height f.components) a ∙ ap (λ n. numbers_of q n f.width f.height f.components) b in
    no_fault g fault (err ∙ ap (λ l. checked_frame l f) e ∙ ap (checked_frame standard_limits) same ∙ frame_passes g is)
  where
    no_fault : (g : Frame) (fault : Fault) → Err fault ≡ Ok g → ⊥
    no_fault g fault e = cc

pub same_sides : (p : Process) (n w h v k : ℕ) (cs ds : List Component) → w ≡ v → h ≡ k → cs ≡ ds → IsFrame (numbers_of p n v k ds) → IsFrame (numbers_of p n w h cs)
same_sides p n w h v k cs ds a b c is =
    subst (λ x. IsFrame (numbers_of p n x h cs)) (sym a) (subst (λ y. IsFrame (numbers_of p n v y cs)) (sym b) (subst (λ (es : List Component). IsFrame (numbers_of p n v k es)) (sym c) is))
