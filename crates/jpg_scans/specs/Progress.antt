-- The history of scans, and what it means (T.81, B.2.3, G.1.1.1).
use Rattle.std.specs.Prelude.{◌≡◌, ℕ, ◌<◌, Bool, not, find, flat_map, map, drop, option_map, None, Some, List, ◌∷◌, length, slice_index_or, Option, Result, Ok, Err}
use Rattle.jpg_spec.specs.Geometry.{Frame, is_progressive}
use Rattle.jpg_spec.specs.History.{has_begun, known_to, is_known_to, order_fault}
use Rattle.jpg_spec.specs.Lists.{below}
use Rattle.jpg_spec.specs.Segments.{ScanHead}
use Rattle.jpg_spec.specs.declared.fault.Fault.{Fault}
use Rattle.jpg_spec_write.specs.declared.picture_fault.PictureFault.{PictureFault}
use Rattle.jpg_spec_write.specs.declared.picture_fault.PictureFault.TheVariants.{ScriptIncomplete}
use Rattle.jpg_scans.specs.declared.progress.Progress.{Progress}
use Rattle.jpg_scans.specs.declared.sent.Sent.{Sent}
use Rattle.jpg_scans.specs.Sent.{known_in, nothing_sent}

abbrev pub sent_of : Progress → ℕ → Sent
sent_of p i = slice_index_or p.components i nothing_sent

-- whether a component was in a scan
abbrev pub begun_at : Progress → ℕ → Bool
begun_at p i = (sent_of p i).is_begun

-- the bit down to which a coefficient of a component is known
abbrev pub known_at : Progress → ℕ → ℕ → Option ℕ
known_at p i k = known_in (sent_of p i) k

-- the scans of a frame so far had these heads, the newest first
pub record RepresentsScans (p : Progress) (f : Frame) (heads : List ScanHead) : Type 0 where
  pub process : p.is_progressive ≡ is_progressive f.process
  pub count : p.count ≡ length f.components
  pub begun : (i : ℕ) → i < 4 → begun_at p i ≡ has_begun heads i
  pub known : (i k : ℕ) → i < 4 → k < 64 → known_at p i k ≡ known_to heads i k

-- what a result says of a head, and the history afterwards
abbrev pub IsJudged : Frame → List ScanHead → ScanHead → Result (Unit {0}) Fault → Progress → Type 0
IsJudged f heads head (Ok done) new = (order_fault f heads head ≡ None) × RepresentsScans new f (head ∷ heads)
IsJudged f heads head (Err fault) new = order_fault f heads head ≡ Some fault

-- whatever scans of whatever frame there were
abbrev pub Admits : Progress → ScanHead → Result (Unit {0}) Fault → Progress → Type 0
Admits old head answer new = (f : Frame) (heads : List ScanHead) → RepresentsScans old f heads → IsJudged f heads head answer new

-- the first coefficient that isn't known down to bit 0, of n components from component i on
unfoldable pub unknown_from : Progress → ℕ → ℕ → Option PictureFault
unknown_from p n i =
    option_map (λ (c : ℕ × ℕ). ScriptIncomplete c.0 c.1 (known_at p c.0 c.1))
    (find (λ (c : ℕ × ℕ). not (is_known_to (known_at p c.0 c.1) 0)) (flat_map (λ i. map (λ k. (i, k)) (below 64)) (drop i (below n))))
