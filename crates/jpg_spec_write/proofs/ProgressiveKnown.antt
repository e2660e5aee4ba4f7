-- What is known of a picture after some progressive scans.
use Rattle.std.proofs.Common.{◌≡◌, ℕ, zero, suc, ◌+◌, ◌<◌, ◌≤◌, Bool, true, false, not, List, ◌∷◌, length, refl, sym, ap, ◌∙◌, subst, arith, Option, Some, None, ℤ, pos, ◌==◌, ◌&&◌}
use Rattle.std.specs.Prelude.{◌||◌, nat_le, nat_lt}
use Rattle.std.proofs.lemmas.List.{ext_get_or}
use Rattle.jpg_spec.specs.Lists.{all_of, is_distinct, below}
use Rattle.jpg_spec.specs.Geometry.{Frame, bounds, bounds_of, factor_sum, is_real}
use Rattle.jpg_spec.specs.Segments.{ScanHead, head_components}
use Rattle.jpg_spec.specs.Elements.{scaled}
use Rattle.jpg_spec_write.specs.Sending.{shifted, divided}
use Rattle.jpg_spec.specs.Scan.{Blocks, coefficient}
use Rattle.jpg_spec.specs.Meaning.{Meaning}
use Rattle.jpg_spec.specs.ScanContents.{is_band, are_bits, are_parameters}
use Rattle.jpg_spec.specs.History.{has_coefficient, known_to, is_known_to, is_next}
use Rattle.jpg_spec_write.specs.FileText.{frame_of_meaning}
use Rattle.jpg_spec_write.specs.WrittenFile.{is_progressive_entry}
use Rattle.jpg_spec.proofs.Basics.Small.{IsDc, scaled_none}
use Rattle.jpg_spec_write.proofs.Shifts.{shifted_none, divided_none}
use Rattle.jpg_spec.proofs.Basics.Each.{Each}
use Rattle.jpg_spec_write.proofs.WrittenSequential.{each_below}
use Rattle.jpg_spec.proofs.Bits.FirstPasses.{all_below}
use Rattle.jpg_spec.proofs.Basics.Common.{both, negated, le_of}
use Rattle.jpg_spec.proofs.Places.Known.{is_known, known_new, known_old}

-- WHAT IS KNOWN of a value down to a bit, or if it is unsent

abbrev pub ac_known : Option ℕ → ℤ → ℤ
ac_known None v = pos 0
ac_known (Some al) v = scaled al (divided al v)

abbrev pub dc_known_to : Option ℕ → ℤ → ℤ
dc_known_to None v = pos 0
dc_known_to (Some al) v = scaled al (shifted al v)

-- and of a padding block
abbrev pub IsPad : ℕ → Option ℕ → ℤ → Type 0
IsPad precision None w = w ≡ pos 0
IsPad precision (Some al) w = IsDc (bounds_of precision) w × ((q : ℤ) × (w ≡ scaled al q))

pub record IsKnown (H : Meaning) (heads : List ScanHead) (blocks : Blocks) : Type 0 where
  pub ac : (i x y k : ℕ) → i < length H.components → is_real (frame_of_meaning H) i x y ≡ true → 1 ≤ k → k < 64 → coefficient blocks i x y k ≡ ac_known (known_to heads i k) (coefficient H.blocks i x y k)
  pub dc : (i x y : ℕ) → i < length H.components → is_real (frame_of_meaning H) i x y ≡ true → coefficient blocks i x y 0 ≡ dc_known_to (known_to heads i 0) (coefficient H.blocks i x y 0)
  pub pad : (i x y : ℕ) → i < length H.components → IsPad H.precision (known_to heads i 0) (coefficient blocks i x y 0)
  pub few : (i k al : ℕ) → known_to heads i k ≡ Some al → al ≤ (bounds_of H.precision).al

-- THE CONDITIONS OF AN ENTRY

pub record IsProgressiveEntry (f : Frame) (heads : List ScanHead) (head : ScanHead) : Type 0 where
  pub some : 1 ≤ length head.parts
  pub few : length head.parts ≤ 4
  pub known : Each (λ i. i < length f.components) (head_components head)
  pub distinct : is_distinct (head_components head) ≡ true
  pub small : (nat_lt 1 (length head.parts) && nat_lt 10 (factor_sum f (head_components head))) ≡ false
  pub parameters : are_parameters f (length head.parts) head ≡ true
  pub next : all_of (is_next heads head) (head_components head) ≡ true
  pub al : head.al ≤ (bounds f).al

pub progressive_entry : (f : Frame) (heads : List ScanHead) (head : ScanHead) → is_progressive_entry f heads head ≡ true → IsProgressiveEntry f heads head
progressive_entry f heads head h =
    let n = length head.parts in
    let comps = head_components head in
    let size = nat_le 1 n && nat_le n 4 in
    let known = all_of (λ i. nat_lt i (length f.components)) comps in
    let d = is_distinct comps in
    let big = nat_lt 1 n && nat_lt 10 (factor_sum f comps) in
    let par = are_parameters f n head in
    let next = all_of (is_next heads head) comps in
    let a = both size (known && (d && (not big && (par && next)))) h in
    let b = both (nat_le 1 n) (nat_le n 4) a.0 in
    let k = both known (d && (not big && (par && next))) a.1 in
    let m = both d (not big && (par && next)) k.1 in
    let o = both (not big) (par && next) m.1 in
    let q = both par next o.1 in
    let r = both (is_band n head) (are_bits f head) q.0 in
    let t = both (head.ah == 0 || head.ah == head.al + 1) (nat_le head.al (bounds f).al) r.1 in
    record { some = le_of 1 n b.0; few = le_of n 4 b.1; known = each_below (length f.components) comps k.0; distinct = m.0; small = negated big o.0; parameters = q.0; next = q.1; al = le_of head.al (bounds f).al t.1 }

-- AT THE END all is known
known_all : (H : Meaning) (heads : List ScanHead) (blocks : Blocks) (i x y : ℕ) → IsKnown H heads blocks → i < length H.components → is_real (frame_of_meaning H) i x y ≡ true
    → ((k : ℕ) → k < 64 → known_to heads i k ≡ Some 0) → (k : ℕ) → k < 64 → coefficient blocks i x y k ≡ coefficient H.blocks i x y k
known_all H heads blocks i x y is known real all zero h =
    is.dc i x y known real ∙ ap (λ o. dc_known_to o (coefficient H.blocks i x y 0)) (all 0 h) ∙ ap (scaled 0) (shifted_none (coefficient H.blocks i x y 0)) ∙ scaled_none (coefficient H.blocks i x y 0)
known_all H heads blocks i x y is known real all (suc k) h =
    is.ac i x y (suc k) known real (omega arith) h ∙ ap (λ o. ac_known o (coefficient H.blocks i x y (suc k))) (all (suc k) h)
    ∙ ap (scaled 0) (divided_none (coefficient H.blocks i x y (suc k))) ∙ scaled_none (coefficient H.blocks i x y (suc k))

pub known_whole : (H : Meaning) (heads : List ScanHead) (blocks : Blocks) (i x y : ℕ) → IsKnown H heads blocks → i < length H.components → is_real (frame_of_meaning H) i x y ≡ true
    → all_of (λ i. all_of (λ k. is_known_to (known_to heads i k) 0) (below 64)) (below (length H.components)) ≡ true → length (blocks i x y) ≡ 64 → length (H.blocks i x y) ≡ 64 → blocks i x y ≡ H.blocks i x y
known_whole H heads blocks i x y is known real all l m =
    let here = all_below (λ i. all_of (λ k. is_known_to (known_to heads i k) 0) (below 64)) (length H.components) i all known in
    ext_get_or (pos 0) (blocks i x y) (H.blocks i x y) (l ∙ sym m)
    (λ k h. known_all H heads blocks i x y is known real (λ k s. is_known (known_to heads i k) 0 (all_below (λ k. is_known_to (known_to heads i k) 0) 64 k here s)) k (subst (λ n. k < n) l h))

-- ONE MORE SCAN

-- the effect of a scan on the blocks: by the band of its head, at the places of its components
pub record IsRenewed (H : Meaning) (heads : List ScanHead) (head : ScanHead) (before after : Blocks) : Type 0 where
  pub stays : (i x y k : ℕ) → has_coefficient head i k ≡ false → coefficient after i x y k ≡ coefficient before i x y k
  pub ac : (i x y k : ℕ) → i < length H.components → is_real (frame_of_meaning H) i x y ≡ true → 1 ≤ k → k < 64 → has_coefficient head i k ≡ true → coefficient after i x y k ≡ scaled head.al (divided head.al (coefficient H.blocks i x y k))
  pub dc : (i x y : ℕ) → i < length H.components → is_real (frame_of_meaning H) i x y ≡ true → has_coefficient head i 0 ≡ true → coefficient after i x y 0 ≡ scaled head.al (shifted head.al (coefficient H.blocks i x y 0))
  pub pad : (i x y : ℕ) → i < length H.components → has_coefficient head i 0 ≡ true → IsPad H.precision (Some head.al) (coefficient after i x y 0)

pub known_step : (H : Meaning) (heads : List ScanHead) (head : ScanHead) (before after : Blocks) → head.al ≤ (bounds_of H.precision).al → IsKnown H heads before → IsRenewed H heads head before after → IsKnown H (head ∷ heads) after
known_step H heads head before after low is r = record {
  ac = λ i x y k l real a b. ac_by i x y k l real a b (has_coefficient head i k) refl;
  dc = λ i x y l real. dc_by i x y l real (has_coefficient head i 0) refl;
  pad = λ i x y l. pad_by i x y l (has_coefficient head i 0) refl;
  few = λ i k al e. few_by i k al e (has_coefficient head i k) refl;
}
  where
    ac_by : (i x y k : ℕ) → i < length H.components → is_real (frame_of_meaning H) i x y ≡ true → 1 ≤ k → k < 64 → (b : Bool) → has_coefficient head i k ≡ b → coefficient after i x y k ≡ ac_known (known_to (head ∷ heads) i k) (coefficient H.blocks i x y k)
    ac_by i x y k l real a b true h = r.ac i x y k l real a b h ∙ ap (λ o. ac_known o (coefficient H.blocks i x y k)) (sym (known_new heads head i k h))
    ac_by i x y k l real a b false h = r.stays i x y k h ∙ is.ac i x y k l real a b ∙ ap (λ o. ac_known o (coefficient H.blocks i x y k)) (sym (known_old heads head i k h))

    dc_by : (i x y : ℕ) → i < length H.components → is_real (frame_of_meaning H) i x y ≡ true → (b : Bool) → has_coefficient head i 0 ≡ b → coefficient after i x y 0 ≡ dc_known_to (known_to (head ∷ heads) i 0) (coefficient H.blocks i x y 0)
    dc_by i x y l real true h = r.dc i x y l real h ∙ ap (λ o. dc_known_to o (coefficient H.blocks i x y 0)) (sym (known_new heads head i 0 h))
    dc_by i x y l real false h = r.stays i x y 0 h ∙ is.dc i x y l real ∙ ap (λ o. dc_known_to o (coefficient H.blocks i x y 0)) (sym (known_old heads head i 0 h))

    pad_by : (i x y : ℕ) → i < length H.components → (b : Bool) → has_coefficient head i 0 ≡ b → IsPad H.precision (known_to (head ∷ heads) i 0) (coefficient after i x y 0)
    pad_by i x y l true h = subst (λ o. IsPad H.precision o (coefficient after i x y 0)) (sym (known_new heads head i 0 h)) (r.pad i x y l h)
    pad_by i x y l false h = subst (λ o. IsPad H.precision o (coefficient after i x y 0)) (sym (known_old heads head i 0 h)) (subst (λ v. IsPad H.precision (known_to heads i 0) v) (sym (r.stays i x y 0 h)) (is.pad i x y l))

    few_by : (i k al : ℕ) → known_to (head ∷ heads) i k ≡ Some al → (b : Bool) → has_coefficient head i k ≡ b → al ≤ (bounds_of H.precision).al
    few_by i k al e true h = let s : Some head.al ≡ Some al = sym (known_new heads head i k h) ∙ e in subst (λ n. n ≤ (bounds_of H.precision).al) (same head.al al s) low
      where
        same : (a b : ℕ) → Some a ≡ Some b → a ≡ b
        same a b e = cc
    few_by i k al e false h = is.few i k al (sym (known_old heads head i k h) ∙ e)
