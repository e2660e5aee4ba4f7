-- After a header that breaks no rule the frame is one that passed its checks.
use Rattle.std.proofs.Common.{◌≡◌, ℕ, ◌*◌, Bool, true, false, cond, not, List, [], ◌∷◌, length, refl, sym, ap, ◌∙◌, subst, arith, inl, inr, Option, Some, None, ◌==◌, ◌≢◌, ⊎_elim, get_or, map, zero, suc, ◌≤◌}
use Rattle.std.specs.Prelude.{◌⊎◌, ◌||◌, nat_lt, Ok, Err, option_and_then}
use Rattle.std.proofs.lemmas.Bool.{cases_eq}
use Rattle.std.proofs.lemmas.Bool.Decides.{nat_tests}
use Rattle.jpg_spec.specs.Lists.{any_of, is_distinct}
use Rattle.jpg_spec.specs.Faults.{Parsed, refuse}
use Rattle.jpg_spec.specs.Segments.{two_bytes}
use Rattle.jpg_spec.specs.Geometry.{Frame, padded_blocks, div_up, component_at, no_component}
use Rattle.jpg_spec.specs.FrameHeader.{is_precision, has_bad_factor, has_bad_slot, identifiers, checked_frame, HasFactors}
use Rattle.jpg_spec.specs.FrameContents.{frame_header, parsed_frame}
use Rattle.jpg_spec.specs.Markers.{Segment, Pass, process_of_code, is_frame_code, has_frame, code_fault, code_fault_if}
use Rattle.jpg_spec.specs.InForce.{parsed_some, first_some, frame_in, frame_after}
use Rattle.jpg_spec.specs.Items.{fault_in}
use Rattle.jpg_spec.specs.Header.{header_rule}
use Rattle.jpg_spec.specs.declared.fault.Fault.TheVariants.{EmptyImage, TooLarge, Precision, ComponentCount, Sampling, DuplicateComponent, QuantSlot, TooManyBlocks, BadLength}
use Rattle.jpg_spec.specs.declared.frame.Process.{Process}
use Rattle.jpg_spec.specs.declared.frame.Process.TheVariants.{Baseline, Extended, Progressive}
use Rattle.jpg_spec.specs.declared.frame.Limits.{Limits}
use Rattle.jpg_spec.proofs.Basics.Common.{same_of, refused, not_lt_of, neither}
use Rattle.std.proofs.Math.ListN as listn
use Rattle.std.specs.List.{All}
use Rattle.std.proofs.lemmas.List.Elements.{All-nil, All-cons}
use Rattle.jpg_spec.specs.declared.frame.Component.{Component}

-- WHAT THE CHECKS GUARANTEE

pub record IsChecked (limits : Limits) (f : Frame) : Type 0 where
  pub some : (f.width == 0 || f.height == 0) ≡ false
  pub sides : (nat_lt limits.side f.width || nat_lt limits.side f.height) ≡ false
  pub precision : is_precision f.process f.precision ≡ true
  pub count : (length f.components == 0 || nat_lt 4 (length f.components)) ≡ false
  pub factors : any_of has_bad_factor f.components ≡ false
  pub distinct : is_distinct (identifiers f.components) ≡ true
  pub slots : any_of has_bad_slot f.components ≡ false
  pub blocks : nat_lt limits.blocks (padded_blocks f) ≡ false
  pub passes : checked_frame limits f ≡ Ok f

pub checks : (limits : Limits) (f g : Frame) → checked_frame limits f ≡ Ok g → IsChecked limits f × (f ≡ g)
unfolding checked_frame
checks limits f g e =
    let many : Parsed Frame = refuse TooManyBlocks (nat_lt limits.blocks (padded_blocks f)) (Ok f) in
    let slots = refuse QuantSlot (any_of has_bad_slot f.components) many in
    let twice = refuse DuplicateComponent (not (is_distinct (identifiers f.components))) slots in
    let factors = refuse Sampling (any_of has_bad_factor f.components) twice in
    let count = refuse ComponentCount (length f.components == 0 || nat_lt 4 (length f.components)) factors in
    let precision = refuse Precision (not (is_precision f.process f.precision)) count in
    let sides = refuse TooLarge (nat_lt limits.side f.width || nat_lt limits.side f.height) precision in
    let a = refused EmptyImage (f.width == 0 || f.height == 0) sides g e in
    let b = refused TooLarge (nat_lt limits.side f.width || nat_lt limits.side f.height) precision g a.1 in
    let k = refused Precision (not (is_precision f.process f.precision)) count g b.1 in
    let m = refused ComponentCount (length f.components == 0 || nat_lt 4 (length f.components)) factors g k.1 in
    let n = refused Sampling (any_of has_bad_factor f.components) twice g m.1 in
    let o = refused DuplicateComponent (not (is_distinct (identifiers f.components))) slots g n.1 in
    let p = refused QuantSlot (any_of has_bad_slot f.components) many g o.1 in
    let q = refused TooManyBlocks (nat_lt limits.blocks (padded_blocks f)) (Ok f) g p.1 in
    let checked : IsChecked limits f = record {
      some = a.0;
      sides = b.0;
      precision = affirmed (is_precision f.process f.precision) k.0;
      count = m.0;
      factors = n.0;
      distinct = affirmed (is_distinct (identifiers f.components)) o.0;
      slots = p.0;
      blocks = q.0;
      passes = e ∙ sym (ap Ok (same_frame f g q.1));
    } in
    (checked, same_frame f g q.1)
  where
    same_frame : (f g : Frame) → (let a : Parsed Frame = Ok f in a) ≡ Ok g → f ≡ g
    same_frame f g e = cc

    affirmed : (b : Bool) → not b ≡ false → b ≡ true
    affirmed true e = refl
    affirmed false e = sym e

-- A FRAME HEADER that has no fault gives a frame that passed

told_checked : (limits : Limits) (process : Process) (contents : List ℕ) (f : Frame) → frame_header limits process contents ≡ Ok f → IsChecked limits f
told_checked limits process (p ∷ y1 ∷ y0 ∷ x1 ∷ x0 ∷ count ∷ parts) f e =
    let told = parsed_frame process p (two_bytes y1 y0) (two_bytes x1 x0) parts in
    let r = refused BadLength (not (length parts == 3 * count)) (checked_frame limits told) f e in
    let h = checks limits told f r.1 in
    subst (λ g. IsChecked limits g) h.1 h.0
told_checked limits process contents f e = cc

-- and it is of that process
pub told_process : (limits : Limits) (process : Process) (contents : List ℕ) (f : Frame) → frame_header limits process contents ≡ Ok f → f.process ≡ process
told_process limits process (p ∷ y1 ∷ y0 ∷ x1 ∷ x0 ∷ count ∷ parts) f e =
    let g = parsed_frame process p (two_bytes y1 y0) (two_bytes x1 x0) parts in
    let r = refused BadLength _ (checked_frame limits g) f e in
    sym (ap (λ (h : Frame). h.process) (checks limits g f r.1).1)
told_process limits process contents f e = cc

abbrev pub Found : Limits → Option Frame → Type 0
Found limits o = (f : Frame) × (o ≡ Some f) × IsChecked limits f

header_found : (limits : Limits) (process : Process) (contents : List ℕ) (others : Option Frame) → fault_in (frame_header limits process contents) ≡ None → Found limits (first_some (parsed_some (frame_header limits process contents)) others)
header_found limits process contents others e = by (frame_header limits process contents) refl e
  where
    by : (t : Parsed Frame) → frame_header limits process contents ≡ t → fault_in t ≡ None → Found limits (first_some (parsed_some t) others)
    by (Ok f) h e = (f, refl, told_checked limits process contents f h)
    by (Err fault) h e = cc

-- THE CODES of frame headers

three : (code : ℕ) → is_frame_code code ≡ true → (code ≡ 0xc0) ⊎ ((code ≡ 0xc1) ⊎ (code ≡ 0xc2))
three code e =
    ⊎_elim
    (λ a. inl a)
    (λ (a : code ≢ 0xc0).
    ⊎_elim
    (λ b. inr (inl b))
    (λ (b : code ≢ 0xc1). inr (inr (last code e a b)))
    (cases_eq code 0xc1))
    (cases_eq code 0xc0)
  where
    last : (code : ℕ) → is_frame_code code ≡ true → code ≢ 0xc0 → code ≢ 0xc1 → code ≡ 0xc2
    last code e a b = grind (arith, nat_tests)

pub no_process : (code : ℕ) → is_frame_code code ≡ false → process_of_code code ≡ None
no_process code e = by (code == 0xc0) (code == 0xc1) (code == 0xc2) (differs 0xc0 refl) (differs 0xc1 refl) (differs 0xc2 refl)
  where
    differs : (n : ℕ) → is_frame_code n ≡ true → (code == n) ≡ true → ⊥
    differs n t h = let k : code ≡ n = same_of code n h in let z : true ≡ false = sym t ∙ ap is_frame_code (sym k) ∙ e in cc

    by : (a b c : Bool) → (a ≡ true → ⊥) → (b ≡ true → ⊥) → (c ≡ true → ⊥) → cond a (Some Baseline) (cond b (Some Extended) (cond c (Some Progressive) None)) ≡ None
    by true b c h k l = absurd (h refl)
    by false true c h k l = absurd (k refl)
    by false false true h k l = absurd (l refl)
    by false false false h k l = refl

with_code : (limits : Limits) (before : List Segment) (s : Segment) (others : Option Frame) → header_rule limits before s.0 s.1 ≡ None → is_frame_code s.0 ≡ true → Found limits (first_some (frame_in limits s) others)
with_code limits before (code, contents) others rule e =
    ⊎_elim
    (λ (a : code ≡ 0xc0). at a (λ h. header_found limits Baseline contents others h))
    (λ m.
    ⊎_elim
    (λ (a : code ≡ 0xc1). at a (λ h. header_found limits Extended contents others h))
    (λ (a : code ≡ 0xc2). at a (λ h. header_found limits Progressive contents others h))
    m)
    (three code e)
  where
    at : {n : ℕ} → code ≡ n → (header_rule limits before n contents ≡ None → Found limits (first_some (frame_in limits (n, contents)) others)) → Found limits (first_some (frame_in limits (code, contents)) others)
    at {n} a found = subst (λ k. Found limits (first_some (frame_in limits (k, contents)) others)) (sym a) (found (subst (λ k. header_rule limits before k contents ≡ None) a rule))

pub frame_found : (limits : Limits) (before : List Segment) → Pass (header_rule limits) before → has_frame before ≡ true → Found limits (frame_after limits before)
frame_found limits [] p e = cc
frame_found limits (s ∷ before) p e = by (is_frame_code s.0) refl (frame_found limits before p.2)
  where
    by : (b : Bool) → is_frame_code s.0 ≡ b → (has_frame before ≡ true → Found limits (frame_after limits before)) → Found limits (first_some (frame_in limits s) (frame_after limits before))
    by true h older = with_code limits before s (frame_after limits before) p.1 h
    by false h older =
        let none : frame_in limits s ≡ None = ap (λ o. option_and_then (λ process. parsed_some (frame_header limits process s.1)) o) (no_process s.0 h) in
        let framed : has_frame before ≡ true = sym (ap (λ b. b || has_frame before) h) ∙ e in
        subst (λ o. Found limits (first_some o (frame_after limits before))) (sym none) (older framed)

pub framed_end : (before : List Segment) → code_fault before 0xd9 ≡ None → has_frame before ≡ true
framed_end before e = by (has_frame before) e
  where
    by : (b : Bool) → code_fault_if b 0xd9 ≡ None → b ≡ true
    by true e = refl
    by false e = cc

pub framed : (before : List Segment) → code_fault before 0xda ≡ None → has_frame before ≡ true
framed before e = by (has_frame before) e
  where
    by : (b : Bool) → code_fault_if b 0xda ≡ None → b ≡ true
    by true e = refl
    by false e = cc

abbrev pub real_side : ℕ → ℕ → ℕ → ℕ
real_side side factor most = div_up (div_up (side * factor) most) 8

pub factor_across : (f : Frame) (i : ℕ) → (component_at f i).h ≡ get_or (map (λ c. c.h) f.components) i 1
factor_across f i = sym (listn.get_or-map (λ c. c.h) f.components i no_component)

pub factor_down : (f : Frame) (i : ℕ) → (component_at f i).v ≡ get_or (map (λ c. c.v) f.components) i 1
factor_down f i = sym (listn.get_or-map (λ c. c.v) f.components i no_component)

pub factors_ok : (c : Component) → has_bad_factor c ≡ false → HasFactors c
factors_ok c e =
    let a = neither (c.h == 0) (nat_lt 4 c.h || (c.v == 0 || nat_lt 4 c.v)) e in
    let b = neither (nat_lt 4 c.h) (c.v == 0 || nat_lt 4 c.v) a.1 in
    let k = neither (c.v == 0) (nat_lt 4 c.v) b.1 in
    record { h_low = some c.h a.0; h_high = not_lt_of 4 c.h b.0; v_low = some c.v k.0; v_high = not_lt_of 4 c.v k.1 }
  where
    some : (n : ℕ) → (n == 0) ≡ false → 1 ≤ n
    some zero e = cc
    some (suc n) e = omega arith

pub all_factors : (cs : List Component) → any_of has_bad_factor cs ≡ false → All HasFactors cs
all_factors [] e = All-nil HasFactors
all_factors (c ∷ cs) e = let n = neither (has_bad_factor c) (any_of has_bad_factor cs) e in All-cons HasFactors c cs (factors_ok c n.0) (all_factors cs n.1)
