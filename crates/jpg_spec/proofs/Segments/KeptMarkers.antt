-- The markers that are passed on, including a JFIF header and comments: their text, and that they break no rule. The
-- number that an input keeps.
use Rattle.std.proofs.Common.{◌≡◌, ℕ, ◌+◌, ◌<◌, ◌≤◌, Bool, true, false, cond, not, List, [], ◌∷◌, length, refl, sym, ap, ◌∙◌, subst, arith, None, Some, ◌==◌, ◌&&◌}
use Rattle.std.specs.Prelude.{◌||◌, nat_lt}
use Rattle.jpg_spec.specs.Bits.{IsMarkerCode}
use Rattle.jpg_spec.specs.Jfif.{begins_jfif, begins_adobe}
use Rattle.jpg_spec.specs.Markers.{Segment, Pass, code_fault_if, is_frame_code, is_within, has_frame, has_scan, is_kept, is_kept_if, kept_after, kept_count, kept_rule}
use Rattle.jpg_spec.specs.InForce.{parsed_or, restart_in_force}
use Rattle.jpg_spec.specs.ScanContents.{restart_interval}
use Rattle.jpg_spec.specs.Header.{header_rule}
use Rattle.jpg_spec.specs.declared.fault.Fault.TheVariants.{MarkersTooLarge}
use Rattle.jpg_spec.specs.declared.frame.Limits.{Limits}
use Rattle.jpg_spec.proofs.Basics.Common.{both, not_lt_of, same_of, lt_no}

-- THE CODES of the markers that are passed on

pub record IsPassedOn (code : ℕ) : Type 0 where
  pub frame : is_frame_code code ≡ false
  pub scan : (code == 0xda) ≡ false
  pub restart : (code == 0xdd) ≡ false
  pub kept : (code == 0xfe || is_within 0xe0 0xef code) ≡ true
  pub marker : IsMarkerCode code
  pub eoi : code ≡ 0xd9 → ⊥
  pub allowed : (b : Bool) → code_fault_if b code ≡ None
  pub rule : (limits : Limits) (before : List Segment) (contents : List ℕ) → header_rule limits before code contents ≡ kept_rule limits before code contents

-- SEGMENTS of only such codes, none of them too long
unfoldable pub ArePassedOn : List Segment → Type 0
ArePassedOn [] = Unit {0}
ArePassedOn (s ∷ before) = IsPassedOn s.0 × (length s.1 + 2 < 65536) × ArePassedOn before

pub no_frame_in : (before : List Segment) → ArePassedOn before → has_frame before ≡ false
unfolding ArePassedOn
no_frame_in [] are = refl
no_frame_in (s ∷ before) are = ap (λ b. b || has_frame before) are.0.frame ∙ no_frame_in before are.2

pub no_scan_in : (before : List Segment) → ArePassedOn before → has_scan before ≡ false
unfolding ArePassedOn
no_scan_in [] are = refl
no_scan_in (s ∷ before) are = ap (λ b. b || has_scan before) are.0.scan ∙ no_scan_in before are.2

pub no_restart_in : (before : List Segment) → ArePassedOn before → restart_in_force before ≡ 0
unfolding ArePassedOn
no_restart_in [] are = refl
no_restart_in (s ∷ before) are = ap (λ b. cond b (parsed_or 0 (restart_interval s.1)) (restart_in_force before)) are.0.restart ∙ no_restart_in before are.2

pub all_kept : (before : List Segment) → ArePassedOn before → kept_after before ≡ before
unfolding ArePassedOn
all_kept [] are = refl
all_kept (s ∷ before) are =
    let yes : is_kept before s.0 s.1 ≡ true =
    ap (λ b. is_kept_if b s.0 s.1) (no_scan_in before are.2) ∙ ap (λ b. b && not (false && (begins_jfif s.0 s.1 || begins_adobe s.0 s.1))) are.0.kept in
    ap (λ b. cond b (s ∷ kept_after before) (kept_after before)) yes ∙ ap (λ xs. s ∷ xs) (all_kept before are.2)

-- THE MARKERS PASSED ON, the newest first

-- they break no rule
within_kept : (limits : Limits) (before : List Segment) (code : ℕ) (contents : List ℕ) → kept_count ((code, contents) ∷ kept_after before) ≤ limits.kept → kept_rule limits before code contents ≡ None
within_kept limits before code contents h = by (is_kept before code contents) (lt_no limits.kept (kept_count ((code, contents) ∷ kept_after before)) h)
  where
    by : (b : Bool) {c : Bool} → c ≡ false → cond (b && c) (Some MarkersTooLarge) None ≡ None
    by true e = ap (λ c. cond c (Some MarkersTooLarge) None) e
    by false e = refl

pub passes_more : (limits : Limits) (s : Segment) (before : List Segment) → ArePassedOn (s ∷ before) → kept_count (s ∷ before) ≤ limits.kept → Pass (header_rule limits) before → Pass (header_rule limits) (s ∷ before)
unfolding ArePassedOn
passes_more limits s before are few p =
    let same = all_kept before are.2 in
    (are.0.allowed (has_frame before), are.0.rule limits before s.1 ∙ within_kept limits before s.0 s.1 (subst (λ xs. kept_count (s ∷ xs) ≤ limits.kept) (sym same) few), p)

-- THE MARKERS OF THE INPUT

skipped : {X : Type 0} (b : Bool) (x y : X) → b ≡ false → cond b x y ≡ y
skipped b x y e = ap (λ t. cond t x y) e

abbrev pub may_keep : ℕ → Bool
may_keep code = code == 0xfe || is_within 0xe0 0xef code

-- kept markers are checked only against their rule
pub kept_alone : (limits : Limits) (before : List Segment) (code : ℕ) (contents : List ℕ) → may_keep code ≡ true → header_rule limits before code contents ≡ kept_rule limits before code contents
kept_alone limits before code contents e =
    skipped (code == 0xda) _ _ (differs 0xda refl) ∙ skipped (code == 0xc4) _ _ (differs 0xc4 refl) ∙ skipped (code == 0xdb) _ _ (differs 0xdb refl) ∙ skipped (code == 0xdd) _ _ (differs 0xdd refl)
    ∙ skipped (code == 0xda) _ _ (differs 0xda refl) ∙ skipped (code == 0xc0) _ _ (differs 0xc0 refl) ∙ skipped (code == 0xc1) _ _ (differs 0xc1 refl) ∙ skipped (code == 0xc2) _ _ (differs 0xc2 refl)
  where
    differs : (n : ℕ) → may_keep n ≡ false → (code == n) ≡ false
    differs n t = by (code == n) refl
      where
        by : (b : Bool) → (code == n) ≡ b → b ≡ false
        by false h = refl
        by true h = let z : true ≡ false = sym e ∙ ap may_keep (same_of code n h) ∙ t in cc

pub input_count : (limits : Limits) (before : List Segment) → Pass (header_rule limits) before → kept_count (kept_after before) ≤ limits.kept
input_count limits [] p = omega arith
input_count limits (s ∷ before) p = by (is_kept before s.0 s.1) refl (input_count limits before p.2)
  where
    few : is_kept before s.0 s.1 ≡ true → kept_count (s ∷ kept_after before) ≤ limits.kept
    few e =
        let k = both (may_keep s.0) (not (has_scan before && (begins_jfif s.0 s.1 || begins_adobe s.0 s.1))) e in
        let rule : kept_rule limits before s.0 s.1 ≡ None = sym (kept_alone limits before s.0 s.1 k.0) ∙ p.1 in
        let none : cond (nat_lt limits.kept (kept_count (s ∷ kept_after before))) (Some MarkersTooLarge) None ≡ None =
        sym (ap (λ b. cond (b && nat_lt limits.kept (kept_count (s ∷ kept_after before))) (Some MarkersTooLarge) None) e) ∙ rule in
        not_lt_of limits.kept (kept_count (s ∷ kept_after before)) (no (nat_lt limits.kept (kept_count (s ∷ kept_after before))) none)
      where
        no : (b : Bool) → cond b (Some MarkersTooLarge) None ≡ None → b ≡ false
        no true e = cc
        no false e = refl

    by : (b : Bool) → is_kept before s.0 s.1 ≡ b → kept_count (kept_after before) ≤ limits.kept → kept_count (cond b (s ∷ kept_after before) (kept_after before)) ≤ limits.kept
    by true e older = few e
    by false e older = older
