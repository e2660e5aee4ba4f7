-- What the history of scans represents.
use Rattle.std.proofs.Common.{◌≡◌, ℕ, zero, suc, ◌+◌, ◌<◌, ◌≤◌, Bool, true, false, cond, not, ◌&&◌, ◌||◌, ◌==◌, List, [], ◌∷◌, length, map, get_or, add-one, refl, sym, ap, ◌∙◌, arith, Option, None, Some}
use Rattle.std.specs.Prelude.{is_some, find, option_map, replicate, unwrap_or, Ok, Err}
use Rattle.std.specs.List.{All}
use Rattle.std.proofs.lemmas.List.Elements.{All-head, All-tail}
use Rattle.std.proofs.lemmas.Bool.Decides.{nat_tests}
use Rattle.jpg_spec.specs.Lists.{any_of, all_of, is_among, below}
use Rattle.jpg_spec.specs.Geometry.{Frame, component_at, is_progressive}
use Rattle.jpg_spec.specs.History.{names, has_begun, has_coefficient, known_to, is_next, is_repeated, is_out_of_order, order_fault, admitted, lacks_table, is_same_table, quant_of}
use Rattle.jpg_spec.specs.Faults.{Parsed, refuse}
use Rattle.jpg_spec.specs.InForce.{heads_of, quant_in_force}
use Rattle.jpg_spec.specs.Markers.{Segment}
use Rattle.jpg_spec.specs.Segments.{ScanHead, head_components}
use Rattle.jpg_spec.specs.declared.fault.Fault.{Fault}
use Rattle.jpg_spec.specs.declared.fault.Fault.TheVariants.{RepeatedScan, Progression, MissingTable, QuantChanged}
use Rattle.jpg_spec.specs.declared.frame.ScanPart.{ScanPart}
use Rattle.jpg_spec.proofs.Bits.FirstPasses.{all_join}
use Rattle.jpg_scans.specs.declared.progress.Progress.{Progress}
use Rattle.jpg_scans.specs.declared.sent.Sent.{Sent}
use Rattle.jpg_scans.specs.Progress.{sent_of, begun_at, known_at, RepresentsScans}
use Rattle.jpg_scans.specs.Sent.{nothing_sent, known_in, has_in_band, is_due, are_due, is_next_in}

-- TESTS with the same answers

pub same_below : (p q : ℕ → Bool) (n : ℕ) → ((k : ℕ) → k < n → p k ≡ q k) → all_of p (below n) ≡ all_of q (below n)
same_below p q zero e = refl
same_below p q (suc n) e =
    all_join p (below n) (n ∷ [])
    ∙ ap (λ t. t && (p n && true)) (same_below p q n (λ k l. e k (omega (arith, l))))
    ∙ ap (λ t. all_of q (below n) && (t && true)) (e n (omega arith))
    ∙ sym (all_join q (below n) (n ∷ []))

pub same_any : (p q : ℕ → Bool) (parts : List ScanPart) → ((i : ℕ) → i < 4 → p i ≡ q i) → All (λ p. p.component < 4) parts
    → any_of p (map (λ p. p.component) parts) ≡ any_of q (map (λ p. p.component) parts)
same_any p q [] e low = refl
same_any p q (x ∷ parts) e low =
    ap (λ t. t || any_of p (map (λ (y : ScanPart). y.component) parts)) (e x.component (All-head (λ (y : ScanPart). y.component < 4) x parts low))
    ∙ ap (λ t. q x.component || t) (same_any p q parts e (All-tail (λ (y : ScanPart). y.component < 4) x parts low))

and_true : (b : Bool) → (b && true) ≡ b
and_true true = refl
and_true false = refl

self_test : (a : ℕ) → (a == a) ≡ true
self_test a = grind (arith, nat_tests)

or_true : (b : Bool) → (b || true) ≡ true
or_true true = refl
or_true false = refl

-- tests of components that a head names
pub same_all : (p q : ℕ → Bool) (head : ScanHead) (parts : List ScanPart) → ((i : ℕ) → i < 4 → names head i ≡ true → p i ≡ q i) → All (λ p. p.component < 4) parts
    → ((i : ℕ) → is_among i (map (λ p. p.component) parts) ≡ true → names head i ≡ true) → all_of p (map (λ p. p.component) parts) ≡ all_of q (map (λ p. p.component) parts)
same_all p q head [] e low named = refl
same_all p q head (x ∷ parts) e low named =
    ap (λ t. t && all_of p (map (λ (y : ScanPart). y.component) parts))
    (e x.component (All-head (λ (y : ScanPart). y.component < 4) x parts low) (named x.component (ap (λ t. t || is_among x.component (map (λ (y : ScanPart). y.component) parts)) (self_test x.component))))
    ∙ ap (λ t. q x.component && t)
    (same_all p q head parts e (All-tail (λ (y : ScanPart). y.component < 4) x parts low) (λ i h. named i (ap (λ t. (x.component == i) || t) h ∙ or_true (x.component == i))))

-- ONE COMPONENT

pub due_none : (s : Sent) (head : ScanHead) → are_due s head 0 ≡ true
unfolding are_due
due_none s head = refl

pub due_more : (s : Sent) (head : ScanHead) (k : ℕ) → are_due s head (k + 1) ≡ (are_due s head k && (not (has_in_band head k) || is_due head.ah (known_in s k)))
unfolding are_due
due_more s head k =
    ap (λ n. all_of (λ j. not (has_in_band head j) || is_due head.ah (known_in s j)) (below n)) (add-one k)
    ∙ all_join (λ j. not (has_in_band head j) || is_due head.ah (known_in s j)) (below k) (k ∷ [])
    ∙ ap (λ t. all_of (λ j. not (has_in_band head j) || is_due head.ah (known_in s j)) (below k) && t) (and_true (not (has_in_band head k) || is_due head.ah (known_in s k)))

coefficient_is : (head : ScanHead) (i k : ℕ) → names head i ≡ true → has_coefficient head i k ≡ has_in_band head k
coefficient_is head i k e = ap (λ t. t && has_in_band head k) e

pub next_is : (p : Progress) (f : Frame) (heads : List ScanHead) (head : ScanHead) (i : ℕ) → RepresentsScans p f heads → i < 4 → names head i ≡ true → is_next_in (sent_of p i) head ≡ is_next heads head i
unfolding are_due
next_is p f heads head i s low named =
    ap (λ (t : Option ℕ). (head.ss == 0 || is_some t) && all_of (λ k. not (has_in_band head k) || is_due head.ah (known_at p i k)) (below 64)) (s.known i 0 low (omega arith))
    ∙ ap (λ t. (head.ss == 0 || is_some (known_to heads i 0)) && t) (same_below _ _ 64 (λ k h.
    ap (λ t. not t || is_due head.ah (known_at p i k)) (sym (coefficient_is head i k named))
    ∙ ap (λ t. not (has_coefficient head i k) || is_due head.ah t) (s.known i k low h)))

pub all_next : (p : Progress) (f : Frame) (heads : List ScanHead) (head : ScanHead) → RepresentsScans p f heads → All (λ p. p.component < 4) head.parts
    → all_of (λ i. is_next_in (sent_of p i) head) (head_components head) ≡ all_of (is_next heads head) (head_components head)
all_next p f heads head s low = same_all (λ i. is_next_in (sent_of p i) head) (is_next heads head) head head.parts (λ i h named. next_is p f heads head i s h named) low (λ i h. h)

-- THE FAULT of a scan, by the process

pub sequential_fault : (p : Progress) (f : Frame) (heads : List ScanHead) (head : ScanHead) → RepresentsScans p f heads → All (λ p. p.component < 4) head.parts → p.is_progressive ≡ false
    → order_fault f heads head ≡ cond (any_of (begun_at p) (head_components head)) (Some RepeatedScan) None
sequential_fault p f heads head s low e =
    let process : is_progressive f.process ≡ false = sym s.process ∙ e in
    ap (λ t. cond (not t && any_of (has_begun heads) (head_components head)) (Some RepeatedScan) (cond (t && not (all_of (is_next heads head) (head_components head))) (Some Progression) None)) process
    ∙ ap (λ t. cond t (Some RepeatedScan) None) (sym (same_any (begun_at p) (has_begun heads) head.parts s.begun low))

pub progressive_fault : (p : Progress) (f : Frame) (heads : List ScanHead) (head : ScanHead) → RepresentsScans p f heads → All (λ p. p.component < 4) head.parts → p.is_progressive ≡ true
    → order_fault f heads head ≡ cond (not (all_of (λ i. is_next_in (sent_of p i) head) (head_components head))) (Some Progression) None
progressive_fault p f heads head s low e =
    let process : is_progressive f.process ≡ true = sym s.process ∙ e in
    ap (λ t. cond (not t && any_of (has_begun heads) (head_components head)) (Some RepeatedScan) (cond (t && not (all_of (is_next heads head) (head_components head))) (Some Progression) None)) process
    ∙ ap (λ t. cond (not t) (Some Progression) None) (sym (all_next p f heads head s low))

-- ONE MORE SCAN

-- Of a scan with these components: with the parts that aren't noted yet it is a history after one more scan.
pub record IsLongerBy (old : Progress) (head : ScanHead) (rest : List ScanPart) (now : Progress) : Type 0 where
  pub process : now.is_progressive ≡ old.is_progressive
  pub count : now.count ≡ old.count
  pub four : length now.components ≡ 4
  pub begun : (i : ℕ) → i < 4 → (is_among i (map (λ p. p.component) rest) || begun_at now i) ≡ (names head i || begun_at old i)
  pub known : (i k : ℕ) → i < 4 → k < 64
      → cond (is_among i (map (λ p. p.component) rest) && has_in_band head k) (Some head.al) (known_at now i k) ≡ cond (names head i && has_in_band head k) (Some head.al) (known_at old i k)

found_is : (head : ScanHead) (heads : List ScanHead) (i k : ℕ) (b : Bool) → cond b (Some head.al) (known_to heads i k) ≡ option_map (λ (h : ScanHead). h.al) (cond b (Some head) (find (λ h. has_coefficient h i k) heads))
found_is head heads i k true = refl
found_is head heads i k false = refl

pub longer : (old new : Progress) (f : Frame) (heads : List ScanHead) (head : ScanHead) → IsLongerBy old head [] new → RepresentsScans old f heads → RepresentsScans new f (head ∷ heads)
longer old new f heads head l s = record {
  process = l.process ∙ s.process;
  count = l.count ∙ s.count;
  begun = λ i h. l.begun i h ∙ ap (λ t. names head i || t) (s.begun i h);
  known = λ i k h j. l.known i k h j ∙ ap (λ (t : Option ℕ). cond (has_coefficient head i k) (Some head.al) t) (s.known i k h j) ∙ found_is head heads i k (has_coefficient head i k);
}

known_step : (among band b : Bool) (new was now result : Option ℕ) → (b ≡ true → now ≡ cond band new was) → (b ≡ false → now ≡ was) → cond ((b || among) && band) new was ≡ result → cond (among && band) new now ≡ result
known_step among band true new was now result here other e = ap (cond (among && band) new) (here refl) ∙ twice among band ∙ e
  where
    twice : (a d : Bool) → cond (a && d) new (cond d new was) ≡ cond d new was
    twice true true = refl
    twice true false = refl
    twice false d = refl
known_step among band false new was now result here other e = ap (cond (among && band) new) (other refl) ∙ e

-- BEFORE ANY SCAN

unsent : (n k : ℕ) (none : Option ℕ) → get_or (replicate n none) k none ≡ none
unsent zero k none = refl
unsent (suc n) zero none = refl
unsent (suc n) (suc k) none = unsent n k none

pub before_all : (p : Progress) (f : Frame) (s : Sent) → s ≡ nothing_sent → p.components ≡ s ∷ s ∷ s ∷ s ∷ [] → p.is_progressive ≡ is_progressive f.process → p.count ≡ length f.components → RepresentsScans p f []
before_all p f s e parts process count = record {
  process = process;
  count = count;
  begun = λ i h. ap (λ (x : Sent). x.is_begun) (at i);
  known = λ i k h j. ap (λ (x : Sent). known_in x k) (at i) ∙ unsent 64 k None;
}
  where
    each : (i : ℕ) → get_or (s ∷ s ∷ s ∷ s ∷ []) i nothing_sent ≡ nothing_sent
    each zero = e
    each (suc zero) = e
    each (suc (suc zero)) = e
    each (suc (suc (suc zero))) = e
    each (suc (suc (suc (suc i)))) = refl

    at : (i : ℕ) → sent_of p i ≡ nothing_sent
    at i = ap (λ (xs : List Sent). get_or xs i nothing_sent) parts ∙ each i

-- AT THE END

pub complete_is : (p : Progress) (f : Frame) (heads : List ScanHead) → RepresentsScans p f heads → p.count ≤ 4 → all_of (begun_at p) (below p.count) ≡ all_of (has_begun heads) (below (length f.components))
complete_is p f heads s few =
    ap (λ n. all_of (begun_at p) (below n)) s.count
    ∙ same_below (begun_at p) (has_begun heads) (length f.components) (λ k h. s.begun k (omega (arith, h, few, s.count)))

-- AMONG THE FAULTS of a scan header those of the order come first

pub refused_is : (f : Frame) (before : List Segment) (head : ScanHead) (fault : Fault) → order_fault f (heads_of f before) head ≡ Some fault → admitted f before head ≡ Err fault
refused_is f before head fault e = by (is_repeated f (heads_of f before) head) (is_out_of_order f (heads_of f before) head) _ e
  where
    by : (r o : Bool) (rest : Parsed ScanHead) → cond r (Some RepeatedScan) (cond o (Some Progression) None) ≡ Some fault → refuse RepeatedScan r (refuse Progression o rest) ≡ Err fault
    by true o rest e = ap (λ (x : Option Fault). Err (unwrap_or x RepeatedScan)) e
    by false true rest e = ap (λ (x : Option Fault). Err (unwrap_or x Progression)) e
    by false false rest e = cc

-- without one the tables decide
pub passed_is : (f : Frame) (before : List Segment) (head : ScanHead) → order_fault f (heads_of f before) head ≡ None
    → admitted f before head ≡ refuse MissingTable (lacks_table f before head)
    (refuse QuantChanged (not (all_of (λ i. is_same_table (quant_of f before i) (quant_in_force before (component_at f i).quant)) (head_components head))) (Ok head))
passed_is f before head e = by (is_repeated f (heads_of f before) head) (is_out_of_order f (heads_of f before) head) _ e
  where
    by : (r o : Bool) (rest : Parsed ScanHead) → cond r (Some RepeatedScan) (cond o (Some Progression) None) ≡ None → refuse RepeatedScan r (refuse Progression o rest) ≡ rest
    by true o rest e = cc
    by false true rest e = cc
    by false false rest e = refl

abbrev fault_told : Parsed ScanHead → Fault
fault_told (Ok head) = MissingTable
fault_told (Err fault) = fault

neither : (fault : Fault) (m q : Bool) (head : ScanHead) → (fault ≡ MissingTable → ⊥) → (fault ≡ QuantChanged → ⊥) → refuse MissingTable m (refuse QuantChanged q (Ok head)) ≡ Err fault → ⊥
neither fault true q head no_missing no_changed e = no_missing (sym (ap (λ (t : Parsed ScanHead). fault_told t) e))
neither fault false true head no_missing no_changed e = no_changed (sym (ap (λ (t : Parsed ScanHead). fault_told t) e))
neither fault false false head no_missing no_changed e = cc

pub passed_not : (f : Frame) (before : List Segment) (head : ScanHead) (fault : Fault) → order_fault f (heads_of f before) head ≡ None → (fault ≡ MissingTable → ⊥) → (fault ≡ QuantChanged → ⊥) → admitted f before head ≡ Err fault → ⊥
passed_not f before head fault none no_missing no_changed e = neither fault _ _ head no_missing no_changed (sym (passed_is f before head none) ∙ e)

pub shown_is : (f : Frame) (before : List Segment) (head : ScanHead) (fault : Fault) → (fault ≡ MissingTable → ⊥) → (fault ≡ QuantChanged → ⊥) → admitted f before head ≡ Err fault → order_fault f (heads_of f before) head ≡ Some fault
shown_is f before head fault no_missing no_changed a = by (order_fault f (heads_of f before) head) refl
  where
    by : (o : Option Fault) → order_fault f (heads_of f before) head ≡ o → order_fault f (heads_of f before) head ≡ Some fault
    by None e = absurd (passed_not f before head fault e no_missing no_changed a)
    by (Some x) e = e ∙ ap (λ (y : Fault). Some y) (ap (λ (t : Parsed ScanHead). fault_told t) (sym (refused_is f before head x e) ∙ a))
