-- A script without a fault passes where files are written.
use Rattle.std.proofs.Common.{◌≡◌, ℕ, zero, suc, ◌+◌, ◌<◌, ◌≤◌, Bool, true, false, cond, not, List, [], ◌∷◌, ◌++◌, length, refl, sym, ap, ◌∙◌, arith, Option, Some, None, ◌==◌, ◌&&◌}
use Rattle.std.specs.Prelude.{◌||◌, map, nat_lt, nat_le, find, option_map, flat_map, is_some, is_none}
use Rattle.std.proofs.lemmas.Bool.Decides.{nat_tests}
use Rattle.std.proofs.lemmas.List.{length-map}
use Rattle.std.proofs.Math.Path.{fun_ext}
use Rattle.jpg_spec.specs.Lists.{any_of, all_of, is_among, is_distinct, is_empty, below}
use Rattle.jpg_spec.specs.Geometry.{Frame, factor_sum, is_progressive, bounds}
use Rattle.jpg_spec.specs.Segments.{ScanHead, head_components, needs_dc, needs_ac}
use Rattle.jpg_spec.specs.ScanContents.{are_parameters}
use Rattle.jpg_spec.specs.InForce.{first_some}
use Rattle.jpg_spec.specs.History.{names, has_begun, has_coefficient, known_to, is_known_to, is_next}
use Rattle.jpg_spec.specs.Meaning.{Meaning, PictureComponent, colour_of}
use Rattle.jpg_spec_write.specs.FileText.{frame_of_meaning, written_head, slot_for, slot_in, distinct_quants}
use Rattle.jpg_spec_write.specs.Script.{Entry}
use Rattle.jpg_spec_write.specs.WrittenFile.{is_sequential_entry, is_script_after, is_progressive_entry, is_progressive_after}
use Rattle.jpg_spec_write.specs.ScriptFaults.{entry_head, ascend, has_wrong_component, has_large_mcu, is_whole_scan, is_due_scan, entry_fault, coefficients, incomplete, fault_after, script_fault}
use Rattle.jpg_spec_write.specs.ScriptLaws.{PassesSequential, PassesProgressive}
use Rattle.jpg_spec.specs.declared.frame.ScanPart.{ScanPart}
use Rattle.jpg_spec_write.specs.declared.picture_fault.PictureFault.TheVariants.{ScriptComponent, ScriptMcu, ScriptBand, ScriptIncomplete}
use Rattle.jpg_spec.proofs.Basics.Common.{both, and_intro, neither, negated, lt_of, not_same, all_append}
use Rattle.jpg_spec.proofs.Bits.FirstPasses.{all_below}
use Rattle.jpg_spec_write.proofs.WrittenScript.{among_join}

-- WHERE NOTHING IS FOUND

pub first_none : {X : Type 0} (a b : Option X) → first_some a b ≡ None → (a ≡ None) × (b ≡ None)
first_none None b e = (refl, e)
first_none (Some x) b e = cc

none_found : {X Y : Type 0} (g : X → Y) (p : X → Bool) (xs : List X) → option_map g (find p xs) ≡ None → all_of (λ x. not (p x)) xs ≡ true
none_found g p [] e = refl
none_found g p (x ∷ xs) e = by (p x) (none_found g p xs) e
  where
    by : (b : Bool) → (option_map g (find p xs) ≡ None → all_of (λ y. not (p y)) xs ≡ true) → option_map g (cond b (Some x) (find p xs)) ≡ None → (not b && all_of (λ y. not (p y)) xs) ≡ true
    by true rest e = cc
    by false rest e = rest e

all_map : {X Y : Type 0} (t : Y → Bool) (g : X → Y) (xs : List X) → all_of t (map g xs) ≡ all_of (λ x. t (g x)) xs
all_map t g [] = refl
all_map t g (x ∷ xs) = ap (λ b. t (g x) && b) (all_map t g xs)

all_flat : {X Y : Type 0} (t : Y → Bool) (g : X → List Y) (xs : List X) → all_of t (flat_map g xs) ≡ all_of (λ x. all_of t (g x)) xs
all_flat t g [] = refl
all_flat t g (x ∷ xs) = all_append t (g x) (flat_map g xs) ∙ ap (λ b. all_of t (g x) && b) (all_flat t g xs)

not_not : (b : Bool) → not (not b) ≡ b
not_not true = refl
not_not false = refl

-- all coefficients are known down to bit 0
complete : (f : Frame) (heads : List ScanHead) → incomplete f heads ≡ None → all_of (λ i. all_of (λ k. is_known_to (known_to heads i k) 0) (below 64)) (below (length f.components)) ≡ true
complete f heads e =
    let n = length f.components in
    let test = λ (c : ℕ × ℕ). not (is_known_to (known_to heads c.0 c.1) 0) in
    let found = none_found (λ (c : ℕ × ℕ). ScriptIncomplete c.0 c.1 (known_to heads c.0 c.1)) test (coefficients n) e in
    ap (λ (t : ℕ → Bool). all_of t (below n)) (fun_ext (λ i.
    ap (λ (t : ℕ → Bool). all_of t (below 64)) (fun_ext (λ k. sym (not_not (is_known_to (known_to heads i k) 0))))
    ∙ sym (all_map (λ (c : ℕ × ℕ). not (test c)) (λ (k : ℕ). (i, k)) (below 64))))
    ∙ sym (all_flat (λ (c : ℕ × ℕ). not (test c)) (λ (i : ℕ). map (λ (k : ℕ). (i, k)) (below 64)) (below n))
    ∙ found

-- ONE ENTRY that has no fault

record IsFaultless (f : Frame) (due : Bool) (e : Entry) : Type 0 where
  components : has_wrong_component f e ≡ false
  small : has_large_mcu f e ≡ false
  admitted : due ≡ true

faultless : (f : Frame) (due : Bool) (n : ℕ) (e : Entry)
    → cond (has_wrong_component f e) (Some (ScriptComponent n)) (cond (has_large_mcu f e) (Some (ScriptMcu n)) (cond due None (Some (ScriptBand n)))) ≡ None → IsFaultless f due e
faultless f due n e h = by (has_wrong_component f e) (has_large_mcu f e) due refl refl refl h
  where
    by : (w l d : Bool) → has_wrong_component f e ≡ w → has_large_mcu f e ≡ l → due ≡ d → cond w (Some (ScriptComponent n)) (cond l (Some (ScriptMcu n)) (cond d None (Some (ScriptBand n)))) ≡ None → IsFaultless f due e
    by true l d a b c h = cc
    by false true d a b c h = cc
    by false false true a b c h = record { components = a; small = b; admitted = c }
    by false false false a b c h = cc

-- COMPONENTS THAT ASCEND are few and distinct

few : (n i : ℕ) (xs : List ℕ) → ascend (i ∷ xs) ≡ true → all_of (λ x. nat_lt x n) (i ∷ xs) ≡ true → length (i ∷ xs) + i ≤ n
few n i [] e h = let l = lt_of i n (both (nat_lt i n) true h).0 in omega (arith, l)
few n i (j ∷ xs) e h =
    let step = both (nat_lt i j) (ascend (j ∷ xs)) e in
    let l = lt_of i j step.0 in
    let rest = few n j xs step.1 (both (nat_lt i n) (all_of (λ x. nat_lt x n) (j ∷ xs)) h).1 in
    omega (arith, l, rest)

not_among : (m i : ℕ) (xs : List ℕ) → m < i → ascend (i ∷ xs) ≡ true → is_among m (i ∷ xs) ≡ false
not_among m i [] l e = ap (λ b. b || false) (not_same i m (λ s. absurd (omega (arith, l, s))))
not_among m i (j ∷ xs) l e =
    let step = both (nat_lt i j) (ascend (j ∷ xs)) e in
    let k = lt_of i j step.0 in
    ap (λ b. b || is_among m (j ∷ xs)) (not_same i m (λ s. absurd (omega (arith, l, s)))) ∙ not_among m j xs (omega (arith, l, k)) step.1

distinct : (xs : List ℕ) → ascend xs ≡ true → is_distinct xs ≡ true
distinct [] e = refl
distinct (i ∷ []) e = refl
distinct (i ∷ j ∷ xs) e =
    let step = both (nat_lt i j) (ascend (j ∷ xs)) e in
    ap (λ b. not b && is_distinct (j ∷ xs)) (not_among i j xs (lt_of i j step.0) step.1) ∙ distinct (j ∷ xs) step.1

record AreComponents (n : ℕ) (xs : List ℕ) : Type 0 where
  count : (nat_le 1 (length xs) && nat_le (length xs) 4) ≡ true
  known : all_of (λ i. nat_lt i n) xs ≡ true
  distinct : is_distinct xs ≡ true

counted : (n : ℕ) (xs : List ℕ) → n ≤ 4 → 1 ≤ length xs → length xs ≤ n → (nat_le 1 (length xs) && nat_le (length xs) 4) ≡ true
counted n xs l a b =
    let x : nat_le 1 (length xs) ≡ true = grind (arith, nat_tests, a) in
    let y : nat_le (length xs) 4 ≡ true = grind (arith, nat_tests, l, b) in
    and_intro (nat_le 1 (length xs)) (nat_le (length xs) 4) x y

are_components : (n : ℕ) (xs : List ℕ) → n ≤ 4 → (is_empty xs || (not (all_of (λ i. nat_lt i n) xs) || not (ascend xs))) ≡ false → AreComponents n xs
are_components n [] l e = cc
are_components n (i ∷ xs) l e =
    let s = neither (not (all_of (λ i. nat_lt i n) (i ∷ xs))) (not (ascend (i ∷ xs))) e in
    let known : all_of (λ i. nat_lt i n) (i ∷ xs) ≡ true = sym (not_not (all_of (λ i. nat_lt i n) (i ∷ xs))) ∙ ap not s.0 in
    let up : ascend (i ∷ xs) ≡ true = sym (not_not (ascend (i ∷ xs))) ∙ ap not s.1 in
    let most = few n i xs up known in
    record { count = counted n (i ∷ xs) l (omega arith) (omega (arith, most)); known = known; distinct = distinct (i ∷ xs) up }

-- A HEAD OF AN ENTRY: the same components, band and bits

record IsHeadOf (e : Entry) (head : ScanHead) : Type 0 where
  components : head_components head ≡ e.components
  ss : head.ss ≡ e.ss
  se : head.se ≡ e.se
  ah : head.ah ≡ e.ah
  al : head.al ≡ e.al

named : (part : ℕ → ScanPart) (xs : List ℕ) → ((i : ℕ) → (part i).component ≡ i) → map (λ (p : ScanPart). p.component) (map part xs) ≡ xs
named part [] same = refl
named part (i ∷ xs) same = ap (λ l. (part i).component ∷ l) (named part xs same) ∙ ap (λ j. j ∷ xs) (same i)

entry_is : (e : Entry) → IsHeadOf e (entry_head e)
entry_is e = record { components = named (λ i. record { component = i; dc = 0; ac = 0 }) e.components (λ i. refl); ss = refl; se = refl; ah = refl; al = refl }

written_is : (H : Meaning) (e : Entry) → is_progressive H.process ≡ true → IsHeadOf e (written_head H e)
written_is H e prog = record {
  components = named (λ i. record {
    component = i;
    dc = cond (needs_dc (is_progressive H.process) e.ss e.ah) (slot_for (colour_of H) i) 0;
    ac = cond (needs_ac (is_progressive H.process) e.ss) (slot_for (colour_of H) i) 0;
  }) e.components (λ i. refl);
  ss = ap (λ b. cond b e.ss 0) prog;
  se = ap (λ b. cond b e.se 63) prog;
  ah = ap (λ b. cond b e.ah 0) prog;
  al = ap (λ b. cond b e.al 0) prog;
}

-- SEQUENTIAL: what is known has begun

begun_of : (heads : List ScanHead) (i k n : ℕ) → is_known_to (known_to heads i k) n ≡ true → has_begun heads i ≡ true
begun_of [] i k n e = cc
begun_of (h ∷ heads) i k n e = by (names h i) (nat_le h.ss k && nat_le k h.se) (begun_of heads i k n) e
  where
    by : (b c : Bool) → (is_known_to (known_to heads i k) n ≡ true → has_begun heads i ≡ true) → is_known_to (option_map (λ (h : ScanHead). h.al) (cond (b && c) (Some h) (find (λ h. has_coefficient h i k) heads))) n ≡ true → (b || has_begun heads i) ≡ true
    by true c rest e = refl
    by false c rest e = rest e

sequential_end : (n : ℕ) (heads : List ScanHead) (done : List ℕ) → ((i : ℕ) → has_begun heads i ≡ is_among i done)
    → all_of (λ i. all_of (λ k. is_known_to (known_to heads i k) 0) (below 64)) (below n) ≡ true → all_of (λ i. is_among i done) (below n) ≡ true
sequential_end zero heads done same e = refl
sequential_end (suc n) heads done same e =
    let parts = both (all_of (λ i. all_of (λ k. is_known_to (known_to heads i k) 0) (below 64)) (below n)) (all_of (λ k. is_known_to (known_to heads n k) 0) (below 64) && true) (sym (all_append (λ i. all_of (λ k. is_known_to (known_to heads i k) 0) (below 64)) (below n) (n ∷ [])) ∙ e) in
    let last = (both (all_of (λ k. is_known_to (known_to heads n k) 0) (below 64)) true parts.1).0 in
    let known = all_below (λ k. is_known_to (known_to heads n k) 0) 64 0 last (omega arith) in
    all_append (λ i. is_among i done) (below n) (n ∷ [])
    ∙ and_intro (all_of (λ i. is_among i done) (below n)) (is_among n done && true) (sequential_end n heads done same parts.0)
    (and_intro (is_among n done) true (sym (same n) ∙ begun_of heads n 0 0 known) refl)

any_alike : (p q : ℕ → Bool) (xs : List ℕ) → ((i : ℕ) → p i ≡ q i) → any_of p xs ≡ any_of q xs
any_alike p q xs same = ap (λ t. any_of t xs) (fun_ext same)

sequential_from : (f : Frame) (heads : List ScanHead) (done : List ℕ) (n : ℕ) (script : List Entry) → length f.components ≤ 4 → ((i : ℕ) → has_begun heads i ≡ is_among i done)
    → fault_after false f heads n script ≡ None → is_script_after f done script ≡ true
sequential_from f heads done n [] l same e = sequential_end (length f.components) heads done same (complete f heads e)
sequential_from f heads done n (e ∷ script) l same h =
    let s = first_none (entry_fault false f heads n e) (fault_after false f (entry_head e ∷ heads) (n + 1) script) h in
    let one = faultless f (is_whole_scan heads e) n e s.0 in
    let c = are_components (length f.components) e.components l one.components in
    let fresh = negated (any_of (has_begun heads) e.components) (both (e.ss == 0 && (e.se == 63 && (e.ah == 0 && e.al == 0))) (not (any_of (has_begun heads) e.components)) one.admitted).1 in
    let none : any_of (λ i. is_among i done) e.components ≡ false = sym (any_alike (has_begun heads) (λ i. is_among i done) e.components same) ∙ fresh in
    and_intro (is_sequential_entry f done e) (is_script_after f (e.components ++ done) script)
    (and_intro (nat_le 1 (length e.components) && nat_le (length e.components) 4) _ c.count
    (and_intro (all_of (λ i. nat_lt i (length f.components)) e.components) _ c.known
    (and_intro (is_distinct e.components) _ c.distinct
    (ap (λ b. not b && not (any_of (λ i. is_among i done) e.components)) one.small ∙ ap not none))))
    (sequential_from f (entry_head e ∷ heads) (e.components ++ done) (n + 1) script l
    (λ i. ap (λ cs. is_among i cs || has_begun heads i) (entry_is e).components ∙ ap (λ b. is_among i e.components || b) (same i) ∙ sym (among_join i e.components done))
    s.1)

pub sequential_without_fault : (f : Frame) (script : List Entry) → PassesSequential f script → is_script_after f [] script ≡ true
unfolding script_fault
sequential_without_fault f script is = sequential_from f [] [] 0 script is.few (λ i. refl) (sym (ap (λ b. fault_after b f [] 0 script) is.sequential) ∙ is.faultless)

-- PROGRESSIVE: the history of written heads is that of the entries

record AreAlike (g h : ScanHead) : Type 0 where
  components : head_components g ≡ head_components h
  ss : g.ss ≡ h.ss
  se : g.se ≡ h.se
  ah : g.ah ≡ h.ah
  al : g.al ≡ h.al

alike : (H : Meaning) (e : Entry) → is_progressive H.process ≡ true → AreAlike (entry_head e) (written_head H e)
alike H e prog =
    let a = entry_is e in
    let b = written_is H e prog in
    record { components = a.components ∙ sym b.components; ss = a.ss ∙ sym b.ss; se = a.se ∙ sym b.se; ah = a.ah ∙ sym b.ah; al = a.al ∙ sym b.al }

has_alike : (g h : ScanHead) (i k : ℕ) → AreAlike g h → has_coefficient g i k ≡ has_coefficient h i k
has_alike g h i k a =
    ap (λ cs. is_among i cs && (nat_le g.ss k && nat_le k g.se)) a.components
    ∙ ap (λ s. names h i && (nat_le s k && nat_le k g.se)) a.ss
    ∙ ap (λ s. names h i && (nat_le h.ss k && nat_le k s)) a.se

-- lists of heads that are alike
HaveOneHistory : List ScanHead → List ScanHead → Type 0
HaveOneHistory gs hs = (i k : ℕ) → known_to gs i k ≡ known_to hs i k

history_more : (g h : ScanHead) (gs hs : List ScanHead) → AreAlike g h → HaveOneHistory gs hs → HaveOneHistory (g ∷ gs) (h ∷ hs)
unfolding HaveOneHistory
history_more g h gs hs a same i k =
    by g gs (has_coefficient g i k)
    ∙ ap (λ b. cond b (Some g.al) (known_to gs i k)) (has_alike g h i k a)
    ∙ ap (λ n. cond (has_coefficient h i k) (Some n) (known_to gs i k)) a.al
    ∙ ap (λ (o : Option ℕ). cond (has_coefficient h i k) (Some h.al) o) (same i k)
    ∙ sym (by h hs (has_coefficient h i k))
  where
    by : (g : ScanHead) (gs : List ScanHead) (b : Bool) → option_map (λ (h : ScanHead). h.al) (cond b (Some g) (find (λ h. has_coefficient h i k) gs)) ≡ cond b (Some g.al) (known_to gs i k)
    by g gs true = refl
    by g gs false = refl

abbrev next_by : ℕ → ℕ → (ℕ → Option ℕ) → (ℕ → Bool) → Bool
next_by ss ah known has =
    (ss == 0 || is_some (known 0)) && all_of (λ k. not (has k) || (cond (ah == 0) (is_none (known k)) (is_known_to (known k) ah))) (below 64)

next_alike : (g h : ScanHead) (gs hs : List ScanHead) (i : ℕ) → AreAlike g h → HaveOneHistory gs hs → is_next gs g i ≡ is_next hs h i
unfolding HaveOneHistory
next_alike g h gs hs i a same =
    ap (λ s. next_by s g.ah (known_to gs i) (has_coefficient g i)) a.ss
    ∙ ap (λ s. next_by h.ss s (known_to gs i) (has_coefficient g i)) a.ah
    ∙ ap (λ known. next_by h.ss h.ah known (has_coefficient g i)) (fun_ext (λ k. same i k))
    ∙ ap (λ has. next_by h.ss h.ah (known_to hs i) has) (fun_ext (λ k. has_alike g h i k a))

abbrev parameters_by : Frame → ℕ → ℕ → ℕ → ℕ → ℕ → Bool
parameters_by f count ss se ah al =
    (cond (ss == 0) (se == 0) (count == 1 && (nat_le ss se && nat_le se 63))) && ((ah == 0 || ah == al + 1) && nat_le al (bounds f).al)

parameters_alike : (f : Frame) (count : ℕ) (g h : ScanHead) → AreAlike g h → are_parameters f count g ≡ are_parameters f count h
parameters_alike f count g h a =
    ap (λ s. parameters_by f count s g.se g.ah g.al) a.ss
    ∙ ap (λ s. parameters_by f count h.ss s g.ah g.al) a.se
    ∙ ap (λ s. parameters_by f count h.ss h.se s g.al) a.ah
    ∙ ap (λ s. parameters_by f count h.ss h.se h.ah s) a.al

-- the test of an entry by its components and their number
abbrev entry_by : Frame → List ScanHead → ScanHead → ℕ → List ℕ → Bool
entry_by f heads head n xs =
    (nat_le 1 n && nat_le n 4)
    && (all_of (λ i. nat_lt i (length f.components)) xs
    && (is_distinct xs
    && (not (nat_lt 1 n && nat_lt 10 (factor_sum f xs))
    && (are_parameters f n head && all_of (is_next heads head) xs))))

progressive_entry : (H : Meaning) (gs hs : List ScanHead) (e : Entry) → is_progressive H.process ≡ true → length (frame_of_meaning H).components ≤ 4 → HaveOneHistory gs hs
    → IsFaultless (frame_of_meaning H) (is_due_scan (frame_of_meaning H) gs e) e → is_progressive_entry (frame_of_meaning H) hs (written_head H e) ≡ true
progressive_entry H gs hs e prog l same one =
    let f = frame_of_meaning H in
    let head = written_head H e in
    let xs = e.components in
    let a = alike H e prog in
    let w = written_is H e prog in
    let c = are_components (length f.components) xs l one.components in
    let due = both (are_parameters f (length xs) (entry_head e)) (all_of (is_next gs (entry_head e)) xs) one.admitted in
    ap (λ n. entry_by f hs head n (head_components head)) (sym (length-map head.parts (λ (p : ScanPart). p.component)) ∙ ap length w.components)
    ∙ ap (λ cs. entry_by f hs head (length xs) cs) w.components
    ∙ and_intro (nat_le 1 (length xs) && nat_le (length xs) 4) _ c.count
    (and_intro (all_of (λ i. nat_lt i (length f.components)) xs) _ c.known
    (and_intro (is_distinct xs) _ c.distinct
    (ap (λ b. not b && (are_parameters f (length xs) head && all_of (is_next hs head) xs)) one.small
    ∙ and_intro (are_parameters f (length xs) head) (all_of (is_next hs head) xs)
    (sym (parameters_alike f (length xs) (entry_head e) head a) ∙ due.0)
    (ap (λ t. all_of t xs) (fun_ext (λ i. sym (next_alike (entry_head e) head gs hs i a same))) ∙ due.1))))

progressive_from : (H : Meaning) (gs hs : List ScanHead) (n : ℕ) (script : List Entry) → is_progressive H.process ≡ true → length (frame_of_meaning H).components ≤ 4 → HaveOneHistory gs hs
    → fault_after true (frame_of_meaning H) gs n script ≡ None → is_progressive_after H hs script ≡ true
unfolding HaveOneHistory
progressive_from H gs hs n [] prog l same h =
    ap (λ m. all_of (λ i. all_of (λ k. is_known_to (known_to hs i k) 0) (below 64)) (below m)) (sym (length-map H.components (λ (c : PictureComponent). record { id = c.id; h = c.h; v = c.v; quant = slot_in (distinct_quants H) c.quants })))
    ∙ ap (λ (known : ℕ → ℕ → Option ℕ). all_of (λ i. all_of (λ k. is_known_to (known i k) 0) (below 64)) (below (length (frame_of_meaning H).components))) (fun_ext (λ i. fun_ext (λ k. sym (same i k))))
    ∙ complete (frame_of_meaning H) gs h
progressive_from H gs hs n (e ∷ script) prog l same h =
    let f = frame_of_meaning H in
    let s = first_none (entry_fault true f gs n e) (fault_after true f (entry_head e ∷ gs) (n + 1) script) h in
    let one = faultless f (is_due_scan f gs e) n e s.0 in
    and_intro (is_progressive_entry f hs (written_head H e)) (is_progressive_after H (written_head H e ∷ hs) script)
    (progressive_entry H gs hs e prog l same one)
    (progressive_from H (entry_head e ∷ gs) (written_head H e ∷ hs) (n + 1) script prog l (history_more (entry_head e) (written_head H e) gs hs (alike H e prog) same) s.1)

pub progressive_without_fault : (H : Meaning) (script : List Entry) → PassesProgressive H script → is_progressive_after H [] script ≡ true
unfolding script_fault HaveOneHistory
progressive_without_fault H script is =
    progressive_from H [] [] 0 script is.process is.few (λ i k. refl)
    (sym (ap (λ b. fault_after b (frame_of_meaning H) [] 0 script) is.progressive) ∙ is.faultless)
