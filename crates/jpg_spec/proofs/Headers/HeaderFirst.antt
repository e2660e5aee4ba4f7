-- The fault of the header of a file is the first fault of the file, and a header that breaks off with the bytes is a
-- file that ends early.
use Rattle.std.proofs.Common.{◌≡◌, ℕ, ◌+◌, ◌-◌, ◌<◌, ◌≤◌, Bool, true, false, cond, ◌||◌, ◌==◌, List, [], ◌∷◌, ◌++◌, length, take, drop, refl, sym, ap, ◌∙◌, subst, arith, inl, inr, Some, None}
use Rattle.std.specs.Prelude.{◌⊎◌, Ok, Err}
use Rattle.std.proofs.lemmas.List.{append_assoc, append-nil, take-append-drop, length-take-le}
use Rattle.std.proofs.Math.Seq.{take-append-add}
use Rattle.jpg_spec.specs.Faults.{Parsed, number_of}
use Rattle.jpg_spec.specs.Segments.{ScanHead}
use Rattle.jpg_spec.specs.Markers.{Segment, SpellsSegment, SpellsSegments, code_fault, has_scan, Pass, RevealsSegment}
use Rattle.jpg_spec.specs.InForce.{frame_of}
use Rattle.jpg_spec.specs.History.{admitted}
use Rattle.jpg_spec.specs.QuantContents.{◌>>=◌}
use Rattle.jpg_spec.specs.ScanContents.{scan_header}
use Rattle.jpg_spec.specs.Scan.{Blocks}
use Rattle.jpg_spec.specs.Meaning.{Meaning}
use Rattle.jpg_spec.specs.Items.{Item, segment, scan, segments_of, SpellsFront, fault_in, contents_rule}
use Rattle.jpg_spec.specs.FileMeaning.{Leads, Means}
use Rattle.jpg_spec.specs.FirstFault.{AfterItems, ItemReveals, InsideScan, Reveals, HaveBegun, IsFirstFault}
use Rattle.jpg_spec.specs.Header.{header_rule, InHeader, HeaderReveals, UnfinishedHeader, IsHeader}
use Rattle.jpg_spec.specs.declared.fault.Fault.{Fault}
use Rattle.jpg_spec.specs.declared.fault.Fault.TheVariants.{Truncated, MissingComponent, InputTooLong}
use Rattle.jpg_spec.specs.declared.frame.Limits.{Limits}
use Rattle.jpg_spec.proofs.Headers.OneHeader.{shown_not_standing, whole_not_standing, shown_not_whole, shown_once}
use Rattle.jpg_spec.proofs.Headers.HeaderShown.{shown_in_file}
use Rattle.jpg_spec.proofs.Basics.Common.{same_of, not_same}

-- ITEMS begin with a complete header, or are segments of one

-- the bytes begin with a complete header
abbrev pub BeginsWhole : Limits → List ℕ → Type 0
BeginsWhole limits bytes =
    (front : List ℕ) × (rest : List ℕ) × (before : List Segment) × (contents : List ℕ) × IsHeader limits front before contents × (bytes ≡ front ++ rest)

whole_before : (limits : Limits) (bytes front rest : List ℕ) → bytes ≡ front ++ rest → BeginsWhole limits front → BeginsWhole limits bytes
whole_before limits bytes front rest cut h = (h.0, h.1 ++ rest, h.2, h.3, h.4, cut ∙ ap (λ l. l ++ rest) h.5 ∙ append_assoc h.0 h.1 rest)

-- the bytes are segments that break no rule, none of them a scan header
abbrev pub AreOfHeader : Limits → List Segment → List ℕ → Type 0
AreOfHeader limits before front = SpellsSegments before front × Pass (header_rule limits) before × (has_scan before ≡ false)

-- with a scan header after them
pub with_scan : (limits : Limits) (before : List Segment) (front head contents : List ℕ) → AreOfHeader limits before front → SpellsSegment 0xda contents head → code_fault before 0xda ≡ None
    → fault_in (scan_header (frame_of limits before) contents) ≡ None → IsHeader limits (front ++ head) before contents
with_scan limits before front head contents h s allowed told =
    record { spelled = (front, head, refl, h.0, s, λ e. (let z : ⊥ = omega (arith, e) in z)); passed = (allowed, told, h.1); first = h.2 }

-- a scan header that passes after the scans before it passes by itself
pub scan_passed : (limits : Limits) (before : List Segment) (contents : List ℕ) → contents_rule limits before 0xda contents ≡ None → fault_in (scan_header (frame_of limits before) contents) ≡ None
scan_passed limits before contents e = by (scan_header (frame_of limits before) contents) refl e
  where
    by : (t : Parsed ScanHead) → scan_header (frame_of limits before) contents ≡ t → contents_rule limits before 0xda contents ≡ None → fault_in (scan_header (frame_of limits before) contents) ≡ None
    by (Ok head) h k = ap fault_in h
    by (Err other) h k = let z : Some other ≡ None = sym (ap (λ r. fault_in (r >>= admitted (frame_of limits before) before)) h) ∙ k in cc

items_header : (limits : Limits) (items : List Item) (blocks : Blocks) (front : List ℕ) → SpellsFront items front → Leads limits items blocks → BeginsWhole limits front ⊎ AreOfHeader limits (segments_of items) front
items_header limits [] blocks front s l = inr (s, tt, refl)
items_header limits (segment code contents ∷ items) blocks front s l = by (items_header limits items blocks s.0 s.3 l.2)
  where
    before : List Segment
    before = segments_of items

    by : BeginsWhole limits s.0 ⊎ AreOfHeader limits before s.0 → BeginsWhole limits front ⊎ AreOfHeader limits ((code, contents) ∷ before) front
    by (inl h) = inl (whole_before limits front s.0 s.1 s.2 h)
    by (inr h) =
        let no = not_same code 0xda s.4.2 in
        let rule : header_rule limits before code contents ≡ None = ap (λ b. cond b (fault_in (scan_header (frame_of limits before) contents)) (contents_rule limits before code contents)) no ∙ l.1 in
        inr ((s.0, s.1, s.2, h.0, s.4.0, s.4.1), (l.0, rule, h.1), ap (λ b. b || has_scan before) no ∙ h.2)
items_header limits (scan contents intervals ∷ items) blocks front s l = by (items_header limits items l.0 s.0 s.3 l.3)
  where
    before : List Segment
    before = segments_of items

    by : BeginsWhole limits s.0 ⊎ AreOfHeader limits before s.0 → BeginsWhole limits front ⊎ AreOfHeader limits ((0xda, contents) ∷ before) front
    by (inl h) = inl (whole_before limits front s.0 s.1 s.2 h)
    by (inr h) =
        let t = s.4 in
        inl (
          s.0 ++ t.0,
          t.1,
          before,
          contents,
          with_scan limits before s.0 t.0 contents h t.3 l.1 (scan_passed limits before contents l.2),
          s.2 ∙ ap (λ k. s.0 ++ k) t.2 ∙ sym (append_assoc s.0 t.0 t.1),
        )

-- A FAULT OF THE FILE is one of its header, or a complete header is before it

segment_or_whole : (limits : Limits) (before : List Segment) (fault : Fault) (bytes front tail : List ℕ) → bytes ≡ front ++ tail → AreOfHeader limits before front → RevealsSegment (contents_rule limits) before fault tail
    → RevealsSegment (header_rule limits) before fault tail ⊎ BeginsWhole limits bytes
segment_or_whole limits before fault bytes front tail cut are s = by (s.0 == 0xda) refl
  where
    rule_is : (b : Bool) → (s.0 == 0xda) ≡ b → header_rule limits before s.0 s.1 ≡ cond b (fault_in (scan_header (frame_of limits before) s.1)) (contents_rule limits before s.0 s.1)
    rule_is b h = ap (λ b. cond b (fault_in (scan_header (frame_of limits before) s.1)) (contents_rule limits before s.0 s.1)) h

    told : (t : Parsed ScanHead) → (s.0 == 0xda) ≡ true → scan_header (frame_of limits before) s.1 ≡ t → RevealsSegment (header_rule limits) before fault tail ⊎ BeginsWhole limits bytes
    told (Ok head) h k =
        let code = same_of s.0 0xda h in
        let is = with_scan limits before front tail s.1 are (subst (λ n. SpellsSegment n s.1 tail) code s.2) (subst (λ n. code_fault before n ≡ None) code s.3) (ap fault_in k) in
        inr (front ++ tail, [], before, s.1, is, cut ∙ sym (append-nil (front ++ tail)))
    told (Err other) h k =
        let rule : contents_rule limits before 0xda s.1 ≡ Some fault = subst (λ n. contents_rule limits before n s.1 ≡ Some fault) (same_of s.0 0xda h) s.5 in
        let same : Some other ≡ Some fault = sym (ap (λ r. fault_in (r >>= admitted (frame_of limits before) before)) k) ∙ rule in
        inl (s.0, s.1, s.2, s.3, s.4, rule_is true h ∙ ap fault_in k ∙ same)

    by : (b : Bool) → (s.0 == 0xda) ≡ b → RevealsSegment (header_rule limits) before fault tail ⊎ BeginsWhole limits bytes
    by true h = told (scan_header (frame_of limits before) s.1) h refl
    by false h = inl (s.0, s.1, s.2, s.3, s.4, rule_is false h ∙ s.5)

item_or_whole : (limits : Limits) (fault : Fault) (bytes tail : List ℕ) (items : List Item) → (w : AfterItems limits bytes items tail) → ItemReveals limits items fault tail → AreOfHeader limits (segments_of items) w.front
    → HeaderReveals limits fault bytes ⊎ BeginsWhole limits bytes
item_or_whole limits fault bytes tail items w s are = by s
  where
    before : List Segment
    before = segments_of items

    within : InHeader limits bytes before tail
    within = (record { front = w.front; cut = w.cut; spelled = are.0; passed = are.1 }, are.2)

    broken : RevealsSegment (header_rule limits) before fault tail ⊎ BeginsWhole limits bytes → HeaderReveals limits fault bytes ⊎ BeginsWhole limits bytes
    broken (inl h) = inl (inr (before, tail, within, inr (inl (inr (inr h)))))
    broken (inr h) = inr h

    by : ItemReveals limits items fault tail → HeaderReveals limits fault bytes ⊎ BeginsWhole limits bytes
    by (inl h) = inl (inr (before, tail, within, inl (h.0, h.2)))
    by (inr (inl (inl h))) = inl (inr (before, tail, within, inr (inl (inl h))))
    by (inr (inl (inr (inl h)))) = inl (inr (before, tail, within, inr (inl (inr (inl h)))))
    by (inr (inl (inr (inr h)))) = broken (segment_or_whole limits before fault bytes w.front tail w.cut are h)
    by (inr (inr h)) = inl (inr (before, tail, within, inr (inr (h.0, h.1, h.2))))

data_whole : (limits : Limits) (bytes tail : List ℕ) → InsideScan limits bytes tail → BeginsWhole limits bytes
data_whole limits bytes tail w = by (items_header limits w.items w.blocks w.front w.spelled w.leads)
  where
    cut : bytes ≡ (w.front ++ w.head) ++ (w.text ++ tail)
    cut = w.cut ∙ append_assoc (w.front ++ w.head) w.text tail

    by : BeginsWhole limits w.front ⊎ AreOfHeader limits (segments_of w.items) w.front → BeginsWhole limits bytes
    by (inl h) = whole_before limits bytes w.front (w.head ++ (w.text ++ tail)) (cut ∙ append_assoc w.front w.head (w.text ++ tail)) h
    by (inr h) =
        let told = scan_passed limits (segments_of w.items) w.contents w.allowed.1 in
        (w.front ++ w.head, w.text ++ tail, segments_of w.items, w.contents, with_scan limits (segments_of w.items) w.front w.head w.contents h w.header w.allowed.0 told, cut)

pub shows_or_whole : (limits : Limits) (fault : Fault) (bytes : List ℕ) → Reveals limits fault bytes → HeaderReveals limits fault bytes ⊎ BeginsWhole limits bytes
shows_or_whole limits fault bytes (inl s) = inl (inl s)
shows_or_whole limits fault bytes (inr (inl s)) = by (items_header limits s.0 s.2.blocks s.2.front s.2.spelled s.2.leads)
  where
    by : BeginsWhole limits s.2.front ⊎ AreOfHeader limits (segments_of s.0) s.2.front → HeaderReveals limits fault bytes ⊎ BeginsWhole limits bytes
    by (inl h) = inr (whole_before limits bytes s.2.front s.1 s.2.cut h)
    by (inr h) = item_or_whole limits fault bytes s.1 s.0 s.2 s.3 h
shows_or_whole limits fault bytes (inr (inr s)) = inr (data_whole limits bytes s.0 s.1)

-- THE LAWS

-- a prefix with a fault is the one with which the header has its fault
no_other : (limits : Limits) (bytes : List ℕ) (fault other : Fault) (m n : ℕ) → m ≤ n → n ≤ length bytes → HeaderReveals limits fault (take n bytes) → Reveals limits other (take m bytes) → (m ≡ n) × (other ≡ fault)
no_other limits bytes fault other m n less long s t = by (shows_or_whole limits other (take m bytes) t)
  where
    whole : (k : ℕ) → take k bytes ++ drop k bytes ≡ bytes
    whole k = take-append-drop k bytes

    by : HeaderReveals limits other (take m bytes) ⊎ BeginsWhole limits (take m bytes) → (m ≡ n) × (other ≡ fault)
    by (inl h) =
        let k = shown_once limits (take m bytes) (take n bytes) (drop m bytes) (drop n bytes) other fault h s (whole m ∙ sym (whole n)) in
        (sym (length-take-le m bytes (omega (arith, less, long))) ∙ ap length k.0 ∙ length-take-le n bytes long, k.1)
    by (inr h) =
        let w = whole_before limits bytes (take m bytes) (drop m bytes) (sym (whole m)) h in
        absurd (shown_not_whole limits (take n bytes) w.0 (drop n bytes) w.1 fault w.2 w.3 s w.4 (whole n ∙ w.5))

pub header_first : (limits : Limits) (bytes : List ℕ) (fault : Fault) (n : ℕ) → n ≤ length bytes → n ≤ limits.input → HeaderReveals limits fault (take n bytes) → IsFirstFault limits bytes fault n
header_first limits bytes fault n long within s =
    inl (
      within,
      (
        long,
        shown_in_file limits fault (take n bytes) s,
        λ other m less t. (let k = no_other limits bytes fault other m n (omega (arith, less)) long s t in let e = k.0 in let z : ⊥ = omega (arith, e, less) in z),
        λ other less t. (let k = no_other limits bytes fault other n n (omega arith) long s t in let e = ap number_of k.1 in let z : ⊥ = omega (arith, e, less) in z),
      ),
    )

-- if the header breaks off there is no fault
standing_shows_none : (limits : Limits) (front rest : List ℕ) (fault : Fault) → UnfinishedHeader limits (front ++ rest) → Reveals limits fault front → ⊥
standing_shows_none limits front rest fault s t = by (shows_or_whole limits fault front t)
  where
    by : HeaderReveals limits fault front ⊎ BeginsWhole limits front → ⊥
    by (inl h) = shown_not_standing limits front rest fault h s
    by (inr h) =
        let w = whole_before limits (front ++ rest) front rest refl h in
        whole_not_standing limits w.0 w.1 w.2 w.3 w.4 (subst (λ l. UnfinishedHeader limits l) w.5 s)

-- and no meaning of bytes that have EOI before
standing_means_none : (limits : Limits) (bytes : List ℕ) (M : Meaning) (w : Means limits bytes M) (rest : List ℕ) → UnfinishedHeader limits (w.front ++ w.marker ++ rest) → ⊥
standing_means_none limits bytes M w rest s = by (items_header limits w.items w.blocks w.front w.spelled w.leads)
  where
    before : List Segment
    before = segments_of w.items

    by : BeginsWhole limits w.front ⊎ AreOfHeader limits before w.front → ⊥
    by (inl h) =
        let k = whole_before limits (w.front ++ w.marker ++ rest) w.front (w.marker ++ rest) (append_assoc w.front w.marker rest) h in
        whole_not_standing limits k.0 k.1 k.2 k.3 k.4 (subst (λ l. UnfinishedHeader limits l) k.5 s)
    by (inr h) =
        let within : InHeader limits (w.front ++ w.marker) before w.marker = (record { front = w.front; cut = refl; spelled = h.0; passed = h.1 }, h.2) in
        shown_not_standing limits (w.front ++ w.marker) rest MissingComponent (inr (before, w.marker, within, inr (inr (refl, w.ended, w.framed)))) s

-- nor has a component begun
standing_begun_none : (limits : Limits) (bytes : List ℕ) → HaveBegun limits bytes → UnfinishedHeader limits bytes → ⊥
standing_begun_none limits bytes w s = by (items_header limits w.items w.blocks w.front w.spelled w.leads)
  where
    none : BeginsWhole limits bytes → ⊥
    none k = whole_not_standing limits k.0 k.1 k.2 k.3 k.4 (subst (λ l. UnfinishedHeader limits l) k.5 s)

    by : BeginsWhole limits w.front ⊎ AreOfHeader limits (segments_of w.items) w.front → ⊥
    by (inl h) = none (whole_before limits bytes w.front (w.head ++ w.rest) (w.cut ∙ append_assoc w.front w.head w.rest) h)
    by (inr h) =
        let told = scan_passed limits (segments_of w.items) w.contents w.allowed.1 in
        none (w.front ++ w.head, w.rest, segments_of w.items, w.contents, with_scan limits (segments_of w.items) w.front w.head w.contents h w.header w.allowed.0 told, w.cut)

pub standing_truncated : (limits : Limits) (bytes : List ℕ) → length bytes < limits.input → UnfinishedHeader limits bytes → IsFirstFault limits bytes Truncated (length bytes)
standing_truncated limits bytes short s =
    inr (inr (
      refl,
      refl,
      short,
      λ fault n long t. standing_shows_none limits (take n bytes) (drop n bytes) fault (subst (λ l. UnfinishedHeader limits l) (sym (take-append-drop n bytes)) s) t,
      λ means. standing_means_none limits bytes means.0 means.1 means.1.rest (subst (λ l. UnfinishedHeader limits l) means.1.cut s),
      λ early. standing_begun_none limits bytes early.begun s,
    ))

pub standing_too_long : (limits : Limits) (bytes : List ℕ) → limits.input ≤ length bytes → UnfinishedHeader limits (take limits.input bytes) → IsFirstFault limits bytes InputTooLong limits.input
standing_too_long limits bytes long s =
    inr (inl (
      refl,
      refl,
      long,
      λ fault n less t. (let first = take limits.input bytes in
          standing_shows_none limits (take n first) (drop n first) fault (subst (λ l. UnfinishedHeader limits l) (sym (take-append-drop n first)) s) t),
      λ means. standing_means_none limits bytes means.0 means.1 _ (subst (λ l. UnfinishedHeader limits l) (within means.0 means.1) s),
    ))
  where
    within : (M : Meaning) (w : Means limits bytes M) → take limits.input bytes ≡ w.front ++ w.marker ++ take (limits.input - length (w.front ++ w.marker)) w.rest
    within M w =
        let less = w.long in
        let ended : List ℕ = w.front ++ w.marker in
        let sum : limits.input ≡ length ended + (limits.input - length ended) = omega (arith, less) in
        ap (λ n. take n bytes) sum ∙ ap (take (length ended + (limits.input - length ended))) w.cut ∙ take-append-add ended w.rest (limits.input - length ended)
