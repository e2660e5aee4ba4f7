-- What a file means may be written.
use Rattle.std.proofs.Common.{◌≡◌, ℕ, suc, ◌+◌, ◌<◌, ◌≤◌, Bool, true, false, cond, ◌&&◌, ◌==◌, List, [], ◌∷◌, ◌++◌, length, get_or, map, refl, sym, ap, ◌∙◌, subst, arith, ℤ, pos, Option, Some, None}
use Rattle.std.specs.Prelude.{◌||◌, int_le, nat_abs, unwrap_or, is_none}
use Rattle.std.specs.Int.{to_be_bytes, w16}
use Rattle.std.specs.List.{All}
use Rattle.std.proofs.lemmas.Bool.Decides.{nat_tests}
use Rattle.std.proofs.lemmas.List.Elements.{All-head, All-tail, All-nil, All-cons}
use Rattle.jpg_spec.specs.Lists.{any_of, is_among}
use Rattle.jpg_spec.specs.Segments.{QuantTable, ScanHead, IsQuantiser, AreQuantisers}
use Rattle.jpg_spec.specs.declared.frame.Bounds.{Bounds}
use Rattle.jpg_spec.specs.declared.frame.ScanPart.{ScanPart}
use Rattle.jpg_spec.specs.Geometry.{Frame, bounds, component_at}
use Rattle.jpg_spec.specs.FrameHeader.{IsFrame, AreLimits}
use Rattle.jpg_spec.specs.Elements.{are_in_bounds, IsBlockIn}
use Rattle.jpg_spec.specs.QuantContents.{is_zero_quant}
use Rattle.jpg_spec.specs.Markers.{Segment, Pass, SpellsSegment, code_fault, has_frame, has_scan}
use Rattle.jpg_spec.specs.InForce.{no_frame, frame_of, first_some, quant_in_force, head_in, heads_of, huffman_in_force}
use Rattle.jpg_spec.specs.History.{names, has_begun, quant_of, lacks_table, is_complete, needs_dc_table, needs_ac_table}
use Rattle.jpg_spec.specs.Items.{Item, segment, scan, segments_of, SpellsFront, contents_rule}
use Rattle.jpg_spec.specs.Header.{header_rule}
use Rattle.jpg_spec.specs.Scan.{Blocks}
use Rattle.jpg_spec.specs.Meaning.{Meaning, PictureComponent}
use Rattle.jpg_spec.specs.FileMeaning.{Leads, meaning_of}
use Rattle.jpg_spec.specs.Ranges.{is_coefficient, AreInRange}
use Rattle.jpg_spec.specs.declared.frame.Component.{Component}
use Rattle.jpg_spec.specs.declared.frame.Limits.{Limits}
use Rattle.jpg_spec.proofs.Basics.Common.{same_of, not_zero, neither}
use Rattle.jpg_spec.proofs.Basics.Rows.{all_front, all_back}
use Rattle.jpg_spec.proofs.Headers.FrameFound.{framed, frame_found}
use Rattle.jpg_spec.proofs.Bits.FirstPasses.{head_at}
use Rattle.jpg_spec.proofs.Places.Untouched.{frame_stays}
use Rattle.jpg_spec.proofs.Headers.BeforeScans.{no_heads}
use Rattle.jpg_spec.proofs.Segments.QuantsInForce.{AllContents, IsByte, AreEntries, IsQuants, in_force_quants, in_force_entries}
use Rattle.jpg_spec.proofs.Writing.WrittenFront.{frame_is}

-- THE SEGMENTS of a file of bytes: of bytes, and none too long

abbrev pub AreShort : List Segment → Type 0
AreShort [] = Unit {0}
AreShort (s ∷ before) = (length s.1 + 2 < 65536) × AreShort before

abbrev pub AreOfBytes : List Segment → Type 0
AreOfBytes before = AreShort before × AllContents IsByte before

pub one_more : (code : ℕ) (contents bytes : List ℕ) (before : List Segment) → SpellsSegment code contents bytes → All IsByte bytes → AreOfBytes before → AreOfBytes ((code, contents) ∷ before)
one_more code contents bytes before s all older =
    let (marker, spelled, short, whole) = s in
    let here = subst (λ bs. All IsByte bs) whole all in
    ((short, older.0), (all_back IsByte (marker ++ to_be_bytes w16 (length contents + 2)) contents here, older.1))

pub segments_bytes : (items : List Item) (front : List ℕ) → SpellsFront items front → All IsByte front → AreOfBytes (segments_of items)
segments_bytes [] front s all = (tt, tt)
segments_bytes (segment code contents ∷ items) front s all =
    let (start, rest, cut, older, spelled) = s in
    let split = subst (λ bs. All IsByte bs) cut all in
    one_more code contents rest (segments_of items) spelled.0 (all_back IsByte start rest split) (segments_bytes items start older (all_front IsByte start rest split))
segments_bytes (scan contents intervals ∷ items) front s all =
    let (start, rest, cut, older, (head, coded, cut_here, spelled, intervals_spelled)) = s in
    let split = subst (λ bs. All IsByte bs) cut all in
    let here = subst (λ bs. All IsByte bs) cut_here (all_back IsByte start rest split) in
    one_more 0xda contents head (segments_of items) spelled (all_front IsByte head coded here) (segments_bytes items start older (all_front IsByte start rest split))

-- THE RULES of a file's segments

pub leads_rules : (limits : Limits) (items : List Item) (blocks : Blocks) → Leads limits items blocks → Pass (contents_rule limits) (segments_of items)
leads_rules limits [] blocks l = tt
leads_rules limits (segment code contents ∷ items) blocks l = (l.0, l.1, leads_rules limits items blocks l.2)
leads_rules limits (scan contents intervals ∷ items) blocks l = (l.1, l.2, leads_rules limits items l.0 l.3)

-- EACH COMPONENT HAS ITS TABLE: one of a scan that breaks no rule

abbrev pub HasTable : Option QuantTable → Type 0
HasTable o = (table : QuantTable) × (o ≡ Some table)

lacks_none : (o : Option QuantTable) → is_none o ≡ false → HasTable o
lacks_none None e = cc
lacks_none (Some table) e = (table, refl)

named_has : (f : Frame) (before : List Segment) (head : ScanHead) (parts : List ScanPart) (i : ℕ)
    → any_of (λ p. is_none (quant_in_force before (component_at f p.component).quant) || (needs_dc_table f head && is_none (huffman_in_force before 0 p.dc) || needs_ac_table f head && is_none (huffman_in_force before 1 p.ac))) parts ≡ false
    → is_among i (map (λ p. p.component) parts) ≡ true → HasTable (quant_in_force before (component_at f i).quant)
named_has f before head [] i e h = cc
named_has f before head (p ∷ parts) i e h =
    let n = neither _ _ e in
    by (p.component == i) refl h (neither (is_none (quant_in_force before (component_at f p.component).quant)) _ n.0).0 (λ k. named_has f before head parts i n.1 k)
  where
    by : (b : Bool) → (p.component == i) ≡ b → (b || is_among i (map (λ p. p.component) parts)) ≡ true → is_none (quant_in_force before (component_at f p.component).quant) ≡ false
        → (is_among i (map (λ p. p.component) parts) ≡ true → HasTable (quant_in_force before (component_at f i).quant)) → HasTable (quant_in_force before (component_at f i).quant)
    by true s k none later = subst (λ j. HasTable (quant_in_force before (component_at f j).quant)) (same_of p.component i s) (lacks_none _ none)
    by false s k none later = later k

pub no_scans : (limits : Limits) (before : List Segment) → Pass (contents_rule limits) before → has_frame before ≡ false → has_scan before ≡ false
no_scans limits [] p e = refl
no_scans limits (s ∷ before) p e = by (s.0 == 0xda) refl (λ k. no_scans limits before p.2 k)
  where
    by : (b : Bool) → (s.0 == 0xda) ≡ b → (has_frame before ≡ false → has_scan before ≡ false) → (b || has_scan before) ≡ false
    by true h later =
        let e1 = neither _ (has_frame before) e in
        let here = framed before (subst (λ n. code_fault before n ≡ None) (same_of s.0 0xda h) p.0) in
        let z : true ≡ false = sym here ∙ e1.1 in cc
    by false h later = later (neither _ (has_frame before) e).1

abbrev HasTables : Limits → Frame → List Segment → ℕ → Type 0
HasTables limits f before i = frame_of limits before ≡ f → has_begun (heads_of f before) i ≡ true → HasTable (quant_of f before i)

-- the table of a component that was in a scan
pub has_table : (limits : Limits) (f : Frame) (before : List Segment) (i : ℕ) → Pass (contents_rule limits) before → frame_of limits before ≡ f → has_begun (heads_of f before) i ≡ true → HasTable (quant_of f before i)
has_table limits f [] i p e h = cc
has_table limits f (s ∷ before) i p e h = by_frame (has_frame before) refl (λ g k. has_table limits f before i p.2 g k)
  where
    first_has : (a b : Option QuantTable) → HasTable a → HasTable (first_some a b)
    first_has None b (t, k) = cc
    first_has (Some x) b (t, k) = (x, refl)

    second_has : (a b : Option QuantTable) → HasTable b → HasTable (first_some a b)
    second_has None b k = k
    second_has (Some x) b k = (x, refl)

    clash : {A : Type 0} → false ≡ true → A
    clash z = cc

    at_scan : HasTables limits f before i → frame_of limits before ≡ f → s.0 ≡ 0xda → (b : Bool) → names (head_in f s.1) i ≡ b → (b || has_begun (heads_of f before) i) ≡ true
        → HasTable (first_some (quant_of f before i) (cond b (quant_in_force before (component_at f i).quant) None))
    at_scan older g c true n k =
        let at = head_at limits before s.1 (subst (λ n. contents_rule limits before n s.1 ≡ None) c p.1) in
        let head_is : head_in f s.1 ≡ at.head = ap (λ g. head_in g s.1) (sym g) ∙ at.is_head in
        let named : names at.head i ≡ true = ap (λ (head : ScanHead). names head i) (sym head_is) ∙ n in
        let tables : lacks_table f before at.head ≡ false = ap (λ g. lacks_table g before at.head) (sym g) ∙ (at.is_admitted).tables in
        second_has (quant_of f before i) (quant_in_force before (component_at f i).quant) (named_has f before at.head (at.head).parts i tables named)
    at_scan older g c false n k = first_has (quant_of f before i) None (older g k)

    behind : HasTables limits f before i → (b : Bool) → (s.0 == 0xda) ≡ b → frame_of limits before ≡ f → has_begun (cond b (head_in f s.1 ∷ heads_of f before) (heads_of f before)) i ≡ true
        → HasTable (cond b (first_some (quant_of f before i) (cond (names (head_in f s.1) i) (quant_in_force before (component_at f i).quant) None)) (quant_of f before i))
    behind older true c g k = at_scan older g (same_of s.0 0xda c) (names (head_in f s.1) i) refl k
    behind older false c g k = older g k

    by_frame : (b : Bool) → has_frame before ≡ b → HasTables limits f before i → HasTable (quant_of f (s ∷ before) i)
    by_frame true b older = behind older (s.0 == 0xda) refl (sym (frame_stays limits before s.0 s.1 b p.0) ∙ e) h
    by_frame false b older = no (s.0 == 0xda) refl
      where
        no : (c : Bool) → (s.0 == 0xda) ≡ c → HasTable (quant_of f (s ∷ before) i)
        no true c = let z : true ≡ false = sym (framed before (subst (λ n. code_fault before n ≡ None) (same_of s.0 0xda c) p.0)) ∙ b in cc
        no false c =
            let none = no_heads f before (no_scans limits before p.2 b) in
            let z : false ≡ true = sym (ap (λ t. has_begun (cond t (head_in f s.1 ∷ heads_of f before) (heads_of f before)) i) c ∙ ap (λ hs. has_begun hs i) none) ∙ h in clash z

quantisers_of : (table : QuantTable) → IsQuants table → AreEntries table → AreQuantisers table
quantisers_of table is entries = (is.long, each table is.some entries)
  where
    each : (qs : List ℕ) → any_of is_zero_quant qs ≡ false → All (λ q. q < 65536) qs → All IsQuantiser qs
    each [] e all = All-nil IsQuantiser
    each (q ∷ qs) e all =
        let n = neither (q == 0) (any_of is_zero_quant qs) e in
        All-cons IsQuantiser q qs (some q n.0, All-head (λ q. q < 65536) q qs all) (each qs n.1 (All-tail (λ q. q < 65536) q qs all))
      where
        some : (q : ℕ) → (q == 0) ≡ false → 1 ≤ q
        some q e = grind (arith, nat_tests, e)

in_force_is : (before : List Segment) (slot : ℕ) (table : QuantTable) → AllContents IsByte before → quant_in_force before slot ≡ Some table → AreQuantisers table
in_force_is before slot table of e = quantisers_of table (in_force_quants before slot table e) (in_force_entries before slot table of e)

pub table_is : (f : Frame) (before : List Segment) (i : ℕ) (table : QuantTable) → AllContents IsByte before → quant_of f before i ≡ Some table → AreQuantisers table
table_is f [] i table of e = cc
table_is f (s ∷ before) i table of e = by (s.0 == 0xda) e (λ k. table_is f before i table of.1 k)
  where
    pick : (quant_of f before i ≡ Some table → AreQuantisers table) → (a : Option QuantTable) (b : Bool) → quant_of f before i ≡ a → first_some a (cond b (quant_in_force before (component_at f i).quant) None) ≡ Some table → AreQuantisers table
    pick older (Some x) b h k = older (h ∙ k)
    pick older None true h k = in_force_is before (component_at f i).quant table of.1 k
    pick older None false h k = cc

    by : (b : Bool) → cond b (first_some (quant_of f before i) (cond (names (head_in f s.1) i) (quant_in_force before (component_at f i).quant) None)) (quant_of f before i) ≡ Some table → (quant_of f before i ≡ Some table → AreQuantisers table) → AreQuantisers table
    by true k older = pick older (quant_of f before i) (names (head_in f s.1) i) refl k
    by false k older = older k

-- BLOCKS in their range

module _ (b : Bounds) where
  ac_in : (block : List ℤ) → ((k : ℕ) → is_coefficient b (suc k) (get_or block k (pos 0)) ≡ true) → are_in_bounds b false block ≡ true
  ac_in [] h = refl
  ac_in (v ∷ block) h =
      let one : int_le (pos (nat_abs v)) b.ac ≡ true =
      sym (ap (λ t. cond t (int_le b.dc_low v && int_le v b.dc_high) (int_le (pos (nat_abs v)) b.ac)) (not_zero 0)) ∙ h 0 in
      ap (λ t. t && are_in_bounds b false block) one ∙ ac_in block (λ k. later k (get_or block k (pos 0)) (h (suc k)))
    where
      later : (k : ℕ) (w : ℤ) → is_coefficient b (suc (suc k)) w ≡ true → is_coefficient b (suc k) w ≡ true
      later k w e =
          ap (λ t. cond t (int_le b.dc_low w && int_le w b.dc_high) (int_le (pos (nat_abs w)) b.ac)) (not_zero k ∙ sym (not_zero (suc k))) ∙ e

  pub block_in : (block : List ℤ) → length block ≡ 64 → ((k : ℕ) → is_coefficient b k (get_or block k (pos 0)) ≡ true) → IsBlockIn b block
  block_in [] l h = absurd (omega (arith, l))
  block_in (v ∷ block) l h =
      (l, ap (λ t. t && are_in_bounds b false block) (h 0) ∙ ac_in block (λ k. h (suc k)))

pub zero_slots : (cs : List PictureComponent) → All (λ c. c.quant ≤ 3) (map (λ c. (let k : Component = record { id = c.id; h = c.h; v = c.v; quant = 0 } in k)) cs)
zero_slots [] = All-nil (λ c. c.quant ≤ 3)
zero_slots (c ∷ cs) = All-cons (λ c. c.quant ≤ 3) _ _ (omega arith) (zero_slots cs)

-- WHAT BYTES LEAVE: segments that break no rule, with each component in a scan, and blocks in their range
pub record IsLeft (limits : Limits) (segments : List Segment) (blocks : Blocks) (M : Meaning) : Type 0 where
  pub found : has_frame segments ≡ true
  pub complete : is_complete (frame_of limits segments) segments ≡ true
  pub rules : Pass (contents_rule limits) segments
  pub headers : Pass (header_rule limits) segments
  pub range : AreInRange (bounds (frame_of limits segments)) blocks
  pub meaning : M ≡ meaning_of (frame_of limits segments) segments blocks

pub left_frame : (limits : Limits) (segments : List Segment) → AreLimits limits → Pass (header_rule limits) segments → has_frame segments ≡ true → IsFrame (frame_of limits segments)
left_frame limits segments limited pass e =
    let found = frame_found limits segments pass e in
    let f = found.0 in
    subst (λ g. IsFrame g) (sym (ap (λ o. unwrap_or o no_frame) found.1)) (frame_is limits f f limited (found.2).passes)
