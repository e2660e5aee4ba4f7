-- Where a file ends, each component has begun exactly if the segments up to there name each of them.
use Rattle.std.proofs.Common.{◌≡◌, ℕ, zero, suc, ◌≤◌, Bool, true, false, cond, ◌==◌, ◌&&◌, List, [], ◌∷◌, ◌++◌, length, refl, sym, ap, ◌∙◌, subst, arith, inl, inr, None}
use Rattle.std.specs.Prelude.{replicate}
use Rattle.std.proofs.lemmas.List.{append_assoc}
use Rattle.jpg_spec.specs.Lists.{all_of, below}
use Rattle.jpg_spec.specs.Geometry.{Frame}
use Rattle.jpg_spec.specs.Scan.{Blocks}
use Rattle.jpg_spec.specs.Markers.{Segment, code_fault, has_frame, is_frame_code}
use Rattle.jpg_spec.specs.InForce.{frame_of, head_in, heads_of}
use Rattle.jpg_spec.specs.History.{names, has_begun, is_complete}
use Rattle.jpg_spec.specs.Items.{Item, segment, scan, segments_of, SpellsFront, SpellsItem}
use Rattle.jpg_spec.specs.FileMeaning.{Leads}
use Rattle.jpg_spec.specs.FirstFault.{AfterItems, InsideScan, HaveBegun}
use Rattle.jpg_spec.specs.declared.frame.Limits.{Limits}
use Rattle.jpg_spec.proofs.Headers.BeforeScans.{no_heads}
use Rattle.jpg_spec.proofs.Basics.Common.{both, clash, or_right, not_same}
use Rattle.jpg_spec.proofs.Files.FilesOnce.{filled_not_next, inside_after, next_head, next_marker, segment_marker}
use Rattle.jpg_spec.proofs.Bits.FirstPasses.{all_below}
use Rattle.jpg_spec.proofs.Headers.FrameFound.{framed}
use Rattle.jpg_spec.proofs.Files.ItemsOnce.{HasNext, Meets, meet}
use Rattle.jpg_spec.proofs.Segments.MarkersOnce.{segment_once}
use Rattle.jpg_spec.proofs.Files.ReadPicture.{leads_rules, no_scans}
use Rattle.jpg_spec.proofs.Files.TailsOnce.{Goes, HasHead, goes_not_head}
use Rattle.jpg_spec.proofs.Places.Untouched.{frame_stays}

-- EACH COMPONENT HAS BEGUN with these segments, in their frame
pub record AllNamed (limits : Limits) (before : List Segment) : Type 0 where
  pub found : has_frame before ≡ true
  pub complete : is_complete (frame_of limits before) before ≡ true

-- ONE MORE SEGMENT

all_more : (p q : ℕ → Bool) (n : ℕ) → ((i : ℕ) → p i ≡ true → q i ≡ true) → all_of p (below n) ≡ true → (m : ℕ) → m ≤ n → all_of q (below m) ≡ true
all_more p q n h all zero low = refl
all_more p q n h all (suc m) low =
    let here = h m (all_below p n m all (omega (arith, low))) in
    let later = all_more p q n h all m (omega (arith, low)) in
    all_last q (below m) m later here
  where
    all_last : (q : ℕ → Bool) (xs : List ℕ) (x : ℕ) → all_of q xs ≡ true → q x ≡ true → all_of q (xs ++ x ∷ []) ≡ true
    all_last q [] x a b = ap (λ t. t && true) b
    all_last q (y ∷ xs) x a b = let k = both (q y) (all_of q xs) a in ap (λ t. t && all_of q (xs ++ x ∷ [])) k.0 ∙ all_last q xs x k.1 b

named_more : (f : Frame) (s : Segment) (before : List Segment) → is_complete f before ≡ true → is_complete f (s ∷ before) ≡ true
named_more f s before e = by (s.0 == 0xda) refl
  where
    n : ℕ
    n = length f.components

    with_head : is_complete f before ≡ true → all_of (has_begun (head_in f s.1 ∷ heads_of f before)) (below (length f.components)) ≡ true
    with_head all = all_more (has_begun (heads_of f before)) (has_begun (head_in f s.1 ∷ heads_of f before)) n (λ i h. or_right (names (head_in f s.1) i) (has_begun (heads_of f before) i) h) all n (omega arith)

    by : (b : Bool) → (s.0 == 0xda) ≡ b → all_of (has_begun (cond b (head_in f s.1 ∷ heads_of f before) (heads_of f before))) (below (length f.components)) ≡ true
    by true h = with_head e
    by false h = e

pub one_named : (limits : Limits) (code : ℕ) (contents : List ℕ) (before : List Segment) → code_fault before code ≡ None → AllNamed limits before → AllNamed limits ((code, contents) ∷ before)
one_named limits code contents before allowed w =
    let same = frame_stays limits before code contents w.found allowed in
    record {
      found = or_right (is_frame_code code) (has_frame before) w.found;
      complete = subst (λ g. is_complete g ((code, contents) ∷ before) ≡ true) (sym same) (named_more (frame_of limits before) (code, contents) before w.complete);
    }

-- and some items more
items_named : (limits : Limits) (more items : List Item) (blocks : Blocks) → Leads limits (more ++ items) blocks → AllNamed limits (segments_of items) → AllNamed limits (segments_of (more ++ items))
items_named limits [] items blocks l w = w
items_named limits (segment code contents ∷ more) items blocks l w = one_named limits code contents (segments_of (more ++ items)) l.0 (items_named limits more items blocks l.2 w)
items_named limits (scan contents intervals ∷ more) items blocks l w = one_named limits 0xda contents (segments_of (more ++ items)) l.1 (items_named limits more items l.0 l.3 w)

-- HAVE BEGUN, by bytes

begun_named : (limits : Limits) (bytes : List ℕ) (w : HaveBegun limits bytes) → AllNamed limits ((0xda, w.contents) ∷ segments_of w.items)
begun_named limits bytes w = record { found = framed (segments_of w.items) w.allowed.0; complete = w.complete }

-- its items and what follows them
begun_after : (limits : Limits) (bytes : List ℕ) (w : HaveBegun limits bytes) → AfterItems limits bytes w.items (w.head ++ w.rest)
begun_after limits bytes w = record { front = w.front; blocks = w.blocks; cut = w.cut ∙ append_assoc w.front w.head w.rest; spelled = w.spelled; leads = w.leads }

-- a further item is this scan
next_named : (limits : Limits) (bytes : List ℕ) (w : HaveBegun limits bytes) (items' : List Item) (v : List ℕ) (blocks : Blocks) → Leads limits items' blocks → HasNext limits w.items (w.head ++ w.rest) items' v
    → AllNamed limits (segments_of items')
next_named limits bytes w items' v blocks l g =
    let here = first_named g.first g.here (g.text ++ v) g.spelled g.behind in
    subst (λ z. AllNamed limits (segments_of z)) (sym g.joined) (items_named limits g.later (g.first ∷ w.items) blocks (subst (λ z. Leads limits z blocks) g.joined l) here)
  where
    first_named : (x : Item) (here rest : List ℕ) → SpellsItem x here → w.head ++ w.rest ≡ here ++ rest → AllNamed limits (segments_of (x ∷ w.items))
    first_named (segment c xs) here rest s k = absurd (s.2 (sym (segment_once 0xda c w.contents xs w.head here w.rest rest w.header s.0 k).0))
    first_named (scan xs m) here rest s k =
        let h = segment_once 0xda 0xda w.contents xs w.head s.0 w.rest (s.1 ++ rest) w.header s.3 (k ∙ ap (λ z. z ++ rest) s.2 ∙ append_assoc s.0 s.1 rest) in
        subst (λ c. AllNamed limits ((0xda, c) ∷ segments_of w.items)) h.1 (begun_named limits bytes w)

begun_head : (limits : Limits) (bytes : List ℕ) (w : HaveBegun limits bytes) (u : List ℕ) → u ≡ w.head ++ w.rest → HasHead limits (segments_of w.items) u
begun_head limits bytes w u e = record {
  code = 0xda;
  contents = w.contents;
  head = w.head;
  rest = w.rest;
  cut = e;
  spelled = w.header;
  allowed = w.allowed.0;
  rule = w.allowed.1;
  other = λ z. (let no : ⊥ = omega (arith, z) in no);
}

-- AFTER ITEMS
pub begun_behind : (limits : Limits) (bytes : List ℕ) (items : List Item) (tail : List ℕ) → AfterItems limits bytes items tail → Goes items tail → HaveBegun limits bytes → AllNamed limits (segments_of items)
begun_behind limits bytes items tail b part w = by (meet limits bytes w.items items u tail (begun_after limits bytes w) b)
  where
    u : List ℕ
    u = w.head ++ w.rest

    by : Meets limits w.items u items tail → AllNamed limits (segments_of items)
    by (inl k) = absurd (goes_not_head limits items tail part (subst (λ z. HasHead limits (segments_of z) tail) k.0 (begun_head limits bytes w tail (sym k.1))))
    by (inr (inl g)) = next_named limits bytes w items tail b.blocks b.leads g
    by (inr (inr g)) = absurd (goes_not_head limits items tail part (next_head limits items w.items tail u g))

-- INSIDE A SCAN, with FF bytes after its data
pub begun_inside : (limits : Limits) (bytes tail : List ℕ) (n : ℕ) → (i : InsideScan limits bytes tail) → tail ≡ replicate n 255 → HaveBegun limits bytes → AllNamed limits ((0xda, i.contents) ∷ segments_of i.items)
begun_inside limits bytes tail n i fill w = by (meet limits bytes w.items i.items u v (begun_after limits bytes w) (inside_after limits bytes tail i))
  where
    u : List ℕ
    u = w.head ++ w.rest

    v : List ℕ
    v = i.head ++ (i.text ++ tail)

    by : Meets limits w.items u i.items v → AllNamed limits ((0xda, i.contents) ∷ segments_of i.items)
    by (inl k) =
        let h = segment_once 0xda 0xda w.contents i.contents w.head i.head w.rest (i.text ++ tail) w.header i.header k.1 in
        subst (λ z. AllNamed limits ((0xda, i.contents) ∷ segments_of z)) k.0 (subst (λ c. AllNamed limits ((0xda, c) ∷ segments_of w.items)) h.1 (begun_named limits bytes w))
    by (inr (inl g)) = one_named limits 0xda i.contents (segments_of i.items) i.allowed.0 (next_named limits bytes w i.items v i.blocks i.leads g)
    by (inr (inr g)) =
        absurd (filled_not_next limits bytes tail i n w.items u fill g (next_marker w.items g.later g.text u g.others (λ z. segment_marker 0xda w.contents w.head w.rest w.header)))

-- THE CONVERSE

begun_more : (limits : Limits) (front rest bytes : List ℕ) → bytes ≡ front ++ rest → HaveBegun limits front → HaveBegun limits bytes
begun_more limits front rest bytes e w = record {
  items = w.items;
  blocks = w.blocks;
  contents = w.contents;
  front = w.front;
  head = w.head;
  rest = w.rest ++ rest;
  cut = e ∙ ap (λ l. l ++ rest) w.cut ∙ append_assoc (w.front ++ w.head) w.rest rest;
  spelled = w.spelled;
  header = w.header;
  leads = w.leads;
  allowed = w.allowed;
  complete = w.complete;
}

-- there is no scan before a frame
none_named : (limits : Limits) (items : List Item) (blocks : Blocks) (f : Frame) → Leads limits items blocks → has_frame (segments_of items) ≡ false → 1 ≤ length f.components → is_complete f (segments_of items) ≡ true → ⊥
none_named limits items blocks f l none some e =
    let heads = no_heads f (segments_of items) (no_scans limits (segments_of items) (leads_rules limits items blocks l) none) in
    let here = all_below (has_begun (heads_of f (segments_of items))) (length f.components) 0 e some in
    clash (has_begun (heads_of f (segments_of items)) 0) here (ap (λ hs. has_begun hs 0) heads)

abbrev pub HasSome : Limits → List Segment → Type 0
HasSome limits before = 1 ≤ length (frame_of limits before).components

items_begun : (limits : Limits) (items : List Item) (front : List ℕ) (blocks : Blocks) → SpellsFront items front → Leads limits items blocks → HasSome limits (segments_of items) → is_complete (frame_of limits (segments_of items)) (segments_of items) ≡ true → HaveBegun limits front
items_begun limits [] front blocks s l some e = absurd (omega (arith, some))
items_begun limits (segment code contents ∷ items) front blocks s l some e = by (has_frame (segments_of items)) refl (λ one all. items_begun limits items s.0 blocks s.3 l.2 one all)
  where
    before : List Segment
    before = segments_of items

    all : Segment → List Segment
    all x = x ∷ segments_of items

    other : (code == 0xda) ≡ false
    other = not_same code 0xda s.4.2

    older : (f : Frame) → is_complete f (all (code, contents)) ≡ true → is_complete f before ≡ true
    older f k = sym (ap (λ b. all_of (has_begun (cond b (head_in f contents ∷ heads_of f before) (heads_of f before))) (below (length f.components))) other) ∙ k

    by : (b : Bool) → has_frame before ≡ b → (HasSome limits before → is_complete (frame_of limits before) before ≡ true → HaveBegun limits s.0) → HaveBegun limits front
    by true h begun =
        let same = frame_stays limits before code contents h l.0 in
        begun_more limits s.0 s.1 front s.2 (begun (subst (λ (g : Frame). 1 ≤ length g.components) same some) (older (frame_of limits before) (subst (λ g. is_complete g (all (code, contents)) ≡ true) same e)))
    by false h begun = absurd (none_named limits items blocks (frame_of limits (all (code, contents))) l.2 h some (older (frame_of limits (all (code, contents))) e))
items_begun limits (scan contents intervals ∷ items) front blocks s l some e =
    let t = s.4 in
    record {
      items = items;
      blocks = l.0;
      contents = contents;
      front = s.0;
      head = t.0;
      rest = t.1;
      cut = s.2 ∙ ap (λ k. s.0 ++ k) t.2 ∙ sym (append_assoc s.0 t.0 t.1);
      spelled = s.3;
      header = t.3;
      leads = l.3;
      allowed = (l.1, l.2);
      complete = e;
    }

pub after_begun : (limits : Limits) (bytes : List ℕ) (items : List Item) (tail : List ℕ) → AfterItems limits bytes items tail → HasSome limits (segments_of items) → AllNamed limits (segments_of items) → HaveBegun limits bytes
after_begun limits bytes items tail b some w = begun_more limits b.front tail bytes b.cut (items_begun limits items b.front b.blocks b.spelled b.leads some w.complete)

pub inside_begun : (limits : Limits) (bytes tail : List ℕ) → (i : InsideScan limits bytes tail) → AllNamed limits ((0xda, i.contents) ∷ segments_of i.items) → HaveBegun limits bytes
inside_begun limits bytes tail i w = record {
  items = i.items;
  blocks = i.blocks;
  contents = i.contents;
  front = i.front;
  head = i.head;
  rest = i.text ++ tail;
  cut = i.cut ∙ append_assoc (i.front ++ i.head) i.text tail;
  spelled = i.spelled;
  header = i.header;
  leads = i.leads;
  allowed = i.allowed;
  complete = w.complete;
}
