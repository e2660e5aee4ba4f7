-- A complete file begins with a header: its segments before its first scan, with the header of this scan.
use Rattle.std.proofs.Common.{◌≡◌, ℕ, Bool, true, false, ◌==◌, List, [], ◌∷◌, ◌++◌, refl, sym, ap, ◌∙◌, subst, None}
use Rattle.std.specs.Prelude.{◌||◌}
use Rattle.std.proofs.lemmas.List.{append_assoc}
use Rattle.jpg_spec.specs.Scan.{Blocks}
use Rattle.jpg_spec.specs.Meaning.{Meaning}
use Rattle.jpg_spec.specs.Markers.{SpellsSegments, code_fault, code_fault_if, has_frame, has_scan}
use Rattle.jpg_spec.specs.InForce.{frame_of}
use Rattle.jpg_spec.specs.History.{is_complete}
use Rattle.jpg_spec.specs.Items.{Item, segment, scan, segments_of, SpellsFront, contents_rule}
use Rattle.jpg_spec.specs.FileMeaning.{Leads, Means}
use Rattle.jpg_spec.specs.Header.{IsHeader}
use Rattle.jpg_spec.specs.declared.frame.Limits.{Limits}
use Rattle.jpg_spec.proofs.Basics.Common.{clash, neither, not_same}
use Rattle.jpg_spec.proofs.Headers.FrameAfter.{leads_pass}
use Rattle.jpg_spec.proofs.Headers.HeaderFirst.{AreOfHeader, scan_passed, with_scan}
use Rattle.jpg_spec.proofs.Headers.HeaderShown.{not_complete}
use Rattle.jpg_spec.proofs.Headers.FrameFound.{framed_end}

-- Some items are those before a first scan, this scan, and more. The bytes begin with the header that ends with the
-- header of the scan.
pub record HasFirstScan (limits : Limits) (items : List Item) (bytes : List ℕ) : Type 0 where
  pub before : List Item
  pub contents : List ℕ
  pub intervals : List (List ℕ)
  pub more : List Item
  pub head : List ℕ
  pub rest : List ℕ
  pub joined : items ≡ more ++ scan contents intervals ∷ before
  pub cut : bytes ≡ head ++ rest
  pub header : IsHeader limits head (segments_of before) contents
  pub unbroken : contents_rule limits (segments_of before) 0xda contents ≡ None

-- with one more item
with_item : (limits : Limits) (item : Item) (items : List Item) (bytes front text : List ℕ) → bytes ≡ front ++ text → HasFirstScan limits items front → HasFirstScan limits (item ∷ items) bytes
with_item limits item items bytes front text cut w = record {
  before = w.before;
  contents = w.contents;
  intervals = w.intervals;
  more = item ∷ w.more;
  head = w.head;
  rest = w.rest ++ text;
  joined = ap (λ l. item ∷ l) w.joined;
  cut = cut ∙ ap (λ l. l ++ text) w.cut ∙ append_assoc w.head w.rest text;
  header = w.header;
  unbroken = w.unbroken;
}

-- items with no scan among them are spelled as their segments
pub no_scan_spelled : (items : List Item) (bytes : List ℕ) → SpellsFront items bytes → has_scan (segments_of items) ≡ false → SpellsSegments (segments_of items) bytes
no_scan_spelled [] bytes s none = s
no_scan_spelled (segment code contents ∷ items) bytes s none = (s.0, s.1, s.2, no_scan_spelled items s.0 s.3 (neither (code == 0xda) (has_scan (segments_of items)) none).1, s.4.0, s.4.1)
no_scan_spelled (scan contents intervals ∷ items) bytes s none = cc

-- items with one have a first
pub first_scan : (limits : Limits) (items : List Item) (blocks : Blocks) (bytes : List ℕ) → SpellsFront items bytes → Leads limits items blocks → has_scan (segments_of items) ≡ true → HasFirstScan limits items bytes
first_scan limits [] blocks bytes s l some = cc
first_scan limits (segment code contents ∷ items) blocks bytes s l some =
    let older : has_scan (segments_of items) ≡ true = sym (ap (λ b. b || has_scan (segments_of items)) (not_same code 0xda s.4.2)) ∙ some in
    with_item limits (segment code contents) items bytes s.0 s.1 s.2 (first_scan limits items blocks s.0 s.3 l.2 older)
first_scan limits (scan contents intervals ∷ items) blocks bytes s l some =
    by (has_scan (segments_of items)) refl (λ older. with_item limits (scan contents intervals) items bytes s.0 s.1 s.2 (first_scan limits items l.0 s.0 s.3 l.3 older))
  where
    by : (b : Bool) → has_scan (segments_of items) ≡ b → (has_scan (segments_of items) ≡ true → HasFirstScan limits (scan contents intervals ∷ items) bytes) → HasFirstScan limits (scan contents intervals ∷ items) bytes
    by true e older = older e
    by false none older =
        let t = s.4 in
        let are : AreOfHeader limits (segments_of items) s.0 = (no_scan_spelled items s.0 s.3 none, leads_pass limits items l.0 l.3, none) in
        record {
          before = items;
          contents = contents;
          intervals = intervals;
          more = [];
          head = s.0 ++ t.0;
          rest = t.1;
          joined = refl;
          cut = s.2 ∙ ap (λ k. s.0 ++ k) t.2 ∙ sym (append_assoc s.0 t.0 t.1);
          header = with_scan limits (segments_of items) s.0 t.0 contents are t.3 l.1 (scan_passed limits (segments_of items) contents l.2);
          unbroken = l.2;
        }

-- THE LAW: items with each component in a scan have one
pub items_header : (limits : Limits) (items : List Item) (blocks : Blocks) (bytes : List ℕ) → SpellsFront items bytes → Leads limits items blocks → has_frame (segments_of items) ≡ true
    → is_complete (frame_of limits (segments_of items)) (segments_of items) ≡ true → HasFirstScan limits items bytes
items_header limits items blocks bytes s l found complete = first_scan limits items blocks bytes s l (by (has_scan (segments_of items)) refl)
  where
    ends : code_fault (segments_of items) 0xd9 ≡ None
    ends = subst (λ b. code_fault_if b 0xd9 ≡ None) (sym found) refl

    by : (b : Bool) → has_scan (segments_of items) ≡ b → b ≡ true
    by true some = refl
    by false none = absurd (clash (is_complete (frame_of limits (segments_of items)) (segments_of items)) complete (not_complete limits (segments_of items) (leads_pass limits items blocks l) none ends))

-- and so has a complete file
pub file_header : (limits : Limits) (bytes : List ℕ) (M : Meaning) → (w : Means limits bytes M) → HasFirstScan limits w.items w.front
file_header limits bytes M w = items_header limits w.items w.blocks w.front w.spelled w.leads (framed_end (segments_of w.items) w.framed) w.complete
