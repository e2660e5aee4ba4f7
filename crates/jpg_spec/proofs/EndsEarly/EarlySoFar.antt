-- THE LAW: a picture of a file that ends early in a scan of all components, or after it, is that of its blocks at the
-- end of the scan header.
use Rattle.std.proofs.Common.{◌≡◌, ℕ, ◌<◌, Bool, true, false, cond, List, ◌∷◌, ◌++◌, length, refl, sym, ap, ◌∙◌, subst, inl, inr, None}
use Rattle.std.specs.Prelude.{◌⊎◌, ◌&&◌, nat_lt}
use Rattle.std.proofs.Math.Path.{fun_ext}
use Rattle.std.proofs.lemmas.List.{append_assoc}
use Rattle.jpg_spec.specs.Geometry.{Frame, is_real}
use Rattle.jpg_spec.specs.Elements.{zeros}
use Rattle.jpg_spec.specs.Scan.{Blocks}
use Rattle.jpg_spec.specs.Meaning.{Meaning, real_blocks}
use Rattle.jpg_spec.specs.Markers.{Segment, has_scan}
use Rattle.jpg_spec.specs.InForce.{frame_of}
use Rattle.jpg_spec.specs.History.{quant_of}
use Rattle.jpg_spec.specs.Items.{Item, scan, segments_of, SpellsFront, contents_rule}
use Rattle.jpg_spec.specs.FileMeaning.{Leads, meaning_of}
use Rattle.jpg_spec.specs.FirstFault.{InsideScan, HaveBegun}
use Rattle.jpg_spec.specs.Early.{EndsAfter, EndsInside, segments_with}
use Rattle.jpg_spec.specs.RowsParsed.{BeginsScanOfAll, IsScanOfAll, picture_so_far}
use Rattle.jpg_spec.specs.RowLaws.{EndsEarlyByRows, early_so_far}
use Rattle.jpg_spec.specs.declared.frame.Limits.{Limits}
use Rattle.jpg_spec.proofs.Headers.ColoursKept.{same_frame_after}
use Rattle.jpg_spec.proofs.EndsEarly.EarlyBegun.{AllNamed, begun_behind}
use Rattle.jpg_spec.proofs.Headers.FileHeader.{HasFirstScan, first_scan, items_header, no_scan_spelled}
use Rattle.jpg_spec.proofs.Headers.FrameAfter.{leads_pass}
use Rattle.jpg_spec.proofs.Headers.FrameFound.{framed}
use Rattle.jpg_spec.proofs.Headers.HeaderFirst.{AreOfHeader, scan_passed, with_scan}
use Rattle.jpg_spec.proofs.Headers.OneHeader.{whole_once}
use Rattle.jpg_spec.proofs.Places.Untouched.{frame_stays}
use Rattle.jpg_spec.proofs.McuRows.RowsLater.{HasAll, blocks_stay, head_there, none_later, quants_stay, second_refused}
use Rattle.jpg_spec.proofs.McuRows.RowsWhole.{same_meaning}

-- only real blocks, once more
pub real_twice : (f : Frame) (blocks : Blocks) → real_blocks f (real_blocks f blocks) ≡ real_blocks f blocks
real_twice f blocks = fun_ext (λ i. fun_ext (λ x. fun_ext (λ y. by i x y (nat_lt i (length f.components) && is_real f i x y) refl)))
  where
    by : (i x y : ℕ) (t : Bool) → (nat_lt i (length f.components) && is_real f i x y) ≡ t → real_blocks f (real_blocks f blocks) i x y ≡ real_blocks f blocks i x y
    by i x y false e = ap (λ t. cond t (real_blocks f blocks i x y) (zeros 64)) e ∙ sym (ap (λ t. cond t (blocks i x y) (zeros 64)) e)
    by i x y true e = ap (λ t. cond t (real_blocks f blocks i x y) (zeros 64)) e

-- a picture of segments with the same frame and tables
IsSoFar : Limits → List Segment → List ℕ → Meaning → Type 0
IsSoFar limits before contents M = picture_so_far limits before contents M.blocks ≡ record M { kept = (picture_so_far limits before contents M.blocks).kept }

so_far_by : (limits : Limits) (before after : List Segment) (contents : List ℕ) (blocks : Blocks) (M : Meaning) → M ≡ meaning_of (frame_of limits after) after blocks → frame_of limits ((0xda, contents) ∷ before) ≡ frame_of limits after
    → ((i : ℕ) → i < length (frame_of limits after).components → quant_of (frame_of limits after) ((0xda, contents) ∷ before) i ≡ quant_of (frame_of limits after) after i) → IsSoFar limits before contents M
unfolding IsSoFar
so_far_by limits before after contents blocks M e same quants =
    let f = frame_of limits after in
    subst (λ (N : Meaning). picture_so_far limits before contents N.blocks ≡ record N { kept = (picture_so_far limits before contents N.blocks).kept }) (sym e)
    (same_meaning (frame_of limits ((0xda, contents) ∷ before)) f ((0xda, contents) ∷ before) after (real_blocks f blocks) blocks same quants (real_twice f blocks))

-- THE FIRST SCAN of items is the one that the bytes begin
pub record IsItemsScan (limits : Limits) (before : List Segment) (contents : List ℕ) (items : List Item) (blocks : Blocks) (front : List ℕ) (first : HasFirstScan limits items front) : Type 0 where
  pub same : segments_of first.before ≡ before
  pub of : first.contents ≡ contents
  pub of_all : IsScanOfAll limits (segments_of first.before) first.contents
  pub leads : Leads limits (first.more ++ scan first.contents first.intervals ∷ first.before) blocks
  pub all : HasAll limits first.before first.contents
  pub none : has_scan (segments_of first.more) ≡ false

module _ (limits : Limits) (bytes : List ℕ) (before : List Segment) (contents : List ℕ) (items : List Item) (blocks : Blocks) (front tail : List ℕ) where
  pub items_scan : (first : HasFirstScan limits items front) → BeginsScanOfAll limits bytes before contents → bytes ≡ front ++ tail
      → SpellsFront items front → Leads limits items blocks → IsItemsScan limits before contents items blocks front first
  items_scan first begins cut spelled leads =
      let same : bytes ≡ first.head ++ (first.rest ++ tail) = cut ∙ ap (λ l. l ++ tail) first.cut ∙ append_assoc first.head first.rest tail in
      let one = whole_once limits first.head begins.front (first.rest ++ tail) begins.rest (segments_of first.before) before first.contents contents first.header begins.header (sym same ∙ begins.cut) in
      let of_all : IsScanOfAll limits (segments_of first.before) first.contents =
      subst (λ c. IsScanOfAll limits (segments_of first.before) c) (sym one.2) (subst (λ b. IsScanOfAll limits b contents) (sym one.1) begins.of_all) in
      let there : Leads limits (first.more ++ scan first.contents first.intervals ∷ first.before) blocks = subst (λ (z : List Item). Leads limits z blocks) first.joined leads in
      let all : HasAll limits first.before first.contents = record { head = head_there limits (segments_of first.before) first.contents first.unbroken; all = of_all.all; sequential = of_all.sequential } in
      record {
        same = one.1;
        of = one.2;
        of_all = of_all;
        leads = there;
        all = all;
        none = none_later limits first.more first.contents first.intervals first.before blocks front there (subst (λ (z : List Item). SpellsFront z front) first.joined spelled) all;
      }

-- AFTER IT
after_so_far : (limits : Limits) (bytes : List ℕ) (M : Meaning) (before : List Segment) (contents : List ℕ) → BeginsScanOfAll limits bytes before contents → HaveBegun limits bytes → EndsAfter limits bytes M → IsSoFar limits before contents M
after_so_far limits bytes M before contents begins begun p =
    subst (λ c. IsSoFar limits before c M) at.of (subst (λ b. IsSoFar limits b first.contents M) at.same here)
  where
    named : AllNamed limits (segments_of p.items)
    named = begun_behind limits bytes p.items p.tail p.behind p.part begun

    first : HasFirstScan limits p.items p.behind.front
    first = items_header limits p.items p.behind.blocks p.behind.front p.behind.spelled p.behind.leads named.found named.complete

    at : IsItemsScan limits before contents p.items p.behind.blocks p.behind.front first
    at = items_scan limits bytes before contents p.items p.behind.blocks p.behind.front p.tail first begins p.behind.cut p.behind.spelled p.behind.leads

    segments : List Segment
    segments = segments_of p.items

    leads : Leads limits (scan first.contents first.intervals ∷ first.before) p.behind.blocks
    leads = blocks_stay limits first.more (scan first.contents first.intervals ∷ first.before) p.behind.blocks at.none at.leads

    same_frame : frame_of limits segments ≡ frame_of limits (segments_of first.before)
    same_frame = ap (λ (z : List Item). frame_of limits (segments_of z)) first.joined ∙ same_frame_after limits first.more first.contents first.intervals first.before p.behind.blocks at.leads

    quants : (i : ℕ) → i < length (frame_of limits segments).components → quant_of (frame_of limits segments) ((0xda, first.contents) ∷ segments_of first.before) i ≡ quant_of (frame_of limits segments) segments i
    quants i lt =
        sym (ap (λ (z : List Item). quant_of (frame_of limits segments) (segments_of z) i) first.joined ∙ quants_stay (frame_of limits segments) first.more (scan first.contents first.intervals ∷ first.before) i at.none)

    here : IsSoFar limits (segments_of first.before) first.contents M
    here =
        so_far_by limits (segments_of first.before) segments first.contents p.behind.blocks M p.meaning
        (frame_stays limits (segments_of first.before) 0xda first.contents (framed (segments_of first.before) leads.1) leads.1 ∙ sym same_frame) quants

-- INSIDE A SCAN it is this one, since no scan follows it
pub inside_scan : (limits : Limits) (bytes tail : List ℕ) (before : List Segment) (contents : List ℕ) → BeginsScanOfAll limits bytes before contents → (i : InsideScan limits bytes tail) → (segments_of i.items ≡ before) × (i.contents ≡ contents)
inside_scan limits bytes tail before contents begins i = by (has_scan (segments_of i.items)) refl
  where
    by : (b : Bool) → has_scan (segments_of i.items) ≡ b → (segments_of i.items ≡ before) × (i.contents ≡ contents)
    by true some =
        let first = first_scan limits i.items i.blocks i.front i.spelled i.leads some in
        let cut : bytes ≡ i.front ++ (i.head ++ (i.text ++ tail)) = i.cut ∙ append_assoc (i.front ++ i.head) i.text tail ∙ append_assoc i.front i.head (i.text ++ tail) in
        let at = items_scan limits bytes before contents i.items i.blocks i.front (i.head ++ (i.text ++ tail)) first begins cut i.spelled i.leads in
        absurd (second_refused limits first.more first.contents first.intervals first.before i.blocks i.contents at.leads at.all
        (subst (λ (z : List Item). contents_rule limits (segments_of z) 0xda i.contents ≡ None) first.joined i.allowed.1))
    by false none =
        let are : AreOfHeader limits (segments_of i.items) i.front = (no_scan_spelled i.items i.front i.spelled none, leads_pass limits i.items i.blocks i.leads, none) in
        let header = with_scan limits (segments_of i.items) i.front i.head i.contents are i.header i.allowed.0 (scan_passed limits (segments_of i.items) i.contents i.allowed.1) in
        let one = whole_once limits (i.front ++ i.head) begins.front (i.text ++ tail) begins.rest (segments_of i.items) before i.contents contents header begins.header (sym (i.cut ∙ append_assoc (i.front ++ i.head) i.text tail) ∙ begins.cut) in
        (one.1, one.2)

inside_so_far : (limits : Limits) (bytes : List ℕ) (M : Meaning) (before : List Segment) (contents : List ℕ) → BeginsScanOfAll limits bytes before contents → EndsInside limits bytes M → IsSoFar limits before contents M
inside_so_far limits bytes M before contents begins p =
    let i = p.at in
    let one = inside_scan limits bytes p.tail before contents begins i in
    let here : IsSoFar limits (segments_of i.items) i.contents M = so_far_by limits (segments_of i.items) (segments_with i.items i.contents) i.contents p.after M p.meaning refl (λ k lt. refl) in
    subst (λ c. IsSoFar limits before c M) one.1 (subst (λ b. IsSoFar limits b i.contents M) one.0 here)

pub so_far_early : (limits : Limits) (bytes : List ℕ) (M : Meaning) → (w : EndsEarlyByRows limits bytes M) → early_so_far limits bytes M w ≡ record M { kept = (early_so_far limits bytes M w).kept }
unfolding IsSoFar
so_far_early limits bytes M w = by w.early.1
  where
    by : EndsAfter limits bytes M ⊎ EndsInside limits bytes M → picture_so_far limits w.before w.contents M.blocks ≡ record M { kept = (picture_so_far limits w.before w.contents M.blocks).kept }
    by (inl p) = after_so_far limits bytes M w.before w.contents w.begins w.early.0.begun p
    by (inr p) = inside_so_far limits bytes M w.before w.contents w.begins p
