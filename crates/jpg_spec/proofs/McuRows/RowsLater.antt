-- After a scan of all components of a sequential frame there is no other scan, and the picture's frame, tables and
-- blocks are those of that scan.
use Rattle.std.proofs.Common.{◌≡◌, ℕ, ◌<◌, ◌≤◌, Bool, true, false, cond, not, ◌==◌, ◌&&◌, List, [], ◌∷◌, ◌++◌, length, refl, sym, ap, ◌∙◌, subst, arith, None, Some, Ok, Err}
use Rattle.std.specs.Prelude.{◌||◌, unwrap_or}
use Rattle.std.proofs.lemmas.List.{append_assoc, append-nil, length-map}
use Rattle.jpg_spec.specs.Lists.{any_of}
use Rattle.jpg_spec.specs.Geometry.{Frame, component_at, is_progressive}
use Rattle.jpg_spec.specs.FrameHeader.{AreLimits, IsFrame}
use Rattle.jpg_spec.specs.Segments.{ScanHead, head_components}
use Rattle.jpg_spec.specs.ScanContents.{IsHead, scan_header}
use Rattle.jpg_spec.specs.Scan.{Blocks}
use Rattle.jpg_spec.specs.Markers.{Segment, code_fault, has_scan}
use Rattle.jpg_spec.specs.InForce.{first_some, frame_of, head_in, heads_of, no_frame, quant_in_force}
use Rattle.jpg_spec.specs.History.{has_begun, admitted, is_repeated, names, quant_of}
use Rattle.jpg_spec.specs.Items.{Item, segment, scan, segments_of, SpellsFront, contents_rule, fault_in}
use Rattle.jpg_spec.specs.FileMeaning.{no_blocks, Leads}
use Rattle.jpg_spec.specs.Faults.{Parsed, refuse}
use Rattle.jpg_spec.specs.QuantContents.{◌>>=◌}
use Rattle.jpg_spec.specs.RowLaws.{HasScanOfAll}
use Rattle.jpg_spec.specs.declared.fault.Fault.{Fault}
use Rattle.jpg_spec.specs.declared.fault.Fault.TheVariants.{RepeatedScan}
use Rattle.jpg_spec.specs.declared.frame.Limits.{Limits}
use Rattle.jpg_spec.proofs.Headers.AcceptedHeads.{accepted}
use Rattle.jpg_spec.proofs.Headers.ColoursKept.{same_frame_after}
use Rattle.jpg_spec.proofs.Basics.Common.{clash, neither, not_same, or_right}
use Rattle.jpg_spec.proofs.Bits.FirstPasses.{head_at}
use Rattle.jpg_spec.proofs.Headers.FrameAfter.{frame_behind}
use Rattle.jpg_spec.proofs.Headers.FrameFound.{framed}
use Rattle.jpg_spec.proofs.Files.ItemsOnce.{leads_before}
use Rattle.jpg_spec.proofs.Basics.Each.{Each}
use Rattle.jpg_spec.proofs.Writing.WrittenFront.{frame_is}
use Rattle.jpg_spec.proofs.McuRows.RowCounts.{head_below, head_names}

-- BEFORE THE FIRST SCAN there are no blocks
pub blank : (limits : Limits) (items : List Item) (blocks : Blocks) → Leads limits items blocks → has_scan (segments_of items) ≡ false → blocks ≡ no_blocks
blank limits [] blocks l none = l
blank limits (segment code contents ∷ items) blocks l none = blank limits items blocks l.2 (neither (code == 0xda) (has_scan (segments_of items)) none).1
blank limits (scan contents intervals ∷ items) blocks l none = cc

-- THE FRAME AND THE HEADER of a scan that breaks no rule
pub frame_there : (limits : Limits) (items : List Item) (blocks : Blocks) → AreLimits limits → Leads limits items blocks → code_fault (segments_of items) 0xda ≡ None → IsFrame (frame_of limits (segments_of items))
frame_there limits items blocks limited l e =
    let found = frame_behind limits items blocks l (framed (segments_of items) e) in
    let f = found.0 in
    subst (λ g. IsFrame g) (sym (ap (λ o. unwrap_or o no_frame) found.1)) (frame_is limits f f limited (found.2).passes)

pub head_there : (limits : Limits) (before : List Segment) (contents : List ℕ) → contents_rule limits before 0xda contents ≡ None → IsHead (frame_of limits before) (head_in (frame_of limits before) contents)
head_there limits before contents e =
    let at = head_at limits before contents e in
    subst (λ h. IsHead (frame_of limits before) h) (sym at.is_head) (accepted (frame_of limits before) contents at.head at.told)

-- NO SCAN AFTER IT

-- A scan header of all components, and the items after the scan.
pub record HasAll (limits : Limits) (before : List Item) (contents : List ℕ) : Type 0 where
  pub head : IsHead (frame_of limits (segments_of before)) (head_in (frame_of limits (segments_of before)) contents)
  pub all : length (head_components (head_in (frame_of limits (segments_of before)) contents)) ≡ length (frame_of limits (segments_of before)).components
  pub sequential : is_progressive (frame_of limits (segments_of before)).process ≡ false

begun_after : (f : Frame) (more : List Item) (contents : List ℕ) (intervals : List (List ℕ)) (before : List Item) (i : ℕ) → names (head_in f contents) i ≡ true → has_begun (heads_of f (segments_of (more ++ scan contents intervals ∷ before))) i ≡ true
begun_after f [] contents intervals before i e = ap (λ b. b || has_begun (heads_of f (segments_of before)) i) e
begun_after f (segment code other ∷ more) contents intervals before i e = by (code == 0xda) (begun_after f more contents intervals before i e)
  where
    older : List ScanHead
    older = heads_of f (segments_of (more ++ scan contents intervals ∷ before))

    by : (b : Bool) → has_begun older i ≡ true → has_begun (cond b (head_in f other ∷ older) older) i ≡ true
    by true h = or_right (names (head_in f other) i) (has_begun older i) h
    by false h = h
begun_after f (scan other ivs ∷ more) contents intervals before i e =
    or_right (names (head_in f other) i) (has_begun (heads_of f (segments_of (more ++ scan contents intervals ∷ before))) i) (begun_after f more contents intervals before i e)

pub any_named : (test : ℕ → Bool) (n : ℕ) (xs : List ℕ) → Each (λ x. x < n) xs → 1 ≤ length xs → ((x : ℕ) → x < n → test x ≡ true) → any_of test xs ≡ true
any_named test n [] h some all = absurd (omega (arith, some))
any_named test n (x ∷ xs) h some all = ap (λ b. b || any_of test xs) (all x h.0)

-- a further scan header names a component again
pub named_again : (limits : Limits) (more : List Item) (contents : List ℕ) (intervals : List (List ℕ)) (before : List Item) (blocks : Blocks) (head : ScanHead) → Leads limits (more ++ scan contents intervals ∷ before) blocks
    → HasAll limits before contents → IsHead (frame_of limits (segments_of (more ++ scan contents intervals ∷ before))) head
    → (let after = segments_of (more ++ scan contents intervals ∷ before) in is_repeated (frame_of limits after) (heads_of (frame_of limits after) after) head ≡ true)
named_again limits more contents intervals before blocks head l is k =
    ap (λ (g : Frame). not (is_progressive g.process) && any_of (has_begun (heads_of f after)) (head_components head)) same
    ∙ ap (λ b. not b && any_of (has_begun (heads_of f after)) (head_components head)) is.sequential
    ∙ any_named (has_begun (heads_of f after)) (length f.components) (head_components head) (head_below f head k) some
    (λ i lt. begun_after f more contents intervals before i
    (subst (λ g. names (head_in g contents) i ≡ true) (sym same)
    (head_names (frame_of limits (segments_of before)) (head_in (frame_of limits (segments_of before)) contents) i is.head is.all (subst (λ (g : Frame). i < length g.components) same lt))))
  where
    after : List Segment
    after = segments_of (more ++ scan contents intervals ∷ before)

    f : Frame
    f = frame_of limits after

    same : f ≡ frame_of limits (segments_of before)
    same = same_frame_after limits more contents intervals before blocks l

    some : 1 ≤ length (head_components head)
    some = let s = k.some in omega (arith, s, length-map head.parts (λ p. p.component))

-- and is refused
pub second_refused : (limits : Limits) (more : List Item) (contents : List ℕ) (intervals : List (List ℕ)) (before : List Item) (blocks : Blocks) (other : List ℕ) → Leads limits (more ++ scan contents intervals ∷ before) blocks
    → HasAll limits before contents → contents_rule limits (segments_of (more ++ scan contents intervals ∷ before)) 0xda other ≡ None → ⊥
second_refused limits more contents intervals before blocks other l is rule =
    let after = segments_of (more ++ scan contents intervals ∷ before) in
    let f = frame_of limits after in
    let at = head_at limits after other rule in
    let k : IsHead f at.head = accepted f other at.head at.told in
    clash (is_repeated f (heads_of f after) at.head) (named_again limits more contents intervals before blocks at.head l is k) (at.is_admitted).repeated

pub none_later : (limits : Limits) (more : List Item) (contents : List ℕ) (intervals : List (List ℕ)) (before : List Item) (blocks : Blocks) (front : List ℕ) → Leads limits (more ++ scan contents intervals ∷ before) blocks
    → SpellsFront (more ++ scan contents intervals ∷ before) front → HasAll limits before contents → has_scan (segments_of more) ≡ false
none_later limits [] contents intervals before blocks front l s is = refl
none_later limits (segment code other ∷ more) contents intervals before blocks front l s is =
    ap (λ b. b || has_scan (segments_of more)) (not_same code 0xda s.4.2) ∙ none_later limits more contents intervals before blocks s.0 l.2 s.3 is
none_later limits (scan other ivs ∷ more) contents intervals before blocks front l s is = absurd (second_refused limits more contents intervals before l.0 other l.3 is l.2)

-- WHAT DOESN'T CHANGE, if no scan follows

pub blocks_stay : (limits : Limits) (more items : List Item) (blocks : Blocks) → has_scan (segments_of more) ≡ false → Leads limits (more ++ items) blocks → Leads limits items blocks
blocks_stay limits [] items blocks none l = l
blocks_stay limits (segment code contents ∷ more) items blocks none l = blocks_stay limits more items blocks (neither (code == 0xda) (has_scan (segments_of more)) none).1 l.2
blocks_stay limits (scan contents intervals ∷ more) items blocks none l = cc

pub quants_stay : (f : Frame) (more items : List Item) (i : ℕ) → has_scan (segments_of more) ≡ false → quant_of f (segments_of (more ++ items)) i ≡ quant_of f (segments_of items) i
quants_stay f [] items i none = refl
quants_stay f (segment code contents ∷ more) items i none =
    let k = neither (code == 0xda) (has_scan (segments_of more)) none in
    let older = segments_of (more ++ items) in
    ap (λ b. cond b (first_some (quant_of f older i) (cond (names (head_in f contents) i) (quant_in_force older (component_at f i).quant) None)) (quant_of f older i)) k.0 ∙ quants_stay f more items i k.1
quants_stay f (scan contents intervals ∷ more) items i none = cc

-- THE ITEMS up to it
pub record FrontCut (items : List Item) (bytes : List ℕ) : Type 0 where
  pub front : List ℕ
  pub rest : List ℕ
  pub cut : bytes ≡ front ++ rest
  pub spelled : SpellsFront items front

pub front_cut : (more items : List Item) (bytes : List ℕ) → SpellsFront (more ++ items) bytes → FrontCut items bytes
front_cut [] items bytes s = record { front = bytes; rest = []; cut = sym (append-nil bytes); spelled = s }
front_cut (x ∷ more) items bytes s =
    let k = front_cut more items s.0 s.3 in
    record { front = k.front; rest = k.rest ++ s.1; cut = s.2 ∙ ap (λ l. l ++ s.1) k.cut ∙ append_assoc k.front k.rest s.1; spelled = k.spelled }

-- THE LAW: a second scan is refused
pub repeated_scan : (limits : Limits) (items : List Item) (contents : List ℕ) (head : ScanHead) → HasScanOfAll limits items → scan_header (frame_of limits (segments_of items)) contents ≡ Ok head
    → contents_rule limits (segments_of items) 0xda contents ≡ Some RepeatedScan
repeated_scan limits items contents head w told =
    let all = w.more ++ scan w.contents w.intervals ∷ w.before in
    let before = segments_of items in
    let leads : Leads limits all w.blocks = subst (λ (z : List Item). Leads limits z w.blocks) w.joined w.leads in
    let first = leads_before limits w.more (scan w.contents w.intervals ∷ w.before) w.blocks leads in
    let is : HasAll limits w.before w.contents = record { head = head_there limits (segments_of w.before) w.contents first.1.2; all = (w.of_all).all; sequential = (w.of_all).sequential } in
    let again : is_repeated (frame_of limits before) (heads_of (frame_of limits before) before) head ≡ true =
    subst (λ (z : List Item). is_repeated (frame_of limits (segments_of z)) (heads_of (frame_of limits (segments_of z)) (segments_of z)) head ≡ true) (sym w.joined)
    (named_again limits w.more w.contents w.intervals w.before w.blocks head leads is
    (subst (λ (z : List Item). IsHead (frame_of limits (segments_of z)) head) w.joined (accepted (frame_of limits before) contents head told))) in
    ap (λ t. fault_in (t >>= admitted (frame_of limits before) before)) told ∙ ap fault_in (refused_by RepeatedScan (is_repeated (frame_of limits before) (heads_of (frame_of limits before) before) head) _ again)
  where
    refused_by : (fault : Fault) (bad : Bool) (rest : Parsed ScanHead) → bad ≡ true → refuse fault bad rest ≡ Err fault
    refused_by fault bad rest e = ap (λ b. cond b (Err fault) rest) e
