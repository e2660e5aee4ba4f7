-- What no scan has named yet is zero: so units of a sequential scan, and bands of a first pass, begin with zeros.
use Rattle.std.proofs.Common.{◌≡◌, ℕ, ◌+◌, ◌*◌, ◌<◌, ◌≤◌, Bool, true, false, cond, not, ◌==◌, ◌&&◌, List, [], ◌∷◌, get_or, refl, sym, ap, ◌∙◌, subst, ⊎_elim, Some, None, pos}
use Rattle.std.specs.Prelude.{◌||◌, map, flat_map, nat_le, option_and_then, unwrap_or}
use Rattle.std.proofs.lemmas.Bool.{cases_lt}
use Rattle.std.proofs.lemmas.List.{get_or-replicate, get_or_past}
use Rattle.jpg_spec.specs.Lists.{any_of, is_among, below}
use Rattle.jpg_spec.specs.Geometry.{Frame, is_progressive, component_at, blocks_across, blocks_down, mcus_across, mcus_down, place, mcu_part, interleaved_units, units}
use Rattle.jpg_spec.specs.Segments.{ScanHead, head_components}
use Rattle.jpg_spec.specs.Elements.{zeros}
use Rattle.jpg_spec.specs.Scan.{Blocks, coefficient, is_named}
use Rattle.jpg_spec.specs.Markers.{Segment, is_frame_code, has_frame, code_fault, code_fault_if, is_unexpected, is_unsupported}
use Rattle.jpg_spec.specs.InForce.{no_frame, frame_after, frame_of, first_some, parsed_some, head_in, heads_of}
use Rattle.jpg_spec.specs.FrameContents.{frame_header}
use Rattle.jpg_spec.specs.History.{names}
use Rattle.jpg_spec.specs.Items.{Item, segment, scan, segments_of}
use Rattle.jpg_spec.specs.FileMeaning.{scan_after, no_blocks, Leads}
use Rattle.jpg_spec.specs.PictureInWork.{is_at}
use Rattle.jpg_spec.specs.declared.fault.Fault.TheVariants.{UnexpectedMarker, UnsupportedProcess, SecondFrame, SosBeforeSof}
use Rattle.jpg_spec.specs.declared.frame.Limits.{Limits}
use Rattle.jpg_spec.specs.declared.frame.Place.{Place}
use Rattle.jpg_spec.proofs.Places.PictureInWork.{any_join}
use Rattle.jpg_spec.proofs.Headers.FrameFound.{no_process, framed}
use Rattle.jpg_spec.proofs.Basics.Common.{neither}

-- THE FRAME remains the same after its header

no_frame_code : (code : ℕ) → code_fault_if true code ≡ None → is_frame_code code ≡ false
no_frame_code code e = by (is_unexpected code || code == 0xd9 && false) (is_unsupported code) (is_frame_code code) e
  where
    by : (a b c : Bool) → cond a (Some UnexpectedMarker) (cond b (Some UnsupportedProcess)
        (cond (c && true) (Some SecondFrame) (cond (code == 0xda && false) (Some SosBeforeSof) None))) ≡ None → c ≡ false
    by a b false e = refl
    by true b true e = cc
    by false true true e = cc
    by false false true e = cc

pub frame_stays : (limits : Limits) (before : List Segment) (code : ℕ) (contents : List ℕ) → has_frame before ≡ true → code_fault before code ≡ None → frame_of limits ((code, contents) ∷ before) ≡ frame_of limits before
frame_stays limits before code contents framed e =
    let none = no_process code (no_frame_code code (subst (λ b. code_fault_if b code ≡ None) framed e)) in
    ap (λ o. unwrap_or (first_some (option_and_then (λ process. parsed_some (frame_header limits process contents)) o) (frame_after limits before)) no_frame) none

-- before a frame's header there are no scans
pub unframed : (limits : Limits) (items : List Item) (blocks : Blocks) → Leads limits items blocks → has_frame (segments_of items) ≡ false → blocks ≡ no_blocks
unframed limits [] blocks l e = l
unframed limits (segment code contents ∷ items) blocks l e = unframed limits items blocks l.2 (neither (is_frame_code code) (has_frame (segments_of items)) e).1
unframed limits (scan contents intervals ∷ items) blocks l e =
    absurd (clash (has_frame (segments_of items)) (framed (segments_of items) l.1) (neither (is_frame_code 0xda) (has_frame (segments_of items)) e).1)
  where
    clash : (b : Bool) → b ≡ true → b ≡ false → ⊥
    clash b x y = cc

-- THE PLACES of a scan are of its components

none_in_flat : (test : Place → Bool) (f : ℕ → List Place) (xs : List ℕ) → ((x : ℕ) → any_of test (f x) ≡ false) → any_of test (flat_map f xs) ≡ false
none_in_flat test f [] h = refl
none_in_flat test f (x ∷ xs) h = any_join test (f x) (flat_map f xs) ∙ ap (λ b. b || any_of test (flat_map f xs)) (h x) ∙ none_in_flat test f xs h

none_in_map : (test : Place → Bool) (g : ℕ → Place) (xs : List ℕ) → ((x : ℕ) → test (g x) ≡ false) → any_of test (map g xs) ≡ false
none_in_map test g [] h = refl
none_in_map test g (x ∷ xs) h = ap (λ b. b || any_of test (map g xs)) (h x) ∙ none_in_map test g xs h

other_component : (f : Frame) (i j x y bx by' : ℕ) → (j == i) ≡ false → is_at i x y (place f j bx by') ≡ false
other_component f i j x y bx by' e = ap (λ b. b && bx == x && by' == y) e

none_in_part : (f : Frame) (i j x y mx my : ℕ) → (j == i) ≡ false → any_of (is_at i x y) (mcu_part f mx my j) ≡ false
none_in_part f i j x y mx my e =
    let c = component_at f j in
    none_in_flat (is_at i x y) (λ v. map (λ h. place f j (mx * c.h + h) (my * c.v + v)) (below c.h)) (below c.v)
    (λ v. none_in_map (is_at i x y) (λ h. place f j (mx * c.h + h) (my * c.v + v)) (below c.h) (λ h. other_component f i j x y (mx * c.h + h) (my * c.v + v) e))

none_in_parts : (f : Frame) (i x y mx my : ℕ) (parts : List ℕ) → is_among i parts ≡ false → any_of (is_at i x y) (flat_map (mcu_part f mx my) parts) ≡ false
none_in_parts f i x y mx my [] e = refl
none_in_parts f i x y mx my (j ∷ parts) e =
    let k = neither (j == i) (is_among i parts) e in
    any_join (is_at i x y) (mcu_part f mx my j) (flat_map (mcu_part f mx my) parts) ∙ ap (λ b. b || any_of (is_at i x y) (flat_map (mcu_part f mx my) parts)) (none_in_part f i j x y mx my k.0)
    ∙ none_in_parts f i x y mx my parts k.1

none_interleaved : (f : Frame) (i x y : ℕ) (parts : List ℕ) → is_among i parts ≡ false → any_of (is_at i x y) (interleaved_units f parts) ≡ false
none_interleaved f i x y parts e =
    none_in_flat (is_at i x y) (λ my. flat_map (λ mx. flat_map (mcu_part f mx my) parts) (below (mcus_across f))) (below (mcus_down f))
    (λ my. none_in_flat (is_at i x y) (λ mx. flat_map (mcu_part f mx my) parts) (below (mcus_across f)) (λ mx. none_in_parts f i x y mx my parts e))

pub none_in_units : (f : Frame) (i x y : ℕ) (parts : List ℕ) → is_among i parts ≡ false → any_of (is_at i x y) (units f parts) ≡ false
unfolding units
none_in_units f i x y [] e = refl
none_in_units f i x y (j ∷ []) e =
    let k = neither (j == i) false e in
    none_in_flat (is_at i x y) (λ by'. map (λ bx. place f j bx by') (below (blocks_across f (component_at f j)))) (below (blocks_down f (component_at f j)))
    (λ by'. none_in_map (is_at i x y) (λ bx. place f j bx by') (below (blocks_across f (component_at f j))) (λ bx. other_component f i j x y bx by' k.0))
none_in_units f i x y (j ∷ k ∷ parts) e = none_interleaved f i x y (j ∷ k ∷ parts) e

-- WHAT A SCAN NAMES

-- coefficient k of component i: all of them in a sequential scan, and those of the band in a progressive one
abbrev pub is_coded : Frame → ScanHead → ℕ → ℕ → Bool
is_coded f head i k = names head i && (not (is_progressive f.process) || nat_le head.ss k && nat_le k head.se)

not_named : (limits : Limits) (before : List Segment) (contents : List ℕ) (i x y k : ℕ) → is_coded (frame_of limits before) (head_in (frame_of limits before) contents) i k ≡ false → is_named (scan_after limits before contents) i x y k ≡ false
not_named limits before contents i x y k e = by (names head i) refl (is_progressive f.process) refl e
  where
    f : Frame
    f = frame_of limits before

    head : ScanHead
    head = head_in f contents

    at : Bool
    at = any_of (is_at i x y) (units f (head_components head))

    none : at ≡ false → (at && nat_le (cond (is_progressive f.process) head.ss 0) k && nat_le k (cond (is_progressive f.process) head.se 63)) ≡ false
    none h = ap (λ b. b && nat_le (cond (is_progressive f.process) head.ss 0) k && nat_le k (cond (is_progressive f.process) head.se 63)) h

    banded : (a b c : Bool) → (b && c) ≡ false → (a && b && c) ≡ false
    banded true b c h = h
    banded false b c h = refl

    by : (n : Bool) → names head i ≡ n → (p : Bool) → is_progressive f.process ≡ p → (names head i && (not (is_progressive f.process) || nat_le head.ss k && nat_le k head.se)) ≡ false
        → (at && nat_le (cond (is_progressive f.process) head.ss 0) k && nat_le k (cond (is_progressive f.process) head.se 63)) ≡ false
    by false n p g e = none (none_in_units f i x y (head_components head) n)
    by true n false g e = absurd (clash (sym (ap (λ b. b && (not (is_progressive f.process) || nat_le head.ss k && nat_le k head.se)) n ∙ ap (λ b. not b || nat_le head.ss k && nat_le k head.se) g) ∙ e))
      where
        clash : true ≡ false → ⊥
        clash z = cc
    by true n true g e =
        let band : (nat_le head.ss k && nat_le k head.se) ≡ false =
        sym (ap (λ b. b && (not (is_progressive f.process) || nat_le head.ss k && nat_le k head.se)) n ∙ ap (λ b. not b || nat_le head.ss k && nat_le k head.se) g) ∙ e in
        ap (λ b. at && nat_le (cond b head.ss 0) k && nat_le k (cond b head.se 63)) g ∙ banded at (nat_le head.ss k) (nat_le k head.se) band

zero_at : (k : ℕ) → get_or (zeros 64) k (pos 0) ≡ pos 0
zero_at k = ⊎_elim (λ (h : k < 64). get_or-replicate 64 k (pos 0) (pos 0) h) (λ (h : 64 ≤ k). get_or_past (zeros 64) k (pos 0) h) (cases_lt k 64)

-- THE LAW
pub untouched : (limits : Limits) (items : List Item) (blocks : Blocks) (f : Frame) (i x y k : ℕ) → Leads limits items blocks → frame_of limits (segments_of items) ≡ f
    → any_of (λ head. is_coded f head i k) (heads_of f (segments_of items)) ≡ false → coefficient blocks i x y k ≡ pos 0
untouched limits [] blocks f i x y k l e none = ap (λ (b : Blocks). get_or (b i x y) k (pos 0)) l ∙ zero_at k
untouched limits (segment code contents ∷ items) blocks f i x y k l e none =
    by (has_frame (segments_of items)) refl (λ h. untouched limits items blocks f i x y k l.2 h older)
  where
    older : any_of (λ head. is_coded f head i k) (heads_of f (segments_of items)) ≡ false
    older = of (code == 0xda) none
      where
        of : (b : Bool) → any_of (λ head. is_coded f head i k) (cond b (head_in f contents ∷ heads_of f (segments_of items)) (heads_of f (segments_of items))) ≡ false
            → any_of (λ head. is_coded f head i k) (heads_of f (segments_of items)) ≡ false
        of true h = (neither (is_coded f (head_in f contents) i k) (any_of (λ head. is_coded f head i k) (heads_of f (segments_of items))) h).1
        of false h = h

    by : (b : Bool) → has_frame (segments_of items) ≡ b → (frame_of limits (segments_of items) ≡ f → coefficient blocks i x y k ≡ pos 0) → coefficient blocks i x y k ≡ pos 0
    by true h ih = ih (sym (frame_stays limits (segments_of items) code contents h l.0) ∙ e)
    by false h ih = ap (λ (b : Blocks). get_or (b i x y) k (pos 0)) (unframed limits items blocks l.2 h) ∙ zero_at k
untouched limits (scan contents intervals ∷ items) blocks f i x y k l e none =
    let same : frame_of limits (segments_of items) ≡ f = sym (frame_stays limits (segments_of items) 0xda contents (framed (segments_of items) l.1) l.1) ∙ e in
    let n = neither (is_coded f (head_in f contents) i k) (any_of (λ head. is_coded f head i k) (heads_of f (segments_of items))) none in
    let here = subst (λ g. is_coded g (head_in g contents) i k ≡ false) (sym same) n.0 in
    (l.4).rest i x y k (not_named limits (segments_of items) contents i x y k here) ∙ untouched limits items l.0 f i x y k l.3 same n.1
