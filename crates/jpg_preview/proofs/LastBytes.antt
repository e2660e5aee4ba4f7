-- THE LAST BYTE of some bytes, and where the data of a scan end with it.
use Rattle.std.proofs.Common.{◌≡◌, ℕ, ◌<◌, ◌+◌, Bool, true, false, List, [], ◌∷◌, ◌++◌, length, refl, sym, ap, ◌∙◌, subst, arith, inl, inr, Some, None}
use Rattle.std.specs.Prelude.{◌⊎◌}
use Rattle.std.proofs.lemmas.List.{append_assoc, append-nil}
use Rattle.std.proofs.lemmas.Bool.Decides.{nat_tests}
use Rattle.jpg_spec.specs.Lists.{chunks}
use Rattle.jpg_spec.specs.Segments.{two_bytes}
use Rattle.jpg_spec.specs.Markers.{BeginsSegment, Segment, SpellsMarker, code_fault, is_frame_code, is_unexpected, is_within}
use Rattle.jpg_spec.specs.Items.{Item, segment, scan, segments_of, SpellsIntervalsText, ends_in_scan}
use Rattle.jpg_spec.specs.FileMeaning.{scan_after}
use Rattle.jpg_spec.specs.FirstFault.{AfterItems}
use Rattle.jpg_spec.specs.UnfinishedFile.{PartOfItem}
use Rattle.jpg_spec.specs.ScanReading.{ScanAt, ScanPlace, scan_item}
use Rattle.jpg_spec.specs.declared.fault.Fault.TheVariants.{UnexpectedMarker}
use Rattle.jpg_spec.specs.declared.frame.Limits.{Limits}
use Rattle.jpg_spec.proofs.Basics.Common.{clash, heads}
use Rattle.jpg_spec.proofs.Files.ItemsOnce.{end_holds, ends_at}
use Rattle.jpg_spec.proofs.Segments.MarkersOnce.{fill_no_marker, marker_once, no_head}

pub last_of : (xs : List ℕ) → (xs ≡ []) ⊎ ((front : List ℕ) × (b : ℕ) × (xs ≡ front ++ b ∷ []))
last_of [] = inl refl
last_of (x ∷ xs) = inr (by (last_of xs))
  where
    by : (xs ≡ []) ⊎ ((front : List ℕ) × (b : ℕ) × (xs ≡ front ++ b ∷ [])) → (front : List ℕ) × (b : ℕ) × (x ∷ xs ≡ front ++ b ∷ [])
    by (inl e) = ([], x, ap (λ l. x ∷ l) e)
    by (inr k) = (x ∷ k.0, k.1, ap (λ l. x ∷ l) k.2)

pub one_last : (xs ys : List ℕ) (b c : ℕ) → xs ++ b ∷ [] ≡ ys ++ c ∷ [] → (xs ≡ ys) × (b ≡ c)
one_last [] [] b c e = (refl, (heads b c [] [] e).0)
one_last [] (y ∷ []) b c e = absurd (no_head c [] (heads b y [] (c ∷ []) e).1)
one_last [] (y ∷ z ∷ ys) b c e = absurd (no_head z (ys ++ c ∷ []) (heads b y [] (z ∷ (ys ++ c ∷ [])) e).1)
one_last (x ∷ []) [] b c e = absurd (no_head b [] (sym (heads x c (b ∷ []) [] e).1))
one_last (x ∷ z ∷ xs) [] b c e = absurd (no_head z (xs ++ b ∷ []) (sym (heads x c (z ∷ (xs ++ b ∷ [])) [] e).1))
one_last (x ∷ xs) (y ∷ ys) b c e =
    let h = heads x y (xs ++ b ∷ []) (ys ++ c ∷ []) e in
    let k = one_last xs ys b c h.1 in
    (ap (λ l. x ∷ l) k.0 ∙ ap (λ n. n ∷ ys) h.0, k.1)

-- the last byte of two parts is that of the second, unless there is none
pub last_cut : (bytes front tail : List ℕ) (b : ℕ) → bytes ++ b ∷ [] ≡ front ++ tail → (tail ≡ []) ⊎ ((t : List ℕ) × (tail ≡ t ++ b ∷ []) × (bytes ≡ front ++ t))
last_cut bytes front tail b e = by (last_of tail)
  where
    by : (tail ≡ []) ⊎ ((t : List ℕ) × (c : ℕ) × (tail ≡ t ++ c ∷ [])) → (tail ≡ []) ⊎ ((t : List ℕ) × (tail ≡ t ++ b ∷ []) × (bytes ≡ front ++ t))
    by (inl k) = inl k
    by (inr k) =
        let same = one_last bytes (front ++ k.0) b k.1 (e ∙ ap (λ l. front ++ l) k.2 ∙ sym (append_assoc front k.0 (k.1 ∷ []))) in
        inr (k.0, k.2 ∙ ap (λ n. k.0 ++ n ∷ []) (sym same.1), same.0)

-- A MARKER THAT IS A PART OF AN ITEM begins its segment, and is no RST

part_begins : (items : List Item) (tail : List ℕ) (c : ℕ) → PartOfItem items tail → SpellsMarker c tail → BeginsSegment (segments_of items) c tail
part_begins items tail c (inl k) m = subst (λ n. BeginsSegment (segments_of items) n tail) (marker_once k.0 c tail tail [] [] k.1.0 m refl).0 k.1
part_begins items tail c (inr (inl k)) m = absurd (fill_no_marker k.0 c tail [] m (sym k.1 ∙ sym (append-nil tail)))
part_begins items tail c (inr (inr k)) m = by k.3
  where
    same : (y : List ℕ) → tail ≡ k.1 ++ y → (c ≡ k.0) × (tail ≡ k.1) × ([] ≡ y)
    same y e = marker_once c k.0 tail k.1 [] y m k.2.0 (append-nil tail ∙ e)

    by : ((tail ≡ k.1) × (is_frame_code k.0 ≡ false)) ⊎ (((high : ℕ) × (tail ≡ k.1 ++ high ∷ []) × (high < 256))
        ⊎ ((high : ℕ) × (low : ℕ) × (contents : List ℕ) × (tail ≡ k.1 ++ high ∷ low ∷ contents) × (high < 256) × (low < 256) × (length contents + 2 < two_bytes high low)))
        → BeginsSegment (segments_of items) c tail
    by (inl h) = (let s = same [] (h.0 ∙ sym (append-nil k.1)) in subst (λ n. BeginsSegment (segments_of items) n tail) (sym s.0) (subst (λ l. BeginsSegment (segments_of items) k.0 l) (sym h.0) k.2))
    by (inr (inl h)) = absurd (no_head h.0 [] (same (h.0 ∷ []) h.1).2)
    by (inr (inr h)) = absurd (no_head h.0 (h.1 ∷ h.2) (same (h.0 ∷ h.1 ∷ h.2) h.3).2)

restart_refused : (before : List Segment) (c : ℕ) → is_within 0xd0 0xd7 c ≡ true → code_fault before c ≡ None → ⊥
restart_refused before c e f = (let z : Some UnexpectedMarker ≡ None = sym refused ∙ f in by z)
  where
    by : Some UnexpectedMarker ≡ None → ⊥
    by z = cc

    unexpected : is_unexpected c ≡ true
    unexpected = grind (arith, nat_tests, e)

    refused : code_fault before c ≡ Some UnexpectedMarker
    refused = rw unexpected refl

pub no_restart : (items : List Item) (tail : List ℕ) (c : ℕ) → PartOfItem items tail → SpellsMarker c tail → is_within 0xd0 0xd7 c ≡ false
no_restart items tail c part m = by (is_within 0xd0 0xd7 c) refl
  where
    by : (b : Bool) → is_within 0xd0 0xd7 c ≡ b → b ≡ false
    by false e = refl
    by true e = absurd (restart_refused (segments_of items) c e (part_begins items tail c part m).1)

-- THE PLACE at the end of a scan's data
pub record LastPlace (limits : Limits) (bytes : List ℕ) (items : List Item) (tail : List ℕ) : Type 0 where
  pub place : ScanPlace
  pub are : items ≡ scan_item place ∷ place.items
  pub at : ScanAt limits bytes place tail

pub last_place : (limits : Limits) (bytes : List ℕ) (items : List Item) (tail : List ℕ) → ends_in_scan items ≡ true → AfterItems limits bytes items tail → LastPlace limits bytes items tail
last_place limits bytes [] tail e w = absurd (clash false e refl)
last_place limits bytes (segment code contents ∷ items) tail e w = absurd (clash false e refl)
last_place limits bytes (scan contents intervals ∷ items) tail e w =
    let s = w.spelled in
    let t = s.4 in
    let l = w.leads in
    let sc = scan_after limits (segments_of items) contents in
    let h = ends_at sc l.0 w.blocks (chunks sc.interval sc.places) 0 intervals t.1 t.4 l.4.spelled in
    record {
      place = record { items = items; blocks = l.0; contents = contents; done = h.done; coded = h.last; places = h.places; later = [] };
      are = ap (λ m. scan contents m ∷ items) h.are;
      at = record {
        front = s.0;
        head = t.0;
        text = t.1;
        cut = w.cut ∙ ap (λ k. k ++ tail) (s.2 ∙ ap (λ k. s.0 ++ k) t.2 ∙ sym (append_assoc s.0 t.0 t.1));
        spelled = s.3;
        header = t.3;
        intervals = subst (λ m. SpellsIntervalsText 0 m t.1) h.are t.4;
        leads = l.3;
        allowed = (l.1, l.2);
        due = end_holds sc l.0 w.blocks (chunks sc.interval sc.places) intervals h;
      };
    }
