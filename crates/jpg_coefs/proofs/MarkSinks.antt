-- Sinks that count, one call after another, and the slots of a scan.
use Rattle.std.proofs.Common.{◌≡◌, ℕ, ◌==◌, Bool, true, false, List, [], ◌∷◌, ◌++◌, Option, None, Some, Ok, refl, sym, ap, ◌∙◌, subst, ℤ, lit<}
use Rattle.std.specs.Prelude.{flat_map, All}
use Rattle.std.proofs.lemmas.List.{append_assoc, append-nil}
use Rattle.std.proofs.lemmas.List.Elements.{All-head, All-tail, All-same}
use Rattle.jpg_spec.specs.Segments.{ScanHead}
use Rattle.jpg_spec.specs.Scan.{part_of}
use Rattle.jpg_spec.specs.declared.frame.ScanPart.{ScanPart}
use Rattle.jpg_spec_write.specs.ScanText.{UnitDue, last_dc}
use Rattle.jpg_huff.specs.Counts.{Mark, AreCounts, Notes}
use Rattle.jpg_huff.specs.declared.counts.SymbolCounts.{SymbolCounts}
use Rattle.jpg_huff.proofs.Marks.{but_start, but_then, but_same, but_last}
use Rattle.jpg_coefs.specs.Sinks.{no_last, At, TakesUnit, Ends, Begins}
use Rattle.jpg_coefs.specs.MarkSinks.{HasSlots, MarkSink, mark_kind}
use Rattle.jpg_coefs.proofs.Places.{found_part, part_here, part_later}

pub begins : {S D : Type 0} (b : MarkSink S) (now : At S SymbolCounts D) (all : List (List UnitDue)) → b.later now.sink now.sink → AreCounts now.out → All (λ due. All (b.fits now.sink) due) all
    → ((due : List UnitDue) → All (b.fits now.sink) due → b.rest now.sink no_last due ≡ b.marks now.sink due) → Begins (mark_kind b) all now
begins b now all same are fits start first later e =
    let P : List UnitDue → Type 0 = λ due. All (b.fits now.sink) due in
    let each = All-same P (first ∷ later) all (sym e) fits in
    let marks = b.marks now.sink in
    record {
      sink = same;
      rest_fits = All-head P first later each;
      later_fits = All-tail P first later each;
      counting = but_start now.out (flat_map marks all) _ are (ap (λ m. m ++ flat_map marks later) (start first (All-head P first later each)) ∙ ap (flat_map marks) (sym e));
    }

pub takes_unit : {S D : Type 0} (b : MarkSink S) (u : UnitDue) (last : ℤ) (old new : At S SymbolCounts D)
    → ((from : S) (lasts : ℕ → ℤ) (rest : List UnitDue) → b.later from old.sink → b.fits from u → lasts u.0 ≡ last
    → b.later from new.sink × (piece : List Mark) × (b.rest old.sink lasts (u ∷ rest) ≡ piece ++ b.rest new.sink (last_dc lasts u.0 u.1) rest) × Notes old.out piece new.out)
    → TakesUnit (mark_kind b) u last old (Ok tt) new
takes_unit b u last old new notes d e w =
    let h = notes d.from.sink d.last d.rest w.sink (All-head (b.fits d.from.sink) u d.rest w.rest_fits) e in
    let more = flat_map (b.marks d.from.sink) d.later in
    record {
      sink = h.0;
      rest_fits = All-tail (b.fits d.from.sink) u d.rest w.rest_fits;
      later_fits = w.later_fits;
      counting = but_then d.from.out old.out new.out _ _ h.1 _ (ap (λ m. m ++ more) h.2 ∙ append_assoc h.1 (b.rest new.sink (last_dc d.last u.0 u.1) d.rest) more) w.counting h.3;
    }

pub ends : {S D : Type 0} (b : MarkSink S) (marker : Option ℕ) (old new : At S SymbolCounts D) → ((last : ℕ → ℤ) → Notes old.out (b.rest old.sink last []) new.out)
    → ((from : S) (due : List UnitDue) → b.later from old.sink → All (b.fits from) due → b.later from new.sink × (b.rest new.sink no_last due ≡ b.marks from due)) → Ends (mark_kind b) marker old (Ok tt) new
ends b (Some n) old new notes start = λ d next t w.
    let P : List UnitDue → Type 0 = λ due. All (b.fits d.from.sink) due in
    let fits = All-head P next d.later w.later_fits in
    let s = start d.from.sink next w.sink fits in
    let marks = b.marks d.from.sink in
    record {
      sink = s.0;
      rest_fits = fits;
      later_fits = All-tail P next d.later w.later_fits;
      counting = but_same d.from.out new.out _ _ _ (ap (λ m. m ++ flat_map marks d.later) (sym s.1)) (but_then d.from.out old.out new.out _ _ (b.rest old.sink d.last []) _ refl w.counting (notes d.last));
    }
ends b None old new notes start = λ d w. (refl, but_last d.from.out old.out new.out _ _ _ (append-nil (b.rest old.sink d.last [])) w.counting (notes d.last))

-- SLOTS

slots_found : (parts : List ScanPart) (i : ℕ) → All HasSlots parts → HasSlots (found_part parts i)
slots_found [] i all = record { dc = lit< tt; ac = lit< tt }
slots_found (p ∷ parts) i all = by (p.component == i) refl (slots_found parts i (All-tail HasSlots p parts all))
  where
    by : (b : Bool) → (p.component == i) ≡ b → HasSlots (found_part parts i) → HasSlots (found_part (p ∷ parts) i)
    by true e later = subst HasSlots (sym (part_here p parts i e)) (All-head HasSlots p parts all)
    by false e later = subst HasSlots (sym (part_later p parts i e)) later

pub slots_of : (head : ScanHead) (i : ℕ) → All HasSlots head.parts → HasSlots (part_of head i)
slots_of head i all = slots_found head.parts i all
