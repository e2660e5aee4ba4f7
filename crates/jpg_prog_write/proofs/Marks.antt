-- Marks of the elements of bands.
use Rattle.std.proofs.Common.{◌≡◌, ℕ, ◌≤◌, Bool, true, false, cond, List, [], ◌∷◌, ◌++◌, take, refl, sym, ap, ◌∙◌, subst, pos, ℤ}
use Rattle.std.specs.Prelude.{flat_map, map, nat_lt, slice_index_or}
use Rattle.std.specs.List.{All}
use Rattle.std.proofs.lemmas.List.Concat.{flat_map-append}
use Rattle.jpg_spec.specs.Geometry.{Frame, is_progressive}
use Rattle.jpg_spec.specs.Segments.{ScanHead}
use Rattle.jpg_spec.specs.Elements.{Element, difference, dc_bit, value, long_run, ends, symbol_of, predicted}
use Rattle.jpg_spec.specs.Scan.{Blocks, part_of}
use Rattle.jpg_spec.proofs.Basics.Common.{lt_yes}
use Rattle.jpg_huff.specs.Counts.{AreCounts, Mark, Notes, no_counts}
use Rattle.jpg_huff.specs.declared.counts.SymbolCounts.{SymbolCounts}
use Rattle.jpg_huff.proofs.Marks.{notes_nothing, notes_same}
use Rattle.jpg_coefs.specs.MarkSinks.{owned_marks, interval_marks, scan_marks}
use Rattle.jpg_coefs.specs.Sinks.{intervals_due}
use Rattle.jpg_prog_write.specs.Steps.{IsFirst}
use Rattle.jpg_prog_write.specs.Counted.{marks_of}
use Rattle.jpg_spec_write.specs.Sending.{shifted, band_elements}
use Rattle.jpg_spec_write.specs.ScanText.{UnitDue, Owned, band_of, unit_elements}
use Rattle.jpg_prog_write.specs.Written.{first_slot}
use Rattle.jpg_prog_write.specs.ScanSinks.{IsBandUnit, AreBandsOf, bands_left}
use Rattle.jpg_prog_write.specs.declared.bands.Bands.{Bands}
use Rattle.jpg_prog_write.proofs.BandUnits.{IsOfBand, band_all, none_waits}
use Rattle.jpg_prog_write.specs.declared.item.Item.{Item}

-- ELEMENTS

pub marks_first : (slot : ℕ) (all : List Element) (item : Item) (bits : List Bool) (others : List Element) → IsFirst all item bits others → marks_of slot all ≡ (((1, slot), item.symbol) ∷ []) ++ marks_of slot others
unfolding marks_of
marks_first slot all item bits others f = ap (marks_of slot) f.first ∙ ap (λ n. ((1, slot), n) ∷ marks_of slot others) (sym f.is.symbol)

pub marks_join : (slot : ℕ) (xs ys : List Element) → marks_of slot (xs ++ ys) ≡ marks_of slot xs ++ marks_of slot ys
unfolding marks_of
marks_join slot xs ys = flat_map-append (λ e. ((1, slot), symbol_of e) ∷ []) xs ys

pub marks_none : (slot : ℕ) → marks_of slot [] ≡ []
unfolding marks_of
marks_none slot = refl

-- THE MARKS OF A SCAN's bands

one_mark : (head : ScanHead) (i : ℕ) (e : Element) → IsOfBand e → owned_marks head (i, e) ≡ ((1, (part_of head i).ac), symbol_of e) ∷ []
one_mark head i (difference d) h = cc
one_mark head i (dc_bit b) h = cc
one_mark head i (value run v bits) h = refl
one_mark head i (long_run bits) h = refl
one_mark head i (ends bands bits) h = refl

pub band_marks : (head : ScanHead) (b : Bands) (due : List UnitDue) → AreBandsOf head b → b.bands ≡ 0 → All (IsBandUnit head) due → marks_of (first_slot head) (bands_left b due) ≡ interval_marks true head due
unfolding marks_of
band_marks head b due are none all =
    none_waits (marks_of (first_slot head)) b due are.ready none
    ∙ band_all (owned_marks head) (λ e. ((1, first_slot head), symbol_of e) ∷ []) head b.band due are.ac.some are.band all
    (λ u is e of. one_mark head u.0 e of ∙ ap (λ n. ((1, n), symbol_of e) ∷ []) is.slot)

-- NO MARKS where DC values are refined: bits have no symbol

bits_unmarked : (head : ScanHead) (al : ℕ) (p : ℕ → ℤ) (due : List UnitDue) → flat_map (owned_marks head) (unit_elements false true al p due) ≡ []
bits_unmarked head al p [] = refl
bits_unmarked head al p (u ∷ due) = bits_unmarked head al (predicted p u.0 (shifted al (slice_index_or u.1 0 (pos 0)))) due

unmarked : (head : ScanHead) (due : List UnitDue) → head.ss ≡ 0 → 1 ≤ head.ah → interval_marks true head due ≡ []
unmarked head due dc refines =
    let bands : List Owned = flat_map (λ e. map (λ (u : UnitDue). (u.0, e)) (take 1 due)) (band_elements 32767 0 [] (map (λ (u : UnitDue). band_of head u.1) due)) in
    let p : ℕ → ℤ = λ i. pos 0 in
    ap (λ n. flat_map (owned_marks head) (cond (nat_lt 0 n) bands (unit_elements false (nat_lt 0 head.ah) head.al p due))) dc
    ∙ ap (λ r. flat_map (owned_marks head) (unit_elements false r head.al p due)) (lt_yes 0 head.ah refines) ∙ bits_unmarked head head.al p due

none_marked : (head : ScanHead) (all : List (List UnitDue)) → head.ss ≡ 0 → 1 ≤ head.ah → flat_map (interval_marks true head) all ≡ []
none_marked head [] dc refines = refl
none_marked head (due ∷ all) dc refines = ap (λ m. m ++ flat_map (interval_marks true head) all) (unmarked head due dc refines) ∙ none_marked head all dc refines

pub no_marks : (f : Frame) (head : ScanHead) (interval : ℕ) (blocks : Blocks) → is_progressive f.process ≡ true → head.ss ≡ 0 → 1 ≤ head.ah → scan_marks f head interval blocks ≡ []
unfolding scan_marks
no_marks f head interval blocks progressive dc refines =
    let all = intervals_due f head interval blocks in
    ap (λ p. flat_map (interval_marks p head) all) progressive ∙ none_marked head all dc refines

pub unmarked_counts : (counts : SymbolCounts) (marks : List Mark) → marks ≡ [] → counts ≡ no_counts → AreCounts counts → Notes no_counts marks counts
unmarked_counts counts marks none e are = subst (λ (u : SymbolCounts). Notes u marks counts) e (notes_same counts counts [] marks (sym none) (notes_nothing counts are))
