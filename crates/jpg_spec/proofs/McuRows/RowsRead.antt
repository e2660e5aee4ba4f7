-- THE LAW: a current picture has the blocks that are encoded up to a place inside the data of a scan of all components.
use Rattle.std.proofs.Common.{◌≡◌, ℕ, List, [], ◌∷◌, ◌++◌, refl, sym, ap, ◌∙◌, subst}
use Rattle.std.specs.Prelude.{map, flat_map}
use Rattle.std.proofs.lemmas.List.{append_assoc, append-nil}
use Rattle.jpg_spec.specs.Lists.{joined}
use Rattle.jpg_spec.specs.Elements.{UnitLeft}
use Rattle.jpg_spec.specs.Scan.{Blocks, Scan, SpellsInterval, SpellsIntervals, unit_at}
use Rattle.jpg_spec.specs.FileMeaning.{no_blocks}
use Rattle.jpg_spec.specs.ScanReading.{ScanPlace, scan_at}
use Rattle.jpg_spec.specs.RowsParsed.{TellsBlocks, TellsFirst}
use Rattle.jpg_spec.specs.RowLaws.{ReadsInterval, ReadsUnits}
use Rattle.jpg_spec.specs.declared.frame.Limits.{Limits}
use Rattle.jpg_spec.specs.declared.frame.Place.{Place}
use Rattle.jpg_spec.proofs.Files.BlocksOnce.{band_of}
use Rattle.jpg_spec.proofs.Places.PictureInWork.{AreApart, apart_less, due_apart, joined_join, so_far_units, spelled_still}
use Rattle.jpg_spec.proofs.McuRows.RowBands.{units_before, whole_first}
use Rattle.jpg_spec.proofs.McuRows.RowsLater.{blank}

-- UNITS of the current interval
abbrev pub units_tell : (limits : Limits) (p : ScanPlace) (now : Blocks) (w : ReadsUnits limits p now) → TellsBlocks (scan_at limits p) p.done p.coded (joined (w.so_far).front ++ w.part) now
units_tell limits p now w = record {
  whole = (w.so_far).front;
  part = w.part;
  rest = w.rest;
  later = p.later;
  bits = w.bits;
  behind = w.behind;
  intervals = (w.so_far).cut ∙ ap (λ q. (w.so_far).front ++ q ∷ p.later) w.cut;
  all = refl;
  spelled = subst (λ b. SpellsIntervals s b now (w.so_far).front p.done) none (spelled_still s p.blocks w.old now w.part (w.read).changes.elsewhere (w.so_far).front p.done apart (w.so_far).spelled);
  cut = w.coded;
  first = first;
  sizes = (w.read).changes.sizes;
}
  where
    s : Scan
    s = scan_at limits p

    none : p.blocks ≡ no_blocks
    none = blank limits p.items p.blocks w.leads (w.of_all).first

    apart : AreApart (joined (w.so_far).front) w.part
    apart =
        (apart_less (joined (w.so_far).front) w.part w.rest
        (subst (λ q. AreApart (joined (w.so_far).front) q) w.cut (due_apart s p.blocks w.old p.done p.places p.later w.distinct w.so_far))).0

    first : TellsFirst (scan_at limits p).coding (units_before (scan_at limits p) (w.part ++ w.rest)) (flat_map (band_of (scan_at limits p) now) w.part) w.bits
    first =
        let units : map (unit_at s w.old) p.places ≡ units_before s (w.part ++ w.rest) =
        so_far_units s p.blocks w.old p.done p.places p.later w.distinct w.so_far ∙ ap (λ b. map (unit_at s b) p.places) none ∙ ap (units_before s) w.cut in
        subst (λ (us : List UnitLeft). TellsFirst s.coding us (flat_map (band_of s now) w.part) w.bits) units
        (subst (λ told. TellsFirst s.coding (map (unit_at s w.old) p.places) told w.bits) (w.read).told_there w.spelled)

-- THE CURRENT INTERVAL, complete

pub record LastOf (s : Scan) (before after : Blocks) (front : List (List Place)) (done : List (List ℕ)) (coded : List ℕ) : Type 0 where
  pub whole : List (List Place)
  pub part : List Place
  pub are : front ≡ whole ++ part ∷ []
  pub spelled : SpellsIntervals s before after whole done
  pub here : SpellsInterval s before after part coded

pub last_of : (s : Scan) (before after : Blocks) (front : List (List Place)) (done : List (List ℕ)) (coded : List ℕ) → SpellsIntervals s before after front (done ++ coded ∷ []) → LastOf s before after front done coded
last_of s before after [] [] coded k = absurd k
last_of s before after [] (d ∷ done) coded k = absurd k
last_of s before after (p ∷ []) [] coded k = record { whole = []; part = p; are = refl; spelled = tt; here = k.0 }
last_of s before after (p ∷ q ∷ front) [] coded k = absurd k.1
last_of s before after (p ∷ front) (d ∷ done) coded k =
    let h = last_of s before after front done coded k.1 in
    record { whole = p ∷ h.whole; part = h.part; are = ap (λ l. p ∷ l) h.are; spelled = (k.0, h.spelled); here = h.here }

abbrev pub interval_tells : (limits : Limits) (p : ScanPlace) (now : Blocks) (w : ReadsInterval limits p now) → TellsBlocks (scan_at limits p) p.done p.coded (joined (w.so_far).front) now
interval_tells limits p now w =
    let s = scan_at limits p in
    let none : p.blocks ≡ no_blocks = blank limits p.items p.blocks w.leads (w.of_all).first in
    let h = last_of s p.blocks now (w.so_far).front p.done p.coded (w.so_far).spelled in
    let here : SpellsInterval s no_blocks now h.part p.coded = subst (λ b. SpellsInterval s b now h.part p.coded) none h.here in
    let same : h.part ≡ h.part ++ [] = sym (append-nil h.part) in
    record {
      whole = h.whole;
      part = h.part;
      rest = [];
      later = p.later;
      bits = here.0;
      behind = here.1.0;
      intervals = (w.so_far).cut ∙ ap (λ l. l ++ p.later) h.are ∙ append_assoc h.whole (h.part ∷ []) p.later ∙ ap (λ q. h.whole ++ q ∷ p.later) same;
      all = ap joined h.are ∙ joined_join h.whole (h.part ∷ []) ∙ ap (λ l. joined h.whole ++ l) (append-nil h.part);
      spelled = subst (λ b. SpellsIntervals s b now h.whole p.done) none h.spelled;
      cut = here.1.2;
      first = subst (λ q. TellsFirst s.coding (units_before s q) (flat_map (band_of s now) h.part) here.0) same (whole_first s now h.part p.coded here);
      sizes = (w.so_far).changes.sizes;
    }
