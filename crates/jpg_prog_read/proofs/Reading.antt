-- The results of the calls of a band's reader.
use Rattle.std.proofs.Common.{◌≡◌, ℕ, zero, suc, ◌+◌, ◌-◌, ◌*◌, ◌^◌, ◌<◌, ◌≤◌, Bool, List, [], ◌∷◌, ◌++◌, take, drop, refl, sym, ap, ◌∙◌, subst, arith, ℤ, pos, negsuc, true, false, inl, inr}
use Rattle.std.specs.List.{Contains}
use Rattle.std.proofs.lemmas.List.Elements.{All-head}
use Rattle.std.specs.Prelude.{slice_index_or, nat_abs}
use Rattle.jpg_spec.specs.Bits.{bits_of}
use Rattle.jpg_spec.specs.Codes.{Code}
use Rattle.jpg_spec.specs.Numbers.{digits}
use Rattle.jpg_spec.specs.Elements.{Coding, is_zero, zeros_in, grown}
use Rattle.jpg_coefs.specs.declared.machine.UnitFault.TheVariants as unit_fault
use Rattle.jpg_spec.proofs.Basics.Facts.{top, bits_high}
use Rattle.jpg_spec.proofs.Basics.Common.{clash}
use Rattle.jpg_spec.specs.Parts.{BeginsCode}
use Rattle.jpg_prog_read.specs.declared.stage.Stage.TheVariants as stage
use Rattle.jpg_prog_read.specs.declared.scan.BandScan.{BandScan}
use Rattle.jpg_prog_read.specs.declared.band.BandStep.TheVariants.{More, Fault}
use Rattle.jpg_prog_read.specs.InWork.{InWork, IsOpenBand, IsMoving, IsPassing, AreRefinable, IsRefinable}
use Rattle.jpg_prog_read.specs.ReaderSteps.{IsWithinBand}
use Rattle.jpg_prog_read.specs.Stands.{IsCodingOf, UnitPlace, RepresentsBandUnit, AnswersBit}
use Rattle.jpg_prog_read.specs.BandBits.{AnswersSymbol}
use Rattle.jpg_prog_read.proofs.BandSteps.{code_more, number_begun, count_begun, count_more, long_begun, end_begun, ends_begun, run_past}
use Rattle.jpg_prog_read.proofs.BandBits.{walked, walked_none}
use Rattle.jpg_prog_read.proofs.Passing.{with_value, old_corrected, fits_more, passing_same, in_limit}

pub zeros_take : (n : ℕ) (xs : List ℤ) → zeros_in (take n xs) ≤ n
zeros_take zero xs = omega arith
zeros_take (suc n) [] = omega arith
zeros_take (suc n) (pos zero ∷ xs) = omega (arith, zeros_take n xs)
zeros_take (suc n) (pos (suc m) ∷ xs) = omega (arith, zeros_take n xs)
zeros_take (suc n) (negsuc m ∷ xs) = omega (arith, zeros_take n xs)

-- A CODE

-- a state with other bits of a code
pub walked_is : (s mid : InWork) (w : List Bool) → mid ≡ record s { walked = mid.walked } → mid.walked ≡ w → mid ≡ record s { walked = w }
walked_is s mid w e h = e ∙ ap (λ (x : List Bool). (let n : InWork = record s { walked = x } in n)) h

pub more_read : (b : BandScan) (ac : List Code) (left : ℕ) (s mid : InWork) (next : Bool) → s.stage ≡ stage.Code → mid ≡ record s { walked = mid.walked }
    → BeginsCode ac (s.walked ++ next ∷ []) → mid.walked ≡ s.walked ++ next ∷ [] → AnswersBit b ac left s next More mid
more_read b ac left s mid next e same begins w at bits k l f =
    subst (λ (n : InWork). RepresentsBandUnit at (bits ++ next ∷ []) n) (sym (walked_is s mid (s.walked ++ next ∷ []) same w))
    (code_more f next e (subst (λ t. BeginsCode t (s.walked ++ next ∷ [])) (sym k.ac_codes) begins))

-- THE LAST BIT OF A CODE, by whatever bits before it the machine came to the state

-- that state has no bits of a code then
quiet_is : (old new : InWork) (change : InWork → InWork) → old.walked ≡ [] → new ≡ change old → change (walked old []) ≡ new
quiet_is old new change w begun = ap change (walked_none old w) ∙ sym begun

pub number_read : (b : BandScan) (old new : InWork) (symbol run size : ℕ) → old.stage ≡ stage.Code → old.walked ≡ [] → symbol ≡ 16 * run + size → 1 ≤ size
    → size ≤ b.most_category → run ≤ 15 → run < zeros_in old.rest → new ≡ record old { stage = stage.Number; run = run; size = size; extra = [] }
    → AnswersSymbol b old symbol More new
number_read b old new symbol run size e w is some most short room begun ac at bits front last k known f =
    subst (λ (n : InWork). RepresentsBandUnit at (bits ++ last ∷ []) n) (quiet_is old new (λ m. record m { stage = stage.Number; run = run; size = size; extra = [] }) w begun)
    (number_begun f last run size k e (subst (λ (y : ℕ). Contains ac (front ++ last ∷ [], y)) is known) some most short room)

pub count_read : (b : BandScan) (old new : InWork) (symbol run size : ℕ) → old.stage ≡ stage.Code → old.walked ≡ [] → symbol ≡ 16 * size → size ≤ 14
    → new ≡ record old { stage = stage.Count; run = run; size = size; extra = [] } → AnswersSymbol b old symbol More new
count_read b old new symbol run size e w is most begun ac at bits front last k known f =
    subst (λ (n : InWork). RepresentsBandUnit at (bits ++ last ∷ []) n) (quiet_is old new (λ m. record m { stage = stage.Count; run = run; size = size; extra = [] }) w begun)
    (count_begun f last size run k e (subst (λ (y : ℕ). Contains ac (front ++ last ∷ [], y)) is known) most)

pub long_read : (b : BandScan) (old new : InWork) (symbol : ℕ) → old.stage ≡ stage.Code → old.walked ≡ [] → symbol ≡ 0xf0
    → new ≡ record old { stage = stage.Long; run = 15 } → AnswersSymbol b old symbol More new
long_read b old new symbol e w is begun ac at bits front last k known f =
    subst (λ (n : InWork). RepresentsBandUnit at (bits ++ last ∷ []) n) (quiet_is old new (λ m. record m { stage = stage.Long; run = 15 }) w begun)
    (long_begun f last k e (subst (λ (y : ℕ). Contains ac (front ++ last ∷ [], y)) is known))

pub end_read : (b : BandScan) (old new : InWork) (symbol : ℕ) → old.stage ≡ stage.Code → old.walked ≡ [] → symbol ≡ 0 → zeros_in old.rest < 255
    → new ≡ record old { stage = stage.Ends; run = 255; bands = 1 } → AnswersSymbol b old symbol More new
end_read b old new symbol e w is small begun ac at bits front last k known f =
    subst (λ (n : InWork). RepresentsBandUnit at (bits ++ last ∷ []) n) (quiet_is old new (λ m. record m { stage = stage.Ends; run = 255; bands = 1 }) w begun)
    (end_begun f last k e (subst (λ (y : ℕ). Contains ac (front ++ last ∷ [], y)) is known) small)

-- the reader continues
pub number_opened : (b : BandScan) (s new : InWork) (run size : ℕ) → IsOpenBand b s → 1 ≤ size
    → new ≡ record s { stage = stage.Number; run = run; size = size; extra = [] } → IsOpenBand b new
number_opened b s new run size o some begun = subst (λ (n : InWork). IsOpenBand b n) (sym begun) (record { left = o.left; fits = o.fits; waits = omega (arith, some) })

pub count_opened : (b : BandScan) (s new : InWork) (run size : ℕ) → IsOpenBand b s → 1 ≤ size → size ≤ 14
    → new ≡ record s { stage = stage.Count; run = run; size = size; extra = [] } → IsOpenBand b new
count_opened b s new run size o some few begun = subst (λ (n : InWork). IsOpenBand b n) (sym begun) (record { left = o.left; fits = o.fits; waits = (omega (arith, some), few) })

-- AN EXTRA BIT

count_mid : {at : UnitPlace} {bits : List Bool} {s : InWork} (mid : InWork) (next : Bool) → s.stage ≡ stage.Count → RepresentsBandUnit at bits s
    → mid ≡ record s { extra = s.extra ++ next ∷ [] } → RepresentsBandUnit at (bits ++ next ∷ []) mid × (mid.stage ≡ stage.Count)
count_mid {at} {bits} {s} mid next e f same = (subst (λ (n : InWork). RepresentsBandUnit at (bits ++ next ∷ []) n) (sym same) (count_more f next e), ap (λ (n : InWork). n.stage) same ∙ e)

pub ends_read : (b : BandScan) (ac : List Code) (left : ℕ) (s mid new : InWork) (next : Bool) (total : ℕ) → s.stage ≡ stage.Count
    → mid ≡ record s { extra = s.extra ++ next ∷ [] } → 1 ≤ total → digits total ≡ mid.size + 1 → bits_of mid.size total ≡ mid.extra → total ≤ left
    → zeros_in mid.rest < 255 → new ≡ record mid { stage = stage.Ends; run = 255; bands = total } → AnswersBit b ac left s next More new
ends_read b ac left s mid new next total e same some size extra fits small begun at bits k l f =
    let m = count_mid mid next e f same in
    subst (λ (n : InWork). RepresentsBandUnit at (bits ++ next ∷ []) n) (sym begun) (ends_begun m.0 total k m.1 some size extra (omega (arith, l, fits)) small)

pub past_read : (b : BandScan) (ac : List Code) (left : ℕ) (s mid : InWork) (next : Bool) (total : ℕ) → s.stage ≡ stage.Count
    → mid ≡ record s { extra = s.extra ++ next ∷ [] } → 1 ≤ total → digits total ≡ mid.size + 1 → bits_of mid.size total ≡ mid.extra → left < total
    → AnswersBit b ac left s next (Fault unit_fault.RunPastEnd) mid
past_read b ac left s mid next total e same some size extra past at bits k l f =
    let m = count_mid mid next e f same in
    let t = top total some in
    let d : digits total - 1 ≡ mid.size = omega (arith, size) in
    let x = total - 2 ^ mid.size in
    let sum : total ≡ 2 ^ mid.size + x = subst (λ n. total ≡ 2 ^ n + (total - 2 ^ n)) d t.0 in
    let low : x < 2 ^ mid.size = subst (λ n. total - 2 ^ n < 2 ^ n) d t.1 in
    let same_bits : bits_of mid.size x ≡ mid.extra = sym (bits_high mid.size x) ∙ ap (bits_of mid.size) (sym sum) ∙ extra in
    run_past m.0 total x k m.1 sum low same_bits (omega (arith, l, past))

-- AN OLD VALUE and its correction

pub old_read : {at : UnitPlace} {bits : List Bool} {s : InWork} (new : InWork) (o v : ℤ) (next : Bool) → IsPassing s.stage s → s.rest ≡ o ∷ drop 1 s.rest
    → is_zero o ≡ false → RepresentsBandUnit at bits s → IsWithinBand at.coding v → v ≡ grown at.coding.al next o
    → new ≡ record s { done = s.done ++ v ∷ []; rest = drop 1 s.rest } → RepresentsBandUnit at (bits ++ next ∷ []) new
old_read {at} {bits} {s} new o v next p r z f ok g e =
    subst (λ (n : InWork). RepresentsBandUnit at (bits ++ next ∷ []) n) (sym (e ∙ ap (λ (y : ℤ). with_value s y) g))
    (old_corrected f s.stage o next refl r z (subst (λ (y : ℤ). IsWithinBand at.coding y) g ok) p)

pub moving_put : (b : BandScan) (s new : InWork) (v : ℤ) → IsPassing s.stage s → AreRefinable b s.rest → new ≡ record s { done = s.done ++ v ∷ []; rest = drop 1 s.rest } → IsMoving b new
moving_put b s new v p fits e = subst (λ (n : InWork). IsMoving b n) (sym e) (record { fits = fits_more b s.rest fits; passing = passing_same s.stage s (with_value s v) refl p })

-- a value that a correction leaves within the limit
grown_size : (al : ℕ) (b : Bool) (o : ℤ) → nat_abs (grown al b o) ≤ nat_abs o + 2 ^ al
grown_size al false o = omega arith
grown_size al true (pos n) = omega arith
grown_size al true (negsuc n) = omega arith

head_fits : (b : BandScan) (rest : List ℤ) (o : ℤ) → rest ≡ o ∷ drop 1 rest → is_zero o ≡ false → AreRefinable b rest → nat_abs o + b.scale ≤ b.most_magnitude
head_fits b rest o r z fits = by (All-head (IsRefinable b) o (drop 1 rest) (subst (λ l. AreRefinable b l) r fits))
  where
    by : IsRefinable b o → nat_abs o + b.scale ≤ b.most_magnitude
    by (inl e) = absurd (clash (is_zero o) e z)
    by (inr h) = h

pub grown_within : (c : Coding) (b : BandScan) (ac : List Code) (i : ℕ) (rest : List ℤ) (o : ℤ) (next : Bool) → IsCodingOf b ac c i → rest ≡ o ∷ drop 1 rest → is_zero o ≡ false → AreRefinable b rest → IsWithinBand c (grown c.al next o)
grown_within c b ac i rest o next k r z fits =
    in_limit c b.most_magnitude (grown c.al next o) k.bounds (omega (arith, grown_size c.al next o, head_fits b rest o r z fits, k.scale))

pub head_old : (rest : List ℤ) (o : ℤ) → rest ≡ o ∷ drop 1 rest → is_zero (slice_index_or rest 0 (pos 0)) ≡ false → is_zero o ≡ false
head_old rest o r z = ap (λ (l : List ℤ). is_zero (slice_index_or l 0 (pos 0))) (sym r) ∙ z
