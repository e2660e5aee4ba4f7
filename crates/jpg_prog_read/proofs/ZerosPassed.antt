-- Zeros of a band that are skipped at once.
use Rattle.std.proofs.Common.{◌≡◌, ℕ, zero, suc, ◌+◌, ◌-◌, ◌<◌, ◌≤◌, Bool, false, List, [], ◌∷◌, ◌++◌, length, take, drop, drop-drop, refl, sym, ap, ◌∙◌, subst, arith, ℤ, pos}
use Rattle.std.specs.Prelude.{slice_index_or}
use Rattle.std.proofs.lemmas.List.{append_assoc, append-nil, length-drop}
use Rattle.std.proofs.lemmas.List.Elements.{All-tail}
use Rattle.jpg_spec.specs.Elements.{is_zero, zeros}
use Rattle.jpg_prog_read.specs.declared.scan.BandScan.{BandScan}
use Rattle.jpg_prog_read.specs.InWork.{InWork, IsPassing, AreRefinable, IsRefinable}
use Rattle.jpg_prog_read.specs.ReaderSteps.{HasSkipped, PassesZeros, HasZero}
use Rattle.jpg_prog_read.specs.Stands.{UnitPlace, RepresentsBandUnit}
use Rattle.jpg_prog_read.specs.ZerosPassed.{after_zeros}
use Rattle.jpg_prog_read.proofs.Passing.{zero_passed, with_zero, passing_more}

-- a zero that is next
pub zero_next : (n : ℕ) (rest : List ℤ) → suc n ≤ length rest → take (suc n) rest ≡ zeros (suc n) → (rest ≡ pos 0 ∷ drop 1 rest) × (take n (drop 1 rest) ≡ zeros n)
zero_next n [] some e = absurd (omega (arith, some))
zero_next n (v ∷ rest) some e = (ap (λ (x : ℤ). x ∷ rest) (ap (λ (l : List ℤ). slice_index_or l 0 (pos 0)) e), ap (drop 1) e)

-- with one fewer zero to skip
one_less : (s : InWork) (n : ℕ) → suc n ≤ s.run → after_zeros s (suc n) ≡ after_zeros (with_zero s) n
one_less s n run =
    let d : s.done ++ zeros (suc n) ≡ (s.done ++ pos 0 ∷ []) ++ zeros n = sym (append_assoc s.done (pos 0 ∷ []) (zeros n)) in
    let r : drop (suc n) s.rest ≡ drop n (drop 1 s.rest) = (let e : suc n ≡ 1 + n = omega arith in ap (λ m. drop m s.rest) e) ∙ sym (drop-drop n 1 s.rest) in
    let k : s.run - suc n ≡ s.run - 1 - n = omega (arith, run) in
    ap (λ (l : List ℤ). (let m : InWork = record s { done = l; rest = drop (suc n) s.rest; run = s.run - suc n } in m)) d
    ∙ ap (λ (l : List ℤ). (let m : InWork = record s { done = (s.done ++ pos 0 ∷ []) ++ zeros n; rest = l; run = s.run - suc n } in m)) r
    ∙ ap (λ (x : ℕ). (let m : InWork = record s { done = (s.done ++ pos 0 ∷ []) ++ zeros n; rest = drop n (drop 1 s.rest); run = x } in m)) k

none_passed : (s : InWork) → after_zeros s 0 ≡ s
none_passed s =
    let k : s.run - 0 ≡ s.run = omega arith in
    ap (λ (l : List ℤ). (let m : InWork = record s { done = l; rest = s.rest; run = s.run - 0 } in m)) (append-nil s.done)
    ∙ ap (λ (x : ℕ). (let m : InWork = record s { run = x } in m)) k

pub zeros_passed : (at : UnitPlace) (bits : List Bool) (s : InWork) (n : ℕ) → n ≤ length s.rest → take n s.rest ≡ zeros n → n ≤ s.run → HasZero at.coding → RepresentsBandUnit at bits s → IsPassing s.stage s → RepresentsBandUnit at bits (after_zeros s n)
zeros_passed at bits s zero some next run ok f g = subst (λ (m : InWork). RepresentsBandUnit at bits m) (sym (none_passed s)) f
zeros_passed at bits s (suc n) some next run ok f g =
    let z = zero_next n s.rest some next in
    let here : RepresentsBandUnit at bits (with_zero s) = zero_passed f s.stage refl z.0 (omega (arith, run)) ok g in
    let short : n ≤ length (drop 1 s.rest) = (let e : length s.rest ≡ suc (length (drop 1 s.rest)) = ap length z.0 in omega (arith, some, e)) in
    subst (λ (m : InWork). RepresentsBandUnit at bits m) (sym (one_less s n run)) (zeros_passed at bits (with_zero s) n short z.1 (omega (arith, run)) ok here (passing_more s (with_zero s) refl g))

-- what else doesn't change
pub fits_after : (b : BandScan) (n : ℕ) (rest : List ℤ) → AreRefinable b rest → AreRefinable b (drop n rest)
fits_after b zero rest f = f
fits_after b (suc n) [] f = f
fits_after b (suc n) (v ∷ rest) f = fits_after b n rest (All-tail (IsRefinable b) v rest f)

pub skipped : (s new : InWork) (n : ℕ) → new ≡ after_zeros s n → HasSkipped s new
skipped s new n e = record {
  stage = ap (λ (m : InWork). m.stage) e;
  bands = ap (λ (m : InWork). m.bands) e;
  front = ap (λ (m : InWork). m.front) e;
  behind = ap (λ (m : InWork). m.behind) e;
  fits = λ b f. subst (λ (m : InWork). AreRefinable b m.rest) (sym e) (fits_after b n s.rest f);
}

pub passes : (s new : InWork) (n : ℕ) → n ≤ length s.rest → take n s.rest ≡ zeros n → n ≤ s.run → IsPassing s.stage s → new ≡ after_zeros s n → PassesZeros s new
passes s new n some next run g e = λ at bits ok f. subst (λ (m : InWork). RepresentsBandUnit at bits m) (sym e) (zeros_passed at bits s n some next run ok f g)

-- the same for fewer zeros, and one after them
pub fewer_come : (n r : ℕ) (rest : List ℤ) → r < n → n ≤ length rest → take n rest ≡ zeros n → (take r rest ≡ zeros r) × (drop r rest ≡ pos 0 ∷ drop 1 (drop r rest))
fewer_come zero r rest less some next = absurd (omega (arith, less))
fewer_come (suc n) zero rest less some next = (refl, (zero_next n rest some next).0)
fewer_come (suc n) (suc r) [] less some next = absurd (omega (arith, some))
fewer_come (suc n) (suc r) (v ∷ rest) less some next =
    let z = zero_next n (v ∷ rest) some next in
    let more = fewer_come n r rest (omega (arith, less)) (omega (arith, some)) z.1 in
    (ap (λ (x : ℤ). x ∷ take r rest) (ap (λ (l : List ℤ). slice_index_or l 0 (pos 0)) z.0) ∙ ap (λ (l : List ℤ). pos 0 ∷ l) more.0, more.1)

none_behind : (n : ℕ) → let xs : List ℤ = drop n [] in 1 ≤ length xs → ⊥
none_behind zero some = omega (arith, some)
none_behind (suc n) some = omega (arith, some)

-- the value after them
pub old_after : (n : ℕ) (rest : List ℤ) → 1 ≤ length (drop n rest) → is_zero (slice_index_or rest n (pos 0)) ≡ false → (v : ℤ) × (drop n rest ≡ v ∷ drop 1 (drop n rest)) × (is_zero v ≡ false)
old_after n [] some z = absurd (none_behind n some)
old_after zero (v ∷ rest) some z = (v, refl, z)
old_after (suc n) (v ∷ rest) some z = old_after n rest some z

pub short_of : (n : ℕ) (rest : List ℤ) → 1 ≤ length (drop n rest) → n < length rest
short_of n rest some = omega (arith, length-drop n rest, some)
