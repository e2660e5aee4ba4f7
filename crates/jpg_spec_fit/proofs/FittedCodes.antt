-- Tables made for counts have a code for each symbol that is sent.
use Rattle.std.proofs.Common.{◌≡◌, ℕ, zero, suc, ◌+◌, ◌*◌, ◌<◌, ◌≤◌, Bool, true, false, List, [], ◌∷◌, length, take, drop, refl, sym, ap, ◌∙◌, arith, ⊎_elim, ◌==◌}
use Rattle.std.specs.Prelude.{◌||◌, sum, slice_index}
use Rattle.std.proofs.lemmas.Bool.{or_cases}
use Rattle.std.proofs.lemmas.List.{length-drop, take-append-drop}
use Rattle.std.proofs.lemmas.List.Sums.{sum_by-cons}
use Rattle.std.proofs.lemmas.List.Elements.{Contains-append_right, Contains-append_left}
use Rattle.jpg_spec.specs.Bits.{bits_of}
use Rattle.jpg_spec.specs.Lists.{is_among}
use Rattle.jpg_spec.specs.Codes.{Code, codes_at, codes_from, codes}
use Rattle.jpg_spec.specs.Segments.{table_codes}
use Rattle.jpg_spec.proofs.Basics.Common.{same_of, any_append}
use Rattle.jpg_spec.proofs.Bits.FlatTables.{IsValid}
use Rattle.jpg_spec.proofs.Bits.Full.{Has}
use Rattle.jpg_spec_fit.specs.Fitted.{fitted}
use Rattle.jpg_spec_fit.proofs.FittedTables.{fitted_whole, fitted_found}

-- the first symbols have codes of the first size
has_at : (n len c : ℕ) (symbols : List ℕ) (v : ℕ) → is_among v (take n symbols) ≡ true → Has (codes_at n len c symbols) v
has_at zero len c symbols v e = cc
has_at (suc n) len c [] v e = cc
has_at (suc n) len c (s ∷ symbols) v e = by (s == v) refl e (λ k. has_at n len (c + 1) symbols v k)
  where
    by : (t : Bool) → (s == v) ≡ t → (t || is_among v (take n symbols)) ≡ true → (is_among v (take n symbols) ≡ true → Has (codes_at n len (c + 1) symbols) v) → Has (codes_at (suc n) len c (s ∷ symbols)) v
    by true t k later = (bits_of len c, (0, omega arith, ap (λ (m : ℕ). (let r : Code = (bits_of len c, m) in r)) (same_of s v t)))
    by false t k later = (let h = later k in (h.0, Contains-append_right ((bits_of len c, s) ∷ []) (codes_at n len (c + 1) symbols) (h.0, v) h.1))

-- as many symbols as codes
has_from : (counts : List ℕ) (len c : ℕ) (symbols : List ℕ) (v : ℕ) → sum counts ≡ length symbols → is_among v symbols ≡ true → Has (codes_from len c counts symbols) v
has_from [] len c [] v l e = cc
has_from [] len c (s ∷ symbols) v l e = (let never : ⊥ = omega (arith, l) in absurd never)
has_from (n ∷ counts) len c symbols v l e =
    let t = sum_by-cons (λ x. x) n counts in
    let long = length-drop n symbols in
    ⊎_elim
    (λ (h : is_among v (take n symbols) ≡ true).
    (let r = has_at n len c symbols v h in (r.0, Contains-append_left (codes_at n len c symbols) (codes_from (len + 1) (2 * (c + n)) counts (drop n symbols)) (r.0, v) r.1)))
    (λ (h : is_among v (drop n symbols) ≡ true).
    (let r = has_from counts (len + 1) (2 * (c + n)) (drop n symbols) v (omega (arith, t, long, l)) h in
    (r.0, Contains-append_right (codes_at n len c symbols) (codes_from (len + 1) (2 * (c + n)) counts (drop n symbols)) (r.0, v) r.1)))
    (or_cases (is_among v (take n symbols)) (is_among v (drop n symbols)) (sym (any_append (λ m. m == v) (take n symbols) (drop n symbols)) ∙ ap (is_among v) (take-append-drop n symbols) ∙ e))

pub fitted_has : (counts : List ℕ) (v : ℕ) → length counts ≤ 256 → 0 < slice_index counts v → Has (table_codes (fitted counts)) v
unfolding codes
fitted_has counts v few p = has_from (fitted counts).counts 1 0 (fitted counts).symbols v (fitted_whole counts few).total (fitted_found counts v p)

pub fitted_valid : (counts : List ℕ) → length counts ≤ 256 → IsValid (fitted counts)
fitted_valid counts few = (let is = fitted_whole counts few in record { counts = is.lengths; total = is.total; few = is.few; fits = is.codes })
