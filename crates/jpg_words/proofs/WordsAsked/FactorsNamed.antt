-- Factors, read pair by pair.
use Rattle.std.proofs.Common.{◌≡◌, ℕ, zero, suc, ◌-◌, ◌<◌, ◌≤◌, All, true, false, ◌&&◌, ◌==◌, List, [], ◌∷◌, ◌++◌, length, slice_index, Option, None, Some, option_map, refl, sym, ap, ◌∙◌, subst, arith}
use Rattle.std.proofs.lemmas.List.Elements.{All-append, All-cons, All-nil}
use Rattle.std.proofs.lemmas.List.{append_assoc, length-append, nil_from_length}
use Rattle.std.specs.Prelude.{nat_le}
use Rattle.jpg_spec.specs.Markers.{is_within}
use Rattle.jpg_spec_encode.specs.EncodingLaws.{AreFactors}
use Rattle.jpg_spec_words.specs.EncodeWords.{are_factors, factors_from, is_factor}
use Rattle.jpg_spec.proofs.Basics.Common.{both, le_of}

abbrev Pairs : Type 0
Pairs = List (ℕ × ℕ)

-- with those before them
abbrev pub after : Pairs → Option Pairs → Option Pairs
after had = option_map (λ more. had ++ more)

after_one : (had : Pairs) (pair : ℕ × ℕ) (found : Option Pairs) → after had (option_map (λ more. pair ∷ more) found) ≡ after (had ++ pair ∷ []) found
after_one had pair None = refl
after_one had pair (Some more) = ap (λ (l : Pairs). Some l) (sym (append_assoc had (pair ∷ []) more))

from_comma : (most a x d : ℕ) (text : List ℕ) → are_factors a x d ≡ true → factors_from (suc most) (a ∷ x ∷ d ∷ 44 ∷ text) ≡ option_map (λ more. (a - 48, d - 48) ∷ more) (factors_from most text)
from_comma most a x d text e = rw e refl

from_end : (most a x d : ℕ) → are_factors a x d ≡ true → factors_from (suc most) (a ∷ x ∷ d ∷ []) ≡ Some ((a - 48, d - 48) ∷ [])
from_end most a x d e = rw e refl

room_for : (had : Pairs) (pair : ℕ × ℕ) → length had < 4 → 4 - length had ≡ suc (4 - length (had ++ pair ∷ []))
room_for had pair few = (let l = length-append had (pair ∷ []) in omega (arith, l, few))

-- one more pair, and a comma
pub one_more : (had : Pairs) (a x d : ℕ) (text : List ℕ) → length had < 4 → are_factors a x d ≡ true
    → after had (factors_from (4 - length had) (a ∷ x ∷ d ∷ 44 ∷ text)) ≡ after (had ++ (a - 48, d - 48) ∷ []) (factors_from (4 - length (had ++ (a - 48, d - 48) ∷ [])) text)
one_more had a x d text few e =
    ap (λ n. after had (factors_from n (a ∷ x ∷ d ∷ 44 ∷ text))) (room_for had (a - 48, d - 48) few)
    ∙ ap (after had) (from_comma (4 - length (had ++ (a - 48, d - 48) ∷ [])) a x d text e)
    ∙ after_one had (a - 48, d - 48) (factors_from (4 - length (had ++ (a - 48, d - 48) ∷ [])) text)

-- the last pair
pub last_one : (had : Pairs) (a x d : ℕ) → length had < 4 → are_factors a x d ≡ true → after had (factors_from (4 - length had) (a ∷ x ∷ d ∷ [])) ≡ Some (had ++ (a - 48, d - 48) ∷ [])
last_one had a x d few e =
    ap (λ n. after had (factors_from n (a ∷ x ∷ d ∷ []))) (room_for had (a - 48, d - 48) few)
    ∙ ap (after had) (from_end (4 - length (had ++ (a - 48, d - 48) ∷ [])) a x d e)

-- no pair there
pub no_pair : (text : List ℕ) (most : ℕ) → are_factors (slice_index text 0) (slice_index text 1) (slice_index text 2) ≡ false → factors_from most text ≡ None
no_pair text zero e = refl
no_pair [] (suc most) e = refl
no_pair (a ∷ []) (suc most) e = refl
no_pair (a ∷ x ∷ []) (suc most) e = refl
no_pair (a ∷ x ∷ d ∷ []) (suc most) e = rw e refl
no_pair (a ∷ x ∷ d ∷ comma ∷ text) (suc most) e = rw e refl

-- A PAIR that was read

abbrev FirstPair : List ℕ → List ℕ → ℕ × ℕ → Type 0
FirstPair rest after pair = (a x d : ℕ) × (rest ≡ a ∷ x ∷ d ∷ after) × (are_factors a x d ≡ true) × (pair ≡ (a - 48, d - 48))

-- it is the last
pub ended_there : (told : Option Pairs) (had now : Pairs) (rest behind : List ℕ) (pair : ℕ × ℕ) → told ≡ after had (factors_from (4 - length had) rest) → FirstPair rest behind pair → length behind ≡ 0 → length had < 4 → now ≡ had ++ pair ∷ [] → Some now ≡ told
ended_there told had now rest behind pair is (a, x, d, cut, ok, same) none few more =
    ap (λ (l : Pairs). Some l) (more ∙ ap (λ p. had ++ p ∷ []) same)
    ∙ sym (last_one had a x d few ok)
    ∙ sym (ap (λ (text : List ℕ). after had (factors_from (4 - length had) text)) (cut ∙ ap (λ (l : List ℕ). a ∷ x ∷ d ∷ l) (nil_from_length behind none)))
    ∙ sym is

-- or a comma and more follow it
pub goes_on : (told : Option Pairs) (had now : Pairs) (rest behind : List ℕ) (comma : ℕ) (more : List ℕ) (pair : ℕ × ℕ) → told ≡ after had (factors_from (4 - length had) rest) → FirstPair rest behind pair → behind ≡ comma ∷ more → comma ≡ 44 → length had < 4 → now ≡ had ++ pair ∷ []
    → told ≡ after now (factors_from (4 - length now) more)
goes_on told had now rest behind comma more pair is (a, x, d, cut, ok, same) next e few grown =
    let text : rest ≡ a ∷ x ∷ d ∷ 44 ∷ more = cut ∙ ap (λ (l : List ℕ). a ∷ x ∷ d ∷ l) (next ∙ ap (λ n. n ∷ more) e) in
    is ∙ ap (λ (t : List ℕ). after had (factors_from (4 - length had) t)) text ∙ one_more had a x d more few ok
    ∙ ap (λ (l : Pairs). after l (factors_from (4 - length l) more)) (sym (grown ∙ ap (λ p. had ++ p ∷ []) same))

within_of : (low high n : ℕ) → is_within low high n ≡ true → (low ≤ n) × (n ≤ high)
within_of low high n e = (let two = both (nat_le low n) (nat_le n high) e in (le_of low n two.0, le_of n high two.1))

-- digits from 1 to 4
digits_fit : (a x d : ℕ) → are_factors a x d ≡ true → AreFactors (a - 48, d - 48)
digits_fit a x d e =
    let two = both (is_factor a) (x == 120 && is_factor d) e in
    let across = two.0 in
    let down = (both (x == 120) (is_factor d) two.1).1 in
    let l = within_of 49 52 a across in
    let m = within_of 49 52 d down in
    record { h_low = omega (arith, l.0); h_high = omega (arith, l.1); v_low = omega (arith, m.0); v_high = omega (arith, m.1) }

pub all_pairs : (had now : Pairs) (rest : List ℕ) (behind : List ℕ) (pair : ℕ × ℕ) → All AreFactors had → FirstPair rest behind pair → now ≡ had ++ pair ∷ [] → All AreFactors now
all_pairs had now rest behind pair all (a, x, d, cut, ok, same) grown =
    subst (λ (l : Pairs). All AreFactors l) (sym (grown ∙ ap (λ p. had ++ p ∷ []) same))
    (All-append AreFactors had ((a - 48, d - 48) ∷ []) all (All-cons AreFactors (a - 48, d - 48) [] (digits_fit a x d ok) (All-nil AreFactors)))
