-- The codes of a table, length by length.
use Rattle.std.proofs.Common.{◌≡◌, ℕ, zero, suc, ◌+◌, ◌*◌, ◌/◌, ◌%◌, ◌^◌, ◌<◌, ◌≤◌, Bool, List, [], ◌∷◌, ◌++◌, length, drop, get_or, refl, sym, ap, ◌∙◌, arith, add-one, add-zero, inl, inr, ⊎_elim, ◌==◌}
use Rattle.std.specs.Prelude.{◌⊎◌}
use Rattle.std.specs.List.{Contains}
use Rattle.std.proofs.lemmas.List.{append_assoc, append-nil}
use Rattle.std.proofs.lemmas.List.Elements.{Contains-append_right, Contains-append_cases}
use Rattle.std.proofs.Math.Nat.{pow-succ'}
use Rattle.jpg_spec.specs.Bits.{bits_of}
use Rattle.jpg_spec.specs.Codes.{Code, codes_at, codes_from, AreCodes}
use Rattle.jpg_spec.proofs.Basics.Strings.{bits_of-split}

pub contains_none : {A : Type 0} (x : A) → Contains [] x → ⊥
contains_none x h = omega (arith, h.1)

one_is : {A : Type 0} (y x : A) (k : ℕ) → k < 1 → get_or (y ∷ []) k x ≡ x → y ≡ x
one_is y x zero h e = e
one_is y x (suc k) h e = absurd (omega arith)

pub contains_cons : {A : Type 0} (y : A) (ys : List A) (x : A) → Contains (y ∷ ys) x → (y ≡ x) ⊎ Contains ys x
contains_cons y ys x h = ⊎_elim (λ a. inl (one_is y x a.0 a.1 a.2)) (λ b. inr b) (Contains-append_cases (y ∷ []) ys x h)

pub contains_here : {A : Type 0} (y : A) (ys : List A) → Contains (y ∷ ys) y
contains_here y ys = (0, omega arith, refl)

-- a code of the length
pub in_level : (count len c : ℕ) (symbols : List ℕ) (i : ℕ) → i < count → i < length symbols → Contains (codes_at count len c symbols) (bits_of len (c + i), get_or symbols i 0)
in_level zero len c symbols i h1 h2 = absurd (omega arith)
in_level (suc count) len c [] i h1 h2 = absurd (omega arith)
in_level (suc count) len c (s ∷ symbols) zero h1 h2 = rw add-zero (contains_here (bits_of len c, s) (codes_at count len (c + 1) symbols))
in_level (suc count) len c (s ∷ symbols) (suc i) h1 h2 =
    let h = in_level count len (c + 1) symbols i (omega arith) (omega arith) in
    let e : c + 1 + i ≡ c + suc i = omega arith in
    Contains-append_right ((bits_of len c, s) ∷ []) (codes_at count len (c + 1) symbols) _ (rw e at h)

-- each code of the length
pub from_level : (count len c : ℕ) (symbols : List ℕ) (code : Code) → Contains (codes_at count len c symbols) code → (i : ℕ) × (i < count) × (code.0 ≡ bits_of len (c + i))
from_level zero len c symbols code h = absurd (contains_none code h)
from_level (suc count) len c [] code h = absurd (contains_none code h)
from_level (suc count) len c (s ∷ symbols) code h =
    ⊎_elim
    (λ e. (0, omega arith, sym (ap (λ (x : Code). x.0) e) ∙ ap (bits_of len) (sym (add-zero c))))
    (λ b. let r = from_level count len (c + 1) symbols code b in
    let e : c + 1 + r.0 ≡ c + suc r.0 = omega arith in
    (suc r.0, omega arith, r.2 ∙ ap (bits_of len) e))
    (contains_cons (bits_of len c, s) (codes_at count len (c + 1) symbols) code h)

-- each code is no shorter, and its prefix of this length is a number not below c
pub front_not_below : (counts : List ℕ) (len c : ℕ) (symbols : List ℕ) (code : Code) → AreCodes len c counts → Contains (codes_from len c counts symbols) code
    → (n : ℕ) × (more : List Bool) × (c ≤ n) × (n < 2 ^ len) × (code.0 ≡ bits_of len n ++ more)
front_not_below [] len c symbols code are h = absurd (contains_none code h)
front_not_below (k ∷ counts) len c symbols code are h =
    ⊎_elim
    (λ a. let r = from_level k len c symbols code a in
    (c + r.0, [], omega arith, omega (arith, are.0), r.2 ∙ sym (append-nil (bits_of len (c + r.0)))))
    (λ b. let r = front_not_below counts (len + 1) (2 * (c + k)) (drop k symbols) code are.1 b in
    let p : 2 ^ (len + 1) ≡ 2 * 2 ^ len = ap (λ m. 2 ^ m) (add-one len) ∙ pow-succ' 2 len in (
      r.0 / 2,
      (r.0 % 2 == 1) ∷ r.1,
      omega arith,
      omega arith,
      r.4 ∙ ap (λ x. x ++ r.1) (bits_of-split len r.0) ∙ append_assoc (bits_of len (r.0 / 2)) ((r.0 % 2 == 1) ∷ []) r.1,
    ))
    (Contains-append_cases (codes_at k len c symbols) (codes_from (len + 1) (2 * (c + k)) counts (drop k symbols)) code h)
