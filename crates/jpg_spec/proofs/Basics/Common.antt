-- Facts about tests, equal lists and answers, for the proofs of all crates.
use Rattle.std.proofs.Common.{◌≡◌, ℕ, zero, suc, ◌%◌, ◌<◌, ◌≤◌, Bool, true, false, cond, not, List, [], ◌∷◌, ◌++◌, length, take, refl, sym, ap, ◌∙◌, subst, arith, ℤ, pos, Option, Some, None, Ok, Err, ◌==◌, ◌&&◌, drop, ◌+◌, neg_ℤ}
use Rattle.std.specs.Prelude.{◌||◌, nat_lt, nat_le, int_le, nat_abs, is_none, ◌≤ℤ◌, filter, slice_index_or, sum_by}
use Rattle.std.proofs.lemmas.Bool.Decides.{nat_tests}
use Rattle.std.proofs.lemmas.List.{append_assoc, length-append, take-append-drop, take-append-le, take_all}
use Rattle.std.proofs.Math.Seq.{take-append_seam}
use lib.Signed.{le_z_yes}
use lib.Dec.{T}
use Rattle.jpg_spec.specs.Lists.{below, any_of, are_equal, all_of, is_empty}
use Rattle.jpg_spec.specs.Faults.{Parsed, refuse}
use Rattle.jpg_spec.specs.Elements.{Coding, are_in_bounds}
use Rattle.jpg_spec.specs.declared.fault.Fault.{Fault}

-- TESTS

pub both : (a b : Bool) → (a && b) ≡ true → (a ≡ true) × (b ≡ true)
both true b e = (refl, e)
both false b e = cc

pub and_intro : (a b : Bool) → a ≡ true → b ≡ true → (a && b) ≡ true
and_intro true b e f = f
and_intro false b e f = cc

pub neither : (a b : Bool) → (a || b) ≡ false → (a ≡ false) × (b ≡ false)
neither true b e = cc
neither false b e = (refl, e)

pub or_alone : (b : Bool) → (b || false) ≡ true → b ≡ true
or_alone true e = refl
or_alone false e = e

pub or_assoc : (x y z : Bool) → (x || (y || z)) ≡ ((x || y) || z)
or_assoc true y z = refl
or_assoc false y z = refl

pub and_assoc : (x y z : Bool) → (x && (y && z)) ≡ ((x && y) && z)
and_assoc true y z = refl
and_assoc false y z = refl

pub all_append : {A : Type 0} (test : A → Bool) (a b : List A) → all_of test (a ++ b) ≡ (all_of test a && all_of test b)
all_append test [] b = refl
all_append test (x ∷ a) b = ap (λ r. test x && r) (all_append test a b) ∙ and_assoc (test x) (all_of test a) (all_of test b)

pub or_right : (a b : Bool) → b ≡ true → (a || b) ≡ true
or_right true b e = refl
or_right false b e = e

pub both_false : (a b : Bool) → ((a ≡ true) × (b ≡ true) → ⊥) → ((a && b) && true) ≡ false
both_false true true h = absurd (h (refl, refl))
both_false true false h = refl
both_false false b h = refl

pub and_false : (a b : Bool) → a ≡ false → (a && b) ≡ false
and_false true b e = cc
and_false false b e = refl

pub and_none : (a : Bool) → (a && false) ≡ false
and_none true = refl
and_none false = refl

pub negated : (a : Bool) → not a ≡ true → a ≡ false
negated true e = cc
negated false e = refl

pub clash : (b : Bool) → b ≡ true → b ≡ false → ⊥
clash b e f = cc

pub is_true : (b : Bool) → T b → b ≡ true
is_true true t = refl
is_true false t = absurd t

-- TESTS OF NUMBERS

pub le_of : (a b : ℕ) → nat_le a b ≡ true → a ≤ b
le_of a b e = grind (arith, nat_tests)

pub lt_of : (a b : ℕ) → nat_lt a b ≡ true → a < b
lt_of a b e = grind (arith, nat_tests)

pub not_lt_of : (a b : ℕ) → nat_lt a b ≡ false → b ≤ a
not_lt_of a b e = grind (arith, nat_tests)

pub lt_yes : (a b : ℕ) → a < b → nat_lt a b ≡ true
lt_yes a b h = grind (arith, nat_tests)

pub lt_no : (a b : ℕ) → b ≤ a → nat_lt a b ≡ false
lt_no a b h = grind (arith, nat_tests)

pub same_of : (a b : ℕ) → (a == b) ≡ true → a ≡ b
same_of a b e = grind (arith, nat_tests)

pub not_same : (a b : ℕ) → (a ≡ b → ⊥) → (a == b) ≡ false
not_same a b h = grind (arith, nat_tests)

pub same_itself : (n : ℕ) → (n == n) ≡ true
same_itself n = grind (arith, nat_tests)

pub not_zero : (i : ℕ) → (suc i == 0) ≡ false
not_zero i = grind (arith, nat_tests)

pub last_bit : (n : ℕ) → cond (n % 2 == 1) 1 0 ≡ n % 2
last_bit n = grind (arith, nat_tests)

pub in_order : (a b : ℤ) → a ≤ℤ b → int_le a b ≡ true
in_order a b h = is_true (int_le a b) h.le

pub from_test : (a b : ℤ) → int_le a b ≡ true → a ≤ℤ b
from_test a b e = le_z_yes (subst T (sym e) tt)

-- ANSWERS

pub some_once : {X : Type 0} (x y : X) → Some x ≡ Some y → x ≡ y
some_once x y e = cc

pub some_of : {X : Type 0} (o : Option X) → is_none o ≡ false → (x : X) × (o ≡ Some x)
some_of None e = cc
some_of (Some x) e = (x, refl)

pub same_told : {X : Type 0} (x y : X) → (let t : Parsed X = Ok x in t) ≡ Ok y → x ≡ y
same_told x y e = cc

pub refused : {X : Type 0} (fault : Fault) (bad : Bool) (rest : Parsed X) (x : X) → refuse fault bad rest ≡ Ok x → (bad ≡ false) × (rest ≡ Ok x)
refused fault true rest x e = cc
refused fault false rest x e = (refl, e)

pub not_refused : {X : Type 0} (fault : Fault) (bad : Bool) (rest : Parsed X) → bad ≡ false → refuse fault bad rest ≡ rest
not_refused fault bad rest e = ap (λ b. cond b (Err fault) rest) e

-- LISTS

pub heads : {X : Type 0} (a b : X) (xs ys : List X) → a ∷ xs ≡ b ∷ ys → (a ≡ b) × (xs ≡ ys)
heads a b xs ys e = (cc, cc)

-- prefixes of one length are equal, and so is the rest
pub append_inj : (a b x y : List Bool) → length a ≡ length b → a ++ x ≡ b ++ y → (a ≡ b) × (x ≡ y)
append_inj [] [] x y l e = (refl, e)
append_inj [] (b ∷ bs) x y l e = let f : ⊥ = omega arith in absurd f
append_inj (a ∷ as') [] x y l e = let f : ⊥ = omega arith in absurd f
append_inj (a ∷ as') (b ∷ bs) x y l e =
    let t : as' ++ x ≡ bs ++ y = cc in
    let h : a ≡ b = cc in
    let r = append_inj as' bs x y (omega arith) t in
    let r0 = r.0 in
    (cc, r.1)

-- one more after two parts, and after the last of them
pub part_more : (bits front part : List Bool) (next : Bool) → bits ≡ front ++ part → bits ++ next ∷ [] ≡ front ++ (part ++ next ∷ [])
part_more bits front part next e = ap (λ x. x ++ next ∷ []) e ∙ append_assoc front part (next ∷ [])

pub last_split : (p front y : List Bool) (bit : Bool) → y ≡ front ++ bit ∷ [] → (p ++ front) ++ bit ∷ [] ≡ p ++ y
last_split p front y bit s = append_assoc p front (bit ∷ []) ∙ ap (λ z. p ++ z) (sym s)

pub take_front : (n : ℕ) (xs ys : List Bool) → length xs ≡ n → take n (xs ++ ys) ≡ xs
take_front n xs ys l = ap (λ k. take k (xs ++ ys)) (sym l) ∙ take-append_seam xs ys

-- a prefix of a prefix
pub take_shorter : (m n : ℕ) (xs : List ℕ) → m ≤ n → take m (take n xs) ≡ take m xs
take_shorter zero n xs h = refl
take_shorter (suc m) zero xs h = absurd (omega (arith, h))
take_shorter (suc m) (suc n) [] h = refl
take_shorter (suc m) (suc n) (x ∷ xs) h = ap (λ l. x ∷ l) (take_shorter m n xs (omega (arith, h)))

pub length_below : (n : ℕ) → length (below n) ≡ n
length_below zero = refl
length_below (suc n) = omega (arith, length-append (below n) (n ∷ []), length_below n)

pub equal_itself : (xs : List ℕ) → are_equal xs xs ≡ true
equal_itself [] = refl
equal_itself (x ∷ xs) = ap (λ b. b && are_equal xs xs) (same_itself x) ∙ equal_itself xs

pub any_append : {A : Type 0} (t : A → Bool) (xs ys : List A) → any_of t (xs ++ ys) ≡ (any_of t xs || any_of t ys)
any_append t [] ys = refl
any_append t (x ∷ xs) ys = by (t x) (any_append t xs ys)
  where
    by : (b : Bool) → any_of t (xs ++ ys) ≡ (any_of t xs || any_of t ys) → (b || any_of t (xs ++ ys)) ≡ ((b || any_of t xs) || any_of t ys)
    by true e = refl
    by false e = e

-- values within the bounds of AC, and more of them
pub bounds_join : (c : Coding) (xs ys : List ℤ) → are_in_bounds c.bounds false xs ≡ true → are_in_bounds c.bounds false ys ≡ true → are_in_bounds c.bounds false (xs ++ ys) ≡ true
bounds_join c [] ys h k = k
bounds_join c (v ∷ xs) ys h k =
    let s = both (int_le (pos (nat_abs v)) c.bounds.ac) (are_in_bounds c.bounds false xs) h in
    and_intro (int_le (pos (nat_abs v)) c.bounds.ac) (are_in_bounds c.bounds false (xs ++ ys)) s.0 (bounds_join c xs ys s.1 k)

pub eq_swap : (m n : ℕ) → (m == n) ≡ (n == m)
eq_swap m n = grind (arith, nat_tests)

pub filter_less : (test : ℕ → Bool) (xs : List ℕ) → length (filter test xs) ≤ length xs
filter_less test [] = omega arith
filter_less test (x ∷ xs) = by (test x) (filter_less test xs)
  where
    by : (b : Bool) → length (filter test xs) ≤ length xs → length (cond b (x ∷ filter test xs) (filter test xs)) ≤ length (x ∷ xs)
    by true h = omega (arith, h)
    by false h = omega (arith, h)

pub joined : (bytes piece : List ℕ) (i : ℕ) → bytes ++ piece ≡ (bytes ++ take i piece) ++ drop i piece
joined bytes piece i = ap (λ l. bytes ++ l) (sym (take-append-drop i piece)) ∙ sym (append_assoc bytes (take i piece) (drop i piece))

pub whole_front : (front rest : List ℕ) → take (length front) (front ++ rest) ≡ front
whole_front front rest = take-append-le (length front) front rest (omega arith) ∙ take_all (length front) front (omega arith)

pub zeros_at : (k : ℕ) → slice_index_or (pos 0 ∷ pos 0 ∷ pos 0 ∷ pos 0 ∷ []) k (pos 0) ≡ pos 0
zeros_at zero = refl
zeros_at (suc zero) = refl
zeros_at (suc (suc zero)) = refl
zeros_at (suc (suc (suc zero))) = refl
zeros_at (suc (suc (suc (suc k)))) = refl

pub zero_is : (n : ℕ) → n ≡ 0 → (n == 0) ≡ true
zero_is n e = grind (arith, nat_tests)

pub not_empty : (xs : List ℕ) (b : ℕ) → is_empty (xs ++ b ∷ []) ≡ false
not_empty [] b = refl
not_empty (x ∷ xs) b = refl

pub sum_one : (f : ℕ → ℕ) (n : ℕ) → sum_by f (n ∷ []) ≡ f n
sum_one f n = omega arith

pub neg_abs : (n : ℕ) → nat_abs (neg_ℤ (pos n)) ≡ n
neg_abs zero = refl
neg_abs (suc n) = omega arith
