-- Groups that are joined: the codes of each group fill all strings, and the symbols of a group stay together.
use Rattle.std.proofs.Common.{◌≡◌, ℕ, zero, suc, ◌+◌, ◌-◌, ◌*◌, ◌^◌, ◌<◌, ◌≤◌, Bool, true, false, cond, List, [], ◌∷◌, length, get_or, map, refl, sym, ap, ◌∙◌, subst, arith, ⊎_elim, Option, Some, None, ◌==◌}
use Rattle.std.specs.Prelude.{◌||◌, nat_lt, All, sum_by, slice_index, set, option_map}
use Rattle.std.proofs.lemmas.Bool.{cases_lt, cases_eq}
use Rattle.std.proofs.lemmas.List.{length-set, get_or-set_same, get_or-set_other, get_or_past}
use Rattle.std.proofs.lemmas.List.Sums.{sum_by-set, get_or-le-sum_by, count_by-le-length}
use Rattle.std.proofs.lemmas.List.Elements.{All-head, All-tail}
use Rattle.jpg_spec.proofs.Basics.Common.{lt_yes, same_of, same_itself, not_same}
use Rattle.jpg_spec_fit.specs.Fitted.{lesser, least_below, least, with_next, least_two, joined_member}
use Rattle.jpg_spec_fit.proofs.FittedCounts.{doubled}

pub positive : (n : ℕ) → (n == 0) ≡ false → 0 < n
positive zero e = cc
positive (suc n) e = omega arith

-- THE LEAST COUNTS

abbrev pub IsFound : List ℕ → ℕ → Option ℕ → Type 0
IsFound counts n None = (v : ℕ) → v < n → slice_index counts v ≡ 0
IsFound counts n (Some a) = (a < n) × (0 < slice_index counts a)

found_next : (counts : List ℕ) (n : ℕ) (o : Option ℕ) → IsFound counts n o → IsFound counts (suc n) (lesser counts o n)
found_next counts n None h = by (slice_index counts n == 0) refl
  where
    by : (b : Bool) → (slice_index counts n == 0) ≡ b → IsFound counts (suc n) (cond b None (Some n))
    by true e = λ v l. ⊎_elim (λ (k : v < n). h v k) (λ (k : n ≤ v). (let same : v ≡ n = omega (arith, l, k) in ap (slice_index counts) same ∙ same_of (slice_index counts n) 0 e)) (cases_lt v n)
    by false e = (omega arith, positive (slice_index counts n) e)
found_next counts n (Some a) h = by (slice_index counts n == 0) refl
  where
    later : 0 < slice_index counts n → (b : Bool) → IsFound counts (suc n) (cond b (Some a) (Some n))
    later p true = (let l = h.0 in omega (arith, l), h.1)
    later p false = (omega arith, p)

    by : (b : Bool) → (slice_index counts n == 0) ≡ b → IsFound counts (suc n) (cond (b || nat_lt (slice_index counts a) (slice_index counts n)) (Some a) (Some n))
    by true e = (let l = h.0 in omega (arith, l), h.1)
    by false e = later (positive (slice_index counts n) e) (nat_lt (slice_index counts a) (slice_index counts n))

found_below : (counts : List ℕ) (n : ℕ) → IsFound counts n (least_below counts n)
found_below counts zero = λ v l. (let never : ⊥ = omega (arith, l) in absurd never)
found_below counts (suc n) = found_next counts n (least_below counts n) (found_below counts n)

least_found : (counts : List ℕ) → IsFound counts (length counts) (least counts)
unfolding least
least_found counts = found_below counts (length counts)

none_at : (counts : List ℕ) → IsFound counts (length counts) None → (v : ℕ) → slice_index counts v ≡ 0
none_at counts h v = ⊎_elim (λ (l : v < length counts). h v l) (λ (l : length counts ≤ v). get_or_past counts v 0 l) (cases_lt v (length counts))

-- two groups with counts
pub record AreTwo (counts : List ℕ) (a b : ℕ) : Type 0 where
  pub first : a < length counts
  pub next : b < length counts
  pub some_first : 0 < slice_index counts a
  pub some_next : 0 < slice_index counts b
  pub apart : a ≡ b → ⊥

-- at most one group has a count
abbrev pub IsSingle : List ℕ → Type 0
IsSingle counts = (u v : ℕ) → 0 < slice_index counts u → 0 < slice_index counts v → u ≡ v

abbrev pub AreLeast : List ℕ → Option (ℕ × ℕ) → Type 0
AreLeast counts None = IsSingle counts
AreLeast counts (Some two) = AreTwo counts two.0 two.1

pub two_found : (counts : List ℕ) → AreLeast counts (least_two counts)
unfolding least_two
two_found counts = by (least counts) (least_found counts)
  where
    next : (a : ℕ) → IsFound counts (length counts) (Some a) → (o : Option ℕ) → IsFound (set counts a 0) (length (set counts a 0)) o → AreLeast counts (option_map (λ b. (a, b)) o)
    next a h None k = λ u v p q. only u p ∙ sym (only v q)
      where
        only : (u : ℕ) → 0 < slice_index counts u → u ≡ a
        only u p = ⊎_elim (λ (e : u ≡ a). e) (λ (e : u ≡ a → ⊥). (let z = none_at (set counts a 0) k u in let s = get_or-set_other counts a u 0 0 e in let never : ⊥ = omega (arith, z, s, p) in absurd never)) (cases_eq u a)
    next a h (Some b) k =
        let far = length-set counts a 0 in
        let apart : b ≡ a → ⊥ = λ e. (let s = get_or-set_same counts a 0 0 h.0 in let p = subst (λ m. 0 < get_or (set counts a 0) m 0) e k.1 in let never : ⊥ = omega (arith, s, p) in never) in
        let s = get_or-set_other counts a b 0 0 apart in
        record {
          first = h.0;
          next = (let l = k.0 in omega (arith, l, far));
          some_first = h.1;
          some_next = (let p = k.1 in omega (arith, p, s));
          apart = λ e. apart (sym e);
        }

    by : (o : Option ℕ) → IsFound counts (length counts) o → AreLeast counts (with_next counts o)
    by None h = λ u v p q. (let z = none_at counts h u in let never : ⊥ = omega (arith, z, p) in absurd never)
    by (Some a) h = next a h (least (set counts a 0)) (least_found (set counts a 0))

-- THE COUNTS of joined groups

abbrev pub joined_counts : List ℕ → ℕ → ℕ → List ℕ
joined_counts counts a b = set (set counts a (slice_index counts a + slice_index counts b)) b 0

pub at_first : (counts : List ℕ) (a b : ℕ) → AreTwo counts a b → slice_index (joined_counts counts a b) a ≡ slice_index counts a + slice_index counts b
at_first counts a b two =
    get_or-set_other (set counts a (slice_index counts a + slice_index counts b)) b a 0 0 two.apart ∙ get_or-set_same counts a (slice_index counts a + slice_index counts b) 0 two.first

pub at_next : (counts : List ℕ) (a b : ℕ) → AreTwo counts a b → slice_index (joined_counts counts a b) b ≡ 0
at_next counts a b two = (let far = length-set counts a (slice_index counts a + slice_index counts b) in let l = two.next in get_or-set_same (set counts a (slice_index counts a + slice_index counts b)) b 0 0 (omega (arith, far, l)))

pub at_other : (counts : List ℕ) (a b v : ℕ) → (v ≡ a → ⊥) → (v ≡ b → ⊥) → slice_index (joined_counts counts a b) v ≡ slice_index counts v
at_other counts a b v e f = get_or-set_other (set counts a (slice_index counts a + slice_index counts b)) b v 0 0 f ∙ get_or-set_other counts a v (slice_index counts a + slice_index counts b) 0 e

one_if : ℕ → ℕ
one_if count = cond (nat_lt 0 count) 1 0

one_of : (n : ℕ) → 0 < n → one_if n ≡ 1
unfolding one_if
one_of n h = ap (λ b. cond b 1 0) (lt_yes 0 n h)

-- how many groups have a count
pub live : List ℕ → ℕ
live counts = sum_by one_if counts

pub live_few : (counts : List ℕ) → live counts ≤ length counts
unfolding live one_if
live_few counts = count_by-le-length (nat_lt 0) counts

pub live_joined : (counts : List ℕ) (a b : ℕ) → AreTwo counts a b → live (joined_counts counts a b) + 1 ≡ live counts
unfolding live one_if
live_joined counts a b two =
    let both = slice_index counts a + slice_index counts b in
    let p = two.some_first in
    let s = sum_by-set one_if counts a both 0 two.first in
    let l = two.next in
    let far = length-set counts a both in
    let t = sum_by-set one_if (set counts a both) b 0 0 (omega (arith, l, far)) in
    let b_is : one_if (get_or (set counts a both) b 0) ≡ 1 = ap one_if (get_or-set_other counts a b both 0 (λ e. two.apart (sym e))) ∙ one_of (slice_index counts b) two.some_next in
    let a_is = one_of (slice_index counts a) p in
    let both_is = one_of both (omega (arith, p)) in
    omega (arith, s, t, a_is, both_is, b_is)

pub two_live : (counts : List ℕ) (a b : ℕ) → AreTwo counts a b → 2 ≤ live counts
unfolding live one_if
two_live counts a b two =
    let j = live_joined counts a b two in
    let p = two.some_first in
    let e = at_first counts a b two in
    let far = length-set counts a (slice_index counts a + slice_index counts b) in
    let further = length-set (set counts a (slice_index counts a + slice_index counts b)) b 0 in
    let l = two.first in
    let some = get_or-le-sum_by one_if (joined_counts counts a b) a 0 (omega (arith, l, far, further)) in
    let one = one_of (slice_index (joined_counts counts a b) a) (omega (arith, e, p)) in
    omega (arith, j, some, one)

-- WHAT THE CODES FILL: how many of the strings of `most` bits begin with the code of a member of group v

abbrev pub filled : ℕ → ℕ → ℕ × ℕ → ℕ
filled most v m = cond (m.0 == v) (2 ^ (most - m.1)) 0

abbrev pub share : ℕ → ℕ → List (ℕ × ℕ) → ℕ
share most v [] = 0
share most v (m ∷ ms) = filled most v m + share most v ms

halves : (most s : ℕ) → s < most → 2 * 2 ^ (most - (s + 1)) ≡ 2 ^ (most - s)
halves most s l = let e : most - s ≡ suc (most - (s + 1)) = omega (arith, l) in sym (ap (λ m. 2 ^ m) e ∙ doubled (most - (s + 1)))

filled_joined : (most a b : ℕ) (m : ℕ × ℕ) → (a ≡ b → ⊥) → m.1 < most → 2 * filled most a (joined_member a b m) ≡ filled most a m + filled most b m
filled_joined most a b m apart l = by (m.0 == a) refl (m.0 == b) refl
  where
    half : 2 * filled most a (a, m.1 + 1) ≡ 2 ^ (most - m.1)
    half = ap (λ t. 2 * cond t (2 ^ (most - (m.1 + 1))) 0) (same_itself a) ∙ halves most m.1 l

    by : (t : Bool) → (m.0 == a) ≡ t → (u : Bool) → (m.0 == b) ≡ u → 2 * filled most a (cond (t || u) (a, m.1 + 1) m) ≡ cond t (2 ^ (most - m.1)) 0 + cond u (2 ^ (most - m.1)) 0
    by true e true f = absurd (apart (sym (same_of m.0 a e) ∙ same_of m.0 b f))
    by true e false f = omega (arith, half)
    by false e true f = omega (arith, half)
    by false e false f = ap (λ t. 2 * cond t (2 ^ (most - m.1)) 0) e

filled_other : (most a b v : ℕ) (m : ℕ × ℕ) → (v ≡ a → ⊥) → (v ≡ b → ⊥) → filled most v (joined_member a b m) ≡ filled most v m
filled_other most a b v m not_a not_b = by (m.0 == a) refl (m.0 == b) refl
  where
    none : (x : ℕ) → m.0 ≡ x → (v ≡ x → ⊥) → filled most v (a, m.1 + 1) ≡ filled most v m
    none x e f =
        ap (λ t. cond t (2 ^ (most - (m.1 + 1))) 0) (not_same a v (λ g. not_a (sym g))) ∙ sym (ap (λ t. cond t (2 ^ (most - m.1)) 0) (not_same m.0 v (λ g. f (sym g ∙ e))))

    by : (t : Bool) → (m.0 == a) ≡ t → (u : Bool) → (m.0 == b) ≡ u → filled most v (cond (t || u) (a, m.1 + 1) m) ≡ filled most v m
    by true e u f = none a (same_of m.0 a e) not_a
    by false e true f = none b (same_of m.0 b f) not_b
    by false e false f = refl

pub share_joined : (most a b : ℕ) (ms : List (ℕ × ℕ)) → (a ≡ b → ⊥) → All (λ m. m.1 < most) ms → 2 * share most a (map (joined_member a b) ms) ≡ share most a ms + share most b ms
share_joined most a b [] apart h = refl
share_joined most a b (m ∷ ms) apart h =
    let one = filled_joined most a b m apart (All-head (λ m. m.1 < most) m ms h) in
    let rest = share_joined most a b ms apart (All-tail (λ m. m.1 < most) m ms h) in
    omega (arith, one, rest)

pub share_other : (most a b v : ℕ) (ms : List (ℕ × ℕ)) → (v ≡ a → ⊥) → (v ≡ b → ⊥) → share most v (map (joined_member a b) ms) ≡ share most v ms
share_other most a b v [] e f = refl
share_other most a b v (m ∷ ms) e f = (let one = filled_other most a b v m e f in let rest = share_other most a b v ms e f in omega (arith, one, rest))
