-- The steps that join groups: they end with a single group, in which each symbol that is sent has a code.
use Rattle.std.proofs.Common.{◌≡◌, ℕ, zero, suc, ◌+◌, ◌-◌, ◌^◌, ◌<◌, ◌≤◌, Bool, true, false, cond, List, [], ◌∷◌, ◌++◌, length, get_or, map, refl, sym, ap, ◌∙◌, subst, arith, ⊎_elim, Option, Some, None, ◌==◌, ◌⊎◌, inl, inr}
use Rattle.std.specs.Prelude.{◌||◌, All, slice_index, set}
use Rattle.std.proofs.lemmas.Bool.{cases_lt, cases_eq}
use Rattle.std.proofs.lemmas.List.{length-set, length-map, get_or-map, get_or_past, map_push}
use Rattle.std.proofs.lemmas.List.Elements.{All-map, All-weaker}
use Rattle.jpg_spec.specs.Lists.{below}
use Rattle.jpg_spec.proofs.Basics.Common.{same_of, same_itself, not_same, clash, length_below}
use Rattle.jpg_spec.proofs.Basics.Rows.{at_below}
use Rattle.jpg_spec_fit.specs.Fitted.{Groups, alone, least_two, joined_member, joined, joined_if, step, steps}
use Rattle.jpg_spec_fit.proofs.FittedGroups.{AreTwo, IsSingle, AreLeast, two_found, joined_counts, at_first, at_next, at_other, live, live_joined, two_live, filled, share, share_joined, share_other}

abbrev pub member : Groups → ℕ → ℕ × ℕ
member g i = get_or g.members i (0, 0)

-- A symbol that isn't sent has a code of no bits, in a group without count; one that is sent is in a group with a count.
abbrev pub IsKept : ℕ → ℕ → ℕ → Type 0
IsKept sent group size = ((sent ≡ 0) × (group ≡ 0) × (size ≡ 0)) ⊎ ((0 < sent) × (0 < group))

-- groups after at most `done` steps from these counts
pub record AreGroups (most done : ℕ) (first : List ℕ) (g : Groups) : Type 0 where
  pub long : length g.counts ≡ length first
  pub many : length g.members ≡ length first
  pub sizes : All (λ m. m.1 ≤ done) g.members
  pub full : (v : ℕ) → 0 < slice_index g.counts v → share most v g.members ≡ 2 ^ most
  pub kept : (i : ℕ) → i < length first → IsKept (slice_index first i) (slice_index g.counts (member g i).0) (member g i).1

-- A STEP

kept_joined : (counts : List ℕ) (a b sent : ℕ) (m : ℕ × ℕ) → AreTwo counts a b → IsKept sent (slice_index counts m.0) m.1 → IsKept sent (slice_index (joined_counts counts a b) (joined_member a b m).0) (joined_member a b m).1
kept_joined counts a b sent m two is = by (m.0 == a) refl (m.0 == b) refl
  where
    taken : (x : ℕ) → m.0 ≡ x → 0 < slice_index counts x → IsKept sent (slice_index (joined_counts counts a b) a) (m.1 + 1)
    taken x e p =
        ⊎_elim
        (λ (h : (sent ≡ 0) × (slice_index counts m.0 ≡ 0) × (m.1 ≡ 0)). (let z = h.1 in let s = ap (slice_index counts) e in let never : ⊥ = omega (arith, z, s, p) in absurd never))
        (λ (h : (0 < sent) × (0 < slice_index counts m.0)). (let f = at_first counts a b two in let q = two.some_first in inr (h.0, omega (arith, f, q))))
        is

    by : (t : Bool) → (m.0 == a) ≡ t → (u : Bool) → (m.0 == b) ≡ u → IsKept sent (slice_index (joined_counts counts a b) (cond (t || u) (a, m.1 + 1) m).0) (cond (t || u) (a, m.1 + 1) m).1
    by true e u f = taken a (same_of m.0 a e) two.some_first
    by false e true f = taken b (same_of m.0 b f) two.some_next
    by false e false f = subst (λ d. IsKept sent d m.1) (sym (at_other counts a b m.0 (λ g. differ e g) (λ g. differ f g))) is
      where
        differ : {x : ℕ} → (m.0 == x) ≡ false → m.0 ≡ x → ⊥
        differ {x} h g = clash (m.0 == x) (ap (λ n. n == x) g ∙ same_itself x) h

size_joined : (a b done : ℕ) (m : ℕ × ℕ) → m.1 ≤ done → (joined_member a b m).1 ≤ suc done
size_joined a b done m l = by (m.0 == a || m.0 == b)
  where
    by : (t : Bool) → (cond t (a, m.1 + 1) m).1 ≤ suc done
    by true = omega (arith, l)
    by false = omega (arith, l)

joined_groups : (most done : ℕ) (first : List ℕ) (g : Groups) (two : ℕ × ℕ) → AreGroups most done first g → AreTwo g.counts two.0 two.1 → done < most → AreGroups most (suc done) first (joined g two.0 two.1)
unfolding joined
joined_groups most done first g two is apart l = record {
  long = length-set (set g.counts two.0 (slice_index g.counts two.0 + slice_index g.counts two.1)) two.1 0 ∙ length-set g.counts two.0 (slice_index g.counts two.0 + slice_index g.counts two.1) ∙ is.long;
  many = length-map g.members (joined_member two.0 two.1) ∙ is.many;
  sizes = All-map (λ m. m.1 ≤ suc done) (joined_member two.0 two.1) g.members (All-weaker (λ m. m.1 ≤ done) (λ m. (joined_member two.0 two.1 m).1 ≤ suc done) (size_joined two.0 two.1 done) g.members is.sizes);
  full = full;
  kept = λ i h. subst (λ (m : ℕ × ℕ). IsKept (slice_index first i) (slice_index (joined_counts g.counts two.0 two.1) m.0) m.1) (sym (get_or-map (joined_member two.0 two.1) g.members i (0, 0) (0, 0) (let n = is.many in omega (arith, h, n))))
      (kept_joined g.counts two.0 two.1 (slice_index first i) (member g i) apart (is.kept i h));
}
  where
    full : (v : ℕ) → 0 < slice_index (joined_counts g.counts two.0 two.1) v → share most v (map (joined_member two.0 two.1) g.members) ≡ 2 ^ most
    full v p =
        ⊎_elim
        (λ (e : v ≡ two.0).
        (let h = share_joined most two.0 two.1 g.members apart.apart (All-weaker (λ m. m.1 ≤ done) (λ m. m.1 < most) (λ m s. omega (arith, s, l)) g.members is.sizes) in
        let fa = is.full two.0 apart.some_first in
        let fb = is.full two.1 apart.some_next in
        let all : share most two.0 (map (joined_member two.0 two.1) g.members) ≡ 2 ^ most = omega (arith, h, fa, fb) in
        ap (λ x. share most x (map (joined_member two.0 two.1) g.members)) e ∙ all))
        (λ (e : v ≡ two.0 → ⊥). ⊎_elim
        (λ (f : v ≡ two.1). (let z = ap (slice_index (joined_counts g.counts two.0 two.1)) f ∙ at_next g.counts two.0 two.1 apart in let never : ⊥ = omega (arith, z, p) in absurd never))
        (λ (f : v ≡ two.1 → ⊥). (let o = at_other g.counts two.0 two.1 v e f in share_other most two.0 two.1 v g.members e f ∙ is.full v (omega (arith, o, p))))
        (cases_eq v two.1))
        (cases_eq v two.0)

fewer : (g : Groups) (a b : ℕ) → AreTwo g.counts a b → live (joined g a b).counts + 1 ≡ live g.counts
unfolding joined
fewer g a b two = live_joined g.counts a b two

-- THE STEPS

steps_stay : (n : ℕ) (g : Groups) → least_two g.counts ≡ None → steps n g ≡ g
steps_stay zero g e = refl
steps_stay (suc n) g e = ap (λ o. steps n (joined_if g o)) e ∙ steps_stay n g e

-- the end: a single group
pub record AreEnded (most : ℕ) (first : List ℕ) (g : Groups) : Type 0 where
  pub groups : AreGroups most most first g
  pub single : IsSingle g.counts

weaker : (most done : ℕ) (first : List ℕ) (g : Groups) → AreGroups most done first g → done ≤ most → AreGroups most most first g
weaker most done first g is l = record { long = is.long; many = is.many; sizes = All-weaker (λ m. m.1 ≤ done) (λ m. m.1 ≤ most) (λ m s. omega (arith, s, l)) g.members is.sizes; full = is.full; kept = is.kept }

pub steps_ended : (n most done : ℕ) (first : List ℕ) (g : Groups) → AreGroups most done first g → live g.counts ≤ suc n → done + n ≤ most → AreEnded most first (steps n g)
steps_ended zero most done first g is few l = by (least_two g.counts) (two_found g.counts)
  where
    by : (o : Option (ℕ × ℕ)) → AreLeast g.counts o → AreEnded most first g
    by None h = record { groups = weaker most done first g is (omega (arith, l)); single = h }
    by (Some two) h = (let many = two_live g.counts two.0 two.1 h in let never : ⊥ = omega (arith, many, few) in absurd never)
steps_ended (suc n) most done first g is few l =
    by (least_two g.counts) refl (two_found g.counts)
    (λ two h. steps_ended n most (suc done) first (joined g two.0 two.1) (joined_groups most done first g two is h (omega (arith, l))) (let j = fewer g two.0 two.1 h in omega (arith, j, few)) (omega (arith, l)))
  where
    Later : Type 0
    Later = (two : ℕ × ℕ) → AreTwo g.counts two.0 two.1 → AreEnded most first (steps n (joined g two.0 two.1))

    by : (o : Option (ℕ × ℕ)) → least_two g.counts ≡ o → AreLeast g.counts o → Later → AreEnded most first (steps n (joined_if g o))
    by None e h later = subst (AreEnded most first) (sym (steps_stay n g e)) (record { groups = weaker most done first g is (omega (arith, l)); single = h })
    by (Some two) e h later = later two h

-- A GROUP THAT WAS JOINED has no code of no bits
pub record IsMade (g : Groups) : Type 0 where
  pub name : ℕ
  pub some : 0 < slice_index g.counts name
  pub bits : All (λ m. m.0 ≡ name → 1 ≤ m.1) g.members

made_member : (a b : ℕ) (m : ℕ × ℕ) → (joined_member a b m).0 ≡ a → 1 ≤ (joined_member a b m).1
made_member a b m = by (m.0 == a) refl (m.0 == b)
  where
    by : (t : Bool) → (m.0 == a) ≡ t → (u : Bool) → (cond (t || u) (a, m.1 + 1) m).0 ≡ a → 1 ≤ (cond (t || u) (a, m.1 + 1) m).1
    by true e u = λ h. omega arith
    by false e true = λ h. omega arith
    by false e false = λ h. absurd (clash (m.0 == a) (ap (λ n. n == a) h ∙ same_itself a) e)

made_joined : (g : Groups) (a b : ℕ) → AreTwo g.counts a b → IsMade (joined g a b)
unfolding joined
made_joined g a b two = record {
  name = a;
  some = (let f = at_first g.counts a b two in let p = two.some_first in omega (arith, f, p));
  bits = All-map (λ m. m.0 ≡ a → 1 ≤ m.1) (joined_member a b) g.members (λ k d l. made_member a b (get_or g.members k d));
}

steps_made : (n : ℕ) (g : Groups) → IsMade g → IsMade (steps n g)
steps_made zero g is = is
steps_made (suc n) g is = steps_made n (step g) (by (least_two g.counts) (two_found g.counts))
  where
    by : (o : Option (ℕ × ℕ)) → AreLeast g.counts o → IsMade (joined_if g o)
    by None h = is
    by (Some two) h = made_joined g two.0 two.1 h

-- either there is nothing to join, or the end has a group that was joined
abbrev pub IsAnyMade : ℕ → Groups → Type 0
IsAnyMade n g = (IsSingle g.counts × (steps n g ≡ g)) ⊎ IsMade (steps n g)

pub steps_any : (n : ℕ) (g : Groups) → 1 ≤ n → IsAnyMade n g
steps_any zero g l = (let never : ⊥ = omega (arith, l) in absurd never)
steps_any (suc n) g l = by (least_two g.counts) refl (two_found g.counts)
  where
    by : (o : Option (ℕ × ℕ)) → least_two g.counts ≡ o → AreLeast g.counts o → (IsSingle g.counts × (steps (suc n) g ≡ g)) ⊎ IsMade (steps n (joined_if g o))
    by None e h = inl (h, steps_stay (suc n) g e)
    by (Some two) e h = inr (steps_made n (joined g two.0 two.1) (made_joined g two.0 two.1 h))

-- THE START

share_push : (most v : ℕ) (ms : List (ℕ × ℕ)) (m : ℕ × ℕ) → share most v (ms ++ m ∷ []) ≡ share most v ms + filled most v m
share_push most v [] m = omega arith
share_push most v (x ∷ ms) m = (let h = share_push most v ms m in omega (arith, h))

abbrev pub single_member : ℕ → ℕ × ℕ
single_member symbol = (symbol, 0)

share_none : (most v n : ℕ) → n ≤ v → share most v (map single_member (below n)) ≡ 0
share_none most v zero l = refl
share_none most v (suc n) l =
    ap (share most v) (map_push single_member (below n) n) ∙ share_push most v (map single_member (below n)) (n, 0)
    ∙ (let h = share_none most v n (omega (arith, l)) in let f : filled most v (n, 0) ≡ 0 = ap (λ t. cond t (2 ^ (most - 0)) 0) (not_same n v (λ e. omega (arith, e, l))) in omega (arith, h, f))

share_alone : (most v n : ℕ) → v < n → share most v (map single_member (below n)) ≡ 2 ^ most
share_alone most v zero l = (let never : ⊥ = omega (arith, l) in absurd never)
share_alone most v (suc n) l = ap (share most v) (map_push single_member (below n) n) ∙ share_push most v (map single_member (below n)) (n, 0)
    ∙ ⊎_elim
    (λ (h : v < n). (let r = share_alone most v n h in let f : filled most v (n, 0) ≡ 0 = ap (λ t. cond t (2 ^ (most - 0)) 0) (not_same n v (λ e. omega (arith, e, h))) in omega (arith, r, f)))
    (λ (h : n ≤ v).
    (let same : n ≡ v = omega (arith, h, l) in
    let none : most - 0 ≡ most = omega arith in
    let r = share_none most v n h in
    let f : filled most v (n, 0) ≡ 2 ^ most = ap (λ t. cond t (2 ^ (most - 0)) 0) (ap (λ x. x == v) same ∙ same_itself v) ∙ ap (λ x. 2 ^ x) none in
    omega (arith, r, f)))
    (cases_lt v n)

pub alone_groups : (most : ℕ) (counts : List ℕ) → AreGroups most 0 counts (alone counts)
alone_groups most counts = record {
  long = refl;
  many = length-map (below (length counts)) single_member ∙ length_below (length counts);
  sizes = All-map (λ m. m.1 ≤ 0) single_member (below (length counts)) (λ k d l. omega arith);
  full = λ v p. ⊎_elim (λ (l : v < length counts). share_alone most v (length counts) l)
      (λ (l : length counts ≤ v). (let z = get_or_past counts v 0 l in let never : ⊥ = omega (arith, z, p) in absurd never)) (cases_lt v (length counts));
  kept = λ i l. subst (λ (m : ℕ × ℕ). IsKept (slice_index counts i) (slice_index counts m.0) m.1) (sym (is_member i l)) (first (slice_index counts i));
}
  where
    is_member : (i : ℕ) → i < length counts → get_or (map single_member (below (length counts))) i (0, 0) ≡ (i, 0)
    is_member i l = (let n = length_below (length counts) in get_or-map single_member (below (length counts)) i 0 (0, 0) (omega (arith, n, l)) ∙ ap single_member (at_below (length counts) i l))

    first : (n : ℕ) → IsKept n n 0
    first zero = inl (refl, refl, refl)
    first (suc n) = inr (omega arith, omega arith)
