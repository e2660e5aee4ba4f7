-- The sizes of codes by joining the least counts take the fewest bits.
use Rattle.std.proofs.Common.{◌≡◌, ℕ, zero, suc, ◌+◌, ◌*◌, ◌<◌, ◌≤◌, Bool, true, false, cond, List, [], ◌∷◌, ◌++◌, length, map, take, refl, sym, ap, ◌∙◌, subst, arith, ⊎_elim, Option, Some, None, ◌==◌}
use Rattle.std.specs.Prelude.{◌||◌, slice_index}
use Rattle.std.proofs.lemmas.Bool.{cases_lt, cases_eq}
use Rattle.std.proofs.lemmas.List.{get_or_past, length-map, length-take-le, map_push, take_more, take_all}
use Rattle.jpg_spec.specs.Lists.{below}
use Rattle.jpg_spec.proofs.Basics.Common.{same_of, same_itself, not_same, length_below}
use Rattle.jpg_spec_fit.specs.Fitted.{Groups, alone, least_two, joined_member, joined, joined_if, step, steps, code_sizes}
use Rattle.jpg_spec_fit.proofs.FittedGroups.{AreTwo, AreLeast, two_found, joined_counts, at_first, at_next, at_other}
use Rattle.jpg_spec_fit.specs.FewestBits.{bits_sent, AreCodeSizes}
use Rattle.jpg_spec_fit.proofs.FewestSizes.{sum_of, cost, bits_are, strings_are, AreLeastTwo, two_least, Fits, joined_sizes, joined_fit, joined_cost, better}

-- HOW OFTEN the symbols of a group are sent

sent_in : ℕ → List ℕ → List (ℕ × ℕ) → ℕ
sent_in v [] members = 0
sent_in v (count ∷ counts) [] = 0
sent_in v (count ∷ counts) (m ∷ members) = cond (m.0 == v) count 0 + sent_in v counts members

bits_of_members : List ℕ → List (ℕ × ℕ) → ℕ
bits_of_members first members = bits_sent first (map (λ (m : ℕ × ℕ). m.1) members)

member_bits : (a b c : ℕ) (m : ℕ × ℕ) → (a ≡ b → ⊥) → c * (joined_member a b m).1 ≡ c * m.1 + cond (m.0 == a) c 0 + cond (m.0 == b) c 0
member_bits a b c m apart = by (m.0 == a) refl (m.0 == b) refl
  where
    one_more : c * (m.1 + 1) ≡ c * m.1 + c
    one_more = grind arith

    by : (t : Bool) → (m.0 == a) ≡ t → (u : Bool) → (m.0 == b) ≡ u → c * (cond (t || u) (a, m.1 + 1) m).1 ≡ c * m.1 + cond t c 0 + cond u c 0
    by true e true f = absurd (apart (sym (same_of m.0 a e) ∙ same_of m.0 b f))
    by true e false f = omega (arith, one_more)
    by false e true f = omega (arith, one_more)
    by false e false f = omega arith

member_first : (a b c : ℕ) (m : ℕ × ℕ) → (a ≡ b → ⊥) → cond ((joined_member a b m).0 == a) c 0 ≡ cond (m.0 == a) c 0 + cond (m.0 == b) c 0
member_first a b c m apart = by (m.0 == a) refl (m.0 == b) refl
  where
    own : cond (a == a) c 0 ≡ c
    own = ap (λ t. cond t c 0) (same_itself a)

    by : (t : Bool) → (m.0 == a) ≡ t → (u : Bool) → (m.0 == b) ≡ u → cond ((cond (t || u) (a, m.1 + 1) m).0 == a) c 0 ≡ cond t c 0 + cond u c 0
    by true e true f = absurd (apart (sym (same_of m.0 a e) ∙ same_of m.0 b f))
    by true e false f = omega (arith, own)
    by false e true f = omega (arith, own)
    by false e false f = ap (λ t. cond t c 0) e

member_other : (a b v c : ℕ) (m : ℕ × ℕ) → (v ≡ a → ⊥) → (v ≡ b → ⊥) → cond ((joined_member a b m).0 == v) c 0 ≡ cond (m.0 == v) c 0
member_other a b v c m not_a not_b = by (m.0 == a) refl (m.0 == b) refl
  where
    none : (x : ℕ) → m.0 ≡ x → (v ≡ x → ⊥) → cond (a == v) c 0 ≡ cond (m.0 == v) c 0
    none x e f = ap (λ t. cond t c 0) (not_same a v (λ g. not_a (sym g))) ∙ sym (ap (λ t. cond t c 0) (not_same m.0 v (λ g. f (sym g ∙ e))))

    by : (t : Bool) → (m.0 == a) ≡ t → (u : Bool) → (m.0 == b) ≡ u → cond ((cond (t || u) (a, m.1 + 1) m).0 == v) c 0 ≡ cond (m.0 == v) c 0
    by true e u f = none a (same_of m.0 a e) not_a
    by false e true f = none b (same_of m.0 b f) not_b
    by false e false f = refl

bits_joined : (a b : ℕ) (first : List ℕ) (members : List (ℕ × ℕ)) → (a ≡ b → ⊥) → bits_of_members first (map (joined_member a b) members) ≡ bits_of_members first members + sent_in a first members + sent_in b first members
unfolding bits_of_members sent_in
bits_joined a b [] members apart = refl
bits_joined a b (c ∷ first) [] apart = refl
bits_joined a b (c ∷ first) (m ∷ members) apart = (let one = member_bits a b c m apart in let rest = bits_joined a b first members apart in omega (arith, one, rest))

first_joined : (a b : ℕ) (first : List ℕ) (members : List (ℕ × ℕ)) → (a ≡ b → ⊥) → sent_in a first (map (joined_member a b) members) ≡ sent_in a first members + sent_in b first members
unfolding sent_in
first_joined a b [] members apart = refl
first_joined a b (c ∷ first) [] apart = refl
first_joined a b (c ∷ first) (m ∷ members) apart = (let one = member_first a b c m apart in let rest = first_joined a b first members apart in omega (arith, one, rest))

other_joined : (a b v : ℕ) (first : List ℕ) (members : List (ℕ × ℕ)) → (v ≡ a → ⊥) → (v ≡ b → ⊥) → sent_in v first (map (joined_member a b) members) ≡ sent_in v first members
unfolding sent_in
other_joined a b v [] members e f = refl
other_joined a b v (c ∷ first) [] e f = refl
other_joined a b v (c ∷ first) (m ∷ members) e f = (let one = member_other a b v c m e f in let rest = other_joined a b v first members e f in omega (arith, one, rest))

-- THE STEPS

-- a group's count is how often its symbols are sent
record IsHeld (first : List ℕ) (g : Groups) : Type 0 where
  sums : (v : ℕ) → 0 < slice_index g.counts v → sent_in v first g.members ≡ slice_index g.counts v

held_joined : (first : List ℕ) (g : Groups) (a b : ℕ) → AreTwo g.counts a b → IsHeld first g → IsHeld first (joined g a b)
unfolding joined
held_joined first g a b two is = record { sums = sums }
  where
    sums : (v : ℕ) → 0 < slice_index (joined_counts g.counts a b) v → sent_in v first (map (joined_member a b) g.members) ≡ slice_index (joined_counts g.counts a b) v
    sums v p =
        ⊎_elim
        (λ (e : v ≡ a).
        (let f = first_joined a b first g.members two.apart in
        let x = is.sums a two.some_first in
        let y = is.sums b two.some_next in
        let z = at_first g.counts a b two in
        let here : sent_in a first (map (joined_member a b) g.members) ≡ slice_index (joined_counts g.counts a b) a = omega (arith, f, x, y, z) in
        ap (λ k. sent_in k first (map (joined_member a b) g.members)) e ∙ here ∙ sym (ap (slice_index (joined_counts g.counts a b)) e)))
        (λ (e : v ≡ a → ⊥). ⊎_elim
        (λ (f : v ≡ b). (let z = ap (slice_index (joined_counts g.counts a b)) f ∙ at_next g.counts a b two in let never : ⊥ = omega (arith, z, p) in absurd never))
        (λ (f : v ≡ b → ⊥). (let o = at_other g.counts a b v e f in other_joined a b v first g.members e f ∙ is.sums v (omega (arith, o, p)) ∙ sym o))
        (cases_eq v b))
        (cases_eq v a)

joined_bits : (first : List ℕ) (g : Groups) (a b : ℕ) → AreTwo g.counts a b → IsHeld first g → bits_of_members first (joined g a b).members ≡ bits_of_members first g.members + slice_index g.counts a + slice_index g.counts b
unfolding joined
joined_bits first g a b two is = (let e = bits_joined a b first g.members two.apart in let x = is.sums a two.some_first in let y = is.sums b two.some_next in omega (arith, e, x, y))

counts_joined : (g : Groups) (a b : ℕ) → (joined g a b).counts ≡ joined_counts g.counts a b
unfolding joined
counts_joined g a b = refl

-- two groups that a step joins
record AreJoined (first : List ℕ) (g : Groups) (two : ℕ × ℕ) : Type 0 where
  groups : AreTwo g.counts two.0 two.1
  least : AreLeastTwo g.counts (Some two)
  held : IsHeld first g

-- n steps from these groups take no more bits than any sizes for the groups g
IsBest : ℕ → ℕ → List ℕ → Groups → Groups → Type 0
IsBest n most first g from = (sizes : List ℕ) → Fits most g.counts sizes → bits_of_members first (steps n from).members ≤ bits_of_members first g.members + sum_of cost g.counts sizes

best_joined : (n most : ℕ) (first : List ℕ) (g : Groups) (two : ℕ × ℕ) → AreJoined first g two → IsBest n most first (joined g two.0 two.1) (joined g two.0 two.1) → IsBest n most first g (joined g two.0 two.1)
unfolding IsBest
best_joined n most first g two is later sizes fits =
    let new = better most g.counts sizes two.0 two.1 is.groups is.least fits in
    let tops = new.1.tops in
    let less = new.1.less in
    let same = counts_joined g two.0 two.1 in
    let f = subst (λ c. Fits most c (joined_sizes new.0 two.0 two.1)) (sym same) (joined_fit most g.counts new.0 two.0 two.1 is.groups tops) in
    let bound = later (joined_sizes new.0 two.0 two.1) f in
    let e = ap (λ c. sum_of cost c (joined_sizes new.0 two.0 two.1)) same in
    let c = joined_cost most g.counts new.0 two.0 two.1 is.groups tops in
    let b = joined_bits first g two.0 two.1 is.groups is.held in
    omega (arith, bound, e, c, b, less)

no_steps : (most : ℕ) (first : List ℕ) (g : Groups) → IsBest 0 most first g g
unfolding IsBest
no_steps most first g sizes fits = omega arith

stepped : (n most : ℕ) (first : List ℕ) (g next : Groups) → next ≡ step g → IsBest n most first g next → IsBest (suc n) most first g g
unfolding IsBest
stepped n most first g next e is sizes fits = subst (λ (x : Groups). bits_of_members first (steps n x).members ≤ bits_of_members first g.members + sum_of cost g.counts sizes) e (is sizes fits)

best : (n most : ℕ) (first : List ℕ) (g : Groups) → IsHeld first g → IsBest n most first g g
best zero most first g held = no_steps most first g
best (suc n) most first g held =
    by (least_two g.counts) refl (two_found g.counts) (two_least g.counts) (best n most first g held)
    (λ two h k. best_joined n most first g two (record { groups = h; least = k; held = held }) (best n most first (joined g two.0 two.1) (held_joined first g two.0 two.1 h held)))
  where
    Later : Type 0
    Later = (two : ℕ × ℕ) → AreTwo g.counts two.0 two.1 → AreLeastTwo g.counts (Some two) → IsBest n most first g (joined g two.0 two.1)

    by : (o : Option (ℕ × ℕ)) → least_two g.counts ≡ o → AreLeast g.counts o → AreLeastTwo g.counts o → IsBest n most first g g → Later → IsBest (suc n) most first g g
    by None e h k stay later = stepped n most first g g (sym (ap (joined_if g) e)) stay
    by (Some two) e h k stay later = stepped n most first g (joined g two.0 two.1) (sym (ap (joined_if g) e)) (later two h k)

-- THE START

single_member : ℕ → ℕ × ℕ
single_member symbol = (symbol, 0)

start_bits : (first symbols : List ℕ) → bits_of_members first (map single_member symbols) ≡ 0
unfolding bits_of_members single_member
start_bits [] symbols = refl
start_bits (c ∷ first) [] = refl
start_bits (c ∷ first) (s ∷ symbols) = (let rest = start_bits first symbols in omega (arith, rest))

sent_push : (v c : ℕ) (m : ℕ × ℕ) (counts : List ℕ) (members : List (ℕ × ℕ)) → length counts ≡ length members → sent_in v (counts ++ c ∷ []) (members ++ m ∷ []) ≡ sent_in v counts members + cond (m.0 == v) c 0
unfolding sent_in
sent_push v c m [] [] l = omega arith
sent_push v c m [] (x ∷ members) l = (let never : ⊥ = omega (arith, l) in absurd never)
sent_push v c m (n ∷ counts) [] l = (let never : ⊥ = omega (arith, l) in absurd never)
sent_push v c m (n ∷ counts) (x ∷ members) l = (let rest = sent_push v c m counts members (omega (arith, l)) in omega (arith, rest))

start_more : (v n : ℕ) (first : List ℕ) → n < length first → sent_in v (take (suc n) first) (map single_member (below (suc n))) ≡ sent_in v (take n first) (map single_member (below n)) + cond (n == v) (slice_index first n) 0
unfolding single_member
start_more v n first l =
    let e : suc n ≡ n + 1 = omega arith in
    let a = length-take-le n first (omega (arith, l)) in
    let b = length-map (below n) single_member in
    let c = length_below n in
    ap (λ k. sent_in v (take k first) (map single_member (below (suc n)))) e ∙ ap (λ xs. sent_in v xs (map single_member (below (suc n)))) (take_more first n 0 l)
    ∙ ap (sent_in v (take n first ++ slice_index first n ∷ [])) (map_push single_member (below n) n) ∙ sent_push v (slice_index first n) (n, 0) (take n first) (map single_member (below n)) (omega (arith, a, b, c))

start_none : (v n : ℕ) (first : List ℕ) → n ≤ v → n ≤ length first → sent_in v (take n first) (map single_member (below n)) ≡ 0
unfolding sent_in
start_none v zero first l m = refl
start_none v (suc n) first l m =
    let rest = start_none v n first (omega (arith, l)) (omega (arith, m)) in
    let more = start_more v n first (omega (arith, m)) in
    let none : cond (n == v) (slice_index first n) 0 ≡ 0 = ap (λ t. cond t (slice_index first n) 0) (not_same n v (λ e. omega (arith, e, l))) in
    omega (arith, rest, more, none)

start_sent : (v n : ℕ) (first : List ℕ) → v < n → n ≤ length first → sent_in v (take n first) (map single_member (below n)) ≡ slice_index first v
start_sent v zero first l m = (let never : ⊥ = omega (arith, l) in absurd never)
start_sent v (suc n) first l m = start_more v n first (omega (arith, m)) ∙ ⊎_elim
    (λ (h : v < n).
    (let rest = start_sent v n first h (omega (arith, m)) in
    let none : cond (n == v) (slice_index first n) 0 ≡ 0 = ap (λ t. cond t (slice_index first n) 0) (not_same n v (λ e. omega (arith, e, h))) in
    omega (arith, rest, none)))
    (λ (h : n ≤ v).
    (let same : n ≡ v = omega (arith, h, l) in
    let rest = start_none v n first h (omega (arith, m)) in
    let here : cond (n == v) (slice_index first n) 0 ≡ slice_index first v = ap (λ k. cond (k == v) (slice_index first k) 0) same ∙ ap (λ t. cond t (slice_index first v) 0) (same_itself v) in
    omega (arith, rest, here)))
    (cases_lt v n)

start_held : (first : List ℕ) → IsHeld first (alone first)
unfolding single_member
start_held first = record {
  sums = λ v p. ⊎_elim
      (λ (l : v < length first). ap (λ xs. sent_in v xs (map single_member (below (length first)))) (sym (take_all (length first) first (omega arith))) ∙ start_sent v (length first) first l (omega arith))
      (λ (l : length first ≤ v). (let z = get_or_past first v 0 l in let never : ⊥ = omega (arith, z, p) in absurd never))
      (cases_lt v (length first));
}

fits_from : (most : ℕ) (counts sizes : List ℕ) → AreCodeSizes most counts sizes → Fits most counts sizes
fits_from most counts sizes is =
    let long = is.long in
    let fit = is.fit in
    let e = strings_are most counts sizes in
    record { long = long; short = λ v l. is.short v 0 (omega (arith, l, long)); fit = omega (arith, fit, e) }

pub fewest_bits : (most : ℕ) (counts sizes : List ℕ) → AreCodeSizes most (counts ++ 1 ∷ []) sizes → bits_sent (counts ++ 1 ∷ []) (code_sizes counts) ≤ bits_sent (counts ++ 1 ∷ []) sizes
unfolding code_sizes IsBest bits_of_members single_member
fewest_bits most counts sizes is =
    let first = counts ++ 1 ∷ [] in
    let bound = best (length counts) most first (alone first) (start_held first) sizes (fits_from most first sizes is) in
    let start = start_bits first (below (length first)) in
    let e = bits_are first sizes in
    omega (arith, bound, start, e)
