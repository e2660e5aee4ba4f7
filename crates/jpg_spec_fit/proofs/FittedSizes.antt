-- The sizes of the codes at the end of the steps, and how many codes there are of each.
use Rattle.std.proofs.Common.{◌≡◌, ℕ, zero, suc, ◌+◌, ◌-◌, ◌*◌, ◌^◌, ◌<◌, ◌≤◌, Bool, true, false, cond, List, [], ◌∷◌, ◌++◌, length, map, take, refl, sym, ap, ◌∙◌, subst, arith, ⊎_elim, ◌==◌, ◌⊎◌, inl, inr}
use Rattle.std.specs.Prelude.{nat_lt, All, count_by, sum_by, sum, slice_index}
use Rattle.std.proofs.lemmas.Bool.{cases_order}
use Rattle.std.proofs.lemmas.List.{length-map, get_or-map, get_or_append_left, get_or_push, length_push, take_all}
use Rattle.std.proofs.lemmas.List.Sums.{sum_by-cons, sum_by_more}
use Rattle.std.proofs.lemmas.List.Elements.{All-map, All-head, All-tail, All-from_get_or}
use Rattle.jpg_spec.specs.Lists.{below}
use Rattle.jpg_spec.proofs.Basics.Common.{lt_yes, lt_no, same_itself, not_same}
use Rattle.jpg_spec_fit.specs.Fitted.{Groups, alone, steps, code_sizes, sizes_counted}
use Rattle.jpg_spec_fit.proofs.FittedCounts.{strings, doubled}
use Rattle.jpg_spec_fit.proofs.FittedGroups.{IsSingle, live_few, filled, share}
use Rattle.jpg_spec_fit.proofs.FittedSteps.{member, AreEnded, IsMade, IsAnyMade, single_member, steps_ended, steps_any, alone_groups}

-- WHAT A CODE TAKES of the strings of `most` bits, by its size; no code has no bits
pub part : ℕ → ℕ → ℕ
part most size = cond (size == 0) 0 (cond (nat_lt most size) 0 (2 ^ (most - size)))

part_of : (most size : ℕ) → 1 ≤ size → size ≤ most → part most size ≡ 2 ^ (most - size)
unfolding part
part_of most size l h = ap (λ t. cond t 0 (cond (nat_lt most size) 0 (2 ^ (most - size)))) (not_same size 0 (λ e. omega (arith, l, e))) ∙ ap (λ t. cond t 0 (2 ^ (most - size))) (lt_no most size h)

part_none : (most : ℕ) → part most 0 ≡ 0
unfolding part
part_none most = refl

part_long : (most size : ℕ) → most < size → part most size ≡ 0
unfolding part
part_long most size h = ap (λ t. cond t 0 (cond (nat_lt most size) 0 (2 ^ (most - size)))) (not_same size 0 (λ e. omega (arith, h, e))) ∙ ap (λ t. cond t 0 (2 ^ (most - size))) (lt_yes most size h)

abbrev tally : Bool → ℕ
tally t = cond t 1 0

counted : (m n : ℕ) → m ≡ n → tally (m == n) ≡ 1
counted m n e = ap (λ k. tally (k == n)) e ∙ ap tally (same_itself n)

passed : (m n : ℕ) → (m ≡ n → ⊥) → tally (m == n) ≡ 0
passed m n e = ap tally (not_same m n e)

part_more : (most size : ℕ) → cond (size == suc most) 1 0 + 2 * part most size ≡ part (suc most) size
part_more most zero = (let a = part_none most in let b = part_none (suc most) in let e = passed 0 (suc most) (λ h. omega (arith, h)) in omega (arith, a, b, e))
part_more most (suc size) =
    ⊎_elim
    (λ (h : suc size ≡ suc most).
    (let a = part_long most (suc size) (omega (arith, h)) in
    let z : suc most - suc size ≡ 0 = omega (arith, h) in
    let b = part_of (suc most) (suc size) (omega arith) (omega (arith, h)) ∙ ap (λ m. 2 ^ m) z in
    let e = counted (suc size) (suc most) h in
    omega (arith, a, b, e)))
    (λ h. ⊎_elim
    (λ (l : suc size < suc most).
    (let e = passed (suc size) (suc most) (λ g. omega (arith, g, l)) in
    let a = part_of most (suc size) (omega arith) (omega (arith, l)) in
    let s : suc most - suc size ≡ suc (most - suc size) = omega (arith, l) in
    let b = part_of (suc most) (suc size) (omega arith) (omega (arith, l)) ∙ ap (λ m. 2 ^ m) s ∙ doubled (most - suc size) in
    omega (arith, a, b, e)))
    (λ (l : suc most < suc size).
    (let e = passed (suc size) (suc most) (λ g. omega (arith, g, l)) in
    let a = part_long most (suc size) (omega (arith, l)) in
    let b = part_long (suc most) (suc size) l in
    omega (arith, a, b, e)))
    h)
    (cases_order (suc size) (suc most))

parts_more : (most : ℕ) (sizes : List ℕ) → count_by (λ size. size == suc most) sizes + 2 * sum_by (part most) sizes ≡ sum_by (part (suc most)) sizes
parts_more most [] = refl
parts_more most (size ∷ sizes) =
    let rest = parts_more most sizes in
    let one = part_more most size in
    omega (arith, rest, one, sum_by-cons (λ size. cond (size == suc most) 1 0) size sizes, sum_by-cons (part most) size sizes, sum_by-cons (part (suc most)) size sizes)

parts_none : (sizes : List ℕ) → sum_by (part 0) sizes ≡ 0
parts_none [] = refl
parts_none (size ∷ sizes) = (let rest = parts_none sizes in omega (arith, rest, sum_by-cons (part 0) size sizes, none size))
  where
    none : (n : ℕ) → part 0 n ≡ 0
    none zero = part_none 0
    none (suc n) = part_long 0 (suc n) (omega arith)

pub strings_counted : (most : ℕ) (sizes : List ℕ) → strings (sizes_counted most sizes) ≡ sum_by (part most) sizes
strings_counted zero sizes = sym (parts_none sizes)
strings_counted (suc most) sizes = (let h = strings_counted most sizes in let p = parts_more most sizes in omega (arith, h, p))

pub sizes_length : (most : ℕ) (sizes : List ℕ) → length (sizes_counted most sizes) ≡ most
sizes_length zero sizes = refl
sizes_length (suc most) sizes = ap suc (sizes_length most sizes)

-- HOW MANY CODES there are

-- 1 for a code
pub inside : ℕ → ℕ → ℕ
inside most size = cond (size == 0) 0 (cond (nat_lt most size) 0 1)

inside_is : (most size : ℕ) → 1 ≤ size → size ≤ most → inside most size ≡ 1
unfolding inside
inside_is most size l h = ap (λ t. cond t 0 (cond (nat_lt most size) 0 1)) (not_same size 0 (λ e. omega (arith, l, e))) ∙ ap (λ t. cond t 0 1) (lt_no most size h)

inside_none : (most : ℕ) → inside most 0 ≡ 0
unfolding inside
inside_none most = refl

inside_long : (most size : ℕ) → most < size → inside most size ≡ 0
unfolding inside
inside_long most size h = ap (λ t. cond t 0 (cond (nat_lt most size) 0 1)) (not_same size 0 (λ e. omega (arith, h, e))) ∙ ap (λ t. cond t 0 1) (lt_yes most size h)

inside_more : (most size : ℕ) → cond (size == suc most) 1 0 + inside most size ≡ inside (suc most) size
inside_more most zero = (let a = inside_none most in let b = inside_none (suc most) in let e = passed 0 (suc most) (λ h. omega (arith, h)) in omega (arith, a, b, e))
inside_more most (suc size) =
    ⊎_elim
    (λ (h : suc size ≡ suc most).
    (let a = inside_long most (suc size) (omega (arith, h)) in
    let b = inside_is (suc most) (suc size) (omega arith) (omega (arith, h)) in
    let e = counted (suc size) (suc most) h in
    omega (arith, a, b, e)))
    (λ h. ⊎_elim
    (λ (l : suc size < suc most). (let e = passed (suc size) (suc most) (λ g. omega (arith, g, l)) in let a = inside_is most (suc size) (omega arith) (omega (arith, l)) in let b = inside_is (suc most) (suc size) (omega arith) (omega (arith, l)) in omega (arith, a, b, e)))
    (λ (l : suc most < suc size). (let e = passed (suc size) (suc most) (λ g. omega (arith, g, l)) in let a = inside_long most (suc size) (omega (arith, l)) in let b = inside_long (suc most) (suc size) l in omega (arith, a, b, e)))
    h)
    (cases_order (suc size) (suc most))

inside_small : (most size : ℕ) → inside most size ≤ 1
unfolding inside
inside_small most size = by (size == 0) (nat_lt most size)
  where
    by : (t u : Bool) → cond t 0 (cond u 0 1) ≤ 1
    by true u = omega arith
    by false true = omega arith
    by false false = omega arith

insides_more : (most : ℕ) (sizes : List ℕ) → count_by (λ size. size == suc most) sizes + sum_by (inside most) sizes ≡ sum_by (inside (suc most)) sizes
insides_more most [] = refl
insides_more most (size ∷ sizes) =
    let rest = insides_more most sizes in
    let one = inside_more most size in
    omega (arith, rest, one, sum_by-cons (λ size. cond (size == suc most) 1 0) size sizes, sum_by-cons (inside most) size sizes, sum_by-cons (inside (suc most)) size sizes)

insides_none : (sizes : List ℕ) → sum_by (inside 0) sizes ≡ 0
insides_none [] = refl
insides_none (size ∷ sizes) = (let rest = insides_none sizes in omega (arith, rest, sum_by-cons (inside 0) size sizes, none size))
  where
    none : (n : ℕ) → inside 0 n ≡ 0
    none zero = inside_none 0
    none (suc n) = inside_long 0 (suc n) (omega arith)

pub sum_counted : (most : ℕ) (sizes : List ℕ) → sum (sizes_counted most sizes) ≡ sum_by (inside most) sizes
sum_counted zero sizes = sym (insides_none sizes)
sum_counted (suc most) sizes = sum_by-cons (λ x. x) (count_by (λ size. size == suc most) sizes) (sizes_counted most sizes) ∙ (let h = sum_counted most sizes in let p = insides_more most sizes in omega (arith, h, p))

pub insides_few : (most : ℕ) (sizes : List ℕ) → sum_by (inside most) sizes ≤ length sizes
insides_few most [] = omega arith
insides_few most (size ∷ sizes) = (let rest = insides_few most sizes in omega (arith, rest, sum_by-cons (inside most) size sizes, inside_small most size))

pub insides_zero : (most : ℕ) (sizes : List ℕ) → All (λ size. size ≡ 0) sizes → sum_by (inside most) sizes ≡ 0
insides_zero most [] h = refl
insides_zero most (size ∷ sizes) h =
    let z = All-head (λ size. size ≡ 0) size sizes h in
    let rest = insides_zero most sizes (All-tail (λ size. size ≡ 0) size sizes h) in
    let one = ap (inside most) z ∙ inside_none most in
    omega (arith, rest, one, sum_by-cons (inside most) size sizes)

-- all but the last one
pub insides_last : (most n : ℕ) (sizes : List ℕ) → length sizes ≡ suc n → 1 ≤ slice_index sizes n → slice_index sizes n ≤ most → sum_by (inside most) sizes ≡ sum_by (inside most) (take n sizes) + 1
insides_last most n sizes l low high =
    let one = inside_is most (slice_index sizes n) low high in
    let all = ap (sum_by (inside most)) (take_all (n + 1) sizes (omega (arith, l))) in
    let more = sum_by_more (inside most) sizes n 0 (omega (arith, l)) in
    omega (arith, one, all, more)

-- SIZES AT THE END

-- a symbol has a code if it is sent
abbrev pub IsSized : ℕ → ℕ → Type 0
IsSized sent size = ((sent ≡ 0) × (size ≡ 0)) ⊎ ((0 < sent) × (1 ≤ size))

pub record AreSizes (most : ℕ) (first sizes : List ℕ) : Type 0 where
  pub long : length sizes ≡ length first
  pub short : All (λ size. size ≤ most) sizes
  pub sized : (i : ℕ) → i < length first → IsSized (slice_index first i) (slice_index sizes i)
  pub whole : sum_by (part most) sizes ≡ 2 ^ most

-- a member is in the group, or it has no code
abbrev IsIn : ℕ → ℕ → ℕ × ℕ → Type 0
IsIn most name m = (((m.0 ≡ name) × (1 ≤ m.1)) ⊎ ((m.0 ≡ name → ⊥) × (m.1 ≡ 0))) × (m.1 ≤ most)

abbrev sizes_of : List (ℕ × ℕ) → List ℕ
sizes_of members = map (λ (m : ℕ × ℕ). m.1) members

part_filled : (most name : ℕ) (m : ℕ × ℕ) → IsIn most name m → part most m.1 ≡ filled most name m
part_filled most name m is =
    ⊎_elim
    (λ (h : (m.0 ≡ name) × (1 ≤ m.1)). part_of most m.1 h.1 is.1 ∙ sym (ap (λ n. cond (n == name) (2 ^ (most - m.1)) 0) h.0 ∙ ap (λ t. cond t (2 ^ (most - m.1)) 0) (same_itself name)))
    (λ (h : (m.0 ≡ name → ⊥) × (m.1 ≡ 0)). ap (part most) h.1 ∙ part_none most ∙ sym (ap (λ t. cond t (2 ^ (most - m.1)) 0) (not_same m.0 name h.0)))
    is.0

whole_share : (most name : ℕ) (members : List (ℕ × ℕ)) → All (IsIn most name) members → sum_by (part most) (sizes_of members) ≡ share most name members
whole_share most name [] h = refl
whole_share most name (m ∷ members) h =
    let one = part_filled most name m (All-head (IsIn most name) m members h) in
    let rest = whole_share most name members (All-tail (IsIn most name) m members h) in
    omega (arith, one, rest, sum_by-cons (part most) m.1 (sizes_of members))

ended_sizes : (most : ℕ) (first : List ℕ) (g : Groups) → AreEnded most first g → IsMade g → AreSizes most first (sizes_of g.members)
ended_sizes most first g is made = record {
  long = length-map g.members (λ (m : ℕ × ℕ). m.1) ∙ is.groups.many;
  short = All-map (λ size. size ≤ most) (λ (m : ℕ × ℕ). m.1) g.members is.groups.sizes;
  sized = λ i l. subst (IsSized (slice_index first i)) (sym (get_or-map (λ (m : ℕ × ℕ). m.1) g.members i (0, 0) 0 (within i l))) (sized i l);
  whole = whole_share most made.name g.members (All-from_get_or (IsIn most made.name) g.members (0, 0) (λ i l. (let n = is.groups.many in is_in i l (omega (arith, l, n))))) ∙ is.groups.full made.name made.some;
}
  where
    within : (i : ℕ) → i < length first → i < length g.members
    within i l = (let n = is.groups.many in omega (arith, l, n))

    bits : (i : ℕ) → i < length first → 0 < slice_index g.counts (member g i).0 → ((member g i).0 ≡ made.name) × (1 ≤ (member g i).1)
    bits i l p = (let e = is.single (member g i).0 made.name p made.some in (e, made.bits i (0, 0) (within i l) e))

    sized : (i : ℕ) → i < length first → IsSized (slice_index first i) (member g i).1
    sized i l =
        ⊎_elim
        (λ (h : (slice_index first i ≡ 0) × (slice_index g.counts (member g i).0 ≡ 0) × ((member g i).1 ≡ 0)). inl (h.0, h.2))
        (λ (h : (0 < slice_index first i) × (0 < slice_index g.counts (member g i).0)). inr (h.0, (bits i l h.1).1))
        (is.groups.kept i l)

    is_in : (i : ℕ) → i < length g.members → i < length first → IsIn most made.name (member g i)
    is_in i n l = (
      ⊎_elim
          (λ (h : (slice_index first i ≡ 0) × (slice_index g.counts (member g i).0 ≡ 0) × ((member g i).1 ≡ 0)). inr ((λ e. (let z = h.1 in let s = ap (slice_index g.counts) e in let p = made.some in let never : ⊥ = omega (arith, z, s, p) in never)), h.2))
          (λ (h : (0 < slice_index first i) × (0 < slice_index g.counts (member g i).0)). inl (bits i l h.1))
          (is.groups.kept i l),
      is.groups.sizes i (0, 0) n,
    )

-- nothing is sent
pub record AreNotSent (first sizes : List ℕ) : Type 0 where
  pub long : length sizes ≡ length first
  pub unsent : (i : ℕ) → i + 1 < length first → slice_index first i ≡ 0
  pub zeros : All (λ size. size ≡ 0) sizes

unsent_at : (counts : List ℕ) (i : ℕ) → IsSingle (counts ++ 1 ∷ []) → i < length counts → slice_index counts i ≡ 0
unsent_at counts i is l = by (slice_index counts i) refl
  where
    by : (n : ℕ) → slice_index counts i ≡ n → n ≡ 0
    by zero e = refl
    by (suc n) e =
        let at = get_or_append_left counts (1 ∷ []) 0 i l in
        let last = get_or_push counts 1 0 (length counts) refl in
        let same = is i (length counts) (omega (arith, at, e)) (omega (arith, last)) in
        let never : ⊥ = omega (arith, same, l) in absurd never

alone_sizes : (n : ℕ) → All (λ size. size ≡ 0) (sizes_of (map single_member (below n)))
alone_sizes n = All-map (λ size. size ≡ 0) (λ (m : ℕ × ℕ). m.1) (map single_member (below n)) (All-map (λ (m : ℕ × ℕ). m.1 ≡ 0) single_member (below n) (λ k d l. refl))

-- THE SIZES of the symbols with these counts and of the reserved one
pub sizes_made : (counts : List ℕ) → AreNotSent (counts ++ 1 ∷ []) (code_sizes counts) ⊎ AreSizes (length counts + 16) (counts ++ 1 ∷ []) (code_sizes counts)
unfolding code_sizes
sizes_made [] = inl (record { long = refl; unsent = (λ i l. (let never : ⊥ = omega (arith, l) in absurd never)); zeros = alone_sizes 1 })
sizes_made (c ∷ counts) = by (steps_any n g (omega arith))
  where
    n : ℕ
    n = suc (length counts)

    first : List ℕ
    first = c ∷ counts ++ 1 ∷ []

    g : Groups
    g = alone (c ∷ counts ++ 1 ∷ [])

    by : IsAnyMade n g → AreNotSent first (sizes_of (steps n g).members) ⊎ AreSizes (n + 16) first (sizes_of (steps n g).members)
    by (inl h) =
        inl (subst (λ (x : Groups). AreNotSent first (sizes_of x.members)) (sym h.1) (record {
          long = length-map g.members (λ (m : ℕ × ℕ). m.1) ∙ (alone_groups 0 first).many;
          unsent = λ i l. (let far = length_push (c ∷ counts) 1 in let k : i < n = omega (arith, l, far) in get_or_append_left (c ∷ counts) (1 ∷ []) 0 i k ∙ unsent_at (c ∷ counts) i h.0 k);
          zeros = alone_sizes (length first);
        }))
    by (inr made) =
        inr (ended_sizes (n + 16) first (steps n g) (steps_ended n (n + 16) 0 first g (alone_groups (n + 16) first) (let few = live_few first in let far = length_push (c ∷ counts) 1 in omega (arith, few, far)) (omega arith)) made)
