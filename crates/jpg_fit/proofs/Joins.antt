-- A step that joins groups, and the sum of the counts.
use Rattle.std.proofs.Common.{◌≡◌, ℕ, zero, suc, ◌+◌, ◌-◌, ◌^◌, ◌<◌, ◌≤◌, Bool, true, false, cond, List, [], ◌∷◌, ◌++◌, length, map, refl, sym, ap, ◌∙◌, subst, arith, Option, Some, None, ◌==◌}
use Rattle.std.specs.Prelude.{◌||◌, All, sum, set, slice_index, option_map, is_some}
use Rattle.std.proofs.lemmas.List.{length-set, length_push, get_or-set_other}
use Rattle.std.proofs.lemmas.List.Sums.{sum_by-set, sum_by_push, sum_by-le}
use Rattle.std.proofs.lemmas.List.Elements.{All-map, All-weaker}
use Rattle.jpg_spec.specs.Lists.{below}
use Rattle.jpg_spec_fit.specs.Fitted.{Groups, alone, least, least_below, least_two, with_next, joined_member, joined, joined_if, step, steps, code_sizes}
use Rattle.jpg_spec_fit.proofs.FittedGroups.{AreTwo, AreLeast, two_found, joined_counts}
use Rattle.jpg_fit.specs.Groups.{groups}
use Rattle.jpg_fit.specs.Sizes.{after_steps}

-- THE TWO LEAST

pub none_first : (counts : List ℕ) → least counts ≡ None → least_two counts ≡ None
unfolding least_two
none_first counts e = ap (with_next counts) e

pub none_next : (counts : List ℕ) (a : ℕ) → least counts ≡ Some a → least (set counts a 0) ≡ None → least_two counts ≡ None
unfolding least_two
none_next counts a e f = ap (with_next counts) e ∙ ap (option_map (λ b. (a, b))) f

pub two_first : (counts : List ℕ) (a b : ℕ) → least counts ≡ Some a → least (set counts a 0) ≡ Some b → least_two counts ≡ Some (a, b)
unfolding least_two
two_first counts a b e f = ap (with_next counts) e ∙ ap (option_map (λ b. (a, b))) f

pub stepped : (g : Groups) (o : Option (ℕ × ℕ)) → least_two g.counts ≡ o → step g ≡ joined_if g o
stepped g o e = ap (joined_if g) e

pub joins : (counts : List ℕ) (members : List (ℕ × ℕ)) (a b : ℕ)
    → joined (groups counts members) a b ≡ groups (set (set counts a (slice_index counts a + slice_index counts b)) b 0) (map (joined_member a b) members)
unfolding joined
joins counts members a b = refl

-- THE SUM stays

sum_joined : (counts : List ℕ) (a b : ℕ) → AreTwo counts a b → sum (joined_counts counts a b) ≡ sum counts
sum_joined counts a b two =
    let both = slice_index counts a + slice_index counts b in
    let s = sum_by-set (λ n. n) counts a both 0 two.first in
    let far = length-set counts a both in
    let l = two.next in
    let t = sum_by-set (λ n. n) (set counts a both) b 0 0 (omega (arith, l, far)) in
    let b_is = get_or-set_other counts a b both 0 (λ e. two.apart (sym e)) in
    omega (arith, s, t, b_is)

pub step_sum : (counts : List ℕ) (members : List (ℕ × ℕ)) → sum (step (groups counts members)).counts ≡ sum counts
unfolding joined
step_sum counts members = by (least_two counts) (two_found counts)
  where
    by : (o : Option (ℕ × ℕ)) → AreLeast counts o → sum (joined_if (groups counts members) o).counts ≡ sum counts
    by None h = refl
    by (Some two) h = sum_joined counts two.0 two.1 h

size_more : (a b most : ℕ) (m : ℕ × ℕ) → m.1 ≤ most → (joined_member a b m).1 ≤ most + 1
size_more a b most m l = by (m.0 == a || m.0 == b)
  where
    by : (t : Bool) → (cond t (a, m.1 + 1) m).1 ≤ most + 1
    by true = omega (arith, l)
    by false = omega (arith, l)

pub step_sizes : (counts : List ℕ) (members : List (ℕ × ℕ)) (most : ℕ) → All (λ m. m.1 ≤ most) members → All (λ m. m.1 ≤ most + 1) (step (groups counts members)).members
unfolding joined
step_sizes counts members most h = by (least_two counts)
  where
    by : (o : Option (ℕ × ℕ)) → All (λ m. m.1 ≤ most + 1) (joined_if (groups counts members) o).members
    by None = All-weaker (λ m. m.1 ≤ most) (λ m. m.1 ≤ most + 1) (λ m l. omega (arith, l)) members h
    by (Some two) = All-map (λ m. m.1 ≤ most + 1) (joined_member two.0 two.1) members (All-weaker (λ m. m.1 ≤ most) (λ m. (joined_member two.0 two.1 m).1 ≤ most + 1) (size_more two.0 two.1 most) members h)

-- counts of 32 bits, and the reserved symbol's
pub small_sum : (counts : List ℕ) → length counts ≡ 256 → All (λ n. n ≤ 4294967295) counts → sum (counts ++ 1 ∷ []) < 2 ^ 63
small_sum counts l h = (let s = sum_by-le (λ n. n) 4294967295 counts h in let p = sum_by_push (λ n. n) counts 1 in omega (arith, s, p, l))

all_alone : (most n : ℕ) → All (λ (m : ℕ × ℕ). m.1 ≤ most) (map (λ symbol. (symbol, 0)) (below n))
all_alone most n = All-map (λ (m : ℕ × ℕ). m.1 ≤ most) (λ symbol. (symbol, 0)) (below n) (λ k d l. omega arith)

pub started : (counts all : List ℕ) (members : List (ℕ × ℕ)) → length counts ≡ 256 → all ≡ counts ++ 1 ∷ [] → members ≡ map (λ symbol. (symbol, 0)) (below 257) → groups all members ≡ alone (counts ++ 1 ∷ [])
started counts all members l e f =
    let n : length (counts ++ 1 ∷ []) ≡ 257 = (let p = length_push counts 1 in omega (arith, p, l)) in
    ap (λ a. groups a members) e ∙ ap (groups (counts ++ 1 ∷ [])) (f ∙ ap (λ k. map (λ symbol. (symbol, 0)) (below k)) (sym n))

-- THE STEPS

pub one_step : (left : ℕ) (g : Groups) → 0 < left → after_steps left g ≡ after_steps (left - 1) (step g)
unfolding after_steps
one_step left g l = (let e : left ≡ suc (left - 1) = omega (arith, l) in ap (λ n. steps n g) e)

steps_stay : (left : ℕ) (g : Groups) → least_two g.counts ≡ None → steps left g ≡ step g
steps_stay zero g e = sym (ap (joined_if g) e)
steps_stay (suc left) g e = ap (steps left) (ap (joined_if g) e) ∙ steps_stay left g e

pub stays : (left : ℕ) (g : Groups) → least_two g.counts ≡ None → after_steps 0 (step g) ≡ after_steps left g
unfolding after_steps
stays left g e = sym (steps_stay left g e)

pub sizes_are : (counts : List ℕ) (g : Groups) → length counts ≡ 256 → after_steps 0 g ≡ after_steps 256 (alone (counts ++ 1 ∷ [])) → map (λ m. m.1) g.members ≡ code_sizes counts
unfolding code_sizes after_steps
sizes_are counts g l e = ap (λ (x : Groups). map (λ (m : ℕ × ℕ). m.1) x.members) e ∙ ap (λ n. map (λ (m : ℕ × ℕ). m.1) (steps n (alone (counts ++ 1 ∷ []))).members) (sym l)

pub not_two : {A : Type 0} (o : Option A) → is_some o ≡ false → o ≡ None
not_two None e = refl
not_two (Some x) e = cc

pub found_least : (counts : List ℕ) (n : ℕ) (best : Option ℕ) → n ≡ length counts → best ≡ least_below counts n → best ≡ least counts
unfolding least
found_least counts n best e h = h ∙ ap (least_below counts) e

pub alone_small : All (λ (m : ℕ × ℕ). m.1 ≤ 256 - 256) (map (λ symbol. (symbol, 0)) (below 257))
alone_small = all_alone (256 - 256) 257

-- A STEP of counts and members
pub sum_after : (counts : List ℕ) (members : List (ℕ × ℕ)) (now : Groups) → now ≡ step (groups counts members) → sum now.counts ≡ sum counts
sum_after counts members now e = ap (λ (x : Groups). sum x.counts) e ∙ step_sum counts members

pub sizes_after : (counts : List ℕ) (members : List (ℕ × ℕ)) (now : Groups) (most next : ℕ) → now ≡ step (groups counts members) → All (λ (m : ℕ × ℕ). m.1 ≤ most) members → most + 1 ≤ next → All (λ (m : ℕ × ℕ). m.1 ≤ next) now.members
sizes_after counts members now most next e h l =
    subst (All (λ (m : ℕ × ℕ). m.1 ≤ next)) (sym (ap (λ (x : Groups). x.members) e))
    (All-weaker (λ (m : ℕ × ℕ). m.1 ≤ most + 1) (λ (m : ℕ × ℕ). m.1 ≤ next) (λ m k. omega (arith, k, l)) (step (groups counts members)).members (step_sizes counts members most h))
