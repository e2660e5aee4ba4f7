-- Sizes adjusted place by place are adjusted as they are defined.
use Rattle.std.proofs.Common.{◌≡◌, ℕ, zero, suc, ◌+◌, ◌-◌, ◌<◌, ◌≤◌, Bool, true, false, cond, ◌&&◌, ⊎_elim, List, [], ◌∷◌, ◌++◌, length, get_or, take, drop, refl, sym, ap, ◌∙◌, subst, arith, ◌==◌}
use Rattle.std.specs.Prelude.{nat_lt, nat_le, sum, set, count_by, replicate, slice_index}
use Rattle.std.proofs.lemmas.Bool.{cases_eq}
use Rattle.std.proofs.lemmas.Bool.Decides.{nat_tests}
use Rattle.std.proofs.lemmas.List.{append_assoc, append-nil, take_more, take_all, drop_more, drop_all, take-append-drop, set_at, length-take-le, length-take, length_push, length-drop, get_or-drop, get_or-set_other, drop_at, drop-set-lt, get_or-set_same, length-set}
use Rattle.std.proofs.lemmas.List.Sums.{sum_by_push, get_or-le-sum_by}
use Rattle.jpg_spec.proofs.Basics.Common.{lt_of, lt_yes, le_of, not_lt_of, not_same, same_itself, and_none}
use Rattle.jpg_spec_fit.specs.Fitted.{code_split, longest_moved, limited, one_less, sizes_counted, fitted_counts}
use Rattle.jpg_spec_fit.proofs.FittedSizes.{sum_counted, insides_few}
use Rattle.jpg_fit.specs.Sizes.{all_sizes, with_size}
use Rattle.jpg_fit.specs.Split.{split_at}
use Rattle.jpg_spec_fit.proofs.FittedCounts.{total_cons}

-- a list around two places
around : (at : ℕ) (counts : List ℕ) → at + 1 < length counts → counts ≡ take at counts ++ get_or counts at 0 ∷ get_or counts (at + 1) 0 ∷ drop (at + 1 + 1) counts
around at counts l = sym (take-append-drop at counts) ∙ ap (λ r. take at counts ++ r) (drop_more counts at 0 (omega (arith, l)) ∙ ap (λ r. get_or counts at 0 ∷ r) (drop_more counts (at + 1) 0 l))

one_more : (at : ℕ) (counts rest : List ℕ) → at < length counts → take at counts ++ get_or counts at 0 ∷ rest ≡ take (at + 1) counts ++ rest
one_more at counts rest l = sym (append_assoc (take at counts) (get_or counts at 0 ∷ []) rest) ∙ ap (λ r. r ++ rest) (sym (take_more counts at 0 l))

-- A CODE SPLIT

pub split_next : (at : ℕ) (counts : List ℕ) → at + 1 < length counts → slice_index counts (at + 1) ≡ 0 → split_at at counts ≡ split_at (at + 1) counts
unfolding split_at
split_next at counts l z =
    let m = slice_index counts at in
    let rest = drop (at + 1 + 1) counts in
    ap (λ r. take at counts ++ code_split m r) (drop_more counts (at + 1) 0 l ∙ ap (λ n. n ∷ rest) z) ∙ one_more at counts (code_split 0 rest) (omega (arith, l))
    ∙ sym (ap (λ n. take (at + 1) counts ++ code_split n rest) z)

pub split_end : (at : ℕ) (counts : List ℕ) → at < length counts → length counts ≤ at + 1 → split_at at counts ≡ counts
unfolding split_at
split_end at counts l h =
    ap (λ r. take at counts ++ code_split (slice_index counts at) r) (drop_all (at + 1) counts h) ∙ sym (take_more counts at 0 l) ∙ take_all (at + 1) counts h

pub split_here : (at n : ℕ) (counts : List ℕ) → at + 1 < length counts → slice_index counts (at + 1) ≡ suc n → split_at at counts ≡ set (set counts at (slice_index counts at + 2)) (at + 1) n
unfolding split_at
split_here at n counts l e =
    let m = slice_index counts at in
    let rest = drop (at + 1 + 1) counts in
    let front = take at counts in
    let long = length-take-le at counts (omega (arith, l)) in
    let next : get_or counts (at + 1) 0 ∷ rest ≡ suc n ∷ rest = ap (λ k. k ∷ rest) e in
    let whole = around at counts l ∙ ap (λ r. front ++ m ∷ r) next in
    let first : set (front ++ m ∷ suc n ∷ rest) at (m + 2) ≡ front ++ (m + 2) ∷ suc n ∷ rest = set_at front m (suc n ∷ rest) (m + 2) at long in
    let push = length_push front (m + 2) in
    let second : set ((front ++ (m + 2) ∷ []) ++ suc n ∷ rest) (at + 1) n ≡ (front ++ (m + 2) ∷ []) ++ n ∷ rest = set_at (front ++ (m + 2) ∷ []) (suc n) rest n (at + 1) (omega (arith, push, long)) in
    let made : set (set counts at (m + 2)) (at + 1) n ≡ front ++ (m + 2) ∷ n ∷ rest =
    ap (λ c. set (set c at (m + 2)) (at + 1) n) whole ∙ ap (λ c. set c (at + 1) n) (first ∙ sym (append_assoc front ((m + 2) ∷ []) (suc n ∷ rest))) ∙ second ∙ append_assoc front ((m + 2) ∷ []) (n ∷ rest) in
    ap (λ r. front ++ code_split m r) (drop_more counts (at + 1) 0 l ∙ next) ∙ sym made

pub split_written : (at : ℕ) (counts : List ℕ) → at + 1 < length counts → 0 < slice_index counts (at + 1)
    → set (set counts at (slice_index counts at + 2)) (at + 1) (get_or (set counts at (slice_index counts at + 2)) (at + 1) 0 - 1) ≡ split_at at counts
split_written at counts l p =
    let e : slice_index counts (at + 1) ≡ suc (slice_index counts (at + 1) - 1) = omega (arith, p) in
    ap (λ n. set (set counts at (slice_index counts at + 2)) (at + 1) (n - 1)) (get_or-set_other counts at (at + 1) (slice_index counts at + 2) 0 (λ h. omega (arith, h)))
    ∙ sym (split_here at (slice_index counts (at + 1) - 1) counts l e)

pub at_most : (at i m : ℕ) (counts : List ℕ) → at ≤ i → i < length counts → sum (drop at counts) ≤ m → slice_index counts i ≤ m
at_most at i m counts past l few =
    let long = length-drop at counts in
    let e : at + (i - at) ≡ i = omega (arith, past) in
    let here = get_or-drop at counts (i - at) 0 ∙ ap (λ k. get_or counts k 0) e in
    let most = get_or-le-sum_by (λ n. n) (drop at counts) (i - at) 0 (omega (arith, long, l, past)) in
    omega (arith, here, most, few)

drop_split : (at : ℕ) (counts : List ℕ) → at ≤ length counts → drop at (split_at at counts) ≡ code_split (slice_index counts at) (drop (at + 1) counts)
unfolding split_at
drop_split at counts l = drop_at (take at counts) (code_split (slice_index counts at) (drop (at + 1) counts)) at (length-take-le at counts l)

split_most : (m : ℕ) (shorter : List ℕ) → sum (code_split m shorter) ≤ m + sum shorter + 1
split_most m [] = omega (arith, total_cons m [])
split_most m (zero ∷ shorter) = (let h = split_most 0 shorter in omega (arith, h, total_cons m (code_split 0 shorter), total_cons 0 shorter))
split_most m (suc n ∷ shorter) = omega (arith, total_cons (m + 2) (n ∷ shorter), total_cons n shorter, total_cons (suc n) shorter)

-- THE CODES OF A SIZE MOVED

pub after_move : (at : ℕ) (counts : List ℕ) → at < length counts → drop at (split_at at (set counts at (slice_index counts at + 1))) ≡ code_split (slice_index counts at + 1) (drop (at + 1) counts)
after_move at counts l =
    let n = slice_index counts at + 1 in
    let long = length-set counts at n in
    drop_split at (set counts at n) (omega (arith, l, long)) ∙ ap (λ m. code_split m (drop (at + 1) (set counts at n))) (get_or-set_same counts at n 0 l)
    ∙ ap (code_split n) (drop-set-lt (at + 1) counts at n (omega arith))

pub moved_two : (left at : ℕ) (counts : List ℕ) → 2 ≤ left → at < length counts
    → longest_moved left (drop at counts) ≡ longest_moved (left - 2) (drop at (split_at at (set counts at (slice_index counts at + 1))))
moved_two left at counts two l =
    let e : left ≡ suc (suc (left - 2)) = omega (arith, two) in
    ap (λ n. longest_moved n (drop at counts)) e ∙ ap (longest_moved (suc (suc (left - 2)))) (drop_more counts at 0 l) ∙ ap (longest_moved (left - 2)) (sym (after_move at counts l))

pub moved_few : (at : ℕ) (counts : List ℕ) → at < length counts → sum (drop at (split_at at (set counts at (slice_index counts at + 1)))) ≤ sum (drop at counts) + 2
moved_few at counts l =
    let m = slice_index counts at in
    let s = split_most (m + 1) (drop (at + 1) counts) in
    let a = ap sum (after_move at counts l) in
    let b = ap sum (drop_more counts at 0 l) in
    omega (arith, s, a, b, total_cons m (drop (at + 1) counts))

-- ALL LONG SIZES

pub limited_more : (most at : ℕ) (counts : List ℕ) → at < most → at < length counts → limited (most - at) (drop at counts) ≡ limited (most - (at + 1)) (longest_moved (slice_index counts at) (drop (at + 1) counts))
limited_more most at counts h l =
    let e : most - at ≡ suc (most - (at + 1)) = omega (arith, h) in
    ap (λ n. limited n (drop at counts)) e ∙ ap (limited (suc (most - (at + 1)))) (drop_more counts at 0 l)

pub limited_end : (at : ℕ) (counts all : List ℕ) → at ≡ 256 → limited (256 - at) (drop at counts) ≡ all → drop 256 counts ≡ all
limited_end at counts all e h =
    let z : 256 - at ≡ 0 = omega (arith, e) in
    ap (λ n. drop n counts) (sym e) ∙ sym (ap (λ n. limited n (drop at counts)) z) ∙ h

-- ONE CODE LESS

-- the same from a place on
pub less_at : ℕ → List ℕ → List ℕ
less_at at counts = take at counts ++ one_less (drop at counts)

pub less_first : (counts : List ℕ) → less_at 0 counts ≡ one_less counts
unfolding less_at
less_first counts = refl

pub less_next : (at : ℕ) (counts : List ℕ) → at < length counts → slice_index counts at ≡ 0 → less_at at counts ≡ less_at (at + 1) counts
unfolding less_at
less_next at counts l z =
    let rest = drop (at + 1) counts in
    ap (λ r. take at counts ++ one_less r) (drop_more counts at 0 l ∙ ap (λ n. n ∷ rest) z) ∙ ap (λ n. take at counts ++ n ∷ one_less rest) (sym z) ∙ one_more at counts (one_less rest) l

pub less_end : (at : ℕ) (counts : List ℕ) → length counts ≤ at → less_at at counts ≡ counts
unfolding less_at
less_end at counts h = ap (λ r. take at counts ++ one_less r) (drop_all at counts h) ∙ append-nil (take at counts) ∙ take_all at counts h

pub less_here : (at n : ℕ) (counts : List ℕ) → at < length counts → slice_index counts at ≡ suc n → less_at at counts ≡ set counts at n
unfolding less_at
less_here at n counts l e =
    let rest = drop (at + 1) counts in
    let split = drop_more counts at 0 l ∙ ap (λ k. k ∷ rest) e in
    let long = length-take-le at counts (omega (arith, l)) in
    let whole : counts ≡ take at counts ++ suc n ∷ rest = sym (take-append-drop at counts) ∙ ap (λ r. take at counts ++ r) split in
    ap (λ r. take at counts ++ one_less r) split ∙ sym (ap (λ c. set c at n) whole ∙ set_at (take at counts) (suc n) rest n at long)

pub less_written : (at : ℕ) (counts : List ℕ) → at < length counts → 0 < slice_index counts at → set counts at (slice_index counts at - 1) ≡ less_at at counts
less_written at counts l p = (let e : slice_index counts at ≡ suc (slice_index counts at - 1) = omega (arith, p) in sym (less_here at (slice_index counts at - 1) counts l e))

pub positive : (n : ℕ) → (n ≡ 0 → ⊥) → 0 < n
positive zero h = absurd (h refl)
positive (suc n) h = omega arith

-- HOW MANY CODES of each size

few_of : (n m : ℕ) (sizes : List ℕ) → length sizes ≡ m → sum (sizes_counted n sizes) ≤ m
few_of n m sizes l = (let s = sum_counted n sizes in let few = insides_few n sizes in omega (arith, s, few, l))

pub few_counted : (sizes counts : List ℕ) → length sizes ≡ 257 → counts ≡ all_sizes sizes → sum counts ≤ 257
unfolding all_sizes
few_counted sizes counts l e = subst (λ c. sum c ≤ 257) (sym e) (few_of 272 257 sizes l)

pub counts_are : (sizes long short less : List ℕ) → drop 256 long ≡ limited 256 (all_sizes sizes) → short ≡ drop 256 long → less ≡ one_less short → less ≡ fitted_counts 256 sizes
unfolding fitted_counts all_sizes
counts_are sizes long short less a e f = f ∙ ap one_less (e ∙ a)

-- of another size
counted_other : (n size : ℕ) (sizes : List ℕ) → ((k : ℕ) → 1 ≤ k → k ≤ n → size ≡ k → ⊥) → sizes_counted n (sizes ++ size ∷ []) ≡ sizes_counted n sizes
counted_other zero size sizes other = refl
counted_other (suc n) size sizes other =
    let p = sum_by_push (λ s. cond (s == suc n) 1 0) sizes size in
    let one : ℕ = 1 in
    let none : ℕ = 0 in
    let no : cond (size == suc n) one none ≡ none = ap (λ b. cond b one none) (not_same size (suc n) (other (suc n) (omega arith) (omega arith))) in
    let same : count_by (λ s. s == suc n) (sizes ++ size ∷ []) ≡ count_by (λ s. s == suc n) sizes = omega (arith, p, no) in
    ap (λ k. k ∷ sizes_counted n (sizes ++ size ∷ [])) same ∙ ap (λ r. count_by (λ s. s == suc n) sizes ∷ r) (counted_other n size sizes (λ k low high. other k low (omega (arith, high))))

counted_here : (n size : ℕ) (sizes : List ℕ) → 1 ≤ size → size ≤ n → sizes_counted n (sizes ++ size ∷ []) ≡ set (sizes_counted n sizes) (n - size) (slice_index (sizes_counted n sizes) (n - size) + 1)
counted_here zero size sizes low high = (let never : ⊥ = omega (arith, low, high) in absurd never)
counted_here (suc n) size sizes low high = ⊎_elim longest (shorter (counted_here n size sizes low)) (cases_eq size (suc n))
  where
    rest : List ℕ
    rest = sizes_counted n sizes

    first : ℕ
    first = count_by (λ s. s == suc n) sizes

    added : count_by (λ s. s == suc n) (sizes ++ size ∷ []) ≡ first + cond (size == suc n) 1 0
    added = sum_by_push (λ s. cond (s == suc n) 1 0) sizes size

    raised : List ℕ → ℕ → List ℕ
    raised counts at = set counts at (slice_index counts at + 1)

    longest : size ≡ suc n → sizes_counted (suc n) (sizes ++ size ∷ []) ≡ set (first ∷ rest) (suc n - size) (slice_index (first ∷ rest) (suc n - size) + 1)
    longest e =
        let z : 0 ≡ suc n - size = omega (arith, e) in
        let yes = added ∙ ap (λ b. first + cond b 1 0) (ap (λ k. size == k) (sym e) ∙ same_itself size) in
        ap (λ k. k ∷ sizes_counted n (sizes ++ size ∷ [])) yes ∙ ap (λ r. (first + 1) ∷ r) (counted_other n size sizes (λ k l h same. omega (arith, e, h, same)))
        ∙ ap (λ at. set (first ∷ rest) at (slice_index (first ∷ rest) at + 1)) z

    shorter : (size ≤ n → sizes_counted n (sizes ++ size ∷ []) ≡ raised rest (n - size)) → (size ≡ suc n → ⊥) → sizes_counted (suc n) (sizes ++ size ∷ []) ≡ set (first ∷ rest) (suc n - size) (slice_index (first ∷ rest) (suc n - size) + 1)
    shorter before apart =
        let l : size ≤ n = omega (arith, high, apart) in
        let s : suc (n - size) ≡ suc n - size = omega (arith, l) in
        let no : first + cond (size == suc n) 1 0 ≡ first = ap (λ b. first + cond b 1 0) (not_same size (suc n) apart) ∙ omega arith in
        ap (λ k. k ∷ sizes_counted n (sizes ++ size ∷ [])) (added ∙ no) ∙ ap (λ r. first ∷ r) (before l)
        ∙ ap (λ at. set (first ∷ rest) at (slice_index (first ∷ rest) at + 1)) s

le_yes : (a b : ℕ) → a ≤ b → nat_le a b ≡ true
le_yes a b h = grind (arith, nat_tests)

le_no : (a b : ℕ) → b < a → nat_le a b ≡ false
le_no a b h = grind (arith, nat_tests)

not_le_of : (a b : ℕ) → nat_le a b ≡ false → b < a
not_le_of a b e = grind (arith, nat_tests)

counted_more : (size : ℕ) (sizes : List ℕ) → sizes_counted 272 (sizes ++ size ∷ []) ≡ with_size (sizes_counted 272 sizes) size
unfolding with_size
counted_more size sizes = by (nat_lt 0 size) (nat_le size 272) refl refl
  where
    counts : List ℕ
    counts = sizes_counted 272 sizes

    by : (a b : Bool) → nat_lt 0 size ≡ a → nat_le size 272 ≡ b → sizes_counted 272 (sizes ++ size ∷ []) ≡ cond (nat_lt 0 size && nat_le size 272) (set counts (272 - size) (slice_index counts (272 - size) + 1)) counts
    by false b e f =
        counted_other 272 size sizes (λ k l h same. (let z = not_lt_of 0 size e in omega (arith, z, l, same)))
        ∙ sym (ap (λ t. cond (t && nat_le size 272) (set counts (272 - size) (slice_index counts (272 - size) + 1)) counts) e)
    by true false e f =
        counted_other 272 size sizes (λ k l h same. (let far = not_le_of size 272 f in omega (arith, far, h, same)))
        ∙ sym (ap (λ t. cond (t && nat_le size 272) (set counts (272 - size) (slice_index counts (272 - size) + 1)) counts) e ∙ ap (λ t. cond t (set counts (272 - size) (slice_index counts (272 - size) + 1)) counts) f)
    by true true e f =
        counted_here 272 size sizes (let l = lt_of 0 size e in omega (arith, l)) (le_of size 272 f)
        ∙ sym (ap (λ t. cond (t && nat_le size 272) (set counts (272 - size) (slice_index counts (272 - size) + 1)) counts) e ∙ ap (λ t. cond t (set counts (272 - size) (slice_index counts (272 - size) + 1)) counts) f)

pub none_counted : (sizes : List ℕ) → replicate 272 0 ≡ all_sizes (take 0 sizes)
unfolding all_sizes
none_counted sizes = refl

pub size_counted : (sizes counts new : List ℕ) (i : ℕ) → i < length sizes → counts ≡ all_sizes (take i sizes) → new ≡ with_size counts (slice_index sizes i) → new ≡ all_sizes (take (i + 1) sizes)
unfolding all_sizes
size_counted sizes counts new i l e h =
    h ∙ ap (λ c. with_size c (slice_index sizes i)) e ∙ sym (counted_more (slice_index sizes i) (take i sizes)) ∙ sym (ap (sizes_counted 272) (take_more sizes i 0 l))

few_within : (n m : ℕ) (sizes : List ℕ) → length sizes ≤ m → sum (sizes_counted n sizes) ≤ m
few_within n m sizes h = (let few = few_of n (length sizes) sizes refl in omega (arith, few, h))

pub few_so_far : (sizes counts : List ℕ) (i : ℕ) → length sizes ≡ 257 → counts ≡ all_sizes (take i sizes) → sum counts ≤ 257
unfolding all_sizes
few_so_far sizes counts i l e =
    let t = length-take i sizes in
    subst (λ c. sum c ≤ 257) (sym e) (few_within 272 257 (take i sizes) (omega (arith, t, l)))

pub small_count : (counts : List ℕ) (i : ℕ) → i < length counts → sum counts ≤ 257 → slice_index counts i ≤ 257
small_count counts i l few = (let most = get_or-le-sum_by (λ n. n) counts i 0 l in omega (arith, most, few))

pub size_written : (counts : List ℕ) (size : ℕ) → 0 < size → size ≤ 272 → set counts (272 - size) (slice_index counts (272 - size) + 1) ≡ with_size counts size
unfolding with_size
size_written counts size low high = sym (ap (λ t. cond (t && nat_le size 272) raised counts) (lt_yes 0 size low) ∙ ap (λ t. cond t raised counts) (le_yes size 272 high))
  where
    raised : List ℕ
    raised = set counts (272 - size) (slice_index counts (272 - size) + 1)

pub size_none : (counts : List ℕ) (size : ℕ) → size ≡ 0 → counts ≡ with_size counts size
unfolding with_size
size_none counts size e = sym (ap (λ n. cond (nat_lt 0 n && nat_le n 272) (set counts (272 - n) (slice_index counts (272 - n) + 1)) counts) e)

pub size_long : (counts : List ℕ) (size : ℕ) → 272 < size → counts ≡ with_size counts size
unfolding with_size
size_long counts size h = sym (ap (λ t. cond t raised counts) (ap (λ t. nat_lt 0 size && t) (le_no size 272 h) ∙ and_none (nat_lt 0 size)))
  where
    raised : List ℕ
    raised = set counts (272 - size) (slice_index counts (272 - size) + 1)
