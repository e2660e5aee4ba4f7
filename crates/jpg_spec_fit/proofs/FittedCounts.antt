-- Adjusted sizes: the codes still fill all strings of the longest size, and their number stays.
use Rattle.std.proofs.Common.{◌≡◌, ℕ, zero, suc, ◌+◌, ◌*◌, ◌^◌, ◌<◌, ◌≤◌, true, List, [], ◌∷◌, ◌++◌, length, refl, sym, ap, ◌∙◌, subst, arith, ⊎_elim, lit<}
use Rattle.std.specs.Prelude.{sum, reverse, All, nat_lt}
use Rattle.std.proofs.Math.Nat.{pow-le-pow_right}
use Rattle.std.proofs.lemmas.Grind.{pow_more}
use Rattle.std.proofs.lemmas.Bool.{cases_lt}
use Rattle.std.proofs.lemmas.List.{length-reverse, reverse-append}
use Rattle.std.proofs.lemmas.List.Sums.{sum_by-cons, sum_by_push}
use Rattle.std.proofs.lemmas.List.Elements.{All-nil, All-cons, All-push, All-head, All-tail}
use Rattle.jpg_spec.specs.Codes.{are_codes}
use Rattle.jpg_spec.proofs.Basics.Common.{lt_yes, and_intro, both}
use Rattle.jpg_spec_fit.specs.Fitted.{code_split, longest_moved, limited, one_less}

-- how many strings of the longest size begin with a code, by how many codes there are of each size, the longest first
abbrev pub strings : List ℕ → ℕ
strings [] = 0
strings (n ∷ shorter) = n + 2 * strings shorter

pub total_cons : (n : ℕ) (ns : List ℕ) → sum (n ∷ ns) ≡ n + sum ns
total_cons n ns = sum_by-cons (λ x. x) n ns

pub doubled : (k : ℕ) → 2 ^ suc k ≡ 2 * 2 ^ k
doubled k = let e : k + 1 ≡ suc k = omega arith in let p = pow_more 2 k in subst (λ m. 2 ^ m ≡ 2 * 2 ^ k) e (omega (arith, p))

-- A CODE SPLIT

split_strings : (m : ℕ) (shorter : List ℕ) → strings (code_split m shorter) ≡ m + 2 * strings shorter
split_strings m [] = refl
split_strings m (zero ∷ shorter) = let h = split_strings 0 shorter in omega (arith, h)
split_strings m (suc n ∷ shorter) = omega arith

split_length : (m : ℕ) (shorter : List ℕ) → length (code_split m shorter) ≡ suc (length shorter)
split_length m [] = refl
split_length m (zero ∷ shorter) = ap suc (split_length 0 shorter)
split_length m (suc n ∷ shorter) = refl

split_sum : (m : ℕ) (shorter : List ℕ) → 0 < strings shorter → sum (code_split m shorter) ≡ m + sum shorter + 1
split_sum m [] h = omega (arith, h)
split_sum m (zero ∷ shorter) h = let e = split_sum 0 shorter (omega (arith, h)) in omega (arith, e, total_cons m (code_split 0 shorter), total_cons 0 shorter)
split_sum m (suc n ∷ shorter) h = omega (arith, total_cons (m + 2) (n ∷ shorter), total_cons n shorter, total_cons (suc n) shorter)

-- THE CODES OF A SIZE MOVED

-- the codes fill all strings of the longest size k, and they are so many
pub record AreFull (k total : ℕ) (counts : List ℕ) : Type 0 where
  pub sizes : length counts ≡ k
  pub full : strings counts ≡ 2 ^ k
  pub all : sum counts ≡ total

big_power : (k : ℕ) → 16 ≤ k → 65536 ≤ 2 ^ k
big_power k h = (let p : 2 ^ 16 ≤ 2 ^ k = pow-le-pow_right (lit< tt) h in p)

moved_full : (n : ℕ) (shorter : List ℕ) (k total : ℕ) → AreFull (suc k) total (n ∷ shorter) → total ≤ 257 → 16 ≤ k → AreFull k total (longest_moved n shorter)
moved_full zero shorter k total is few big =
    let l = is.sizes in
    let w = is.full in
    let s = is.all in
    record { sizes = omega (arith, l); full = omega (arith, w, doubled k); all = omega (arith, s, total_cons 0 shorter) }
moved_full (suc zero) shorter k total is few big = let w = is.full in let never : ⊥ = omega (arith, w, doubled k) in absurd never
moved_full (suc (suc n)) [] k total is few big = let w = is.full in let s = is.all in let never : ⊥ = omega (arith, w, doubled k, s, few, total_cons (suc (suc n)) [], big_power k big) in absurd never
moved_full (suc (suc n)) (m ∷ shorter) k total is few big =
    let l = is.sizes in
    let w = is.full in
    let s = is.all in
    let t = total_cons m shorter in
    let all = total_cons (suc (suc n)) (m ∷ shorter) in
    let some : 0 < strings shorter = ⊎_elim (λ (h : 0 < strings shorter). h) (λ (h : strings shorter ≤ 0). (let never : ⊥ = omega (arith, w, doubled k, s, few, big_power k big, t, all, h) in absurd never)) (cases_lt 0 (strings shorter)) in
    let split = code_split (m + 1) shorter in
    let rest : AreFull (suc k) total (n ∷ split) =
    record {
      sizes = (let d = split_length (m + 1) shorter in omega (arith, d, l));
      full = (let d = split_strings (m + 1) shorter in omega (arith, d, w));
      all = (let d = split_sum (m + 1) shorter some in omega (arith, d, t, all, s, total_cons n split));
    } in
    moved_full n split k total rest few big

pub limited_full : (more : ℕ) (counts : List ℕ) (total : ℕ) → AreFull (more + 16) total counts → total ≤ 257 → AreFull 16 total (limited more counts)
limited_full zero counts total is few = record { sizes = (let e : 0 + 16 ≡ 16 = omega arith in is.sizes ∙ e); full = (let e : 0 + 16 ≡ 16 = omega arith in is.full ∙ ap (λ m. 2 ^ m) e); all = is.all }
limited_full (suc more) [] total is few = let l = is.sizes in let never : ⊥ = omega (arith, l) in absurd never
limited_full (suc more) (n ∷ shorter) total is few =
    let e : suc more + 16 ≡ suc (more + 16) = omega arith in
    let all : AreFull (suc (more + 16)) total (n ∷ shorter) = record { sizes = is.sizes ∙ e; full = is.full ∙ ap (λ m. 2 ^ m) e; all = is.all } in
    limited_full more (longest_moved n shorter) total (moved_full n shorter (more + 16) total all few (omega arith)) few

-- ONE CODE LESS

pub all_small : (m : ℕ) (ns : List ℕ) → sum ns < m → All (λ n. n < m) ns
all_small m [] h = All-nil (λ n. n < m)
all_small m (n ∷ ns) h = let t = total_cons n ns in All-cons (λ n. n < m) n ns (omega (arith, t, h)) (all_small m ns (omega (arith, t, h)))

pub record AreLess (k total : ℕ) (counts : List ℕ) : Type 0 where
  pub sizes : length counts ≡ k
  pub room : strings counts < 2 ^ k
  pub all : sum counts + 1 ≡ total
  pub bytes : All (λ n. n < 256) counts

pub one_less_full : (counts : List ℕ) (k total : ℕ) → AreFull k total counts → total ≤ 257 → AreLess k total (one_less counts)
one_less_full [] k total is few = let e = is.full ∙ ap (λ m. 2 ^ m) (sym is.sizes) in let never : ⊥ = omega (arith, e) in absurd never
one_less_full (zero ∷ shorter) zero total is few = let l = is.sizes in let never : ⊥ = omega (arith, l) in absurd never
one_less_full (zero ∷ shorter) (suc k) total is few =
    let l = is.sizes in
    let w = is.full ∙ doubled k in
    let t = total_cons 0 shorter in
    let s = is.all in
    let rest = one_less_full shorter k total (record { sizes = omega (arith, l); full = omega (arith, w); all = omega (arith, t, s) }) few in
    record {
      sizes = ap suc rest.sizes;
      room = (let r = rest.room in omega (arith, r, doubled k));
      all = (let r = rest.all in omega (arith, r, total_cons 0 (one_less shorter)));
      bytes = All-cons (λ n. n < 256) 0 (one_less shorter) (omega arith) rest.bytes;
    }
one_less_full (suc n ∷ shorter) zero total is few = let l = is.sizes in let never : ⊥ = omega (arith, l) in absurd never
one_less_full (suc n ∷ shorter) (suc k) total is few =
    let w = is.full in
    let d = doubled k in
    let t = total_cons (suc n) shorter in
    let s = is.all in
    record {
      sizes = is.sizes;
      room = omega (arith, w);
      all = omega (arith, t, s, total_cons n shorter);
      bytes = All-cons (λ n. n < 256) n shorter (omega (arith, w, d, t, s, few)) (all_small 256 shorter (omega (arith, w, d, t, s, few)));
    }

-- CODES OF THESE COUNTS, the shortest first

end_of : ℕ → List ℕ → ℕ
end_of c [] = c
end_of c (n ∷ ns) = end_of (2 * (c + n)) ns

end_push : (c : ℕ) (ns : List ℕ) (n : ℕ) → end_of c (ns ++ n ∷ []) ≡ 2 * (end_of c ns + n)
unfolding end_of
end_push c [] n = refl
end_push c (m ∷ ns) n = end_push (2 * (c + m)) ns n

codes_push : (len c : ℕ) (ns : List ℕ) (n : ℕ) → are_codes len c ns ≡ true → end_of c ns + n < 2 ^ (len + length ns) → are_codes len c (ns ++ n ∷ []) ≡ true
unfolding end_of are_codes
codes_push len c [] n h k = let e : len + 0 ≡ len = omega arith in and_intro (nat_lt (c + n) (2 ^ len)) true (lt_yes (c + n) (2 ^ len) (subst (λ m. c + n < 2 ^ m) e k)) refl
codes_push len c (m ∷ ns) n h k =
    let e : len + suc (length ns) ≡ len + 1 + length ns = omega arith in
    let p = both (nat_lt (c + m) (2 ^ len)) (are_codes (len + 1) (2 * (c + m)) ns) h in
    and_intro (nat_lt (c + m) (2 ^ len)) (are_codes (len + 1) (2 * (c + m)) (ns ++ n ∷ [])) p.0 (codes_push (len + 1) (2 * (c + m)) ns n p.1 (subst (λ x. end_of (2 * (c + m)) ns + n < 2 ^ x) e k))

-- a list reversed, by its first item
turned : (n : ℕ) (counts : List ℕ) → reverse (n ∷ counts) ≡ reverse counts ++ n ∷ []
turned n counts = reverse-append (n ∷ []) counts

end_reversed : (counts : List ℕ) → end_of 0 (reverse counts) ≡ 2 * strings counts
unfolding end_of
end_reversed [] = refl
end_reversed (n ∷ counts) = ap (end_of 0) (turned n counts) ∙ end_push 0 (reverse counts) n ∙ (let h = end_reversed counts in omega (arith, h))

pub reversed_codes : (counts : List ℕ) (k : ℕ) → length counts ≡ k → strings counts < 2 ^ k → are_codes 1 0 (reverse counts) ≡ true
unfolding are_codes
reversed_codes [] k l w = refl
reversed_codes (n ∷ counts) zero l w = let never : ⊥ = omega (arith, l) in absurd never
reversed_codes (n ∷ counts) (suc k) l w =
    let d = doubled k in
    let long = length-reverse counts in
    let same : 1 + length (reverse counts) ≡ suc k = omega (arith, l, long) in
    let h = end_reversed counts in
    subst (λ l. are_codes 1 0 l ≡ true) (sym (turned n counts))
    (codes_push 1 0 (reverse counts) n (reversed_codes counts k (omega (arith, l)) (omega (arith, w, d))) (subst (λ m. end_of 0 (reverse counts) + n < 2 ^ m) (sym same) (omega (arith, w, h))))

pub reversed_sum : (counts : List ℕ) → sum (reverse counts) ≡ sum counts
reversed_sum [] = refl
reversed_sum (n ∷ counts) = ap sum (turned n counts) ∙ (let h = reversed_sum counts in omega (arith, sum_by_push (λ x. x) (reverse counts) n, h, total_cons n counts))

pub reversed_all : (P : ℕ → Type 0) (counts : List ℕ) → All P counts → All P (reverse counts)
reversed_all P [] h = All-nil P
reversed_all P (n ∷ counts) h = subst (All P) (sym (turned n counts)) (All-push P (reverse counts) n (reversed_all P counts (All-tail P n counts h)) (All-head P n counts h))

-- NO CODES

pub no_strings : (counts : List ℕ) → sum counts ≡ 0 → strings counts ≡ 0
no_strings [] h = refl
no_strings (n ∷ counts) h = (let t = total_cons n counts in let r = no_strings counts (omega (arith, t, h)) in omega (arith, t, h, r))

-- no codes of any of k sizes
pub record AreNone (k : ℕ) (counts : List ℕ) : Type 0 where
  pub sizes : length counts ≡ k
  pub none : sum counts ≡ 0

pub limited_none : (more : ℕ) (counts : List ℕ) → AreNone (more + 16) counts → AreNone 16 (limited more counts)
limited_none zero counts is = record { sizes = (let e : 0 + 16 ≡ 16 = omega arith in is.sizes ∙ e); none = is.none }
limited_none (suc more) [] is = let l = is.sizes in let never : ⊥ = omega (arith, l) in absurd never
limited_none (suc more) (zero ∷ shorter) is = let l = is.sizes in let s = is.none in limited_none more shorter (record { sizes = omega (arith, l); none = omega (arith, total_cons 0 shorter, s) })
limited_none (suc more) (suc n ∷ shorter) is = let s = is.none in let never : ⊥ = omega (arith, total_cons (suc n) shorter, s) in absurd never

pub one_less_none : (counts : List ℕ) (k : ℕ) → AreNone k counts → AreNone k (one_less counts)
one_less_none [] k is = is
one_less_none (zero ∷ shorter) k is =
    let l = is.sizes in
    let s = is.none in
    let rest = one_less_none shorter (length shorter) (record { sizes = refl; none = omega (arith, total_cons 0 shorter, s) }) in
    let r = rest.none in
    record { sizes = ap suc rest.sizes ∙ l; none = omega (arith, r, total_cons 0 (one_less shorter)) }
one_less_none (suc n ∷ shorter) k is = let s = is.none in let never : ⊥ = omega (arith, total_cons (suc n) shorter, s) in absurd never
