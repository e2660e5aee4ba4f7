-- Sizes of codes exchanged: the two least counts may have the two largest sizes, for no more bits.
use Rattle.std.proofs.Common.{◌≡◌, ℕ, zero, suc, ◌+◌, ◌-◌, ◌*◌, ◌^◌, ◌<◌, ◌≤◌, Bool, true, false, cond, List, [], ◌∷◌, length, refl, sym, ap, ◌∙◌, arith, ⊎_elim, Option, Some, None, ◌==◌, ◌⊎◌, inl, inr}
use Rattle.std.specs.Prelude.{◌||◌, nat_lt, slice_index, set, option_map}
use Rattle.std.proofs.lemmas.Bool.{cases_lt, cases_eq}
use Rattle.std.proofs.lemmas.Nat.{mul-le, pow-add, pow_pos}
use Rattle.std.proofs.lemmas.List.{length-set, get_or-set_same, get_or-set_other, set-get_or}
use Rattle.jpg_spec.proofs.Basics.Common.{not_lt_of, lt_of, same_of, not_same}
use Rattle.jpg_spec_fit.specs.Fitted.{lesser, least_below, least, with_next, least_two}
use Rattle.jpg_spec_fit.proofs.FittedCounts.{doubled}
use Rattle.jpg_spec_fit.proofs.FittedGroups.{AreTwo, joined_counts, positive}
use Rattle.jpg_spec_fit.specs.FewestBits.{bits_sent, strings_taken}

-- SUMS over counts and sizes

abbrev pub sum_of : (ℕ → ℕ → ℕ) → List ℕ → List ℕ → ℕ
sum_of f [] sizes = 0
sum_of f (count ∷ counts) [] = 0
sum_of f (count ∷ counts) (size ∷ sizes) = f count size + sum_of f counts sizes

sum_set : (f : ℕ → ℕ → ℕ) (counts sizes : List ℕ) (i c s : ℕ) → i < length counts → i < length sizes
    → sum_of f (set counts i c) (set sizes i s) + f (slice_index counts i) (slice_index sizes i) ≡ sum_of f counts sizes + f c s
sum_set f [] sizes i c s l m = (let never : ⊥ = omega (arith, l) in absurd never)
sum_set f (count ∷ counts) [] i c s l m = (let never : ⊥ = omega (arith, m) in absurd never)
sum_set f (count ∷ counts) (size ∷ sizes) zero c s l m = omega arith
sum_set f (count ∷ counts) (size ∷ sizes) (suc i) c s l m = (let rest = sum_set f counts sizes i c s (omega (arith, l)) (omega (arith, m)) in omega (arith, rest))

-- the sizes alone
sum_put : (f : ℕ → ℕ → ℕ) (counts sizes : List ℕ) (i s : ℕ) → i < length counts → i < length sizes
    → sum_of f counts (set sizes i s) + f (slice_index counts i) (slice_index sizes i) ≡ sum_of f counts sizes + f (slice_index counts i) s
sum_put f [] sizes i s l m = (let never : ⊥ = omega (arith, l) in absurd never)
sum_put f (count ∷ counts) [] i s l m = (let never : ⊥ = omega (arith, m) in absurd never)
sum_put f (count ∷ counts) (size ∷ sizes) zero s l m = omega arith
sum_put f (count ∷ counts) (size ∷ sizes) (suc i) s l m = (let rest = sum_put f counts sizes i s (omega (arith, l)) (omega (arith, m)) in omega (arith, rest))

pub cost : ℕ → ℕ → ℕ
cost count size = count * size

pub taken : ℕ → ℕ → ℕ → ℕ
taken most count size = cond (count == 0) 0 (2 ^ (most - size))

pub bits_are : (counts sizes : List ℕ) → bits_sent counts sizes ≡ sum_of cost counts sizes
unfolding cost
bits_are [] sizes = refl
bits_are (count ∷ counts) [] = refl
bits_are (count ∷ counts) (size ∷ sizes) = ap (λ n. count * size + n) (bits_are counts sizes)

pub strings_are : (most : ℕ) (counts sizes : List ℕ) → strings_taken most counts sizes ≡ sum_of (taken most) counts sizes
unfolding taken
strings_are most [] sizes = refl
strings_are most (count ∷ counts) [] = refl
strings_are most (count ∷ counts) (size ∷ sizes) = ap (λ n. cond (count == 0) 0 (2 ^ (most - size)) + n) (strings_are most counts sizes)

taken_some : (most count size : ℕ) → 0 < count → taken most count size ≡ 2 ^ (most - size)
unfolding taken
taken_some most count size p = ap (λ t. cond t 0 (2 ^ (most - size))) (not_same count 0 (λ e. omega (arith, e, p)))

taken_none : (most size : ℕ) → taken most 0 size ≡ 0
unfolding taken
taken_none most size = refl

-- THE LEAST COUNTS are least

abbrev IsLeast : List ℕ → ℕ → Option ℕ → Type 0
IsLeast counts n None = (v : ℕ) → v < n → slice_index counts v ≡ 0
IsLeast counts n (Some a) = (v : ℕ) → v < n → 0 < slice_index counts v → slice_index counts a ≤ slice_index counts v

least_next : (counts : List ℕ) (n : ℕ) (o : Option ℕ) → IsLeast counts n o → IsLeast counts (suc n) (lesser counts o n)
least_next counts n None h = by (slice_index counts n == 0) refl
  where
    by : (b : Bool) → (slice_index counts n == 0) ≡ b → IsLeast counts (suc n) (cond b None (Some n))
    by true e = λ v l. ⊎_elim (λ (k : v < n). h v k) (λ (k : n ≤ v). (let same : v ≡ n = omega (arith, l, k) in ap (slice_index counts) same ∙ same_of (slice_index counts n) 0 e)) (cases_lt v n)
    by false e = λ v l p. ⊎_elim (λ (k : v < n). (let z = h v k in let never : ⊥ = omega (arith, z, p) in absurd never)) (λ (k : n ≤ v). (let same : v ≡ n = omega (arith, l, k) in let s = ap (slice_index counts) same in omega (arith, s))) (cases_lt v n)
least_next counts n (Some a) h = by (slice_index counts n == 0) refl
  where
    later : (b : Bool) → nat_lt (slice_index counts a) (slice_index counts n) ≡ b → IsLeast counts (suc n) (cond b (Some a) (Some n))
    later true e = λ v l p. ⊎_elim (λ (k : v < n). h v k p) (λ (k : n ≤ v). (let same : v ≡ n = omega (arith, l, k) in let s = ap (slice_index counts) same in let r = lt_of (slice_index counts a) (slice_index counts n) e in omega (arith, s, r))) (cases_lt v n)
    later false e = λ v l p. ⊎_elim (λ (k : v < n). (let r = not_lt_of (slice_index counts a) (slice_index counts n) e in let b = h v k p in omega (arith, r, b)))
        (λ (k : n ≤ v). (let same : v ≡ n = omega (arith, l, k) in let s = ap (slice_index counts) same in omega (arith, s))) (cases_lt v n)

    by : (b : Bool) → (slice_index counts n == 0) ≡ b → IsLeast counts (suc n) (cond (b || nat_lt (slice_index counts a) (slice_index counts n)) (Some a) (Some n))
    by true e = λ v l p. ⊎_elim (λ (k : v < n). h v k p)
        (λ (k : n ≤ v). (let same : v ≡ n = omega (arith, l, k) in let s = ap (slice_index counts) same ∙ same_of (slice_index counts n) 0 e in let never : ⊥ = omega (arith, s, p) in absurd never)) (cases_lt v n)
    by false e = later (nat_lt (slice_index counts a) (slice_index counts n)) refl

least_of : (counts : List ℕ) (n : ℕ) → IsLeast counts n (least_below counts n)
least_of counts zero = λ v l. (let never : ⊥ = omega (arith, l) in absurd never)
least_of counts (suc n) = least_next counts n (least_below counts n) (least_of counts n)

least_is : (counts : List ℕ) → IsLeast counts (length counts) (least counts)
unfolding least
least_is counts = least_of counts (length counts)

-- the two least
abbrev pub AreLeastTwo : List ℕ → Option (ℕ × ℕ) → Type 0
AreLeastTwo counts None = Unit {0}
AreLeastTwo counts (Some two) =
    ((v : ℕ) → v < length counts → 0 < slice_index counts v → slice_index counts two.0 ≤ slice_index counts v)
    × ((v : ℕ) → v < length counts → 0 < slice_index (set counts two.0 0) v → slice_index (set counts two.0 0) two.1 ≤ slice_index (set counts two.0 0) v)

pub two_least : (counts : List ℕ) → AreLeastTwo counts (least_two counts)
unfolding least_two
two_least counts = by (least counts) (least_is counts)
  where
    next : (a : ℕ) → IsLeast counts (length counts) (Some a) → (o : Option ℕ) → IsLeast (set counts a 0) (length (set counts a 0)) o → AreLeastTwo counts (option_map (λ b. (a, b)) o)
    next a h None k = tt
    next a h (Some b) k = (h, λ v l p. k v (let e = length-set counts a 0 in omega (arith, e, l)) p)

    by : (o : Option ℕ) → IsLeast counts (length counts) o → AreLeastTwo counts (with_next counts o)
    by None h = tt
    by (Some a) h = next a h (least (set counts a 0)) (least_is (set counts a 0))

-- THE LARGEST SIZE of those with a count

record IsLargest (counts sizes : List ℕ) (n x : ℕ) : Type 0 where
  within : x < n
  some : 0 < slice_index counts x
  most : (v : ℕ) → v < n → 0 < slice_index counts v → slice_index sizes v ≤ slice_index sizes x

abbrev HasLargest : List ℕ → List ℕ → ℕ → Type 0
HasLargest counts sizes n = ((v : ℕ) → v < n → slice_index counts v ≡ 0) ⊎ ((x : ℕ) × IsLargest counts sizes n x)

largest : (counts sizes : List ℕ) (n : ℕ) → HasLargest counts sizes n
largest counts sizes zero = inl (λ v l. (let never : ⊥ = omega (arith, l) in absurd never))
largest counts sizes (suc n) = by (slice_index counts n == 0) refl (largest counts sizes n)
  where
    last : (v : ℕ) → v < suc n → n ≤ v → v ≡ n
    last v l k = omega (arith, l, k)

    by : (b : Bool) → (slice_index counts n == 0) ≡ b → HasLargest counts sizes n → HasLargest counts sizes (suc n)
    by true e (inl h) = inl (λ v l. ⊎_elim (λ (k : v < n). h v k) (λ (k : n ≤ v). ap (slice_index counts) (last v l k) ∙ same_of (slice_index counts n) 0 e) (cases_lt v n))
    by true e (inr x) = inr (
      x.0,
      record {
        within = (let w = x.1.within in omega (arith, w));
        some = x.1.some;
        most = λ v l p. ⊎_elim (λ (k : v < n). x.1.most v k p) (λ (k : n ≤ v). (let z = ap (slice_index counts) (last v l k) ∙ same_of (slice_index counts n) 0 e in let never : ⊥ = omega (arith, z, p) in absurd never)) (cases_lt v n);
      },
    )
    by false e (inl h) = inr (
      n,
      record {
        within = omega arith;
        some = positive (slice_index counts n) e;
        most = λ v l p. ⊎_elim (λ (k : v < n). (let z = h v k in let never : ⊥ = omega (arith, z, p) in absurd never)) (λ (k : n ≤ v). (let s = ap (slice_index sizes) (last v l k) in omega (arith, s))) (cases_lt v n);
      },
    )
    by false e (inr x) = ⊎_elim
        (λ (g : slice_index sizes x.0 < slice_index sizes n). inr (
          n,
          record {
            within = omega arith;
            some = positive (slice_index counts n) e;
            most = λ v l p. ⊎_elim (λ (k : v < n). (let m = x.1.most v k p in omega (arith, m, g))) (λ (k : n ≤ v). (let s = ap (slice_index sizes) (last v l k) in omega (arith, s))) (cases_lt v n);
          },
        ))
        (λ (g : slice_index sizes n ≤ slice_index sizes x.0). inr (
          x.0,
          record {
            within = (let w = x.1.within in omega (arith, w));
            some = x.1.some;
            most = λ v l p. ⊎_elim (λ (k : v < n). x.1.most v k p) (λ (k : n ≤ v). (let s = ap (slice_index sizes) (last v l k) in omega (arith, s, g))) (cases_lt v n);
          },
        ))
        (cases_lt (slice_index sizes x.0) (slice_index sizes n))

-- A SYMBOL OF THE LEAST COUNT GETS THE LARGEST SIZE

distribute : (a d s : ℕ) → (a + d) * s ≡ a * s + d * s
distribute a d s = grind arith

crossed : (a b s t : ℕ) → a ≤ b → s ≤ t → a * t + b * s ≤ a * s + b * t
crossed a b s t h k =
    let d = b - a in
    let e : b ≡ a + d = omega (arith, h) in
    let x : b * s ≡ a * s + d * s = ap (λ n. n * s) e ∙ distribute a d s in
    let y : b * t ≡ a * t + d * t = ap (λ n. n * t) e ∙ distribute a d t in
    let m : d * s ≤ d * t = mul-le d s d t (omega arith) k in
    omega (arith, x, y, m)

-- sizes that take as many strings and no more bits, where i has the largest one
record IsTop (most : ℕ) (counts sizes : List ℕ) (i : ℕ) (new : List ℕ) : Type 0 where
  long : length new ≡ length sizes
  same : sum_of (taken most) counts new ≡ sum_of (taken most) counts sizes
  less : sum_of cost counts new ≤ sum_of cost counts sizes
  top : (v : ℕ) → v < length counts → 0 < slice_index counts v → slice_index new v ≤ slice_index new i
  source : (x : ℕ) × (x < length counts) × (0 < slice_index counts x) × (slice_index new i ≡ slice_index sizes x)
  kept : (v : ℕ) → slice_index counts v ≡ 0 → slice_index new v ≡ slice_index sizes v

swapped : List ℕ → ℕ → ℕ → List ℕ
swapped sizes i x = set (set sizes i (slice_index sizes x)) x (slice_index sizes i)

top_of : (most : ℕ) (counts sizes : List ℕ) (i x : ℕ) → length sizes ≡ length counts → IsLargest counts sizes (length counts) x → (i < length counts) × (0 < slice_index counts i) × (slice_index counts i ≤ slice_index counts x) → (new : List ℕ) × IsTop most counts sizes i new
unfolding swapped cost
top_of most counts sizes i x long is small = ⊎_elim here there (cases_eq i x)
  where
    here : i ≡ x → (new : List ℕ) × IsTop most counts sizes i new
    here e = (
      sizes,
      record {
        long = refl;
        same = refl;
        less = omega arith;
        top = λ v k p. (let m = is.most v k p in let s = ap (slice_index sizes) e in omega (arith, m, s));
        source = (i, small.0, small.1, refl);
        kept = λ v z. refl;
      },
    )

    there : (i ≡ x → ⊥) → (new : List ℕ) × IsTop most counts sizes i new
    there e =
        let ti = slice_index sizes i in
        let tx = slice_index sizes x in
        let one = set sizes i tx in
        let w = is.within in
        let l = small.0 in
        let far = length-set sizes i tx in
        let at_x : slice_index one x ≡ tx = get_or-set_other sizes i x tx 0 (λ g. e (sym g)) in
        let at_i : slice_index (set one x ti) i ≡ tx = get_or-set_other one x i ti 0 e ∙ get_or-set_same sizes i tx 0 (omega (arith, long, l)) in
        let a = sum_put (taken most) counts sizes i tx l (omega (arith, long, l)) in
        let b = sum_put (taken most) counts one x ti w (omega (arith, long, far, w)) in
        let b_is = ap (taken most (slice_index counts x)) at_x in
        let t1 = taken_some most (slice_index counts i) ti small.1 in
        let t2 = taken_some most (slice_index counts i) tx small.1 in
        let t3 = taken_some most (slice_index counts x) ti is.some in
        let t4 = taken_some most (slice_index counts x) tx is.some in
        let c = sum_put cost counts sizes i tx l (omega (arith, long, l)) in
        let d = sum_put cost counts one x ti w (omega (arith, long, far, w)) in
        let d_is = ap (λ n. slice_index counts x * n) at_x in
        let k = crossed (slice_index counts i) (slice_index counts x) ti tx small.2 (is.most i small.0 small.1) in (
          set one x ti,
          record {
            long = length-set one x ti ∙ far;
            same = omega (arith, a, b, b_is, t1, t2, t3, t4);
            less = omega (arith, c, d, d_is, k);
            top = λ v h p. ⊎_elim
                (λ (g : v ≡ x). (let s = ap (slice_index (set one x ti)) g ∙ get_or-set_same one x ti 0 (omega (arith, long, far, w)) in let m = is.most i small.0 small.1 in omega (arith, s, at_i, m)))
                (λ (g : v ≡ x → ⊥). ⊎_elim
                (λ (f : v ≡ i). (let s = ap (slice_index (set one x ti)) f in omega (arith, s)))
                (λ (f : v ≡ i → ⊥). (let s = get_or-set_other one x v ti 0 g ∙ get_or-set_other sizes i v tx 0 f in let m = is.most v h p in omega (arith, s, at_i, m)))
                (cases_eq v i))
                (cases_eq v x);
            source = (x, w, is.some, at_i);
            kept = λ v z. get_or-set_other one x v ti 0 (λ g. (let s = ap (slice_index counts) g in let p = is.some in omega (arith, s, z, p)))
                ∙ get_or-set_other sizes i v tx 0 (λ g. (let s = ap (slice_index counts) g in let p = small.1 in omega (arith, s, z, p)));
          },
        )

top : (most : ℕ) (counts sizes : List ℕ) (i : ℕ) → length sizes ≡ length counts → i < length counts → 0 < slice_index counts i → ((v : ℕ) → v < length counts → 0 < slice_index counts v → slice_index counts i ≤ slice_index counts v) → (new : List ℕ) × IsTop most counts sizes i new
top most counts sizes i long l p least = by (largest counts sizes (length counts))
  where
    by : HasLargest counts sizes (length counts) → (new : List ℕ) × IsTop most counts sizes i new
    by (inl h) = (let z = h i l in let never : ⊥ = omega (arith, z, p) in absurd never)
    by (inr x) = top_of most counts sizes i x.0 long x.1 (l, p, least x.0 x.1.within x.1.some)

-- ALL STRINGS TAKEN are a multiple of those of the largest size

powers : (most s t : ℕ) → s ≤ t → t ≤ most → 2 ^ (most - s) ≡ 2 ^ (t - s) * 2 ^ (most - t)
powers most s t l m = (let e : most - s ≡ t - s + (most - t) = omega (arith, l, m) in ap (λ n. 2 ^ n) e ∙ pow-add 2 (t - s) (most - t))

multiple : (most t : ℕ) (counts sizes : List ℕ) → t ≤ most → length sizes ≡ length counts → ((v : ℕ) → v < length counts → 0 < slice_index counts v → slice_index sizes v ≤ t) → (q : ℕ) × (sum_of (taken most) counts sizes ≡ q * 2 ^ (most - t))
multiple most t [] sizes l e h = (0, omega arith)
multiple most t (count ∷ counts) [] l e h = (let never : ⊥ = omega (arith, e) in absurd never)
multiple most t (count ∷ counts) (size ∷ sizes) l e h = by (count == 0) refl (multiple most t counts sizes l (omega (arith, e)) (λ v k p. h (suc v) (omega (arith, k)) p))
  where
    by : (b : Bool) → (count == 0) ≡ b → (q : ℕ) × (sum_of (taken most) counts sizes ≡ q * 2 ^ (most - t)) → (q : ℕ) × (sum_of (taken most) (count ∷ counts) (size ∷ sizes) ≡ q * 2 ^ (most - t))
    by true z r = (let a = ap (λ n. taken most n size) (same_of count 0 z) ∙ taken_none most size in let x = r.1 in (r.0, omega (arith, a, x)))
    by false z r =
        let p = positive count z in
        let a = taken_some most count size p ∙ powers most size t (h 0 (omega arith) p) l in
        let x = r.1 in
        let d = distribute (2 ^ (t - size)) r.0 (2 ^ (most - t)) in
        (2 ^ (t - size) + r.0, together a x d)
      where
        together : {a b c d f : ℕ} → a ≡ c → b ≡ d → f ≡ c + d → a + b ≡ f
        together x y z = omega (arith, x, y, z)

-- one more of them fits where anything more does
one_fits : (q n u w : ℕ) → q * u + w ≤ n * u → 0 < w → q * u + u ≤ n * u
one_fits q n u w h p = ⊎_elim
    (λ (l : q < n). (let m : (q + 1) * u ≤ n * u = mul-le (q + 1) u n u (omega (arith, l)) (omega arith) in let d = distribute q 1 u in let o : 1 * u ≡ u = omega arith in omega (arith, m, d, o)))
    (λ (l : n ≤ q). (let m : n * u ≤ q * u = mul-le n u q u l (omega arith) in let never : ⊥ = omega (arith, m, h, p) in absurd never))
    (cases_lt q n)

-- GROUPS JOINED: sizes for the groups give sizes for the joined ones

pub record Fits (most : ℕ) (counts sizes : List ℕ) : Type 0 where
  pub long : length sizes ≡ length counts
  pub short : (v : ℕ) → v < length counts → slice_index sizes v ≤ most
  pub fit : sum_of (taken most) counts sizes ≤ 2 ^ most

-- without one of the symbols
without : (f : ℕ → ℕ → ℕ) (counts sizes : List ℕ) (a : ℕ) → a < length counts → a < length sizes → sum_of f (set counts a 0) sizes + f (slice_index counts a) (slice_index sizes a) ≡ sum_of f counts sizes + f 0 (slice_index sizes a)
without f counts sizes a l m = ap (λ s. sum_of f (set counts a 0) s + f (slice_index counts a) (slice_index sizes a)) (sym (set-get_or sizes a 0)) ∙ sum_set f counts sizes a 0 (slice_index sizes a) l m

-- the sizes of joined groups, from sizes where the first one has the largest, and the second one the largest of the others
pub record AreTops (most : ℕ) (counts sizes : List ℕ) (a b : ℕ) : Type 0 where
  pub fits : Fits most counts sizes
  pub second : (v : ℕ) → v < length counts → 0 < slice_index (set counts a 0) v → slice_index sizes v ≤ slice_index sizes b
  pub order : slice_index sizes b ≤ slice_index sizes a

-- strings without the first one, and its own
rest_taken : (most : ℕ) (counts sizes : List ℕ) (a : ℕ) → length sizes ≡ length counts → a < length counts → 0 < slice_index counts a → sum_of (taken most) (set counts a 0) sizes + 2 ^ (most - slice_index sizes a) ≡ sum_of (taken most) counts sizes
rest_taken most counts sizes a long l p =
    let w = without (taken most) counts sizes a l (omega (arith, long, l)) in
    let t = taken_some most (slice_index counts a) (slice_index sizes a) p in
    let z = taken_none most (slice_index sizes a) in
    omega (arith, w, t, z)

power_some : (n : ℕ) → 0 < 2 ^ n
power_some n = pow_pos n

-- the second one's strings fit twice
twice_fit : (most : ℕ) (counts sizes : List ℕ) (a b : ℕ) → AreTwo counts a b → AreTops most counts sizes a b → sum_of (taken most) (set counts a 0) sizes + 2 ^ (most - slice_index sizes b) ≤ 2 ^ most
twice_fit most counts sizes a b two is =
    let t = slice_index sizes b in
    let far = length-set counts a 0 in
    let long = is.fits.long in
    let short = is.fits.short b two.next in
    let m = multiple most t (set counts a 0) sizes short (omega (arith, long, far)) (λ v k p. is.second v (omega (arith, k, far)) p) in
    let none : most - 0 ≡ most = omega arith in
    let all = sym (ap (λ n. 2 ^ n) none) ∙ powers most 0 t (omega arith) short in
    let r = rest_taken most counts sizes a long two.first two.some_first in
    let f = is.fits.fit in
    let x = m.1 in
    let fits : m.0 * 2 ^ (most - t) + 2 ^ (most - slice_index sizes a) ≤ 2 ^ (t - 0) * 2 ^ (most - t) = omega (arith, x, r, all, f) in
    let done = one_fits m.0 (2 ^ (t - 0)) (2 ^ (most - t)) (2 ^ (most - slice_index sizes a)) fits (power_some (most - slice_index sizes a)) in
    omega (arith, x, all, done)

-- the second one has a bit
some_bit : (most : ℕ) (counts sizes : List ℕ) (a b : ℕ) → AreTwo counts a b → AreTops most counts sizes a b → 1 ≤ slice_index sizes b
some_bit most counts sizes a b two is = ⊎_elim (λ (h : 0 < slice_index sizes b). h)
    (λ (h : slice_index sizes b ≤ 0).
    (let far = length-set counts a 0 in
    let long = is.fits.long in
    let p : 0 < slice_index (set counts a 0) b = (let q = two.some_next in let s = get_or-set_other counts a b 0 0 (λ e. two.apart (sym e)) in omega (arith, q, s)) in
    let r = rest_taken most (set counts a 0) sizes b (omega (arith, long, far)) (let l = two.next in omega (arith, l, far)) p in
    let e : most - slice_index sizes b ≡ most = omega (arith, h) in
    let w = ap (λ n. 2 ^ n) e in
    let t = twice_fit most counts sizes a b two is in
    let some = power_some most in
    let never : ⊥ = omega (arith, r, w, t, some) in
    absurd never))
    (cases_lt 0 (slice_index sizes b))

pub joined_sizes : List ℕ → ℕ → ℕ → List ℕ
joined_sizes sizes a b = set sizes a (slice_index sizes b - 1)

-- a sum over joined groups
sum_joined : (f : ℕ → ℕ → ℕ) (counts sizes : List ℕ) (a b : ℕ) → AreTwo counts a b → length sizes ≡ length counts
    → sum_of f (joined_counts counts a b) (joined_sizes sizes a b) + f (slice_index counts a) (slice_index sizes a) + f (slice_index counts b) (slice_index sizes b)
    ≡ sum_of f counts sizes + f (slice_index counts a + slice_index counts b) (slice_index sizes b - 1) + f 0 (slice_index sizes b)
unfolding joined_sizes
sum_joined f counts sizes a b two long =
    let both = slice_index counts a + slice_index counts b in
    let less = slice_index sizes b - 1 in
    let l = two.first in
    let m = two.next in
    let far = length-set counts a both in
    let further = length-set sizes a less in
    let s = sum_set f counts sizes a both less l (omega (arith, l, long)) in
    let t = without f (set counts a both) (set sizes a less) b (omega (arith, m, far)) (omega (arith, m, further, long)) in
    let c = get_or-set_other counts a b both 0 (λ e. two.apart (sym e)) in
    let d = get_or-set_other sizes a b less 0 (λ e. two.apart (sym e)) in
    let x = ap (λ n. f n (slice_index (set sizes a less) b)) c ∙ ap (f (slice_index counts b)) d in
    let y = ap (f 0) d in
    omega (arith, s, t, x, y)

product : (a b s t : ℕ) → 1 ≤ s → s ≤ t → (a + b) * (s - 1) + a + b ≤ a * t + b * s
product a b s t l h =
    let e : s ≡ s - 1 + 1 = omega (arith, l) in
    let x : (a + b) * (s - 1) ≡ a * (s - 1) + b * (s - 1) = distribute a b (s - 1) in
    let y : a * s ≡ a * (s - 1) + a = ap (λ n. a * n) e ∙ one_more a (s - 1) in
    let z : b * s ≡ b * (s - 1) + b = ap (λ n. b * n) e ∙ one_more b (s - 1) in
    let m : a * s ≤ a * t = mul-le a s a t (omega arith) h in
    omega (arith, x, y, z, m)
  where
    one_more : (a n : ℕ) → a * (n + 1) ≡ a * n + a
    one_more a n = grind arith

pub joined_fit : (most : ℕ) (counts sizes : List ℕ) (a b : ℕ) → AreTwo counts a b → AreTops most counts sizes a b → Fits most (joined_counts counts a b) (joined_sizes sizes a b)
unfolding joined_sizes
joined_fit most counts sizes a b two is =
    let both = slice_index counts a + slice_index counts b in
    let t = slice_index sizes b in
    let far = length-set counts a both in
    let further = length-set (set counts a both) b 0 in
    let long = is.fits.long in
    let short = is.fits.short b two.next in
    let bit = some_bit most counts sizes a b two is in
    let p = two.some_first in
    let s = sum_joined (taken most) counts sizes a b two long in
    let ta = taken_some most (slice_index counts a) (slice_index sizes a) p in
    let tb = taken_some most (slice_index counts b) t two.some_next in
    let tc = taken_some most both (t - 1) (omega (arith, p)) in
    let tz = taken_none most t in
    let e : most - (t - 1) ≡ suc (most - t) = omega (arith, bit, short) in
    let d = ap (λ n. 2 ^ n) e ∙ doubled (most - t) in
    let r = rest_taken most counts sizes a long two.first p in
    let w = twice_fit most counts sizes a b two is in
    record {
      long = length-set sizes a (t - 1) ∙ long ∙ sym (further ∙ far);
      short = λ v k. ⊎_elim (λ (g : v ≡ a). (let x = ap (slice_index (set sizes a (t - 1))) g ∙ get_or-set_same sizes a (t - 1) 0 (let l = two.first in omega (arith, l, long)) in omega (arith, x, short)))
          (λ (g : v ≡ a → ⊥). (let x = get_or-set_other sizes a v (t - 1) 0 g in let y = is.fits.short v (omega (arith, k, far, further)) in omega (arith, x, y))) (cases_eq v a);
      fit = omega (arith, s, ta, tb, tc, tz, d, r, w);
    }

pub joined_cost : (most : ℕ) (counts sizes : List ℕ) (a b : ℕ) → AreTwo counts a b → AreTops most counts sizes a b
    → sum_of cost (joined_counts counts a b) (joined_sizes sizes a b) + slice_index counts a + slice_index counts b ≤ sum_of cost counts sizes
unfolding cost
joined_cost most counts sizes a b two is =
    let t = slice_index sizes b in
    let s = sum_joined cost counts sizes a b two is.fits.long in
    let p = product (slice_index counts a) (slice_index counts b) t (slice_index sizes a) (some_bit most counts sizes a b two is) is.order in
    let z : 0 * t ≡ 0 = omega arith in
    omega (arith, s, p, z)

-- SIZES WITH THE LARGEST for the two least counts

abbrev AreShort : ℕ → ℕ → List ℕ → Type 0
AreShort most n sizes = (v : ℕ) → v < n → slice_index sizes v ≤ most

top_short : (most : ℕ) (counts sizes new : List ℕ) (i : ℕ) → AreShort most (length counts) sizes → IsTop most counts sizes i new → AreShort most (length counts) new
top_short most counts sizes new i short is v l = by (slice_index counts v == 0) refl
  where
    by : (t : Bool) → (slice_index counts v == 0) ≡ t → slice_index new v ≤ most
    by true e = (let k = is.kept v (same_of (slice_index counts v) 0 e) in let s = short v l in omega (arith, k, s))
    by false e = (let t = is.top v l (positive (slice_index counts v) e) in let x = is.source in let s = short x.0 x.1 in let y = x.3 in omega (arith, t, s, y))

-- sizes of which that is so, for no more bits
pub record AreBetter (most : ℕ) (counts sizes : List ℕ) (a b : ℕ) (new : List ℕ) : Type 0 where
  pub tops : AreTops most counts new a b
  pub less : sum_of cost counts new ≤ sum_of cost counts sizes

pub better : (most : ℕ) (counts sizes : List ℕ) (a b : ℕ) → AreTwo counts a b → AreLeastTwo counts (Some (a, b)) → Fits most counts sizes → (new : List ℕ) × AreBetter most counts sizes a b new
unfolding cost
better most counts sizes a b two least is = by (top most counts sizes a is.long two.first two.some_first least.0)
  where
    masked : List ℕ
    masked = set counts a 0

    far : length masked ≡ length counts
    far = length-set counts a 0

    some_b : 0 < slice_index masked b
    some_b = (let q = two.some_next in let s = get_or-set_other counts a b 0 0 (λ e. two.apart (sym e)) in omega (arith, q, s))

    none_a : slice_index masked a ≡ 0
    none_a = get_or-set_same counts a 0 0 two.first

    both : (s1 : List ℕ) → IsTop most counts sizes a s1 → (new : List ℕ) × IsTop most masked s1 b new → (new : List ℕ) × AreBetter most counts sizes a b new
    both s1 h k =
        let s2 = k.0 in
        let g = k.1 in
        let l1 = h.long in
        let l2 = g.long in
        let l = two.first in
        let long = is.long in
        let at_a = g.kept a none_a in
        let r1 = rest_taken most counts s1 a (l1 ∙ long) l two.some_first in
        let r2 = rest_taken most counts s2 a (l2 ∙ l1 ∙ long) l two.some_first in
        let w = ap (λ n. 2 ^ (most - n)) at_a in
        let same = g.same in
        let first = h.same in
        let fit = is.fit in
        let c1 = without cost counts s1 a l (omega (arith, l, l1, long)) in
        let c2 = without cost counts s2 a l (omega (arith, l, l1, l2, long)) in
        let z1 : 0 * slice_index s1 a ≡ 0 = omega arith in
        let z2 : 0 * slice_index s2 a ≡ 0 = omega arith in
        let ca = ap (λ n. slice_index counts a * n) at_a in
        let g_less = g.less in
        let h_less = h.less in
        let x = g.source in
        let x_l = x.1 in
        let x_some = x.2 in
        let x_is = x.3 in
        let not_a : x.0 ≡ a → ⊥ = λ e. (let q = ap (slice_index masked) e in omega (arith, q, x_some, none_a)) in
        let x_count = get_or-set_other counts a x.0 0 0 not_a in
        let order = h.top x.0 (omega (arith, x_l, far)) (omega (arith, x_some, x_count)) in (
          s2,
          record {
            tops = record {
              fits = record {
                long = l2 ∙ l1 ∙ long;
                short = λ v p. top_short most masked s1 s2 b (λ u q. top_short most counts sizes s1 a is.short h u (omega (arith, q, far))) g v (omega (arith, p, far));
                fit = omega (arith, r1, r2, w, same, first, fit);
              };
              second = λ v p q. g.top v (omega (arith, p, far)) q;
              order = omega (arith, order, x_is, at_a);
            };
            less = omega (arith, c1, c2, z1, z2, ca, g_less, h_less);
          },
        )

    by : (new : List ℕ) × IsTop most counts sizes a new → (new : List ℕ) × AreBetter most counts sizes a b new
    by s1 = both s1.0 s1.1 (top most masked s1.0 b (let l1 = s1.1.long in let long = is.long in omega (arith, l1, long, far)) (let l = two.next in omega (arith, l, far)) some_b (λ v p q. least.1 v (omega (arith, p, far)) q))
