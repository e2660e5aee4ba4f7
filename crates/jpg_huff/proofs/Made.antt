-- The arrays of a table that is made from counts and symbols.
use Rattle.std.proofs.Common.{◌≡◌, ℕ, zero, suc, ◌+◌, ◌-◌, ◌*◌, ◌/◌, ◌%◌, ◌^◌, ◌<◌, ◌≤◌, Bool, true, false, List, [], ◌∷◌, ◌++◌, length, take, drop, get_or, set, replicate, refl, sym, ap, ◌∙◌, subst, arith, add-one, ⊎_elim, ◌&&◌, ◌==◌, cond}
use Rattle.std.specs.Prelude.{◌⊎◌, Option, None, Some}
use Rattle.std.specs.List.{sum}
use Rattle.std.proofs.lemmas.List.{drop_more, drop_all, drop-drop, length-take, length-drop, get_or-set_other, get_or-set_same}
use Rattle.std.proofs.lemmas.List.Sums.{sum_by_more, sum_by-take-drop}
use Rattle.jpg_spec.specs.Bits.{bits_of}
use Rattle.jpg_spec.specs.Codes.{Code, codes_at, codes_from, codes, are_codes, first_code}
use Rattle.jpg_huff.proofs.Tables.{level_take}
use Rattle.jpg_huff.specs.Index.{IsIndexed, limit_from, entry_code}
use Rattle.jpg_huff.specs.New.{first_number, AreFirsts, AreStarts, AreCodeLimits, AreEntries, or_else}
use Rattle.jpg_spec.proofs.Basics.Common.{and_false, lt_no, lt_yes}

pub first_more : (counts : List ℕ) (i : ℕ) → first_number counts (i + 1) ≡ 2 * (first_number counts i + get_or counts i 0)
unfolding first_number
first_more counts i = ap (λ n. first_number counts n) (add-one i)

pub first_none : (counts : List ℕ) → first_number counts 0 ≡ 0
unfolding first_number
first_none counts = refl

and_true : (a b : Bool) → a ≡ true → (a && b) ≡ b
and_true true b e = refl
and_true false b e = cc

-- one length of the test
pub are_more : (counts : List ℕ) (i f : ℕ) → i < length counts → f + get_or counts i 0 < 2 ^ (i + 1)
    → are_codes (i + 1) f (drop i counts) ≡ are_codes (i + 1 + 1) (2 * (f + get_or counts i 0)) (drop (i + 1) counts)
unfolding are_codes
are_more counts i f h fits = ap (λ ks. are_codes (i + 1) f ks) (drop_more counts i 0 h) ∙ and_true _ _ (lt_yes _ _ fits)

pub are_not : (counts : List ℕ) (i f : ℕ) → i < length counts → 2 ^ (i + 1) ≤ f + get_or counts i 0 → are_codes (i + 1) f (drop i counts) ≡ false
unfolding are_codes
are_not counts i f h over = ap (λ ks. are_codes (i + 1) f ks) (drop_more counts i 0 h) ∙ and_false _ _ (lt_no _ _ over)

pub are_all : (counts : List ℕ) (i f : ℕ) → length counts ≤ i → are_codes (i + 1) f (drop i counts) ≡ true
unfolding are_codes
are_all counts i f h = ap (λ ks. are_codes (i + 1) f ks) (drop_all i counts h)

same_or_before : (k i : ℕ) → k < i + 1 → (k ≡ i) ⊎ (k < i)
same_or_before k i h = grind arith

same_or_after : (k i : ℕ) → i ≤ k → (k ≡ i) ⊎ (i + 1 ≤ k)
same_or_after k i h = grind arith

pub set_same : (l : List ℕ) (i k a : ℕ) → i < length l → k ≡ i → get_or (set l i a) k 0 ≡ a
set_same l i k a h e = ap (λ n. get_or (set l i a) n 0) e ∙ get_or-set_same l i a 0 h

pub set_other : (l : List ℕ) (i k a : ℕ) → (k ≡ i → ⊥) → get_or (set l i a) k 0 ≡ get_or l k 0
set_other l i k a h = get_or-set_other l i k a 0 h

-- a list that is filled from its beginning
pub set_up : (l : List ℕ) (i a : ℕ) (F : ℕ → ℕ) → i < length l → a ≡ F i → ((k : ℕ) → k < i → get_or l k 0 ≡ F k) → (k : ℕ) → k < i + 1 → get_or (set l i a) k 0 ≡ F k
set_up l i a F h e before k lt =
    ⊎_elim
    (λ (s : k ≡ i). set_same l i k a h s ∙ e ∙ ap F (sym s))
    (λ (b : k < i). set_other l i k a (λ s. omega arith) ∙ before k b)
    (same_or_before k i lt)

-- and from its end
pub set_down : (l : List ℕ) (i a n : ℕ) (F : ℕ → ℕ) → i < length l → a ≡ F i → ((k : ℕ) → i + 1 ≤ k → k < n → get_or l k 0 ≡ F k) → (k : ℕ) → i ≤ k → k < n → get_or (set l i a) k 0 ≡ F k
set_down l i a n F h e behind k le lt =
    ⊎_elim
    (λ (s : k ≡ i). set_same l i k a h s ∙ e ∙ ap F (sym s))
    (λ (b : i + 1 ≤ k). set_other l i k a (λ s. omega arith) ∙ behind k b lt)
    (same_or_after k i le)

pub fits_up : (counts : List ℕ) (i : ℕ) → first_number counts i + get_or counts i 0 < 2 ^ (i + 1) → ((k : ℕ) → k < i → first_number counts k + get_or counts k 0 < 2 ^ (k + 1))
    → (k : ℕ) → k < i + 1 → first_number counts k + get_or counts k 0 < 2 ^ (k + 1)
fits_up counts i here before k lt =
    ⊎_elim
    (λ (s : k ≡ i). (let P : ℕ → Type 0 = λ n. first_number counts n + get_or counts n 0 < 2 ^ (n + 1) in subst P (sym s) here))
    (λ (b : k < i). before k b)
    (same_or_before k i lt)

-- the limit of a length from that of the next
pub limit_more : (counts : List ℕ) (i : ℕ) → i < length counts
    → limit_from (first_number counts i) (drop i counts) ≡ (limit_from (first_number counts (i + 1)) (drop (i + 1) counts) + 1) / 2
limit_more counts i h =
    ap (limit_from (first_number counts i)) (drop_more counts i 0 h)
    ∙ ap (λ c. (limit_from c (drop (i + 1) counts) + 1) / 2) (sym (first_more counts i))

pub limit_last : (counts : List ℕ) (i c : ℕ) → length counts ≤ i → limit_from c (drop i counts) ≡ c
limit_last counts i c h = ap (limit_from c) (drop_all i counts h)

-- what a table keeps for its walks
pub made_indexed : (counts firsts starts limits : List ℕ) → length counts ≡ 16 → sum counts ≤ 256 → AreFirsts counts firsts → AreStarts counts starts → AreCodeLimits counts firsts limits
    → IsIndexed counts 256 firsts starts limits
made_indexed counts firsts starts limits size most f s l =
    record {
      sixteen = size;
      size = omega arith;
      first = f.each 0 (omega arith) ∙ first_none counts;
      first_more = λ i h. f.each (i + 1) (omega arith) ∙ first_more counts i ∙ ap (λ c. 2 * (c + get_or counts i 0)) (sym (f.each i (omega arith)));
      start = s 0 (omega arith);
      start_more = λ i h. s (i + 1) (omega arith) ∙ sum_by_more (λ (x : ℕ). x) counts i 0 (omega arith) ∙ ap (λ c. c + get_or counts i 0) (sym (s i (omega arith)));
      limit = λ i h. l i h;
      fits = λ i h. omega (arith, f.each i h, f.fits i h);
      enough = λ i h. omega (arith, s i h, sum_by-take-drop (λ (x : ℕ). x) counts i);
    }

-- codes of a length, and then the longer ones
pub level_split : (counts symbols : List ℕ) (i : ℕ) → i < length counts
    → codes_from (i + 1) (first_number counts i) (drop i counts) (drop (sum (take i counts)) symbols)
    ≡ codes_at (get_or counts i 0) (i + 1) (first_number counts i) (drop (sum (take i counts)) symbols) ++ codes_from (i + 1 + 1) (first_number counts (i + 1)) (drop (i + 1) counts) (drop (sum (take (i + 1) counts)) symbols)
level_split counts symbols i h =
    let f = first_number counts i in
    let k = get_or counts i 0 in
    let s : sum (take (i + 1) counts) ≡ sum (take i counts) + k = sum_by_more (λ (x : ℕ). x) counts i 0 h in
    let d : drop k (drop (sum (take i counts)) symbols) ≡ drop (sum (take (i + 1) counts)) symbols = drop-drop k (sum (take i counts)) symbols ∙ ap (λ n. drop n symbols) (sym s) in
    ap (λ ks. codes_from (i + 1) f ks (drop (sum (take i counts)) symbols)) (drop_more counts i 0 h)
    ∙ ap (λ ss. codes_at k (i + 1) f (drop (sum (take i counts)) symbols) ++ codes_from (i + 1 + 1) (2 * (f + k)) (drop (i + 1) counts) ss) d
    ∙ ap (λ c. codes_at k (i + 1) f (drop (sum (take i counts)) symbols) ++ codes_from (i + 1 + 1) c (drop (i + 1) counts) (drop (sum (take (i + 1) counts)) symbols)) (sym (first_more counts i))

pub level_first : (counts symbols : List ℕ) → codes_from 1 (first_number counts 0) counts symbols ≡ codes counts symbols
unfolding codes
level_first counts symbols = ap (λ c. codes_from 1 c counts symbols) (first_none counts)

-- one code of a length
pub code_split : (symbols : List ℕ) (len c i : ℕ) → i < length symbols
    → codes_at (length symbols - i) len c (drop i symbols)
    ≡ (bits_of len c, get_or symbols i 0) ∷ codes_at (length symbols - (i + 1)) len (c + 1) (drop (i + 1) symbols)
code_split symbols len c i h =
    let n : length symbols - i ≡ suc (length symbols - (i + 1)) = omega arith in
    ap (λ k. codes_at k len c (drop i symbols)) n ∙ ap (λ ss. codes_at (suc (length symbols - (i + 1))) len c ss) (drop_more symbols i 0 h)

pub or_else_none : (a : Option (List Bool)) → or_else a None ≡ a
or_else_none None = refl
or_else_none (Some b) = refl

or_else_assoc : (a b c : Option (List Bool)) → or_else (or_else a b) c ≡ or_else a (or_else b c)
or_else_assoc None b c = refl
or_else_assoc (Some x) b c = refl

or_else_cond : (t : Bool) (a b c : Option (List Bool)) (bits : List Bool) → a ≡ Some bits → or_else (cond t a b) c ≡ cond t a (or_else b c)
or_else_cond true a b c bits e = ap (λ o. or_else o c) e ∙ sym e
or_else_cond false a b c bits e = refl

first_of_both : (xs ys : List Code) (symbol : ℕ) → first_code (xs ++ ys) symbol ≡ or_else (first_code xs symbol) (first_code ys symbol)
first_of_both [] ys symbol = refl
first_of_both (x ∷ xs) ys symbol =
    ap (λ o. cond (x.1 == symbol) (let found : Option (List Bool) = Some x.0 in found) o) (first_of_both xs ys symbol)
    ∙ sym (or_else_cond (x.1 == symbol) (Some x.0) (first_code xs symbol) (first_code ys symbol) x.0 refl)

-- a step that adds the first of the codes
pub leads_more : (old new : Option (List Bool)) (xs ys : List Code) (symbol : ℕ) → or_else new None ≡ or_else old (first_code xs symbol)
    → or_else new (first_code ys symbol) ≡ or_else old (first_code (xs ++ ys) symbol)
leads_more old new xs ys symbol e =
    ap (λ o. or_else o (first_code ys symbol)) (sym (or_else_none new) ∙ e)
    ∙ or_else_assoc old (first_code xs symbol) (first_code ys symbol)
    ∙ ap (or_else old) (sym (first_of_both xs ys symbol))

abbrev pub zeros : ℕ → List ℕ
zeros n = replicate n 0

zero_at : (n symbol : ℕ) → get_or (zeros n) symbol 0 ≡ 0
zero_at zero symbol = refl
zero_at (suc n) zero = refl
zero_at (suc n) (suc symbol) = zero_at n symbol

pub no_code : (n symbol : ℕ) → entry_code (get_or (zeros n) symbol 0) ≡ None
no_code n symbol = ap entry_code (zero_at n symbol)

pub no_entries : (n : ℕ) → AreEntries (zeros n)
no_entries n =
    let S : ℕ → Type 0 = λ e. e / 65536 ≤ 16 in
    let F : ℕ → Type 0 = λ e. e % 65536 < 2 ^ (e / 65536) in
    record {
      short = λ s h. subst S (sym (zero_at n s)) (omega arith);
      fits = λ s h. subst F (sym (zero_at n s)) (omega arith);
    }

-- A LENGTH of the codes, from the numbers that its level of the encoder is given
module _ (counts symbols : List ℕ) (i start k f : ℕ) where
  -- what a level of the encoder is given
  level_here : start ≡ sum (take i counts) → k ≡ get_or counts i 0 → f ≡ first_number counts i → start + k ≤ length symbols
      → codes_at (length (take k (drop start symbols))) (i + 1) f (take k (drop start symbols))
      ≡ codes_at (get_or counts i 0) (i + 1) (first_number counts i) (drop (sum (take i counts)) symbols)
  level_here es ek ef room =
      let n : length (take k (drop start symbols)) ≡ k = length-take k (drop start symbols) ∙ omega (arith, length-drop start symbols) in
      ap (λ m. codes_at m (i + 1) f (take k (drop start symbols))) n
      ∙ level_take k k (i + 1) f (drop start symbols) (omega arith)
      ∙ ap (λ m. codes_at m (i + 1) f (drop start symbols)) ek
      ∙ ap (λ m. codes_at (get_or counts i 0) (i + 1) m (drop start symbols)) ef
      ∙ ap (λ m. codes_at (get_or counts i 0) (i + 1) (first_number counts i) (drop m symbols)) es

  -- a length's codes are added
  pub level_added : (s : ℕ) (old new : Option (List Bool)) → i < length counts → start ≡ sum (take i counts) → k ≡ get_or counts i 0 → f ≡ first_number counts i
      → start + k ≤ length symbols
      → or_else new None ≡ or_else old (first_code (codes_at (length (take k (drop start symbols))) (i + 1) f (take k (drop start symbols))) s)
      → or_else new (first_code (codes_from (i + 1 + 1) (first_number counts (i + 1)) (drop (i + 1) counts) (drop (sum (take (i + 1) counts)) symbols)) s)
      ≡ or_else old (first_code (codes_from (i + 1) (first_number counts i) (drop i counts) (drop (sum (take i counts)) symbols)) s)
  level_added s old new h es ek ef room e =
      let level = codes_at (length (take k (drop start symbols))) (i + 1) f (take k (drop start symbols)) in
      let more = codes_from (i + 1 + 1) (first_number counts (i + 1)) (drop (i + 1) counts) (drop (sum (take (i + 1) counts)) symbols) in
      leads_more old new level more s e
      ∙ ap (λ l. or_else old (first_code (l ++ more) s)) (level_here es ek ef room)
      ∙ ap (λ l. or_else old (first_code l s)) (sym (level_split counts symbols i h))
