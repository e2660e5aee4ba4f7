-- One step of a walk: from the arrays of a table to its codes.
use Rattle.std.proofs.Common.{◌≡◌, ℕ, zero, suc, ◌+◌, ◌-◌, ◌*◌, ◌/◌, ◌%◌, ◌^◌, ◌<◌, ◌≤◌, Bool, true, false, List, [], ◌∷◌, ◌++◌, length, drop, get_or, refl, sym, ap, ◌∙◌, subst, arith, add-one, inl, inr, ⊎_elim, ◌==◌}
use Rattle.std.specs.Prelude.{◌⊎◌}
use Rattle.std.specs.List.{Contains, sum}
use Rattle.std.proofs.lemmas.List.{append_assoc, length-append, length-drop, drop-drop, drop_more, drop_all, get_or-drop}
use Rattle.std.proofs.lemmas.List.Elements.{Contains-append_left, Contains-append_right, Contains-append_cases}
use Rattle.std.proofs.lemmas.List.Sums.{sum_by-cons}
use Rattle.std.proofs.Math.Nat.{pow-succ'}
use mir.Val.{bool_byte}
use Rattle.jpg_spec.specs.Bits.{bits_of}
use Rattle.jpg_spec.specs.Codes.{Code, codes, codes_at, codes_from, AreCodes}
use Rattle.jpg_spec.specs.Parts.{BeginsCode}
use Rattle.jpg_huff.specs.Index.{limit_from, IsIndexed}
use Rattle.jpg_huff.specs.Walk.{BeginsNoCode}
use Rattle.jpg_spec.proofs.Basics.Strings.{bit_value, length-bits_of, bits_of-more, bits_of-split, bits_of_inj}
use Rattle.jpg_spec.proofs.Bits.Levels.{in_level, from_level, front_not_below}
use Rattle.jpg_spec.proofs.Basics.Common.{append_inj}
use Rattle.jpg_huff.proofs.Levels.{reach, below_limit, bit_small}

-- the codes longer than i bits
abbrev pub longer : List ℕ → List ℕ → List ℕ → List ℕ → ℕ → List Code
longer counts symbols firsts starts i = codes_from (i + 1) (get_or firsts i 0) (drop i counts) (drop (get_or starts i 0) symbols)

-- the longer codes fit their lengths
pub are_codes : (counts symbols firsts starts limits : List ℕ) (d i : ℕ) → IsIndexed counts (length symbols) firsts starts limits → d + i ≡ 15 → AreCodes (i + 1) (get_or firsts i 0) (drop i counts)
are_codes counts symbols firsts starts limits zero i x e =
    let P : List ℕ → Type 0 = λ ks. AreCodes (i + 1) (get_or firsts i 0) ks in
    let s : drop i counts ≡ get_or counts i 0 ∷ drop (i + 1) counts = drop_more counts i 0 (omega (arith, x.sixteen)) in
    let Q : List ℕ → Type 0 = λ ks. AreCodes (i + 1 + 1) (2 * (get_or firsts i 0 + get_or counts i 0)) ks in
    subst P (sym s) (x.fits i (omega arith), subst Q (sym (drop_all (i + 1) counts (omega (arith, x.sixteen)))) tt)
are_codes counts symbols firsts starts limits (suc d) i x e =
    let P : List ℕ → Type 0 = λ ks. AreCodes (i + 1) (get_or firsts i 0) ks in
    let s : drop i counts ≡ get_or counts i 0 ∷ drop (i + 1) counts = drop_more counts i 0 (omega (arith, x.sixteen)) in
    let R : ℕ → Type 0 = λ c. AreCodes (i + 1 + 1) c (drop (i + 1) counts) in
    subst P (sym s) (x.fits i (omega arith), subst R (x.first_more i (omega arith)) (are_codes counts symbols firsts starts limits d (i + 1) x (omega arith)))

-- the bits with one more
next_bits : (i n v : ℕ) (old : List Bool) (bit : Bool) → bits_of i n ≡ old → v ≡ bit_value bit → bits_of (i + 1) (2 * n + v) ≡ old ++ bit ∷ []
next_bits i n v old bit view e = ap (λ b. bits_of (i + 1) (2 * n + b)) e ∙ bits_of-more i n bit ∙ ap (λ s. s ++ bit ∷ []) view

-- THE CODES of a table whose symbols are these and which has this index
module _ (symbols : List ℕ) {counts firsts starts limits : List ℕ} (x : IsIndexed counts (length symbols) firsts starts limits) where
  -- Those of one more bit, and then the longer ones.
  pub level_split : (i : ℕ) → i < 15
      → longer counts symbols firsts starts i
      ≡ codes_at (get_or counts i 0) (i + 1) (get_or firsts i 0) (drop (get_or starts i 0) symbols) ++ longer counts symbols firsts starts (i + 1)
  level_split i h =
      let d : drop i counts ≡ get_or counts i 0 ∷ drop (i + 1) counts = drop_more counts i 0 (omega (arith, x.sixteen)) in
      let f : get_or firsts (i + 1) 0 ≡ 2 * (get_or firsts i 0 + get_or counts i 0) = x.first_more i h in
      let s : get_or starts (i + 1) 0 ≡ get_or starts i 0 + get_or counts i 0 = x.start_more i h in
      let dd : drop (get_or counts i 0) (drop (get_or starts i 0) symbols) ≡ drop (get_or starts (i + 1) 0) symbols = drop-drop (get_or counts i 0) (get_or starts i 0) symbols ∙ ap (λ n. drop n symbols) (sym s) in
      ap (λ ks. codes_from (i + 1) (get_or firsts i 0) ks (drop (get_or starts i 0) symbols)) d
      ∙ ap (λ ss. codes_at (get_or counts i 0) (i + 1) (get_or firsts i 0) (drop (get_or starts i 0) symbols) ++ codes_from (i + 1 + 1) (2 * (get_or firsts i 0 + get_or counts i 0)) (drop (i + 1) counts) ss) dd
      ∙ ap (λ c. codes_at (get_or counts i 0) (i + 1) (get_or firsts i 0) (drop (get_or starts i 0) symbols) ++ codes_from (i + 1 + 1) c (drop (i + 1) counts) (drop (get_or starts (i + 1) 0) symbols)) (sym f)

  pub whole_is : longer counts symbols firsts starts 0 ≡ codes counts symbols
  unfolding codes
  whole_is =
      ap (λ c. codes_from 1 c counts (drop (get_or starts 0 0) symbols)) x.first ∙ ap (λ n. codes_from 1 0 counts (drop n symbols)) x.start

  -- a longer code is a code
  pub from_longer : (i : ℕ) (code : Code) → i < 16
      → Contains (longer counts symbols firsts starts i) code → Contains (codes counts symbols) code
  from_longer zero code h c = let P : List Code → Type 0 = λ l. Contains l code in subst P whole_is c
  from_longer (suc i) code h c =
      from_longer i code (omega arith)
      (let P : List Code → Type 0 = λ l. Contains l code in
      let e : i + 1 ≡ suc i = omega arith in
      let c' : Contains (longer counts symbols firsts starts (i + 1)) code = rw e c in
      subst P (sym (level_split i (omega arith)))
      (Contains-append_right _ _ code c'))

  -- a code of more than i bits is one of the longer ones
  pub in_longer : (i : ℕ) (code : Code) → i < 16
      → i < length code.0 → Contains (codes counts symbols) code → Contains (longer counts symbols firsts starts i) code
  in_longer zero code h l c = let P : List Code → Type 0 = λ l. Contains l code in subst P (sym whole_is) c
  in_longer (suc i) code h l c =
      let P : List Code → Type 0 = λ l. Contains l code in
      let e : i + 1 ≡ suc i = omega arith in
      ⊎_elim
      (λ a. let r = from_level (get_or counts i 0) (i + 1) (get_or firsts i 0) (drop (get_or starts i 0) symbols) code a in
      absurd (omega (arith, ap length r.2, length-bits_of (i + 1) (get_or firsts i 0 + r.0))))
      (λ b. rw e at b)
      (Contains-append_cases _ _ code
      (subst P (level_split i (omega arith)) (in_longer i code (omega arith) (omega arith) c)))

  -- the bits so far are no number below the codes that are left
  pub not_before : (i n : ℕ) → i < 16 → n < 2 ^ i
      → (i ≡ 0) ⊎ BeginsCode (codes counts symbols) (bits_of i n) → get_or firsts i 0 ≤ 2 * n
  not_before zero n h fits b = omega (arith, x.first)
  not_before (suc i) n h fits (inl z) = absurd (omega arith)
  not_before (suc i) n h fits (inr b) =
      let code = b.0 in
      let l = ap length b.4 ∙ length-append (bits_of (suc i) n) (b.1 ∷ b.2) in
      let inside = in_longer (suc i) code h (omega (arith, length-bits_of (suc i) n)) b.3 in
      let f = front_not_below (drop (suc i) counts) (suc i + 1) (get_or firsts (suc i) 0) (drop (get_or starts (suc i) 0) symbols) code
      (are_codes counts symbols firsts starts limits (14 - i) (suc i) x (omega arith)) inside in
      let p : 2 ^ (suc i + 1) ≡ 2 * 2 ^ suc i = ap (λ m. 2 ^ m) (add-one (suc i)) ∙ pow-succ' 2 (suc i) in
      let e : bits_of (suc i) (f.0 / 2) ++ ((f.0 % 2 == 1) ∷ f.1) ≡ bits_of (suc i) n ++ b.1 ∷ b.2 =
      sym (append_assoc (bits_of (suc i) (f.0 / 2)) ((f.0 % 2 == 1) ∷ []) f.1) ∙ ap (λ s. s ++ f.1) (sym (bits_of-split (suc i) f.0)) ∙ sym f.4 ∙ b.4 in
      let same = append_inj (bits_of (suc i) (f.0 / 2)) (bits_of (suc i) n) _ _ (length-bits_of (suc i) (f.0 / 2) ∙ sym (length-bits_of (suc i) n)) e in
      let q = bits_of_inj (suc i) (f.0 / 2) n (omega arith) fits same.0 in
      let even : get_or firsts (suc i) 0 ≡ 2 * (get_or firsts i 0 + get_or counts i 0) = ap (λ m. get_or firsts m 0) (sym (add-one i)) ∙ x.first_more i (omega arith) in
      omega arith

  -- a number of this length is a code
  pub is_code : (i n : ℕ) → i < 16
      → get_or firsts i 0 ≤ n → n < get_or firsts i 0 + get_or counts i 0
      → Contains (codes counts symbols) (bits_of (i + 1) n, get_or symbols (get_or starts i 0 + (n - get_or firsts i 0)) 0)
  is_code i n h le lt =
      let d : drop i counts ≡ get_or counts i 0 ∷ drop (i + 1) counts = drop_more counts i 0 (omega (arith, x.sixteen)) in
      let room : get_or counts i 0 ≤ sum (drop i counts) = omega (arith, ap sum d ∙ sum_by-cons (λ (k : ℕ). k) (get_or counts i 0) (drop (i + 1) counts)) in
      let enough = x.enough i h in
      let at : get_or firsts i 0 + (n - get_or firsts i 0) ≡ n = omega arith in
      let c = in_level (get_or counts i 0) (i + 1) (get_or firsts i 0) (drop (get_or starts i 0) symbols) (n - get_or firsts i 0) (omega arith)
      (omega (arith, length-drop (get_or starts i 0) symbols)) in
      let P : List ℕ → Type 0 = λ ks. Contains (codes_from (i + 1) (get_or firsts i 0) ks (drop (get_or starts i 0) symbols)) (bits_of (i + 1) n, get_or symbols (get_or starts i 0 + (n - get_or firsts i 0)) 0) in
      let Q : List Bool × ℕ → Type 0 = λ code. Contains (codes_at (get_or counts i 0) (i + 1) (get_or firsts i 0) (drop (get_or starts i 0) symbols)) code in
      let same : (bits_of (i + 1) (get_or firsts i 0 + (n - get_or firsts i 0)), get_or (drop (get_or starts i 0) symbols) (n - get_or firsts i 0) 0) ≡ (bits_of (i + 1) n, get_or symbols (get_or starts i 0 + (n - get_or firsts i 0)) 0)
      = ap (λ (m : ℕ). let p : List Bool × ℕ = (bits_of (i + 1) m, get_or (drop (get_or starts i 0) symbols) (n - get_or firsts i 0) 0) in p) at
      ∙ ap (λ (s : ℕ). let p : List Bool × ℕ = (bits_of (i + 1) n, s) in p) (get_or-drop (get_or starts i 0) symbols (n - get_or firsts i 0) 0) in
      from_longer i _ h (subst P (sym d) (Contains-append_left _ _ _ (subst Q same c)))

  -- a number past the codes of this length and below the limit begins a longer code
  pub begins_code : (i n : ℕ) → i < 15
      → get_or firsts i 0 + get_or counts i 0 ≤ n → n < get_or limits i 0 → BeginsCode (codes counts symbols) (bits_of (i + 1) n)
  begins_code i n h le lt =
      let d : drop i counts ≡ get_or counts i 0 ∷ drop (i + 1) counts = drop_more counts i 0 (omega (arith, x.sixteen)) in
      let l : get_or limits i 0 ≡ (limit_from (2 * (get_or firsts i 0 + get_or counts i 0)) (drop (i + 1) counts) + 1) / 2 = x.limit i (omega arith) ∙ ap (limit_from (get_or firsts i 0)) d in
      let f : get_or firsts (i + 1) 0 ≡ 2 * (get_or firsts i 0 + get_or counts i 0) = x.first_more i h in
      let g : limit_from (get_or firsts (i + 1) 0) (drop (i + 1) counts) ≡ limit_from (2 * (get_or firsts i 0 + get_or counts i 0)) (drop (i + 1) counts) = ap (λ c. limit_from c (drop (i + 1) counts)) f in
      let enough = x.enough (i + 1) (omega arith) in
      let r = reach (drop (i + 1) counts) (i + 1 + 1) (get_or firsts (i + 1) 0) (2 * n + bit_value false) (drop (get_or starts (i + 1) 0) symbols)
      (omega (arith, length-drop (get_or starts (i + 1) 0) symbols)) (omega arith) (omega arith) in (
        r.0,
        false,
        r.1,
        from_longer (i + 1) r.0 (omega arith) r.2,
        r.3 ∙ ap (λ s. s ++ r.1) (bits_of-more (i + 1) n false) ∙ append_assoc (bits_of (i + 1) n) (false ∷ []) r.1,
      )

  -- a number from the limit on begins no code
  pub begins_none : (i n : ℕ) → i < 16
      → n < 2 ^ (i + 1) → get_or limits i 0 ≤ n → BeginsNoCode (codes counts symbols) (bits_of (i + 1) n)
  begins_none i n h fits le code more c e =
      let l = ap length e ∙ length-append (bits_of (i + 1) n) more in
      let inside = in_longer i code h (omega (arith, length-bits_of (i + 1) n)) c in
      let lt = below_limit (drop i counts) (i + 1) (get_or firsts i 0) n (drop (get_or starts i 0) symbols) code more
      (are_codes counts symbols firsts starts limits (15 - i) i x (omega arith)) fits inside e in
      omega (arith, x.limit i h)

  -- the state of a walk before its next bit
  pub lower : (i n : ℕ) (old : List Bool) → i < 16 → n < 2 ^ i → bits_of i n ≡ old
      → (old ≡ []) ⊎ BeginsCode (codes counts symbols) old → get_or firsts i 0 ≤ 2 * n
  lower i n old h fits view (inl e) =
      not_before i n h fits (inl (sym (length-bits_of i n) ∙ ap length (view ∙ e)))
  lower i n old h fits view (inr b) =
      not_before i n h fits (inr (let P : List Bool → Type 0 = λ s. BeginsCode (codes counts symbols) s in subst P (sym view) b))

  pub place_below : (i n : ℕ) → i < 16
      → n < get_or firsts i 0 + get_or counts i 0 → 0 < get_or counts i 0 → get_or starts i 0 + (n - get_or firsts i 0) < length symbols
  place_below i n h lt some =
      let d : drop i counts ≡ get_or counts i 0 ∷ drop (i + 1) counts = drop_more counts i 0 (omega (arith, x.sixteen)) in
      let room : get_or counts i 0 ≤ sum (drop i counts) = omega (arith, ap sum d ∙ sum_by-cons (λ (k : ℕ). k) (get_or counts i 0) (drop (i + 1) counts)) in
      omega (arith, x.enough i h)

  pub at_symbol : (i n v : ℕ) (old : List Bool) (bit : Bool) → i < 16 → bits_of i n ≡ old → v ≡ bit_value bit
      → get_or firsts i 0 ≤ 2 * n + v → 2 * n + v < get_or firsts i 0 + get_or counts i 0
      → Contains (codes counts symbols) (old ++ bit ∷ [], get_or symbols (get_or starts i 0 + (2 * n + v - get_or firsts i 0)) 0)
  at_symbol i n v old bit h view e le lt =
      let P : List Bool → Type 0 = λ s. Contains (codes counts symbols) (s, get_or symbols (get_or starts i 0 + (2 * n + v - get_or firsts i 0)) 0) in
      subst P (next_bits i n v old bit view e) (is_code i (2 * n + v) h le lt)

  pub at_more : (i n v : ℕ) (old : List Bool) (bit : Bool) → i < 15 → bits_of i n ≡ old → v ≡ bit_value bit → get_or firsts i 0 + get_or counts i 0 ≤ 2 * n + v
      → 2 * n + v < get_or limits i 0 → BeginsCode (codes counts symbols) (old ++ bit ∷ []) × (bits_of (i + 1) (2 * n + v) ≡ old ++ bit ∷ [])
  at_more i n v old bit h view e le lt =
      let P : List Bool → Type 0 = λ s. BeginsCode (codes counts symbols) s in
      (subst P (next_bits i n v old bit view e) (begins_code i (2 * n + v) h le lt), next_bits i n v old bit view e)

  -- the last limit is passed where the codes are
  last_limit : get_or limits 15 0 ≤ get_or firsts 15 0 + get_or counts 15 0
  last_limit =
      let d : drop 15 counts ≡ get_or counts 15 0 ∷ drop 16 counts = drop_more counts 15 0 (omega (arith, x.sixteen)) in
      let n : drop 16 counts ≡ [] = drop_all 16 counts (omega (arith, x.sixteen)) in
      let l : get_or limits 15 0 ≡ (limit_from (2 * (get_or firsts 15 0 + get_or counts 15 0)) [] + 1) / 2 =
      x.limit 15 (omega arith) ∙ ap (limit_from (get_or firsts 15 0)) d ∙ ap (λ ks. (limit_from (2 * (get_or firsts 15 0 + get_or counts 15 0)) ks + 1) / 2) n in
      omega arith

  pub at_none : (i n v : ℕ) (old : List Bool) (bit : Bool) → i < 16 → n < 2 ^ i → bits_of i n ≡ old → v ≡ bit_value bit
      → get_or firsts i 0 + get_or counts i 0 ≤ 2 * n + v → (15 ≤ i) ⊎ (get_or limits i 0 ≤ 2 * n + v) → BeginsNoCode (codes counts symbols) (old ++ bit ∷ [])
  at_none i n v old bit h fits view e le past =
      let P : List Bool → Type 0 = λ s. BeginsNoCode (codes counts symbols) s in
      let p : 2 ^ (i + 1) ≡ 2 * 2 ^ i = ap (λ m. 2 ^ m) (add-one i) ∙ pow-succ' 2 i in
      let over : get_or limits i 0 ≤ 2 * n + v =
      ⊎_elim
      (λ (f : 15 ≤ i). let z : i ≡ 15 = omega arith in
      let Q : ℕ → Type 0 = λ j. get_or limits j 0 ≤ get_or firsts j 0 + get_or counts j 0 in
      let w = subst Q (sym z) (last_limit) in omega (arith, w))
      (λ (o : get_or limits i 0 ≤ 2 * n + v). o) past in
      subst P (next_bits i n v old bit view e)
      (begins_none i (2 * n + v) h (omega (arith, bit_small bit)) over)

  -- a number before the first of its length extends a shorter code, or is past all of them
  pub at_below : (i n v : ℕ) (old : List Bool) (bit : Bool) → i < 16 → n < 2 ^ i → bits_of i n ≡ old → v ≡ bit_value bit
      → 2 * n + v < get_or firsts i 0 → BeginsNoCode (codes counts symbols) (old ++ bit ∷ [])
  at_below i n v old bit h fits view e lt =
      let P : List Bool → Type 0 = λ s. BeginsNoCode (codes counts symbols) s in
      let p : 2 ^ (i + 1) ≡ 2 * 2 ^ i = ap (λ m. 2 ^ m) (add-one i) ∙ pow-succ' 2 i in
      let small : 2 * n + v < 2 ^ (i + 1) = omega (arith, bit_small bit) in
      subst P (next_bits i n v old bit view e)
      (λ code more c split.
      let l = ap length split ∙ length-append (bits_of (i + 1) (2 * n + v)) more in
      let inside = in_longer i code h (omega (arith, length-bits_of (i + 1) (2 * n + v))) c in
      let f = front_not_below (drop i counts) (i + 1) (get_or firsts i 0) (drop (get_or starts i 0) symbols) code (are_codes counts symbols firsts starts limits (15 - i) i x (omega arith)) inside in
      let same = append_inj (bits_of (i + 1) (2 * n + v)) (bits_of (i + 1) f.0) more f.1 (length-bits_of (i + 1) (2 * n + v) ∙ sym (length-bits_of (i + 1) f.0)) (sym split ∙ f.4) in
      let q = bits_of_inj (i + 1) (2 * n + v) f.0 small f.3 same.0 in
      omega arith)

pub bit_value_is : (b : Bool) → bool_byte b ≡ bit_value b
bit_value_is true = refl
bit_value_is false = refl
