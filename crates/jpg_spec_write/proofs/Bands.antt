-- What the writer writes of the bands of an interval, with its EOB runs, is in the grammar.
use Rattle.std.proofs.Common.{◌≡◌, ℕ, zero, suc, ◌+◌, ◌<◌, ◌≤◌, Bool, true, false, cond, List, [], ◌∷◌, ◌++◌, length, take, drop, refl, sym, ap, ◌∙◌, subst, arith, ℤ, pos, negsuc, ⊎_elim, ◌==◌, ◌≢◌}
use Rattle.std.specs.Prelude.{◌||◌, nat_lt}
use Rattle.std.proofs.lemmas.List.{append_assoc, append-nil, length-append}
use Rattle.std.proofs.lemmas.Bool.{cases_eq}
use Rattle.std.proofs.lemmas.Bool.Decides.{nat_tests}
use Rattle.jpg_spec.specs.Codes.{Code}
use Rattle.jpg_spec.specs.Numbers.{digits}
use Rattle.jpg_spec.specs.Lists.{is_empty, any_of}
use Rattle.jpg_spec.specs.Elements.{Coding, UnitLeft, Standing, Element, ends, Covers, nonzeros_in, grown, corrected, going_on, old_values, bits_after, are_in_bounds}
use Rattle.jpg_spec_write.specs.Sending.{Sent, correction, newly_significant, is_new, up_to_last, after_last, corrections_of, value_elements, ended_bands, band_elements}
use Rattle.jpg_spec_write.proofs.Writing.{Sends, AllSent, AllHave, Fronted, bare, front_covers, zero_scaled}
use Rattle.jpg_spec.proofs.Bits.Values.{bounds_split, covers_then, nonzeros-append}

abbrev pub flat : List (List ℤ) → List ℤ
flat [] = []
flat (x ∷ xs) = x ++ flat xs

abbrev pub units_of : ℕ → List (List ℤ) → List UnitLeft
units_of i [] = []
units_of i (old ∷ olds) = record { component = i; has_dc = false; old = old } ∷ units_of i olds

abbrev pub at : (ℕ → ℤ) → List UnitLeft → Standing
at p left = record { predictions = p; left = left }

old_values-units : (i : ℕ) (olds : List (List ℤ)) → old_values (units_of i olds) ≡ flat olds
old_values-units i [] = refl
old_values-units i (old ∷ olds) = ap (λ t. old ++ t) (old_values-units i olds)

take_units : (i : ℕ) (olds : List (List ℤ)) (us : List UnitLeft) → take (length olds) (units_of i olds ++ us) ≡ units_of i olds
take_units i [] us = refl
take_units i (old ∷ olds) us = ap (λ t. (let u : UnitLeft = record { component = i; has_dc = false; old = old } in u ∷ t)) (take_units i olds us)

drop_units : (i : ℕ) (olds : List (List ℤ)) (us : List UnitLeft) → drop (length olds) (units_of i olds ++ us) ≡ us
drop_units i [] us = refl
drop_units i (old ∷ olds) us = drop_units i olds us

length_units : (i : ℕ) (olds : List (List ℤ)) (us : List UnitLeft) → length olds ≤ length (units_of i olds ++ us)
length_units i [] us = omega arith
length_units i (old ∷ olds) us = omega (arith, length_units i olds us)

-- THE EOB of the bands that wait
ended_covers : (c : Coding) (p : ℕ → ℤ) (i : ℕ) (wait : List (List ℤ)) (bits : List Bool) (us : List UnitLeft)
    → nonzeros_in (flat wait) ≡ length bits → (1 ≤ length wait → digits (length wait) ≤ c.most_run + 1) → AllHave (c.ac i) (ended_bands (length wait) bits)
    → are_in_bounds c.bounds false (corrected c.al (flat wait) bits) ≡ true
    → (b : List Bool) × Covers c (at p (units_of i wait ++ us)) (ended_bands (length wait) bits) (corrected c.al (flat wait) bits) b (at p us)
ended_covers c p i [] bits us n d have ok = ([], (refl, refl, refl))
ended_covers c p i (w ∷ ws) bits us n d have ok =
    let u : UnitLeft = record { component = i; has_dc = false; old = w } in
    let all = w ∷ ws in
    let passed : old_values (take (suc (length ws)) (u ∷ (units_of i ws ++ us))) ≡ flat all = ap (λ t. w ++ old_values t) (take_units i ws us) ∙ ap (λ t. w ++ t) (old_values-units i ws) in
    let code = have.0 in (
      (code.0 ++ bits_after (ends (suc (length ws)) bits)) ++ [],
      (
        u,
        units_of i ws ++ us,
        corrected c.al (flat all) bits,
        us,
        [],
        code.0 ++ bits_after (ends (suc (length ws)) bits),
        [],
        refl,
        sym (append-nil (corrected c.al (flat all) bits)),
        refl,
        (code.0, code.1, refl),
        (refl, omega arith, d (omega arith), omega (arith, length_units i ws us), ap nonzeros_in passed ∙ n, ap (λ t. corrected c.al t bits) (sym passed), sym (drop_units i ws us)),
        ok,
        (refl, refl, refl),
      ),
    )

-- BANDS, split after the last newly sent value

-- a front and a rest of a band, the front up to a newly sent value
pub record InTwo (c : Coding) (front rest : List Sent) (o n : List ℤ) : Type 0 where
  pub o1 : List ℤ
  pub o2 : List ℤ
  pub n1 : List ℤ
  pub n2 : List ℤ
  pub joined : (o ≡ o1 ++ o2) × (n ≡ n1 ++ n2)
  pub front_sent : AllSent c front o1 n1
  pub fronted : Fronted front
  pub behind : AllSent c rest o2 n2
  pub none : any_of is_new rest ≡ false

pub record Split (c : Coding) (band : List Sent) (o n : List ℤ) : Type 0 where
  pub parts : InTwo c (up_to_last band) (after_last band) o n
  pub sum : length band ≡ length (up_to_last band) + length (after_last band)

same_new_by : (s : Sent) (band : List Sent) (b : Bool) → any_of is_new (s ∷ band) ≡ b → any_of is_new (up_to_last band) ≡ any_of is_new band
    → any_of is_new (cond b (s ∷ up_to_last band) []) ≡ any_of is_new (s ∷ band)
same_new_by s band true e h = ap (λ t. is_new s || t) h
same_new_by s band false e h = sym e

same_new : (band : List Sent) → any_of is_new (up_to_last band) ≡ any_of is_new band
same_new [] = refl
same_new (s ∷ band) = same_new_by s band (any_of is_new (s ∷ band)) refl (same_new band)

-- whether a band has a new value decides where it is split
split_step : (c : Coding) (s : Sent) (band : List Sent) (o : ℤ) (os : List ℤ) (n : ℤ) (ns : List ℤ) (b : Bool) → any_of is_new (s ∷ band) ≡ b
    → Sends c s o n → AllSent c band os ns → Split c band os ns → Split c (s ∷ band) (o ∷ os) (n ∷ ns)
split_step c s band o os n ns true e h all r =
    let q = r.parts in
    let up : up_to_last (s ∷ band) ≡ s ∷ up_to_last band = ap (λ t. cond t (s ∷ up_to_last band) []) e in
    let be : after_last (s ∷ band) ≡ after_last band = ap (λ t. cond t (after_last band) (s ∷ band)) e in
    let again : any_of is_new (s ∷ up_to_last band) ≡ true = ap (λ t. is_new s || t) (same_new band) ∙ e in
    let parts : InTwo c (s ∷ up_to_last band) (after_last band) (o ∷ os) (n ∷ ns) = record {
      o1 = o ∷ q.o1;
      o2 = q.o2;
      n1 = n ∷ q.n1;
      n2 = q.n2;
      joined = (ap (λ t. o ∷ t) q.joined.0, ap (λ t. n ∷ t) q.joined.1);
      front_sent = (o, q.o1, n, q.n1, refl, refl, h, q.front_sent);
      fronted = (again, q.fronted);
      behind = q.behind;
      none = q.none;
    } in
    record {
      parts = subst (λ x. InTwo c (up_to_last (s ∷ band)) x (o ∷ os) (n ∷ ns)) (sym be) (subst (λ x. InTwo c x (after_last band) (o ∷ os) (n ∷ ns)) (sym up) parts);
      sum = omega (arith, r.sum, ap length up, ap length be);
    }
split_step c s band o os n ns false e h all r =
    let up : up_to_last (s ∷ band) ≡ [] = ap (λ t. cond t (s ∷ up_to_last band) []) e in
    let be : after_last (s ∷ band) ≡ s ∷ band = ap (λ t. cond t (after_last band) (s ∷ band)) e in
    let parts : InTwo c [] (s ∷ band) (o ∷ os) (n ∷ ns) =
    record { o1 = []; o2 = o ∷ os; n1 = []; n2 = n ∷ ns; joined = (refl, refl); front_sent = (refl, refl); fronted = tt; behind = (o, os, n, ns, refl, refl, h, all); none = e } in
    record {
      parts = subst (λ x. InTwo c (up_to_last (s ∷ band)) x (o ∷ os) (n ∷ ns)) (sym be) (subst (λ x. InTwo c x (s ∷ band) (o ∷ os) (n ∷ ns)) (sym up) parts);
      sum = omega (arith, ap length up, ap length be);
    }

keeps_zero : (al : ℕ) (os : List ℤ) (bits : List Bool) → corrected al (pos 0 ∷ os) bits ≡ pos 0 ∷ corrected al os bits
keeps_zero al os [] = refl
keeps_zero al os (b ∷ bits) = refl

-- the values after it take only corrections
after_told : (c : Coding) (rest : List Sent) (o n : List ℤ) → AllSent c rest o n → any_of is_new rest ≡ false → (n ≡ corrected c.al o (corrections_of rest)) × (nonzeros_in o ≡ length (corrections_of rest))
after_told c [] o n h e = (h.1 ∙ ap (λ t. corrected c.al t []) (sym h.0), ap nonzeros_in h.0)
after_told c (correction b ∷ rest) o n h e =
    let r = after_told c rest h.1 h.3 h.7 e in (
      h.5 ∙ ap (λ t. t ∷ h.3) h.6.1 ∙ ap (λ t. grown c.al b h.0 ∷ t) r.0 ∙ sym (ap (λ t. cond t (h.0 ∷ corrected c.al h.1 (b ∷ corrections_of rest)) (grown c.al b h.0 ∷ corrected c.al h.1 (corrections_of rest))) h.6.0)
          ∙ ap (λ t. corrected c.al t (b ∷ corrections_of rest)) (sym h.4),
      ap nonzeros_in h.4 ∙ ap (λ t. cond t 0 1 + nonzeros_in h.1) h.6.0 ∙ omega (arith, r.1),
    )
after_told c (newly_significant (pos zero) ∷ rest) o n h e =
    let r = after_told c rest h.1 h.3 h.7 e in (
      h.5 ∙ ap (λ t. t ∷ h.3) (h.6.1 ∙ zero_scaled c.al) ∙ ap (λ t. pos 0 ∷ t) r.0 ∙ sym (keeps_zero c.al h.1 (corrections_of rest)) ∙ ap (λ t. corrected c.al t (corrections_of rest)) (sym (h.4 ∙ ap (λ t. t ∷ h.1) h.6.0)),
      ap nonzeros_in (h.4 ∙ ap (λ t. t ∷ h.1) h.6.0) ∙ omega (arith, r.1),
    )
after_told c (newly_significant (pos (suc m)) ∷ rest) o n h e = cc
after_told c (newly_significant (negsuc m) ∷ rest) o n h e = cc

pub corrected-append : (al : ℕ) (a b : List ℤ) (x y : List Bool) → nonzeros_in a ≡ length x → corrected al (a ++ b) (x ++ y) ≡ corrected al a x ++ corrected al b y
corrected-append al [] b [] y n = refl
corrected-append al [] b (q ∷ x) y n = let f : ⊥ = omega arith in absurd f
corrected-append al (pos zero ∷ a) b [] y n = keeps_zero al (a ++ b) y ∙ ap (λ t. pos 0 ∷ t) (corrected-append al a b [] y (omega arith))
corrected-append al (pos zero ∷ a) b (q ∷ x) y n = ap (λ t. pos 0 ∷ t) (corrected-append al a b (q ∷ x) y (omega arith))
corrected-append al (pos (suc m) ∷ a) b [] y n = let f : ⊥ = omega arith in absurd f
corrected-append al (pos (suc m) ∷ a) b (q ∷ x) y n = ap (λ t. grown al q (pos (suc m)) ∷ t) (corrected-append al a b x y (omega arith))
corrected-append al (negsuc m ∷ a) b [] y n = let f : ⊥ = omega arith in absurd f
corrected-append al (negsuc m ∷ a) b (q ∷ x) y n = ap (λ t. grown al q (negsuc m) ∷ t) (corrected-append al a b x y (omega arith))

pub split : (c : Coding) (band : List Sent) (o n : List ℤ) → AllSent c band o n → Split c band o n
split c [] o n h = record { parts = record { o1 = []; o2 = o; n1 = []; n2 = n; joined = (refl, refl); front_sent = (refl, refl); fronted = tt; behind = h; none = refl }; sum = refl }
split c (s ∷ band) o n h =
    let r = split_step c s band h.0 h.1 h.2 h.3 (any_of is_new (s ∷ band)) refl h.6 h.7 (split c band h.1 h.3 h.7) in
    subst (λ x. Split c (s ∷ band) x n) (sym h.4) (subst (λ x. Split c (s ∷ band) (h.0 ∷ h.1) x) (sym h.5) r)

flat_push : (wait : List (List ℤ)) (o : List ℤ) → flat (wait ++ o ∷ []) ≡ flat wait ++ o
flat_push [] o = append-nil o
flat_push (w ∷ wait) o = ap (λ t. w ++ t) (flat_push wait o) ∙ sym (append_assoc w (flat wait) o)

units_push : (i : ℕ) (wait : List (List ℤ)) (o : List ℤ) (us : List UnitLeft) → units_of i (wait ++ o ∷ []) ++ us ≡ units_of i wait ++ (let u : UnitLeft = record { component = i; has_dc = false; old = o } in u ∷ us)
units_push i [] o us = refl
units_push i (w ∷ wait) o us = ap (λ t. (let u : UnitLeft = record { component = i; has_dc = false; old = w } in u ∷ t)) (units_push i wait o us)

length_push' : (wait : List (List ℤ)) (o : List ℤ) → length (wait ++ o ∷ []) ≡ length wait + 1
length_push' wait o = length-append wait (o ∷ [])

have_split : (codes : List Code) (a b : List Element) → AllHave codes (a ++ b) → AllHave codes a × AllHave codes b
have_split codes [] b h = (tt, h)
have_split codes (e ∷ a) b h = let r = have_split codes a b h.1 in ((h.0, r.0), r.1)

-- the elements from some waiting bands on lead from these units to none
abbrev pub Done : Coding → (ℕ → ℤ) → ℕ → List Element → List UnitLeft → List ℤ → Type 0
Done c p i es units told = (b : List Bool) × Covers c (at p units) es told b (at p [])

Later : Coding → (ℕ → ℤ) → ℕ → ℕ → List (List Sent) → List (List ℤ) → List (List ℤ) → Type 0
Later c p i most later olds news = (bits : List Bool) (wait : List (List ℤ)) → length wait < most → nonzeros_in (flat wait) ≡ length bits
    → AllHave (c.ac i) (band_elements most (length wait) bits later) → are_in_bounds c.bounds false (corrected c.al (flat wait) bits ++ flat news) ≡ true
    → Done c p i (band_elements most (length wait) bits later) (units_of i wait ++ units_of i olds) (corrected c.al (flat wait) bits ++ flat news)

unfoldable pub body : ℕ → ℕ → List Bool → List Sent → List Sent → List (List Sent) → List Element
body most bands bits front rest later =
    cond (is_empty front) [] (ended_bands bands bits ++ value_elements 0 [] front)
    ++ cond (is_empty rest) (band_elements most 0 [] later)
    (cond (cond (is_empty front) bands 0 + 1 == most || nat_lt 937 (length (cond (is_empty front) bits [] ++ corrections_of rest)))
    (ended_bands (cond (is_empty front) bands 0 + 1) (cond (is_empty front) bits [] ++ corrections_of rest) ++ band_elements most 0 [] later)
    (band_elements most (cond (is_empty front) bands 0 + 1) (cond (is_empty front) bits [] ++ corrections_of rest) later))

regroup : (a b e d : List ℤ) → (a ++ b) ++ (e ++ d) ≡ a ++ ((b ++ e) ++ d)
regroup a b e d = simp append_assoc

going_first : (i : ℕ) (o1 o2 : List ℤ) (x : ℤ) (more : List ℤ) (us : List UnitLeft) → o1 ≡ x ∷ more
    → going_on (bare i) (o1 ++ o2) us ≡ (let u : UnitLeft = record { component = i; has_dc = false; old = o1 ++ o2 } in u ∷ us)
going_first i o1 o2 x more us e = subst (λ q. going_on (bare i) (q ++ o2) us ≡ (let u : UnitLeft = record { component = i; has_dc = false; old = q ++ o2 } in u ∷ us)) (sym e) refl

-- THE BANDS of an interval, what they were and what they are
abbrev pub AllBands : Coding → List (List Sent) → List (List ℤ) → List (List ℤ) → Type 0
AllBands c [] olds news = (olds ≡ []) × (news ≡ [])
AllBands c (band ∷ bands) olds news = (o : List ℤ) × (os : List (List ℤ)) × (n : List ℤ) × (ns : List (List ℤ)) × (olds ≡ o ∷ os) × (news ≡ n ∷ ns) × (0 < length band) × AllSent c band o n × AllBands c bands os ns

module _ (c : Coding) (p : ℕ → ℤ) (i : ℕ) where
  at_done : (es es' : List Element) (units units' : List UnitLeft) (told told' : List ℤ) → es ≡ es' → units ≡ units' → told ≡ told' → Done c p i es units told → Done c p i es' units' told'
  at_done es es' units units' told told' a b d k = subst (λ x. Done c p i es' units' x) d (subst (λ x. Done c p i es' x told) b (subst (λ x. Done c p i x units told) a k))

  done_then : (es es' : List Element) (units mid : List UnitLeft) (told told' : List ℤ) → (b : List Bool) × Covers c (at p units) es told b (at p mid) → Done c p i es' mid told' → Done c p i (es ++ es') units (told ++ told')
  done_then es es' units mid told told' k l = (k.0 ++ l.0, covers_then c (at p units) (at p mid) (at p []) es es' told told' k.0 l.0 k.1 l.1)

  -- a band up to its last new value
  band_front : (f : Sent) (fs : List Sent) (o1 o2 n1 : List ℤ) (olds : List (List ℤ)) → Fronted (f ∷ fs) → AllSent c (f ∷ fs) o1 n1 → AllHave (c.ac i) (value_elements 0 [] (f ∷ fs)) → are_in_bounds c.bounds false n1 ≡ true
      → (b : List Bool) × Covers c (at p (units_of i ((o1 ++ o2) ∷ olds))) (value_elements 0 [] (f ∷ fs)) n1 b (at p (going_on (bare i) o2 (units_of i olds)))
  band_front f fs o1 o2 n1 olds fr h have ok =
      let k = front_covers c p i o2 (units_of i olds) 0 [] [] (f ∷ fs) o1 n1 (omega arith) refl refl (λ e. refl) fr h have ok in
      (k.0, subst (λ l. Covers c (at p l) (value_elements 0 [] (f ∷ fs)) n1 k.0 (at p (going_on (bare i) o2 (units_of i olds)))) (going_first i o1 o2 h.0 h.1 (units_of i olds) h.4) k.1)

-- with EOB runs of at most so many bands
module _ (c : Coding) (p : ℕ → ℤ) (i most : ℕ) (fits : (n : ℕ) → 1 ≤ n → n ≤ most → digits n ≤ c.most_run + 1) where
  -- a band that waits: its EOB is written at once, or later
  waits_on : (later : List (List Sent)) (olds news : List (List ℤ)) (bits : List Bool) (wait : List (List ℤ)) (flag : Bool) → (length wait ≡ most → flag ≡ true)
      → length wait ≤ most → 0 < most → nonzeros_in (flat wait) ≡ length bits → Later c p i most later olds news
      → AllHave (c.ac i) (cond flag (ended_bands (length wait) bits ++ band_elements most 0 [] later) (band_elements most (length wait) bits later))
      → are_in_bounds c.bounds false (corrected c.al (flat wait) bits ++ flat news) ≡ true
      → Done c p i (cond flag (ended_bands (length wait) bits ++ band_elements most 0 [] later) (band_elements most (length wait) bits later)) (units_of i wait ++ units_of i olds) (corrected c.al (flat wait) bits ++ flat news)
  unfolding Later
  waits_on later olds news bits wait true full small some n ih have ok =
      let hs = have_split (c.ac i) (ended_bands (length wait) bits) (band_elements most 0 [] later) have in
      let bs = bounds_split c (corrected c.al (flat wait) bits) (flat news) ok in
      done_then c p i (ended_bands (length wait) bits) (band_elements most 0 [] later) (units_of i wait ++ units_of i olds) (units_of i olds) (corrected c.al (flat wait) bits) (flat news)
      (ended_covers c p i wait bits (units_of i olds) n (λ h. fits (length wait) h small) hs.0 bs.0) (ih [] [] some refl hs.1 bs.1)
  waits_on later olds news bits wait false full small some n ih have ok =
      ih bits wait (less (length wait) most small full) n have ok
    where
      less : (a b : ℕ) → a ≤ b → (a ≡ b → false ≡ true) → a < b
      less a b h k = ⊎_elim (λ (e : a ≡ b). (let f : false ≡ true = k e in cc)) (λ (e : a ≢ b). omega arith) (cases_eq a b)

  -- a band up to its last new value, with the EOB of those that wait
  band_first : (f : Sent) (fs : List Sent) (o1 o2 n1 : List ℤ) (olds : List (List ℤ)) (bits : List Bool) (wait : List (List ℤ)) → length wait < most → nonzeros_in (flat wait) ≡ length bits → Fronted (f ∷ fs) → AllSent c (f ∷ fs) o1 n1
      → AllHave (c.ac i) (ended_bands (length wait) bits ++ value_elements 0 [] (f ∷ fs)) → are_in_bounds c.bounds false (corrected c.al (flat wait) bits) ≡ true → are_in_bounds c.bounds false n1 ≡ true
      → (b : List Bool) × Covers c (at p (units_of i wait ++ units_of i ((o1 ++ o2) ∷ olds))) (ended_bands (length wait) bits ++ value_elements 0 [] (f ∷ fs)) (corrected c.al (flat wait) bits ++ n1) b
      (at p (going_on (bare i) o2 (units_of i olds)))
  band_first f fs o1 o2 n1 olds bits wait small n fr h have ok1 ok2 =
      let hs = have_split (c.ac i) (ended_bands (length wait) bits) (value_elements 0 [] (f ∷ fs)) have in
      let k = ended_covers c p i wait bits (units_of i ((o1 ++ o2) ∷ olds)) n (λ e. fits (length wait) e (omega arith)) hs.0 ok1 in
      let l = band_front c p i f fs o1 o2 n1 olds fr h hs.1 ok2 in
      (k.0 ++ l.0, covers_then c _ _ _ (ended_bands (length wait) bits) (value_elements 0 [] (f ∷ fs)) (corrected c.al (flat wait) bits) n1 k.0 l.0 k.1 l.1)

-- and some bands after them
module _ (c : Coding) (p : ℕ → ℤ) (i most : ℕ) (fits : (n : ℕ) → 1 ≤ n → n ≤ most → digits n ≤ c.most_run + 1) (later : List (List Sent)) (olds news : List (List ℤ)) where
  -- a band without a new value
  band_waits : (r : Sent) (rs : List Sent) (o n : List ℤ) (s : InTwo c [] (r ∷ rs) o n) (bits : List Bool) (wait : List (List ℤ)) → length wait < most → nonzeros_in (flat wait) ≡ length bits → Later c p i most later olds news
      → AllHave (c.ac i) (body most (length wait) bits [] (r ∷ rs) later) → are_in_bounds c.bounds false (corrected c.al (flat wait) bits ++ ((s.n1 ++ s.n2) ++ flat news)) ≡ true
      → Done c p i (body most (length wait) bits [] (r ∷ rs) later) (units_of i wait ++ units_of i ((s.o1 ++ s.o2) ∷ olds)) (corrected c.al (flat wait) bits ++ ((s.n1 ++ s.n2) ++ flat news))
  unfolding body
  band_waits r rs o n s bits wait small each ih have ok =
      let cr = corrections_of (r ∷ rs) in
      let all = bits ++ cr in
      let b = after_told c (r ∷ rs) s.o2 s.n2 s.behind s.none in
      let flag = length wait + 1 == most || nat_lt 937 (length all) in
      let more = wait ++ s.o2 ∷ [] in
      let len : length more ≡ length wait + 1 = length_push' wait s.o2 in
      let es : cond flag (ended_bands (length more) all ++ band_elements most 0 [] later) (band_elements most (length more) all later)
      ≡ cond flag (ended_bands (length wait + 1) all ++ band_elements most 0 [] later) (band_elements most (length wait + 1) all later) =
      ap (λ k. cond flag (ended_bands k all ++ band_elements most 0 [] later) (band_elements most k all later)) len in
      let told : corrected c.al (flat more) all ++ flat news ≡ corrected c.al (flat wait) bits ++ ((s.n1 ++ s.n2) ++ flat news) =
      ap (λ t. t ++ flat news) (ap (λ t. corrected c.al t all) (flat_push wait s.o2) ∙ corrected-append c.al (flat wait) s.o2 bits cr each ∙ ap (λ t. corrected c.al (flat wait) bits ++ t) (sym b.0))
      ∙ append_assoc (corrected c.al (flat wait) bits) s.n2 (flat news) ∙ ap (λ t. corrected c.al (flat wait) bits ++ ((t ++ s.n2) ++ flat news)) (sym s.front_sent.1) in
      let units : units_of i more ++ units_of i olds ≡ units_of i wait ++ units_of i ((s.o1 ++ s.o2) ∷ olds) =
      units_push i wait s.o2 (units_of i olds) ∙ ap (λ t. units_of i wait ++ units_of i ((t ++ s.o2) ∷ olds)) (sym s.front_sent.0) in
      let nn : nonzeros_in (flat more) ≡ length all = ap nonzeros_in (flat_push wait s.o2) ∙ nonzeros-append (flat wait) s.o2 ∙ omega (arith, each, b.1, length-append bits cr) in
      let full : length more ≡ most → flag ≡ true = λ e. (let t : (length wait + 1 == most) ≡ true = grind (arith, nat_tests, len, e) in ap (λ k. k || nat_lt 937 (length all)) t) in
      at_done c p i _ (cond flag (ended_bands (length wait + 1) all ++ band_elements most 0 [] later) (band_elements most (length wait + 1) all later)) _ _ _ _ es units told
      (waits_on c p i most fits later olds news all more flag full (omega (arith, len, small)) (omega arith) nn ih (subst (λ q. AllHave (c.ac i) q) (sym es) have) (ap (λ t. are_in_bounds c.bounds false t) told ∙ ok))

  band_new : (f : Sent) (fs rest : List Sent) (o n : List ℤ) (s : InTwo c (f ∷ fs) rest o n) (bits : List Bool) (wait : List (List ℤ)) → length wait < most → nonzeros_in (flat wait) ≡ length bits → Later c p i most later olds news
      → AllHave (c.ac i) (body most (length wait) bits (f ∷ fs) rest later) → are_in_bounds c.bounds false (corrected c.al (flat wait) bits ++ ((s.n1 ++ s.n2) ++ flat news)) ≡ true
      → Done c p i (body most (length wait) bits (f ∷ fs) rest later) (units_of i wait ++ units_of i ((s.o1 ++ s.o2) ∷ olds)) (corrected c.al (flat wait) bits ++ ((s.n1 ++ s.n2) ++ flat news))
  unfolding body Later
  band_new f fs [] o n s bits wait small each ih have ok =
      let t1 = corrected c.al (flat wait) bits in
      let front = ended_bands (length wait) bits ++ value_elements 0 [] (f ∷ fs) in
      let units = units_of i wait ++ units_of i ((s.o1 ++ s.o2) ∷ olds) in
      let hs = have_split (c.ac i) front (band_elements most 0 [] later) have in
      let told : (t1 ++ s.n1) ++ flat news ≡ t1 ++ ((s.n1 ++ s.n2) ++ flat news) = ap (λ q. (t1 ++ s.n1) ++ (q ++ flat news)) (sym s.behind.1) ∙ regroup t1 s.n1 s.n2 (flat news) in
      let b = bounds_split c (t1 ++ s.n1) (flat news) (ap (λ t. are_in_bounds c.bounds false t) told ∙ ok) in
      let b1 = bounds_split c t1 s.n1 b.0 in
      let k = band_first c p i most fits f fs s.o1 s.o2 s.n1 olds bits wait small each s.fronted s.front_sent hs.0 b1.0 b1.1 in
      let first : (bb : List Bool) × Covers c (at p units) front (t1 ++ s.n1) bb (at p (units_of i olds)) =
      (k.0, subst (λ q. Covers c (at p units) front (t1 ++ s.n1) k.0 (at p (going_on (bare i) q (units_of i olds)))) s.behind.0 k.1) in
      at_done c p i (front ++ band_elements most 0 [] later) _ _ _ _ _ refl refl told
      (done_then c p i front (band_elements most 0 [] later) units (units_of i olds) (t1 ++ s.n1) (flat news) first (ih [] [] (omega arith) refl hs.1 b.1))
  band_new f fs (r ∷ rs) o n s bits wait small each ih have ok =
      let t1 = corrected c.al (flat wait) bits in
      let front = ended_bands (length wait) bits ++ value_elements 0 [] (f ∷ fs) in
      let units = units_of i wait ++ units_of i ((s.o1 ++ s.o2) ∷ olds) in
      let one = s.o2 ∷ [] in
      let cr = corrections_of (r ∷ rs) in
      let flag = 1 == most || nat_lt 937 (length cr) in
      let tail = cond flag (ended_bands 1 cr ++ band_elements most 0 [] later) (band_elements most 1 cr later) in
      let hs = have_split (c.ac i) front tail have in
      let bt = after_told c (r ∷ rs) s.o2 s.n2 s.behind s.none in
      let t2 : corrected c.al (flat one) cr ≡ s.n2 = ap (λ q. corrected c.al q cr) (append-nil s.o2) ∙ sym bt.0 in
      let told : (t1 ++ s.n1) ++ (corrected c.al (flat one) cr ++ flat news) ≡ t1 ++ ((s.n1 ++ s.n2) ++ flat news) = ap (λ q. (t1 ++ s.n1) ++ (q ++ flat news)) t2 ∙ regroup t1 s.n1 s.n2 (flat news) in
      let b = bounds_split c (t1 ++ s.n1) (corrected c.al (flat one) cr ++ flat news) (ap (λ t. are_in_bounds c.bounds false t) told ∙ ok) in
      let b1 = bounds_split c t1 s.n1 b.0 in
      let k = band_first c p i most fits f fs s.o1 s.o2 s.n1 olds bits wait small each s.fronted s.front_sent hs.0 b1.0 b1.1 in
      let mid : going_on (bare i) s.o2 (units_of i olds) ≡ units_of i one ++ units_of i olds =
      subst (λ q. going_on (bare i) q (units_of i olds) ≡ units_of i (q ∷ []) ++ units_of i olds) (sym s.behind.4) refl in
      let first : (bb : List Bool) × Covers c (at p units) front (t1 ++ s.n1) bb (at p (units_of i one ++ units_of i olds)) = (k.0, subst (λ q. Covers c (at p units) front (t1 ++ s.n1) k.0 (at p q)) mid k.1) in
      let full : 1 ≡ most → flag ≡ true = λ e. (let t : (1 == most) ≡ true = grind (arith, nat_tests, e) in ap (λ q. q || nat_lt 937 (length cr)) t) in
      let last = waits_on c p i most fits later olds news cr one flag full (omega arith) (omega arith) (ap nonzeros_in (append-nil s.o2) ∙ bt.1) ih hs.1 b.1 in
      at_done c p i (front ++ tail) _ _ _ _ _ refl refl told (done_then c p i front tail units (units_of i one ++ units_of i olds) (t1 ++ s.n1) (corrected c.al (flat one) cr ++ flat news) first last)

  one_band : (front rest : List Sent) (o n : List ℤ) (s : InTwo c front rest o n) (bits : List Bool) (wait : List (List ℤ)) → 0 < length front + length rest → length wait < most → nonzeros_in (flat wait) ≡ length bits
      → Later c p i most later olds news → AllHave (c.ac i) (body most (length wait) bits front rest later) → are_in_bounds c.bounds false (corrected c.al (flat wait) bits ++ ((s.n1 ++ s.n2) ++ flat news)) ≡ true
      → Done c p i (body most (length wait) bits front rest later) (units_of i wait ++ units_of i ((s.o1 ++ s.o2) ∷ olds)) (corrected c.al (flat wait) bits ++ ((s.n1 ++ s.n2) ++ flat news))
  one_band [] [] o n s bits wait some small each ih have ok = let f : ⊥ = omega arith in absurd f
  one_band [] (r ∷ rs) o n s bits wait some small each ih have ok = band_waits r rs o n s bits wait small each ih have ok
  one_band (f ∷ fs) rest o n s bits wait some small each ih have ok = band_new f fs rest o n s bits wait small each ih have ok

module _ (c : Coding) (p : ℕ → ℤ) (i most : ℕ) (fits : (n : ℕ) → 1 ≤ n → n ≤ most → digits n ≤ c.most_run + 1) where
  -- THE LAW: the elements of bands, with their EOB runs, are in the grammar
  pub bands_cover : (bands : List (List Sent)) (olds news : List (List ℤ)) (bits : List Bool) (wait : List (List ℤ)) → AllBands c bands olds news → length wait < most → nonzeros_in (flat wait) ≡ length bits
      → AllHave (c.ac i) (band_elements most (length wait) bits bands) → are_in_bounds c.bounds false (corrected c.al (flat wait) bits ++ flat news) ≡ true
      → Done c p i (band_elements most (length wait) bits bands) (units_of i wait ++ units_of i olds) (corrected c.al (flat wait) bits ++ flat news)
  unfolding Later body
  bands_cover [] olds news bits wait h small n have ok =
      let t1 = corrected c.al (flat wait) bits in
      let told : t1 ≡ t1 ++ flat news = sym (ap (λ q. t1 ++ flat q) h.1 ∙ append-nil t1) in
      let k = ended_covers c p i wait bits [] n (λ e. fits (length wait) e (omega arith)) have (ap (λ t. are_in_bounds c.bounds false t) told ∙ ok) in
      at_done c p i (ended_bands (length wait) bits) _ _ _ _ _ refl (ap (λ q. units_of i wait ++ units_of i q) (sym h.0)) told k
  bands_cover (band ∷ bands) olds news bits wait h small n have ok =
      let s = split c band h.0 h.2 h.7 in
      let q = s.parts in
      let later : Later c p i most bands h.1 h.3 = λ bits' wait' small' n' have' ok'. bands_cover bands h.1 h.3 bits' wait' h.8 small' n' have' ok' in
      let told : corrected c.al (flat wait) bits ++ ((q.n1 ++ q.n2) ++ flat h.3) ≡ corrected c.al (flat wait) bits ++ flat news =
      ap (λ z. corrected c.al (flat wait) bits ++ (z ++ flat h.3)) (sym q.joined.1) ∙ ap (λ z. corrected c.al (flat wait) bits ++ flat z) (sym h.5) in
      let units : units_of i wait ++ units_of i ((q.o1 ++ q.o2) ∷ h.1) ≡ units_of i wait ++ units_of i olds =
      ap (λ z. units_of i wait ++ units_of i (z ∷ h.1)) (sym q.joined.0) ∙ ap (λ z. units_of i wait ++ units_of i z) (sym h.4) in
      at_done c p i (body most (length wait) bits (up_to_last band) (after_last band) bands) _ _ _ _ _ refl units told
      (one_band c p i most fits bands h.1 h.3 (up_to_last band) (after_last band) h.0 h.2 q bits wait (omega (arith, s.sum, h.6)) small n later have (ap (λ t. are_in_bounds c.bounds false t) told ∙ ok))

pub up_true : (s : Sent) (band : List Sent) → any_of is_new (s ∷ band) ≡ true → up_to_last (s ∷ band) ≡ s ∷ up_to_last band
up_true s band e = ap (λ b. (let r : List Sent = cond b (s ∷ up_to_last band) [] in r)) e

pub up_false : (s : Sent) (band : List Sent) → any_of is_new (s ∷ band) ≡ false → up_to_last (s ∷ band) ≡ []
up_false s band e = ap (λ b. (let r : List Sent = cond b (s ∷ up_to_last band) [] in r)) e

pub after_true : (s : Sent) (band : List Sent) → any_of is_new (s ∷ band) ≡ true → after_last (s ∷ band) ≡ after_last band
after_true s band e = ap (λ b. (let r : List Sent = cond b (after_last band) (s ∷ band) in r)) e

pub after_false : (s : Sent) (band : List Sent) → any_of is_new (s ∷ band) ≡ false → after_last (s ∷ band) ≡ s ∷ band
after_false s band e = ap (λ b. (let r : List Sent = cond b (after_last band) (s ∷ band) in r)) e
