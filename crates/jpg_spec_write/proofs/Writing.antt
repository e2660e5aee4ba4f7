-- What the writer writes of a band up to its last newly sent value is in the grammar (the heart of "what is written
-- means the picture").
use Rattle.std.proofs.Common.{◌≡◌, ℕ, zero, suc, ◌+◌, ◌*◌, ◌≤◌, Bool, true, false, cond, List, [], ◌∷◌, ◌++◌, length, refl, sym, ap, ◌∙◌, subst, arith, ℤ, pos, negsuc, ⊎_elim, inl, ◌==◌, ◌≢◌}
use Rattle.std.specs.Prelude.{◌||◌, ◌^◌}
use lib.IntN.{zero-*ℤ}
use Rattle.std.specs.List.{Contains}
use Rattle.std.proofs.lemmas.List.{append_assoc, length_push}
use Rattle.std.proofs.lemmas.Bool.{cases_eq}
use Rattle.std.proofs.lemmas.Bool.Decides.{nat_tests}
use Rattle.jpg_spec.specs.Codes.{Code}
use Rattle.jpg_spec.specs.Numbers.{category, extra_bits}
use Rattle.jpg_spec.specs.Elements.{Coding, UnitLeft, Standing, Element, value, long_run, Covers, zeros_in, nonzeros_in, is_zero, scaled, grown, corrected, going_on, symbol_of, are_in_bounds}
use Rattle.jpg_spec_write.specs.Sending.{Sent, correction, newly_significant, is_new, value_elements}
use Rattle.jpg_spec.specs.Lists.{any_of}
use Rattle.jpg_spec.proofs.Bits.Values.{going_same, zeros_push, nonzeros_push, corrected_push, corrected_zero, bounds_split}

-- the effect of a sent value on an old one; a newly sent one has a category that is allowed
abbrev pub Sends : Coding → Sent → ℤ → ℤ → Type 0
Sends c (correction b) o n = (is_zero o ≡ false) × (n ≡ grown c.al b o)
Sends c (newly_significant w) o n = (o ≡ pos 0) × (n ≡ scaled c.al w) × (is_zero w ≡ false → (1 ≤ category w) × (category w ≤ c.most_category))

abbrev pub AllSent : Coding → List Sent → List ℤ → List ℤ → Type 0
AllSent c [] olds news = (olds ≡ []) × (news ≡ [])
AllSent c (s ∷ sents) olds news = (o : ℤ) × (more : List ℤ) × (n : ℤ) × (rest : List ℤ) × (olds ≡ o ∷ more) × (news ≡ n ∷ rest) × Sends c s o n × AllSent c sents more rest

-- each element's symbol has a code
abbrev pub AllHave : List Code → List Element → Type 0
AllHave codes [] = Unit {0}
AllHave codes (e ∷ es) = ((code : List Bool) × Contains codes (code, symbol_of e)) × AllHave codes es

-- a unit of a band, before its values
abbrev pub bare : ℕ → UnitLeft
bare i = record { component = i; has_dc = false; old = [] }

going_some : (u : UnitLeft) (pre : List ℤ) (o : ℤ) (rest : List ℤ) (us : List UnitLeft) → going_on u (pre ++ o ∷ rest) us ≡ record { component = u.component; has_dc = false; old = pre ++ o ∷ rest } ∷ us
going_some u [] o rest us = refl
going_some u (q ∷ pre) o rest us = refl

-- each suffix of what is written up to the last newly sent value has one
abbrev pub Fronted : List Sent → Type 0
Fronted [] = Unit {0}
Fronted (s ∷ sents) = (any_of is_new (s ∷ sents) ≡ true) × Fronted sents

more_left : (s : Sent) (sents : List Sent) (pre : List ℤ) → is_new s ≡ false → any_of is_new (s ∷ sents) ≡ true → sents ≡ [] → pre ≡ []
more_left s [] pre n a e = let f : true ≡ false = sym a ∙ ap (λ t. t || false) n in cc
more_left s (x ∷ sents) pre n a e = cc

pub zero_scaled : (al : ℕ) → scaled al (pos 0) ≡ pos 0
zero_scaled al = zero-*ℤ (pos (2 ^ al))

abbrev pub Written : Coding → (ℕ → ℤ) → ℕ → List ℤ → List UnitLeft → List Element → List ℤ → List ℤ → Type 0
Written c p i behind us es whole told =
    (bits : List Bool) × Covers c (record { predictions = p; left = going_on (bare i) whole us }) es told bits (record { predictions = p; left = going_on (bare i) behind us })

if_true : (b : Bool) (a d : List Element) → b ≡ true → cond b a d ≡ a
if_true b a d e = ap (λ t. cond t a d) e

if_false : (b : Bool) (a d : List Element) → b ≡ false → cond b a d ≡ d
if_false b a d e = ap (λ t. cond t a d) e

-- Elements of a band of component i, which leave these values of it and these units behind it.
module _ (c : Coding) (p : ℕ → ℤ) (i : ℕ) (behind : List ℤ) (us : List UnitLeft) where
  at_lists : (es es' : List Element) (whole whole' told told' : List ℤ) → es ≡ es' → whole ≡ whole' → told ≡ told' → Written c p i behind us es whole told → Written c p i behind us es' whole' told'
  at_lists es es' whole whole' told told' e w t k =
      subst (λ x. Written c p i behind us es' whole' x) t (subst (λ x. Written c p i behind us es' x told) w (subst (λ x. Written c p i behind us x whole told) e k))

  -- one element, and then others
  one_value : (run : ℕ) (w : ℤ) (cs : List Bool) (pre more told : List ℤ) (es : List Element) → run ≤ 15 → zeros_in pre ≡ run → nonzeros_in pre ≡ length cs → (1 ≤ category w) × (category w ≤ c.most_category)
      → (code : List Bool) × Contains (c.ac i) (code, 16 * run + category w) → are_in_bounds c.bounds false (corrected c.al pre cs ++ scaled c.al w ∷ []) ≡ true → Written c p i behind us es (more ++ behind) told
      → Written c p i behind us (value run w cs ∷ es) (pre ++ pos 0 ∷ (more ++ behind)) ((corrected c.al pre cs ++ scaled c.al w ∷ []) ++ told)
  one_value run w cs pre more told es small z n k code ok later =
      let u : UnitLeft = record { component = i; has_dc = false; old = pre ++ pos 0 ∷ (more ++ behind) } in
      let front = code.0 ++ (extra_bits w ++ cs) in (
        front ++ later.0,
        (
          u,
          us,
          corrected c.al pre cs ++ scaled c.al w ∷ [],
          going_on (bare i) (more ++ behind) us,
          told,
          front,
          later.0,
          going_some (bare i) pre (pos 0) (more ++ behind) us,
          refl,
          refl,
          (code.0, code.1, refl),
          (pre, more ++ behind, refl, k.0, k.1, small, refl, z, n, refl, going_same (bare i) u refl (more ++ behind) us),
          ok,
          later.1,
        ),
      )

  one_long_run : (cs : List Bool) (pre more told : List ℤ) (es : List Element) → zeros_in pre ≡ 15 → nonzeros_in (pre ++ pos 0 ∷ []) ≡ length cs → (code : List Bool) × Contains (c.ac i) (code, 0xf0)
      → are_in_bounds c.bounds false (corrected c.al (pre ++ pos 0 ∷ []) cs) ≡ true → Written c p i behind us es (more ++ behind) told
      → Written c p i behind us (long_run cs ∷ es) (pre ++ pos 0 ∷ (more ++ behind)) (corrected c.al (pre ++ pos 0 ∷ []) cs ++ told)
  one_long_run cs pre more told es z n code ok later =
      let u : UnitLeft = record { component = i; has_dc = false; old = pre ++ pos 0 ∷ (more ++ behind) } in (
        (code.0 ++ cs) ++ later.0,
        (
          u,
          us,
          corrected c.al (pre ++ pos 0 ∷ []) cs,
          going_on (bare i) (more ++ behind) us,
          told,
          code.0 ++ cs,
          later.0,
          going_some (bare i) pre (pos 0) (more ++ behind) us,
          refl,
          refl,
          (code.0, code.1, refl),
          (pre ++ pos 0 ∷ [], more ++ behind, refl, inl (pre, refl, z, refl), n, refl, going_same (bare i) u refl (more ++ behind) us),
          ok,
          later.1,
        ),
      )

  -- a newly sent value, and what is written after it
  new_value : (run : ℕ) (w : ℤ) (cs : List Bool) (pre : List ℤ) (sents : List Sent) (olds news : List ℤ) → is_zero w ≡ false → run ≤ 15 → zeros_in pre ≡ run → nonzeros_in pre ≡ length cs
      → (h : AllSent c (newly_significant w ∷ sents) olds news) → (code : List Bool) × Contains (c.ac i) (code, 16 * run + category w) → are_in_bounds c.bounds false (corrected c.al pre cs ++ news) ≡ true
      → (are_in_bounds c.bounds false h.3 ≡ true → Written c p i behind us (value_elements 0 [] sents) (h.1 ++ behind) h.3)
      → Written c p i behind us (value run w cs ∷ value_elements 0 [] sents) (pre ++ olds ++ behind) (corrected c.al pre cs ++ news)
  new_value run w cs pre sents olds news some small z n h code ok later =
      let more = h.1 in
      let new = h.6 in
      let es = value run w cs ∷ value_elements 0 [] sents in
      let told : (corrected c.al pre cs ++ scaled c.al w ∷ []) ++ h.3 ≡ corrected c.al pre cs ++ news =
      append_assoc (corrected c.al pre cs) (scaled c.al w ∷ []) h.3 ∙ ap (λ v. corrected c.al pre cs ++ v ∷ h.3) (sym new.1) ∙ ap (λ q. corrected c.al pre cs ++ q) (sym h.5) in
      let whole : pre ++ pos 0 ∷ (more ++ behind) ≡ pre ++ olds ++ behind =
      sym (append_assoc pre (pos 0 ∷ more) behind) ∙ ap (λ q. (pre ++ q) ++ behind) (ap (λ t. t ∷ more) (sym new.0) ∙ sym h.4) in
      let b = bounds_split c (corrected c.al pre cs ++ scaled c.al w ∷ []) h.3 (ap (λ q. are_in_bounds c.bounds false q) told ∙ ok) in
      at_lists es es _ _ _ _ refl whole told (one_value run w cs pre more h.3 (value_elements 0 [] sents) small z n (new.2 some) code b.0 (later b.1))

  -- THE LAW
  pub front_covers : (run : ℕ) (cs : List Bool) (pre : List ℤ) (sents : List Sent) (olds news : List ℤ) → run ≤ 15 → zeros_in pre ≡ run → nonzeros_in pre ≡ length cs → (sents ≡ [] → pre ≡ []) → Fronted sents
      → AllSent c sents olds news → AllHave (c.ac i) (value_elements run cs sents) → are_in_bounds c.bounds false (corrected c.al pre cs ++ news) ≡ true
      → Written c p i behind us (value_elements run cs sents) (pre ++ olds ++ behind) (corrected c.al pre cs ++ news)
  front_covers run cs pre [] olds news small z n e f h have ok =
      let ep = e refl in (
        [],
        (
          ap (λ q. corrected c.al q cs ++ news) ep ∙ h.1,
          refl,
          ap (λ l. (let s : Standing = record { predictions = p; left = going_on (bare i) l us } in s)) (sym (ap (λ q. q ++ olds ++ behind) ep ∙ ap (λ q. q ++ behind) h.0)),
        ),
      )
  front_covers run cs pre (correction b ∷ sents) olds news small z n e f h have ok =
      let o = h.0 in
      let more = h.1 in
      let new = h.6 in
      let push = corrected_push c.al pre cs o b new.0 n in
      let told : corrected c.al (pre ++ o ∷ []) (cs ++ b ∷ []) ++ h.3 ≡ corrected c.al pre cs ++ news =
      ap (λ q. q ++ h.3) push ∙ append_assoc (corrected c.al pre cs) (grown c.al b o ∷ []) h.3 ∙ ap (λ v. corrected c.al pre cs ++ v ∷ h.3) (sym new.1) ∙ ap (λ q. corrected c.al pre cs ++ q) (sym h.5) in
      let whole : (pre ++ o ∷ []) ++ more ++ behind ≡ pre ++ olds ++ behind = ap (λ q. q ++ behind) (append_assoc pre (o ∷ []) more ∙ ap (λ q. pre ++ q) (sym h.4)) in
      let zz : zeros_in (pre ++ o ∷ []) ≡ run = zeros_push pre o ∙ ap (λ t. zeros_in pre + cond t 1 0) new.0 ∙ omega (arith, z) in
      let nn : nonzeros_in (pre ++ o ∷ []) ≡ length (cs ++ b ∷ []) = nonzeros_push pre o ∙ ap (λ t. nonzeros_in pre + cond t 0 1) new.0 ∙ omega (arith, n, length_push cs b) in
      at_lists _ _ _ _ _ _ refl whole told
      (front_covers run (cs ++ b ∷ []) (pre ++ o ∷ []) sents more h.3 small zz nn (more_left (correction b) sents (pre ++ o ∷ []) refl f.0) f.1 h.7 have (ap (λ q. are_in_bounds c.bounds false q) told ∙ ok))
  front_covers run cs pre (newly_significant (pos zero) ∷ sents) olds news small z n e f h have ok =
      let more = h.1 in
      let new = h.6 in
      let told : corrected c.al (pre ++ pos 0 ∷ []) cs ++ h.3 ≡ corrected c.al pre cs ++ news =
      ap (λ q. q ++ h.3) (corrected_zero c.al pre cs n) ∙ append_assoc (corrected c.al pre cs) (pos 0 ∷ []) h.3
      ∙ ap (λ v. corrected c.al pre cs ++ v ∷ h.3) (sym (new.1 ∙ zero_scaled c.al)) ∙ ap (λ q. corrected c.al pre cs ++ q) (sym h.5) in
      let whole : pre ++ pos 0 ∷ (more ++ behind) ≡ pre ++ olds ++ behind =
      sym (append_assoc pre (pos 0 ∷ more) behind) ∙ ap (λ q. (pre ++ q) ++ behind) (ap (λ t. t ∷ more) (sym new.0) ∙ sym h.4) in
      let pushed : (pre ++ pos 0 ∷ []) ++ more ++ behind ≡ pre ++ olds ++ behind =
      ap (λ q. q ++ behind) (append_assoc pre (pos 0 ∷ []) more ∙ ap (λ q. pre ++ q) (ap (λ t. t ∷ more) (sym new.0) ∙ sym h.4)) in
      let b = bounds_split c (corrected c.al (pre ++ pos 0 ∷ []) cs) h.3 (ap (λ q. are_in_bounds c.bounds false q) told ∙ ok) in
      let zz = zeros_push pre (pos 0) in
      let nn : nonzeros_in (pre ++ pos 0 ∷ []) ≡ length cs = nonzeros_push pre (pos 0) ∙ omega (arith, n) in
      ⊎_elim
      (λ (s : run ≡ 15).
      let t : (run == 15) ≡ true = grind (arith, nat_tests) in
      let es = if_true (run == 15) (long_run cs ∷ value_elements 0 [] sents) (value_elements (run + 1) cs sents) t in
      let hv = subst (λ q. AllHave (c.ac i) q) es have in
      at_lists _ _ _ _ _ _ (sym es) whole told
      (one_long_run cs pre more h.3 (value_elements 0 [] sents) (z ∙ s) nn hv.0 b.0
      (front_covers 0 [] [] sents more h.3 (omega arith) refl refl (λ q. refl) f.1 h.7 hv.1 b.1)))
      (λ (s : run ≢ 15).
      let t : (run == 15) ≡ false = grind (arith, nat_tests) in
      let es = if_false (run == 15) (long_run cs ∷ value_elements 0 [] sents) (value_elements (run + 1) cs sents) t in
      let hv = subst (λ q. AllHave (c.ac i) q) es have in
      at_lists _ _ _ _ _ _ (sym es) pushed told
      (front_covers (run + 1) cs (pre ++ pos 0 ∷ []) sents more h.3 (omega arith) (omega (arith, zz, z)) nn (more_left (newly_significant (pos zero)) sents (pre ++ pos 0 ∷ []) refl f.0) f.1 h.7 hv
      (ap (λ q. are_in_bounds c.bounds false q) told ∙ ok)))
      (cases_eq run 15)
  front_covers run cs pre (newly_significant (pos (suc m)) ∷ sents) olds news small z n e f h have ok =
      new_value run (pos (suc m)) cs pre sents olds news refl small z n h have.0 ok (λ b. front_covers 0 [] [] sents h.1 h.3 (omega arith) refl refl (λ q. refl) f.1 h.7 have.1 b)
  front_covers run cs pre (newly_significant (negsuc m) ∷ sents) olds news small z n e f h have ok =
      new_value run (negsuc m) cs pre sents olds news refl small z n h have.0 ok (λ b. front_covers 0 [] [] sents h.1 h.3 (omega arith) refl refl (λ q. refl) f.1 h.7 have.1 b)
