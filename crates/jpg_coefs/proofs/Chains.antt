-- Bits that a machine takes one by one.
use Rattle.std.proofs.Common.{◌≡◌, ℕ, ◌≤◌, Bool, List, [], ◌∷◌, ◌++◌, length, refl, sym, ap, ◌∙◌, subst, arith}
use Rattle.std.specs.Prelude.{Result, Ok, Err}
use Rattle.std.proofs.lemmas.List.{append_assoc, append-nil, length-append}
use Rattle.jpg_coefs.specs.Picture.{Picture}
use Rattle.jpg_coefs.specs.Machine.{Interval, IsUnfinished, Kind, KeepsUnits, Answered, Step, Chain, ChainTo, StillAtFaults, TakesBits}
use Rattle.jpg_coefs.specs.declared.machine.UnitStep.{UnitStep}
use Rattle.jpg_coefs.specs.declared.machine.UnitStep.TheVariants as step
use Rattle.jpg_coefs.specs.declared.machine.UnitFault.{UnitFault}
use Rattle.jpg_coefs.specs.declared.machine.Taken.TheVariants as taken

module _ {M : Type 0} (k : Kind M) where
  pub chain_then : (m mid new : M) (now between after : Picture) (xs ys : List Bool) → Chain k m now xs mid between → Chain k mid between ys new after → Chain k m now (xs ++ ys) new after
  chain_then m mid new now between after [] ys h g =
      let P : M → Type 0 = λ n. Chain k n between ys new after in
      let Q : Picture → Type 0 = λ n. Chain k m n ys new after in
      subst Q h.1 (subst P h.0 g)
  chain_then m mid new now between after (b ∷ xs) ys h g = (h.0, h.1, h.2, chain_then h.0 mid new h.1 between after xs ys h.3 g)

  pub chain_stands : (m new : M) (now after : Picture) (i : Interval) (so_far bits : List Bool) → Chain k m now bits new after → k.stands m i so_far now → k.stands new i (so_far ++ bits) after
  chain_stands m new now after i so_far [] h s =
      let P : M → Type 0 = λ n. k.stands n i (so_far ++ []) after in
      let Q : Picture → Type 0 = λ n. k.stands m i (so_far ++ []) n in
      let R : List Bool → Type 0 = λ n. k.stands m i n now in
      subst P (sym h.0) (subst Q (sym h.1) (subst R (sym (append-nil so_far)) s))
  chain_stands m new now after i so_far (b ∷ bits) h s =
      let R : List Bool → Type 0 = λ n. k.stands new i n after in
      subst R (append_assoc so_far (b ∷ []) bits) (chain_stands h.0 new h.1 after i (so_far ++ b ∷ []) bits h.3 (h.2 i so_far s))

  pub still_at_faults : KeepsUnits M k → StillAtFaults k
  still_at_faults keeps most m new now after bits f (front, bit, mid, between, cut, chain, few, last) i so_far s =
      let there = chain_stands m mid now between i so_far front chain s in (
        so_far ++ front,
        bit,
        k.left mid,
        ap (λ z. so_far ++ z) cut ∙ sym (append_assoc so_far front (bit ∷ [])),
        subst (λ (q : Picture). IsUnfinished i (so_far ++ front) q (k.left mid)) (sym (last i (so_far ++ front) there).1) (keeps.unfinished mid i (so_far ++ front) between there),
      )

one_front : (bits front : List Bool) (b bit : Bool) → b ∷ [] ≡ bits → bits ≡ front ++ bit ∷ [] → (front ≡ []) × (bit ≡ b)
one_front bits [] b bit e f = (refl, (let t : b ∷ [] ≡ bit ∷ [] = e ∙ f in cc))
one_front bits (d ∷ front) b bit e f = absurd (omega (arith, ap length e, ap length f, length-append front (bit ∷ [])))

module _ {M : Type 0} (k : Kind M) (most : ℕ) where
  -- the answer at the last bit of such a chain
  pub answer_to : (m new : M) (now after : Picture) (i : Interval) (so_far bits : List Bool) (answer : Result UnitStep UnitFault) → (c : ChainTo k most m now bits answer new after) → k.stands m i so_far now
      → Answered k i (so_far ++ bits) answer c.3 new after
  answer_to m new now after i so_far bits answer (front, bit, mid, between, cut, chain, few, last) s =
      let R : List Bool → Type 0 = λ z. Answered k i z answer between new after in
      subst R (append_assoc so_far front (bit ∷ []) ∙ ap (λ z. so_far ++ z) (sym cut)) (last i (so_far ++ front) (chain_stands k m mid now between i so_far front chain s))

  pub some_taken : (m new : M) (now after : Picture) (bits : List Bool) (answer : Result UnitStep UnitFault) → ChainTo k most m now bits answer new after → 1 ≤ length bits
  some_taken m new now after bits answer (front, bit, mid, between, cut, chain, few, last) = omega (arith, ap length cut, length-append front (bit ∷ []))

  -- ONE BIT, taken from a store of one
  one_step : (m : M) (now : Picture) (b : Bool) (bits rest : List Bool) (answer : Result UnitStep UnitFault) (new : M) (after : Picture) → b ∷ [] ≡ bits ++ rest → ChainTo k most m now bits answer new after → Step k m now b answer new after
  one_step m now b bits rest answer new after e c =
      let whole : b ∷ [] ≡ bits = one_is bits rest e (omega (arith, ap length c.4, length-append c.0 (c.1 ∷ []))) in
      let f = one_front bits c.0 b c.1 whole c.4 in
      let C : List Bool → Type 0 = λ z. Chain k m now z c.2 c.3 in
      let h = subst C f.0 c.5 in
      let P : M → Type 0 = λ q. Step k q now b answer new after in
      let Q : Picture → Type 0 = λ q. Step k c.2 q b answer new after in
      let R : Bool → Type 0 = λ q. Step k c.2 c.3 q answer new after in
      subst P h.0 (subst Q h.1 (subst R f.1 c.7))
    where
      one_is : (bits rest : List Bool) → b ∷ [] ≡ bits ++ rest → 1 ≤ length bits → b ∷ [] ≡ bits
      one_is [] rest e h = absurd (omega arith)
      one_is (d ∷ []) rest e h = cc
      one_is (d ∷ q ∷ bits) rest e h = absurd (omega (arith, ap length e, length-append bits rest))

  pub bit_more : (m : M) (now : Picture) (b : Bool) (rest : List Bool) (new : M) (after : Picture) → TakesBits k most m now (b ∷ []) taken.More new after rest → Step k m now b (Ok step.More) new after
  bit_more m now b rest new after t =
      let whole : b ∷ [] ≡ t.0 = t.1 ∙ ap (λ z. t.0 ++ z) t.2.2 ∙ append-nil t.0 in
      let C : List Bool → Type 0 = λ z. Chain k m now z new after in
      let c = subst C (sym whole) t.2.0 in
      let P : M → Type 0 = λ q. Step k m now b (Ok step.More) q after in
      let Q : Picture → Type 0 = λ q. Step k m now b (Ok step.More) c.0 q in
      subst P (sym c.3.0) (subst Q (sym c.3.1) c.2)

  pub bit_units : (m : M) (now : Picture) (b : Bool) (rest : List Bool) (new : M) (after : Picture) → TakesBits k most m now (b ∷ []) taken.Units new after rest → Step k m now b (Ok step.More) new after
  bit_units m now b rest new after t = one_step m now b t.0 rest (Ok step.More) new after t.1 t.2.0

  pub bit_done : (m : M) (now : Picture) (b : Bool) (rest : List Bool) (new : M) (after : Picture) → TakesBits k most m now (b ∷ []) taken.IntervalDone new after rest → Step k m now b (Ok step.IntervalDone) new after
  bit_done m now b rest new after t = one_step m now b t.0 rest (Ok step.IntervalDone) new after t.1 t.2

  pub bit_fault : (m : M) (now : Picture) (b : Bool) (rest : List Bool) (fault : UnitFault) (new : M) (after : Picture) → TakesBits k most m now (b ∷ []) (taken.Fault fault) new after rest → Step k m now b (Err fault) new after
  bit_fault m now b rest fault new after t = one_step m now b t.0 rest (Err fault) new after t.1 t.2
