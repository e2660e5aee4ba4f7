-- Bits of a store, taken one by one.
use Rattle.std.proofs.Common.{◌≡◌, ℕ, ◌+◌, ◌<◌, ◌≤◌, Bool, List, [], ◌∷◌, ◌++◌, length, drop, false, refl, sym, ap, ◌∙◌, arith}
use Rattle.std.specs.Prelude.{slice_index_or, Result, Ok}
use Rattle.std.proofs.lemmas.List.{append_assoc, nil_from_length}
use Rattle.jpg_coefs.specs.Picture.{Picture}
use Rattle.jpg_coefs.specs.Machine.{Interval, Kind, Step, ChainTo, TakesBits}
use Rattle.jpg_coefs.specs.declared.machine.UnitFault.{UnitFault}
use Rattle.jpg_coefs.specs.declared.machine.UnitStep.{UnitStep}
use Rattle.jpg_coefs.specs.declared.machine.UnitStep.TheVariants as step
use Rattle.jpg_coefs.specs.declared.machine.Taken.TheVariants as taken
use Rattle.jpg_coefs.proofs.Chains.{chain_then, chain_stands}
use Rattle.jpg_prog_read.specs.BitsTaken.{TookSome, HurriesOn}

-- Bits from the start of a store up to one with this answer, by which no unit before it is complete.
pub record HurriesTo {M : Type 0} (k : Kind M) (m : M) (now : Picture) (store : List Bool) (answer : Result UnitStep UnitFault) (new : M) (after : Picture) (rest : List Bool) : Type 0 where
  pub mid : M
  pub bit : Bool
  pub hurries : HurriesOn k m now store mid (bit ∷ rest)
  pub answered : Step k mid now bit answer new after

-- the first bit of a store, and the remaining ones
pub first_bit : (store : List Bool) (bit : Bool) (rest : List Bool) → 1 ≤ length store → bit ≡ slice_index_or store 0 false → rest ≡ drop 1 store
    → store ≡ bit ∷ rest
first_bit [] bit rest some b r = absurd (omega (arith, some))
first_bit (x ∷ store) bit rest some b r = ap (λ (y : Bool). y ∷ store) (sym b) ∙ ap (λ (l : List Bool). bit ∷ l) (sym r)

module _ {M : Type 0} {k : Kind M} {m : M} {now : Picture} {store : List Bool} where
  -- a bit is left after bits at once
  pub bit_next : {mid : M} {here : List Bool} (bit : Bool) (rest : List Bool) → HurriesOn k m now store mid here → 1 ≤ length here
      → bit ≡ slice_index_or here 0 false → rest ≡ drop 1 here → HurriesOn k m now store mid (bit ∷ rest)
  bit_next {mid} {here} bit rest h some b r = record { taken = h.taken; split = h.split ∙ ap (λ (l : List Bool). h.taken ++ l) (first_bit here bit rest some b r); chain = h.chain; left = h.left }

-- A CALL, which begins with this machine and this picture, takes bits of this store and completes at most so many units

module _ {M : Type 0} {k : Kind M} {most : ℕ} {m : M} {now : Picture} {store : List Bool} where
  pub took_none : 1 ≤ most → (stands : (i : Interval) × (bits : List Bool) × k.stands m i bits now) → TookSome k most m now store m now store
  took_none some o = record { taken = []; split = refl; chain = (refl, refl); few = omega (arith, some); interval = o.0; bits = o.1; standing = o.2 }

  -- bits at once, by which no unit is complete
  pub took_further : {mid : M} {between : Picture} {here : List Bool} {new : M} {rest : List Bool} → TookSome k most m now store mid between here
      → HurriesOn k mid between here new rest → TookSome k most m now store new between rest
  took_further {mid} {between} {here} {new} {rest} s h = record {
    taken = s.taken ++ h.taken;
    split = s.split ∙ ap (λ (l : List Bool). s.taken ++ l) h.split ∙ sym (append_assoc s.taken h.taken rest);
    chain = chain_then k m mid new now between between s.taken h.taken s.chain h.chain;
    few = omega (arith, s.few, h.left);
    interval = s.interval;
    bits = s.bits ++ h.taken;
    standing = chain_stands k mid new between between s.interval s.bits h.taken h.chain s.standing;
  }

  -- and a further one, after which the interval continues
  pub took_more : {mid : M} {between : Picture} {here : List Bool} {new : M} {after : Picture} {rest : List Bool} → TookSome k most m now store mid between here
      → HurriesTo k mid between here (Ok step.More) new after rest → k.left m < k.left new + most → TookSome k most m now store new after rest
  took_more {mid} {between} {here} {new} {after} {rest} s h few =
      let t = took_further s h.hurries in
      record {
        taken = t.taken ++ h.bit ∷ [];
        split = t.split ∙ sym (append_assoc t.taken (h.bit ∷ []) rest);
        chain = chain_then k m h.mid new now between after t.taken (h.bit ∷ []) t.chain (new, after, h.answered, (refl, refl));
        few = few;
        interval = t.interval;
        bits = t.bits ++ h.bit ∷ [];
        standing = h.answered t.interval t.bits t.standing;
      }

  -- THE END OF THE CALL: after all bits, or at a bit with this answer

  pub takes_all : {new : M} {after : Picture} {rest : List Bool} → TookSome k most m now store new after rest → length rest ≡ 0
      → TakesBits k most m now store taken.More new after rest
  takes_all {new} {after} {rest} s none = (s.taken, s.split, (s.chain, s.few, nil_from_length rest none))

  pub takes_to : {mid : M} {between : Picture} {here : List Bool} {answer : Result UnitStep UnitFault} {new : M} {after : Picture} {rest : List Bool}
      → TookSome k most m now store mid between here → HurriesTo k mid between here answer new after rest
      → (bits : List Bool) × (store ≡ bits ++ rest) × ChainTo k most m now bits answer new after
  takes_to {mid} {between} {here} {answer} {new} {after} {rest} s h =
      let t = took_further s h.hurries in
      (t.taken ++ h.bit ∷ [], t.split ∙ sym (append_assoc t.taken (h.bit ∷ []) rest), (t.taken, h.bit, h.mid, between, refl, t.chain, t.few, h.answered))
