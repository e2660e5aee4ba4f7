-- Bits of a store that the machine of a progressive AC scan takes, unit by unit.
use Rattle.std.proofs.Common.{◌≡◌, ℕ, ◌≤◌, Bool, false, List, [], ◌∷◌, ◌++◌, length, refl, sym, ap, ◌∙◌, subst, arith, inr}
use Rattle.std.specs.Prelude.{Result, Ok, Err}
use Rattle.std.proofs.lemmas.List.{append_assoc}
use Rattle.jpg_coefs.specs.Picture.{Picture}
use Rattle.jpg_coefs.specs.Machine.{Interval, Step, Chain, ChainTo, Ends, TakesBits}
use Rattle.jpg_coefs.specs.declared.machine.UnitFault.{UnitFault}
use Rattle.jpg_coefs.specs.declared.machine.UnitStep.{UnitStep}
use Rattle.jpg_coefs.specs.declared.machine.UnitStep.TheVariants as step
use Rattle.jpg_coefs.specs.declared.machine.Taken.{Taken}
use Rattle.jpg_coefs.specs.declared.machine.Taken.TheVariants as taken
use Rattle.jpg_coefs.proofs.Chains.{chain_stands}
use Rattle.jpg_prog_read.specs.declared.ac_reader.AcReader.{AcReader}
use Rattle.jpg_prog_read.specs.declared.band.BandStep.{BandStep}
use Rattle.jpg_prog_read.specs.declared.band.BandStep.TheVariants.{More, Done, Fault}
use Rattle.jpg_prog_read.specs.InWork.{InWork}
use Rattle.jpg_prog_read.specs.ReaderSteps.{StaysOpen}
use Rattle.jpg_prog_read.specs.BandBits.{BandGoesOn, Through, EndsAt, TakesBand}
use Rattle.jpg_prog_read.specs.RepresentsAcScan.{RepresentsAcScan, IsInUnit, HasWhole, BandsGoOn, Settles, progressive_ac, with_unit_of}
use Rattle.jpg_prog_read.specs.BitsTaken.{HurriesOn}
use Rattle.jpg_prog_read.proofs.AcUnits.{unit_read, in_unit_of}
use Rattle.jpg_prog_read.proofs.Takings.{HurriesTo}

-- BITS OF A UNIT

step_within : (m : AcReader) (bit : Bool) (t : InWork) (now : Picture) → m.fresh ≡ false → BandGoesOn m.scan m.codes m.left m.unit bit t → Step progressive_ac m now bit (Ok step.More) (with_unit_of m t) now
step_within m bit t now e g = λ i bits s. inr (unit_read m t i bits bit now More (in_unit_of m i bits now e s) g.goes_on g.outside g.answered)

pub chain_within : (m : AcReader) (bits : List Bool) (t : InWork) (now : Picture) → m.fresh ≡ false → Through m.scan m.codes m.left m.unit bits t → Chain progressive_ac m now bits (with_unit_of m t) now
chain_within m [] t now e x = (ap (λ (s : InWork). with_unit_of m s) x, refl)
chain_within m (bit ∷ bits) t now e x = (with_unit_of m x.0, now, step_within m bit x.0 now e x.1, chain_within (with_unit_of m x.0) bits t now e x.2)

-- the current unit after them
pub in_unit_after : (m : AcReader) (bits : List Bool) (t : InWork) (now : Picture) (i : Interval) (so_far : List Bool) → m.fresh ≡ false → Through m.scan m.codes m.left m.unit bits t → RepresentsAcScan m i so_far now → IsInUnit (with_unit_of m t) i (so_far ++ bits) now
in_unit_after m bits t now i so_far e x s = in_unit_of (with_unit_of m t) i (so_far ++ bits) now e (chain_stands progressive_ac m (with_unit_of m t) now now i so_far bits (chain_within m bits t now e x) s)

-- the last one of them
fault_step : (m : AcReader) (bits : List Bool) (f : UnitFault) (new : InWork) (now : Picture) → m.fresh ≡ false → (x : EndsAt m.scan m.codes m.left m.unit bits (Fault f) new) → Step progressive_ac (with_unit_of m x.mid) now x.bit (Err f) (with_unit_of m new) now
fault_step m bits f new now e x = λ i so_far s. (unit_read (with_unit_of m x.mid) new i so_far x.bit now (Fault f) (in_unit_of (with_unit_of m x.mid) i so_far now e s) tt x.outside x.answered, refl)

done_step : (m : AcReader) (bits : List Bool) (new : InWork) (now : Picture) (answer : Result UnitStep UnitFault) (next : AcReader) (after : Picture) → m.fresh ≡ false → StaysOpen m.scan Done new → (x : EndsAt m.scan m.codes m.left m.unit bits Done new) → BandsGoOn (with_unit_of m new) now answer next after
    → Step progressive_ac (with_unit_of m x.mid) now x.bit answer next after
done_step m bits new now answer next after e o x goes = λ i so_far s. goes i (so_far ++ x.bit ∷ []) (unit_read (with_unit_of m x.mid) new i so_far x.bit now Done (in_unit_of (with_unit_of m x.mid) i so_far now e s) o x.outside x.answered)

-- BITS OF A STORE, after which the machine is n: as before, with another current unit

-- after a unit that is complete
pub whole_after : (m n : AcReader) (bits : List Bool) (now : Picture) (i : Interval) (so_far : List Bool) → m.fresh ≡ false → n ≡ with_unit_of m n.unit
    → StaysOpen m.scan Done n.unit → EndsAt m.scan m.codes m.left m.unit bits Done n.unit → RepresentsAcScan m i so_far now
    → (whole : List Bool) × HasWhole n i whole now
whole_after m n bits now i so_far e same o x s =
    let last = in_unit_after m x.front x.mid now i so_far e x.through s in
    let all = (so_far ++ x.front) ++ x.bit ∷ [] in
    (all, subst (λ (r : AcReader). HasWhole r i all now) (sym same) (unit_read (with_unit_of m x.mid) n.unit i (so_far ++ x.front) x.bit now Done last o x.outside x.answered))

-- bits after which the unit continues
hurries_on : (m : AcReader) (now : Picture) (store bits : List Bool) (new : InWork) (rest : List Bool) → m.fresh ≡ false → store ≡ bits ++ rest
    → Through m.scan m.codes m.left m.unit bits new → HurriesOn progressive_ac m now store (with_unit_of m new) rest
hurries_on m now store bits new rest e split x = record { taken = bits; split = split; chain = chain_within m bits new now e x; left = refl }

-- the same up to a bit with this answer
hurries_to : (m : AcReader) (now : Picture) (store : List Bool) (s : BandStep) (new : InWork) (rest : List Bool) → m.fresh ≡ false
    → (t : TakesBand m.scan m.codes m.left m.unit store s new rest) → (x : EndsAt m.scan m.codes m.left m.unit t.bits s new)
    → HurriesOn progressive_ac m now store (with_unit_of m x.mid) (x.bit ∷ rest)
hurries_to m now store s new rest e t x =
    hurries_on m now store x.front x.mid (x.bit ∷ rest) e (t.split ∙ ap (λ (l : List Bool). l ++ rest) x.cut ∙ append_assoc x.front (x.bit ∷ []) rest) x.through

pub all_taken : (m n : AcReader) (now : Picture) (store rest : List Bool) → m.fresh ≡ false → n ≡ with_unit_of m n.unit
    → TakesBand m.scan m.codes m.left m.unit store More n.unit rest → HurriesOn progressive_ac m now store n rest
all_taken m n now store rest e same t =
    subst (λ (r : AcReader). HurriesOn progressive_ac m now store r rest) (sym same) (hurries_on m now store t.bits n.unit rest e t.split t.comes)

pub fault_taken : (m n : AcReader) (now : Picture) (store rest : List Bool) (f : UnitFault) → m.fresh ≡ false → n ≡ with_unit_of m n.unit
    → TakesBand m.scan m.codes m.left m.unit store (Fault f) n.unit rest → HurriesTo progressive_ac m now store (Err f) n now rest
fault_taken m n now store rest f e same t =
    let x = t.comes in
    subst (λ (r : AcReader). HurriesTo progressive_ac m now store (Err f) r now rest) (sym same)
    (record { mid = with_unit_of m x.mid; bit = x.bit; hurries = hurries_to m now store (Fault f) n.unit rest e t x; answered = fault_step m t.bits f n.unit now e x })

-- a complete unit, and what comes after it
pub done_taken : (m n : AcReader) (now : Picture) (store rest : List Bool) (answer : Result UnitStep UnitFault) (next : AcReader) (after : Picture)
    → m.fresh ≡ false → n ≡ with_unit_of m n.unit → TakesBand m.scan m.codes m.left m.unit store Done n.unit rest → BandsGoOn n now answer next after
    → HurriesTo progressive_ac m now store answer next after rest
done_taken m n now store rest answer next after e same t goes =
    let x = t.comes in
    let on = subst (λ (r : AcReader). BandsGoOn r now answer next after) same goes in
    record {
      mid = with_unit_of m x.mid;
      bit = x.bit;
      hurries = hurries_to m now store Done n.unit rest e t x;
      answered = done_step m t.bits n.unit now answer next after e t.stays x on;
    }

-- THE FIRST UNIT, which is begun before the first bit

module _ (most : ℕ) (m0 m : AcReader) (now : Picture) (settles : Settles m0 now m) (left : m.left ≡ m0.left) where
  -- a chain after it
  chain_settled : (bit : Bool) (bits : List Bool) (new : AcReader) (after : Picture) → Chain progressive_ac m now (bit ∷ bits) new after
      → Chain progressive_ac m0 now (bit ∷ bits) new after
  chain_settled bit bits new after c = (c.0, c.1, λ i so_far s. c.2 i so_far (inr (settles i so_far s)), c.3)

  to_settled : (bits : List Bool) (answer : Result UnitStep UnitFault) (new : AcReader) (after : Picture)
      → ChainTo progressive_ac most m now bits answer new after → ChainTo progressive_ac most m0 now bits answer new after
  to_settled bits answer new after ([], bit, mid, between, cut, (same, still), few, one) =
      let P : AcReader → Type 0 = λ n. Step progressive_ac n now bit answer new after in
      let Q : Picture → Type 0 = λ q. Step progressive_ac mid q bit answer new after in
      let first : Step progressive_ac m now bit answer new after = subst P same (subst Q still one) in
      ([], bit, m0, now, cut, (refl, refl), omega (arith, few, left, ap (λ (n : AcReader). n.left) same), λ i so_far s. first i so_far (inr (settles i so_far s)))
  to_settled bits answer new after (b ∷ front, bit, mid, between, cut, chain, few, one) =
      (b ∷ front, bit, mid, between, cut, chain_settled b front mid between chain, omega (arith, few, left), one)

  pub settled : (store : List Bool) (answer : Taken) (new : AcReader) (after : Picture) (rest : List Bool) → 1 ≤ length store
      → TakesBits progressive_ac most m now store answer new after rest → TakesBits progressive_ac most m0 now store answer new after rest
  settled store answer new after rest some (bits, split, ends) = (bits, split, by answer ends)
    where
      none : (bits : List Bool) → store ≡ bits ++ rest → rest ≡ [] → bits ≡ [] → ⊥
      none bits s r e = omega (arith, some, ap length s, ap (λ (l : List Bool). length (l ++ rest)) e, ap length r)

      all : (bits : List Bool) → store ≡ bits ++ rest → rest ≡ [] → Chain progressive_ac m now bits new after → Chain progressive_ac m0 now bits new after
      all [] s r c = absurd (none [] s r refl)
      all (b ∷ bits) s r c = chain_settled b bits new after c

      by : (answer : Taken) → Ends progressive_ac most m now bits answer new after rest → Ends progressive_ac most m0 now bits answer new after rest
      by taken.More (chain, few, r) = (all bits split r chain, omega (arith, few, left), r)
      by taken.Units (chain, enough, more) = (to_settled bits (Ok step.More) new after chain, omega (arith, enough, left), more)
      by taken.IntervalDone chain = to_settled bits (Ok step.IntervalDone) new after chain
      by (taken.Fault f) chain = to_settled bits (Err f) new after chain
