-- When a machine waits for a bit, it represents complete elements and a part of one more.
use Rattle.std.proofs.Common.{◌≡◌, ℕ, ◌≤◌, Bool, false, List, [], ◌∷◌, length, refl, sym, subst, arith, ℤ, pos, inl, inr}
use Rattle.std.specs.Prelude.{slice_index_or}
use Rattle.std.proofs.lemmas.List.{append-nil}
use Rattle.jpg_spec.specs.Elements.{Coding, UnitLeft, Standing, is_zero}
use Rattle.jpg_spec.proofs.Bits.Once.{head_inj}
use Rattle.jpg_spec.specs.Parts.{InEnds, band_unit, WantsCorrection, PartOfElement, in_code, in_difference, in_number, in_count, in_value, in_long, in_ends}
use Rattle.jpg_prog_read.specs.declared.stage.Stage.{Stage}
use Rattle.jpg_prog_read.specs.declared.stage.Stage.TheVariants as stage
use Rattle.jpg_prog_read.specs.declared.scan.BandScan.{BandScan}
use Rattle.jpg_prog_read.specs.InWork.{InWork, IsOpenBand, DoesWait}
use Rattle.jpg_prog_read.specs.DcWork.{DcWork, IsDcOpen}
use Rattle.jpg_prog_read.specs.Stands.{UnitPlace, unit_left, IsElementPart, IsRest}
use Rattle.jpg_prog_read.specs.RepresentsDcUnit.{IsDcPart, dc_unit}
use Rattle.jpg_prog_read.specs.Due.{BandIsDue, NextIsDue, DcIsDue, NextDcIsDue}

wants : (i : ℕ) (rest : List ℤ) → 1 ≤ length rest → is_zero (slice_index_or rest 0 (pos 0)) ≡ false → WantsCorrection (band_unit i rest)
wants i [] some z = absurd (omega (arith, some))
wants i (o ∷ rest) some z = (o, rest, refl, z)

part_is : (at : UnitPlace) (mid : Standing) (here : List ℤ) (part : List Bool) (s : InWork) (g : Stage) → 1 ≤ length s.rest → DoesWait g s → IsElementPart at mid here part s g
    → PartOfElement at.coding mid (unit_left at s) at.others here part
part_is at mid here part s stage.Code some w p = in_code p.1
part_is at mid here part s stage.Number some w p = in_number s.run s.size s.extra p.1 w
part_is at mid here part s stage.Count some w p = in_count s.size s.extra p.1 w.0
part_is at mid here part s stage.Value some w p = in_value s.run s.due p.1 (wants at.component s.rest some w)
part_is at mid here part s stage.Long some w p = in_long s.run p.1 (wants at.component s.rest some w)
part_is at mid here part s stage.Ends some w p = in_ends s.bands p.1 (wants at.component s.rest some w.0)

pub band_due : (b : BandScan) (s : InWork) → IsOpenBand b s → BandIsDue s
band_due b s o at bits f = record {
  elements = f.elements;
  before = f.before;
  front = f.front;
  standing = f.mid;
  unit = unit_left at s;
  others = at.others;
  here = f.here;
  part = f.part;
  cut = f.split;
  covers = f.covers;
  same = sym f.same;
  first = refl;
  is_part = part_is at f.mid f.here f.part s s.stage o.left o.waits f.is_part;
  in_bounds = f.in_bounds;
}

rest_is : (c : Coding) (mid : Standing) (next : UnitLeft) (others : List UnitLeft) (here : List ℤ) (part : List Bool) (s : InWork) (g : Stage) → (g ≡ stage.Ends → WantsCorrection next) → IsRest c mid (next ∷ others) here part s g
    → PartOfElement c mid next others here part
rest_is c mid next others here part s stage.Code due p = in_code (record { left = p.0; none = p.1; front = inl p.2; no_code = λ d k. p.2 })
rest_is c mid next others here part s stage.Ends due p =
    let h = head_inj next p.0 others p.1 p.2 in
    let e1 : InEnds c mid p.0 others here part s.bands = subst (λ us. InEnds c mid p.0 us here part s.bands) (sym h.1) p.3 in
    in_ends s.bands (subst (λ v. InEnds c mid v others here part s.bands) (sym h.0) e1) (due refl)
rest_is c mid next others here part s other due p = absurd p

pub next_due : (s : InWork) → NextIsDue s
next_due s c units told next others bits due f = record {
  elements = f.elements;
  before = f.before;
  front = f.front;
  standing = f.mid;
  unit = next;
  others = others;
  here = f.here;
  part = f.part;
  cut = f.split;
  covers = f.covers;
  same = sym f.same;
  first = refl;
  is_part = rest_is c f.mid next others f.here f.part s s.stage due f.is_rest;
  in_bounds = f.in_bounds;
}

dc_part_is : (at : UnitPlace) (mid : Standing) (o : ℤ) (part : List Bool) (s : DcWork) → IsDcOpen s → IsDcPart at mid o part s → PartOfElement at.coding mid (dc_unit at.component o) at.others [] part
dc_part_is at mid o part s open_ (inl h) = in_code h.2
dc_part_is at mid o part s open_ (inr h) = in_difference s.size s.extra h.2 (open_ h.0)

pub dc_due : (s : DcWork) → IsDcOpen s → DcIsDue s
dc_due s w at p o bits f = record {
  elements = f.whole.elements;
  before = at.told;
  front = f.front;
  standing = f.whole.mid;
  unit = dc_unit at.component o;
  others = at.others;
  here = [];
  part = f.part;
  cut = f.split;
  covers = f.whole.covers;
  same = sym (append-nil at.told);
  first = refl;
  is_part = dc_part_is at f.whole.mid o f.part s w f.is_part;
  in_bounds = refl;
}

pub dc_next_due : NextDcIsDue
dc_next_due c units told p next others bits f = record {
  elements = f.elements;
  before = told;
  front = bits;
  standing = f.mid;
  unit = next;
  others = others;
  here = [];
  part = [];
  cut = sym (append-nil bits);
  covers = f.covers;
  same = sym (append-nil told);
  first = refl;
  is_part = in_code (record { left = f.left; none = refl; front = inl refl; no_code = λ d k. refl });
  in_bounds = refl;
}
