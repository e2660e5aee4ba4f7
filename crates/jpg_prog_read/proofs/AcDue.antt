-- Where the machine of a progressive AC scan is, units are left: it has read complete elements, and a part of one more.
use Rattle.std.proofs.Common.{◌≡◌, ◌≤◌, Bool, List, [], ◌∷◌, length, sym, ◌∙◌, subst, arith, inl, inr, ℤ}
use Rattle.std.proofs.lemmas.List.{append-nil, length-map}
use Rattle.jpg_spec.specs.Parts.{StandsInUnits}
use Rattle.jpg_spec.specs.Scan.{unit_at}
use Rattle.jpg_spec.specs.declared.frame.Place.{Place}
use Rattle.jpg_coefs.specs.Picture.{Picture, map_of}
use Rattle.jpg_coefs.specs.Machine.{Interval, units_of, IsUnfinished, KeepsUnits}
use Rattle.jpg_prog_read.specs.declared.ac_reader.AcReader.{AcReader}
use Rattle.jpg_prog_read.specs.declared.stage.Stage.{Stage}
use Rattle.jpg_prog_read.specs.declared.stage.Stage.TheVariants as stage
use Rattle.jpg_prog_read.specs.Stands.{BetweenUnits, unit_left}
use Rattle.jpg_prog_read.specs.RepresentsAcScan.{units_at, place_of, RepresentsAcScan, progressive_ac}
use Rattle.jpg_prog_read.proofs.Due.{band_due, next_due}

not_ends : (g : Stage) → g ≡ stage.Code → g ≡ stage.Ends → ⊥
not_ends g e f = cc

-- before the first of them
pub next_stands : (m : AcReader) (i : Interval) (bits : List Bool) (whole : List ℤ) (due : List Place) → m.unit.stage ≡ stage.Code → 1 ≤ length due → BetweenUnits i.scan.coding (units_of i) whole (units_at i due) bits m.unit
    → StandsInUnits i.scan.coding (units_of i) whole (units_at i due) bits
next_stands m i bits whole [] code some between = absurd (omega (arith, some))
next_stands m i bits whole (p ∷ more) code some between =
    next_due m.unit i.scan.coding (units_of i) whole (unit_at i.scan (map_of i.before) p) (units_at i more) bits (λ e. absurd (not_ends m.unit.stage code e)) between

unfinished : (m : AcReader) (i : Interval) (bits : List Bool) (now : Picture) → RepresentsAcScan m i bits now → IsUnfinished i bits now m.left
unfinished m i bits now (inl b) =
    let w = b.between in
    let d = w.has_due in
    record {
      done = w.done;
      due = w.due;
      whole = w.whole;
      part = [];
      left = units_at i w.due;
      all = d.all;
      some = b.some;
      due_count = sym d.left;
      left_count = length-map w.due (unit_at i.scan (map_of i.before)) ∙ sym d.left;
      frame = d.frame;
      read = d.read;
      stands = subst (λ (l : List ℤ). StandsInUnits i.scan.coding (units_of i) l (units_at i w.due) bits) (sym (append-nil w.whole)) (next_stands m i bits w.whole w.due b.code (omega (arith, b.some, d.left)) w.between);
    }
unfinished m i bits now (inr u) =
    let d = u.has_due in
    record {
      done = u.done;
      due = u.next ∷ u.more;
      whole = u.whole;
      part = m.unit.done;
      left = unit_left (place_of i u.next u.more u.whole) m.unit ∷ units_at i u.more;
      all = d.all;
      some = omega (arith, d.left);
      due_count = sym d.left;
      left_count = omega (arith, d.left, length-map u.more (unit_at i.scan (map_of i.before)));
      frame = d.frame;
      read = d.read;
      stands = band_due m.scan m.unit u.goes_on (place_of i u.next u.more u.whole) bits u.stands;
    }

pub keeps_units : KeepsUnits AcReader progressive_ac
keeps_units = record { unfinished = unfinished; fits = fits; none_left = λ m i r. r.left }
  where
    fits : (m : AcReader) (i : Interval) (bits : List Bool) (now : Picture) → RepresentsAcScan m i bits now → progressive_ac.fits i
    fits m i bits now (inl b) = ((b.between).has_due).kind
    fits m i bits now (inr u) = (u.has_due).kind
