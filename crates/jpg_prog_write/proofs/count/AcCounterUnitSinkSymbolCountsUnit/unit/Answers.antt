use Rattle.std.proofs.Common.{◌++◌, ◌∙◌, sym, ap, subst}
use Rattle.std.proofs.lemmas.List.Elements.{All-head}
use Rattle.std.specs.Prelude.{map}
use Rattle.jpg_spec_write.specs.ScanText.{UnitDue}
use Rattle.jpg_coefs.specs.Sinks.{at}
use Rattle.jpg_prog_write.specs.Bands.{IsBandOf, band_sents, elements_waiting}
use Rattle.jpg_prog_write.specs.Counted.{marks_of}
use Rattle.jpg_prog_write.specs.ScanSinks.{ac_counter}
use Rattle.jpg_coefs.proofs.MarkSinks.{takes_unit}
use Rattle.jpg_prog_write.proofs.count.AcCounterUnitSinkSymbolCountsUnit.unit.Goals as goal

pub begin-requires-clause-ready : goal.begin-requires-clause-ready
begin-requires-clause-ready c = c.requires.2.sink.1.ready

pub begin-requires-clause-short : goal.begin-requires-clause-short
begin-requires-clause-short c =
    let d = c.requires.0 in
    (All-head (ac_counter.fits d.from.sink) (c.args.unit.component, c.args.unit.block.now) d.rest c.requires.2.rest_fits).short

pub count_band-requires-clause-counts : goal.count_band-requires-clause-counts
count_band-requires-clause-counts c = c.requires.2.counting.done.counts

pub count_band-requires-clause-slot : goal.count_band-requires-clause-slot
count_band-requires-clause-slot c = c.requires.2.sink.3

pub returns : goal.returns
returns c =
    let s = c.args.self.now in
    let new = c.count_band.new.bands in
    let same_band = c.count_band.ensures.band ∙ c.begin.ensures.band in
    takes_unit ac_counter (c.args.unit.component, c.args.unit.block.now) c.args.unit.last (at s c.args.counts.now c.args.desk.now) (at (record s { bands = new }) c.count_band.new.counts c.args.desk.now)
    (λ from lasts rest same fits e.
    let later = map (λ (v : UnitDue). band_sents s.bands.band v.1) rest in
    let done = c.count_band.ensures.notes later in
    let joined = ap (marks_of s.slot) (c.begin.ensures.left later) ∙ sym done.joined ∙ ap (λ band. done.front ++ marks_of s.slot (elements_waiting new (map (λ (v : UnitDue). band_sents band v.1) rest))) (sym same_band) in (
      (same.0, record { ac = same.1.ac; ready = c.count_band.ensures.ready; band = subst (IsBandOf s.head.now) (sym same_band) same.1.band }, same.2, same.3),
      done.front,
      joined,
      done.done,
    ))
