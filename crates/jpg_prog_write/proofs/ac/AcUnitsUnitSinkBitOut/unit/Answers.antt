use Rattle.std.proofs.Common.{◌∙◌, sym, subst}
use Rattle.std.proofs.lemmas.List.Elements.{All-head}
use Rattle.jpg_spec_write.specs.ScanText.{UnitDue}
use Rattle.jpg_coefs.specs.Sinks.{at}
use Rattle.jpg_coefs.proofs.BitSinks.{takes_unit}
use Rattle.jpg_prog_write.specs.Bands.{IsBandOf}
use Rattle.jpg_prog_write.specs.ScanSinks.{ac_units}
use Rattle.jpg_prog_write.proofs.BandUnits.{band_puts}
use Rattle.jpg_prog_write.proofs.ac.AcUnitsUnitSinkBitOut.unit.Goals as goal

pub begin-requires-clause-ready : goal.begin-requires-clause-ready
begin-requires-clause-ready g c = c.requires.2.sink.2.ready

pub begin-requires-clause-short : goal.begin-requires-clause-short
begin-requires-clause-short g c =
    let d = c.requires.0 in
    (All-head (ac_units.fits d.from.sink) (c.args.unit.component, c.args.unit.block.now) d.rest c.requires.2.rest_fits).short

pub returns : goal.returns
returns g c =
    let state = g.D.Desk.state in
    let s = c.args.self.now in
    let new = c.put_band.new.bands in
    let u : UnitDue = (c.args.unit.component, c.args.unit.block.now) in
    let same_band = c.put_band.ensures.band ∙ c.begin.ensures.band in
    takes_unit ac_units state u c.args.unit.last (at s c.args.out.now c.args.desk.now) (at (record s { bands = new }) c.put_band.new.out c.put_band.new.desk) c.put_band.result
    (λ from lasts rest same fits e. (
      (λ v k. (same.0, same.1, record { ac = same.2.ac; ready = c.put_band.ensures.ready v k; band = subst (IsBandOf s.head.now) (sym same_band) same.2.band }, same.3)),
      band_puts (state c.args.desk.now) (state c.put_band.new.desk) c.args.out.now c.put_band.new.out _ s.bands c.begin.new.self new u rest c.put_band.result c.put_band.ensures.band c.begin.ensures.band c.begin.ensures.left c.put_band.ensures.puts,
    ))
