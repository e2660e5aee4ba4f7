use Rattle.std.proofs.Common.{◌∙◌, sym, ap, subst, true}
use Rattle.std.proofs.lemmas.Result.{err_from_is_err_and}
use Rattle.std.specs.Prelude.{All}
use Rattle.jpg_coefs.specs.Sinks.{at}
use Rattle.jpg_coefs.specs.BitSinks.{interval_bits}
use Rattle.jpg_coefs.proofs.BitSinks.{ends, ends_fault}
use Rattle.jpg_prog_write.specs.Items.{texts}
use Rattle.jpg_prog_write.specs.Written.{codes_in, tables_in}
use Rattle.jpg_prog_write.specs.ScanSinks.{ac_units, IsBandUnit, bands_left}
use Rattle.jpg_prog_write.proofs.BandUnits.{band_texts}
use Rattle.jpg_prog_write.proofs.ac.AcUnitsUnitSinkBitOut.end.Goals as goal

pub put_end-requires-clause-ready : goal.put_end-requires-clause-ready
put_end-requires-clause-ready g c = c.requires.open.1.sink.2.ready

pub no_bands-self-requires : goal.no_bands-self-requires
no_bands-self-requires g c = c.requires.open.1.sink.2.ac

pub returns-in_err-put_end : goal.returns-in_err-put_end
returns-in_err-put_end g c =
    let state = g.D.Desk.state in
    let s = c.args.self.now in
    let back = err_from_is_err_and c.from_residual.result c.from_residual.ensures.1 in
    rw (back.1, back.2) (ends_fault ac_units state c.args.marker (at s c.args.out.now c.args.desk.now) (at (record s { bands = c.put_end.new.bands }) c.put_end.new.out c.put_end.new.desk) c.in_err-put_end.field-0.0 (λ last. c.in_err-put_end.ensures))

pub returns : goal.returns
returns g c =
    let state = g.D.Desk.state in
    let s = c.args.self.now in
    let head = s.head.now in
    ends ac_units state c.args.marker (at s c.args.out.now c.args.desk.now) (at s c.put_end.new.out c.put_end.new.desk) (at (record s { bands = c.no_bands-self.result }) c.end_interval.new.out c.end_interval.new.desk) c.end_interval.result (λ last. c.in_ok-put_end.ensures)
    c.end_interval.ensures
    (λ from due same fits. (
      (same.0, same.1, c.no_bands-self.ensures.bands, same.3),
      ap (λ slot. texts (codes_in s.codes.tables.now 1 slot) (bands_left c.no_bands-self.result due)) same.3
          ∙ band_texts s.codes.tables.now head c.no_bands-self.result due c.no_bands-self.ensures.bands c.no_bands-self.ensures.none (subst (λ h. All (IsBandUnit h) due) (sym (ap (λ h. h.now) same.0)) fits)
          ∙ ap (λ h. interval_bits true (tables_in s.codes.tables.now) h.now due) same.0 ∙ ap (λ t. interval_bits true (tables_in t.now) from.head.now due) same.1,
    ))
