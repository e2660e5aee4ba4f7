use Rattle.std.proofs.Common.{true, ◌∙◌, sym, ap, subst}
use Rattle.std.specs.Prelude.{All}
use Rattle.jpg_coefs.specs.Sinks.{at}
use Rattle.jpg_coefs.specs.MarkSinks.{interval_marks}
use Rattle.jpg_prog_write.specs.Counted.{marks_of}
use Rattle.jpg_prog_write.specs.ScanSinks.{ac_counter, IsBandUnit, bands_left}
use Rattle.jpg_prog_write.proofs.Marks.{band_marks}
use Rattle.jpg_coefs.proofs.MarkSinks.{ends}
use Rattle.jpg_prog_write.proofs.count.AcCounterUnitSinkSymbolCountsUnit.end.Goals as goal

pub count_end-requires-clause-ready : goal.count_end-requires-clause-ready
count_end-requires-clause-ready c = c.requires.open.1.sink.1.ready

pub count_end-requires-clause-counts : goal.count_end-requires-clause-counts
count_end-requires-clause-counts c = c.requires.open.1.counting.done.counts

pub count_end-requires-clause-slot : goal.count_end-requires-clause-slot
count_end-requires-clause-slot c = c.requires.open.1.sink.3

pub no_bands-self-requires : goal.no_bands-self-requires
no_bands-self-requires c = c.requires.open.1.sink.1.ac

pub returns : goal.returns
returns c =
    let s = c.args.self.now in
    ends ac_counter c.args.marker (at s c.args.counts.now c.args.desk.now) (at (record s { bands = c.no_bands-self.result }) c.count_end.new.counts c.args.desk.now) (λ last. c.count_end.ensures)
    (λ from due same fits. (
      (same.0, c.no_bands-self.ensures.bands, same.2, same.3),
      ap (λ slot. marks_of slot (bands_left c.no_bands-self.result due)) same.2
          ∙ band_marks s.head.now c.no_bands-self.result due c.no_bands-self.ensures.bands c.no_bands-self.ensures.none (subst (λ h. All (IsBandUnit h) due) (sym (ap (λ h. h.now) same.0)) fits) ∙ ap (λ h. interval_marks true h.now due) same.0,
    ))
