use Rattle.std.proofs.Common.{true, ◌∙◌, ap}
use Rattle.jpg_coefs.specs.Sinks.{at}
use Rattle.jpg_coefs.specs.MarkSinks.{owned_marks, interval_marks}
use Rattle.jpg_prog_write.specs.ScanSinks.{dc_counter}
use Rattle.jpg_prog_write.proofs.DcUnits.{first_all}
use Rattle.jpg_huff.proofs.Marks.{notes_nothing}
use Rattle.jpg_coefs.proofs.MarkSinks.{ends}
use Rattle.jpg_prog_write.proofs.count.DcCounterUnitSinkSymbolCountsUnit.end.Goals as goal

pub returns : goal.returns
returns c =
    let s = c.args.self.now in
    let now = at s c.args.counts.now c.args.desk.now in
    ends dc_counter c.args.marker now now (λ last. notes_nothing c.args.counts.now c.requires.open.1.counting.done.counts)
    (λ from due h fits. (h, first_all (owned_marks s.head.now) s.head.now due h.1.dc ∙ ap (λ s. interval_marks true s.head.now due) h.0))
