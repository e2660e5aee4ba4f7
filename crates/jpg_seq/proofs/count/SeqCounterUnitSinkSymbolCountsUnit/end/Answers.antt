use Rattle.std.proofs.Common.{ap}
use Rattle.jpg_coefs.specs.Sinks.{at, no_last}
use Rattle.jpg_coefs.proofs.MarkSinks.{ends}
use Rattle.jpg_huff.proofs.Marks.{notes_nothing}
use Rattle.jpg_seq.specs.ScanWritten.{due_marks, seq_counter}
use Rattle.jpg_seq.proofs.count.SeqCounterUnitSinkSymbolCountsUnit.end.Goals as goal

pub returns : goal.returns
returns c =
    let now = at c.args.self.now c.args.counts.now c.args.desk.now in
    ends seq_counter c.args.marker now now (λ last. notes_nothing c.args.counts.now c.requires.open.1.counting.done.counts) (λ from due h fits. (h, ap (λ s. due_marks s.head.now no_last due) h))
