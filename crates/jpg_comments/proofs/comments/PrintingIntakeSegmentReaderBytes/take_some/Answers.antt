use Rattle.std.proofs.Common.{◌∙◌, ◌++◌, ◌+◌, ◌<◌, take, ap, sym, subst}
use Rattle.jpg_spec.specs.declared.frame.Limits.{Limits}
use Rattle.jpg_markers.specs.Reading.{reading_of}
use Rattle.jpg_comments.specs.SegmentsSoFar.{Appends}
use Rattle.jpg_comments.specs.Printing.{HasPrinted, AfterPrinted}
use Rattle.jpg_comments.proofs.Taken.{appends_then}
use Rattle.jpg_comments.proofs.ByByte.{printed_some}
use Rattle.jpg_comments.proofs.ByPiece.{one_more}
use Rattle.jpg_comments.proofs.comments.PrintingIntakeSegmentReaderBytes.take_some.Goals as goal

pub returns-clause-takes : goal.returns-clause-takes
returns-clause-takes c = λ from bytes h.
    let old = reading_of c.args.reader.now in
    let mid = reading_of c.pass_some-n.new.reader in
    let new = reading_of c.read_byte.new.reader in
    let had = c.args.out.now in
    let some = c.args.bytes.now in
    let n = c.pass_some-n.result in
    let pass = c.pass_some-n.ensures in
    let same = c.read_byte.ensures.limits ∙ pass.limits in (
      same ∙ h.0,
      ap (λ (l : Limits). l.input) same ∙ h.1,
      c.read_byte.ensures.room,
      λ limits before text k.
          (let front = before ++ bytes in
          appends_then (λ t. HasPrinted limits front t old) (λ t. AfterPrinted limits (before ++ (bytes ++ take (n + 1) some)) t c.read_byte.result new) text from.1 had c.read_byte.new.out (h.3 limits before text k)
          (λ t p. subst (λ l. Appends (λ u. AfterPrinted limits l u c.read_byte.result new) t had c.read_byte.new.out) (one_more before bytes some n pass.less)
          (c.read_byte.ensures.answered limits (front ++ take n some) t (printed_some limits old mid front t some n p (subst (λ m. mid.taken < m) (sym h.1) pass.room) pass.limits pass.taken pass.passes)))),
    )
