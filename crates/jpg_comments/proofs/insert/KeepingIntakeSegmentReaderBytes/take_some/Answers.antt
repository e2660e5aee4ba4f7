use Rattle.std.proofs.Common.{◌∙◌, ◌+◌, ◌++◌, ◌<◌, ◌≤◌, take, ap, sym, subst}
use Rattle.jpg_spec.specs.declared.frame.Limits.{Limits}
use Rattle.jpg_markers.specs.Reading.{reading_of}
use Rattle.jpg_comments.specs.Inserting.{AfterHead}
use Rattle.jpg_comments.proofs.ByPiece.{one_more}
use Rattle.jpg_comments.proofs.HeadByBytes.{kept_some}
use Rattle.jpg_comments.proofs.WholeSegments.{kept_by, stopped_some}
use Rattle.jpg_comments.proofs.InsertedPieces.{some_more}
use Rattle.jpg_comments.proofs.insert.KeepingIntakeSegmentReaderBytes.take_some.Goals as goal

pub returns-clause-takes : goal.returns-clause-takes
returns-clause-takes c = λ from bytes h.
    let replace = c.args.self.now.replace in
    let mid = reading_of c.pass_some-n.new.reader in
    let some = c.args.bytes.now in
    let n = c.pass_some-n.result in
    let pass = c.pass_some-n.ensures in
    let same = c.read_byte.ensures.limits ∙ pass.limits in (
      same ∙ h.0,
      ap (λ (l : Limits). l.input) same ∙ h.1,
      c.read_byte.ensures.room,
      some_more bytes some n c.read_byte.result pass.less,
      λ limits before k.
          (let front = before ++ bytes in
          subst (λ l. AfterHead limits replace l c.read_byte.result c.read_byte.new.head (reading_of c.read_byte.new.reader)) (one_more before bytes some n pass.less)
          (c.read_byte.ensures.answered limits (front ++ take n some)
          (kept_some limits replace (reading_of c.args.reader.now) mid front c.args.head.now some n (h.4 limits before k) (subst (λ m. mid.taken < m) (sym h.1) pass.room) pass.limits pass.taken pass.passes))),
    )

pub returns-in-Some-clause-takes : goal.returns-in-Some-clause-takes
returns-in-Some-clause-takes c = λ from bytes h.
    let replace = c.args.self.now.replace in
    let r = reading_of c.args.reader.now in
    let some = c.args.bytes.now in
    let s = c.in-Some.segment in
    let is = c.in-Some.ensures in
    let same = c.take_segment.ensures.limits in
    let room = subst (λ m. r.taken + s.length ≤ m) (sym h.1) is.room in (
      same ∙ h.0,
      ap (λ (l : Limits). l.input) same ∙ h.1,
      c.take_segment.ensures.room h.2,
      stopped_some bytes some s.length c.take_segment.result is.within.0 is.within.1,
      λ limits before k. kept_by limits replace r (reading_of c.take_segment.new.reader) before bytes c.args.head.now c.take_segment.new.head some s c.take_segment.result (h.4 limits before k)
          c.take_segment.ensures.takes is.spelled is.other is.within.1 room,
    )
