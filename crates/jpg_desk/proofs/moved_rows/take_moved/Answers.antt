use Rattle.std.proofs.Common.{Err, Ok, Some, [], ap, refl, subst, sym, ◌∙◌}
use Rattle.jpg_spec.specs.Meaning.{Meaning}
use Rattle.jpg_file.specs.Read.File.{keeping_of}
use Rattle.jpg_file.specs.Read.ReadFile.{ReaderState, HasBegunRows}
use Rattle.jpg_file.specs.declared.read.pieces.FedRow.TheVariants as fed
use Rattle.jpg_desk.specs.ReadPicture.{Coefficients, HoldsPicture}
use Rattle.jpg_desk.specs.RowsRead.{rows_front}
use Rattle.jpg_desk.specs.declared.rows_read.RowsFront.{RowsFront}
use Rattle.jpg_desk.proofs.PictureTaken.{picture_taken}
use Rattle.jpg_desk.proofs.Pumped.{fed_none}
use Rattle.jpg_desk.proofs.RowsFrom.{front_none, front_unread, goes_on, head_rows, no_head_plain, none_read_yet, told_at}
use Rattle.jpg_desk.proofs.RowsFront.{some_not_none}
use Rattle.jpg_desk.proofs.moved_rows.take_moved.Goals as goal

pub pump-requires-clause-can : goal.pump-requires-clause-can
pump-requires-clause-can g c =
    let s : RowsFront = record { reader = c.in-Ok.reader; piece = c.new.result; answer = Ok fed.More } in
    let start = g.D.Desk.state c.args.desk.now in
    ((s, start), [], refl, fed_none RowsFront Meaning rows_front s start (front_none s c.in-Ok.ensures.is c.new.ensures))

pub returns-in_default-clause-read : goal.returns-in_default-clause-read
returns-in_default-clause-read g c = (let some = c.boxed_reader.ensures.some in none_read_yet some.0 (g.D.Desk.state c.args.desk.now) some.1)

pub returns-in-Err-clause-kept : goal.returns-in-Err-clause-kept
returns-in-Err-clause-kept g c =
    let s : RowsFront = record { reader = c.in-Ok.reader; piece = c.new.result; answer = Ok fed.More } in
    let start = g.D.Desk.state c.args.desk.now in
    let begun = fed_none RowsFront Meaning rows_front s start (front_none s c.in-Ok.ensures.is c.new.ensures) in
    (front_unread s start (Err c.in-Err.why) (c.in-Err.ensures (s, start) [] refl begun)).kept

pub returns-in-Err-clause-read : goal.returns-in-Err-clause-read
returns-in-Err-clause-read g c =
    let s : RowsFront = record { reader = c.in-Ok.reader; piece = c.new.result; answer = Ok fed.More } in
    let start = g.D.Desk.state c.args.desk.now in
    let begun = fed_none RowsFront Meaning rows_front s start (front_none s c.in-Ok.ensures.is c.new.ensures) in
    (front_unread s start (Err c.in-Err.why) (c.in-Err.ensures (s, start) [] refl begun)).reads

pub take-requires-clause-done : goal.take-requires-clause-done
take-requires-clause-done g c =
    let s : RowsFront = record { reader = c.in-Ok.reader; piece = c.new.result; answer = Ok fed.More } in
    let start = g.D.Desk.state c.args.desk.now in
    let begun = fed_none RowsFront Meaning rows_front s start (front_none s c.in-Ok.ensures.is c.new.ensures) in
    let r = front_unread s start (Ok c.in-Ok-pump.early) (c.in-Ok-pump.ensures (s, start) [] refl begun) in
    let p =
    no_head_plain c.in-Ok-pump.early r.reads.0.0 (λ all b. c.in-None.ensures.some all (subst (λ (x : ReaderState). HasBegunRows all x) (sym c.deref.ensures) b)) r.reads.0.3 in
    ap (λ (x : ReaderState). x.done) c.deref_mut.ensures.value ∙ p.done

pub take-requires-clause-plain : goal.take-requires-clause-plain
take-requires-clause-plain g c =
    let s : RowsFront = record { reader = c.in-Ok.reader; piece = c.new.result; answer = Ok fed.More } in
    let start = g.D.Desk.state c.args.desk.now in
    let begun = fed_none RowsFront Meaning rows_front s start (front_none s c.in-Ok.ensures.is c.new.ensures) in
    let r = front_unread s start (Ok c.in-Ok-pump.early) (c.in-Ok-pump.ensures (s, start) [] refl begun) in
    let p =
    no_head_plain c.in-Ok-pump.early r.reads.0.0 (λ all b. c.in-None.ensures.some all (subst (λ (x : ReaderState). HasBegunRows all x) (sym c.deref.ensures) b)) r.reads.0.3 in
    ap (λ (x : ReaderState). x.rows) c.deref_mut.ensures.value ∙ p.none

pub take_rows-requires-clause-open : goal.take_rows-requires-clause-open
take_rows-requires-clause-open g c =
    let s : RowsFront = record { reader = c.in-Ok.reader; piece = c.new.result; answer = Ok fed.More } in
    let start = g.D.Desk.state c.args.desk.now in
    let begun = fed_none RowsFront Meaning rows_front s start (front_none s c.in-Ok.ensures.is c.new.ensures) in
    let r = front_unread s start (Ok c.in-Ok-pump.early) (c.in-Ok-pump.ensures (s, start) [] refl begun) in
    r.reads.2 (λ e. some_not_none (sym c.in-Some.is ∙ c.strip.ensures.none (ap (λ (x : ReaderState). x.rows) c.deref.ensures ∙ e)))

pub take_rows-requires-clause-began : goal.take_rows-requires-clause-began
take_rows-requires-clause-began g c =
    let s : RowsFront = record { reader = c.in-Ok.reader; piece = c.new.result; answer = Ok fed.More } in
    let start = g.D.Desk.state c.args.desk.now in
    let begun = fed_none RowsFront Meaning rows_front s start (front_none s c.in-Ok.ensures.is c.new.ensures) in
    let r = front_unread s start (Ok c.in-Ok-pump.early) (c.in-Ok-pump.ensures (s, start) [] refl begun) in
    let h = head_rows c.in-Ok-pump.early r.reads.0.0 (λ e. some_not_none (sym c.in-Some.is ∙ c.strip.ensures.none (ap (λ (x : ReaderState). x.rows) c.deref.ensures ∙ e))) r.reads.0.3 in
    let told = told_at c.deref.result.now (c.pump.new.sink.reader).value (Some c.in-Some.head) c.deref.ensures c.in-Some.ensures.some in
    (start, goes_on s c.pump.new.sink start (g.D.Desk.state c.pump.new.desk) c.in-Some.head c.in-Ok.ensures.is.keeps told r.kept r.reads.0.0 r.reads.0.1 r.reads.0.2 r.reads.0.3.keeps h)

pub returns-in-None-clause-kept : goal.returns-in-None-clause-kept
returns-in-None-clause-kept g c =
    let s : RowsFront = record { reader = c.in-Ok.reader; piece = c.new.result; answer = Ok fed.More } in
    let start = g.D.Desk.state c.args.desk.now in
    let begun = fed_none RowsFront Meaning rows_front s start (front_none s c.in-Ok.ensures.is c.new.ensures) in
    let r = front_unread s start (Ok c.in-Ok-pump.early) (c.in-Ok-pump.ensures (s, start) [] refl begun) in
    r.kept

pub returns-in-None-clause-read : goal.returns-in-None-clause-read
returns-in-None-clause-read g c =
    let s : RowsFront = record { reader = c.in-Ok.reader; piece = c.new.result; answer = Ok fed.More } in
    let start = g.D.Desk.state c.args.desk.now in
    let begun = fed_none RowsFront Meaning rows_front s start (front_none s c.in-Ok.ensures.is c.new.ensures) in
    let r = front_unread s start (Ok c.in-Ok-pump.early) (c.in-Ok-pump.ensures (s, start) [] refl begun) in
    let p =
    no_head_plain c.in-Ok-pump.early r.reads.0.0 (λ all b. c.in-None.ensures.some all (subst (λ (x : ReaderState). HasBegunRows all x) (sym c.deref.ensures) b)) r.reads.0.3 in
    let is = c.deref_mut.ensures.value in
    let keeps = r.reads.0.3.keeps in (
      c.take.result,
      refl,
      picture_taken Coefficients c.args.choice.now.copying start (g.D.Desk.state c.pump.new.desk) c.deref_mut.result.now c.take.result c.in-Ok-pump.early
          (ap (λ (x : ReaderState). x.limits) is ∙ keeps.limits) (ap (λ (x : ReaderState). keeping_of x.file) is ∙ keeps.keeping ∙ c.in-Ok.ensures.is.keeps) c.take.ensures.meaning c.take.ensures.early
          (r.reads.0.0, r.reads.0.1, r.reads.0.2, subst (λ (x : ReaderState). HoldsPicture Coefficients x c.in-Ok-pump.early r.reads.0.0) (sym is) p.holds) r.reads.1,
    )

pub returns-in-Some-clause-kept : goal.returns-in-Some-clause-kept
returns-in-Some-clause-kept g c =
    let s : RowsFront = record { reader = c.in-Ok.reader; piece = c.new.result; answer = Ok fed.More } in
    let start = g.D.Desk.state c.args.desk.now in
    let begun = fed_none RowsFront Meaning rows_front s start (front_none s c.in-Ok.ensures.is c.new.ensures) in
    let r = front_unread s start (Ok c.in-Ok-pump.early) (c.in-Ok-pump.ensures (s, start) [] refl begun) in
    let h = head_rows c.in-Ok-pump.early r.reads.0.0 (λ e. some_not_none (sym c.in-Some.is ∙ c.strip.ensures.none (ap (λ (x : ReaderState). x.rows) c.deref.ensures ∙ e))) r.reads.0.3 in
    let told = told_at c.deref.result.now (c.pump.new.sink.reader).value (Some c.in-Some.head) c.deref.ensures c.in-Some.ensures.some in
    (c.take_rows.ensures start (goes_on s c.pump.new.sink start (g.D.Desk.state c.pump.new.desk) c.in-Some.head c.in-Ok.ensures.is.keeps told r.kept r.reads.0.0 r.reads.0.1 r.reads.0.2 r.reads.0.3.keeps h)).0

pub returns-in-Some-clause-read : goal.returns-in-Some-clause-read
returns-in-Some-clause-read g c =
    let s : RowsFront = record { reader = c.in-Ok.reader; piece = c.new.result; answer = Ok fed.More } in
    let start = g.D.Desk.state c.args.desk.now in
    let begun = fed_none RowsFront Meaning rows_front s start (front_none s c.in-Ok.ensures.is c.new.ensures) in
    let r = front_unread s start (Ok c.in-Ok-pump.early) (c.in-Ok-pump.ensures (s, start) [] refl begun) in
    let h = head_rows c.in-Ok-pump.early r.reads.0.0 (λ e. some_not_none (sym c.in-Some.is ∙ c.strip.ensures.none (ap (λ (x : ReaderState). x.rows) c.deref.ensures ∙ e))) r.reads.0.3 in
    let told = told_at c.deref.result.now (c.pump.new.sink.reader).value (Some c.in-Some.head) c.deref.ensures c.in-Some.ensures.some in
    (c.take_rows.ensures start (goes_on s c.pump.new.sink start (g.D.Desk.state c.pump.new.desk) c.in-Some.head c.in-Ok.ensures.is.keeps told r.kept r.reads.0.0 r.reads.0.1 r.reads.0.2 r.reads.0.3.keeps h)).1
