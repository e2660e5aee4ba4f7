use Rattle.std.proofs.Common.{Bool, Err, List, Ok, [], refl, subst, sym, ℕ}
use Rattle.jpg_desk.specs.Pump.{AfterTaking}
use Rattle.jpg_desk.specs.RowsRead.{IsPutInPiece, rows_reader}
use Rattle.jpg_desk.specs.declared.rows_read.RowsRead.{RowsRead}
use Rattle.jpg_desk.proofs.RowsFrom.{counted_left, first_fed, first_stopped, first_whole, puts_begin, rest_read, rest_whole}
use Rattle.jpg_desk.proofs.rows_read.read_rows.Goals as goal

pub take_rows-requires : goal.take_rows-requires
take_rows-requires g c =
    let b = c.requires.began.1.1 in
    let s : RowsRead = record { head = c.args.head; reader = c.args.front.reader; to = c.args.to } in
    (s, b.bytes, subst (λ (l : List ℕ). IsPutInPiece s b.bytes l c.args.front.answer s) (sym c.as_slice.ensures) (puts_begin b s refl refl c.requires.none))

pub returns-in-Err : goal.returns-in-Err
returns-in-Err g c = λ keeping start b.
    (let s : RowsRead = record { head = c.args.head; reader = c.args.front.reader; to = c.args.to } in
    let p = subst (λ (l : List ℕ). IsPutInPiece s b.bytes l c.args.front.answer s) (sym c.as_slice.ensures) (puts_begin b s refl refl c.requires.none) in
    (b.kept, first_stopped b s c.take_rows.new.self c.in-Err.why (c.in-Err.ensures s b.bytes p)))

pub returns-then-whole : goal.returns-then-whole
returns-then-whole g c = λ keeping start b.
    (let s : RowsRead = record { head = c.args.head; reader = c.args.front.reader; to = c.args.to } in
    let p = subst (λ (l : List ℕ). IsPutInPiece s b.bytes l c.args.front.answer s) (sym c.as_slice.ensures) (puts_begin b s refl refl c.requires.none) in
    let a = subst (λ (w : Bool). AfterTaking rows_reader s b.bytes (Ok w) c.take_rows.new.self) c.if-whole.true (c.in-Ok.ensures s b.bytes p) in
    (b.kept, first_whole b refl b.keeps (a [])))

pub overflow_sub-taken : goal.overflow_sub-taken
overflow_sub-taken g c =
    let start = c.requires.began.1.0 in
    let b = c.requires.began.1.1 in
    let s : RowsRead = record { head = c.args.head; reader = c.args.front.reader; to = c.args.to } in
    let p = subst (λ (l : List ℕ). IsPutInPiece s b.bytes l c.args.front.answer s) (sym c.as_slice.ensures) (puts_begin b s refl refl c.requires.none) in
    let a = subst (λ (w : Bool). AfterTaking rows_reader s b.bytes (Ok w) c.take_rows.new.self) c.if-whole.false (c.in-Ok.ensures s b.bytes p) in
    (counted_left c.deref.result.now c.standard.result c.room.result a.0 c.deref.ensures c.standard.ensures c.room.ensures.is a.1).0

pub pump_on-requires-clause-can : goal.pump_on-requires-clause-can
pump_on-requires-clause-can g c =
    let start = c.requires.began.1.0 in
    let b = c.requires.began.1.1 in
    let s : RowsRead = record { head = c.args.head; reader = c.args.front.reader; to = c.args.to } in
    let p = subst (λ (l : List ℕ). IsPutInPiece s b.bytes l c.args.front.answer s) (sym c.as_slice.ensures) (puts_begin b s refl refl c.requires.none) in
    let a = subst (λ (w : Bool). AfterTaking rows_reader s b.bytes (Ok w) c.take_rows.new.self) c.if-whole.false (c.in-Ok.ensures s b.bytes p) in
    let n = counted_left c.deref.result.now c.standard.result c.room.result a.0 c.deref.ensures c.standard.ensures c.room.ensures.is a.1 in
    ((s, start), b.bytes, n.1, first_fed b s c.take_rows.new.self a.0 a.1)

pub returns-in-Err-pump_on : goal.returns-in-Err-pump_on
returns-in-Err-pump_on g c = λ keeping start b.
    (let s : RowsRead = record { head = c.args.head; reader = c.args.front.reader; to = c.args.to } in
    let p = subst (λ (l : List ℕ). IsPutInPiece s b.bytes l c.args.front.answer s) (sym c.as_slice.ensures) (puts_begin b s refl refl c.requires.none) in
    let a = subst (λ (w : Bool). AfterTaking rows_reader s b.bytes (Ok w) c.take_rows.new.self) c.if-whole.false (c.in-Ok.ensures s b.bytes p) in
    let n = counted_left c.deref.result.now c.standard.result c.room.result a.0 c.deref.ensures c.standard.ensures c.room.ensures.is a.1 in
    let r = rest_read s start (Err c.in-Err-pump_on.why) (c.in-Err-pump_on.ensures (s, start) b.bytes n.1 (first_fed b s c.take_rows.new.self a.0 a.1)) in
    (r.kept, r.reads))

pub returns : goal.returns
returns g c = λ keeping start b.
    (let s : RowsRead = record { head = c.args.head; reader = c.args.front.reader; to = c.args.to } in
    let p = subst (λ (l : List ℕ). IsPutInPiece s b.bytes l c.args.front.answer s) (sym c.as_slice.ensures) (puts_begin b s refl refl c.requires.none) in
    let a = subst (λ (w : Bool). AfterTaking rows_reader s b.bytes (Ok w) c.take_rows.new.self) c.if-whole.false (c.in-Ok.ensures s b.bytes p) in
    let n = counted_left c.deref.result.now c.standard.result c.room.result a.0 c.deref.ensures c.standard.ensures c.room.ensures.is a.1 in
    let r = rest_read s start (Ok c.in-Ok-pump_on.early) (c.in-Ok-pump_on.ensures (s, start) b.bytes n.1 (first_fed b s c.take_rows.new.self a.0 a.1)) in
    (r.kept, rest_whole s start c.in-Ok-pump_on.early refl b.keeps r))
