use Rattle.std.proofs.Common.{◌≡◌, ◌++◌, length, take, Bool, Ok, sym, ◌∙◌, subst, inl, inr}
use Rattle.std.proofs.lemmas.List.{length-take-le}
use Rattle.jpg_desk.specs.Pump.{AfterFeed}
use Rattle.jpg_desk.proofs.Pumped.{before_end, before_next, goes_on_next, unread_now}
use Rattle.jpg_desk.proofs.pieces.pump_on.Goals as goal

pub end-requires : goal.end-requires
end-requires g c =
    let can = c.requires.can in
    let so = c.loop-sink.invariant.fed can.0 can.1 can.2 can.3 in
    (can.0, so.0, before_end g.S.PieceSink.kind c.read_within.new.buffer so.2 c.in-End.ensures.read)

pub returns-in-End : goal.returns-in-End
returns-in-End g c = λ from bytes long fed.
    let so = c.loop-sink.invariant.fed from bytes long fed in
    inl (c.end.ensures from so.0 (before_end g.S.PieceSink.kind c.read_within.new.buffer so.2 c.in-End.ensures.read))

pub returns-in-Failed : goal.returns-in-Failed
returns-in-Failed g c = λ from bytes long fed.
    let so = c.loop-sink.invariant.fed from bytes long fed in
    inr (unread_now g.S.PieceSink.kind c.read_within.new.buffer so.2 c.in-Failed.ensures.read)

pub feed-requires : goal.feed-requires
feed-requires g c =
    let can = c.requires.can in
    let i = c.loop-sink.invariant in
    let so = i.fed can.0 can.1 can.2 can.3 in
    let e = c.in-Bytes.ensures in
    (can.0, so.0, before_next g.S.PieceSink.kind c.in-Bytes.count c.loop-sink.taken c.read_within.new.buffer c.most-most.result i.most i.short (c.read_within.auto.buffer ∙ i.room) so.1 so.2 e.within i.opened e.read)

pub returns-in-Err : goal.returns-in-Err
returns-in-Err g c = λ from bytes long fed.
    let i = c.loop-sink.invariant in
    let so = i.fed from bytes long fed in
    let e = c.in-Bytes.ensures in
    inl (
    c.in-Err.ensures.fed from so.0
    (before_next g.S.PieceSink.kind c.in-Bytes.count c.loop-sink.taken c.read_within.new.buffer c.most-most.result i.most i.short (c.read_within.auto.buffer ∙ i.room) so.1 so.2 e.within i.opened e.read)
    )

pub returns-then-whole : goal.returns-then-whole
returns-then-whole g c = λ from bytes long fed.
    let k = g.S.PieceSink.kind in
    let i = c.loop-sink.invariant in
    let so = i.fed from bytes long fed in
    let e = c.in-Bytes.ensures in
    let piece = take c.in-Bytes.count c.read_within.new.buffer in
    let before = before_next k c.in-Bytes.count c.loop-sink.taken c.read_within.new.buffer c.most-most.result i.most i.short (c.read_within.auto.buffer ∙ i.room) so.1 so.2 e.within i.opened e.read in
    inl (subst (λ (whole : Bool). AfterFeed k from (so.0 ++ piece) (Ok whole) (c.feed.new.self, g.D.Desk.state c.feed.new.desk)) c.if-whole.true (c.in-Ok.ensures.fed from so.0 before))

pub loop-sink-preserved : goal.loop-sink-preserved
loop-sink-preserved g c =
    let k = g.S.PieceSink.kind in
    let i = c.loop-sink.invariant in
    let e = c.in-Bytes.ensures in
    let n = c.from-taken.result in
    let buf = c.read_within.new.buffer in
    let room = c.read_within.auto.buffer ∙ i.room in
    let piece = take c.in-Bytes.count buf in
    let long : length piece ≡ n = length-take-le c.in-Bytes.count buf e.read.after.1 ∙ sym c.from-taken.ensures in
    let next =
    goes_on_next k n c.most-most.result piece c.in-Ok.whole long (λ from bytes has fed. before_next k c.in-Bytes.count c.loop-sink.taken buf c.most-most.result i.most i.short room has fed e.within i.opened e.read) c.in-Ok.ensures.fed c.if-whole.false i.most c.in-Ok.ensures.most i.fed
    c.requires.can in
    record { fed = next.0; opened = next.1; most = i.most ∙ sym c.in-Ok.ensures.most; short = next.2; room = room }
