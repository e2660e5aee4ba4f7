use Rattle.std.proofs.Common.{ℕ, [], Ok, Err, ◌∙◌, refl, subst}
use Rattle.jpg_desk.specs.Judging.{NoValueTaken}
use Rattle.jpg_desk.specs.ReadFront.{EndsFront, front_judging}
use Rattle.jpg_desk.specs.declared.front.FrontSink.{FrontSink}
use Rattle.jpg_desk.proofs.FrontTaken.{front_fed, front_pumped, front_taken}
use Rattle.jpg_desk.proofs.front.take_front.Goals as goal

pub pump-requires-clause-can : goal.pump-requires-clause-can
pump-requires-clause-can g c =
    let s = g.D.Desk.state c.args.desk.now in
    let e = c.new.ensures in
    let front : FrontSink = record { preview = c.new.result; gray = c.args.gray } in
    ((front, s), [], refl, front_fed front s e.viewed (e.limits ∙ c.standard.ensures))

pub take-requires : goal.take-requires
take-requires g c =
    let state = g.D.Desk.state in
    let e = c.new.ensures in
    let front : FrontSink = record { preview = c.new.result; gray = c.args.gray } in
    (front_pumped front (state c.args.desk.now) (Ok c.in-Ok.early) (c.pump.new.sink, state c.pump.new.desk) e.viewed (e.limits ∙ c.standard.ensures) c.in-Ok.ensures).reads.0.3.done

pub returns-in-Ok-clause-kept : goal.returns-in-Ok-clause-kept
returns-in-Ok-clause-kept g c =
    let state = g.D.Desk.state in
    let e = c.new.ensures in
    let front : FrontSink = record { preview = c.new.result; gray = c.args.gray } in
    (front_pumped front (state c.args.desk.now) (Ok c.in-Ok.early) (c.pump.new.sink, state c.pump.new.desk) e.viewed (e.limits ∙ c.standard.ensures) c.in-Ok.ensures).kept

pub returns-in-Ok-clause-read : goal.returns-in-Ok-clause-read
returns-in-Ok-clause-read g c =
    let state = g.D.Desk.state in
    let e = c.new.ensures in
    let front : FrontSink = record { preview = c.new.result; gray = c.args.gray } in
    let h = front_pumped front (state c.args.desk.now) (Ok c.in-Ok.early) (c.pump.new.sink, state c.pump.new.desk) e.viewed (e.limits ∙ c.standard.ensures) c.in-Ok.ensures in
    let t = h.reads.0 in
    let is = t.3 in
    subst (λ (n : ℕ). EndsFront n c.args.gray (state c.args.desk.now) (Ok (c.take.result, c.in-Ok.early)) (state c.pump.new.desk)) e.scans
    (front_taken c.new.result.scans c.args.gray (state c.args.desk.now) (state c.pump.new.desk) c.pump.new.sink.preview.reader c.take.result c.in-Ok.early is.limits (is.keeping ∙ e.keeping) c.take.ensures.meaning c.take.ensures.early
    (t.0, t.1, t.2, is.holds) h.reads.1)

pub returns-clause-kept : goal.returns-clause-kept
returns-clause-kept g c =
    let state = g.D.Desk.state in
    let e = c.new.ensures in
    let front : FrontSink = record { preview = c.new.result; gray = c.args.gray } in
    (front_pumped front (state c.args.desk.now) (Err c.in-Err.why) (c.pump.new.sink, state c.pump.new.desk) e.viewed (e.limits ∙ c.standard.ensures) c.in-Err.ensures).kept

pub returns-clause-read : goal.returns-clause-read
returns-clause-read g c =
    let state = g.D.Desk.state in
    let e = c.new.ensures in
    let front : FrontSink = record { preview = c.new.result; gray = c.args.gray } in
    let h = front_pumped front (state c.args.desk.now) (Err c.in-Err.why) (c.pump.new.sink, state c.pump.new.desk) e.viewed (e.limits ∙ c.standard.ensures) c.in-Err.ensures in
    subst (λ (n : ℕ). NoValueTaken (front_judging n c.args.gray) (state c.args.desk.now) c.in-Err.why (state c.pump.new.desk)) e.scans h.reads
