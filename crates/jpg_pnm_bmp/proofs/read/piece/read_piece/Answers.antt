use Rattle.std.proofs.Common.{rules, ◌+◌, ◌-◌, ◌++◌, length, take, drop, subst, arith}
use Rattle.std.proofs.Math.Logic.{∥∥₁_map}
use Rattle.jpg_pnm_bmp.specs.Pieces.{AfterSome, HasAll}
use Rattle.jpg_pnm_bmp.specs.declared.read.piece.Answer.{Answer}
use Rattle.jpg_pnm_bmp.specs.declared.read.piece.Answer.TheVariants as answer
use Rattle.jpg_pnm_bmp.proofs.PiecesFed.{bytes_more, further, made_asks, made_goes, made_read, place, some_led}
use Rattle.jpg_pnm_bmp.proofs.read.piece.read_piece.Goals as goal

pub loop-at-preserved : goal.loop-at-preserved
loop-at-preserved g c =
    let k = g.W.PieceWork.kind in
    let l = c.loop-at in
    let s = c.some-step in
    let rest = take (length c.args.piece.now - l.at) (drop l.at c.args.piece.now) in
    record {
      inside = further c.args.piece.now l.at s.result.used l.invariant.inside s.ensures.within;
      going = ∥∥₁_map l.invariant.going (λ r. (r.0 ++ take s.result.used rest, subst (λ (a : Answer). AfterSome k (r.0 ++ take s.result.used rest) (r.0 ++ rest) a s.new.self) c.in-More.is (s.ensures.led r.0 r.1)));
      stands = λ bytes h. some_led k bytes c.args.piece.now l.at s.result.used s.result.answer answer.More s.new.self c.in-More.is (s.ensures.led (bytes ++ take l.at c.args.piece.now) (l.invariant.stands bytes h));
    }

pub make_whole-requires : goal.make_whole-requires
make_whole-requires g c = subst (λ (a : Answer). HasAll g.W.PieceWork.kind a c.some-step.new.self) c.in-Whole.is c.some-step.ensures.all

pub returns-in-Whole-clause-led : goal.returns-in-Whole-clause-led
returns-in-Whole-clause-led g c = λ bytes h all.
    let k = g.W.PieceWork.kind in
    let piece = c.args.piece.now in
    let l = c.loop-at in
    let s = c.some-step in
    let led = some_led k bytes piece l.at s.result.used s.result.answer answer.Whole s.new.self c.in-Whole.is (s.ensures.led (bytes ++ take l.at piece) (l.invariant.stands bytes h.stands)) in
    made_read k bytes piece (k.image s.new.self) _ c.make_whole.result c.make_whole.new.work c.make_whole.ensures led.0 (led.2 (bytes_more bytes piece all (λ i. (let t = c.type_inv.piece i in search (rules, t)))))

pub returns-in-Whole-clause-going : goal.returns-in-Whole-clause-going
returns-in-Whole-clause-going g c = made_goes g.W.PieceWork.kind (g.W.PieceWork.kind.image c.some-step.new.self) _ c.make_whole.result c.make_whole.new.work c.make_whole.ensures

pub returns-in-Whole-clause-memory : goal.returns-in-Whole-clause-memory
returns-in-Whole-clause-memory g c = λ bytes h.
    let k = g.W.PieceWork.kind in
    let piece = c.args.piece.now in
    let l = c.loop-at in
    let s = c.some-step in
    let some = s.ensures.some in
    let led = some_led k bytes piece l.at s.result.used s.result.answer answer.Whole s.new.self c.in-Whole.is (s.ensures.led (bytes ++ take l.at piece) (l.invariant.stands bytes h.stands)) in
    made_asks k bytes piece (k.image s.new.self) _ c.make_whole.result c.make_whole.ensures (l.at + s.result.used, omega (arith, some), further piece l.at s.result.used l.invariant.inside s.ensures.within, led.1)

pub returns-in-Fault-clause-led : goal.returns-in-Fault-clause-led
returns-in-Fault-clause-led g c = λ bytes h all.
    let k = g.W.PieceWork.kind in
    let piece = c.args.piece.now in
    let l = c.loop-at in
    let s = c.some-step in
    subst (k.faults (bytes ++ piece) c.in-Fault.fault) (place bytes piece c.args.taken (l.at + s.result.used) h.taken_is (further piece l.at s.result.used l.invariant.inside s.ensures.within))
    (some_led k bytes piece l.at s.result.used s.result.answer (answer.Fault c.in-Fault.fault) s.new.self c.in-Fault.is (s.ensures.led (bytes ++ take l.at piece) (l.invariant.stands bytes h.stands)))

pub returns-in-NoMemory-clause-memory : goal.returns-in-NoMemory-clause-memory
returns-in-NoMemory-clause-memory g c = λ bytes h.
    let k = g.W.PieceWork.kind in
    let piece = c.args.piece.now in
    let l = c.loop-at in
    let s = c.some-step in
    let some = s.ensures.some in (
      l.at + s.result.used,
      omega (arith, some),
      further piece l.at s.result.used l.invariant.inside s.ensures.within,
      some_led k bytes piece l.at s.result.used s.result.answer answer.NoMemory s.new.self c.in-NoMemory.is (s.ensures.led (bytes ++ take l.at piece) (l.invariant.stands bytes h.stands)),
    )
