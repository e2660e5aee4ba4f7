use Rattle.std.proofs.Common.{◌+◌, ◌-◌, ◌++◌, length, take, drop, ◌∙◌, subst, arith}
use Rattle.std.proofs.Math.Logic.{∥∥₁_map}
use Rattle.jpg_pnm_bmp.specs.Samples.{AfterGiven, HasSameInfo}
use Rattle.jpg_pnm_bmp.specs.declared.read.piece.Answer.{Answer}
use Rattle.jpg_pnm_bmp.specs.declared.read.piece.Answer.TheVariants as answer
use Rattle.jpg_pnm_bmp.proofs.PiecesFed.{further, place}
use Rattle.jpg_pnm_bmp.proofs.SamplesGiven.{some_given}
use Rattle.jpg_pnm_bmp.proofs.read.samples.give_piece.Goals as goal

pub loop-at-preserved : goal.loop-at-preserved
loop-at-preserved g c =
    let k = g.W.SampleWork.kind in
    let l = c.loop-at in
    let s = c.give-step in
    let piece = c.args.piece.now in
    let rest = take (length piece - l.at) (drop l.at piece) in
    record {
      inside = further piece l.at s.result.used l.invariant.inside s.ensures.within;
      going = ∥∥₁_map l.invariant.going (λ r. (let h = s.ensures.given r.0 r.1 r.2 in (r.0 ++ take s.result.used rest, r.1 ++ h.0, subst (λ (a : Answer). AfterGiven k (r.0 ++ take s.result.used rest) (r.0 ++ rest) (r.1 ++ h.0) a s.new.self) c.in-More.is h.2)));
      gives = λ bytes given h. (let b = l.invariant.gives bytes given h in
          some_given k bytes piece given l.at s.result.used c.args.made.now l.made s.new.made b.0 s.result.answer answer.More s.new.self c.in-More.is b.1 (s.ensures.given (bytes ++ take l.at piece) (given ++ b.0) b.2));
      info = λ bytes given h. (let b = l.invariant.gives bytes given h in subst (λ (a : Answer). HasSameInfo k l.work a s.new.self) c.in-More.is (s.ensures.info (bytes ++ take l.at piece) (given ++ b.0) b.2) ∙ l.invariant.info bytes given h);
    }

pub returns-in-Whole-clause-takes : goal.returns-in-Whole-clause-takes
returns-in-Whole-clause-takes g c = λ bytes given h.
    let k = g.W.SampleWork.kind in
    let l = c.loop-at in
    let s = c.give-step in
    let piece = c.args.piece.now in
    let b = l.invariant.gives bytes given h.gives in
    let w = some_given k bytes piece given l.at s.result.used c.args.made.now l.made s.new.made b.0 s.result.answer answer.Whole s.new.self c.in-Whole.is b.1 (s.ensures.given (bytes ++ take l.at piece) (given ++ b.0) b.2) in
    (w.0, w.1, w.2.0)

pub returns-in-Whole-clause-info : goal.returns-in-Whole-clause-info
returns-in-Whole-clause-info g c = λ bytes given h.
    let k = g.W.SampleWork.kind in
    let l = c.loop-at in
    let s = c.give-step in
    let b = l.invariant.gives bytes given h in
    subst (λ (a : Answer). HasSameInfo k l.work a s.new.self) c.in-Whole.is (s.ensures.info (bytes ++ take l.at c.args.piece.now) (given ++ b.0) b.2) ∙ l.invariant.info bytes given h

pub returns-in-Whole-clause-memory : goal.returns-in-Whole-clause-memory
returns-in-Whole-clause-memory g c = λ bytes given h.
    let k = g.W.SampleWork.kind in
    let l = c.loop-at in
    let s = c.give-step in
    let piece = c.args.piece.now in
    let some = s.ensures.some in
    let b = l.invariant.gives bytes given h.gives in
    let w = some_given k bytes piece given l.at s.result.used c.args.made.now l.made s.new.made b.0 s.result.answer answer.Whole s.new.self c.in-Whole.is b.1 (s.ensures.given (bytes ++ take l.at piece) (given ++ b.0) b.2) in
    (l.at + s.result.used, omega (arith, some), further piece l.at s.result.used l.invariant.inside s.ensures.within, w.2.1)

pub returns-in-Fault-clause-takes : goal.returns-in-Fault-clause-takes
returns-in-Fault-clause-takes g c = λ bytes given h.
    let k = g.W.SampleWork.kind in
    let l = c.loop-at in
    let s = c.give-step in
    let piece = c.args.piece.now in
    let b = l.invariant.gives bytes given h.gives in
    let w = some_given k bytes piece given l.at s.result.used c.args.made.now l.made s.new.made b.0 s.result.answer (answer.Fault c.in-Fault.fault) s.new.self c.in-Fault.is b.1 (s.ensures.given (bytes ++ take l.at piece) (given ++ b.0) b.2) in
    (w.0, w.1, subst (k.reads.faults (bytes ++ piece) c.in-Fault.fault) (place bytes piece c.args.taken (l.at + s.result.used) h.taken_is (further piece l.at s.result.used l.invariant.inside s.ensures.within)) w.2)

pub returns-in-NoMemory-clause-takes : goal.returns-in-NoMemory-clause-takes
returns-in-NoMemory-clause-takes g c = λ bytes given h.
    let k = g.W.SampleWork.kind in
    let l = c.loop-at in
    let s = c.give-step in
    let piece = c.args.piece.now in
    let b = l.invariant.gives bytes given h.gives in
    let w = some_given k bytes piece given l.at s.result.used c.args.made.now l.made s.new.made b.0 s.result.answer answer.NoMemory s.new.self c.in-NoMemory.is b.1 (s.ensures.given (bytes ++ take l.at piece) (given ++ b.0) b.2) in
    (w.0, w.1, tt)

pub returns-in-NoMemory-clause-memory : goal.returns-in-NoMemory-clause-memory
returns-in-NoMemory-clause-memory g c = λ bytes given h.
    let k = g.W.SampleWork.kind in
    let l = c.loop-at in
    let s = c.give-step in
    let piece = c.args.piece.now in
    let some = s.ensures.some in
    let b = l.invariant.gives bytes given h.gives in
    let w = some_given k bytes piece given l.at s.result.used c.args.made.now l.made s.new.made b.0 s.result.answer answer.NoMemory s.new.self c.in-NoMemory.is b.1 (s.ensures.given (bytes ++ take l.at piece) (given ++ b.0) b.2) in
    (l.at + s.result.used, omega (arith, some), further piece l.at s.result.used l.invariant.inside s.ensures.within, w.2)
