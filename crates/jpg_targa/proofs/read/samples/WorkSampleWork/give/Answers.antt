use Rattle.std.proofs.Common.{take, sym, subst}
use Rattle.jpg_spec_image.specs.TargaSteps.{run}
use Rattle.jpg_pnm_bmp.specs.declared.read.piece.Answer.{Answer}
use Rattle.jpg_targa.specs.Reader.{HasAll, Reaches, standing}
use Rattle.jpg_targa.proofs.SamplesGiven.{were_before, more_given, last_given, fault_given, none_given}
use Rattle.jpg_targa.proofs.read.samples.WorkSampleWork.give.Goals as goal

pub give_last-requires : goal.give_last-requires
give_last-requires c = subst (λ (a : Answer). HasAll a c.advance-used.new.self) c.in-Whole.is c.advance-used.ensures.all

pub returns-in-More-clause-given : goal.returns-in-More-clause-given
returns-in-More-clause-given c = λ bytes given g.
    let old = c.args.self.now in
    let w = c.advance-used.new.self in
    let piece = c.args.piece.now in
    let m = c.advance-used.result in
    let led = subst (λ (a : Answer). Reaches g.front (run (standing g.front old) (take m.used piece)) a w) c.in-More.is (c.advance-used.ensures.led g.front (were_before old bytes given g) (bytes, sym g.stands)) in
    more_given old w c.give_more.new.work bytes piece given c.args.made.now c.give_more.new.made m.used c.give_more.result g c.advance-used.ensures.stays led c.give_more.ensures.given

pub returns-in-Whole-clause-given : goal.returns-in-Whole-clause-given
returns-in-Whole-clause-given c = λ bytes given g.
    let old = c.args.self.now in
    let w = c.advance-used.new.self in
    let piece = c.args.piece.now in
    let m = c.advance-used.result in
    let led = subst (λ (a : Answer). Reaches g.front (run (standing g.front old) (take m.used piece)) a w) c.in-Whole.is (c.advance-used.ensures.led g.front (were_before old bytes given g) (bytes, sym g.stands)) in
    let all = subst (λ (a : Answer). HasAll a w) c.in-Whole.is c.advance-used.ensures.all in
    last_given old w c.give_last.new.work bytes piece given c.args.made.now c.give_last.new.made m.used c.give_last.result g c.advance-used.ensures.within c.advance-used.ensures.stays all led c.give_last.ensures

pub returns-in-Fault-clause-given : goal.returns-in-Fault-clause-given
returns-in-Fault-clause-given c = λ bytes given g.
    let old = c.args.self.now in
    let w = c.advance-used.new.self in
    let piece = c.args.piece.now in
    let m = c.advance-used.result in
    let led = subst (λ (a : Answer). Reaches g.front (run (standing g.front old) (take m.used piece)) a w) c.in-Fault.is (c.advance-used.ensures.led g.front (were_before old bytes given g) (bytes, sym g.stands)) in
    fault_given old w bytes piece given c.args.made.now m.used c.in-Fault.fault g c.advance-used.ensures.within led

pub returns-in-NoMemory-clause-given : goal.returns-in-NoMemory-clause-given
returns-in-NoMemory-clause-given c = λ bytes given g.
    let old = c.args.self.now in
    let w = c.advance-used.new.self in
    let piece = c.args.piece.now in
    let m = c.advance-used.result in
    let led = subst (λ (a : Answer). Reaches g.front (run (standing g.front old) (take m.used piece)) a w) c.in-NoMemory.is (c.advance-used.ensures.led g.front (were_before old bytes given g) (bytes, sym g.stands)) in
    none_given old w bytes piece given c.args.made.now m.used g led
