use Rattle.std.proofs.Common.{sym, subst}
use Rattle.std.proofs.Math.Logic.{∥∥₁_elim, ∥∥₁_map}
use Rattle.jpg_pnm_bmp.specs.Reader.{AreAllNumbers}
use Rattle.jpg_pnm_bmp.proofs.AllThere.{numbers_prop}
use Rattle.jpg_pnm_bmp.proofs.PnmGiven.{given_before, given_led, known_given}
use Rattle.jpg_pnm_bmp.proofs.read.pnm_samples.WorkSampleWork.give.Goals as goal

pub advance-step-requires-clause-going : goal.advance-step-requires-clause-going
advance-step-requires-clause-going c = ∥∥₁_map c.requires.going (λ r. given_led r.0 r.1 c.args.self.now r.2)

pub give_known-answer-requires : goal.give_known-answer-requires
give_known-answer-requires c =
    let w = c.advance-step.new.self in
    let stays = c.advance-step.ensures.stays in
    ∥∥₁_elim c.requires.going (numbers_prop w.numbers) (λ r. subst AreAllNumbers (sym (stays.text r.2.text r.2.known).numbers) r.2.known)

pub returns-clause-given : goal.returns-clause-given
returns-clause-given c = λ bytes given g.
    let old = c.args.self.now in
    let s = c.advance-step in
    known_given old s.new.self c.give_known-answer.new.work bytes c.args.piece.now given c.args.made.now c.give_known-answer.new.made s.result.used s.result.answer c.give_known-answer.result g s.ensures.within s.ensures.stays
    (s.ensures.led g.front (given_before bytes given old g) (bytes, sym g.stands)) c.give_known-answer.ensures
