use Rattle.std.proofs.Common.{sym, subst}
use Rattle.std.proofs.Math.Logic.{∥∥₁_elim, ∥∥₁_map}
use Rattle.jpg_pnm_bmp.specs.Reader.{AreAllNumbers, standing}
use Rattle.jpg_pnm_bmp.proofs.AllThere.{numbers_prop}
use Rattle.jpg_pnm_bmp.proofs.EndRead.{fault_at_end, standing_live}
use Rattle.jpg_pnm_bmp.proofs.PnmGiven.{ended_image, ended_lost, ended_whole, given_before, given_led, nothing_more}
use Rattle.jpg_pnm_bmp.proofs.read.pnm_samples.end_given.Goals as goal

pub end-requires : goal.end-requires
end-requires c = ∥∥₁_map c.requires (λ r. given_led r.0 r.1 c.args.work.now r.2)

pub give_held-requires : goal.give_held-requires
give_held-requires c =
    let w = c.end.new.self in
    ∥∥₁_elim c.requires (numbers_prop w.numbers) (λ r. subst AreAllNumbers (sym (c.end.ensures.stays.text r.2.text r.2.known).numbers) r.2.known)

pub returns-in-Ok : goal.returns-in-Ok
returns-in-Ok c = λ bytes given h all.
    let old = c.args.work.now in
    ended_whole old bytes given h.gives c.end.new.self c.give_held.new.work c.args.made.now c.give_held.new.made all c.in-Whole.ensures.stays (c.in-Whole.ensures.led h.gives.front (given_before bytes given old h.gives) (bytes, sym h.gives.stands)) c.in-Ok.ensures.given

pub returns-in-Err : goal.returns-in-Err
returns-in-Err c = λ bytes given h all.
    let old = c.args.work.now in
    ended_lost old bytes given h.gives c.end.new.self c.args.made.now c.give_held.new.made (c.in-Whole.ensures.led h.gives.front (given_before bytes given old h.gives) (bytes, sym h.gives.stands)) c.in-Err.ensures.more

pub returns-in-Fault : goal.returns-in-Fault
returns-in-Fault c = λ bytes given h all.
    let old = c.args.work.now in
    let g = h.gives in
    nothing_more c.args.made.now (λ limits l. fault_at_end limits (standing g.front old) bytes c.args.taken c.in-Fault.fault g.stands (standing_live g.front old.stage old) h.taken_is l (c.in-Fault.ensures.led g.front (given_before bytes given old g) (bytes, sym g.stands)))

pub returns-in-NoMemory : goal.returns-in-NoMemory
returns-in-NoMemory c = λ bytes given h all.
    let old = c.args.work.now in
    let g = h.gives in
    let e = c.in-NoMemory.ensures.led g.front (given_before bytes given old g) (bytes, sym g.stands) in
    nothing_more c.args.made.now (e.0, λ limits l. ended_image old bytes given g limits e.0 l e.1)
