use Rattle.std.proofs.Common.{[], sym}
use Rattle.jpg_pnm_bmp.specs.Reader.{image_view, standing}
use Rattle.jpg_pnm_bmp.proofs.Advance.{going_on, none_before}
use Rattle.jpg_pnm_bmp.proofs.EndRead.{image_at_end, fault_at_end, standing_live}
use Rattle.jpg_pnm_bmp.proofs.ImageMade.{unmade_ended, whole_ended}
use Rattle.jpg_pnm_bmp.proofs.read.pixels.end_image.Goals as goal

pub end-requires : goal.end-requires
end-requires c = going_on c.args.work.now c.requires

pub returns-in-Ok : goal.returns-in-Ok
returns-in-Ok c = λ bytes h all.
    let w = c.args.work.now in
    whole_ended bytes (image_view [] c.end.new.self) _ _ c.in-Ok.ensures (λ limits l. image_at_end limits (standing [] w) bytes (image_view [] c.end.new.self) h.stands.1 (standing_live [] w.stage w) l (c.in-Whole.ensures.led [] (none_before w h.stands.0) (bytes, sym h.stands.1))) all

pub returns-in-Err : goal.returns-in-Err
returns-in-Err c = λ bytes h all.
    let w = c.args.work.now in
    unmade_ended bytes (image_view [] c.end.new.self) _ c.in-Err.stop c.in-Err.ensures (λ limits l. image_at_end limits (standing [] w) bytes (image_view [] c.end.new.self) h.stands.1 (standing_live [] w.stage w) l (c.in-Whole.ensures.led [] (none_before w h.stands.0) (bytes, sym h.stands.1)))

pub returns-in-Fault : goal.returns-in-Fault
returns-in-Fault c = λ bytes h all limits l.
    let w = c.args.work.now in
    fault_at_end limits (standing [] w) bytes c.args.taken c.in-Fault.fault h.stands.1 (standing_live [] w.stage w) h.taken_is l (c.in-Fault.ensures.led [] (none_before w h.stands.0) (bytes, sym h.stands.1))

pub returns-in-NoMemory : goal.returns-in-NoMemory
returns-in-NoMemory c = λ bytes h all.
    let w = c.args.work.now in
    let e = c.in-NoMemory.ensures.led [] (none_before w h.stands.0) (bytes, sym h.stands.1) in
    (e.0, λ limits l. image_at_end limits (standing [] w) bytes e.0 h.stands.1 (standing_live [] w.stage w) l e.1)
