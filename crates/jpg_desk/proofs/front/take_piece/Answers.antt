use Rattle.std.proofs.Common.{rules, ◌∙◌, ◌++◌, Ok, Err, refl, subst, sym}
use Rattle.jpg_base.specs.declared.stop.Fed.{Fed}
use Rattle.jpg_base.specs.declared.stop.Stop.{Stop}
use Rattle.jpg_file.specs.Read.ReadFile.{head_seen}
use Rattle.jpg_preview.specs.Viewing.{AfterView}
use Rattle.jpg_desk.specs.ReadFront.{AfterTakingFront}
use Rattle.jpg_desk.specs.ReadPicture.{unwanted_in, Image}
use Rattle.jpg_desk.proofs.FrontBytes.{fault_front, more_front, short_front, whole_front}
use Rattle.jpg_desk.proofs.PiecesRead.{more_small}
use Rattle.jpg_desk.proofs.front.take_piece.Goals as goal

pub returns-in-Ok-More-clause-taken : goal.returns-in-Ok-More-clause-taken
returns-in-Ok-More-clause-taken c = λ scans bytes h.
    let piece = c.args.piece.now in
    let new = c.feed.new.self in
    let k = subst (λ (fed : Fed). AfterView bytes piece (Ok fed) new) c.in-Ok-More.field-0-is (c.in-Ok-More.ensures.answered bytes h.viewed) in
    let small = more_small bytes piece (h.fed).small (λ i. (let t = c.type_inv.piece i in search (rules, t))) in
    subst (λ s. AfterTakingFront scans c.args.gray (bytes ++ piece) s new) (sym c.if_shown.ensures)
    (more_front scans c.args.gray bytes piece c.args.preview.now new (unwanted_in (Image c.args.gray) (head_seen new.reader)) (c.in-Ok-More.ensures.limits ∙ c.requires.limits) (c.in-Ok-More.ensures.scans ∙ h.wants) h c.requires.short small k refl)

pub returns-in-Ok-Done-clause-taken : goal.returns-in-Ok-Done-clause-taken
returns-in-Ok-Done-clause-taken c = λ scans bytes h.
    let piece = c.args.piece.now in
    let new = c.feed.new.self in
    let k = subst (λ (fed : Fed). AfterView bytes piece (Ok fed) new) c.in-Ok-Done.field-0-is (c.in-Ok-Done.ensures.answered bytes h.viewed) in
    subst (λ s. AfterTakingFront scans c.args.gray (bytes ++ piece) s new) (sym c.if_shown-in-Ok-Done.ensures)
    (whole_front scans c.args.gray bytes piece c.in-Ok-Done.field-0-0 c.args.preview.now new (unwanted_in (Image c.args.gray) (head_seen new.reader)) (c.in-Ok-Done.ensures.limits ∙ c.requires.limits) (c.in-Ok-Done.ensures.scans ∙ h.wants) h c.requires.short k refl)

pub returns-in-Err-Fault-clause-taken : goal.returns-in-Err-Fault-clause-taken
returns-in-Err-Fault-clause-taken c = λ scans bytes h.
    let piece = c.args.piece.now in
    let new = c.feed.new.self in
    let k = subst (λ (stop : Stop). AfterView bytes piece (Err stop) new) c.in-Err-Fault.field-0-is (c.in-Err-Fault.ensures.answered bytes h.viewed) in
    subst (λ s. AfterTakingFront scans c.args.gray (bytes ++ piece) s new) (sym c.if_shown-in-Err-Fault.ensures)
    (fault_front scans c.args.gray bytes piece c.args.preview.now new c.in-Err-Fault.fault (unwanted_in (Image c.args.gray) (head_seen new.reader)) (c.in-Err-Fault.ensures.limits ∙ c.requires.limits) (c.in-Err-Fault.ensures.scans ∙ h.wants) h c.requires.short k refl)

pub returns-in-Err-NoMemory-clause-taken : goal.returns-in-Err-NoMemory-clause-taken
returns-in-Err-NoMemory-clause-taken c = λ scans bytes h. short_front scans c.args.gray bytes c.args.piece.now c.args.preview.now c.requires.limits h c.requires.short
