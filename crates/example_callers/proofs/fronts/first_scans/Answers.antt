use Rattle.std.proofs.Common.{[], ◌∙◌, Ok, ap, subst}
use Rattle.jpg_base.specs.declared.stop.Fed.{Fed}
use Rattle.jpg_file.specs.Read.File.{keeping_of}
use Rattle.jpg_preview.specs.Viewing.{AfterView}
use Rattle.example_callers.proofs.FirstScans.{scans_early, scans_ended, scans_shown, scans_stopped}
use Rattle.example_callers.proofs.fronts.first_scans.Goals as goal

pub returns-in-Ok-Done : goal.returns-in-Ok-Done
returns-in-Ok-Done c =
    let file = c.args.file.now in
    let new = c.feed.new.self in
    let k = subst (λ (fed : Fed). AfterView [] file (Ok fed) new) c.in-Ok-Done.field-0-is (c.in-Ok-Done.ensures.answered [] c.new-preview.ensures.viewed) in
    scans_shown c.args.scans file c.in-Ok-Done.field-0-0 new c.take.result (c.in-Ok-Done.ensures.limits ∙ c.new-preview.ensures.limits ∙ c.standard.ensures) (c.in-Ok-Done.ensures.scans ∙ c.new-preview.ensures.scans)
    (c.in-Ok-Done.ensures.keeping ∙ c.new-preview.ensures.keeping) c.take.ensures.meaning c.take.ensures.early k

pub returns-in-Early : goal.returns-in-Early
returns-in-Early c =
    let file = c.args.file.now in
    let k = subst (λ (fed : Fed). AfterView [] file (Ok fed) c.feed.new.self) c.in-Ok-More.field-0-is (c.in-Ok-More.ensures.answered [] c.new-preview.ensures.viewed) in
    let limits = c.in-Ok-More.ensures.limits ∙ c.new-preview.ensures.limits ∙ c.standard.ensures in
    scans_early c.args.scans file c.in-Early.field-0 c.feed.new.self c.end.new.self c.take-in-Early.result limits (c.in-Early.ensures.limits ∙ limits) (c.in-Ok-More.ensures.scans ∙ c.new-preview.ensures.scans) k
    (ap keeping_of c.in-Early.ensures.file ∙ c.in-Ok-More.ensures.keeping ∙ c.new-preview.ensures.keeping) c.take-in-Early.ensures.early (c.in-Early.ensures.answered file k)

pub returns-in-Ok-More : goal.returns-in-Ok-More
returns-in-Ok-More c =
    let file = c.args.file.now in
    let k = subst (λ (fed : Fed). AfterView [] file (Ok fed) c.feed.new.self) c.in-Ok-More.field-0-is (c.in-Ok-More.ensures.answered [] c.new-preview.ensures.viewed) in
    let limits = c.in-Ok-More.ensures.limits ∙ c.new-preview.ensures.limits ∙ c.standard.ensures in
    scans_ended c.args.scans file c.in-Stop.stop c.feed.new.self c.end.new.self.reader.limits limits (c.in-Stop.ensures.limits ∙ limits) (c.in-Ok-More.ensures.scans ∙ c.new-preview.ensures.scans) k (c.in-Stop.ensures.answered file k)

pub returns : goal.returns
returns c =
    scans_stopped c.args.scans c.args.file.now c.in-Err.stop c.feed.new.self (c.in-Err.ensures.limits ∙ c.new-preview.ensures.limits ∙ c.standard.ensures) (c.in-Err.ensures.scans ∙ c.new-preview.ensures.scans)
    (c.in-Err.ensures.answered [] c.new-preview.ensures.viewed)
