use Rattle.std.proofs.Common.{[], ◌∙◌, Ok, subst}
use Rattle.jpg_base.specs.declared.stop.Fed.{Fed}
use Rattle.jpg_file.specs.Read.ReadFile.{AfterFeed}
use Rattle.example_callers.proofs.Calls.{picture_early, picture_ended, picture_stopped, picture_whole}
use Rattle.example_callers.proofs.pictures.read_picture.Goals as goal

pub returns-in-Ok-Done : goal.returns-in-Ok-Done
returns-in-Ok-Done c =
    let file = c.args.file.now in
    let k = subst (λ (fed : Fed). AfterFeed [] file (Ok fed) c.feed.new.self) c.in-Ok-Done.field-0-is (c.in-Ok-Done.ensures.answered [] c.new-reader.ensures.read) in
    picture_whole file c.in-Ok-Done.field-0-0 c.feed.new.self c.take.result (c.in-Ok-Done.ensures.limits ∙ c.new-reader.ensures.limits ∙ c.standard.ensures) (c.in-Ok-Done.ensures.keeping ∙ c.new-reader.ensures.keeping)
    c.take.ensures.meaning k

pub returns-in-Early : goal.returns-in-Early
returns-in-Early c =
    let file = c.args.file.now in
    let k = subst (λ (fed : Fed). AfterFeed [] file (Ok fed) c.feed.new.self) c.in-Ok-More.field-0-is (c.in-Ok-More.ensures.answered [] c.new-reader.ensures.read) in
    picture_early file c.in-Early.field-0 c.end.new.self c.take-in-Early.result (c.in-Early.ensures.limits ∙ c.in-Ok-More.ensures.limits ∙ c.new-reader.ensures.limits ∙ c.standard.ensures)
    (c.in-Early.ensures.keeping ∙ c.in-Ok-More.ensures.keeping ∙ c.new-reader.ensures.keeping) c.take-in-Early.ensures.early (c.in-Early.ensures.answered file k)

pub returns-in-Ok-More : goal.returns-in-Ok-More
returns-in-Ok-More c =
    let file = c.args.file.now in
    let k = subst (λ (fed : Fed). AfterFeed [] file (Ok fed) c.feed.new.self) c.in-Ok-More.field-0-is (c.in-Ok-More.ensures.answered [] c.new-reader.ensures.read) in
    picture_ended file c.in-Stop.stop c.end.new.self.limits (c.in-Stop.ensures.limits ∙ c.in-Ok-More.ensures.limits ∙ c.new-reader.ensures.limits ∙ c.standard.ensures) (c.in-Stop.ensures.answered file k)

pub returns : goal.returns
returns c =
    picture_stopped c.args.file.now c.in-Err.stop c.feed.new.self (c.in-Err.ensures.limits ∙ c.new-reader.ensures.limits ∙ c.standard.ensures) (c.in-Err.ensures.answered [] c.new-reader.ensures.read)
