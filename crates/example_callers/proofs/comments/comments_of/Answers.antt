use Rattle.std.proofs.Common.{[], ◌∙◌, Ok, subst}
use Rattle.jpg_base.specs.declared.stop.Fed.{Fed}
use Rattle.jpg_comments.specs.SegmentsSoFar.{Appends}
use Rattle.jpg_comments.specs.ReadComments.{AfterFeed}
use Rattle.example_callers.proofs.Calls.{comments_ended, comments_stopped, comments_whole}
use Rattle.example_callers.proofs.comments.comments_of.Goals as goal

pub returns-in-Ok-Done : goal.returns-in-Ok-Done
returns-in-Ok-Done c =
    let file = c.args.file.now in
    let k = subst (λ (fed : Fed). Appends (λ all. AfterFeed [] file all (Ok fed) c.feed.new.self) [] c.new-text.result c.feed.new.out) c.in-Ok-Done.field-0-is (c.in-Ok-Done.ensures.answered [] [] c.new-comments.ensures.read) in
    comments_whole file c.new-text.result c.feed.new.out c.in-Ok-Done.field-0-0 c.feed.new.self c.new-text.ensures (c.in-Ok-Done.ensures.limits ∙ c.new-comments.ensures.limits ∙ c.standard.ensures) k

pub returns-in-Ok-More : goal.returns-in-Ok-More
returns-in-Ok-More c =
    let file = c.args.file.now in
    let k = subst (λ (fed : Fed). Appends (λ all. AfterFeed [] file all (Ok fed) c.feed.new.self) [] c.new-text.result c.feed.new.out) c.in-Ok-More.field-0-is (c.in-Ok-More.ensures.answered [] [] c.new-comments.ensures.read) in
    comments_ended file c.end.result c.feed.new.self.limits (c.in-Ok-More.ensures.limits ∙ c.new-comments.ensures.limits ∙ c.standard.ensures) (c.end.ensures.answered file k.0 k.2)

pub returns : goal.returns
returns c =
    comments_stopped c.args.file.now c.new-text.result c.feed.new.out c.in-Err.stop c.feed.new.self (c.in-Err.ensures.limits ∙ c.new-comments.ensures.limits ∙ c.standard.ensures) (c.in-Err.ensures.answered [] [] c.new-comments.ensures.read)
