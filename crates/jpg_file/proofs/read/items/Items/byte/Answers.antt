use Rattle.std.proofs.Common.{rules, ◌++◌, ◌∷◌, [], Ok, Err, ap, ◌∙◌}
use Rattle.jpg_spec.specs.Items.{segments_of}
use Rattle.jpg_markers.specs.declared.segments.SegStep.TheVariants as step
use Rattle.jpg_file.proofs.Files.ItemBytes.{byte_comes, no_whole}
use Rattle.jpg_file.proofs.read.items.Items.byte.Goals as goal
use Rattle.jpg_file.specs.Read.Items.{limits_in}

pub returns-in-Ok-Whole-clause-after : goal.returns-in-Ok-Whole-clause-after
returns-in-Ok-Whole-clause-after c = λ bytes items blocks k.
    c.segment.ensures.after (limits_in c.args.self.now) (bytes ++ c.args.byte ∷ []) items blocks
    (byte_comes (limits_in c.args.self.now) bytes items blocks c.args.self.now k c.args.byte c.byte.new.self c.byte.result (Ok step.Whole) (c.in-Ok-Whole.is ∙ ap Ok c.in-Ok-Whole.field-0-is) (c.byte.ensures.answered k.sent (segments_of items) k.stands) c.byte.ensures.whole c.byte.ensures.limits)

pub returns-in-Ok : goal.returns-in-Ok
returns-in-Ok c = record {
  after = λ bytes items blocks k.
      no_whole (limits_in c.args.self.now) (bytes ++ c.args.byte ∷ []) items blocks (Ok c.in-Ok.step) _ (search rules)
      (byte_comes (limits_in c.args.self.now) bytes items blocks c.args.self.now k c.args.byte c.byte.new.self c.byte.result (Ok c.in-Ok.step) c.in-Ok.is (c.byte.ensures.answered k.sent (segments_of items) k.stands) c.byte.ensures.whole c.byte.ensures.limits);
  taken = search rules;
  memory = search rules;
  keeps = search rules;
}

pub returns-in-Err-clause-after : goal.returns-in-Err-clause-after
returns-in-Err-clause-after c = λ bytes items blocks k.
    byte_comes (limits_in c.args.self.now) bytes items blocks c.args.self.now k c.args.byte c.byte.new.self c.byte.result (Err c.in-Err.stop) c.in-Err.is (c.byte.ensures.answered k.sent (segments_of items) k.stands) c.byte.ensures.whole c.byte.ensures.limits
