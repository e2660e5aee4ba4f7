use Rattle.std.proofs.Common.{◌∷◌, ◌∙◌, rules, Ok, Err, ap}
use Rattle.jpg_spec.specs.Items.{segments_of}
use Rattle.jpg_markers.specs.declared.segments.SegStep.TheVariants as step
use Rattle.jpg_file.proofs.Scans.ScanLeft.{left_comes}
use Rattle.jpg_file.proofs.read.items.Items.marker.Goals as goal
use Rattle.jpg_file.specs.Read.Items.{limits_in}

pub returns-in-Ok-Whole-clause-after : goal.returns-in-Ok-Whole-clause-after
returns-in-Ok-Whole-clause-after c = λ items contents bytes now k e.
    let w = c.args.self.now in
    absurd ((left_comes (limits_in w) items contents bytes c.args.code now w k c.marker.new.self c.marker.result (Ok step.Whole) (c.in-Ok-Whole.is ∙ ap Ok c.in-Ok-Whole.field-0-is) e (c.marker.ensures.answered k.sent ((0xda, contents) ∷ segments_of items) k.stands) c.marker.ensures.limits c.marker.ensures.memory).2)

pub returns-in-Ok : goal.returns-in-Ok
returns-in-Ok c = record {
  after = λ items contents bytes now k e.
      (let w = c.args.self.now in
      left_comes (limits_in w) items contents bytes c.args.code now w k c.marker.new.self c.marker.result (Ok c.in-Ok.step) c.in-Ok.is e (c.marker.ensures.answered k.sent ((0xda, contents) ∷ segments_of items) k.stands) c.marker.ensures.limits c.marker.ensures.memory);
  taken = search rules;
  keeps = search rules;
}

pub returns-in-Err-clause-after : goal.returns-in-Err-clause-after
returns-in-Err-clause-after c = λ items contents bytes now k e.
    let w = c.args.self.now in
    left_comes (limits_in w) items contents bytes c.args.code now w k c.marker.new.self c.marker.result (Err c.in-Err.stop) c.in-Err.is e (c.marker.ensures.answered k.sent ((0xda, contents) ∷ segments_of items) k.stands) c.marker.ensures.limits c.marker.ensures.memory
