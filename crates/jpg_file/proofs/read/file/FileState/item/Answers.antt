use Rattle.std.proofs.Common.{◌≡◌, rules, Ok, refl}
use Rattle.jpg_markers.specs.declared.segments.SegStep.TheVariants as step
use Rattle.jpg_file.specs.declared.read.window.Window.TheVariants as window
use Rattle.jpg_file.proofs.ByRow.StripBytes.{item_ends, item_more}
use Rattle.jpg_file.proofs.ByRow.StripWorks.{ends_here, first_as, later_as}
use Rattle.jpg_file.proofs.read.file.FileState.item.Goals as goal

pub returns-in-Ok-Eoi-clause-first : goal.returns-in-Ok-Eoi-clause-first
returns-in-Ok-Eoi-clause-first c = λ none. (let eoi : c.args.came ≡ Ok step.Eoi = search rules in first_as _ _ _ eoi (record {
  same = refl;
  after = λ before limits bytes a. ends_here before limits bytes c.take_end.result c.args.self.now (c.take_end.ensures.end c.args.self.now.window limits bytes a);
  no = c.take_end.ensures.no;
}))

pub returns-in-Ok-Eoi-clause-later : goal.returns-in-Ok-Eoi-clause-later
returns-in-Ok-Eoi-clause-later c = λ rows is. (let eoi : c.args.came ≡ Ok step.Eoi = search rules in later_as eoi (record {
  same = refl;
  passes = λ limits before bytes whole rows a none row empty begun done.
      item_ends limits bytes c.args.self.now whole rows c.take_end.result (c.take_end.ensures.end (window.All whole) limits bytes a) none row empty begun done;
  memory = λ some. c.take_end.ensures.memory;
  no = c.take_end.ensures.no;
}))

pub returns-in-Ok-More : goal.returns-in-Ok-More
returns-in-Ok-More c =
    let k = item_more c.in-Ok-More.field-0 c.args.self.now (search rules) (search rules) in
    record { first = λ none. first_as _ _ _ c.in-Ok-More.is k.0; later = λ rows is. later_as c.in-Ok-More.is k.1 }
