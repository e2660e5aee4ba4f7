use Rattle.std.proofs.Common.{Ok, sym, subst, refl}
use Rattle.jpg_file.specs.Read.File.{with_picture}
use Rattle.jpg_file.specs.Read.Strips.{PassesLater}
use Rattle.jpg_markers.specs.declared.segments.SegStep.TheVariants as item
use Rattle.jpg_file.specs.declared.read.step.Step.{Step}
use Rattle.jpg_file.proofs.ByRow.StripBegin.{frame_there, none_accepted}
use Rattle.jpg_file.proofs.ByRow.StripBytes.{head_stops}
use Rattle.jpg_file.proofs.read.file.FileState.later_head.Goals as goal

pub unreachable-requires : goal.unreachable-requires
unreachable-requires c =
    let k = c.requires in
    frame_there k.0 k.1 (with_picture c.args.self.now k.2) k.3 c.in_default.is

pub unreachable-requires-in-Ok : goal.unreachable-requires-in-Ok
unreachable-requires-in-Ok c =
    let k = c.requires in
    none_accepted k.0 k.1 (with_picture c.args.self.now k.2) c.in-Some.frame c.contents.result.now c.in-Ok.field-0 k.3 k.4 c.in-Some.is c.in-Ok.ensures

pub returns : goal.returns
returns c =
    let w = c.args.self.now in
    subst (λ (a : Step). PassesLater w (Ok item.Whole) a w) (sym c.fault_at.ensures.is) (record {
      same = refl;
      passes = λ limits before bytes whole rows a none row empty begun done.
          head_stops limits bytes (with_picture w whole) c.in-Some.frame c.contents.result.now c.in-Err.fault a.0 c.in-Some.is c.contents.ensures c.in-Err.ensures;
      memory = λ some. tt;
      no = tt;
    })
