use Rattle.std.proofs.Common.{IfSome, ℕ, List, Option, refl, sym, subst}
use Rattle.jpg_spec.specs.Geometry.{Frame}
use Rattle.jpg_spec_move.specs.declared.area.Area.{Area}
use Rattle.jpg_file.specs.Read.PictureRead.{picture_meaning}
use Rattle.jpg_desk.specs.Writing.{AfterOutput, WritesMoved, WritesOwn, in_area}
use Rattle.jpg_desk.specs.declared.moved.Wrote.TheVariants as wrote
use Rattle.jpg_transform.specs.Planned.{choice_view}
use Rattle.jpg_spec_move.specs.Cropped.{IsArea}
use Rattle.jpg_crop.specs.CropPlanned.{IsCutFrom, with_area}
use Rattle.jpg_desk.proofs.MovedWritten.{fault_in, faulty, own_faulty, own_written, written}
use Rattle.jpg_desk.proofs.moved.write_moved.Goals as goal

pub write_view-requires : goal.write_view-requires
write_view-requires g c = (c.new-moved.ensures.writes (choice_view c.args.choice.now) c.in-Ok.ensures).can

pub crop_plan-requires-clause-area : goal.crop_plan-requires-clause-area
crop_plan-requires-clause-area g c = subst (λ (o : Option Area). IfSome o IsArea) c.in-Some.is c.requires

pub new-cropped-requires : goal.new-cropped-requires
new-cropped-requires g c =
    (c.in-Some.area, subst (λ (f : Frame). IsCutFrom c.in-Some.area f c.in-Ok-crop_plan.crop) (sym c.new-moved.ensures.frame) (c.in-Ok-crop_plan.ensures.plan (choice_view c.args.choice.now) c.in-Ok.ensures).cut)

pub write_view-requires-in-Ok-crop_plan : goal.write_view-requires-in-Ok-crop_plan
write_view-requires-in-Ok-crop_plan g c =
    let choice = choice_view c.args.choice.now in
    (c.new-cropped.ensures.writes c.args.picture.now choice c.in-Some.area
    (record { base = c.in-Ok.job; job = c.in-Ok.ensures; cropped = c.in-Ok-crop_plan.ensures.plan choice c.in-Ok.ensures; frame = c.new-moved.ensures.frame; shows = c.new-moved.ensures.shows })).can

pub returns-in-Err-clause-wrote : goal.returns-in-Err-clause-wrote
returns-in-Err-clause-wrote g c =
    let choice = choice_view c.args.choice.now in
    faulty (in_area c.args.area.now choice) c.args.picture.now c.args.output.now (g.D.Desk.state c.args.desk.now) c.in-Err.fault
    (fault_in c.args.area.now choice (picture_meaning c.args.picture.now) c.in-Err.fault refl c.in-Err.ensures)

pub returns-in-None-clause-wrote : goal.returns-in-None-clause-wrote
returns-in-None-clause-wrote g c =
    let choice = choice_view c.args.choice.now in
    let old = g.D.Desk.state c.args.desk.now in
    let new = g.D.Desk.state c.write_view.new.desk in
    let w = c.write_view.result in
    let writes = c.new-moved.ensures.writes choice c.in-Ok.ensures in
    subst (λ (o : Option Area). WritesMoved (in_area o choice) c.args.picture.now c.args.output.now old w new) (sym c.in-None.is)
    (written choice c.args.picture.now c.in-Ok.job.plan c.args.output.now old new w c.in-Ok.ensures.planned
    (subst (λ (due : List ℕ). AfterOutput c.args.output.now old due w new) writes.text c.write_view.ensures.output))

pub returns-in-Err-crop_plan-clause-wrote : goal.returns-in-Err-crop_plan-clause-wrote
returns-in-Err-crop_plan-clause-wrote g c =
    let choice = choice_view c.args.choice.now in
    let old = g.D.Desk.state c.args.desk.now in
    let w = wrote.Picture c.in-Err-crop_plan.fault in
    subst (λ (o : Option Area). WritesMoved (in_area o choice) c.args.picture.now c.args.output.now old w old) (sym c.in-Some.is)
    (faulty (with_area c.in-Some.area choice) c.args.picture.now c.args.output.now old c.in-Err-crop_plan.fault (c.in-Err-crop_plan.ensures.plan choice c.in-Ok.ensures))

pub returns-in-Ok-crop_plan-clause-wrote : goal.returns-in-Ok-crop_plan-clause-wrote
returns-in-Ok-crop_plan-clause-wrote g c =
    let choice = choice_view c.args.choice.now in
    let p = c.args.picture.now in
    let old = g.D.Desk.state c.args.desk.now in
    let new = g.D.Desk.state c.write_view-in-Ok-crop_plan.new.desk in
    let w = c.write_view-in-Ok-crop_plan.result in
    let cropped = c.in-Ok-crop_plan.ensures.plan choice c.in-Ok.ensures in
    let writes = c.new-cropped.ensures.writes p choice c.in-Some.area
    (record { base = c.in-Ok.job; job = c.in-Ok.ensures; cropped = cropped; frame = c.new-moved.ensures.frame; shows = c.new-moved.ensures.shows }) in
    subst (λ (o : Option Area). WritesMoved (in_area o choice) p c.args.output.now old w new) (sym c.in-Some.is)
    (written (with_area c.in-Some.area choice) p c.in-Ok-crop_plan.crop.plan c.args.output.now old new w cropped.planned
    (subst (λ (due : List ℕ). AfterOutput c.args.output.now old due w new) writes.text c.write_view-in-Ok-crop_plan.ensures.output))

pub returns-in-Err-clause-own : goal.returns-in-Err-clause-own
returns-in-Err-clause-own g c =
    let choice = choice_view c.args.choice.now in
    own_faulty (in_area c.args.area.now choice) c.args.picture.now c.args.output.now (g.D.Desk.state c.args.desk.now) c.in-Err.fault
    (fault_in c.args.area.now choice (picture_meaning c.args.picture.now) c.in-Err.fault refl c.in-Err.ensures)

pub returns-in-None-clause-own : goal.returns-in-None-clause-own
returns-in-None-clause-own g c =
    let choice = choice_view c.args.choice.now in
    let old = g.D.Desk.state c.args.desk.now in
    let new = g.D.Desk.state c.write_view.new.desk in
    let w = c.write_view.result in
    let writes = c.new-moved.ensures.writes choice c.in-Ok.ensures in
    subst (λ (o : Option Area). WritesOwn (in_area o choice) c.args.picture.now c.args.output.now old w new) (sym c.in-None.is)
    (own_written choice c.args.picture.now c.in-Ok.job.plan c.args.output.now old new w c.in-Ok.ensures.planned
    (subst (λ (due : List ℕ). AfterOutput c.args.output.now old due w new) writes.text c.write_view.ensures.output))

pub returns-in-Err-crop_plan-clause-own : goal.returns-in-Err-crop_plan-clause-own
returns-in-Err-crop_plan-clause-own g c =
    let choice = choice_view c.args.choice.now in
    let old = g.D.Desk.state c.args.desk.now in
    let w = wrote.Picture c.in-Err-crop_plan.fault in
    subst (λ (o : Option Area). WritesOwn (in_area o choice) c.args.picture.now c.args.output.now old w old) (sym c.in-Some.is)
    (own_faulty (with_area c.in-Some.area choice) c.args.picture.now c.args.output.now old c.in-Err-crop_plan.fault (c.in-Err-crop_plan.ensures.plan choice c.in-Ok.ensures))

pub returns-in-Ok-crop_plan-clause-own : goal.returns-in-Ok-crop_plan-clause-own
returns-in-Ok-crop_plan-clause-own g c =
    let choice = choice_view c.args.choice.now in
    let p = c.args.picture.now in
    let old = g.D.Desk.state c.args.desk.now in
    let new = g.D.Desk.state c.write_view-in-Ok-crop_plan.new.desk in
    let w = c.write_view-in-Ok-crop_plan.result in
    let cropped = c.in-Ok-crop_plan.ensures.plan choice c.in-Ok.ensures in
    let writes = c.new-cropped.ensures.writes p choice c.in-Some.area
    (record { base = c.in-Ok.job; job = c.in-Ok.ensures; cropped = cropped; frame = c.new-moved.ensures.frame; shows = c.new-moved.ensures.shows }) in
    subst (λ (o : Option Area). WritesOwn (in_area o choice) p c.args.output.now old w new) (sym c.in-Some.is)
    (own_written (with_area c.in-Some.area choice) p c.in-Ok-crop_plan.crop.plan c.args.output.now old new w cropped.planned
    (subst (λ (due : List ℕ). AfterOutput c.args.output.now old due w new) writes.text c.write_view-in-Ok-crop_plan.ensures.output))
