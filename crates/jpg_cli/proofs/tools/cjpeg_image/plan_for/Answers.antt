use Rattle.std.proofs.Common.{◌∙◌, subst, sym}
use Rattle.jpg_spec.specs.Scan.{Blocks}
use Rattle.jpg_file.specs.declared.write.Plan.{Plan}
use Rattle.jpg_color.specs.ImageHead.{head_parts}
use Rattle.jpg_cli.specs.Tools.ImageWritten.{IsPlanOf}
use Rattle.jpg_cli.proofs.tools.cjpeg_image.plan_for.Goals as goal

pub returns : goal.returns
returns c = record {
  script = c.script_due-script.result;
  due = c.script_due-script.ensures;
  ok = sym c.in-Ok.is ∙ c.check.ensures;
  planned = subst (λ (p : Plan). (blocks : Blocks) → IsPlanOf c.args.words.now (head_parts c.args.head.now blocks) c.script_due-script.result p) (sym c.in-Ok-new.ensures.ok) c.plan_of_head.ensures;
}
