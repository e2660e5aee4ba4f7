use Rattle.std.proofs.Common.{map, refl}
use Rattle.jpg_spec_image.specs.declared.image.EndKind.TheVariants as kind
use Rattle.jpg_cli.specs.Tools.Ends.{formats_of, has_format}
use Rattle.jpg_cli.proofs.Encoding.Worked.{shown_done}
use Rattle.jpg_cli.proofs.tools.jpgwork.shown_file.Goals as goal

pub returns-in-Done : goal.returns-in-Done
returns-in-Done g c =
    shown_done (has_format kind.Pnm (formats_of (map (λ e. (goal.ImageEnd-dyn g (e.vtable, e.value)).progress e.value) c.args.ends.items))) _ c.args.input.now c.in-Some.desk c.show_by.new.desk c.requires.has refl refl c.in-Some.ensures c.in-Done.ensures.shown
