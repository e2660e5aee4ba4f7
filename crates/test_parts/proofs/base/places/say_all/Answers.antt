use Rattle.std.proofs.Common.{sym, subst}
use Rattle.jpg_spec.specs.Segments.{ScanHead, head_components}
use Rattle.jpg_base.specs.Cursor.{AreIn}
use Rattle.test_parts.proofs.SeqScans.{all_in}
use Rattle.test_parts.proofs.base.places.say_all.Goals as goal

pub say_places-requires : goal.say_places-requires
say_places-requires c =
    let f = c.args.frame.now in
    subst (λ (h : ScanHead). AreIn f (head_components h)) (sym c.all_components.ensures) (all_in f c.checked.ensures.count_low c.checked.ensures.count_high)
