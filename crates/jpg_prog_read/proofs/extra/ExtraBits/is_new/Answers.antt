use Rattle.std.proofs.Common.{◌∙◌, sym, ap, length}
use Rattle.jpg_spec.proofs.Basics.Strings.{length-bits_of}
use Rattle.jpg_prog_read.specs.ExtraWork.{ExtraWork}
use Rattle.jpg_prog_read.proofs.Leaf.{empty_by_length}
use Rattle.jpg_prog_read.proofs.extra.ExtraBits.is_new.Goals as goal

pub returns : goal.returns
returns c =
    let i = c.self.inside in
    empty_by_length c.args.self.now.bits i.have (ap (λ (s : ExtraWork). length s.bits) (sym c.self.view_is) ∙ length-bits_of i.have i.number)
