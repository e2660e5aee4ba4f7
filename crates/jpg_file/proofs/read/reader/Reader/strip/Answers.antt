use Rattle.std.proofs.Common.{rules, ◌≡◌, Some, ap, sym, ◌∙◌}
use Rattle.jpg_spec.specs.InForce.{frame_of}
use Rattle.jpg_file.specs.Read.ReadFile.{ReaderState, picture_read}
use Rattle.jpg_file.proofs.ByRow.StripBegin.{strip_copied}
use Rattle.jpg_file.proofs.read.reader.Reader.strip.Goals as goal

pub returns-clause-some : goal.returns-clause-some
returns-clause-some c = λ bytes b.
    let now = c.args.self.now in
    let strip = c.in_ok-as_ref.field-0.now in
    let has : c.self.inside.work.strip ≡ Some strip = search rules in
    let is = sym (ap (λ (r : ReaderState). r.strip) c.self.view_is) ∙ has in
    strip_copied c.copy.result strip c.copy.ensures.frame c.copy.ensures.colour c.copy.ensures.quants c.copy.ensures.jfif now.strip is (frame_of now.limits b.before) (picture_read bytes now b) b.told
