use Rattle.std.proofs.Common.{◌≡◌, Some, refl, sym, ◌∙◌, subst, replicate}
use Rattle.jpg_spec.specs.Elements.{zeros}
use Rattle.jpg_spec.specs.FrameHeader.{IsFrame}
use Rattle.jpg_spec.specs.Geometry.{Frame, padded_blocks}
use Rattle.jpg_coefs.specs.Picture.{Picture}
use Rattle.jpg_file.specs.declared.read.window.Window.{Window}
use Rattle.jpg_file.specs.declared.read.window.Window.TheVariants as window
use Rattle.jpg_file.specs.Read.File.{PictureMade}
use Rattle.jpg_coefs.proofs.Maps.{blank_is}
use Rattle.jpg_file.proofs.read.file.FileState.make_room.Goals as goal

once : (a b : Frame) → Some a ≡ Some b → a ≡ b
once a b e = cc

zeros_made : (f : Frame) (old : Window) (q : Picture) → old ≡ window.None → q.frame ≡ f → q.blocks ≡ replicate (padded_blocks f) (zeros 64) → PictureMade f old (window.All q)
zeros_made f window.None q none framed zero = record { picture = q; has = refl; framed = framed; zero = blank_is q (padded_blocks f) zero }
zeros_made f (window.All p) q none framed zero = cc
zeros_made f (window.Row p) q none framed zero = cc

pub returns-clause-made : goal.returns-clause-made
returns-clause-made c =
    let old = c.args.self.now.window in
    let q : Picture = c.in_ok-coefs.coefs in
    record {
      is = refl;
      picture = λ f e.
          subst (λ (g : Frame). IsFrame g × PictureMade g old (window.All q)) (once c.in-Some.frame f (sym c.in-Some.is ∙ e))
          (c.checked.ensures, zeros_made c.in-Some.frame old q c.in-None.is c.in_ok-coefs.ensures.frame c.in_ok-coefs.ensures.zero);
    }
