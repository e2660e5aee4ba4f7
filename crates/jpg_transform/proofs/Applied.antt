-- The coefficients of a transformed picture have the view of its job.
use Rattle.std.proofs.Common.{◌≡◌, ℕ, sym, ◌∙◌}
use Rattle.std.specs.Prelude.{replicate}
use Rattle.jpg_spec.specs.Elements.{zeros}
use Rattle.jpg_spec.specs.Scan.{Blocks}
use Rattle.jpg_coefs.specs.Copied.{CopiesBlocks, in_grids}
use Rattle.jpg_coefs.specs.Picture.{Picture, map_of}
use Rattle.jpg_coefs.proofs.Copied.{all_real}
use Rattle.jpg_file.specs.declared.read.picture.Picture.{Picture as Read}
use Rattle.jpg_transform.specs.MovedBlocks.{ShowsJob}
use Rattle.jpg_transform.specs.declared.choice.Job.{Job}
use Rattle.jpg_spec_move.proofs.OutsideZeros.{real_true}

pub shows_all : (p : Read) (job : Job) (seen : Blocks) (old new : Picture) (n : ℕ) → ShowsJob p job seen → old.blocks ≡ replicate n (zeros 64) → CopiesBlocks (in_grids job.plan.out.frame) seen old new → ShowsJob p job (map_of new)
shows_all p job seen old new n shows none all = λ choice is.
    (let s = shows choice is in
    record {
      grids = s.grids;
      same = λ i x y r. s.same i x y r ∙ sym (all_real job.plan.out.frame seen old new n none all i x y ∙ real_true job.plan.out.frame seen i x y r);
    })
