-- WHAT DOESN'T DEPEND on the markers that a reader leaves out: the transformed picture, if it passes on no more than
-- was kept, and the image.
use Rattle.std.specs.Prelude.{◌≡◌, Bool}
use Rattle.jpg_spec.specs.Meaning.{Meaning}
use Rattle.jpg_spec_move.specs.Moved.{Choice, moved, picture_fault}
use Rattle.jpg_spec_image.specs.Pixels.{info, out_fault, pixels}
use Rattle.jpg_spec.specs.declared.frame.Copying.{Copying}
use Rattle.jpg_spec.specs.declared.frame.Copying.TheVariants as copying
use Rattle.jpg_file.specs.Read.SegmentState.{kept_for}

pub record MissNothing : Type 0 where
  pub all : (M : Meaning) → kept_for copying.All M ≡ M
  pub moved : (choice : Choice) (M : Meaning) → moved choice (kept_for choice.copying M) ≡ moved choice M
  pub fault : (choice : Choice) (M : Meaning) → picture_fault choice (kept_for choice.copying M) ≡ picture_fault choice M
  pub shown : (keeping : Copying) (gray : Bool) (M : Meaning) → out_fault gray (kept_for keeping M) ≡ out_fault gray M
  pub told : (keeping : Copying) (gray : Bool) (M : Meaning) → info (kept_for keeping M) gray ≡ info M gray
  pub pixels : (keeping : Copying) (gray smooth : Bool) (M : Meaning) → pixels (kept_for keeping M) gray smooth ≡ pixels M gray smooth
