use Rattle.std.proofs.Common.{List, ℕ, sym, subst}
use Rattle.jpg_spec.specs.FileMeaning.{Means}
use Rattle.jpg_spec_move.specs.Moved.{moved}
use Rattle.jpg_spec.specs.Segments.{standard_limits}
use Rattle.jpg_spec_move.proofs.MovedText.{moved_means}
use Rattle.jpg_spec_move.proofs.MeaningLeft.{read_moved}
use Rattle.jpg_spec_move.proofs.moved_laws.moved_pictures_may_be_written.Goals as goal

pub returns-clause-headed : goal.returns-clause-headed
returns-clause-headed c = λ choice M is. read_moved M choice is

pub returns-clause-means : goal.returns-clause-means
returns-clause-means c = λ choice M bytes w.
    let headed = read_moved M choice w.movable in
    subst (λ (l : List ℕ). Means standard_limits l (moved choice M)) (sym w.text) (moved_means choice M headed w.faultless w.small)
