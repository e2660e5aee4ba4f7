use Rattle.std.proofs.Common.{List, ℕ, sym, subst}
use Rattle.jpg_spec.specs.PictureInWork.{ScanSoFar}
use Rattle.jpg_spec.proofs.Places.PictureInWork.{so_far_first, so_far_next, so_far_last}
use Rattle.jpg_spec.proofs.file_meaning_laws.pictures_in_work_become_scans.Goals as goal

pub returns-clause-first : goal.returns-clause-first
returns-clause-first c = λ s before sizes. so_far_first s before sizes

pub returns-clause-next : goal.returns-clause-next
returns-clause-next c = λ s before new done w.
    subst (λ (l : List (List ℕ)). ScanSoFar s before new l w.left) (sym w.all)
    (so_far_next s before w.work new w.earlier w.coded w.bits w.places w.left w.distinct w.so_far w.packed w.read)

pub returns-clause-last : goal.returns-clause-last
returns-clause-last c = λ s before work intervals w. so_far_last s before work intervals w
