use Rattle.std.proofs.Common.{List, ℤ, ◌++◌, ◌∷◌, [], sym, subst}
use Rattle.jpg_spec.specs.PictureInWork.{UnitsRead}
use Rattle.jpg_spec.specs.declared.frame.Place.{Place}
use Rattle.jpg_spec.proofs.Bits.UnitsRead.{units_first, units_next, units_last}
use Rattle.jpg_spec.proofs.file_meaning_laws.intervals_are_read_unit_by_unit.Goals as goal

pub returns-clause-first : goal.returns-clause-first
returns-clause-first c = λ s old sizes. units_first s old sizes

pub returns-clause-next : goal.returns-clause-next
returns-clause-next c = λ s places old new told w.
    subst (λ (l : List Place). UnitsRead s l old new told) (sym w.all_places)
    (subst (λ (l : List ℤ). UnitsRead s (w.earlier ++ w.place ∷ []) old new l) (sym w.all_told)
    (units_next s w.earlier w.place old w.work new w.told_earlier w.apart w.so_far w.change))

pub returns-clause-last : goal.returns-clause-last
returns-clause-last c = λ s places old new w. units_last s places old new w.told w.bits w.read w.spelled
