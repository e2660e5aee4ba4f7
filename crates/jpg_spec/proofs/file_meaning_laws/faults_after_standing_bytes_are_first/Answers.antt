use Rattle.std.proofs.Common.{List, ℕ, ◌++◌, length, sym, subst}
use Rattle.jpg_spec.specs.FirstFault.{Reveals, IsFirstFault}
use Rattle.jpg_spec.proofs.Files.FileLaws.{next_shown}
use Rattle.jpg_spec.proofs.file_meaning_laws.faults_after_standing_bytes_are_first.Goals as goal

pub returns : goal.returns
returns c = λ limits bytes rest fault w.
    subst (λ (l : List ℕ). IsFirstFault limits (l ++ rest) fault (length l)) (sym w.cut)
    (next_shown limits w.front rest w.byte fault w.stands (subst (λ (l : List ℕ). Reveals limits fault l) w.cut w.shown) w.within)
