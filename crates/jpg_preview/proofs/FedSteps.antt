-- The end of a file at the marker after a scan that is wanted.
use Rattle.std.proofs.Common.{◌≡◌, ℕ, ◌<◌, ◌≤◌, Bool, true, false, List, refl, subst, inl, inr, Ok, Err}
use Rattle.jpg_spec.specs.FirstFault.{HaveBegun, IsFirstFault}
use Rattle.jpg_spec.proofs.Files.FileLaws.{early_no_fault, stands_early}
use Rattle.jpg_base.specs.declared.stop.Stop.{Stop}
use Rattle.jpg_base.specs.declared.stop.Stop.TheVariants as stop
use Rattle.jpg_file.specs.Read.ReadFile.{AfterEnd, HasRead, ReaderState, StopsAt, TellsBegun}
use Rattle.jpg_file.specs.Read.ScanPieces.{ScansEnded}
use Rattle.jpg_file.specs.declared.read.ends.End.{End}
use Rattle.jpg_file.specs.declared.read.ends.End.TheVariants as ends
use Rattle.jpg_base.specs.declared.stop.Fed.TheVariants as fed
use Rattle.jpg_preview.specs.Viewing.{EndsThere, IsUnwanted, IsWanted}

pub is_wanted : (scans n : ℕ) (r : ReaderState) (b : Bool) → b ≡ true → scans ≤ n → ((bytes : List ℕ) → HasRead bytes r → ScansEnded r.limits bytes n) → ((bytes : List ℕ) → HasRead bytes r → TellsBegun r.limits bytes b) → IsWanted scans r
is_wanted scans n r b e low ended begun = λ bytes h. ((n, ended bytes h, low), subst (λ x. TellsBegun r.limits bytes x) e (begun bytes h))

pub not_begun : (scans : ℕ) (r : ReaderState) (b : Bool) → b ≡ false → ((bytes : List ℕ) → HasRead bytes r → TellsBegun r.limits bytes b) → IsUnwanted scans r
not_begun scans r b e begun = λ bytes h. inr (subst (λ x. TellsBegun r.limits bytes x) e (begun bytes h))

pub not_enough : (scans n : ℕ) (r : ReaderState) → n < scans → ((bytes : List ℕ) → HasRead bytes r → ScansEnded r.limits bytes n) → IsUnwanted scans r
not_enough scans n r less ended = λ bytes h. inl (n, ended bytes h, less)

-- no stop comes
no_stop : (mid new : ReaderState) (bytes : List ℕ) (s : Stop) → new.limits ≡ mid.limits → HasRead bytes mid → HaveBegun mid.limits bytes → StopsAt new.limits bytes s → ⊥
no_stop mid new bytes (stop.Fault f) e h begun k =
    early_no_fault mid.limits bytes f.fault f.at (stands_early mid.limits bytes h.stands h.short begun) (subst (λ l. IsFirstFault l bytes f.fault f.at) e k)
no_stop mid new bytes stop.NoMemory e h begun k = k

pub ends_early : (mid new : ReaderState) (used n : ℕ) (x : End) → x ≡ ends.Early n → ((bytes : List ℕ) → HasRead bytes mid → AfterEnd bytes x new) → EndsThere mid used (Ok (fed.Done used)) new
ends_early mid new used n x e ended = λ bytes h begun. (refl, (subst (λ a. AfterEnd bytes a new) e (ended bytes h)).1)

pub ends_stopped : (mid new : ReaderState) (used : ℕ) (x : End) (s : Stop) → x ≡ ends.Stop s → new.limits ≡ mid.limits → ((bytes : List ℕ) → HasRead bytes mid → AfterEnd bytes x new) → EndsThere mid used (Err s) new
ends_stopped mid new used x s e same ended = λ bytes h begun. no_stop mid new bytes s same h begun (subst (λ a. AfterEnd bytes a new) e (ended bytes h))
