-- What taking a complete file does to a desk.
use Rattle.std.specs.Prelude.{◌≡◌, ℕ, ◌-◌, List, [], ◌∷◌, ◌++◌, take, Result, Ok, Err}
use Rattle.jpg_base.specs.declared.names.Name.{Name}
use Rattle.jpg_base.specs.declared.names.Put.TheVariants as put
use Rattle.jpg_base.specs.Desk.{DeskState}
use Rattle.jpg_spec_words.specs.declared.answers.Why.{Why}
use Rattle.jpg_spec_words.specs.declared.answers.Why.TheVariants as why
use Rattle.jpg_spec_words.specs.declared.answers.Which.{Which}
use Rattle.jpg_desk.specs.Endings.{Asks, Stopped, Unopened, Unread}
use Rattle.jpg_desk.specs.Reading.{IsFile, ReadsPart, rest_of}

-- The file of this name was read to its end, or up to a number of bytes; or why not, with a fault that names the file.
abbrev pub AfterFile : Name → ℕ → Which → DeskState → Result (List ℕ) Why → DeskState → Type 0
AfterFile file most which old (Ok bytes) new =
    Asks (file ∷ []) put.Done old new × IsFile old.files file (bytes ++ rest_of new.left) × (bytes ≡ take most (bytes ++ rest_of new.left))
AfterFile file most which old (Err (why.OpenFault is)) new = (is ≡ which) × Unopened (file ∷ []) old new
AfterFile file most which old (Err (why.ReadFault is)) new = (is ≡ which) × Unread (file ∷ []) old new × ReadsPart (most - 1) file old new
AfterFile file most which old (Err why.NoMemory) new = Stopped (file ∷ []) put.Done old new × ReadsPart most file old new
AfterFile file most which old (Err other) new = ⊥
