-- HOW THE WORK OF jpgwork ENDS, by why it ended; and its steps, each over a desk in memory of its own.
use Rattle.std.specs.Prelude.{◌≡◌, ◌⊎◌, ℕ, Bool, true, false, List, [], ◌∷◌, drop, length, sum, if◌then◌else◌, Option, None, Some, IfSome}
use Rattle.std.specs.Str.{bytes_eq}
use Rattle.jpg_base.specs.declared.memory.MemoryDesk.{MemoryDesk}
use Rattle.jpg_base.specs.declared.names.Name.TheVariants as name
use Rattle.jpg_base.specs.Desk.{DeskState}
use Rattle.jpg_base.specs.Memory.{memory_outputs, memory_state}
use Rattle.jpg_spec.specs.FileMeaning.{Means}
use Rattle.jpg_spec.specs.Meaning.{Meaning}
use Rattle.jpg_spec.specs.Segments.{standard_limits}
use Rattle.jpg_spec_image.specs.ImageText.{end_text, pnm_header}
use Rattle.jpg_spec_image.specs.Pixels.{info, pixels}
use Rattle.jpg_spec_image.specs.declared.image.EndKind.TheVariants.{Pnm}
use Rattle.jpg_spec_move.specs.Moved.{Choice, moved, moved_text}
use Rattle.jpg_spec_move.specs.declared.transform.Transform.{Transform}
use Rattle.jpg_spec_write.specs.ScansAsked.{sequential, standard}
use Rattle.jpg_cli.specs.Certain.{IsTold}
use Rattle.jpg_cli.specs.declared.tools.work_lines.WorkFiles.{WorkFiles}
use Rattle.jpg_spec_words.specs.TransformWords.{ScansSource, choice_asked, transform_default, own_progressive, own_sequential}
use Rattle.jpg_spec_words.specs.Work.{lines, work_info, work_text}
use Rattle.jpg_spec_words.specs.declared.answers.Usage.{Usage}
use Rattle.jpg_spec_words.specs.declared.answers.UsageFault.TheVariants.{NoEnd}
use Rattle.jpg_spec_words.specs.declared.answers.Why.{Why}
use Rattle.jpg_spec_words.specs.declared.answers.Why.TheVariants as why
use Rattle.jpg_desk.specs.Judging.{Judging}
use Rattle.jpg_desk.specs.Writing.{AfterMade}
use Rattle.jpg_cli.specs.Outcome.{Conversion, Converted, at_end}
use Rattle.jpg_desk.specs.Stays.{Untouched}

-- THE CONVERSION of a number, which has no input: its value is this number. Nothing is refused; as nothing is read,
-- reading neither fails nor lacks memory.
abbrev pub number_judging : ℕ → Judging ℕ
number_judging n = record {
  means = λ early m bytes. (early ≡ None) × (m ≡ n);
  refuses = λ f bytes. ⊥;
  has = λ m early rest bytes. (early ≡ None) × (m ≡ n);
  refused = λ f rest bytes. ⊥;
  unfinished = λ bytes. ⊥;
  short = λ bytes. ⊥;
}

-- The text is that of its five lines, and goes to standard output.
abbrev pub work_conversion : ℕ → Conversion ℕ
work_conversion n = record {
  before = [];
  input = None;
  output = name.Out;
  judging = number_judging n;
  fault = λ m. None;
  text = work_text;
  right = λ m. Unit {0};
  writing = at_end;
}

-- the five lines, by the texts of the three files and the sum of the samples
abbrev pub lines_by : ℕ → WorkFiles → ℕ → List ℕ
lines_by size files samples = lines (work_info size) (length files.first.now) (length files.turned.now) (bytes_eq files.back.now files.first.now) samples

-- no image writer has the format; this is after the two words
abbrev pub no_end : Usage
no_end = record { fault = NoEnd; word = 2 }

-- THE WORK by this number: its lines are written, or there was no memory, and nothing was done; if none of the image
-- writers makes PNM, the words are wrong.
abbrev pub DidWork : Bool → ℕ → DeskState → Why → DeskState → Type 0
DidWork true n old ended new = Converted (work_conversion n) old ended new ⊎ ((ended ≡ why.NoMemory) × Untouched old new)
DidWork false n old ended new = (ended ≡ why.Usage no_end) × Untouched old new

-- a text was written to standard output, by why that ended
abbrev pub WritesReport : List ℕ → DeskState → Why → DeskState → Type 0
WritesReport text old ended new = AfterMade None text (Unit {0}) name.Out old ended new

-- ITS STEPS, which return nothing if there was no memory

-- Standard input has these bytes, and there is no output.
pub record HoldsInput (input : List ℕ) (desk : MemoryDesk) : Type 0 where
  pub told : IsTold (memory_state desk).files name.In input
  pub outputs : (memory_state desk).outputs ≡ Some []

-- the only output has this text
abbrev pub HasOutput : List ℕ → MemoryDesk → Type 0
HasOutput text desk = memory_outputs desk ≡ (name.Out, text) ∷ []

-- which means this picture
pub record HasFile (M : Meaning) (text : List ℕ) (desk : MemoryDesk) : Type 0 where
  pub output : HasOutput text desk
  pub means : Means standard_limits text M

-- the default scans of a kind
abbrev pub scans_by : Bool → ScansSource
scans_by progressive = if progressive then own_progressive else own_sequential

-- `jpegtran` without other words than a transform and perhaps `-progressive`
abbrev pub work_choice : Transform → Bool → Choice
work_choice t progressive =
    choice_asked (record transform_default { transform = t }) (if progressive then standard else sequential)

abbrev pub TurnsFile : Choice → List ℕ → Option MemoryDesk → Type 0
TurnsFile choice input result = (M : Meaning) → Means standard_limits input M → IfSome result (λ desk. HasFile (moved choice M) (moved_text choice M) desk)

-- the text of the image
abbrev pub HasImage : Meaning → MemoryDesk → Type 0
HasImage M desk = HasOutput (end_text Pnm (info M false) (pixels M false true)) desk

abbrev pub ShowsFile : List ℕ → Option MemoryDesk → Type 0
ShowsFile input result = (M : Meaning) → Means standard_limits input M → IfSome result (HasImage M)

-- the five lines, by the texts of the three files and of an image of these sides
abbrev pub ReportsShown : ℕ → List ℕ → List ℕ → List ℕ → List ℕ → Option (List ℕ) → Type 0
ReportsShown n first turned back image result =
    IfSome result (λ text. text ≡ lines (work_info n) (length first) (length turned) (bytes_eq back first) (sum (drop (length (pnm_header (work_info n))) image)))
