-- WHAT THE WORDS OF A COMMAND ASK FOR, after its own word; the first fault of the words from left to right (the manuals
-- of the commands in release 6b; shortest forms and faults are the suite's).
use Rattle.std.specs.Prelude.{ℕ, ◌+◌, Bool, true, false, not, nat_le, ◌&&◌, ◌==◌, if◌then◌else◌, List, [], ◌∷◌, length, Option, Some, None, option_and_then, codes}
use Rattle.jpg_spec.specs.Lists.{all_of}
use Rattle.jpg_spec.specs.NumberTexts.{is_digit, digits_from}
use Rattle.jpg_spec_write.specs.FileText.{Restart, off, rows, mcus}
use Rattle.jpg_spec_write.specs.declared.huffman.Huffman.{Huffman}
use Rattle.jpg_spec_write.specs.declared.huffman.Huffman.TheVariants.{Plain, Fitted}
use Rattle.jpg_spec_words.specs.Switches.{Switch, is_switch, lower, purpose_of, abbreviates}
use Rattle.jpg_spec_words.specs.declared.answers.Usage.{Usage}
use Rattle.jpg_spec_words.specs.declared.answers.UsageFault.{UsageFault}
use Rattle.jpg_spec_words.specs.declared.answers.UsageFault.TheVariants.{UnknownSwitch, LeftOutSwitch, MissingValue, BadValue, TooManyFiles}
use Rattle.jpg_spec_words.specs.declared.switch.Flag.{Flag}
use Rattle.jpg_spec_words.specs.declared.switch.Purpose.{Purpose}
use Rattle.jpg_spec_words.specs.declared.switch.Purpose.TheVariants.{LeftOut, Alone, Valued}
use Rattle.jpg_spec_words.specs.declared.switch.Setting.{Setting}

-- a file: standard input, standard output, or one with a name
pub data FileName : Type 0 where
  standard_input : FileName
  standard_output : FileName
  named : List ℕ → FileName

pub record FilesAsked : Type 0 where
  pub input : FileName
  pub output : FileName

-- the files with this input, and with this output
abbrev pub with_input : List ℕ → FilesAsked → FilesAsked
with_input name files = record { input = named name; output = files.output }

abbrev pub with_output : List ℕ → FilesAsked → FilesAsked
with_output name files = record { input = files.input; output = named name }

-- what words ask for, or what is wrong with which of them
pub data ParsedWords (X : Type 0) : Type 0 where
  words_wrong : Usage → ParsedWords X
  words_right : X → ParsedWords X

abbrev pub usage_at : {X : Type 0} → UsageFault → ℕ → ParsedWords X
usage_at fault index = words_wrong (record { fault = fault; word = index })

-- from the input to standard output
abbrev pub from_to : FileName → FilesAsked
from_to input = record { input = input; output = standard_output }

-- words that are right ask for what follows from their meaning
abbrev pub then_asks : {X Y : Type 0} → ParsedWords X → (X → ParsedWords Y) → ParsedWords Y
then_asks (words_wrong usage) asks = words_wrong usage
then_asks (words_right x) asks = asks x

-- VALUES

-- with the value after the switch of this index
abbrev pub with_value : {X R : Type 0} → ℕ → Option X → (X → ParsedWords R) → ParsedWords R
with_value index (Some x) asks = asks x
with_value index None asks = usage_at BadValue (index + 1)

-- if the value after it is allowed
abbrev pub where_good : {R : Type 0} → ℕ → Bool → R → ParsedWords R
where_good index true a = words_right a
where_good index false a = usage_at BadValue (index + 1)

abbrev pub is_number : List ℕ → Bool
is_number text = nat_le 1 (length text) && nat_le (length text) 5 && all_of is_digit text

abbrev pub number_of : List ℕ → Option ℕ
number_of text = if is_number text then Some (digits_from 0 text) else None

-- restart intervals: a number of rows of MCUs, or of MCUs with a B after it, at most 65535; for 0 there is none
abbrev pub without_b : List ℕ → List ℕ
without_b [] = []
without_b (b ∷ []) = if lower b == 98 then [] else b ∷ []
without_b (b ∷ next ∷ text) = b ∷ without_b (next ∷ text)

abbrev pub ends_with_b : List ℕ → Bool
ends_with_b [] = false
ends_with_b (b ∷ []) = lower b == 98
ends_with_b (b ∷ next ∷ text) = ends_with_b (next ∷ text)

abbrev pub restart_by : Bool → ℕ → Option Restart
restart_by in_mcus n =
    if not (nat_le n 65535) then None else if n == 0 then Some off else if in_mcus then Some (mcus n) else Some (rows n)

abbrev pub restart_named : List ℕ → Option Restart
restart_named value = option_and_then (restart_by (ends_with_b value)) (number_of (without_b value))

-- which Huffman tables; a prefix of their name is enough
abbrev pub huffman_named : List ℕ → Option Huffman
huffman_named value =
    if abbreviates 1 (codes "plain") value then Some Plain
    else if abbreviates 1 (codes "fitted") value then Some Fitted
    else None

-- only release 6b's `int`
abbrev pub is_int : List ℕ → Bool
is_int value = abbreviates 1 (codes "int") value

-- A COMMAND: its switches; and what is asked for after what was asked for so far, with an input of this name, with a
-- switch without a value at this index, and with one at this index that has this value
pub record Tool (R : Type 0) : Type 0 where
  pub switches : List Switch
  pub named : List ℕ → R → R
  pub flag : Flag → ℕ → R → ParsedWords R
  pub setting : Setting → ℕ → List ℕ → R → ParsedWords R

-- by the last word, a switch of this purpose
abbrev pub last_switch : {R : Type 0} → Tool R → ℕ → Option Purpose → R → ParsedWords R
last_switch tool index (Some (Alone flag)) a = tool.flag flag index a
last_switch tool index (Some (Valued setting)) a = usage_at MissingValue index
last_switch tool index (Some LeftOut) a = usage_at LeftOutSwitch index
last_switch tool index None a = usage_at UnknownSwitch index

-- by a switch and the word after it, and then by the words from that one on, or by those after it
abbrev pub next_switch : {R : Type 0} → Tool R → ℕ → Option Purpose → List ℕ → R → (R → ParsedWords R) → (R → ParsedWords R) → ParsedWords R
next_switch tool index (Some (Alone flag)) next a from after = then_asks (tool.flag flag index a) from
next_switch tool index (Some (Valued setting)) next a from after = then_asks (tool.setting setting index next a) after
next_switch tool index (Some LeftOut) next a from after = usage_at LeftOutSwitch index
next_switch tool index None next a from after = usage_at UnknownSwitch index

-- From the word of this index on, after the switches before. A file's name is the last word.
abbrev pub request_from : {R : Type 0} → Tool R → ℕ → R → List (List ℕ) → ParsedWords R
request_from tool index a [] = words_right a
request_from tool index a (word ∷ []) =
    if is_switch word then last_switch tool index (purpose_of tool.switches word) a else words_right (tool.named word a)
request_from tool index a (word ∷ next ∷ words) =
    if is_switch word
    then next_switch tool index (purpose_of tool.switches word) next a
    (λ told. request_from tool (index + 1) told (next ∷ words))
    (λ told. request_from tool (index + 2) told words)
    else usage_at TooManyFiles (index + 1)

-- from the word after the command on; if there are none, this is asked for
abbrev pub request : {R : Type 0} → Tool R → R → List (List ℕ) → ParsedWords R
request tool start words = request_from tool 1 start words
