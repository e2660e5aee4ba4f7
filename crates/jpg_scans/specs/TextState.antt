-- The result of the bytes of a script's text, one by one: numbers, an entry, entries (release 6b's wizard.txt).
-- ScriptGrammar of jpg_spec defines what a text is.
use Rattle.std.specs.Prelude.{ℕ, ◌+◌, ◌-◌, ◌*◌, ◌<◌, Bool, true, false, nat_lt, nat_le, ◌&&◌, ◌==◌, if◌then◌else◌, List, [], ◌∷◌, ◌++◌, length, Option, None, Some, option_map}
use Rattle.jpg_spec.specs.Lists.{is_empty}
use Rattle.jpg_spec.specs.NumberTexts.{is_digit, is_space}
use Rattle.jpg_spec_write.specs.Script.{Entry}
use Rattle.jpg_spec.specs.TextReaders.{TextReader}
use Rattle.jpg_spec_write.specs.ScriptGrammar.{is_joint, banded, script_form}
use Rattle.jpg_texts.specs.TextKinds.{TextKind}
use Rattle.jpg_scans.specs.declared.standing.Standing.{Standing}
use Rattle.jpg_scans.specs.declared.standing.Standing.TheVariants.{Before, InNumber, Behind, Joined}

-- NUMBERS: the complete ones, and the position among them

pub record NumbersState : Type 0 where
  pub numbers : List ℕ
  pub standing : Standing

-- the current number is complete before a byte that isn't a digit
abbrev pub ended_by : List ℕ → Standing → NumbersState
ended_by numbers Before = record { numbers = numbers; standing = Before }
ended_by numbers (InNumber digits value) = record { numbers = numbers ++ value ∷ []; standing = Behind }
ended_by numbers Behind = record { numbers = numbers; standing = Behind }
ended_by numbers Joined = record { numbers = numbers; standing = Joined }

abbrev pub ended : NumbersState → NumbersState
ended s = ended_by s.numbers s.standing

-- the first digit of a number
abbrev pub first_digit : List ℕ → ℕ → Option NumbersState
first_digit numbers d = if nat_lt (length numbers) 4 then Some (record { numbers = numbers; standing = InNumber 1 d }) else None

abbrev pub further_digit : List ℕ → ℕ → ℕ → ℕ → Option NumbersState
further_digit numbers digits value d =
    if nat_lt digits 3 && nat_le (10 * value + d) 255 then Some (record { numbers = numbers; standing = InNumber (digits + 1) (10 * value + d) }) else None

abbrev pub digit_by : List ℕ → Standing → ℕ → Option NumbersState
digit_by numbers Before d = first_digit numbers d
digit_by numbers (InNumber digits value) d = further_digit numbers digits value d
digit_by numbers Behind d = first_digit numbers d
digit_by numbers Joined d = first_digit numbers d

-- a comma or hyphen, after a number that isn't the last one allowed
abbrev pub joint_by : List ℕ → Standing → Option NumbersState
joint_by numbers Before = None
joint_by numbers (InNumber digits value) = None
joint_by numbers Behind = if nat_lt (length numbers) 4 then Some (record { numbers = numbers; standing = Joined }) else None
joint_by numbers Joined = if nat_lt (length numbers) 4 then Some (record { numbers = numbers; standing = Joined }) else None

abbrev pub number_step : NumbersState → ℕ → Option NumbersState
number_step s b =
    if is_digit b then digit_by s.numbers s.standing (b - 48)
    else if is_space b then Some (ended s)
    else if is_joint b then joint_by (ended s).numbers (ended s).standing
    else None

-- the current number is one of four at most
abbrev pub HasRoom : List ℕ → Standing → Type 0
HasRoom numbers Before = Unit {0}
HasRoom numbers (InNumber digits value) = length numbers < 4
HasRoom numbers Behind = Unit {0}
HasRoom numbers Joined = Unit {0}

-- AN ENTRY: its components, once a colon was read, and the current numbers

pub record EntryState : Type 0 where
  pub components : Option (List ℕ)
  pub list : NumbersState

abbrev pub no_numbers : NumbersState
no_numbers = record { numbers = []; standing = Before }

abbrev pub new_entry : EntryState
new_entry = record { components = None; list = no_numbers }

abbrev pub is_before : Standing → Bool
is_before Before = true
is_before (InNumber digits value) = false
is_before Behind = false
is_before Joined = false

abbrev pub is_after : Standing → Bool
is_after Before = false
is_after (InNumber digits value) = false
is_after Behind = true
is_after Joined = false

-- nothing of an entry but space
abbrev pub is_new_by : Option (List ℕ) → NumbersState → Bool
is_new_by None list = is_before list.standing
is_new_by (Some components) list = false

abbrev pub is_new_entry : EntryState → Bool
is_new_entry s = is_new_by s.components s.list

abbrev pub entry_by : Option (List ℕ) → List ℕ → Option Entry
entry_by None numbers = Some (banded numbers (0 ∷ 63 ∷ 0 ∷ 0 ∷ []))
entry_by (Some components) numbers = if length numbers == 4 then Some (banded components numbers) else None

-- the entry, if it may end here
abbrev pub whole_entry : EntryState → Option Entry
whole_entry s = if is_after (ended s.list).standing then entry_by s.components (ended s.list).numbers else None

abbrev pub colon_by : Option (List ℕ) → List ℕ → Option EntryState
colon_by None numbers = Some (record { components = Some numbers; list = no_numbers })
colon_by (Some components) numbers = None

abbrev pub entry_step : EntryState → ℕ → Option EntryState
entry_step s b =
    if b == 58 then (if is_after (ended s.list).standing then colon_by s.components (ended s.list).numbers else None)
    else option_map (λ list. record { components = s.components; list = list }) (number_step s.list b)

-- ENTRIES: those that have ended, and the current one

pub record TextState : Type 0 where
  pub entries : List Entry
  pub entry : EntryState

-- one more entry, of 100 at most
abbrev pub one_more : List Entry → Option Entry → Option (List Entry)
one_more entries entry = if nat_lt (length entries) 100 then option_map (λ e. entries ++ e ∷ []) entry else None

abbrev pub text_step : TextState → ℕ → Option TextState
text_step s b =
    if b == 59 then option_map (λ entries. record { entries = entries; entry = new_entry }) (one_more s.entries (whole_entry s.entry))
    else if is_digit b && (is_new_entry s.entry && nat_le 100 (length s.entries)) then None
    else option_map (λ entry. record { entries = s.entries; entry = entry }) (entry_step s.entry b)

-- the script, if the text ends here
abbrev pub script_view : TextState → Option (List Entry)
script_view s =
    if is_new_entry s.entry then (if is_empty s.entries then None else Some s.entries)
    else one_more s.entries (whole_entry s.entry)

abbrev pub new_text : TextState
new_text = record { entries = []; entry = new_entry }

abbrev pub script_reader : TextReader (List Entry) TextState
script_reader = record { start = new_text; step = text_step; told = script_view }

abbrev pub script_kind : TextKind TextState (List Entry)
script_kind = record { A = List Entry; form = script_form; reader = script_reader; value = λ entries. entries }
