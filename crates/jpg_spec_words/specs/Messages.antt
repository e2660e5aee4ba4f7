-- WHAT A COMMAND SAYS at its end, and its exit status.
use Rattle.std.specs.Prelude.{ℕ, List, [], ◌∷◌, ◌++◌, Option, None, Some, codes}
use Rattle.std.specs.Fmt.{decimal}
use Rattle.jpg_spec.specs.Faults.{fault_name}
use Rattle.jpg_spec_words.specs.declared.answers.UsageFault.{UsageFault}
use Rattle.jpg_spec_words.specs.declared.answers.UsageFault.TheVariants.{NoTool, UnknownTool, UnknownSwitch, LeftOutSwitch, MissingValue, BadValue, TwoTransforms, TooManyFiles, TwoComments, NeedsInput, NoEnd}
use Rattle.jpg_spec_words.specs.declared.answers.Which.{Which}
use Rattle.jpg_spec_words.specs.declared.answers.Which.TheVariants.{Input, Script, Tables, Comment, Output}
use Rattle.jpg_spec_words.specs.declared.answers.Why.{Why}
use Rattle.jpg_spec_write.specs.declared.picture_fault.PictureFault.{PictureFault}
use Rattle.jpg_spec_write.specs.declared.picture_fault.PictureFault.TheVariants.{GrayColour, GrayFactors, FractionalFactors, TooManyBlocks, ScriptComponent, ScriptMcu, ScriptBand, ScriptIncomplete, CropOutside}
use Rattle.jpg_spec_words.specs.declared.answers.Why.TheVariants.{Done, Warned, Usage, Refused, Picture, OpenFault, ReadFault, WriteFault, NoMemory}
use Rattle.jpg_spec_write.specs.PictureFaults.{picture_name}

abbrev pub usage_name : UsageFault → List ℕ
usage_name NoTool = codes "NoTool"
usage_name UnknownTool = codes "UnknownTool"
usage_name UnknownSwitch = codes "UnknownSwitch"
usage_name LeftOutSwitch = codes "LeftOutSwitch"
usage_name MissingValue = codes "MissingValue"
usage_name BadValue = codes "BadValue"
usage_name TwoTransforms = codes "TwoTransforms"
usage_name TooManyFiles = codes "TooManyFiles"
usage_name TwoComments = codes "TwoComments"
usage_name NeedsInput = codes "NeedsInput"
usage_name NoEnd = codes "NoEnd"

abbrev pub which_name : Which → List ℕ
which_name Input = codes "input"
which_name Script = codes "script"
which_name Tables = codes "tables"
which_name Comment = codes "comment"
which_name Output = codes "output"

-- a number after a space
abbrev pub then_number : ℕ → List ℕ
then_number n = 32 ∷ decimal n

abbrev pub then_bit : Option ℕ → List ℕ
then_bit None = codes " never"
then_bit (Some bit) = then_number bit

-- the numbers of a fault, from 0: the component, the entry of the script, the coefficient, and the bit down to which it
-- is known
abbrev pub picture_numbers : PictureFault → List ℕ
picture_numbers GrayColour = []
picture_numbers GrayFactors = []
picture_numbers (FractionalFactors component) = then_number component
picture_numbers TooManyBlocks = []
picture_numbers (ScriptComponent entry) = then_number entry
picture_numbers (ScriptMcu entry) = then_number entry
picture_numbers (ScriptBand entry) = then_number entry
picture_numbers (ScriptIncomplete component coefficient bit) = then_number component ++ then_number coefficient ++ then_bit bit
picture_numbers CropOutside = []

-- the text after the command's name and `: `
abbrev pub text_of : Why → List ℕ
text_of Done = []
text_of (Warned n) = codes "warning: ends early at byte " ++ decimal n
text_of (Usage u) = codes "usage: " ++ usage_name u.fault ++ codes " at word " ++ decimal u.word
text_of (Refused f) = codes "refused: " ++ fault_name f.fault ++ codes " at byte " ++ decimal f.at
text_of (Picture p) = codes "picture: " ++ picture_name p ++ picture_numbers p
text_of (OpenFault which) = codes "can't open " ++ which_name which
text_of (ReadFault which) = codes "can't read " ++ which_name which
text_of WriteFault = codes "can't write output"
text_of NoMemory = codes "out of memory"

abbrev pub line : List ℕ → List ℕ → List ℕ
line tool text = tool ++ codes ": " ++ text ++ 10 ∷ []

-- the message of a command: nothing for Done, otherwise one line
abbrev pub message : List ℕ → Why → List ℕ
message tool Done = []
message tool (Warned n) = line tool (text_of (Warned n))
message tool (Usage u) = line tool (text_of (Usage u))
message tool (Refused f) = line tool (text_of (Refused f))
message tool (Picture p) = line tool (text_of (Picture p))
message tool (OpenFault which) = line tool (text_of (OpenFault which))
message tool (ReadFault which) = line tool (text_of (ReadFault which))
message tool WriteFault = line tool (text_of WriteFault)
message tool NoMemory = line tool (text_of NoMemory)

-- the exit status
abbrev pub status_of : Why → ℕ
status_of Done = 0
status_of (Warned n) = 2
status_of (Usage u) = 1
status_of (Refused f) = 1
status_of (Picture p) = 1
status_of (OpenFault which) = 1
status_of (ReadFault which) = 1
status_of WriteFault = 1
status_of NoMemory = 3
