-- THE SCANS THAT ARE ASKED FOR, the process and the script that come of it.
use Rattle.std.specs.Prelude.{Bool, true, false, List}
use Rattle.jpg_spec.specs.Geometry.{Frame}
use Rattle.jpg_spec.specs.Meaning.{Meaning}
use Rattle.jpg_spec_write.specs.Headed.{sequential_process}
use Rattle.jpg_spec_write.specs.Script.{Entry, is_progressive_script, sequential_script}
use Rattle.jpg_spec_write.specs.ScriptFaults.{standard_script}
use Rattle.jpg_spec.specs.declared.frame.Process.{Process}
use Rattle.jpg_spec.specs.declared.frame.Process.TheVariants.{Progressive}
use Rattle.jpg_spec.specs.declared.frame.Colour.{Colour}

pub data Scans : Type 0 where
  sequential : Scans
  standard : Scans
  given : List Entry → Scans

-- WITH ITS HEADER: SOF2 for a progressive script, otherwise SOF1 or SOF0; the JFIF header or Adobe segment, and the
-- kept segments that are passed on

abbrev pub asks_progressive : Scans → Bool
asks_progressive sequential = false
asks_progressive standard = true
asks_progressive (given script) = is_progressive_script script

abbrev pub process_due : Bool → Meaning → Process
process_due true M = Progressive
process_due false M = sequential_process M

abbrev pub script_due : Scans → Frame → Colour → List Entry
script_due sequential f colour = sequential_script f
script_due standard f colour = standard_script f colour
script_due (given script) f colour = script
