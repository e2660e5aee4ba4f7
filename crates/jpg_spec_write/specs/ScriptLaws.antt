-- TERMS OF THE LAWS over scripts. No definition uses them.
use Rattle.std.specs.Prelude.{◌≡◌, ◌≤◌, true, false, List, length, None}
use Rattle.jpg_spec.specs.Geometry.{Frame, is_progressive}
use Rattle.jpg_spec.specs.Meaning.{Meaning}
use Rattle.jpg_spec_write.specs.FileText.{frame_of_meaning}
use Rattle.jpg_spec_write.specs.Script.{Entry, is_progressive_script}
use Rattle.jpg_spec_write.specs.ScriptFaults.{script_fault}
use Rattle.jpg_spec.specs.declared.frame.Colour.{Colour}
use Rattle.jpg_spec.specs.declared.frame.Colour.TheVariants.{YCbCr}

-- a sequential script without a fault on a frame of up to four components
pub record PassesSequential (f : Frame) (script : List Entry) : Type 0 where
  pub few : length f.components ≤ 4
  pub sequential : is_progressive_script script ≡ false
  pub faultless : script_fault f script ≡ None

-- a progressive script without a fault on the frame of a meaning that is to be written in it
pub record PassesProgressive (H : Meaning) (script : List Entry) : Type 0 where
  pub few : length (frame_of_meaning H).components ≤ 4
  pub process : is_progressive H.process ≡ true
  pub progressive : is_progressive_script script ≡ true
  pub faultless : script_fault (frame_of_meaning H) script ≡ None

-- one to four components
pub record HasFewComponents (H : Meaning) : Type 0 where
  pub some : 1 ≤ length H.components
  pub few : length H.components ≤ 4

-- One to four components, and three if they are YCbCr.
pub record HasStandardScript (f : Frame) (colour : Colour) : Type 0 where
  pub some : 1 ≤ length f.components
  pub few : length f.components ≤ 4
  pub three : colour ≡ YCbCr → length f.components ≡ 3
