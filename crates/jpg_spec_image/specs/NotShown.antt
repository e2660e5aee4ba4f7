-- WHICH FILES CAN'T BE DISPLAYED (release 6b's djpeg): it is known from the segments up to the first scan header, at
-- its end and before all later faults.
use Rattle.std.specs.Prelude.{◌≡◌, ℕ, ◌≤◌, Bool, List, length, take, Some, None}
use Rattle.jpg_spec.specs.Markers.{Segment}
use Rattle.jpg_spec.specs.Items.{contents_rule}
use Rattle.jpg_spec.specs.Header.{IsHeader}
use Rattle.jpg_spec_image.specs.Pixels.{out_fault_of}
use Rattle.jpg_spec.specs.declared.fault.FaultAt.{FaultAt}
use Rattle.jpg_spec.specs.declared.frame.Limits.{Limits}
use Rattle.jpg_spec.specs.InForce.{frame_of, colours_after, factors_after}

-- This many first bytes are the file's header, whose scan header breaks no rule. Its picture can't be displayed,
-- because of this fault.
pub record IsNotShown (limits : Limits) (gray : Bool) (bytes : List ℕ) (f : FaultAt) : Type 0 where
  pub before : List Segment
  pub contents : List ℕ
  pub within : f.at ≤ length bytes
  pub header : IsHeader limits (take f.at bytes) before contents
  pub unbroken : contents_rule limits before 0xda contents ≡ None
  pub fault : out_fault_of (frame_of limits before).precision (colours_after limits before) gray (factors_after limits before) ≡ Some f.fault
