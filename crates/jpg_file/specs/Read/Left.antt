-- What is left of a file that was read, complete or cut short: its segments, and its picture (T.81, B.2.1).
use Rattle.std.specs.Prelude.{◌≡◌, true, List, Some}
use Rattle.jpg_spec.specs.Geometry.{Frame, bounds}
use Rattle.jpg_spec.specs.Scan.{Blocks}
use Rattle.jpg_spec.specs.Markers.{Segment}
use Rattle.jpg_spec.specs.InForce.{frame_of}
use Rattle.jpg_spec.specs.History.{is_complete}
use Rattle.jpg_spec.specs.Ranges.{AreInRange}
use Rattle.jpg_spec.specs.declared.frame.Limits.{Limits}
use Rattle.jpg_coefs.specs.Picture.{Picture, map_of}
use Rattle.jpg_file.specs.Read.SegmentState.{HasBegun, Holds, segments_view}
use Rattle.jpg_file.specs.declared.read.file.FileState.{FileState}
use Rattle.jpg_file.specs.declared.read.window.Window.TheVariants as window

-- Each component was in a scan of these segments, and the coefficients are these blocks, in their range.
pub record Leaves (limits : Limits) (segments : List Segment) (blocks : Blocks) (w : FileState) : Type 0 where
  pub coefs : Picture
  pub has : w.window ≡ window.All coefs
  pub framed : coefs.frame ≡ frame_of limits segments
  pub as_map : blocks ≡ map_of coefs
  pub frame : Frame
  pub held : w.items.held.frame ≡ Some frame
  pub is : frame_of limits segments ≡ frame
  pub holds : Holds limits (segments_view w.items.held) segments
  pub begun : HasBegun limits w.begun segments
  pub complete : is_complete (frame_of limits segments) segments ≡ true
  pub range : AreInRange (bounds (frame_of limits segments)) blocks

-- whatever segments and blocks
abbrev pub LeavesPicture : Limits → FileState → Type 0
LeavesPicture limits w = (segments : List Segment) × (blocks : Blocks) × Leaves limits segments blocks w
