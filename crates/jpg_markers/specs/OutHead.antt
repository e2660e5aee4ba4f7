-- What the head of a written file means (T.81, B.2.1, B.2.2).
use Rattle.std.specs.Prelude.{ℕ, ◌+◌, ◌*◌, List, [], ◌∷◌, ◌++◌, length, map, zip, flat_map}
use Rattle.std.specs.Int.{to_be_bytes, w16}
use Rattle.jpg_spec.specs.Elements.{zeros}
use Rattle.jpg_spec_write.specs.FileText.{kept_text, segment_text, slot_in, sof_code}
use Rattle.jpg_spec.specs.Geometry.{Frame}
use Rattle.jpg_spec.specs.Meaning.{Meaning, PictureComponent}
use Rattle.jpg_spec_write.specs.Headed.{copied, headed_kept}
use Rattle.jpg_spec.specs.Segments.{QuantTable}
use Rattle.jpg_spec.specs.declared.frame.Component.{Component}
use Rattle.jpg_markers.specs.declared.writing.head.OutHead.{OutHead}

-- components with their tables
abbrev pub with_tables : List Component → List QuantTable → List PictureComponent
with_tables components tables = map (λ p. record { id = p.0.id; h = p.0.h; v = p.0.v; quants = p.1 }) (zip components tables)

-- The meaning of a file with this head, whose blocks are zeros. The kept markers are those that are written.
abbrev pub head_meaning : OutHead → List (ℕ × List ℕ) → Meaning
head_meaning head kept = record {
  process = head.frame.process;
  precision = head.frame.precision;
  width = head.frame.width;
  height = head.frame.height;
  components = with_tables head.frame.components head.quants.items;
  blocks = λ i x y. zeros 64;
  kept = headed_kept head.colour head.jfif (copied head.copying kept);
}

-- THE FRAME HEADER in its parts

-- before the components
abbrev pub front_contents : Frame → List ℕ
front_contents f = f.precision ∷ to_be_bytes w16 f.height ++ to_be_bytes w16 f.width ++ length f.components ∷ []

abbrev pub component_text : Component → ℕ → List ℕ
component_text c slot = c.id ∷ (16 * c.h + c.v) ∷ slot ∷ []

abbrev pub component_texts : List QuantTable → List (Component × QuantTable) → List ℕ
component_texts distinct parts = flat_map (λ p. component_text p.0 (slot_in distinct p.1)) parts

abbrev pub frame_contents : List QuantTable → Frame → List QuantTable → List ℕ
frame_contents distinct f tables = front_contents f ++ component_texts distinct (zip f.components tables)

-- the segment of the frame header
abbrev pub frame_segment : List QuantTable → OutHead → List ℕ
frame_segment distinct head = segment_text (sof_code head.frame.process) (frame_contents distinct head.frame head.quants.items)

-- THE MARKERS that are written: the JFIF header or Adobe segment, and the kept ones that are passed on
abbrev pub markers_text : OutHead → List (ℕ × List ℕ) → List ℕ
markers_text head kept = kept_text (headed_kept head.colour head.jfif (copied head.copying kept))
