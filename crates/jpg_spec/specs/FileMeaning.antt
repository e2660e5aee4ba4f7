-- THE MEANING OF A FILE (T.81, B.2.1): items that break no rule, whose scans lead from blocks of zeros to the
-- picture's.
use Rattle.std.specs.Prelude.{◌≡◌, ℕ, ◌≤◌, true, List, [], ◌∷◌, ◌++◌, length, map, reverse, None, unwrap_or}
use Rattle.jpg_spec.specs.Lists.{below}
use Rattle.jpg_spec.specs.Geometry.{Frame, component_at}
use Rattle.jpg_spec.specs.Elements.{zeros}
use Rattle.jpg_spec.specs.Scan.{Blocks, Scan, scan_of, ScanMeans}
use Rattle.jpg_spec.specs.Meaning.{Meaning, PictureComponent, real_blocks}
use Rattle.jpg_spec.specs.Markers.{Segment, SpellsMarker, code_fault, kept_after}
use Rattle.jpg_spec.specs.InForce.{frame_of, head_in, huffman_in_force, restart_in_force}
use Rattle.jpg_spec.specs.History.{quant_of, is_complete}
use Rattle.jpg_spec.specs.Items.{Item, segment, scan, segments_of, SpellsFront, contents_rule}
use Rattle.jpg_spec.specs.declared.frame.Limits.{Limits}

-- the scan that an SOS segment begins after these segments
abbrev pub scan_after : Limits → List Segment → List ℕ → Scan
scan_after limits before contents =
    let f = frame_of limits before in scan_of f (huffman_in_force before) (restart_in_force before) (head_in f contents)

abbrev pub no_blocks : Blocks
no_blocks i x y = zeros 64

-- The items break no rule. From blocks of zeros their scans lead, one after another, to these blocks.
abbrev pub Leads : Limits → List Item → Blocks → Type 0
Leads limits [] blocks = blocks ≡ no_blocks
Leads limits (segment code contents ∷ before) blocks =
    (code_fault (segments_of before) code ≡ None) × (contents_rule limits (segments_of before) code contents ≡ None) × Leads limits before blocks
Leads limits (scan contents intervals ∷ before) blocks =
    (old : Blocks) × (code_fault (segments_of before) 0xda ≡ None) × (contents_rule limits (segments_of before) 0xda contents ≡ None)
    × Leads limits before old × ScanMeans (scan_after limits (segments_of before) contents) intervals old blocks

abbrev pub picture_component : Frame → List Segment → ℕ → PictureComponent
picture_component f segments i = record {
  id = (component_at f i).id;
  h = (component_at f i).h;
  v = (component_at f i).v;
  quants = unwrap_or (quant_of f segments i) [];
}

abbrev pub meaning_of : Frame → List Segment → Blocks → Meaning
meaning_of f segments blocks = record {
  process = f.process;
  precision = f.precision;
  width = f.width;
  height = f.height;
  components = map (picture_component f segments) (below (length f.components));
  blocks = real_blocks f blocks;
  kept = reverse (kept_after segments);
}

-- The bytes are SOI, items that break no rule and leave no component without a scan, EOI, and then any bytes.
pub record Means (limits : Limits) (bytes : List ℕ) (M : Meaning) : Type 0 where
  pub items : List Item
  pub blocks : Blocks
  pub front : List ℕ
  pub marker : List ℕ
  pub rest : List ℕ
  pub cut : bytes ≡ front ++ marker ++ rest
  pub spelled : SpellsFront items front
  pub ended : SpellsMarker 0xd9 marker
  pub long : length (front ++ marker) ≤ limits.input
  pub leads : Leads limits items blocks
  pub framed : code_fault (segments_of items) 0xd9 ≡ None
  pub complete : is_complete (frame_of limits (segments_of items)) (segments_of items) ≡ true
  pub meaning : M ≡ meaning_of (frame_of limits (segments_of items)) (segments_of items) blocks
