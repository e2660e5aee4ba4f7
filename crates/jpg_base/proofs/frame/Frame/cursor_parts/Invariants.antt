use Rattle.std.specs.Prelude.{◌≡◌, All, take, map}
use Rattle.arrayvec.specs.ArrayVec.{array_vec_len}
use Rattle.jpg_base.specs.Cursor.{HasPartFactors, cursor_part_of}
use Rattle.jpg_base.proofs.frame.Frame.cursor_parts.Given as goal

abbrev pub invariant-loop-part : goal.invariant-loop-part
invariant-loop-part l = (l.list.items ≡ map (λ p. cursor_part_of l.self p.component) (take l.part-index l.parts)) × (array_vec_len l.list ≡ l.part-index) × All HasPartFactors l.list.items
