use Rattle.std.specs.Prelude.{◌≡◌, ◌+◌, ◌*◌, ◌++◌, take, length, zip}
use Rattle.jpg_markers.specs.OutHead.{component_texts, front_contents}
use Rattle.jpg_markers.proofs.writing.frame.contents_of.Given as goal

abbrev pub invariant-loop-i : goal.invariant-loop-i
invariant-loop-i l = (l.contents.items ≡ front_contents l.frame ++ component_texts l.distinct (take l.i (zip l.frame.components l.tables))) × (length l.contents.items ≡ 6 + 3 * l.i)
