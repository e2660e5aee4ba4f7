use Rattle.std.specs.Prelude.{◌≡◌, length}
use Rattle.jpg_spec.specs.HuffContents.{parsed_huffmans}
use Rattle.jpg_huff.specs.Definitions.{definitions_of}
use Rattle.jpg_markers.proofs.huffmans.put_all.Given as goal

abbrev pub invariant-loop-rest : goal.invariant-loop-rest
invariant-loop-rest l = parsed_huffmans (definitions_of l.tables) l.rest ≡ parsed_huffmans (definitions_of l.fn.tables) l.contents

abbrev pub decreases-loop-rest : goal.decreases-loop-rest
decreases-loop-rest l = length l.rest
