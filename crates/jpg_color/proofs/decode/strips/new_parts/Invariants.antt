use Rattle.jpg_spec.specs.FileMeaning.{no_blocks}
use Rattle.jpg_file.specs.Read.PictureKept.{bare_picture}
use Rattle.jpg_color.specs.StripsState.{AreNewParts}
use Rattle.jpg_color.proofs.decode.strips.new_parts.Given as goal

abbrev pub invariant-loop-i : goal.invariant-loop-i
invariant-loop-i l = AreNewParts (bare_picture l.head.frame l.head.quants.items no_blocks) l.smooth l.i l.parts.items
