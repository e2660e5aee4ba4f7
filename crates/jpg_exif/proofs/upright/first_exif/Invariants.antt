use Rattle.jpg_exif.proofs.Firsts.{NoneBefore}
use Rattle.jpg_exif.proofs.upright.first_exif.Given as goal

abbrev pub invariant-loop-index : goal.invariant-loop-index
invariant-loop-index l = NoneBefore l.kept l.rest l.index
