use Rattle.std.proofs.Common.{arith, List, ℕ, ◌<◌, ◌^◌, length, sym, subst}
use Rattle.jpg_spec.specs.Segments.{standard_limits}
use Rattle.jpg_spec.specs.FileMeaning.{Means}
use Rattle.jpg_spec.proofs.Writing.WrittenFront.{standard_are_limits}
use Rattle.jpg_spec_write.proofs.ProgressiveFile.{progressive_means}
use Rattle.jpg_spec_write.proofs.ProgressiveLength.{progressive_short}
use Rattle.jpg_spec_write.proofs.written_laws.progressive_files_are_short.Goals as goal

pub returns-clause-short : goal.returns-clause-short
returns-clause-short c = λ limits H bytes limited w.
    subst (λ (l : List ℕ). length l < 2 ^ 39) (sym w.text) (progressive_short w.huffman limits H w.script w.restart limited w.file.headed w.file.progressive w.file.passes w.small)

pub returns-clause-means : goal.returns-clause-means
returns-clause-means c = λ H bytes w.
    let short = progressive_short w.huffman standard_limits H w.script w.restart standard_are_limits w.file.headed w.file.progressive w.file.passes w.small in
    subst (λ (l : List ℕ). Means standard_limits l H) (sym w.text)
    (progressive_means w.huffman standard_limits H w.script w.restart standard_are_limits w.file.headed w.file.progressive w.file.passes w.small (omega (arith, short)))
