use Rattle.std.proofs.Common.{arith, List, ℕ, ◌<◌, ◌^◌, length, sym, subst}
use Rattle.jpg_spec.specs.Segments.{standard_limits}
use Rattle.jpg_spec.specs.FileMeaning.{Means}
use Rattle.jpg_spec.proofs.Writing.WrittenFront.{standard_are_limits}
use Rattle.jpg_spec_write.proofs.WrittenMeans.{sequential_means}
use Rattle.jpg_spec_write.proofs.FileLength.{sequential_short, own_means}
use Rattle.jpg_spec_write.proofs.written_laws.sequential_files_are_short.Goals as goal

pub returns-clause-short : goal.returns-clause-short
returns-clause-short c = λ limits H bytes limited w.
    subst (λ (l : List ℕ). length l < 2 ^ 39) (sym w.text) (sequential_short w.huffman limits H w.script w.restart limited w.file.headed w.file.sequential w.file.passes)

pub returns-clause-means : goal.returns-clause-means
returns-clause-means c = λ H bytes is.
    let w = is.written in
    let short = sequential_short w.huffman standard_limits H w.script w.restart standard_are_limits w.file.headed w.file.sequential w.file.passes in
    subst (λ (l : List ℕ). Means standard_limits l H) (sym w.text)
    (sequential_means w.huffman standard_limits H w.script w.restart standard_are_limits w.file.headed w.file.sequential w.file.passes is.small (omega (arith, short)))

pub returns-clause-own : goal.returns-clause-own
returns-clause-own c = own_means
