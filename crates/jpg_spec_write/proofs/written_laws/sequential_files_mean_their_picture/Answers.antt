use Rattle.std.proofs.Common.{List, ℕ, ◌≤◌, length, sym, subst}
use Rattle.jpg_spec_write.specs.Script.{sequential_script}
use Rattle.jpg_spec.specs.FileMeaning.{Means}
use Rattle.jpg_spec_write.specs.FileText.{frame_of_meaning}
use Rattle.jpg_spec.proofs.Writing.WrittenFront.{frame_is}
use Rattle.jpg_spec_write.proofs.WrittenScripts.{sequential_passes}
use Rattle.jpg_spec_write.proofs.WrittenMeans.{sequential_means}
use Rattle.jpg_spec_write.proofs.written_laws.sequential_files_mean_their_picture.Goals as goal

pub returns-clause-scripts : goal.returns-clause-scripts
returns-clause-scripts c = λ limits H bytes is fits.
    let w = is.written in
    subst (λ (l : List ℕ). Means limits l H) (sym w.text)
    (sequential_means w.huffman limits H w.script w.restart fits.limited w.file.headed w.file.sequential w.file.passes is.small
    (subst (λ (l : List ℕ). length l ≤ limits.input) w.text fits.long))

pub returns-clause-own : goal.returns-clause-own
returns-clause-own c = λ limits H bytes w fits.
    let f = frame_of_meaning H in
    subst (λ (l : List ℕ). Means limits l H) (sym w.text)
    (sequential_means w.huffman limits H (sequential_script f) w.restart fits.limited w.headed w.sequential
    (sequential_passes f (frame_is limits f f fits.limited w.headed.frame)) w.small
    (subst (λ (l : List ℕ). length l ≤ limits.input) w.text fits.long))
