use Rattle.std.proofs.Common.{List, ℕ, ◌≤◌, length, sym, subst}
use Rattle.jpg_spec.specs.FileMeaning.{Means}
use Rattle.jpg_spec_write.proofs.ProgressiveFile.{progressive_means}
use Rattle.jpg_spec_write.proofs.written_laws.progressive_files_mean_their_picture.Goals as goal

pub returns : goal.returns
returns c = λ limits H bytes w fits.
    subst (λ (l : List ℕ). Means limits l H) (sym w.text)
    (progressive_means w.huffman limits H w.script w.restart fits.limited w.file.headed w.file.progressive w.file.passes w.small
    (subst (λ (l : List ℕ). length l ≤ limits.input) w.text fits.long))
