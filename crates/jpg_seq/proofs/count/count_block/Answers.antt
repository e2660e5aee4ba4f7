use Rattle.std.proofs.Common.{◌∷◌, ap, rules, drop, w16, w32, to_z-of_z}
use Rattle.jpg_huff.specs.Counts.{Mark}
use Rattle.jpg_huff.proofs.Marks.{notes_then, notes_same}
use Rattle.jpg_seq.specs.ScanWritten.{band_marks, block_marks}
use Rattle.jpg_seq.proofs.count.count_block.Goals as goal

pub returns : goal.returns
unfolding block_marks
returns c =
    let part = c.args.part in
    let block = c.args.block.now in
    let size = rw (to_z-of_z {w = w32} {z = c.difference.result} (search rules), c.difference.ensures.value, to_z-of_z {w = w16} {z = c.args.prediction} (search rules)) at c.category.ensures.category in
    let band = band_marks part.ac (drop 1 block) in
    let first : Mark = ((0, part.dc), c.category.result) in
    notes_same _ _ _ _ (ap (λ n. (let m : Mark = ((0, part.dc), n) in m ∷ band)) size) (notes_then _ _ _ _ _ c.count_dc.ensures c.count_band.ensures)
