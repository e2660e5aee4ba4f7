use Rattle.std.proofs.Common.{rules, ◌≡◌, List, ℤ, length, replicate, sym, ap, ◌∙◌, subst}
use Rattle.std.specs.List.{All}
use Rattle.std.specs.Vec.{vec_len}
use Rattle.std.proofs.lemmas.List.{length-map, length-replicate}
use Rattle.std.proofs.lemmas.List.Elements.{All-replicate}
use Rattle.jpg_spec.specs.Elements.{zeros}
use Rattle.jpg_coefs.specs.PackedCells.{IsZeroCell, cell_block}
use Rattle.jpg_coefs.specs.declared.cell.Cell.{Cell}
use Rattle.jpg_coefs.proofs.PackedCells.{zero_blocks}
use Rattle.jpg_coefs.proofs.packed.PackedBlocks.clear.Goals as goal

pub returns : goal.returns
returns c =
    let highs = c.self.inside.highs.items in let cells = c.self.inside.cells.items in
    let filled : c.fill.new.self.items ≡ replicate (length cells) c.zero_cell.result = search rules in
    zero_blocks c.clear.new.self.items c.fill.new.self.items (subst (λ (l : List Cell). All IsZeroCell l) (sym filled) (All-replicate IsZeroCell (length cells) c.zero_cell.result c.zero_cell.ensures))
    ∙ ap (λ n. replicate n (zeros 64))
    (ap (λ (l : List Cell). length l) filled ∙ length-replicate (length cells) c.zero_cell.result ∙ sym (length-map cells (cell_block highs)) ∙ ap (λ (l : List (List ℤ)). length l) c.self.view_is)
