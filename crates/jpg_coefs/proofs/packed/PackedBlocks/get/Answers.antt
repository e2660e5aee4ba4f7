use Rattle.std.proofs.Common.{◌≡◌, ℕ, ◌<◌, ◌≤◌, ◌-◌, List, [], ℤ, length, get_or, sym, ap, ◌∙◌, subst, arith}
use Rattle.std.proofs.lemmas.List.Elements.{All-get_or}
use Rattle.std.proofs.lemmas.List.{get_or_default, length-map}
use Rattle.jpg_spec.specs.Elements.{zeros}
use Rattle.jpg_coefs.specs.PackedCells.{at, cell_block, no_cell, whole_of}
use Rattle.jpg_coefs.specs.declared.cell.Cell.{Cell}
use Rattle.jpg_coefs.proofs.PackedCells.{block_of, is_short, is_whole}
use Rattle.jpg_coefs.proofs.packed.PackedBlocks.get.Goals as goal

pub returns-then-cell-eq0 : goal.returns-then-cell-eq0
returns-then-cell-eq0 c =
    let highs = c.self.inside.highs.items in let cells = c.self.inside.cells.items in let cell = c.index-cell.result.now in
    let low : c.args.n < length cells = omega (arith, c.requires, ap (λ (l : List (List ℤ)). length l) c.self.view_is, length-map cells (cell_block highs)) in
    let there : get_or cells c.args.n no_cell ≡ cell = sym (c.index-cell.ensures ∙ get_or_default cells c.args.n cell no_cell low) in
    is_short highs cell c.short_block.result c.if-cell-eq0.true c.short_block.ensures.long c.short_block.ensures.is
    ∙ sym (block_of highs cells c.args.n cell (zeros 64) low there) ∙ ap (λ (l : List (List ℤ)). get_or l c.args.n (zeros 64)) c.self.view_is

pub returns-else-cell-eq0 : goal.returns-else-cell-eq0
returns-else-cell-eq0 c =
    let highs = c.self.inside.highs.items in let cells = c.self.inside.cells.items in let cell = c.index-cell.result.now in
    let low : c.args.n < length cells = omega (arith, c.requires, ap (λ (l : List (List ℤ)). length l) c.self.view_is, length-map cells (cell_block highs)) in
    let there : get_or cells c.args.n no_cell ≡ cell = sym (c.index-cell.ensures ∙ get_or_default cells c.args.n cell no_cell low) in
    let some : 1 ≤ cell.room = omega (arith, c.if-cell-eq0.false) in
    let within : cell.room ≤ length highs = subst (λ (x : Cell). x.room ≤ length highs) there (All-get_or (λ (x : Cell). x.room ≤ length highs) cells c.args.n no_cell low c.self.invariant.below) in
    let high : c.index.result.now ≡ get_or highs (cell.room - 1) [] = c.index.ensures ∙ get_or_default highs (cell.room - 1) c.index.result.now [] (omega (arith, some, within)) in
    let W : List ℤ → Type 0 = λ h. (k : ℕ) → k < 64 → at c.whole_block.result k ≡ whole_of (at h k) (at cell.low k) in
    is_whole highs cell c.whole_block.result some c.whole_block.ensures.long (subst W high c.whole_block.ensures.is)
    ∙ sym (block_of highs cells c.args.n cell (zeros 64) low there) ∙ ap (λ (l : List (List ℤ)). get_or l c.args.n (zeros 64)) c.self.view_is
