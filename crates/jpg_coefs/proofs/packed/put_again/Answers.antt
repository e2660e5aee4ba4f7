use Rattle.std.proofs.Common.{◌≡◌, ◌<◌, ◌≤◌, ◌-◌, ℕ, List, [], ℤ, length, get_or, set, refl, sym, ap, ◌∙◌, subst, arith}
use Rattle.std.specs.Int.{cast_signed, cast_unsigned, w16}
use Rattle.std.proofs.lemmas.Int.{to_z-of_z}
use Rattle.std.proofs.lemmas.List.{get_or_default, get_or-set_same, length-set}
use Rattle.std.proofs.lemmas.List.Elements.{All-get_or}
use Rattle.jpg_coefs.specs.PackedCells.{no_cell, room_at}
use Rattle.jpg_coefs.specs.declared.cell.Cell.{Cell}
use Rattle.jpg_coefs.proofs.PackedCells.{others_kept, packed_kept, packed_set, stored_whole}
use Rattle.jpg_coefs.proofs.packed.put_again.Goals as goal

pub returns-clause-packed : goal.returns-clause-packed
returns-clause-packed c =
    let highs = c.args.highs.now.items in let cells = c.args.cells.now.items in let n = c.args.n in let r = c.index.result.now.room in
    let there : get_or cells n no_cell ≡ c.index.result.now = sym (c.index.ensures ∙ get_or_default cells n c.index.result.now no_cell c.requires.room.0) in
    packed_kept highs (set highs (r - 1) c.high_bytes.result) cells _ n _ c.requires.packed (length-set highs (r - 1) c.high_bytes.result) c.requires.room.0 (sym (ap (λ (x : Cell). x.room) there))

pub returns-clause-puts : goal.returns-clause-puts
returns-clause-puts c =
    let highs = c.args.highs.now.items in let cells = c.args.cells.now.items in let n = c.args.n in let r = c.index.result.now.room in let high = c.high_bytes.result in
    let there : get_or cells n no_cell ≡ c.index.result.now = sym (c.index.ensures ∙ get_or_default cells n c.index.result.now no_cell c.requires.room.0) in
    let is : room_at cells n ≡ r = ap (λ (x : Cell). x.room) there in
    let some : 1 ≤ r = omega (arith, c.requires.room.1, is) in
    let within : r ≤ length highs = omega (arith, is, All-get_or (λ (x : Cell). x.room ≤ length highs) cells n no_cell c.requires.room.0 c.requires.packed.below) in
    packed_set highs (set highs (r - 1) high) cells n _ c.args.block.now
    (stored_whole (set highs (r - 1) high) _ c.args.block.now high some (get_or-set_same highs (r - 1) high [] (omega (arith, some, within))) c.high_bytes.ensures c.lows.ensures c.all_fit.ensures c.get.ensures.long)
    (λ m low other. others_kept highs high cells _ m n r c.requires.packed low c.requires.room.0 other is some)
