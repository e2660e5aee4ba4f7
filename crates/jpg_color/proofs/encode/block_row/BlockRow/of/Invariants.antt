use Rattle.std.specs.Prelude.{◌≡◌, ◌≤◌}
use Rattle.std.specs.Vec.{vec_capacity, vec_len}
use Rattle.jpg_color.proofs.BlockRows.{first_blocks}
use Rattle.jpg_color.proofs.encode.block_row.BlockRow.of.Given as goal

abbrev pub invariant-loop-x : goal.invariant-loop-x
invariant-loop-x l = (l.blocks.items ≡ first_blocks l.wide l.rows l.x) × (vec_len l.blocks ≡ l.x) × (l.count ≤ vec_capacity l.blocks)
