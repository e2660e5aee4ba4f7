use Rattle.std.proofs.Common.{◌≡◌, ◌≤◌, ◌*◌, sum, take}
use Rattle.jpg_cli.proofs.tools.work_lines.sum_of.Given as goal

abbrev pub invariant-loop-byte : goal.invariant-loop-byte
invariant-loop-byte l = record { value : l.sum ≡ sum (take l.byte-index l.bytes); most : l.sum ≤ 255 * l.byte-index }
