use Rattle.std.proofs.Common.{◌≤◌, ◌-◌, length, take}
use Rattle.jpg_pnm_bmp.specs.Reader.{ReadsDigits}
use Rattle.jpg_pnm_bmp.proofs.read.numbers.with_digits.Given as goal

-- the digits so far
abbrev pub invariant-loop-at : goal.invariant-loop-at
invariant-loop-at l = record { inside : l.at ≤ length l.piece; read : ReadsDigits l.fn.n (take l.at l.piece) l.number }

abbrev pub decreases-loop-at : goal.decreases-loop-at
decreases-loop-at l = length l.piece - l.at
