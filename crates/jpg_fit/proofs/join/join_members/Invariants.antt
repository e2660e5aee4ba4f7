use Rattle.std.proofs.Common.{◌≡◌, ◌≤◌, ℕ, length, take, map, get_or}
use Rattle.jpg_spec_fit.specs.Fitted.{joined_member}
use Rattle.jpg_fit.proofs.join.join_members.Given as goal

abbrev pub invariant-loop-i : goal.invariant-loop-i
invariant-loop-i l = record {
  done : take l.i l.members ≡ map (joined_member l.first l.second) (take l.i l.fn.members);
  rest : (k : ℕ) → l.i ≤ k → get_or l.members k (0, 0) ≡ get_or l.fn.members k (0, 0);
  size : length l.members ≡ 257;
}
