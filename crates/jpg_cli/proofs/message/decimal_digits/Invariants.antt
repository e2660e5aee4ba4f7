use Rattle.std.proofs.Common.{◌+◌, ◌≡◌, ◌≤◌, ◌<◌, ◌^◌, length, drop, false}
use Rattle.std.specs.Fmt.{digits_onto, decimal}
use Rattle.jpg_cli.proofs.message.decimal_digits.Given as goal

abbrev pub invariant-loop-rest : goal.invariant-loop-rest
invariant-loop-rest l = record {
  long : length l.places ≡ 20;
  some : 1 ≤ l.free;
  most : l.free ≤ 20;
  small : l.rest < 10 ^ l.free;
  text : digits_onto (44 + l.free) 10 false l.rest (drop l.free l.places) ≡ decimal l.number;
}

abbrev pub decreases-loop-rest : goal.decreases-loop-rest
decreases-loop-rest l = l.rest
