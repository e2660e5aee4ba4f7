use Rattle.std.proofs.Common.{◌/◌, ◌%◌, length, ap, arith, nat_eq, ◌∷◌, [], length-append}
use Rattle.jpg_seq.proofs.Takings.{pushed_long, ten_split}
use Rattle.jpg_seq.proofs.values.ten_bits.Goals as goal

pub push_bit-requires : goal.push_bit-requires
push_bit-requires c = omega (arith, pushed_long c.new-bits.result c.push.new.self (c.args.ten / 4) c.push.ensures, ap length c.new-bits.ensures)

pub push_bit-requires-2 : goal.push_bit-requires-2
push_bit-requires-2 c =
    omega (arith, pushed_long c.new-bits.result c.push.new.self (c.args.ten / 4) c.push.ensures, ap length c.new-bits.ensures, ap length c.push_bit.ensures, length-append c.push.new.self (nat_eq (c.args.ten / 2 % 2) 1 ∷ []))

pub returns : goal.returns
returns c = ten_split c.args.ten c.new-bits.result c.push.new.self c.push_bit.new.self c.push_bit-2.new.self c.new-bits.ensures c.push.ensures c.push_bit.ensures c.push_bit-2.ensures
