use Rattle.std.proofs.Common.{arith, ◌++◌, ◌∙◌}
use Rattle.std.specs.Fmt.{decimal}
use Rattle.jpg_pnm_bmp.proofs.Digits.{digit_more, digit_last, some_left, at_most_five}
use Rattle.jpg_pnm_bmp.proofs.write.short.Short.put_number.Goals as goal

pub put-requires : goal.put-requires
put-requires c =
    let left = some_left c.loop-rest.rest c.args.number c.loop-rest.self c.args.self.now (omega arith) c.requires.small c.loop-rest.invariant in
    record { room = omega (arith, left) }

pub loop-rest-preserved : goal.loop-rest-preserved
loop-rest-preserved c =
    rw c.put.ensures (digit_more c.loop-rest.rest c.loop-rest.self (decimal c.args.number ++ c.args.self.now) (omega arith) (omega arith) c.loop-rest.invariant)

pub put-requires-2 : goal.put-requires-2
put-requires-2 c =
    let left = some_left c.loop-rest.rest c.args.number c.loop-rest.self c.args.self.now (omega arith) c.requires.small c.loop-rest.invariant in
    record { room = omega (arith, left) }

pub returns-clause-text : goal.returns-clause-text
returns-clause-text c =
    c.put-2.ensures ∙ digit_last c.loop-rest.rest c.loop-rest.self (decimal c.args.number ++ c.args.self.now) (omega arith) c.loop-rest.invariant

pub returns-clause-most : goal.returns-clause-most
returns-clause-most c =
    at_most_five c.args.number c.put-2.new.self c.args.self.now c.requires.small
    (c.put-2.ensures ∙ digit_last c.loop-rest.rest c.loop-rest.self (decimal c.args.number ++ c.args.self.now) (omega arith) c.loop-rest.invariant)
