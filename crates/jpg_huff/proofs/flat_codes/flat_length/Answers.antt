use Rattle.std.proofs.Common.{◌≤◌, ◌*◌, ◌^◌, sym, ap, ◌∙◌, arith, rules}
use Rattle.std.proofs.lemmas.Grind.{pow_more}
use Rattle.jpg_huff.proofs.FlatMade.{longer, short}
use Rattle.jpg_huff.proofs.flat_codes.flat_length.Goals as goal

pub loop-room-preserved : goal.loop-room-preserved
loop-room-preserved c =
    let n = c.args.count in
    let size = c.loop-room.length in
    let big : 2 ^ size ≤ n = omega (arith, c.loop-room-test.true, c.from.ensures, c.loop-room.invariant.room) in
    record {
      low = omega arith;
      high = short n size (search rules) c.loop-room.invariant.high big;
      room = ap (λ m. m * 2) c.loop-room.invariant.room ∙ sym (pow_more 2 size);
      same = c.loop-room.invariant.same ∙ longer n size c.loop-room.invariant.low c.loop-room.invariant.high big;
    }
