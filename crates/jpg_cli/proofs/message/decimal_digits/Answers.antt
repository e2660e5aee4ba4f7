use Rattle.std.proofs.Common.{arith, ◌≡◌, ◌-◌, ◌+◌, refl}
use Rattle.std.proofs.lemmas.Grind.{common_steps}
use Rattle.jpg_cli.proofs.Messages.Decimal.{step, done, fewer, at_least_one, whole}
use Rattle.jpg_cli.proofs.message.decimal_digits.Goals as goal

pub loop-rest-preserved : goal.loop-rest-preserved
loop-rest-preserved c =
    let i = c.loop-rest.invariant in
    let l = c.loop-rest in
    let two = at_least_one l.rest l.free (omega arith) i.small in
    let back : l.free - 1 + 1 ≡ l.free = omega arith in
    record {
      long = grind (arith, common_steps);
      some = omega arith;
      most = omega arith;
      small = fewer l.rest (l.free - 1) (rw back i.small);
      text = step l.places l.free l.rest c.args.number i.long i.most (omega arith) i.small i.some i.text;
    }

pub returns : goal.returns
returns c =
    let i = c.loop-rest.invariant in
    let l = c.loop-rest in
    done l.places l.free l.rest c.args.number i.long i.most (omega arith) i.some i.text

pub loop-rest-init : goal.loop-rest-init
loop-rest-init c =
    let fits = c.ranges.number.fits in
    record { long = refl; some = omega arith; most = omega arith; small = omega arith; text = whole c.args.number }
