use Rattle.std.proofs.Common.{◌+◌, ◌∙◌, refl, sym, arith}
use Rattle.std.proofs.lemmas.List.{length-set}
use Rattle.std.proofs.lemmas.Grind.{pow_more}
use Rattle.jpg_huff.specs.New.{first_number}
use Rattle.jpg_huff.proofs.Made.{first_none, first_more, are_more, are_not, are_all, set_up, fits_up}
use Rattle.jpg_huff.proofs.new.number_firsts.Goals as goal

pub returns-then-past-room-clause-wrong : goal.returns-then-past-room-clause-wrong
returns-then-past-room-clause-wrong c =
    let i = c.loop-i.invariant in
    i.same ∙ are_not c.args.bits.now c.loop-i.i c.loop-i.first (omega arith) (omega (arith, i.power))

pub loop-i-init : goal.loop-i-init
loop-i-init c =
    record {
      size = refl;
      is = sym (first_none c.args.bits.now);
      power = refl;
      low = omega arith;
      done = λ k h. absurd (omega arith);
      fits = λ k h. absurd (omega arith);
      same = refl;
    }

pub loop-i-preserved : goal.loop-i-preserved
loop-i-preserved c =
    let i = c.loop-i.invariant in
    let more = first_more c.args.bits.now c.loop-i.i in
    record {
      size = length-set c.loop-i.firsts c.loop-i.i c.loop-i.first ∙ i.size;
      is = omega (arith, more, i.is);
      power = omega (arith, i.power, pow_more 2 (c.loop-i.i + 1));
      low = omega (arith, i.low);
      done = set_up c.loop-i.firsts c.loop-i.i c.loop-i.first (first_number c.args.bits.now) (omega (arith, i.size)) i.is i.done;
      fits = fits_up c.args.bits.now c.loop-i.i (omega (arith, i.power, i.is)) i.fits;
      same = i.same ∙ are_more c.args.bits.now c.loop-i.i c.loop-i.first (omega arith) (omega (arith, i.power));
    }

pub returns-clause-right : goal.returns-clause-right
returns-clause-right c = c.loop-i.invariant.same ∙ are_all c.args.bits.now c.loop-i.i c.loop-i.first (omega arith)
