use Rattle.std.proofs.Common.{◌≡◌, ◌<◌, length, arith}
use Rattle.std.proofs.lemmas.Bool.Decides.{nat_tests}
use Rattle.jpg_words.proofs.WordsAsked.FactorsNamed.{all_pairs, ended_there, goes_on}
use Rattle.jpg_words.proofs.cjpeg_values.factors_named.Goals as goal

pub returns-in_default-split_first-clause-value : goal.returns-in_default-split_first-clause-value
returns-in_default-split_first-clause-value c =
    let few : length c.loop-rest.factors.items < 4 = grind (arith, nat_tests, c.loop-rest-test.true, c.loop-rest-test.ensures.value, c.loop-rest-test.ensures.fits) in
    ended_there _ c.loop-rest.factors.items c.push.new.self.items c.loop-rest.rest.now c.in-Some.after.now c.in-Some.pair c.loop-rest.invariant.told c.in-Some.ensures c.in_default-split_first.ensures.cases
    few c.push.ensures.items

pub loop-rest-preserved : goal.loop-rest-preserved
loop-rest-preserved c =
    let few : length c.loop-rest.factors.items < 4 = grind (arith, nat_tests, c.loop-rest-test.true, c.loop-rest-test.ensures.value, c.loop-rest-test.ensures.fits) in
    let comma : c.in-Some-split_first.comma.now ≡ 44 = (let n = c.if-comma-ne44.false in omega arith) in
    record {
      told = goes_on _ c.loop-rest.factors.items c.push.new.self.items c.loop-rest.rest.now c.in-Some.after.now c.in-Some-split_first.comma.now c.in-Some-split_first.more.now c.in-Some.pair c.loop-rest.invariant.told c.in-Some.ensures c.in-Some-split_first.ensures.cases.0 comma few c.push.ensures.items;
      range = all_pairs c.loop-rest.factors.items c.push.new.self.items c.loop-rest.rest.now c.in-Some.after.now c.in-Some.pair c.loop-rest.invariant.range c.in-Some.ensures c.push.ensures.items;
      room = (let k = c.push.ensures.len in let f = few in omega arith);
    }
