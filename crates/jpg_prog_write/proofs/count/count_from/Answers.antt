use Rattle.std.proofs.Common.{ℕ, ◌∷◌, [], refl, ap, ◌∙◌, arith}
use Rattle.jpg_spec_write.specs.Sending.{value_elements}
use Rattle.jpg_huff.proofs.Marks.{but_start, but_then, but_last, notes_nothing}
use Rattle.jpg_prog_write.specs.Bands.{sents}
use Rattle.jpg_prog_write.specs.Counted.{marks_of}
use Rattle.jpg_prog_write.proofs.Fronts.{sents_none}
use Rattle.jpg_prog_write.proofs.Marks.{marks_first, marks_none}
use Rattle.jpg_prog_write.proofs.count.count_from.Goals as goal

pub loop-at-init : goal.loop-at-init
loop-at-init c =
    let all = marks_of c.args.slot (value_elements 0 [] (sents c.args.part.band c.args.part.from c.args.part.last c.args.part.block.now)) in
    record {
      from = omega arith;
      most = c.requires.part.order;
      front = c.requires.part.front;
      none = c.requires.none;
      counts = c.requires.counts;
      part = but_start c.args.counts.now all all c.requires.counts refl;
    }

pub loop-at-preserved : goal.loop-at-preserved
loop-at-preserved c =
    let slot = c.args.slot in
    let whole = c.in-Some.whole in
    let is = c.in-Some.ensures.some in
    let left = λ (at : ℕ). value_elements 0 [] (sents c.args.part.band at c.args.part.last c.args.part.block.now) in
    let e = marks_first slot (left c.loop-at.at) whole.item c.value_from.new.waiting.items (left whole.at) is.first in
    record {
      from = omega (arith, is.order, c.loop-at.invariant.from);
      most = is.most;
      front = is.front;
      none = c.clear.ensures;
      counts = c.count_ac.ensures.counts;
      part = but_then c.args.counts.now c.loop-at.counts c.count_ac.new.self (marks_of slot (left c.args.part.from)) (marks_of slot (left c.loop-at.at)) (((1, slot), whole.item.symbol) ∷ []) (marks_of slot (left whole.at)) e c.loop-at.invariant.part c.count_ac.ensures;
    }

pub count_ac-requires-clause-small : goal.count_ac-requires-clause-small
count_ac-requires-clause-small c = c.in-Some.ensures.some.first.is.small

pub returns-in-None-clause-notes : goal.returns-in-None-clause-notes
returns-in-None-clause-notes c = absurd c.in-None.ensures.none

pub returns-in-None-clause-none : goal.returns-in-None-clause-none
returns-in-None-clause-none c = absurd c.in-None.ensures.none

pub returns-clause-notes : goal.returns-clause-notes
returns-clause-notes c =
    let slot = c.args.slot in
    let left = λ (at : ℕ). marks_of slot (value_elements 0 [] (sents c.args.part.band at c.args.part.last c.args.part.block.now)) in
    let nothing = ap (λ xs. marks_of slot (value_elements 0 [] xs)) (sents_none c.args.part.band c.loop-at.at c.args.part.last c.args.part.block.now (omega (arith, c.loop-at-test.false))) ∙ marks_none slot in
    but_last c.args.counts.now c.loop-at.counts c.loop-at.counts (left c.args.part.from) (left c.loop-at.at) [] nothing c.loop-at.invariant.part (notes_nothing c.loop-at.counts c.loop-at.invariant.counts)
