use Rattle.std.proofs.Common.{◌∷◌, [], sym, ap, ◌∙◌, subst, arith}
use Rattle.jpg_prog_write.specs.Bands.{IsReady, elements_left, cleared, steps_left}
use Rattle.jpg_prog_write.specs.Counted.{marks_of}
use Rattle.jpg_huff.proofs.Marks.{but_then, but_same}
use Rattle.jpg_prog_write.proofs.Marks.{marks_first}
use Rattle.jpg_prog_write.proofs.count.count_band.Goals as goal

pub loop-item-init : goal.loop-item-init
loop-item-init c =
    let first = c.count_values.ensures in
    record {
      ready = first.passes.ready;
      counts = first.counts;
      band = first.passes.band;
      part = first.notes;
    }

pub loop-item-preserved : goal.loop-item-preserved
loop-item-preserved c =
    let b = c.loop-item.bands in
    let new = c.next.new.self in
    let slot = c.args.slot in
    let gives = c.in-Some.ensures.some in
    let passes = c.count_values-in-Some.ensures.passes in
    record {
      ready = passes.ready;
      counts = c.count_values-in-Some.ensures.counts;
      band = passes.band ∙ ap (λ x. x.band) c.clear.ensures ∙ gives.band ∙ c.loop-item.invariant.band;
      part = λ later.
          let all = marks_of slot (elements_left c.args.bands.now later) in
          let e = marks_first slot (elements_left b later) c.in-Some.item new.waiting.items (elements_left (cleared new) later) (gives.first later) in
          let n = c.count_values-in-Some.ensures.notes later in
          but_then c.args.counts.now c.count_ac.new.self c.count_values-in-Some.new.counts all (marks_of slot (elements_left c.clear.new.self later)) n.front (marks_of slot (elements_left c.count_values-in-Some.new.bands later)) (sym n.joined)
          (but_same c.args.counts.now c.count_ac.new.self all _ (marks_of slot (elements_left c.clear.new.self later)) (ap (λ x. marks_of slot (elements_left x later)) (sym c.clear.ensures))
          (but_then c.args.counts.now c.loop-item.counts c.count_ac.new.self all (marks_of slot (elements_left b later)) (((1, slot), c.in-Some.item.symbol) ∷ []) (marks_of slot (elements_left (cleared new) later)) e (c.loop-item.invariant.part later) c.count_ac.ensures))
          n.done;
    }

pub count_values-requires-in-Some-clause-ready : goal.count_values-requires-in-Some-clause-ready
count_values-requires-in-Some-clause-ready c = subst IsReady (sym c.clear.ensures) c.in-Some.ensures.some.ready

pub loop-item-smaller : goal.loop-item-smaller
loop-item-smaller c =
    let e = ap steps_left c.clear.ensures in
    omega (arith, e, c.count_values-in-Some.ensures.passes.fewer, c.in-Some.ensures.some.fewer)

pub count_ac-requires-clause-small : goal.count_ac-requires-clause-small
count_ac-requires-clause-small c = (c.in-Some.ensures.some.first []).is.small
