use Rattle.std.proofs.Common.{[], refl, ap, ◌∙◌}
use Rattle.jpg_spec_write.specs.Sending.{value_elements}
use Rattle.jpg_huff.proofs.Marks.{but_start, but_then}
use Rattle.jpg_prog_write.specs.Bands.{sents, elements_left}
use Rattle.jpg_prog_write.specs.Counted.{marks_of}
use Rattle.jpg_prog_write.proofs.FrontElements.{passed, passes_values, passes_none, values_first}
use Rattle.jpg_prog_write.proofs.Marks.{marks_join}
use Rattle.jpg_prog_write.proofs.count.count_values.Goals as goal

pub returns-then-bands-eq0-clause-passes : goal.returns-then-bands-eq0-clause-passes
returns-then-bands-eq0-clause-passes c = passes_values c.args.bands.now c.count_from.new.waiting c.requires.ready c.count_from.ensures.none

pub returns-then-bands-eq0-clause-notes : goal.returns-then-bands-eq0-clause-notes
returns-then-bands-eq0-clause-notes c = λ later.
    let slot = c.args.slot in
    let b = c.args.bands.now in
    let all = marks_of slot (elements_left b later) in
    let values = value_elements 0 [] (sents b.band b.at b.last b.block) in
    let left = elements_left (passed b c.count_from.new.waiting) later in
    let e = ap (marks_of slot) (values_first b c.count_from.new.waiting later c.requires.ready c.if-bands-eq0.true c.count_from.ensures.none) ∙ marks_join slot values left in
    but_then c.args.counts.now c.args.counts.now c.count_from.new.counts all all (marks_of slot values) (marks_of slot left) e (but_start c.args.counts.now all all c.requires.counts refl) c.count_from.ensures.notes

pub returns-else-bands-eq0-clause-passes : goal.returns-else-bands-eq0-clause-passes
returns-else-bands-eq0-clause-passes c = passes_none c.args.bands.now c.requires.ready

pub returns-else-bands-eq0-clause-notes : goal.returns-else-bands-eq0-clause-notes
returns-else-bands-eq0-clause-notes c = λ later. (let all = marks_of c.args.slot (elements_left c.args.bands.now later) in but_start c.args.counts.now all all c.requires.counts refl)
