use Rattle.std.proofs.Common.{◌∷◌, [], sym, ap, ◌∙◌}
use Rattle.jpg_spec_write.specs.Sending.{ended_bands}
use Rattle.jpg_prog_write.specs.Counted.{marks_of}
use Rattle.jpg_huff.proofs.Marks.{notes_nothing, notes_same}
use Rattle.jpg_prog_write.proofs.Marks.{marks_first, marks_none}
use Rattle.jpg_prog_write.proofs.count.count_end.Goals as goal

pub returns-in-Some : goal.returns-in-Some
returns-in-Some c =
    let b = c.args.bands.now in
    let slot = c.args.slot in
    let e = marks_first slot (ended_bands b.bands b.waiting.items) c.in-Some.item c.end.new.self.waiting.items [] c.in-Some.ensures.some ∙ ap (λ xs. ((1, slot), c.in-Some.item.symbol) ∷ xs) (marks_none slot) in
    notes_same c.args.counts.now c.count_ac.new.self _ (marks_of slot (ended_bands b.bands b.waiting.items)) (sym e) c.count_ac.ensures

pub returns-in-None : goal.returns-in-None
returns-in-None c =
    notes_same c.args.counts.now c.args.counts.now [] _ (sym (ap (marks_of c.args.slot) c.in-None.ensures.none ∙ marks_none c.args.slot)) (notes_nothing c.args.counts.now c.requires.counts)
