use Rattle.std.proofs.Common.{rules, ◌≡◌, ◌∙◌, sym, subst, w16, to_z, of_z, to_z-of_z}
use Rattle.std.proofs.lemmas.List.Elements.{All-head}
use Rattle.jpg_spec.specs.Scan.{part_of}
use Rattle.jpg_coefs.specs.Sinks.{at}
use Rattle.jpg_coefs.specs.MarkSinks.{HasSlots}
use Rattle.jpg_coefs.proofs.MarkSinks.{takes_unit}
use Rattle.jpg_huff.specs.Counts.{Notes}
use Rattle.jpg_seq.specs.ScanWritten.{block_marks, seq_counter}
use Rattle.jpg_seq.proofs.Written.{next_marks as next_unit}
use Rattle.jpg_seq.proofs.count.SeqCounterUnitSinkSymbolCountsUnit.unit.Goals as goal

pub count_block-requires-clause-slots : goal.count_block-requires-clause-slots
count_block-requires-clause-slots c =
    let d = c.requires.0 in
    let w = c.requires.2 in
    let fits = (All-head (seq_counter.fits d.from.sink) (c.args.unit.component, c.args.unit.block.now) d.rest w.rest_fits).0 in
    subst HasSlots (sym c.part_of.ensures) (subst (λ s. HasSlots (part_of s.head.now c.args.unit.component)) (sym w.sink) fits)

pub count_block-requires-clause-few : goal.count_block-requires-clause-few
count_block-requires-clause-few c =
    let d = c.requires.0 in
    (All-head (seq_counter.fits d.from.sink) (c.args.unit.component, c.args.unit.block.now) d.rest c.requires.2.rest_fits).1

pub returns : goal.returns
returns c =
    let s = c.args.self.now in
    let block = c.args.unit.block.now in
    let last = to_z w16 (of_z w16 c.args.unit.last) in
    let same_last : last ≡ c.args.unit.last = to_z-of_z {w = w16} {z = c.args.unit.last} (search rules) in
    let done = subst (λ p. Notes c.args.counts.now (block_marks p last block) c.count_block.new.counts) c.part_of.ensures c.count_block.ensures in
    takes_unit seq_counter (c.args.unit.component, block) c.args.unit.last (at s c.args.counts.now c.args.desk.now) (at s c.count_block.new.counts c.args.desk.now)
    (λ from lasts rest same fits e. (same, block_marks (part_of s.head.now c.args.unit.component) last block, next_unit s.head.now lasts c.args.unit.component last block rest (e ∙ sym same_last), done))
