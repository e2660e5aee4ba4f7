use Rattle.std.proofs.Common.{◌<◌, refl, sym, subst, pos}
use Rattle.std.specs.Prelude.{slice_index_or}
use Rattle.std.proofs.lemmas.List.Elements.{All-head}
use Rattle.jpg_spec.specs.Scan.{part_of}
use Rattle.jpg_coefs.specs.Sinks.{at}
use Rattle.jpg_coefs.specs.MarkSinks.{owned_marks}
use Rattle.jpg_prog_write.specs.ScanSinks.{dc_counter}
use Rattle.jpg_prog_write.proofs.DcUnits.{next_unit}
use Rattle.jpg_coefs.proofs.MarkSinks.{takes_unit}
use Rattle.jpg_prog_write.proofs.count.DcCounterUnitSinkSymbolCountsUnit.unit.Goals as goal

pub count_unit-requires-clause-bits : goal.count_unit-requires-clause-bits
count_unit-requires-clause-bits c = c.requires.2.sink.1.bits

pub count_unit-requires-clause-first : goal.count_unit-requires-clause-first
count_unit-requires-clause-first c = c.requires.2.sink.2

pub count_unit-requires-clause-slot : goal.count_unit-requires-clause-slot
count_unit-requires-clause-slot c =
    let d = c.requires.0 in
    let w = c.requires.2 in
    subst (λ s. (part_of s.head.now c.args.unit.component).dc < 2) (sym w.sink.0) (All-head (dc_counter.fits d.from.sink) (c.args.unit.component, c.args.unit.block.now) d.rest w.rest_fits)

pub count_unit-requires-clause-counts : goal.count_unit-requires-clause-counts
count_unit-requires-clause-counts c = c.requires.2.counting.done.counts

pub returns : goal.returns
returns c =
    let s = c.args.self.now in
    let u = c.args.unit in
    takes_unit dc_counter (u.component, u.block.now) u.last (at s c.args.counts.now c.args.desk.now) (at s c.count_unit.new.counts c.args.desk.now)
    (λ from lasts rest same fits e. (same, _, next_unit (owned_marks s.head.now) s.head.now lasts u.component u.last (slice_index_or u.block.now 0 (pos 0)) u.block.now rest e refl, c.count_unit.ensures))
