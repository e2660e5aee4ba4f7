use Rattle.std.proofs.Common.{rules, ◌∙◌, ap, arith, ◌-◌, ◌/◌, ◌^◌, ◌<◌, drop}
use Rattle.jpg_prog_read.proofs.Reading.{zeros_take}
use Rattle.jpg_base.proofs.Marked.{marks_are, marks_after}
use Rattle.jpg_prog_read.proofs.band.BandReader.load.Goals as goal

pub returns-clause-small : goal.returns-clause-small
returns-clause-small c =
    let b = c.args.scan.now in
    omega (arith, zeros_take (b.end - b.start) (drop b.start c.args.block.now), c.requires.sane.inside)

pub overflow_shr-self : goal.overflow_shr-self
overflow_shr-self c = omega (arith, c.requires.sane.begun, c.requires.sane.inside)

pub invariant_of-self : goal.invariant_of-self
invariant_of-self c =
    let s = c.requires.sane in
    let block = c.args.block.now in
    let small : c.nonzero.result < 2 ^ 64 = search rules in
    record {
      whole = c.long.ensures;
      begins = omega arith;
      inside = omega (arith, s.begun);
      fits = s.inside;
      few = omega (arith, s.some, s.inside);
      marked = ap (λ n. n / 2 ^ c.args.scan.now.start) (marks_are block c.nonzero.result c.long.ensures small c.nonzero.ensures) ∙ marks_after block c.args.scan.now.start;
      quiet = c.self.invariant.quiet;
    }
