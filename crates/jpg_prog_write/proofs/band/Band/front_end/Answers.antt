use Rattle.std.proofs.Common.{◌≡◌, ◌-◌, true, false, sym, ap, ◌∙◌, arith, pos, rules}
use mir.Syntax.{w16}
use mir.Val.{to_z, of_z}
use Rattle.std.specs.Prelude.{slice_index_or}
use Rattle.std.proofs.lemmas.Int.{to_z-of_z}
use Rattle.jpg_spec_write.specs.Sending.{is_new, sent}
use Rattle.jpg_prog_write.specs.Bands.{ends_new}
use Rattle.jpg_prog_write.proofs.Fronts.{sent_at, sents_none, ends_before, none_more}
use Rattle.jpg_prog_write.proofs.Zeros.{none_new}
use Rattle.jpg_prog_write.proofs.band.Band.front_end.Goals as goal

pub loop-end-init : goal.loop-end-init
loop-end-init c =
    let z = c.zeros_from-end.ensures in
    record { low = z.within.0; high = z.within.1; none = none_new c.args.self c.zeros_from-end.result c.args.self.end c.args.block.now z.within.1 (omega (arith, c.requires.band.most, c.requires.long)) z.zeros }

pub loop-end-preserved : goal.loop-end-preserved
loop-end-preserved c =
    let e : to_z w16 (of_z w16 c.get.result) ≡ slice_index_or c.args.block.now (c.loop-end.end - 1) (pos 0) = to_z-of_z w16 c.get.result (search rules) ∙ c.get.ensures.value in
    let old : is_new (sent_at c.args.self c.args.block.now (c.loop-end.end - 1)) ≡ false =
    ap (λ v. is_new (sent c.args.self.refines c.args.self.al v)) (sym e) ∙ sym c.is_newly_significant.ensures ∙ c.if-not-is_newly_significant.true in
    record {
      low = omega (arith, c.loop-end-test.true);
      high = omega (arith, c.loop-end.invariant.high);
      none = none_more c.args.self c.loop-end.end c.args.self.end c.args.block.now (omega (arith, c.loop-end-test.true)) c.loop-end.invariant.high (omega (arith, c.requires.band.most, c.requires.long)) old c.loop-end.invariant.none;
    }

pub returns-else-not-is_newly_significant-clause-new : goal.returns-else-not-is_newly_significant-clause-new
returns-else-not-is_newly_significant-clause-new c =
    let e : to_z w16 (of_z w16 c.get.result) ≡ slice_index_or c.args.block.now (c.loop-end.end - 1) (pos 0) = to_z-of_z w16 c.get.result (search rules) ∙ c.get.ensures.value in
    let new : is_new (sent_at c.args.self c.args.block.now (c.loop-end.end - 1)) ≡ true =
    ap (λ v. is_new (sent c.args.self.refines c.args.self.al v)) (sym e) ∙ sym c.is_newly_significant.ensures ∙ c.if-not-is_newly_significant.false in
    ends_before c.args.self c.args.self.start c.loop-end.end c.args.block.now (omega (arith, c.loop-end-test.true)) (omega (arith, c.requires.band.most, c.requires.long, c.loop-end.invariant.high)) new

pub returns-after-loop-end-clause-new : goal.returns-after-loop-end-clause-new
returns-after-loop-end-clause-new c =
    ap ends_new (sents_none c.args.self c.args.self.start c.loop-end.end c.args.block.now (omega (arith, c.loop-end-test.false)))
