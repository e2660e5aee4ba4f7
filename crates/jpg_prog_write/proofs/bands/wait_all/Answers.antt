use Rattle.std.proofs.Common.{◌≡◌, ◌++◌, ap, ◌∙◌, arith, rules, pos}
use mir.Syntax.{w16}
use mir.Val.{to_z, of_z}
use Rattle.std.specs.Prelude.{slice_index_or}
use Rattle.std.proofs.lemmas.Int.{to_z-of_z}
use Rattle.jpg_spec_write.specs.Sending.{sent, corrections_of}
use Rattle.jpg_prog_write.specs.Items.{sent_by}
use Rattle.jpg_prog_write.specs.Bands.{sents}
use Rattle.jpg_prog_write.proofs.Fronts.{sent_at}
use Rattle.jpg_prog_write.proofs.Values.{wait_next}
use Rattle.jpg_prog_write.proofs.Zeros.{none_wait}
use Rattle.jpg_prog_write.proofs.bands.wait_all.Goals as goal

pub loop-k-preserved : goal.loop-k-preserved
loop-k-preserved c =
    let e : to_z w16 (of_z w16 c.get.result) ≡ slice_index_or c.args.block.now c.loop-k.k (pos 0) = to_z-of_z w16 c.get.result (search rules) ∙ c.get.ensures.value in
    let is : sent_by c.sent.result ≡ sent_at c.args.band c.args.block.now c.loop-k.k = c.sent.ensures ∙ ap (sent c.args.band.refines c.args.band.al) e in
    record {
      from = omega (arith, c.loop-k.invariant.from);
      room = omega (arith, c.wait.ensures.one, c.loop-k.invariant.room);
      left = wait_next c.args.band c.loop-k.k c.args.block.now (c.args.waiting.now.items ++ corrections_of (sents c.args.band c.args.from c.args.band.end c.args.block.now)) c.loop-k.waiting.items c.wait.new.waiting.items (sent_by c.sent.result)
          (omega (arith, c.loop-k-test.true, c.zeros_from-end.ensures.within)) (omega (arith, c.requires.band.most, c.requires.short.long)) is c.wait.ensures.waits c.loop-k.invariant.left;
    }

pub returns : goal.returns
returns c =
    let z = c.zeros_from-end.ensures in
    let none = none_wait c.args.band c.loop-k.k c.args.band.end c.args.block.now c.loop-k.waiting.items (omega (arith, c.requires.band.most, c.requires.short.long)) (λ k low high. z.zeros k (omega (arith, low, c.loop-k-test.false)) high) in
    record { waits = none ∙ c.loop-k.invariant.left }
