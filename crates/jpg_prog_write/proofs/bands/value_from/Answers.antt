use Rattle.std.proofs.Common.{◌≡◌, ◌+◌, ◌≤◌, length, [], sym, subst, ap, ◌∙◌, arith, rules, pos}
use mir.Syntax.{w16}
use mir.Val.{to_z, of_z}
use Rattle.std.specs.Prelude.{slice_index_or}
use Rattle.std.proofs.lemmas.Int.{to_z-of_z}
use Rattle.jpg_spec_write.specs.Sending.{sent, value_elements}
use Rattle.jpg_prog_write.specs.Items.{sent_by}
use Rattle.jpg_prog_write.specs.Bands.{sents}
use Rattle.jpg_prog_write.specs.Steps.{IsFirst}
use Rattle.jpg_prog_write.proofs.Fronts.{sent_at, sents_step}
use Rattle.jpg_prog_write.proofs.Values.{short_sending, step_on, step_whole}
use Rattle.jpg_prog_write.proofs.Zeros.{pass_zeros}
use Rattle.jpg_prog_write.proofs.bands.value_from.Goals as goal

pub pass_value-requires-clause-short : goal.pass_value-requires-clause-short
pass_value-requires-clause-short c =
    let band = c.args.part.band in
    let block = c.args.part.block.now in
    let at = c.loop-at.at + c.zeros_ahead-zeros.result in
    let e : to_z w16 (of_z w16 c.get.result) ≡ slice_index_or block at (pos 0) = to_z-of_z w16 c.get.result (search rules) ∙ c.get.ensures.value in
    let is : sent_by c.sent-sent.result ≡ sent_at band block at = c.sent-sent.ensures ∙ ap (sent band.refines band.al) e in
    let w = c.zeros_ahead-zeros.ensures.within in
    short_sending band block at c.sent-sent.result c.requires.part.band c.requires.part.short (omega (arith, c.requires.part.from, c.loop-at.invariant.from)) (omega (arith, w.0, c.requires.part.most, c.requires.part.band.most)) is

pub loop-at-preserved : goal.loop-at-preserved
loop-at-preserved c =
    let band = c.args.part.band in
    let block = c.args.part.block.now in
    let at = c.loop-at.at + c.zeros_ahead-zeros.result in
    let e : to_z w16 (of_z w16 c.get.result) ≡ slice_index_or block at (pos 0) = to_z-of_z w16 c.get.result (search rules) ∙ c.get.ensures.value in
    let is : sent_by c.sent-sent.result ≡ sent_at band block at = c.sent-sent.ensures ∙ ap (sent band.refines band.al) e in
    let w = c.zeros_ahead-zeros.ensures.within in
    let run = c.loop-at.run + c.zeros_ahead-zeros.result in
    let later = sents band (at + 1) c.args.part.last block in
    let inside : c.args.part.last ≤ length block = omega (arith, c.requires.part.short.long, c.requires.part.most, c.requires.part.band.most) in
    let passed = pass_zeros band c.zeros_ahead-zeros.result c.loop-at.at c.args.part.last block c.loop-at.run c.loop-at.waiting.items w.0 inside w.1 c.loop-at.invariant.front c.zeros_ahead-zeros.ensures.zeros in
    let one = sents_step band at c.args.part.last block w.0 inside in
    let n = step_on band at c.args.part.last block (sent_by c.sent-sent.result) is one passed.front run c.in-Goes.more c.loop-at.waiting.items c.pass_value.new.waiting.items (c.in-Goes.ensures.step later) in
    record {
      from = omega (arith, c.loop-at.invariant.from);
      some = n.some;
      run = n.short;
      room = omega (arith, c.in-Goes.ensures.waits, c.loop-at.invariant.room);
      front = n.front;
      same = c.loop-at.invariant.same ∙ passed.same ∙ n.same;
    }

pub returns-in-Gives-clause-some : goal.returns-in-Gives-clause-some
returns-in-Gives-clause-some c =
    let band = c.args.part.band in
    let block = c.args.part.block.now in
    let at = c.loop-at.at + c.zeros_ahead-zeros.result in
    let e : to_z w16 (of_z w16 c.get.result) ≡ slice_index_or block at (pos 0) = to_z-of_z w16 c.get.result (search rules) ∙ c.get.ensures.value in
    let is : sent_by c.sent-sent.result ≡ sent_at band block at = c.sent-sent.ensures ∙ ap (sent band.refines band.al) e in
    let w = c.zeros_ahead-zeros.ensures.within in
    let run = c.loop-at.run + c.zeros_ahead-zeros.result in
    let later = sents band (at + 1) c.args.part.last block in
    let inside : c.args.part.last ≤ length block = omega (arith, c.requires.part.short.long, c.requires.part.most, c.requires.part.band.most) in
    let passed = pass_zeros band c.zeros_ahead-zeros.result c.loop-at.at c.args.part.last block c.loop-at.run c.loop-at.waiting.items w.0 inside w.1 c.loop-at.invariant.front c.zeros_ahead-zeros.ensures.zeros in
    let one = sents_step band at c.args.part.last block w.0 inside in
    let whole = step_whole band at c.args.part.last block (sent_by c.sent-sent.result) is one passed.front run c.loop-at.waiting.items c.pass_value.new.waiting.items c.in-Gives.item (c.in-Gives.ensures.step later) in
    record {
      first = subst (λ all. IsFirst all c.in-Gives.item c.pass_value.new.waiting.items (value_elements 0 [] later)) (sym (c.loop-at.invariant.same ∙ passed.same)) whole.1;
      order = omega (arith, c.loop-at.invariant.from);
      most = omega (arith, w.0);
      front = whole.0;
    }
