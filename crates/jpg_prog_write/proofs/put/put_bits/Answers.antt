use Rattle.std.proofs.Common.{◌≡◌, ◌-◌, ◌≤◌, [], length, take, drop, refl, sym, ap, ◌∙◌, arith}
use Rattle.std.proofs.lemmas.List.{length-take-le, length-drop}
use Rattle.std.proofs.lemmas.Result.{err_from_is_err_and}
use Rattle.jpg_spec.specs.Bits.{bits_of}
use Rattle.jpg_huff.specs.BitOut.{Puts, holding}
use Rattle.jpg_huff.proofs.InParts.{of_bits, part_start, part_then, part_fault}
use Rattle.jpg_huff.proofs.Together.{puts_nothing, puts_same}
use Rattle.jpg_prog_write.proofs.Texts.{some_of}
use Rattle.jpg_prog_write.proofs.put.put_bits.Goals as goal

pub loop-from-init : goal.loop-from-init
loop-from-init g c =
    let s = g.D.Desk.state c.args.desk.now in
    let old = holding c.args.out.now c.args.held in
    record { created = c.requires.created; none = c.requires.none; part = part_start Puts s old c.args.bits.now c.args.bits.now (puts_nothing s old) refl }

pub loop-from-preserved : goal.loop-from-preserved
loop-from-preserved g c =
    let state = g.D.Desk.state in
    let bits = c.args.bits.now in
    let from = c.loop-from.from in
    let end = c.min-end.result in
    let piece = take (end - from) (drop from bits) in
    let order : from ≤ end = omega (arith, c.min-end.ensures, c.loop-from-test.true) in
    let long : length piece ≡ end - from = length-take-le (end - from) (drop from bits) (omega (arith, length-drop from bits, c.min-end.ensures)) in
    let same : bits_of (end - from) c.number_of.result ≡ piece = ap (λ n. bits_of n c.number_of.result) (sym long) ∙ c.number_of.ensures.bits in
    record {
      created = c.in_ok-after.ensures.puts.kept.output_created ∙ c.loop-from.invariant.created;
      none = c.in_ok-after.ensures.none;
      part = part_then Puts of_bits (state c.args.desk.now) (state c.loop-from.desk) (state c.put_after.new.desk) (holding c.args.out.now c.args.held) (holding c.loop-from.out c.loop-from.after) (holding c.put_after.new.self c.in_ok-after.after) bits (drop from bits) piece (drop end bits) (some_of bits from end order) c.loop-from.invariant.part
          (puts_same _ _ _ _ (bits_of (end - from) c.number_of.result) piece _ same c.in_ok-after.ensures.puts);
    }

pub returns-in_err-after-clause-puts : goal.returns-in_err-after-clause-puts
returns-in_err-after-clause-puts g c =
    let state = g.D.Desk.state in
    let bits = c.args.bits.now in
    let from = c.loop-from.from in
    let end = c.min-end.result in
    let piece = take (end - from) (drop from bits) in
    let order : from ≤ end = omega (arith, c.min-end.ensures, c.loop-from-test.true) in
    let long : length piece ≡ end - from = length-take-le (end - from) (drop from bits) (omega (arith, length-drop from bits, c.min-end.ensures)) in
    let same : bits_of (end - from) c.number_of.result ≡ piece = ap (λ n. bits_of n c.number_of.result) (sym long) ∙ c.number_of.ensures.bits in
    let back = err_from_is_err_and c.from_residual.result c.from_residual.ensures.1 in
    rw (back.1, back.2) (part_fault Puts of_bits (state c.args.desk.now) (state c.loop-from.desk) (state c.put_after.new.desk) (holding c.args.out.now c.args.held) (holding c.loop-from.out c.loop-from.after) (holding c.put_after.new.self []) bits (drop from bits) piece (drop end bits) c.in_err-after.field-0.0 (some_of bits from end order) c.loop-from.invariant.part
    (puts_same _ _ _ _ (bits_of (end - from) c.number_of.result) piece _ same c.in_err-after.ensures.puts))
