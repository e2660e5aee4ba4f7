use Rattle.std.proofs.Common.{◌++◌, [], Err, sym, ap, ◌∙◌, subst}
use Rattle.std.proofs.lemmas.Result.{err_from_is_err_and}
use Rattle.jpg_spec.specs.Bits.{bits_of}
use Rattle.jpg_huff.specs.BitOut.{PutsAfter, holding}
use Rattle.jpg_huff.proofs.Together.{puts_same, puts_fault}
use Rattle.jpg_prog_write.specs.Items.{spelled}
use Rattle.jpg_prog_write.specs.Putting.{ac_codes}
use Rattle.jpg_prog_write.proofs.After.{after_then}
use Rattle.jpg_prog_write.proofs.Texts.{item_text}
use Rattle.jpg_prog_write.proofs.put.put_item.Goals as goal

pub returns-clause-puts : goal.returns-clause-puts
returns-clause-puts g c = λ e is.
    let state = g.D.Desk.state in
    let code = bits_of c.ac_code-code.result.length c.ac_code-code.result.bits in
    let front = code ++ bits_of c.args.element.item.size c.args.element.item.extra in
    subst (λ bits. PutsAfter (state c.args.desk.now) c.args.out.now c.args.held bits c.put_bits.result c.put_bits.new.out (state c.put_bits.new.desk)) (item_text (ac_codes c.args.codes) e c.args.element.item c.args.element.bits.now code is c.ac_code-code.ensures.first)
    (after_then (state c.args.desk.now) (state c.put_code_after.new.desk) (state c.put_bits.new.desk) c.args.out.now c.put_code_after.new.self c.put_bits.new.out c.args.held c.in_ok-after.after front c.args.element.bits.now c.put_bits.result c.in_ok-after.ensures.puts c.put_bits.ensures.puts)

pub returns-in_err-after-clause-puts : goal.returns-in_err-after-clause-puts
returns-in_err-after-clause-puts g c = λ e is.
    let state = g.D.Desk.state in
    let code = bits_of c.ac_code-code.result.length c.ac_code-code.result.bits in
    let front = code ++ bits_of c.args.element.item.size c.args.element.item.extra in
    let fault = c.in_err-after.field-0.0 in
    let back = err_from_is_err_and c.from_residual.result c.from_residual.ensures.1 in
    subst (λ r. PutsAfter (state c.args.desk.now) c.args.out.now c.args.held (spelled (ac_codes c.args.codes) e) r c.put_code_after.new.self (state c.put_code_after.new.desk)) (sym (back.1 ∙ ap Err back.2))
    (puts_same _ _ _ _ (front ++ c.args.element.bits.now) _ (Err fault) (item_text (ac_codes c.args.codes) e c.args.element.item c.args.element.bits.now code is c.ac_code-code.ensures.first)
    (puts_fault (state c.args.desk.now) (state c.put_code_after.new.desk) (holding c.args.out.now c.args.held) (holding c.put_code_after.new.self []) front c.args.element.bits.now fault c.in_err-after.ensures.puts))
