use Rattle.std.proofs.Common.{rules, List, ℕ, ◌≡◌, ◌-◌, length, drop, take, get_or, true, false, sym, subst, ◌∙◌}
use Rattle.std.proofs.lemmas.List.{take_rest}
use Rattle.jpg_spec_image.specs.ImageSteps.{ImageState, in_gap, in_number, run}
use Rattle.jpg_pnm_bmp.specs.Reader.{Reaches, numbers_list}
use Rattle.jpg_pnm_bmp.proofs.Advance.{begins_number, one_led}
use Rattle.jpg_pnm_bmp.proofs.read.work.Work.gap_bytes.Goals as goal

pub returns-then-is_digit-clause-led : goal.returns-then-is_digit-clause-led
returns-then-is_digit-clause-led c = λ front long known due.
    let old = c.args.self.now in
    let piece = c.args.piece.now in
    let m = c.number_bytes-rest in
    let some : c.args.some ≡ true = search rules in
    let plain : c.args.commented ≡ false = search rules in
    let led = subst (λ (x : List ℕ). Reaches front (run (in_number old.format (numbers_list front old) (get_or piece 0 0 - 48)) (take m.result.used x)) m.result.answer m.new.self) (take_rest piece 1)
    (subst (λ (n : ℕ). Reaches front (run (in_number old.format (numbers_list front old) n) (take m.result.used (take (length piece - 1) (drop 1 piece)))) m.result.answer m.new.self) c.from.ensures (m.ensures.led front long known due)) in
    subst (λ (s : ImageState). Reaches front s m.result.answer m.new.self)
    (sym (begins_number old.format (numbers_list front old) c.args.some c.args.commented m.result.used piece c.requires.some some plain (sym c.is_digit.ensures ∙ c.if-is_digit.true))) led

pub returns-clause-led : goal.returns-clause-led
returns-clause-led c = λ front long known due.
    let old = c.args.self.now in
    one_led front (in_gap old.format (numbers_list front old) c.args.some c.args.commented) c.args.piece.now c.gap_byte.result c.gap_byte.new.self c.one_byte.result c.one_byte.ensures c.requires.some (c.gap_byte.ensures.led front)
