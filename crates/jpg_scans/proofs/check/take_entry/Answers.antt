use Rattle.std.proofs.Common.{sym, subst, ◌∙◌}
use Rattle.std.specs.Prelude.{◌∷◌}
use Rattle.jpg_spec.specs.Segments.{ScanHead}
use Rattle.jpg_scans.specs.Judged.{script_frame}
use Rattle.jpg_scans.specs.Progress.{RepresentsScans}
use Rattle.jpg_scans.proofs.Checks.{components_low, entry_taken, entry_out_of_order}
use Rattle.jpg_scans.proofs.check.take_entry.Goals as goal

pub admit-requires : goal.admit-requires
admit-requires c =
    components_low c.args.frame.now c.args.entry.now c.head_of-head.result c.head_of-head.ensures c.checked.ensures.count_high (sym c.has_wrong_component.ensures ∙ c.if-has_wrong_component.false)

pub returns-in-Ok : goal.returns-in-Ok
returns-in-Ok c = λ heads s.
    let p = c.args.is_progressive in
    let f = c.args.frame.now in
    let judged = c.in-Ok.ensures.exact (script_frame p f) heads s in (
      entry_taken p f heads c.args.number c.args.entry.now c.head_of-head.result c.head_of-head.ensures (sym c.has_wrong_component.ensures ∙ c.if-has_wrong_component.false)
          (sym c.has_large_mcu.ensures ∙ c.if-has_large_mcu.false) (sym c.has_numbers.ensures ∙ c.if-not-has_numbers.false) judged.0,
      subst (λ (g : ScanHead). RepresentsScans c.admit.new.self (script_frame p f) (g ∷ heads)) c.head_of-head.ensures judged.1,
    )

pub returns-in-Err : goal.returns-in-Err
returns-in-Err c = λ heads s.
    let p = c.args.is_progressive in
    let f = c.args.frame.now in
    entry_out_of_order p f heads c.args.number c.args.entry.now c.head_of-head.result c.in-Err.field-0 c.head_of-head.ensures (sym c.has_wrong_component.ensures ∙ c.if-has_wrong_component.false)
    (sym c.has_large_mcu.ensures ∙ c.if-has_large_mcu.false) (sym c.has_numbers.ensures ∙ c.if-not-has_numbers.false) (c.in-Err.ensures.exact (script_frame p f) heads s)
