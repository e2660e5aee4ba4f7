use Rattle.std.proofs.Common.{◌≡◌, ◌+◌, ◌∷◌, drop, true, sym, ap, ◌∙◌, subst}
use Rattle.std.proofs.lemmas.List.{drop_more}
use Rattle.jpg_spec.specs.FrameHeader.{is_precision}
use Rattle.jpg_scans.specs.Judged.{IsEntryTaken}
use Rattle.jpg_scans.proofs.Checks.{script_precision, fault_shown, one_taken}
use Rattle.jpg_scans.proofs.check.fault_of.Goals as goal

pub with_process-requires : goal.with_process-requires
with_process-requires c =
    let f = c.args.frame.now in
    subst (λ q. is_precision q f.precision ≡ true) (sym c.process_due.ensures) (script_precision c.args.is_progressive f.process f.precision c.checked.ensures.precision)

pub returns-then-is_some : goal.returns-then-is_some
returns-then-is_some c =
    let p = c.args.is_progressive in
    let f = c.args.frame.now in
    let h = c.loop-entry.invariant.1 in
    let n = c.loop-entry.entry-index in
    let e = c.entry-item.result in
    let cut : drop n c.args.entries.now ≡ e ∷ drop (n + 1) c.args.entries.now = drop_more c.args.entries.now n e c.loop-entry-test.true ∙ ap (λ x. x ∷ drop (n + 1) c.args.entries.now) (sym c.entry-item.is) in
    fault_shown p f c.args.entries.now n e c.loop-entry.history c.take_entry-fault.new.history c.take_entry-fault.result h cut
    (subst (λ m. IsEntryTaken p f h.heads m e c.take_entry-fault.result c.take_entry-fault.new.history) c.loop-entry.invariant.0 (c.take_entry-fault.ensures h.heads h.stands))
    (sym c.is_some.ensures ∙ c.if-is_some.true)

pub loop-entry-preserved : goal.loop-entry-preserved
loop-entry-preserved c =
    let p = c.args.is_progressive in
    let f = c.args.frame.now in
    let h = c.loop-entry.invariant.1 in
    let n = c.loop-entry.entry-index in
    let e = c.entry-item.result in
    let cut : drop n c.args.entries.now ≡ e ∷ drop (n + 1) c.args.entries.now = drop_more c.args.entries.now n e c.loop-entry-test.true ∙ ap (λ x. x ∷ drop (n + 1) c.args.entries.now) (sym c.entry-item.is) in (
      ap (λ m. m + 1) c.loop-entry.invariant.0,
      one_taken p f c.args.entries.now n e c.loop-entry.history c.take_entry-fault.new.history c.take_entry-fault.result h cut
          (subst (λ m. IsEntryTaken p f h.heads m e c.take_entry-fault.result c.take_entry-fault.new.history) c.loop-entry.invariant.0 (c.take_entry-fault.ensures h.heads h.stands))
          (sym c.is_some.ensures ∙ c.if-is_some.false),
    )
