use Rattle.std.proofs.Common.{◌≡◌, ◌∙◌, true, false, List, ℕ, map, subst, sym}
use Rattle.jpg_spec_image.specs.declared.image.EndKind.TheVariants as kind
use Rattle.jpg_cli.specs.Tools.Ends.{formats_of, has_format}
use Rattle.jpg_cli.specs.Tools.Worked.{WritesReport}
use Rattle.jpg_cli.proofs.Encoding.Worked.{work_done, work_none, work_wrong}
use Rattle.jpg_cli.proofs.tools.jpgwork.do_work.Goals as goal

pub returns-then-not-has_end-clause-worked : goal.returns-then-not-has_end-clause-worked
returns-then-not-has_end-clause-worked g c =
    work_wrong (has_format kind.Pnm (formats_of (map (λ e. (goal.ImageEnd-dyn g (e.vtable, e.value)).progress e.value) c.args.ends.items))) c.args.size (g.D.Desk.state c.args.desk.now) (subst (λ l. has_format kind.Pnm (formats_of (map (λ e. (goal.ImageEnd-dyn g (e.vtable, e.value)).progress e.value) l)) ≡ false) c.deref.ensures.value (sym c.has_end.ensures ∙ c.if-not-has_end.true))

pub returns-in-None-clause-worked : goal.returns-in-None-clause-worked
returns-in-None-clause-worked g c =
    work_none (has_format kind.Pnm (formats_of (map (λ e. (goal.ImageEnd-dyn g (e.vtable, e.value)).progress e.value) c.args.ends.items))) c.args.size (g.D.Desk.state c.args.desk.now) (subst (λ l. has_format kind.Pnm (formats_of (map (λ e. (goal.ImageEnd-dyn g (e.vtable, e.value)).progress e.value) l)) ≡ true) c.deref.ensures.value (sym c.has_end.ensures ∙ c.if-not-has_end.false))

pub returns-in-Some-clause-worked : goal.returns-in-Some-clause-worked
returns-in-Some-clause-worked g c =
    let state = g.D.Desk.state in
    work_done (has_format kind.Pnm (formats_of (map (λ e. (goal.ImageEnd-dyn g (e.vtable, e.value)).progress e.value) c.args.ends.items))) c.args.size c.in-Some.report c.write_report.result (state c.args.desk.now) (state c.write_report.new.desk)
    (subst (λ l. has_format kind.Pnm (formats_of (map (λ e. (goal.ImageEnd-dyn g (e.vtable, e.value)).progress e.value) l)) ≡ true) c.deref.ensures.value (sym c.has_end.ensures ∙ c.if-not-has_end.false)) c.in-Some.ensures c.write_report.ensures.left
    (subst (λ (t : List ℕ). WritesReport t (state c.args.desk.now) c.write_report.result (state c.write_report.new.desk)) c.as_slice.ensures c.write_report.ensures.wrote)
