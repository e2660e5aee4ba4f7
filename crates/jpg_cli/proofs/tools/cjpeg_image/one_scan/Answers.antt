use Rattle.std.proofs.Common.{◌∙◌, refl, subst, sym}
use Rattle.jpg_file.specs.Write.WriteFile.{IsAllOf, IsSole, CanWriteFile}
use Rattle.jpg_file.specs.declared.write.Plan.{Plan}
use Rattle.jpg_cli.proofs.Encoding.OneScan.{one_scan_is, some_plan}
use Rattle.jpg_cli.proofs.tools.cjpeg_image.one_scan.Goals as goal

pub scan_for-requires : goal.scan_for-requires
scan_for-requires c =
    let some = some_plan c.in-Ok.ensures c.in_ok-plan.ensures c.requires.3 in
    (some.0, some.1, some.2, subst (λ (p : Plan). CanWriteFile p some.0 some.1 some.2) (sym c.as_ref.ensures) some.3)

pub returns : goal.returns
returns c =
    let scan = c.in_ok-scan.scan.value in
    one_scan_is (record { plan = c.in_ok-plan.plan; kept = c.in-Ok.head.kept; scan = c.in_ok-scan.scan }) c.in-Ok.ensures c.in_ok-plan.ensures refl (sym c.has_rows.ensures ∙ c.if-not-has_rows.false)
    (subst (λ (p : Plan). IsSole p scan) c.as_ref.ensures c.in_ok-scan.ensures.sole) (subst (λ (p : Plan). IsAllOf p scan) c.as_ref.ensures c.in_ok-scan.ensures.all)
