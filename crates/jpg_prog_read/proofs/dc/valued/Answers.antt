use Rattle.std.proofs.Common.{rules, ◌≡◌, ◌∙◌, ap, sym, subst, arith, ◌≤◌, ℤ, ◌*ℤ◌, pos, ◌≤ℤ◌, ◌+ℤ◌}
use Rattle.std.specs.Prelude.{nat_abs}
use mir.Syntax.{w16, w32, w64}
use mir.Val.{to_z, of_z}
use Rattle.std.proofs.lemmas.Int.{to_z-of_z}
use Rattle.jpg_prog_read.proofs.DcUnits.{wide, in_word}
use Rattle.jpg_prog_read.proofs.dc.valued.Goals as goal

pub narrow-requires : goal.narrow-requires
narrow-requires c =
    let b = c.args.scan.now in
    let l = to_z-of_z w32 b.low (search rules) in
    let h = to_z-of_z w32 b.high (search rules) in
    let x = to_z-of_z w64 c.product-x.result (search rules) in
    let r = c.in-Within.ensures in
    let lo : b.low ≤ℤ c.product-x.result = subst (λ (y : ℤ). y ≤ℤ c.product-x.result) l (subst (λ (y : ℤ). to_z w32 (of_z w32 b.low) ≤ℤ y) x r.0) in
    let hi : c.product-x.result ≤ℤ b.high = subst (λ (y : ℤ). c.product-x.result ≤ℤ y) h (subst (λ (y : ℤ). y ≤ℤ to_z w32 (of_z w32 b.high)) x r.1) in
    let w = to_z w32 (of_z w32 c.sum-w.result) in
    let m : nat_abs (w *ℤ pos b.scale) ≤ 32767 = subst (λ (y : ℤ). nat_abs y ≤ 32767) c.product-x.ensures (in_word c.product-x.result b.low b.high c.requires.low c.requires.high lo hi) in
    omega (arith, m, wide w b.scale c.requires.some)

pub narrow_wide-requires : goal.narrow_wide-requires
narrow_wide-requires c =
    let b = c.args.scan.now in
    let l = to_z-of_z w32 b.low (search rules) in
    let h = to_z-of_z w32 b.high (search rules) in
    let r = c.in-Within.ensures in
    let x = to_z w64 (of_z w64 c.product-x.result) in
    let lo : b.low ≤ℤ x = subst (λ (y : ℤ). y ≤ℤ x) l r.0 in
    let hi : x ≤ℤ b.high = subst (λ (y : ℤ). x ≤ℤ y) h r.1 in
    in_word x b.low b.high c.requires.low c.requires.high lo hi

pub returns-in-Beyond : goal.returns-in-Beyond
returns-in-Beyond c = λ range.
    let b = c.args.scan.now in
    let l = to_z-of_z w32 b.low (search rules) in
    let h = to_z-of_z w32 b.high (search rules) in
    let s : c.sum-w.result ≡ c.args.prediction +ℤ c.args.difference = c.sum-w.ensures ∙ ap (λ (y : ℤ). y +ℤ to_z w16 (of_z w16 c.args.difference)) (to_z-of_z w16 c.args.prediction (search rules)) ∙ ap (λ (y : ℤ). c.args.prediction +ℤ y) (to_z-of_z w16 c.args.difference (search rules)) in
    let x : to_z w64 (of_z w64 c.product-x.result) ≡ (c.args.prediction +ℤ c.args.difference) *ℤ pos b.scale =
    to_z-of_z w64 c.product-x.result (search rules) ∙ c.product-x.ensures ∙ ap (λ (y : ℤ). y *ℤ pos b.scale) (to_z-of_z w32 c.sum-w.result (search rules) ∙ s) in
    let w = to_z w64 (of_z w64 c.product-x.result) in
    c.in-Beyond.ensures (
      subst (λ (y : ℤ). y ≤ℤ w) (sym l) (subst (λ (y : ℤ). b.low ≤ℤ y) (sym x) range.0),
      subst (λ (y : ℤ). w ≤ℤ y) (sym h) (subst (λ (y : ℤ). y ≤ℤ b.high) (sym x) range.1),
    )
