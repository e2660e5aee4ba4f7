use Rattle.std.proofs.Common.{◌≡◌, ◌<◌, ◌≤◌, ◌+◌, ◌-◌, ◌*◌, ◌/◌, ◌%◌, ℕ, drop, get_or, sym, ap, ◌∙◌, subst, arith}
use Rattle.std.specs.Prelude.{map}
use Rattle.jpg_spec.specs.Geometry.{factor_sum, component_at}
use Rattle.jpg_spec.specs.declared.frame.ScanPart.{ScanPart}
use Rattle.jpg_base.specs.declared.cursor.CursorPart.{CursorPart}
use Rattle.jpg_base.proofs.UnitCounts.{mcu_from}
use Rattle.jpg_base.proofs.InMcu.{found_part, next_part, fewer_left, spot_same}
use Rattle.jpg_base.proofs.frame.Frame.in_mcu.Goals as goal

pub returns-then-left-count : goal.returns-then-left-count
returns-then-left-count c = λ d.
    let l = c.loop-part in let v = c.cursor_part-part.ensures.value in let p = c.cursor_part-part.result in
    let z : ScanPart = record { component = 0; dc = 0; ac = 0 } in
    let i = (get_or c.args.parts.now l.part-index z).component in
    let count : c.from.result * c.from-in-loop-part.result ≡ p.h * p.v = ap (λ (n : ℕ). n * c.from-in-loop-part.result) c.from.ensures ∙ ap (λ (n : ℕ). p.h * n) c.from-in-loop-part.ensures in
    let lt : l.left < p.h * p.v = omega (arith, count, c.if-left-count.true) in
    let e = found_part c.args.self.now c.args.column c.args.row c.args.parts.now l.part-index l.left z d c.loop-part-test.true
    (subst (λ (q : CursorPart). 1 ≤ q.h) v c.cursor_part-part.ensures.factors.h_low) (subst (λ (q : CursorPart). l.left < q.h * q.v) v lt) in
    let x : c.args.column * c.from-then-left-count.result + l.left % c.from-then-left-count-2.result ≡ c.args.column * p.h + l.left % p.h =
    ap (λ (n : ℕ). c.args.column * n + l.left % c.from-then-left-count-2.result) c.from-then-left-count.ensures ∙ ap (λ (n : ℕ). c.args.column * p.h + l.left % n) c.from-then-left-count-2.ensures in
    let y : c.args.row * c.from-then-left-count-3.result + l.left / c.from-then-left-count-4.result ≡ c.args.row * p.v + l.left / p.h =
    ap (λ (n : ℕ). c.args.row * n + l.left / c.from-then-left-count-4.result) c.from-then-left-count-3.ensures ∙ ap (λ (n : ℕ). c.args.row * p.v + l.left / n) c.from-then-left-count-4.ensures in
    l.invariant.0 d ∙ e ∙ sym (c.spot.ensures ∙ spot_same c.args.self.now i p c.args.column c.args.row l.left _ _ v x y)

pub loop-part-preserved : goal.loop-part-preserved
loop-part-preserved c =
    let l = c.loop-part in let v = c.cursor_part-part.ensures.value in let p = c.cursor_part-part.result in
    let f = c.args.self.now in
    let z : ScanPart = record { component = 0; dc = 0; ac = 0 } in
    let i = (get_or c.args.parts.now l.part-index z).component in
    let n = (component_at f i).h * (component_at f i).v in
    let count : c.from.result * c.from-in-loop-part.result ≡ n = ap (λ (k : ℕ). k * c.from-in-loop-part.result) c.from.ensures ∙ ap (λ (k : ℕ). p.h * k) c.from-in-loop-part.ensures ∙ ap (λ (q : CursorPart). q.h * q.v) v in
    let le : n ≤ l.left = omega (arith, count, c.if-left-count.false) in
    let P : ℕ → Type 0 = λ k. l.left - k < factor_sum f (map (λ (q : ScanPart). q.component) (drop (l.part-index + 1) c.args.parts.now)) in (
      λ d. l.invariant.0 d ∙ next_part f c.args.column c.args.row c.args.parts.now l.part-index l.left z d c.loop-part-test.true le
          ∙ ap (λ (k : ℕ). get_or (mcu_from f c.args.column c.args.row (map (λ (q : ScanPart). q.component) (drop (l.part-index + 1) c.args.parts.now))) (l.left - k) d) (sym count),
      subst P (sym count) (fewer_left f c.args.parts.now l.part-index l.left z c.loop-part-test.true l.invariant.1 le),
    )
