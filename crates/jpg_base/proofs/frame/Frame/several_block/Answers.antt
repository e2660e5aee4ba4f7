use Rattle.std.proofs.Common.{rules, ◌≡◌, ◌<◌, ◌≤◌, ◌*◌, ◌/◌, ◌%◌, ◌^◌, ℕ, get_or, sym, ap, ◌∙◌, subst, arith}
use Rattle.jpg_spec.specs.Geometry.{factor_sum, mcus_across, mcus_down}
use Rattle.jpg_spec.specs.declared.frame.Grid.{Grid}
use Rattle.std.proofs.Math.Nat.{mod-lt}
use Rattle.jpg_base.proofs.UnitCounts.{several_below, several_unit, mcu_from}
use Rattle.jpg_base.proofs.InMcu.{ids_of, several_are}
use Rattle.jpg_base.proofs.frame.Frame.several_block.Goals as goal

pub nonzero_div-mcu : goal.nonzero_div-mcu
nonzero_div-mcu c =
    let ids = several_are c.args.self.now c.args.parts.now c.checked.ensures.factors c.requires.several c.requires.there in
    omega (arith, ids.some, c.factor_sum-size.ensures.value, c.from.ensures)

pub quotient-row-requires-clause-below : goal.quotient-row-requires-clause-below
quotient-row-requires-clause-below c =
    let f = c.args.self.now in
    let ids = several_are f c.args.parts.now c.checked.ensures.factors c.requires.several c.requires.there in
    let s1 : c.from.result ≡ factor_sum f (ids_of c.args.parts.now) = c.from.ensures ∙ c.factor_sum-size.ensures.value in
    subst (λ (g : Grid). c.args.unit / c.from.result < g.high * g.wide) (sym c.mcus-mcus.ensures.value)
    (subst (λ (k : ℕ). c.args.unit / k < mcus_down f * mcus_across f) (sym s1) (several_below f (ids_of c.args.parts.now) c.args.unit ids.two ids.some c.requires.unit))

pub nonzero_rem-unit : goal.nonzero_rem-unit
nonzero_rem-unit c =
    let ids = several_are c.args.self.now c.args.parts.now c.checked.ensures.factors c.requires.several c.requires.there in
    omega (arith, ids.some, c.factor_sum-size.ensures.value, c.from-3.ensures)

pub overflow_cast-unit : goal.overflow_cast-unit
overflow_cast-unit c =
    let ids = several_are c.args.self.now c.args.parts.now c.checked.ensures.factors c.requires.several c.requires.there in
    let size = c.factor_sum-size.ensures.value in
    let small = mod-lt c.args.unit ids.some in
    let h : c.args.unit % c.from-3.result < 2 ^ 32 = subst (λ (k : ℕ). c.args.unit % k < 2 ^ 32) (sym (c.from-3.ensures ∙ size)) (omega (arith, small, size, c.factor_sum-size.ensures.few)) in
    search (rules, h)

pub in_mcu-requires-clause-k : goal.in_mcu-requires-clause-k
in_mcu-requires-clause-k c =
    let f = c.args.self.now in
    let ids = several_are f c.args.parts.now c.checked.ensures.factors c.requires.several c.requires.there in
    subst (λ (k : ℕ). c.args.unit % k < factor_sum f (ids_of c.args.parts.now)) (sym (c.from-3.ensures ∙ c.factor_sum-size.ensures.value)) (mod-lt c.args.unit ids.some)

pub returns : goal.returns
returns c = λ d.
    (let f = c.args.self.now in let ids = ids_of c.args.parts.now in
    let are = several_are f c.args.parts.now c.checked.ensures.factors c.requires.several c.requires.there in
    let n = c.args.unit in let s = factor_sum f ids in let w = mcus_across f in
    let s1 : c.from.result ≡ s = c.from.ensures ∙ c.factor_sum-size.ensures.value in
    let s3 : c.from-3.result ≡ s = c.from-3.ensures ∙ c.factor_sum-size.ensures.value in
    let g = c.mcus-mcus.ensures.value in
    let w2 : c.from-2.result ≡ w = c.from-2.ensures ∙ ap (λ (q : Grid). q.wide) g in
    let wide : 1 ≤ w = subst (λ (q : Grid). 1 ≤ q.wide) g c.mcus-mcus.ensures.some.0 in
    let column : n / c.from.result % c.from-2.result ≡ n / s % w = ap (λ (k : ℕ). n / k % c.from-2.result) s1 ∙ ap (λ (k : ℕ). n / s % k) w2 in
    let row : c.quotient-row.result ≡ n / s / w = c.quotient-row.ensures.value ∙ ap (λ (k : ℕ). n / k / c.mcus-mcus.result.wide) s1 ∙ ap (λ (q : Grid). n / s / q.wide) g in
    let k : n % c.from-3.result ≡ n % s = ap (λ (q : ℕ). n % q) s3 in
    several_unit f ids n d are.two are.some wide c.requires.unit
    ∙ sym (ap (λ (q : ℕ). get_or (mcu_from f q c.quotient-row.result ids) (n % c.from-3.result) d) column
    ∙ ap (λ (q : ℕ). get_or (mcu_from f (n / s % w) q ids) (n % c.from-3.result) d) row ∙ ap (λ (q : ℕ). get_or (mcu_from f (n / s % w) (n / s / w) ids) q d) k)
    ∙ c.in_mcu.ensures d)
