use Rattle.std.proofs.Common.{rules, ◌≡◌, ◌≤◌, ◌+◌, ◌*◌, [], ℕ, ℤ, pos, length, take, refl, ◌∙◌, subst, arith, length-take-le, Contains, w16, to_z-of_z}
use Rattle.jpg_seq.specs.Work.{env_by}
use Rattle.jpg_seq.proofs.Elements.{none_taken, first_bad, first_comes, waits}
use Rattle.jpg_seq.proofs.work.next_dc.Goals as goal
use Rattle.jpg_spec.proofs.Basics.Small.{zero_bits, zero_category}

pub returns-in-NoCode : goal.returns-in-NoCode
returns-in-NoCode c =
    let s = c.in-NoCode.ensures in
    (s.0, s.1, none_taken (env_by c.args.env.now) [] c.args.bits.now c.in-NoCode.length c.apart.ensures.one c.apart.ensures.some s.0 s.1 s.2 s.3)

pub returns-then-symbol-env : goal.returns-then-symbol-env
returns-then-symbol-env c =
    let s = c.in-Symbol.ensures in
    (s.0, s.2, first_bad (env_by c.args.env.now) (take c.in-Symbol.length c.args.bits.now) c.in-Symbol.symbol (record { apart = c.apart.ensures.one; there = s.3; some = omega (arith, length-take-le c.in-Symbol.length c.args.bits.now s.2, s.0) }) (omega arith))

pub returns-then-symbol-eq0 : goal.returns-then-symbol-eq0
returns-then-symbol-eq0 c =
    let s = c.in-Symbol.ensures in
    let P : ℕ → Type 0 = λ n. Contains c.args.env.now.coder.now.dc (take c.in-Symbol.length c.args.bits.now, n) in
    first_comes (env_by c.args.env.now) c.args.bits.now c.in-Symbol.length 0 c.in-Symbol.length (pos 0) c.first_value.result c.apart.ensures.one s.0 (omega (arith, s.2)) (subst P c.if-symbol-eq0.true s.3) (omega arith) zero_category zero_bits (omega arith) c.first_value.ensures

pub returns-then-length-symbol : goal.returns-then-length-symbol
returns-then-length-symbol c =
    let s = c.in-Symbol.ensures in
    let d : ℤ = c.extend-difference.result in
    let there : c.in-Symbol.length + c.in-Symbol.symbol ≤ length c.args.bits.now = omega (arith, c.len.ensures.value) in
    first_comes (env_by c.args.env.now) c.args.bits.now c.in-Symbol.length c.in-Symbol.symbol (c.in-Symbol.length + c.in-Symbol.symbol) d c.first_value-then-length-symbol.result c.apart.ensures.one s.0 there s.3 (omega arith)
    c.extend-difference.ensures.category (c.extend-difference.ensures.extra ∙ c.peek_after.ensures.value) refl (rw (to_z-of_z {w = w16} {z = d} (search rules)) at c.first_value-then-length-symbol.ensures)

pub returns-else-length-symbol : goal.returns-else-length-symbol
returns-else-length-symbol c =
    let s = c.in-Symbol.ensures in
    let z : c.in-Symbol.symbol ≡ 16 * 0 + c.in-Symbol.symbol = omega arith in
    let P : ℕ → Type 0 = λ n. Contains c.args.env.now.coder.now.dc (take c.in-Symbol.length c.args.bits.now, n) in
    waits (env_by c.args.env.now) [] c.args.bits.now c.in-Symbol.length 0 c.in-Symbol.symbol s.1 s.2 (subst P z s.3) (refl, omega arith) (omega (arith, c.requires.sane.dc_cat)) (omega (arith, c.len.ensures.value))
