use Rattle.std.proofs.Common.{rules, ◌≡◌, ◌≤◌, ◌+◌, ◌-◌, ◌*◌, ◌/◌, ◌%◌, ◌++◌, ◌∷◌, [], ℤ, length, take, sym, ◌∙◌, subst, arith, inl, inr, Contains, w16, to_z-of_z}
use Rattle.std.proofs.lemmas.List.{nil_from_length}
use Rattle.jpg_spec.specs.Elements.{zeros}
use Rattle.jpg_seq.specs.Work.{env_by, IsElement, IsNextElement}
use Rattle.jpg_seq.proofs.Elements.{ac_code, end_element, later_bad, later_bad_run, later_none, run_element, value_taken, later_waits}
use Rattle.jpg_seq.proofs.work.UnitWork.next.Goals as goal

pub returns-then-at-eq0 : goal.returns-then-at-eq0
returns-then-at-eq0 c =
    let none : c.args.self.now.values ≡ [] = nil_from_length c.args.self.now.values (omega (arith, c.count-at.ensures.value, c.if-at-eq0.true)) in
    subst (λ v. IsNextElement (env_by c.args.env.now) v c.args.bits.now c.next_dc.result) (sym none) c.next_dc.ensures

pub returns-in-NoCode : goal.returns-in-NoCode
returns-in-NoCode c =
    let s = c.in-NoCode.ensures in
    (s.0, s.1, later_none (env_by c.args.env.now) c.args.self.now.values c.args.bits.now c.in-NoCode.length c.apart.ensures.one c.apart.ensures.some (omega (arith, c.count-at.ensures.value, c.if-at-eq0.false)) s.0 s.1 s.2 s.3)

pub returns-then-size-env : goal.returns-then-size-env
returns-then-size-env c =
    let s = c.in-Symbol.ensures in
    (s.0, s.2, later_bad (ac_code c.args.bits.now c.in-Symbol.length c.in-Symbol.symbol c.requires.sane c.apart.ensures.one (omega (arith, c.count-at.ensures.value, c.if-at-eq0.false)) c.requires.left s.0 s.2 s.3) (inl (omega (arith, c.if-size-env.true))))

pub returns-else-run-eq15 : goal.returns-else-run-eq15
returns-else-run-eq15 c =
    let s = c.in-Symbol.ensures in
    let size : c.in-Symbol.symbol % 16 ≡ 0 = c.if-size-eq0.true in
    (s.0, s.2, later_bad (ac_code c.args.bits.now c.in-Symbol.length c.in-Symbol.symbol c.requires.sane c.apart.ensures.one (omega (arith, c.count-at.ensures.value, c.if-at-eq0.false)) c.requires.left s.0 s.2 s.3) (inr (size, (λ q. c.if-run-eq0.false (omega (arith, q))), (λ q. c.if-run-eq15.false (omega (arith, q))))))

pub returns-then-run-eq0 : goal.returns-then-run-eq0
returns-then-run-eq0 c =
    let s = c.in-Symbol.ensures in
    (s.0, s.2, end_element (ac_code c.args.bits.now c.in-Symbol.length c.in-Symbol.symbol c.requires.sane c.apart.ensures.one (omega (arith, c.count-at.ensures.value, c.if-at-eq0.false)) c.requires.left s.0 s.2 s.3) (64 - c.count-at.result) (omega (arith, c.if-size-eq0.true, c.if-run-eq0.true)) (omega (arith, c.count-at.ensures.value)))

pub returns-then-run-eq15 : goal.returns-then-run-eq15
returns-then-run-eq15 c =
    let s = c.in-Symbol.ensures in
    (s.0, s.2, run_element (ac_code c.args.bits.now c.in-Symbol.length c.in-Symbol.symbol c.requires.sane c.apart.ensures.one (omega (arith, c.count-at.ensures.value, c.if-at-eq0.false)) c.requires.left s.0 s.2 s.3) c.min.result (omega (arith, c.if-size-eq0.true, c.if-run-eq15.true)) (omega (arith, c.min.ensures, c.count-at.ensures.value)))

pub returns-then-run-left : goal.returns-then-run-left
returns-then-run-left c =
    let s = c.in-Symbol.ensures in
    (s.0, s.2, later_bad_run (ac_code c.args.bits.now c.in-Symbol.length c.in-Symbol.symbol c.requires.sane c.apart.ensures.one (omega (arith, c.count-at.ensures.value, c.if-at-eq0.false)) c.requires.left s.0 s.2 s.3) (omega (arith, c.if-size-eq0.false), omega (arith, c.if-size-env.false), omega (arith, c.if-run-left.true, c.count-at.ensures.value)))

pub returns-then-length-size : goal.returns-then-length-size
returns-then-length-size c =
    let s = c.in-Symbol.ensures in
    let symbol = c.in-Symbol.symbol in
    let there : Contains c.args.env.now.coder.now.ac (take c.in-Symbol.length c.args.bits.now, 16 * (symbol / 16) + symbol % 16) = subst (λ n. Contains c.args.env.now.coder.now.ac (take c.in-Symbol.length c.args.bits.now, n)) (omega arith) s.3 in
    let k = ac_code {e = env_by c.args.env.now} {values = c.args.self.now.values} c.args.bits.now c.in-Symbol.length (16 * (symbol / 16) + symbol % 16) c.requires.sane c.apart.ensures.one (omega (arith, c.count-at.ensures.value, c.if-at-eq0.false)) c.requires.left s.0 s.2 there in
    let v : ℤ = c.extend.result in
    let all : c.in-Symbol.length + symbol % 16 ≤ length c.args.bits.now = omega (arith, c.if-length-size.true, c.len.ensures.value) in (
      omega (arith, s.0),
      all,
      subst (λ w. IsElement (env_by c.args.env.now) c.args.self.now.values (take (c.in-Symbol.length + symbol % 16) c.args.bits.now) (zeros (symbol / 16) ++ w ∷ [])) (sym (to_z-of_z {w = w16} {z = v} (search rules)))
          (value_taken c.args.bits.now c.in-Symbol.length (symbol / 16) (symbol % 16) v k all (omega (arith, c.if-size-eq0.false)) (omega (arith, c.if-size-env.false)) (omega (arith, c.if-run-left.false, c.count-at.ensures.value)) (search rules) c.extend.ensures.category (c.extend.ensures.extra ∙ c.peek_after.ensures.value)),
    )

pub returns-else-length-size : goal.returns-else-length-size
returns-else-length-size c =
    let s = c.in-Symbol.ensures in
    let symbol = c.in-Symbol.symbol in
    let there : Contains c.args.env.now.coder.now.ac (take c.in-Symbol.length c.args.bits.now, 16 * (symbol / 16) + symbol % 16) = subst (λ n. Contains c.args.env.now.coder.now.ac (take c.in-Symbol.length c.args.bits.now, n)) (omega arith) s.3 in
    let k = ac_code {e = env_by c.args.env.now} {values = c.args.self.now.values} c.args.bits.now c.in-Symbol.length (16 * (symbol / 16) + symbol % 16) c.requires.sane c.apart.ensures.one (omega (arith, c.count-at.ensures.value, c.if-at-eq0.false)) c.requires.left s.0 s.2 there in
    later_waits c.args.bits.now c.in-Symbol.length (symbol / 16) (symbol % 16) k s.1 s.2 (omega (arith, c.if-size-env.false)) (omega (arith, c.if-run-left.false, c.count-at.ensures.value)) (search rules) (omega (arith, c.if-length-size.false, c.len.ensures.value))
