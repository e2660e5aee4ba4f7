use Rattle.std.proofs.Common.{◌≡◌, arith, sym, subst, ap, ◌∷◌, List, ℤ, pos, drop, length, ◌≤◌, false}
use Rattle.jpg_spec.specs.Elements.{is_zero}
use Rattle.jpg_prog_read.specs.InWork.{InWork}
use Rattle.jpg_prog_read.proofs.ZerosPassed.{passes, fewer_come, old_after, short_of}
use Rattle.jpg_prog_read.proofs.band.BandReader.skip.Goals as goal

pub pass_zeros-requires-clause-next : goal.pass_zeros-requires-clause-next
pass_zeros-requires-clause-next c =
    let z = c.zeros_next-next.ensures.next in
    (fewer_come c.zeros_next-next.result c.run_left-run.result c.args.self.now.rest c.if-run-next.true z.within z.next).0

pub returns-then-run-next-clause-at : goal.returns-then-run-next-clause-at
returns-then-run-next-clause-at c =
    let z = c.zeros_next-next.ensures.next in
    let e = c.pass_zeros.ensures in
    let P : InWork → Type 0 = λ n. n.rest ≡ pos 0 ∷ drop 1 n.rest in (
      subst P (sym e) (fewer_come c.zeros_next-next.result c.run_left-run.result c.args.self.now.rest c.if-run-next.true z.within z.next).1,
      omega (arith, ap (λ (n : InWork). n.run) e, c.run_left-run.ensures),
    )

pub returns-then-run-next-clause-stands : goal.returns-then-run-next-clause-stands
returns-then-run-next-clause-stands c =
    let z = c.zeros_next-next.ensures.next in
    let s = c.args.self.now in
    passes s c.pass_zeros.new.self c.run_left-run.result (omega (arith, c.if-run-next.true, z.within)) (fewer_come c.zeros_next-next.result c.run_left-run.result s.rest c.if-run-next.true z.within z.next).0
    (omega (arith, c.run_left-run.ensures)) c.requires.passing c.pass_zeros.ensures

pub returns-then-is_left-clause-at : goal.returns-then-is_left-clause-at
returns-then-is_left-clause-at c =
    let z = c.zeros_next-next.ensures.next in
    let n = c.zeros_next-next.result in
    let s = c.args.self.now in
    let e : c.pass_zeros-2.new.self.rest ≡ drop n s.rest = ap (λ (m : InWork). m.rest) c.pass_zeros-2.ensures in
    let some = c.is_left.ensures.left c.if-is_left.true in
    let P : List ℤ → Type 0 = λ l. (1 ≤ length l) × ((v : ℤ) × (l ≡ v ∷ drop 1 l) × (is_zero v ≡ false)) in
    let left : 1 ≤ length (drop n s.rest) = subst (λ (l : List ℤ). 1 ≤ length l) e some in
    subst P (sym e) (left, old_after n s.rest left (z.last (short_of n s.rest left)))

pub returns-then-is_left-clause-stands : goal.returns-then-is_left-clause-stands
returns-then-is_left-clause-stands c =
    let z = c.zeros_next-next.ensures.next in
    let s = c.args.self.now in
    passes s c.pass_zeros-2.new.self c.zeros_next-next.result z.within z.next (omega (arith, c.run_left-run.ensures, c.if-run-next.false)) c.requires.passing c.pass_zeros-2.ensures

pub returns-else-is_left-clause-stands : goal.returns-else-is_left-clause-stands
returns-else-is_left-clause-stands c =
    let z = c.zeros_next-next.ensures.next in
    let s = c.args.self.now in
    passes s c.pass_zeros-2.new.self c.zeros_next-next.result z.within z.next (omega (arith, c.run_left-run.ensures, c.if-run-next.false)) c.requires.passing c.pass_zeros-2.ensures
