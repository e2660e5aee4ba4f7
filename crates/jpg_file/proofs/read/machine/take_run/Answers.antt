use Rattle.std.proofs.Common.{[], ap, refl, length-append, ◌≡◌, ◌-◌, ◌/◌, length, take, drop, subst, sym, ◌∙◌, arith, Bool, List, ℕ, rules, take_all, length-drop, length-take}
use Rattle.jpg_spec.specs.Bits.{bits_of_bytes}
use Rattle.jpg_coefs.specs.Machine.{TakesBits}
use Rattle.jpg_coefs.specs.declared.machine.Taken.{Taken}
use Rattle.jpg_coefs.specs.declared.machine.Taken.TheVariants as taken
use Rattle.jpg_spec_write.proofs.ProgressiveLength.{bytes_long}
use Rattle.jpg_file.proofs.Scans.Runs.{HasRun, run_after, run_on, run_all}
use Rattle.jpg_file.proofs.read.machine.take_run.Goals as goal

pub loop-rest-init : goal.loop-rest-init
loop-rest-init g c = record { done = []; cut = refl; chain = (refl, refl); some = c.requires.some; left = c.requires.left; interval = c.requires.open.0; bits = c.requires.open.1; standing = c.requires.open.2 }

pub overflow_sub-given-in-loop-rest : goal.overflow_sub-given-in-loop-rest
overflow_sub-given-in-loop-rest g c =
    let t = c.bits-taken.ensures in
    omega (arith, bytes_long (take c.min.result c.loop-rest.rest.now), ap length (sym c.bits_of_few-store.ensures ∙ t.1), length-append t.0 c.bits-taken.new.store)

pub returns-then-rest-le8 : goal.returns-then-rest-le8
returns-then-rest-le8 g c =
    let l = c.loop-rest in let t = c.bits-taken in let k = g.M.ScanMachine.kind in let n = c.min.result in let front = take n l.rest.now in
    let B : List Bool → Type 0 = λ z. TakesBits k c.units_left-most.result l.machine l.coefs z t.result t.new.self t.new.coefs t.new.store in
    run_after k c.args.machine.now t.new.self c.args.coefs.now t.new.coefs l.machine l.coefs c.args.bytes.now l.rest.now _ n _ t.result l.invariant
    (run_all k l.machine t.new.self l.coefs t.new.coefs c.units_left-most.result front t.new.store (length front - length t.new.store / 8) t.result (omega (arith, length-take n l.rest.now, c.min.ensures, (l.invariant).some)) (λ e. c.units_left-most.ensures) (omega arith) (subst B c.bits_of_few-store.ensures t.ensures))
    (omega (arith, c.len.ensures.value))

pub loop-rest-preserved : goal.loop-rest-preserved
loop-rest-preserved g c =
    let l = c.loop-rest in let t = c.bits-taken in let k = g.M.ScanMachine.kind in let rest = l.rest.now in
    let B : ℕ → List Bool → Taken → Type 0 = λ n z a. TakesBits k n l.machine l.coefs z a t.new.self t.new.coefs t.new.store in
    let some = subst (λ z. B c.units_left-most.result z t.result) c.bits_of_few-store.ensures t.ensures in
    let eight : c.min.result ≡ 8 = omega (arith, c.min.ensures, c.if-rest-le8.false) in
    let went : t.result ≡ taken.More = search (rules, c.ne.ensures, c.if-ne.false) in
    let more = subst (λ n. B n (bits_of_bytes (take 8 rest)) taken.More) c.units_left-most.ensures (subst (B c.units_left-most.result (bits_of_bytes (take 8 rest))) went (subst (λ n. B c.units_left-most.result (bits_of_bytes (take n rest)) t.result) eight some)) in
    let R : List ℕ → Type 0 = λ r. HasRun _ k c.args.machine.now c.args.coefs.now c.args.bytes.now t.new.self t.new.coefs r in
    subst R (sym (take_all (length rest - 8) (drop 8 rest) (omega (arith, length-drop 8 rest))))
    (run_on k c.args.machine.now t.new.self c.args.coefs.now t.new.coefs l.machine l.coefs c.args.bytes.now rest t.new.store l.invariant (omega (arith, c.if-rest-le8.false)) more)
