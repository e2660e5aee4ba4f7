use Rattle.std.proofs.Common.{◌+◌, ◌*◌, ◌∷◌, [], refl, sym, ap, ◌∙◌, arith, rules, w16, w32, to_z, of_z, to_z-of_z}
use Rattle.jpg_huff.specs.Counts.{Mark}
use Rattle.jpg_huff.proofs.Marks.{but_start, but_then, but_last}
use Rattle.jpg_seq.specs.ScanWritten.{ac_mark, run_marks}
use Rattle.jpg_seq.proofs.Written.{run_more, run_last}
use Rattle.jpg_seq.proofs.count.count_run.Goals as goal

pub loop-left-init : goal.loop-left-init
loop-left-init c =
    let all = run_marks c.args.slot c.args.run (to_z w16 (of_z w16 c.args.value)) in
    record { counts = c.requires.counts; part = but_start c.args.counts.now all all c.requires.counts refl }

pub loop-left-preserved : goal.loop-left-preserved
loop-left-preserved c =
    let slot = c.args.slot in
    let v = to_z w16 (of_z w16 c.args.value) in
    let left = c.loop-left.left in
    record {
      counts = c.count_ac.ensures.counts;
      part = but_then _ _ _ _ _ _ _ (run_more (ac_mark slot) left v c.loop-left-test.true) c.loop-left.invariant.part c.count_ac.ensures;
    }

pub returns : goal.returns
returns c =
    let slot = c.args.slot in
    let v = to_z w16 (of_z w16 c.args.value) in
    let left = c.loop-left.left in
    let same = rw (to_z-of_z {w = w32} {z = c.from.result} (search rules), c.from.ensures) at c.category.ensures.category in
    let e = run_last (ac_mark slot) left v (omega (arith, c.loop-left-test.false)) ∙ ap (λ n. (let m : Mark = ((1, slot), 16 * left + n) in m ∷ [])) (sym same) in
    let h = but_last c.args.counts.now c.loop-left.counts c.count_ac-2.new.self (run_marks slot c.args.run v) (run_marks slot left v) (((1, slot), 16 * left + c.category.result) ∷ []) e c.loop-left.invariant.part c.count_ac-2.ensures in
    rw (to_z-of_z {w = w16} {z = c.args.value} (search rules)) at h
