use Rattle.std.proofs.Common.{◌≡◌, ◌-◌, ◌≤◌, ℕ, None, sum, sym, ap, ◌∙◌, subst, arith}
use Rattle.std.specs.Prelude.{All}
use Rattle.std.proofs.lemmas.List.Elements.{All-from_get_or}
use Rattle.jpg_spec_fit.specs.Fitted.{least_two}
use Rattle.jpg_fit.specs.Groups.{groups}
use Rattle.jpg_fit.specs.Sizes.{after_steps}
use Rattle.jpg_fit.proofs.Joins.{started, alone_small, one_step, stays, not_two, sum_after, sizes_after, small_sum, sizes_are}
use Rattle.jpg_fit.proofs.sizes.code_sizes.Goals as goal

pub loop-left-init : goal.loop-left-init
loop-left-init c = record {
  same = ap (after_steps 256) (started c.args.counts.now c.all_counts-all.result c.alone-members.result c.told-counts c.all_counts-all.ensures c.alone-members.ensures);
  sizes = subst (All (λ (m : ℕ × ℕ). m.1 ≤ 256 - 256)) (sym c.alone-members.ensures) alone_small;
  total = ap sum c.all_counts-all.ensures;
  left = omega arith;
}

pub join_least-requires-clause-fits : goal.join_least-requires-clause-fits
join_least-requires-clause-fits c =
    let small = small_sum c.args.counts.now c.told-counts (All-from_get_or (λ n. n ≤ 4294967295) c.args.counts.now 0 (λ i l. (let h = c.fits-counts i in omega (arith, h)))) in
    omega (arith, small, c.loop-left.invariant.total)

pub loop-left-preserved-then-join_least : goal.loop-left-preserved-then-join_least
loop-left-preserved-then-join_least c =
    let left = c.loop-left.left in
    let e = c.join_least.ensures.step in
    record {
      same = ap (after_steps (left - 1)) e ∙ sym (one_step left (groups c.loop-left.all c.loop-left.members) c.loop-left-test.true) ∙ c.loop-left.invariant.same;
      sizes = sizes_after c.loop-left.all c.loop-left.members (groups c.join_least.new.counts c.join_least.new.members) (256 - left) (256 - (left - 1)) e c.loop-left.invariant.sizes (omega (arith, c.loop-left-test.true, c.loop-left.invariant.left));
      total = sum_after c.loop-left.all c.loop-left.members (groups c.join_least.new.counts c.join_least.new.members) e ∙ c.loop-left.invariant.total;
      left = omega (arith, c.loop-left.invariant.left);
    }

pub loop-left-preserved : goal.loop-left-preserved
loop-left-preserved c =
    let left = c.loop-left.left in
    let e = c.join_least.ensures.step in
    let none : least_two c.loop-left.all ≡ None = not_two (least_two c.loop-left.all) (sym c.join_least.ensures.two ∙ c.if-join_least.false) in
    record {
      same = ap (after_steps 0) e ∙ stays left (groups c.loop-left.all c.loop-left.members) none ∙ c.loop-left.invariant.same;
      sizes = sizes_after c.loop-left.all c.loop-left.members (groups c.join_least.new.counts c.join_least.new.members) (256 - left) 256 e c.loop-left.invariant.sizes (omega (arith, c.loop-left-test.true, c.loop-left.invariant.left));
      total = sum_after c.loop-left.all c.loop-left.members (groups c.join_least.new.counts c.join_least.new.members) e ∙ c.loop-left.invariant.total;
      left = omega arith;
    }

pub returns : goal.returns
returns c =
    let g = groups c.loop-left.all c.loop-left.members in
    let z : 0 ≡ c.loop-left.left = omega (arith, c.loop-left-test.false) in
    c.sizes_of.ensures ∙ sizes_are c.args.counts.now g c.told-counts (ap (λ n. after_steps n g) z ∙ c.loop-left.invariant.same)
