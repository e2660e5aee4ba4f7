use Rattle.std.proofs.Common.{rules, ◌≡◌, length, slice_index, subst, sym, ap, ◌∙◌, ◌≤◌, map}
use Rattle.std.proofs.lemmas.List.{length-set}
use Rattle.jpg_spec.specs.Zigzag.{zigzag}
use Rattle.jpg_dct.proofs.Zigzag.{divides_more, natural_some, back}
use Rattle.jpg_dct.proofs.forward.blocks.Divisors.new.Goals as goal

pub loop-n-preserved : goal.loop-n-preserved
loop-n-preserved c = (
  length-set c.loop-n.halves c.loop-n.n _ ∙ c.loop-n.invariant.0,
  length-set c.loop-n.factors c.loop-n.n _ ∙ c.loop-n.invariant.1,
  length-set c.loop-n.scales c.loop-n.n _ ∙ c.loop-n.invariant.2,
  divides_more c.natural-quants.result (record { halves = c.loop-n.halves; factors = c.loop-n.factors; scales = c.loop-n.scales }) c.loop-n.n _ (search rules) c.loop-n.invariant.0 c.loop-n.invariant.1 c.loop-n.invariant.2 c.loop-n.invariant.3 c.divisor_of-half.ensures,
)

pub divisor_of-half-requires : goal.divisor_of-half-requires
divisor_of-half-requires c =
    let long : length c.args.table.now ≡ 64 = search rules in
    subst (λ q. 1 ≤ slice_index q c.loop-n.n) (sym c.natural-quants.ensures) (natural_some c.args.table.now c.loop-n.n long c.requires (search rules))

pub returns : goal.returns
returns c =
    let long : length c.args.table.now ≡ 64 = search rules in
    ap (λ q. map (slice_index q) zigzag) c.natural-quants.ensures ∙ back c.args.table.now long
