use Rattle.std.proofs.Common.{◌≡◌, ◌<◌, ◌≤◌, ◌*◌, ◌/◌, ◌%◌, ℕ, sym, ap, ◌∙◌, subst}
use Rattle.jpg_spec.specs.Geometry.{blocks_across, component_at}
use Rattle.jpg_base.specs.declared.cursor.CursorPart.{CursorPart}
use Rattle.jpg_base.specs.Cursor.{spot_of}
use Rattle.jpg_base.proofs.UnitCounts.{single_below, single_unit}
use Rattle.jpg_base.proofs.frame.Frame.single_block.Goals as goal

pub quotient-y-requires-clause-below : goal.quotient-y-requires-clause-below
quotient-y-requires-clause-below c =
    subst (λ (p : CursorPart). c.args.unit < p.high * p.wide) (sym c.lone_part-part.ensures.value) (single_below c.args.self.now c.args.i c.args.unit c.requires.unit)

pub returns : goal.returns
returns c = λ d.
    let f = c.args.self.now in let i = c.args.i in let n = c.args.unit in let p = c.lone_part-part.result in let v = c.lone_part-part.ensures.value in
    let some : 1 ≤ blocks_across f (component_at f i) = subst (λ (q : CursorPart). 1 ≤ q.wide) v c.lone_part-part.ensures.wide.0 in
    let x : n % c.from.result ≡ n % p.wide = ap (λ (k : ℕ). n % k) c.from.ensures in
    single_unit f i n d some c.requires.unit
    ∙ sym (c.spot.ensures ∙ ap (λ (k : ℕ). spot_of p k c.quotient-y.result) x ∙ ap (λ (k : ℕ). spot_of p (n % p.wide) k) c.quotient-y.ensures.value
    ∙ ap (λ (q : CursorPart). spot_of q (n % q.wide) (n / q.wide)) v)
