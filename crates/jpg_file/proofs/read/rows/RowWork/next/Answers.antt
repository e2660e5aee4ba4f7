use Rattle.std.proofs.Common.{arith, refl}
use Rattle.jpg_spec.specs.Geometry.{padded_blocks}
use Rattle.jpg_file.specs.declared.read.rows.RowWork.{RowWork}
use Rattle.jpg_file.proofs.ByRow.RowTurns.{next_in, tops_few, turned}
use Rattle.jpg_file.proofs.read.rows.RowWork.next.Goals as goal

pub next_tops-self-requires : goal.next_tops-self-requires
next_tops-self-requires c =
    let o = c.requires in
    tops_few o.0 o.1 o.2 c.args.self.now o.3

pub returns-clause-at : goal.returns-clause-at
returns-clause-at c = next_in c.args.self.now _ (omega (arith, c.if-self-gt0.false)) (omega (arith, c.if-self-eq0.false)) refl refl refl refl c.next_tops-self.ensures

pub returns-clause-of : goal.returns-clause-of
returns-clause-of c =
    let w = c.args.self.now in
    let new : RowWork = record w { coefs = c.clear.new.self; tops = c.next_tops-self.result } in
    turned w new (padded_blocks c.args.self.now.coefs.frame) c.clear.ensures.frame c.clear.ensures.zero c.next_tops-self.ensures
