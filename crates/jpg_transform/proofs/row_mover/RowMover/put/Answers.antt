use Rattle.std.proofs.Common.{refl, sym, subst}
use Rattle.jpg_spec.specs.Geometry.{Frame}
use Rattle.jpg_transform.specs.Places.{HasRowSources}
use Rattle.jpg_transform.proofs.RowsMoved.{count_in, moved_row, on_ok, one_put, puts_some, sources}
use Rattle.jpg_transform.proofs.row_mover.RowMover.put.Goals as goal

pub invariant_of-view : goal.invariant_of-view
invariant_of-view c =
    let r = c.args.self.now in
    let can = c.requires.3 in
    let has = can.has in
    record {
      reaches = subst (λ (g : Frame). HasRowSources c.args.row.now g r.columns r.rows) (sym has.frame)
          (sources has.scan can.lends r.columns r.rows has.columns has.rows (λ i h. count_in i has.scan h));
    }

pub put-requires-clause-some : goal.put-requires-clause-some
put-requires-clause-some c = puts_some c.requires.3 c.next_units-count.result c.next_units-count.ensures

pub put-requires-clause-can : goal.put-requires-clause-can
put-requires-clause-can c = one_put c.requires.3 c.next_units-count.result c.next_units-count.ensures

pub returns : goal.returns
returns c = on_ok c.put.result (λ puts left. (λ w k blocks can. moved_row can c.next_units-count.result c.next_units-count.ensures _ refl refl refl refl puts left)) c.put.ensures.puts c.put.ensures.left
