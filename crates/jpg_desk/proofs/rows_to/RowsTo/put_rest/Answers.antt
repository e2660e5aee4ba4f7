use Rattle.std.proofs.Common.{subst, sym}
use Rattle.std.specs.Prelude.{OnOk}
use Rattle.jpg_desk.specs.RowsTo.{CanEndRows, EndsRows}
use Rattle.jpg_desk.specs.declared.rows_to.RowsTo.{RowsTo}
use Rattle.jpg_desk.specs.declared.rows_to.RowsTo.TheVariants as to
use Rattle.jpg_desk.proofs.RowsTo.{all_there, ends_kept, ends_moved, moves_next, moves_rest, none_missing, on_ok}
use Rattle.jpg_desk.proofs.rows_to.RowsTo.put_rest.Goals as goal

pub returns-then-is_whole : goal.returns-then-is_whole
returns-then-is_whole c =
    let m = c.in-Moved in
    subst (λ (r : RowsTo). EndsRows r c.args.row.now (to.Moved m.job m.scan m.mover)) (sym m.is) (none_missing m.job m.scan c.is_whole.ensures c.if-is_whole.true)

pub put-requires : goal.put-requires
put-requires c =
    let r = c.requires in
    moves_next c.in-Moved.job c.in-Moved.scan (subst (λ (s : RowsTo). CanEndRows r.0 r.1 r.2 c.args.row.now s) c.in-Moved.is r.3) c.is_whole.ensures c.if-is_whole.false

pub put_zeros-requires : goal.put_zeros-requires
put_zeros-requires c =
    let r = c.requires in
    let m = c.in-Moved in
    moves_rest m.job m.scan (subst (λ (s : RowsTo). CanEndRows r.0 r.1 r.2 c.args.row.now s) m.is r.3) c.is_whole.ensures c.if-is_whole.false c.in_ok-put-in-Moved.ensures

pub returns-in_ok-put-in-Moved : goal.returns-in_ok-put-in-Moved
returns-in_ok-put-in-Moved c =
    let m = c.in-Moved in
    subst (λ (r : RowsTo). OnOk c.put_zeros.result (EndsRows r c.args.row.now (to.Moved m.job m.scan c.put_zeros.new.self))) (sym m.is)
    (on_ok c.put_zeros.result (λ ends. ends_moved m.job m.scan c.is_whole.ensures c.if-is_whole.false c.in_ok-put-in-Moved.ensures ends) c.put_zeros.ensures)

pub returns-then-not-is_whole : goal.returns-then-not-is_whole
returns-then-not-is_whole c =
    subst (λ (r : RowsTo). EndsRows r c.args.row.now (to.Kept c.put-then-not-is_whole.new.self)) (sym c.in-Kept.is) (ends_kept c.is_whole-in-Kept.ensures c.if-not-is_whole.true c.put-then-not-is_whole.ensures)

pub returns-else-not-is_whole : goal.returns-else-not-is_whole
returns-else-not-is_whole c = subst (λ (r : RowsTo). EndsRows r c.args.row.now (to.Kept c.in-Kept.picture)) (sym c.in-Kept.is) (all_there c.is_whole-in-Kept.ensures c.if-not-is_whole.false)
