use Rattle.std.proofs.Common.{◌%◌, ◌∙◌, false, ap, sym, subst, arith, List, ℤ, ℕ}
use Rattle.std.specs.Prelude.{All, ◌≤ℤ◌, negsuc, nat_lt, slice_index}
use Rattle.jpg_spec_move.specs.Transforms.{signed}
use Rattle.jpg_base.specs.Cursor.{IsPadded}
use Rattle.jpg_coefs.specs.Picture.{map_of}
use Rattle.jpg_transform.proofs.moved_row.MovedRow.mirrored.Goals as goal

pub source-requires-clause-few : goal.source-requires-clause-few
source-requires-clause-few c = omega (arith, c.requires.component, c.args.self.now.reaches.few)

pub source-requires-clause-some : goal.source-requires-clause-some
source-requires-clause-some c = c.args.self.now.reaches.some c.args.component c.requires.component

pub source-requires-clause-there : goal.source-requires-clause-there
source-requires-clause-there c =
    let m = c.args.self.now in
    let i = c.args.component in
    subst (λ (a : ℕ). IsPadded m.row.now.frame i a (c.args.y % slice_index m.rows.now i)) (sym c.opposite.ensures) (m.reaches.places i c.args.x c.args.y c.requires)

pub signed-requires : goal.signed-requires
signed-requires c =
    let m = c.args.self.now in
    let i = c.args.component in
    subst (λ (b : List ℤ). All (λ v. negsuc 32766 ≤ℤ v) b) (sym c.source.ensures) (m.reaches.above i c.opposite.result (c.args.y % slice_index m.rows.now i))

pub returns : goal.returns
returns c =
    let m = c.args.self.now in
    let i = c.args.component in
    let columns = slice_index m.columns.now i in
    c.signed.ensures ∙ ap (λ (b : List ℤ). signed (nat_lt c.args.x columns) false b) (c.source.ensures ∙ ap (λ (a : ℕ). map_of m.row.now i a (c.args.y % slice_index m.rows.now i)) c.opposite.ensures)
