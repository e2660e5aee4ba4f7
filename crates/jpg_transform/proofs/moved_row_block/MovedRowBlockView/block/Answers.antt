use Rattle.std.proofs.Common.{◌≡◌, ◌%◌, ◌∙◌, false, ap, sym, subst, arith, ℕ}
use Rattle.std.specs.Prelude.{nat_lt, slice_index}
use Rattle.std.proofs.lemmas.Bool.Decides.{nat_tests}
use Rattle.jpg_spec_move.specs.Transforms.{opposite, signed}
use Rattle.jpg_base.specs.Cursor.{IsPadded}
use Rattle.jpg_coefs.specs.Picture.{map_of}
use Rattle.jpg_transform.proofs.Viewed.{stays}
use Rattle.jpg_transform.proofs.moved_row_block.MovedRowBlockView.block.Goals as goal

pub source-requires-clause-few : goal.source-requires-clause-few
source-requires-clause-few c = omega (arith, c.requires.component, c.args.self.now.reaches.few)

pub source-requires-clause-some : goal.source-requires-clause-some
source-requires-clause-some c = c.args.self.now.reaches.some c.args.component c.requires.component

pub source-requires-clause-there : goal.source-requires-clause-there
source-requires-clause-there c =
    let m = c.args.self.now in
    let i = c.args.component in
    let columns = slice_index m.columns.now i in
    subst (λ (a : ℕ). IsPadded m.row.now.frame i a (c.args.y % slice_index m.rows.now i)) (sym (stays columns c.args.x (omega (arith, c.if-x-self.false)))) (m.reaches.places i c.args.x c.args.y c.requires)

pub returns : goal.returns
returns c =
    let m = c.args.self.now in
    let i = c.args.component in
    let columns = slice_index m.columns.now i in
    let row = c.args.y % slice_index m.rows.now i in
    let plain : nat_lt c.args.x columns ≡ false = grind (arith, nat_tests, c.if-x-self.false) in
    c.source.ensures ∙ ap (λ (a : ℕ). map_of m.row.now i a row) (stays columns c.args.x (omega (arith, c.if-x-self.false)))
    ∙ sym (ap (λ b. signed b false (map_of m.row.now i (opposite columns c.args.x) row)) plain)
