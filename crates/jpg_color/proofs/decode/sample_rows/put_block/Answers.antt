use Rattle.std.proofs.Common.{rules, ◌≡◌, ℕ, List, subst, sym}
use Rattle.jpg_color.specs.RowBytes.{PutsBlock}
use Rattle.jpg_color.proofs.decode.sample_rows.put_block.Goals as goal

pub returns-then-place-eq8 : goal.returns-then-place-eq8
returns-then-place-eq8 c =
    let e : c.args.place.rows ≡ 8 = search rules in
    let old = c.args.samples.now in
    let new = c.put_whole.new.samples in
    subst (λ (block : List ℕ). PutsBlock c.args.place.line c.args.place.row c.args.place.column c.args.place.rows block old new) c.as_array-bytes.ensures
    (subst (λ n. PutsBlock c.args.place.line c.args.place.row c.args.place.column n c.as_array-bytes.result.now old new) (sym e) c.put_whole.ensures)

pub returns-else-place-eq8 : goal.returns-else-place-eq8
returns-else-place-eq8 c =
    subst (λ (block : List ℕ). PutsBlock c.args.place.line c.args.place.row c.args.place.column c.args.place.rows block c.args.samples.now c.put_some.new.samples) c.as_array-bytes.ensures c.put_some.ensures
