use Rattle.std.proofs.Common.{subst, sym, List, ℤ, ◌≡◌}
use Rattle.std.specs.Prelude.{slice_index, All, ◌≤ℤ◌, negsuc}
use Rattle.jpg_spec_move.specs.Transforms.{opposite}
use Rattle.jpg_coefs.specs.Picture.{map_of}
use Rattle.jpg_transform.proofs.Viewed.{real_at}
use Rattle.jpg_transform.proofs.moved.Moved.turned.Goals as goal

-- a value above the least
above : (f : List ℤ) (block : List ℤ) → block ≡ f → All (λ v. negsuc 32766 ≤ℤ v) f → All (λ v. negsuc 32766 ≤ℤ v) block
above f block e h = subst (λ (b : List ℤ). All (λ v. negsuc 32766 ≤ℤ v) b) (sym e) h

pub source-requires : goal.source-requires
source-requires c =
    let m = c.args.self.now in
    let i = c.args.component in
    real_at m.picture.now.frame i (opposite (slice_index m.rows i) c.args.y) (opposite (slice_index m.columns i) c.args.x) c.opposite-row.result c.opposite-column.result
    c.opposite-row.ensures c.opposite-column.ensures ((m.reaches.places i c.args.x c.args.y c.requires).turned c.if-self.true)

pub source-requires-else-self : goal.source-requires-else-self
source-requires-else-self c =
    let m = c.args.self.now in
    let i = c.args.component in
    real_at m.picture.now.frame i (opposite (slice_index m.columns i) c.args.x) (opposite (slice_index m.rows i) c.args.y) c.opposite-column.result c.opposite-row.result
    c.opposite-column.ensures c.opposite-row.ensures ((m.reaches.places i c.args.x c.args.y c.requires).plain c.if-self.false)

pub signed_over-requires : goal.signed_over-requires
signed_over-requires c =
    let m = c.args.self.now in
    let i = c.args.component in
    above (map_of m.picture.now.coefs i c.opposite-row.result c.opposite-column.result) c.source.result c.source.ensures
    (c.checked.ensures.above i c.opposite-row.result c.opposite-column.result
    (real_at m.picture.now.frame i (opposite (slice_index m.rows i) c.args.y) (opposite (slice_index m.columns i) c.args.x) c.opposite-row.result c.opposite-column.result
    c.opposite-row.ensures c.opposite-column.ensures ((m.reaches.places i c.args.x c.args.y c.requires).turned c.if-self.true)))

pub signed-requires : goal.signed-requires
signed-requires c =
    let m = c.args.self.now in
    let i = c.args.component in
    above (map_of m.picture.now.coefs i c.opposite-column.result c.opposite-row.result) c.source-else-self.result c.source-else-self.ensures
    (c.checked.ensures.above i c.opposite-column.result c.opposite-row.result
    (real_at m.picture.now.frame i (opposite (slice_index m.columns i) c.args.x) (opposite (slice_index m.rows i) c.args.y) c.opposite-column.result c.opposite-row.result
    c.opposite-column.ensures c.opposite-row.ensures ((m.reaches.places i c.args.x c.args.y c.requires).plain c.if-self.false)))
