use Rattle.std.proofs.Common.{◌≡◌, ◌+◌, ◌*◌, ℕ, arith, subst, ap, sym}
use Rattle.jpg_spec.specs.Geometry.{Frame}
use Rattle.jpg_base.specs.Cursor.{IsPadded}
use Rattle.jpg_coefs.specs.Copied.{CopiesBlocks, in_grid_row}
use Rattle.jpg_seq.specs.Reader.{rows_in_mcu}
use Rattle.jpg_desk.specs.RowsKept.{in_first_lines, line_blocks, row_blocks}
use Rattle.jpg_desk.proofs.RowsKept.{lines_more, lines_of, no_lines}
use Rattle.jpg_desk.proofs.row_picture.put_part.Goals as goal

pub overflow_mul-top : goal.overflow_mul-top
overflow_mul-top c =
    let has = lines_of c.requires.next c.frame.ensures c.requires.there (ap (λ g. g.high) c.blocks-high.ensures.value) in
    record { fits = omega (arith, has.few) }

pub overflow_add-top : goal.overflow_add-top
overflow_add-top c =
    let has = lines_of c.requires.next c.frame.ensures c.requires.there (ap (λ g. g.high) c.blocks-high.ensures.value) in
    record { fits = omega (arith, has.few, c.loop-y-test.true) }

pub put_line-requires-clause-to : goal.put_line-requires-clause-to
put_line-requires-clause-to c =
    let has = lines_of c.requires.next c.frame.ensures c.requires.there (ap (λ g. g.high) c.blocks-high.ensures.value) in
    subst (λ (h : Frame). IsPadded h c.args.i 0 (c.args.k * c.blocks-high.result.high + c.loop-y.y)) (sym (c.loop-y.invariant).frame)
    (record { component = c.requires.there; across = has.across; down = omega (arith, has.inside, c.loop-y-test.true) })

pub loop-y-init : goal.loop-y-init
loop-y-init c = no_lines c.args.coefs.now.frame c.args.k c.args.i (row_blocks c.args.coefs.now.frame c.args.k c.args.row.now) c.args.coefs.now

pub loop-y-preserved : goal.loop-y-preserved
loop-y-preserved c =
    let f = c.args.coefs.now.frame in
    let k = c.args.k in
    let i = c.args.i in
    let y = c.loop-y.y in
    let high = c.blocks-high.result.high in
    let new = c.put_line.new.coefs in
    let has = lines_of c.requires.next c.frame.ensures c.requires.there (ap (λ g. g.high) c.blocks-high.ensures.value) in
    let put = subst (λ (h : Frame). CopiesBlocks (in_grid_row h i (k * high + y)) (line_blocks c.args.row.now y) c.loop-y.coefs new) (c.loop-y.invariant).frame c.put_line.ensures in
    lines_more f k i y c.args.row.now c.args.coefs.now c.loop-y.coefs new c.loop-y.invariant
    (subst (λ (n : ℕ). CopiesBlocks (in_grid_row f i (k * n + y)) (line_blocks c.args.row.now y) c.loop-y.coefs new) has.rows put)

pub returns : goal.returns
returns c =
    let f = c.args.coefs.now.frame in
    let i = c.args.i in
    let has = lines_of c.requires.next c.frame.ensures c.requires.there (ap (λ g. g.high) c.blocks-high.ensures.value) in
    let all : c.loop-y.y ≡ rows_in_mcu f i = omega (arith, has.rows) in
    subst (λ (n : ℕ). CopiesBlocks (in_first_lines f c.args.k i n) (row_blocks f c.args.k c.args.row.now) c.args.coefs.now c.loop-y.coefs) all c.loop-y.invariant
