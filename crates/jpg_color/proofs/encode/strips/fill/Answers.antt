use Rattle.std.proofs.Common.{◌≡◌, ◌∙◌, ◌*◌, ◌<◌, ℕ, List, length, ap, arith, subst, sym}
use Rattle.std.specs.Vec.{with_items}
use Rattle.std.proofs.lemmas.List.{with_items_is}
use Rattle.jpg_spec.specs.Geometry.{v_max}
use Rattle.jpg_color.specs.EncodeBlocks.{AreWindows, HasStripRows, window_at}
use Rattle.jpg_color.specs.declared.encode.strips.Strip.{Strip}
use Rattle.jpg_color.specs.declared.encode.strips.Windows.{Windows}
use Rattle.jpg_color.proofs.McuSources.{by_three}
use Rattle.jpg_color.proofs.encode.strips.fill.Goals as goal

-- the room for the rows of component i
room : (s : Strip) (w : Windows) (i : ℕ) (rows : List ℕ) → AreWindows s.frame.now w → i < length s.frame.now.components → rows ≡ window_at w i
    → s.info.now.width ≡ s.frame.now.width → length rows ≡ 8 * v_max s.frame.now * s.info.now.width
room s w i rows are there same wide = ap length same ∙ are i there ∙ ap (λ n. 8 * v_max s.frame.now * n) (sym wide)

pub put_rows-requires-clause-room : goal.put_rows-requires-clause-room
put_rows-requires-clause-room c =
    room c.args.strip.now c.args.windows.now 0 c.deref_mut.result.now c.requires.windows (omega (arith, c.count.ensures.low, c.count.ensures.value)) c.deref_mut.ensures.value
    c.requires.strip.wide

pub put_colour_rows-requires-clause-luminance : goal.put_colour_rows-requires-clause-luminance
put_colour_rows-requires-clause-luminance c =
    let three = (c.requires.strip.colours (omega (arith, c.count.ensures.low, c.count.ensures.value, c.if-count-eq1.false))).0 in
    room c.args.strip.now c.args.windows.now 0 c.deref_mut-else-count-eq1.result.now c.requires.windows (omega (arith, three)) c.deref_mut-else-count-eq1.ensures.value
    c.requires.strip.wide

pub put_colour_rows-requires-clause-blue : goal.put_colour_rows-requires-clause-blue
put_colour_rows-requires-clause-blue c =
    let three = (c.requires.strip.colours (omega (arith, c.count.ensures.low, c.count.ensures.value, c.if-count-eq1.false))).0 in
    room c.args.strip.now c.args.windows.now 1 c.deref_mut-else-count-eq1-2.result.now c.requires.windows (omega (arith, three)) c.deref_mut-else-count-eq1-2.ensures.value
    c.requires.strip.wide

pub put_colour_rows-requires-clause-red : goal.put_colour_rows-requires-clause-red
put_colour_rows-requires-clause-red c =
    let three = (c.requires.strip.colours (omega (arith, c.count.ensures.low, c.count.ensures.value, c.if-count-eq1.false))).0 in
    room c.args.strip.now c.args.windows.now 2 c.deref_mut-else-count-eq1-3.result.now c.requires.windows (omega (arith, three)) c.deref_mut-else-count-eq1-3.ensures.value
    c.requires.strip.wide

pub returns-else-count-eq1-clause-rows : goal.returns-else-count-eq1-clause-rows
returns-else-count-eq1-clause-rows c = λ i there.
    (let s = c.args.strip.now in
    let made = c.put_colour_rows in
    let of : (k : ℕ) (rows kept : List ℕ) → kept ≡ rows → HasStripRows s k rows → HasStripRows s k kept =
    λ k rows kept same has. subst (λ (r : List ℕ). HasStripRows s k r) (sym same) has in
    let w = c.args.windows.now in
    let ys : (with_items w.ys made.new.ys).items ≡ made.new.ys = with_items_is w.ys made.new.ys (made.ensures.luminance.0 ∙ c.deref_mut-else-count-eq1.ensures.len) in
    let cbs : (with_items w.cbs made.new.cbs).items ≡ made.new.cbs = with_items_is w.cbs made.new.cbs (made.ensures.blue.0 ∙ c.deref_mut-else-count-eq1-2.ensures.len) in
    let crs : (with_items w.crs made.new.crs).items ≡ made.new.crs = with_items_is w.crs made.new.crs (made.ensures.red.0 ∙ c.deref_mut-else-count-eq1-3.ensures.len) in
    by_three (λ k rows. HasStripRows s k rows) (with_items w.ys made.new.ys).items (with_items w.cbs made.new.cbs).items (with_items w.crs made.new.crs).items i
    (omega (arith, there, c.requires.strip.count)) (of 0 made.new.ys _ ys made.ensures.luminance.1) (of 1 made.new.cbs _ cbs made.ensures.blue.1) (of 2 made.new.crs _ crs made.ensures.red.1))
