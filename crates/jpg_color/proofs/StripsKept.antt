-- What strips preserve while MCU rows are decoded and rows are passed.
use Rattle.std.proofs.Common.{◌≡◌, ◌⊎◌, inl, inr, ℕ, zero, suc, ◌+◌, ◌-◌, ◌*◌, ◌<◌, ◌≤◌, min, Bool, true, false, if◌then◌else◌, List, ◌++◌, length, map, take, drop, slice_index_or, subst, refl, sym, ap, ◌∙◌, arith, All}
use Rattle.std.proofs.lemmas.Bool.{cases_lt}
use Rattle.std.proofs.lemmas.List.{length-map, take_all, drop_all, append-nil, get_or_default}
use Rattle.jpg_spec.specs.FileMeaning.{no_blocks}
use Rattle.jpg_spec.specs.Scan.{Blocks}
use Rattle.jpg_spec_image.specs.Upsampling.{Stretch}
use Rattle.jpg_spec_image.specs.Pixels.{samples_across, samples_down, plane_row, stretch_of, upsampled, shows_gray, colour_row}
use Rattle.jpg_spec_image.specs.Strips.{known_rows, first_kept, rows_from}
use Rattle.jpg_spec.specs.declared.frame.Colour.{Colour}
use Rattle.jpg_coefs.specs.Picture.{Picture}
use Rattle.jpg_color.specs.KeptRows.{KeptRows}
use Rattle.jpg_color.specs.PartState.{PartState, CanFill, CanDraw, no_drawn_part, filled, drawn}
use Rattle.jpg_color.specs.Shown.{ShownState, RepresentsPicture, AreMcuRow, IsNextRowDue, IsPushed, IsGiven, picture_of, parts, all_rows, rows_in, rows_made_ready, row_of_blocks, held_rows}
use Rattle.jpg_color.specs.StripsState.{AreWide, HasMcuRow, coloured, line_at, part_at, start_of}
use Rattle.jpg_color.proofs.HeldRows.{pushed_stands, held_same, given_stands, long_from, pushed_rows}
use Rattle.jpg_color.proofs.Products.{wide_enough}
use Rattle.jpg_color.proofs.PartsShown.{AreKept, PartOf, Strips, all_draw, all_fill, at_map, drawn_line, filled_rows, filled_strips, held_at, shown, there}
use Rattle.jpg_color.proofs.Extended.{extended, goes_on, stands_on}

-- a list written over another one of its length
written : {X : Type 0} (n : ℕ) (xs ys : List X) → length xs ≡ n → length ys ≡ n → take n (ys ++ drop (length ys) xs) ≡ ys
written {X = X} n xs ys ex ey =
    ap (λ (zs : List X). take n (ys ++ zs)) (drop_all (length ys) xs (omega (arith, ex, ey)))
    ∙ ap (take n) (append-nil ys)
    ∙ take_all n ys (omega (arith, ey))

pub parts_written : {n : ℕ} (f : PartState → PartState) {ps lent new : List PartState} → n ≡ length ps → lent ≡ ps → new ≡ map f lent
    → take n (new ++ drop (length new) ps) ≡ map f ps
parts_written {n} f {ps} {new = new} long same is =
    let e : new ≡ map f ps = is ∙ ap (map f) same in
    written n ps new (sym long) (ap length e ∙ length-map ps f ∙ sym long) ∙ e

pub row_written : {n : ℕ} {old lent : List ℕ} (new : List ℕ) → n ≡ length old → lent ≡ old → length new ≡ length lent → take n (new ++ drop (length new) old) ≡ new
row_written {n} {old} new long same e = written n old new (sym long) (e ∙ ap length same ∙ sym long)

-- the parts are still those of the picture
part_kept : {t : Strips} {i : ℕ} (f : PartState → PartState) → AreKept t → i < parts t.display
    → ((p : PartState) → PartOf t.display i p → PartOf t.display i (f p)) → PartOf t.display i (part_at (map f t.parts) i)
part_kept {t} {i} f k h keeps =
    subst (PartOf t.display i) (sym (at_map f t.parts i (there k h))) (keeps (part_at t.parts i) (k.parts i h))

-- ONE MORE MCU ROW

pub can_fill : {t : Strips} {whole : Bool} {q : Picture} {s : ShownState} → AreKept t → shown t ≡ s → IsNextRowDue s → HasMcuRow s whole q
    → All (CanFill q whole t.pushed) t.parts
can_fill {whole = whole} {q} k e due blocks = all_fill k (subst IsNextRowDue (sym e) due) (subst (λ x. HasMcuRow x whole q) (sym e) blocks)

stands_more : {t : Strips} (whole : Bool) (q : Picture) (blocks : Blocks) → AreKept t → IsNextRowDue (shown t) → RepresentsPicture (shown t) blocks
    → AreMcuRow t.display t.pushed (start_of whole (shown t)) q blocks → RepresentsPicture (shown (filled_strips q whole t)) blocks
stands_more {t} whole q blocks k due stands mcu =
    let d = t.display in
    let first = start_of whole (shown t) in
    held_same (picture_of d blocks) (parts d) d.smooth (all_rows d) (t.pushed + 1) t.given (λ i. pushed_rows d i t.pushed first q (held_rows (shown t) i))
    (held_rows (shown (filled_strips q whole t))) (λ (i : ℕ) (h : i < parts d). filled_rows i whole q k h)
    (pushed_stands (shown t) first q blocks k.showable due mcu stands)

pub kept_more : {t : Strips} {new : List PartState} {s : ShownState} (whole : Bool) (q : Picture) → AreKept t → shown t ≡ s → IsNextRowDue s
    → new ≡ map (filled q whole t.pushed) t.parts → AreKept (record t { pushed = t.pushed + 1; parts = new })
kept_more {t} whole q k e due is =
    let d = t.display in
    let due' : IsNextRowDue (shown t) = subst IsNextRowDue (sym e) due in
    let first : ℕ → ℕ = start_of whole (shown t) in
    let old : (blocks : Blocks) × RepresentsPicture (shown t) blocks = k.stands in
    let more : Blocks = extended d t.pushed first q old.0 in
    subst (λ (ns : List PartState). AreKept (record t { pushed = t.pushed + 1; parts = ns })) (sym is) (record {
      showable = k.showable;
      all = k.all;
      few = k.few;
      lines = k.lines;
      short = k.short;
      waits = k.waits;
      count = length-map t.parts (filled q whole t.pushed) ∙ k.count;
      parts = λ (i : ℕ) (h : i < parts d). part_kept (filled q whole t.pushed) k h (λ p (is : PartOf d i p).
          record { component = is.component; stretch = is.stretch; rows = is.rows; quants = is.quants; wide = is.wide });
      last = k.last;
      stands = (
        more,
        stands_more whole q more k due' (stands_on (shown t) first q old.0 k.showable old.1) (goes_on d t.pushed first q old.0 k.showable),
      );
    })

pub pushed : {t : Strips} {new : List PartState} {s : ShownState} (whole : Bool) (q : Picture) → AreKept t → shown t ≡ s → IsNextRowDue s
    → new ≡ map (filled q whole t.pushed) t.parts → IsPushed s (start_of whole s) q (shown (record t { pushed = t.pushed + 1; parts = new }))
pushed {t} {new} whole q k e due is =
    let due' : IsNextRowDue (shown t) = subst IsNextRowDue (sym e) due in
    let after : List PartState → ShownState = λ ns. shown (record t { pushed = t.pushed + 1; parts = ns }) in
    subst (λ x. IsPushed x (start_of whole x) q (after new)) e
    (subst (λ (ns : List PartState). IsPushed (shown t) (start_of whole (shown t)) q (after ns)) (sym is) (record {
      display = refl;
      pushed = refl;
      given = refl;
      stands = λ (blocks : Blocks) (stands : RepresentsPicture (shown t) blocks) (mcu : AreMcuRow t.display t.pushed (start_of whole (shown t)) q blocks).
          stands_more whole q blocks k due' stands mcu;
    }))

-- ONE MORE ROW

pub is_due : {t : Strips} {s : ShownState} {ready : ℕ} → AreKept t → shown t ≡ s → ready ≡ rows_made_ready s.display s.pushed → s.given ≤ ready
    → (t.given ≡ ready → ⊥) → t.given < rows_made_ready t.display t.pushed
is_due {t} {ready = ready} k e is low other =
    let own : ready ≡ rows_made_ready t.display t.pushed = subst (λ x. ready ≡ rows_made_ready x.display x.pushed) (sym e) is in
    let le : t.given ≤ ready = subst (λ x. x.given ≤ ready) (sym e) low in
    subst (λ n. t.given < n) own (less t.given ready le other)
  where
    less : (a b : ℕ) → a ≤ b → (a ≡ b → ⊥) → a < b
    less a b le other = by (cases_lt a b)
      where
        by : (a < b) ⊎ (b ≤ a) → a < b
        by (inl l) = l
        by (inr m) = absurd (other (omega (arith, le, m)))

pub can_draw : {t : Strips} → AreKept t → t.given < rows_made_ready t.display t.pushed → All (CanDraw t.given t.pushed) t.parts
can_draw {t} k lt =
    let old : (blocks : Blocks) × RepresentsPicture (shown t) blocks = k.stands in
    all_draw old.0 k old.1 lt

pub drawn_wide : {t : Strips} {new : List PartState} → AreKept t → new ≡ map (drawn t.given t.pushed) t.parts
    → AreWide t.display.colour t.display.gray t.display.frame.width new
drawn_wide {t} k is =
    let d = t.display in
    let f = drawn t.given t.pushed in
    subst (AreWide d.colour d.gray d.frame.width) (sym is) (record {
      count = length-map t.parts f ∙ k.count;
      wide = λ (i : ℕ) (lt : i < length (map f t.parts)).
          (let in_parts : i < length t.parts = subst (λ n. i < n) (length-map t.parts f) lt in
          let h : i < parts d = subst (λ n. i < n) k.count in_parts in
          let part = k.parts i h in
          let same : (part_at (map f t.parts) i).stretch ≡ stretch_of (picture_of d no_blocks) d.smooth i = ap (λ (p : PartState). p.stretch) (at_map f t.parts i in_parts) ∙ part.stretch in
          subst (λ (s : Stretch). d.frame.width ≤ s.across * s.wide) (sym same)
          (turned d.frame.width (samples_across (picture_of d no_blocks) i) (stretch_of (picture_of d no_blocks) d.smooth i).across (wide_enough d no_blocks i k.showable h)));
    })
  where
    turned : (w a b : ℕ) → w ≤ a * b → w ≤ b * a
    turned w a b le = let e : a * b ≡ b * a = grind arith in omega (arith, le, e)

by_gray : (b : Bool) (colour : Colour) (x y z x' y' z' : List ℕ) → x ≡ x' → (b ≡ false → y ≡ y') → (b ≡ false → z ≡ z')
    → (if b then x else colour_row colour x y z) ≡ (if b then x' else colour_row colour x' y' z')
by_gray true colour x y z x' y' z' ex ey ez = ex
by_gray false colour x y z x' y' z' ex ey ez =
    ap (λ (r : List ℕ). colour_row colour r y z) ex ∙ ap (λ (r : List ℕ). colour_row colour x' r z) (ey refl) ∙ ap (λ (r : List ℕ). colour_row colour x' y' r) (ez refl)

some_part : (b : Bool) → 0 < (if b then 1 else 3)
some_part true = omega arith
some_part false = omega arith

three_parts : (b : Bool) (i : ℕ) → i < 3 → b ≡ false → i < (if b then 1 else 3)
three_parts b i lt e = subst (λ c. i < (if c then 1 else 3)) (sym e) lt

row_drawn : {t : Strips} (blocks : Blocks) → AreKept t → t.given < rows_made_ready t.display t.pushed → RepresentsPicture (shown t) blocks
    → coloured t.display.colour t.display.gray t.display.frame.width (map (drawn t.given t.pushed) t.parts) ≡ row_of_blocks t.display blocks t.given
row_drawn {t} blocks k early stands =
    let d = t.display in
    let new : List PartState = map (drawn t.given t.pushed) t.parts in
    let row = λ (i : ℕ). upsampled (picture_of d blocks) d.smooth i t.given in
    let line : (i : ℕ) → i < parts d → line_at d.frame.width new i ≡ row i =
    λ (i : ℕ) (h : i < parts d). ap (take d.frame.width) (drawn_line blocks i k stands early h) in
    let grays = shows_gray d.colour d.gray in
    by_gray grays d.colour (line_at d.frame.width new 0) (line_at d.frame.width new 1) (line_at d.frame.width new 2) (row 0) (row 1) (row 2)
    (line 0 (some_part grays))
    (λ (e : grays ≡ false). line 1 (three_parts grays 1 (omega arith) e))
    (λ (e : grays ≡ false). line 2 (three_parts grays 2 (omega arith) e))

-- the strips after a row
abbrev given_strips : Strips → List PartState → List ℕ → Strips
given_strips t parts last = record t { given = t.given + 1; parts = parts; last = last }

stands_given : {t : Strips} (last : List ℕ) (blocks : Blocks) → AreKept t → t.given < rows_made_ready t.display t.pushed → RepresentsPicture (shown t) blocks
    → RepresentsPicture (shown (given_strips t (map (drawn t.given t.pushed) t.parts) last)) blocks
stands_given {t} last blocks k early stands =
    let d = t.display in
    let new = map (drawn t.given t.pushed) t.parts in
    held_same (picture_of d blocks) (parts d) d.smooth (all_rows d) t.pushed (t.given + 1) (held_rows (shown t)) (held_rows (shown (given_strips t new last)))
    (λ (i : ℕ) (h : i < parts d).
    held_at new i
    ∙ ap (λ (p : PartState). p.kept.rows) (at_map (drawn t.given t.pushed) t.parts i (there k h))
    ∙ sym (held_at t.parts i))
    (given_stands (shown t) blocks stands early)

pub kept_given : {t : Strips} {new : List PartState} {last : List ℕ} → AreKept t → t.given < rows_made_ready t.display t.pushed
    → new ≡ map (drawn t.given t.pushed) t.parts → length last ≡ length t.last → AreKept (record t { given = t.given + 1; parts = new; last = last })
kept_given {t} {last = last} k early is long =
    let d = t.display in
    let old : (blocks : Blocks) × RepresentsPicture (shown t) blocks = k.stands in
    subst (λ (ns : List PartState). AreKept (given_strips t ns last)) (sym is) (record {
      showable = k.showable;
      all = k.all;
      few = k.few;
      lines = k.lines;
      short = k.short;
      waits = k.waits;
      count = length-map t.parts (drawn t.given t.pushed) ∙ k.count;
      parts = λ (i : ℕ) (h : i < parts d). part_kept (drawn t.given t.pushed) k h (λ p (is : PartOf d i p).
          record { component = is.component; stretch = is.stretch; rows = is.rows; quants = is.quants; wide = is.wide });
      last = long ∙ k.last;
      stands = (old.0, stands_given last old.0 k early old.1);
    })

pub given : {t : Strips} {new : List PartState} {last : List ℕ} {s : ShownState} → AreKept t → shown t ≡ s → t.given < rows_made_ready t.display t.pushed
    → new ≡ map (drawn t.given t.pushed) t.parts → length last ≡ length t.last → last ≡ coloured t.display.colour t.display.gray t.display.frame.width new
    → IsGiven s last (shown (record t { given = t.given + 1; parts = new; last = last }))
given {t} {new} {last} k e early is long made =
    let d = t.display in
    subst (λ x. IsGiven x last (shown (given_strips t new last))) e
    (subst (λ (ns : List PartState). IsGiven (shown t) last (shown (given_strips t ns last))) (sym is) (record {
      early = early;
      long = long ∙ k.last;
      display = refl;
      pushed = refl;
      given = refl;
      last = refl;
      value = λ (blocks : Blocks) (stands : RepresentsPicture (shown t) blocks).
          made ∙ ap (coloured d.colour d.gray d.frame.width) is ∙ row_drawn blocks k early stands;
      stands = λ (blocks : Blocks) (stands : RepresentsPicture (shown t) blocks). stands_given last blocks k early stands;
    }))

-- FEW ROWS are kept

held_least : (r m high : ℕ) → min (8 * r * m) high - (8 * r * (m - 1) - 1) ≤ 8 * r + 1
held_least r zero high = (let z : 8 * r * 0 ≡ 0 = grind arith in omega (arith, z))
held_least r (suc m) high =
    let e : suc m - 1 ≡ m = omega arith in
    let a : 8 * r * (suc m - 1) ≡ 8 * r * m = ap (λ n. 8 * r * n) e in
    let b : 8 * r * suc m ≡ 8 * r * m + 8 * r = grind arith in
    omega (arith, a, b)

pub held_few : {t : Strips} {s : ShownState} {i : ℕ} {p : PartState} {kept : KeptRows} → AreKept t → shown t ≡ s → i < parts s.display
    → p ≡ slice_index_or t.parts i p → kept ≡ p.kept → length kept.rows ≤ 8 * rows_in s.display i + 1
held_few {t} {s} {i} {p} {kept} k e lt is same =
    let d = t.display in
    let m = t.pushed in
    let h : i < parts d = subst (λ x. i < parts x.display) (sym e) lt in
    let old : (blocks : Blocks) × RepresentsPicture (shown t) blocks = k.stands in
    let stands : RepresentsPicture (shown t) old.0 = old.1 in
    let M = picture_of d old.0 in
    let f = first_kept M i m in
    let here : p ≡ part_at t.parts i = is ∙ get_or_default t.parts i p no_drawn_part (there k h) in
    let rows : kept.rows ≡ rows_from (plane_row M i) f (known_rows M i m - f) =
    ap (λ (x : KeptRows). x.rows) same ∙ ap (λ (x : PartState). x.kept.rows) here ∙ sym (held_at t.parts i) ∙ stands.rows i h in
    let long : length kept.rows ≡ known_rows M i m - f = ap length rows ∙ long_from (plane_row M i) f (known_rows M i m - f) in
    subst (λ x. length kept.rows ≤ 8 * rows_in x.display i + 1) e
    (subst (λ n. n ≤ 8 * rows_in d i + 1) (sym long) (held_least (rows_in d i) m (samples_down M i)))
