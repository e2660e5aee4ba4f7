-- Rows of bytes written block by block, and the lists of rows that they are then.
use Rattle.std.proofs.Common.{◌≡◌, ℕ, zero, suc, ◌+◌, ◌-◌, ◌*◌, ◌<◌, ◌≤◌, ◌⊎◌, inl, inr, Bool, true, false, cond, ◌&&◌, ◌==◌, List, [], ◌∷◌, ◌++◌, length, take, drop, map, get_or, slice_index, ℤ, pos, nat_abs, add-zero, add-suc, refl, sym, ap, ◌∙◌, subst, arith, ⊎_elim}
use Rattle.std.specs.Prelude.{int_le, neg_ℤ, min, slice_index_or}
use Rattle.std.specs.List.{All}
use Rattle.std.proofs.Math.Seq.{drop-append_seam}
use Rattle.std.proofs.lemmas.Bool.{cases_lt}
use Rattle.std.proofs.lemmas.Int.{ints}
use Rattle.std.proofs.lemmas.Grind.{rows}
use Rattle.std.proofs.lemmas.Nat.{mul-add-lt, mul-le}
use Rattle.std.proofs.lemmas.List.{append_assoc, append-nil, map-append, length-map, length-take, length-drop, get_or-take, get_or-drop, get_or-map}
use Rattle.std.proofs.lemmas.List.Elements.{All-from_get_or}
use Rattle.jpg_spec.specs.Lists.{below}
use Rattle.jpg_spec.specs.Geometry.{Frame, bounds, bounds_of}
use Rattle.jpg_spec.specs.Scan.{Blocks}
use Rattle.jpg_spec.specs.Ranges.{AreInRange, is_coefficient}
use Rattle.jpg_spec.proofs.Basics.Common.{both, from_test, length_below}
use Rattle.jpg_spec.proofs.Basics.Rows.{by_items, at_below}
use Rattle.jpg_color.specs.KeptRows.{KeptRows, stride, kept_rows_of, last_row}
use Rattle.jpg_color.specs.RowBytes.{byte_in, PutsBlock, PutsRows}
use Rattle.jpg_spec.proofs.McuRows.RowsWhole.{map_below}

-- a byte of a row is before all rows below
pub row_before : (line r q x : ℕ) → r < q → x < line → r * line + x < q * line
row_before line r q x lt h = grind (arith, rows, mul-add-lt r line x q lt h)

-- ROWS OF A BLOCK, one more

apart : (line row column y r x : ℕ) → 8 * column + 8 ≤ line → x < line → ((r < row) ⊎ (x < 8 * column))
    → (r * line + x < (row + y) * line + 8 * column) ⊎ ((row + y) * line + 8 * column + 8 ≤ r * line + x)
apart line row column y r x fits h (inl lt) = inl (omega (arith, row_before line r (row + y) x (omega (arith, lt)) h))
apart line row column y r x fits h (inr lt) =
    ⊎_elim
    (λ (a : r < row + y). inl (omega (arith, row_before line r (row + y) x a h)))
    (λ (b : row + y ≤ r). ⊎_elim
    (λ (d : row + y < r). inr (omega (arith, row_before line (row + y) r (8 * column + 7) d (omega (arith, fits)))))
    (λ (d : r ≤ row + y). (let e : r ≡ row + y = omega (arith, b, d) in inl (omega (arith, ap (λ t. t * line) e, lt))))
    (cases_lt (row + y) r))
    (cases_lt r (row + y))

pub block_step : (line row column y : ℕ) (block old mid new : List ℕ) → 8 * column + 8 ≤ line → PutsBlock line row column y block old mid → length new ≡ length mid
    → ((x : ℕ) → x < 8 → slice_index new ((row + y) * line + 8 * column + x) ≡ slice_index block (8 * y + x))
    → ((k : ℕ) → ((k < (row + y) * line + 8 * column) ⊎ ((row + y) * line + 8 * column + 8 ≤ k)) → slice_index new k ≡ slice_index mid k)
    → PutsBlock line row column (y + 1) block old new
block_step line row column y block old mid new fits p long here others =
    record {
      long = long ∙ p.long;
      there = λ v x hv hx. ⊎_elim
          (λ (a : v < y). others ((row + v) * line + (8 * column + x)) (inl (omega (arith, row_before line (row + v) (row + y) (8 * column + x) (omega (arith, a)) (omega (arith, fits, hx)))))
          ∙ p.there v x a hx)
          (λ (b : y ≤ v). (let e : v ≡ y = omega (arith, b, hv) in
          let n : (row + y) * line + (8 * column + x) ≡ (row + y) * line + 8 * column + x = omega arith in
          ap (λ t. slice_index new ((row + t) * line + (8 * column + x))) e ∙ ap (slice_index new) n ∙ here x hx ∙ ap (λ t. slice_index block (8 * t + x)) (sym e)))
          (cases_lt v y);
      others = λ r x hx side. others (r * line + x) (apart line row column y r x fits hx side) ∙ p.others r x hx side;
    }

-- A ROW OF BLOCKS, one more block

-- the first rows of the block at column c are put, and have these samples
pub record PutsSamples (line row rows c : ℕ) (sample : ℕ → ℕ → ℕ) (old new : List ℕ) : Type 0 where
  pub block : List ℕ
  pub put : PutsBlock line row c rows block old new
  pub told : (y x : ℕ) → y < rows → x < 8 → slice_index block (8 * y + x) ≡ sample y (8 * c + x)

pub columns_step : {line row rows : ℕ} (c : ℕ) {sample : ℕ → ℕ → ℕ} {old mid new : List ℕ} → 8 * c + 8 ≤ line
    → PutsRows line row rows (8 * c) sample old mid → PutsSamples line row rows c sample mid new → PutsRows line row rows (8 * (c + 1)) sample old new
columns_step {line} {row} {rows} c {sample} {new = new} fits p b =
    record {
      long = b.put.long ∙ p.long;
      there = λ y x hy hx. ⊎_elim
          (λ (a : x < 8 * c). b.put.others (row + y) x (omega (arith, a, fits)) (inr a) ∙ p.there y x hy a)
          (λ (d : 8 * c ≤ x). (let e : x ≡ 8 * c + (x - 8 * c) = omega (arith, d) in
          let low : x - 8 * c < 8 = omega (arith, hx, d) in
          ap (byte_in line new (row + y)) e ∙ b.put.there y (x - 8 * c) hy low ∙ b.told y (x - 8 * c) hy low ∙ ap (sample y) (sym e)))
          (cases_lt x (8 * c));
      above = λ r x hr hx. b.put.others r x hx (inl hr) ∙ p.above r x hr hx;
    }

-- ALL ROWS, those of one more row of blocks

-- the rows below the first b rows of blocks are put, and have these samples
pub record PutsRest (line kept count b : ℕ) (sample : ℕ → ℕ → ℕ) (old new : List ℕ) : Type 0 where
  pub part : ℕ → ℕ → ℕ
  pub put : PutsRows line (kept + 8 * b) (min (count - 8 * b) 8) line part old new
  pub told : (y x : ℕ) → y < 8 → part y x ≡ sample (8 * b + y) x

pub rows_step : {line kept : ℕ} (count b : ℕ) {sample : ℕ → ℕ → ℕ} {old mid new : List ℕ} → PutsRows line kept (min count (8 * b)) line sample old mid
    → PutsRest line kept count b sample mid new → PutsRows line kept (min count (8 * (b + 1))) line sample old new
rows_step {line} {kept} count b {sample} {new = new} p q =
    record {
      long = q.put.long ∙ p.long;
      there = λ y x hy hx. ⊎_elim
          (λ (a : y < 8 * b). q.put.above (kept + y) x (omega (arith, a)) hx ∙ p.there y x (omega (arith, a, hy)) hx)
          (λ (d : 8 * b ≤ y). (let e : y ≡ 8 * b + (y - 8 * b) = omega (arith, d) in
          let n : kept + y ≡ kept + 8 * b + (y - 8 * b) = omega (arith, d) in
          ap (λ t. byte_in line new t x) n ∙ q.put.there (y - 8 * b) x (omega (arith, hy, d)) hx ∙ q.told (y - 8 * b) x (omega (arith, hy, d)) ∙ ap (λ t. sample t x) (sym e)))
          (cases_lt y (8 * b));
      above = λ r x hr hx. q.put.above r x (omega (arith, hr)) hx ∙ p.above r x hr hx;
    }

-- LISTS OF ROWS

pub row_is : (bytes : List ℕ) (wide start : ℕ) (f : ℕ → ℕ) → start + wide ≤ length bytes → ((x : ℕ) → x < wide → get_or bytes (start + x) 0 ≡ f x)
    → take wide (drop start bytes) ≡ map f (below wide)
row_is bytes wide start f fits same =
    let l : length (take wide (drop start bytes)) ≡ wide = length-take wide (drop start bytes) ∙ omega (arith, fits, length-drop start bytes) in
    sym (by_items wide f (take wide (drop start bytes)) 0 l (λ x h. sym (get_or-take wide (drop start bytes) x 0 h ∙ get_or-drop start bytes x 0 ∙ same x h)))

row_same : (old new : List ℕ) (wide start : ℕ) → length new ≡ length old → start + wide ≤ length old → ((x : ℕ) → x < wide → get_or new (start + x) 0 ≡ get_or old (start + x) 0)
    → take wide (drop start new) ≡ take wide (drop start old)
row_same old new wide start long fits same =
    row_is new wide start (λ x. get_or old (start + x) 0) (omega (arith, long, fits)) same ∙ sym (row_is old wide start (λ x. get_or old (start + x) 0) fits (λ x h. refl))

below_joined : {A : Type 0} (f : ℕ → A) (m n : ℕ) → map f (below (m + n)) ≡ map f (below m) ++ map (λ k. f (m + k)) (below n)
below_joined f m zero = ap (λ k. map f (below k)) (add-zero m) ∙ sym (append-nil (map f (below m)))
below_joined f m (suc n) =
    ap (λ k. map f (below k)) (add-suc m n) ∙ map-append f (below (m + n)) ((m + n) ∷ []) ∙ ap (λ ys. ys ++ f (m + n) ∷ []) (below_joined f m n)
    ∙ append_assoc (map f (below m)) (map (λ k. f (m + k)) (below n)) (f (m + n) ∷ [])
    ∙ ap (λ ys. map f (below m) ++ ys) (sym (map-append (λ k. f (m + k)) (below n) (n ∷ [])))

pub rows_put : (wide kept count : ℕ) (sample : ℕ → ℕ → ℕ) (old new : List ℕ) → wide ≤ stride wide → (kept + count) * stride wide ≤ length old
    → PutsRows (stride wide) kept count (stride wide) sample old new
    → kept_rows_of wide (kept + count) new ≡ kept_rows_of wide kept old ++ map (λ y. map (sample y) (below wide)) (below count)
rows_put wide kept count sample old new fits room p =
    let line = stride wide in
    let ends : (r : ℕ) → r < kept + count → r * line + wide ≤ length old = λ r h. grind (arith, rows, mul-add-lt r line wide (kept + count) h) in
    let row : List ℕ → ℕ → List ℕ = λ bytes r. take wide (drop (r * line) bytes) in
    below_joined (row new) kept count
    ∙ ap (λ ys. ys ++ map (λ y. row new (kept + y)) (below count))
    (map_below (row new) (row old) kept (λ r h. row_same old new wide (r * line) p.long (ends r (omega (arith, h))) (λ x hx. p.above r x h (omega (arith, hx, fits)))))
    ∙ ap (λ ys. map (row old) (below kept) ++ ys)
    (map_below (λ y. row new (kept + y)) (λ y. map (sample y) (below wide)) count
    (λ y h. row_is new wide ((kept + y) * line) (sample y) (omega (arith, p.long, ends (kept + y) (omega (arith, h)))) (λ x hx. p.there y x h (omega (arith, hx, fits)))))

-- THE LAST ROW

last_of : (f : ℕ → List ℕ) (n : ℕ) → 0 < n → last_row (map f (below n)) ≡ f (n - 1) ∷ []
last_of f zero h = absurd (omega (arith, h))
last_of f (suc n) h =
    let m : map f (below (suc n)) ≡ map f (below n) ++ f n ∷ [] = map-append f (below n) (n ∷ []) in
    let l : length (map f (below n)) ≡ n = length-map (below n) f ∙ length_below n in
    let k : length (map f (below (suc n))) ≡ suc n = length-map (below (suc n)) f ∙ length_below (suc n) in
    let c : length (map f (below (suc n))) - 1 ≡ length (map f (below n)) = omega (arith, k, l) in
    let e : suc n - 1 ≡ n = omega arith in
    ap (λ t. drop t (map f (below (suc n)))) c ∙ ap (λ xs. drop (length (map f (below n))) xs) m ∙ drop-append_seam (map f (below n)) (f n ∷ [])
    ∙ ap (λ t. (let r : List (List ℕ) = f t ∷ [] in r)) (sym e)

pub last_kept : (wide len : ℕ) (old new : List ℕ) → 0 < len → wide ≤ stride wide → len * stride wide ≤ length old → length new ≡ length old
    → ((x : ℕ) → x < stride wide → get_or new x 0 ≡ get_or old ((len - 1) * stride wide + x) 0) → kept_rows_of wide 1 new ≡ last_row (kept_rows_of wide len old)
last_kept wide len old new some fits room long same =
    let line = stride wide in
    let f : ℕ → ℕ = λ x. get_or old ((len - 1) * line + x) 0 in
    let ends : (r : ℕ) → r < len → r * line + wide ≤ length old = λ r h. grind (arith, rows, mul-add-lt r line wide len h) in
    let low : len - 1 < len = omega (arith, some) in
    let one : take wide (drop (0 * line) new) ≡ map f (below wide) =
    row_is new wide (0 * line) f (omega (arith, long, ends 0 some)) (λ x h. (let e : 0 * line + x ≡ x = omega arith in ap (λ t. get_or new t 0) e ∙ same x (omega (arith, h, fits)))) in
    let two : take wide (drop ((len - 1) * line) old) ≡ map f (below wide) = row_is old wide ((len - 1) * line) f (ends (len - 1) low) (λ x h. refl) in
    ap (λ xs. (let r : List (List ℕ) = xs ∷ [] in r)) (one ∙ sym two) ∙ sym (last_of (λ r. take wide (drop (r * line) old)) len some)

-- COEFFICIENTS of 8 bits, which may be multiplied by their quantisers

bounded : (b : Bool) (v : ℤ) → cond b (int_le (neg_ℤ (pos 1024)) v && int_le v (pos 1023)) (int_le (pos (nat_abs v)) (pos 1023)) ≡ true → nat_abs v ≤ 1024
bounded true v e =
    let t = both (int_le (neg_ℤ (pos 1024)) v) (int_le v (pos 1023)) e in
    omega (arith, ints, from_test (neg_ℤ (pos 1024)) v t.0, from_test v (pos 1023) t.1)
bounded false v e = omega (arith, ints, from_test (pos (nat_abs v)) (pos 1023) e)

pub block_small : (f : Frame) (blocks : Blocks) (i x y : ℕ) → f.precision ≡ 8 → AreInRange (bounds f) blocks → All (λ v. nat_abs v ≤ 1024) (blocks i x y)
block_small f blocks i x y eight range =
    All-from_get_or (λ v. nat_abs v ≤ 1024) (blocks i x y) (pos 0)
    (λ k h. bounded (k == 0) (get_or (blocks i x y) k (pos 0)) (subst (λ p. is_coefficient (bounds_of p) k (get_or (blocks i x y) k (pos 0)) ≡ true) eight (range.values i x y k)))

-- ROWS OF STORAGE

pub rows_count : (wide len : ℕ) (bytes : List ℕ) → length (kept_rows_of wide len bytes) ≡ len
rows_count wide len bytes = length-map (below len) (λ r. take wide (drop (r * stride wide) bytes)) ∙ length_below len

pub row_at : (wide len i : ℕ) (bytes : List ℕ) → i < len → slice_index_or (kept_rows_of wide len bytes) i [] ≡ take wide (drop (i * stride wide) bytes)
row_at wide len i bytes h =
    get_or-map (λ r. take wide (drop (r * stride wide) bytes)) (below len) i 0 [] (omega (arith, h, length_below len)) ∙ ap (λ r. take wide (drop (r * stride wide) bytes)) (at_below len i h)

pub row_ends : (wide len i most : ℕ) (bytes : List ℕ) → i < len → len ≤ most → wide ≤ stride wide → length bytes ≡ most * stride wide → i * stride wide + wide ≤ length bytes
row_ends wide len i most bytes h few fits e = grind (arith, rows, e, mul-add-lt i (stride wide) wide most (omega (arith, h, few)))

pub room_is : (wide room n : ℕ) (bytes : List ℕ) → n ≤ room → length bytes ≡ room * stride wide → n * stride wide ≤ length bytes
room_is wide room n bytes h e = grind (arith, e, mul-le n (stride wide) room (stride wide) h (omega arith))

-- storage of this many rows
abbrev pub kept_by : ℕ → ℕ → List (List ℕ) → KeptRows
kept_by wide room rows = record { wide = wide; room = room; rows = rows }
