-- A picture whose MCU rows are put in one at a time.
use Rattle.std.proofs.Common.{◌≡◌, ◌⊎◌, ℕ, ◌+◌, ◌-◌, ◌*◌, ◌/◌, ◌<◌, ◌≤◌, ◌==◌, ◌&&◌, Bool, true, false, cond, List, length, refl, sym, ap, ◌∙◌, subst, arith, ℤ, pos, ⊎_elim, inl, inr}
use Rattle.std.specs.Prelude.{◌||◌, nat_le, nat_lt, replicate, slice_index_or}
use Rattle.std.proofs.Math.Nat.{add-mul}
use Rattle.std.proofs.lemmas.Bool.{cases_lt}
use Rattle.std.proofs.lemmas.Bool.Decides.{nat_tests}
use Rattle.std.proofs.lemmas.Nat.{div-mul-add, mul-le}
use Rattle.jpg_spec.specs.Elements.{zeros}
use Rattle.jpg_spec.specs.FileMeaning.{no_blocks}
use Rattle.jpg_spec.specs.FrameHeader.{IsFrame, padded_across, padded_down}
use Rattle.jpg_spec.specs.Geometry.{Frame, IsReal, blocks_across, blocks_down, bounds, component_at, div_up, h_max, mcu_row_frame, mcus_across, mcus_down, v_max}
use Rattle.jpg_spec.specs.Ranges.{AreInRange, is_coefficient}
use Rattle.jpg_spec.specs.Scan.{Blocks}
use Rattle.jpg_spec.proofs.Basics.Common.{and_intro, and_none, both, lt_no, lt_yes, or_right, same_of}
use Rattle.jpg_spec.proofs.McuRows.RowCounts.{single_down}
use Rattle.jpg_spec.proofs.Places.PlacesFound.{least, real_in_padded}
use Rattle.jpg_spec.proofs.Places.PlacesSome.{factors_at, h_max_some, one_at_least, v_max_some}
use Rattle.jpg_coefs.specs.Copied.{CopiesBlocks, in_grid_row}
use Rattle.jpg_coefs.specs.Picture.{Picture as Coefs, map_of}
use Rattle.jpg_coefs.proofs.Maps.{blank_is}
use Rattle.jpg_seq.specs.Reader.{rows_in_mcu}
use Rattle.jpg_color.proofs.GrayRows.{blank_range}
use Rattle.jpg_file.specs.Read.ReadFile.{AgreeInRows}
use Rattle.jpg_transform.specs.RowsMoved.{mcu_rows}
use Rattle.jpg_desk.specs.RowsKept.{CanKeep, HasKept, IsNextRow, KeepsRow, in_first_lines, in_first_parts, in_lines, in_mcu_row, in_part, line_blocks, row_blocks}
use Rattle.jpg_desk.specs.declared.row_picture.RowPicture.{RowPicture}

-- MORE AND MORE PLACES, where blocks of one view are those of another

or_none : (b : Bool) → (b || false) ≡ b
or_none true = refl
or_none false = refl

joined : (a b c : ℕ → ℕ → ℕ → Bool) (seen more : Blocks) (old mid new : Coefs) → ((i x y : ℕ) → c i x y ≡ (a i x y || b i x y)) → ((i x y : ℕ) → b i x y ≡ true → more i x y ≡ seen i x y)
    → CopiesBlocks a seen old mid → CopiesBlocks b more mid new → CopiesBlocks c seen old new
joined a b c seen more old mid new e same first second = record { frame = second.frame ∙ first.frame; blocks = λ i x y. by i x y (b i x y) refl }
  where
    by : (i x y : ℕ) (t : Bool) → b i x y ≡ t → map_of new i x y ≡ cond (c i x y) (seen i x y) (map_of old i x y)
    by i x y true h =
        second.blocks i x y ∙ ap (λ t. cond t (more i x y) (map_of mid i x y)) h ∙ same i x y h
        ∙ sym (ap (λ t. cond t (seen i x y) (map_of old i x y)) (e i x y ∙ or_right (a i x y) (b i x y) h))
    by i x y false h =
        second.blocks i x y ∙ ap (λ t. cond t (more i x y) (map_of mid i x y)) h ∙ first.blocks i x y
        ∙ sym (ap (λ t. cond t (seen i x y) (map_of old i x y)) (e i x y ∙ ap (λ t. a i x y || t) h ∙ or_none (a i x y)))

spread : (q a b : Bool) → (q && (a || b)) ≡ ((q && a) || (q && b))
spread true a b = refl
spread false a b = refl

-- no rows of blocks, and one more
none_between : (y top : ℕ) → (nat_le top y && nat_lt y (top + 0)) ≡ false
none_between y top = grind (arith, nat_tests)

one_between : (y top count : ℕ) → (nat_le top y && nat_lt y (top + (count + 1))) ≡ ((nat_le top y && nat_lt y (top + count)) || y == top + count)
one_between y top count = grind (arith, nat_tests)

pub no_lines : (f : Frame) (k i : ℕ) (seen : Blocks) (old : Coefs) → CopiesBlocks (in_first_lines f k i 0) seen old old
no_lines f k i seen old = record { frame = refl; blocks = λ j x y. sym (ap (λ b. cond b (seen j x y) (map_of old j x y)) (none j x y)) }
  where
    none : (j x y : ℕ) → in_first_lines f k i 0 j x y ≡ false
    none j x y =
        ap (λ t. (j == i) && (nat_lt x (blocks_across f (component_at f i)) && t)) (none_between y (k * rows_in_mcu f i))
        ∙ ap (λ t. (j == i) && t) (and_none (nat_lt x (blocks_across f (component_at f i)))) ∙ and_none (j == i)

module _ (f : Frame) (k i count : ℕ) where
  more_lines : (j x y : ℕ) → in_first_lines f k i (count + 1) j x y ≡ (in_first_lines f k i count j x y || in_grid_row f i (k * rows_in_mcu f i + count) j x y)
  more_lines j x y =
      let top = k * rows_in_mcu f i in
      let wide = nat_lt x (blocks_across f (component_at f i)) in
      let here = nat_le top y && nat_lt y (top + count) in
      let next = y == top + count in
      ap (λ t. (j == i) && (wide && t)) (one_between y top count) ∙ ap (λ t. (j == i) && t) (spread wide here next) ∙ spread (j == i) (wide && here) (wide && next)

  pub lines_more : (row old mid new : Coefs) → CopiesBlocks (in_first_lines f k i count) (row_blocks f k row) old mid
      → CopiesBlocks (in_grid_row f i (k * rows_in_mcu f i + count)) (line_blocks row count) mid new → CopiesBlocks (in_first_lines f k i (count + 1)) (row_blocks f k row) old new
  lines_more row old mid new =
      joined (in_first_lines f k i count) (in_grid_row f i (k * rows_in_mcu f i + count)) (in_first_lines f k i (count + 1)) (row_blocks f k row) (line_blocks row count) old mid new more_lines same
    where
      same : (j x y : ℕ) → in_grid_row f i (k * rows_in_mcu f i + count) j x y ≡ true → line_blocks row count j x y ≡ row_blocks f k row j x y
      same j x y e =
          let a = both (j == i) (nat_lt x (blocks_across f (component_at f i)) && y == k * rows_in_mcu f i + count) e in
          let b = both (nat_lt x (blocks_across f (component_at f i))) (y == k * rows_in_mcu f i + count) a.1 in
          let top : k * rows_in_mcu f j ≡ k * rows_in_mcu f i = ap (λ n. k * rows_in_mcu f n) (same_of j i a.0) in
          let at : y ≡ k * rows_in_mcu f i + count = same_of y (k * rows_in_mcu f i + count) b.1 in
          let down : count ≡ y - k * rows_in_mcu f j = omega (arith, top, at) in
          ap (λ n. map_of row j x n) down

-- one more component
module _ (f : Frame) (k count : ℕ) where
  abbrev whole : ℕ → ℕ → ℕ → Bool
  whole i x y = in_lines f (k * rows_in_mcu f i) (rows_in_mcu f i) i x y

  more_parts : (j x y : ℕ) → in_first_parts f k (count + 1) j x y ≡ (in_first_parts f k count j x y || in_part f k count j x y)
  more_parts j x y = by (j == count) refl
    where
      less : nat_lt j (count + 1) ≡ (nat_lt j count || j == count)
      less = grind (arith, nat_tests)

      by : (b : Bool) → (j == count) ≡ b → (nat_lt j (count + 1) && whole j x y) ≡ ((nat_lt j count && whole j x y) || (b && whole count x y))
      by true e =
          let s : j ≡ count = same_of j count e in
          ap (λ t. t && whole j x y) (lt_yes j (count + 1) (omega (arith, s))) ∙ ap (λ n. whole n x y) s
          ∙ sym (ap (λ t. (t && whole j x y) || whole count x y) (lt_no j count (omega (arith, s))))
      by false e =
          ap (λ t. t && whole j x y) (less ∙ ap (λ t. nat_lt j count || t) e ∙ or_none (nat_lt j count)) ∙ sym (or_none (nat_lt j count && whole j x y))

  pub parts_more : (seen : Blocks) (old mid new : Coefs) → CopiesBlocks (in_first_parts f k count) seen old mid → CopiesBlocks (in_part f k count) seen mid new → CopiesBlocks (in_first_parts f k (count + 1)) seen old new
  parts_more seen old mid new = joined (in_first_parts f k count) (in_part f k count) (in_first_parts f k (count + 1)) seen seen old mid new more_parts (λ i x y e. refl)

-- WHERE AN MCU ROW IS

-- rounded up, a whole number of them
whole_up : (n d : ℕ) → 0 < d → div_up (n * d) d ≡ n
whole_up n d some =
    let e : n * d + d - 1 ≡ n * d + (d - 1) = omega (arith, some) in
    ap (λ m. m / d) e ∙ div-mul-add n d (d - 1) (omega (arith, some))

module _ (f : Frame) (is : IsFrame f) (i : ℕ) (there : i < length f.components) where
  one_first : length f.components ≡ 1 → i ≡ 0
  one_first one = omega (arith, one, there)

  -- Its frame has so many rows of blocks.
  rows_down : blocks_down (mcu_row_frame f) (component_at (mcu_row_frame f) i) ≡ rows_in_mcu f i
  rows_down = by (length f.components == 1) refl
    where
      m : ℕ
      m = v_max f

      v : ℕ
      v = (component_at f i).v

      by : (b : Bool) → (length f.components == 1) ≡ b → div_up (div_up (cond b 8 (8 * m) * v) m) 8 ≡ cond b 1 v
      by true e = (let one : length f.components ≡ 1 = same_of (length f.components) 1 e in single_down 8 f.components i one (omega (arith, one, there)) is.factors)
      by false e =
          let turned : (8 * m) * v ≡ (v * 8) * m = grind arith in
          ap (λ n. div_up (div_up n m) 8) turned ∙ ap (λ n. div_up n 8) (whole_up (v * 8) m (v_max_some f is)) ∙ whole_up v 8 (omega arith)

  -- An MCU row is a row of blocks of the only component, or a row of MCUs.
  abbrev RowKinds : Type 0
  RowKinds = ((mcu_rows f ≡ blocks_down f (component_at f i)) × (rows_in_mcu f i ≡ 1)) ⊎ ((mcu_rows f ≡ mcus_down f) × (rows_in_mcu f i ≡ (component_at f i).v))

  row_kinds : RowKinds
  row_kinds = by (length f.components == 1) refl
    where
      by : (b : Bool) → (length f.components == 1) ≡ b → RowKinds
      by true e =
          let first = one_first (same_of (length f.components) 1 e) in
          inl (ap (λ b. cond b (blocks_down f (component_at f 0)) (mcus_down f)) e ∙ ap (λ n. blocks_down f (component_at f n)) (sym first), ap (λ b. cond b 1 (component_at f i).v) e)
      by false e = inr (ap (λ b. cond b (blocks_down f (component_at f 0)) (mcus_down f)) e, ap (λ b. cond b 1 (component_at f i).v) e)

  all_padded : blocks_down f (component_at f i) ≤ padded_down f (component_at f i)
  all_padded = real_in_padded f.height (component_at f i).v (v_max f) (v_max_some f is)

  -- All its rows are in the padded grid,
  rows_inside : (k : ℕ) → k < mcu_rows f → k * rows_in_mcu f i + rows_in_mcu f i ≤ padded_down f (component_at f i)
  rows_inside k low = by row_kinds
    where
      sum : (n : ℕ) → rows_in_mcu f i ≡ n → k * rows_in_mcu f i + rows_in_mcu f i ≡ (k + 1) * n
      sum n e = ap (λ r. k * r + r) e ∙ grind arith

      by : RowKinds → k * rows_in_mcu f i + rows_in_mcu f i ≤ padded_down f (component_at f i)
      by (inl (rows, one)) = (let padded = all_padded in omega (arith, low, rows, sum 1 one, padded))
      by (inr (rows, each)) = (let v = (component_at f i).v in let more = mul-le (k + 1) v (mcus_down f) v (omega (arith, low, rows)) (omega arith) in omega (arith, sum v each, more))

  -- and no real block is after all MCU rows.
  pub rows_cover : (k y : ℕ) → mcu_rows f ≤ k → y < blocks_down f (component_at f i) → y < k * rows_in_mcu f i
  rows_cover k y all low = by row_kinds
    where
      by : RowKinds → y < k * rows_in_mcu f i
      by (inl (rows, one)) = (let product : k * rows_in_mcu f i ≡ k * 1 = ap (λ n. k * n) one in omega (arith, all, low, rows, product))
      by (inr (rows, each)) =
          let v = (component_at f i).v in
          let product : k * rows_in_mcu f i ≡ k * v = ap (λ n. k * n) each in
          let more = mul-le (mcus_down f) v k v (omega (arith, all, rows)) (omega arith) in
          let padded = all_padded in omega (arith, low, product, padded, more)

  -- The grid has a column, and few rows.
  some_across : 0 < padded_across f (component_at f i)
  some_across = (let one : 1 * 1 ≤ mcus_across f * (component_at f i).h = mul-le 1 1 (mcus_across f) (component_at f i).h (one_at_least f.width (8 * h_max f) (let h = h_max_some f is in omega (arith, h)) is.width_low) (factors_at f i is there).h_low in omega (arith, one))

  few_down : padded_down f (component_at f i) ≤ 262000
  few_down =
      let m = v_max f in
      let some : 0 < m = v_max_some f is in
      let high : f.height * 1 ≤ f.height * (8 * m) = mul-le f.height 1 f.height (8 * m) (omega arith) (omega (arith, some)) in
      let rows : mcus_down f ≤ f.height = least f.height (8 * m) f.height (omega (arith, some)) (omega (arith, high)) in
      mul-le (mcus_down f) (component_at f i).v 65500 4 (omega (arith, rows, is.height_high)) (factors_at f i is there).v_high

-- the rows of blocks of a component in MCU row k, by the frame of one
pub record HasLines (f : Frame) (k i high : ℕ) : Type 0 where
  pub rows : high ≡ rows_in_mcu f i
  pub inside : k * high + high ≤ padded_down f (component_at f i)
  pub few : k * high + high ≤ 262000
  pub across : 0 < padded_across f (component_at f i)

pub lines_of : {f g h : Frame} {k i high : ℕ} → IsNextRow f k g → h ≡ g → i < length f.components → high ≡ blocks_down h (component_at h i) → HasLines f k i high
lines_of {f} {g} {h} {k} {i} {high} is same there e =
    let rows : high ≡ rows_in_mcu f i = e ∙ ap (λ (n : Frame). blocks_down n (component_at n i)) (same ∙ is.framed) ∙ rows_down f is.is_frame i there in
    let inside : k * high + high ≤ padded_down f (component_at f i) = subst (λ n. k * n + n ≤ padded_down f (component_at f i)) (sym rows) (rows_inside f is.is_frame i there k is.next) in
    record { rows = rows; inside = inside; few = (let few = few_down f is.is_frame i there in omega (arith, inside, few)); across = some_across f is.is_frame i there }

-- A ROW IS PUT

-- whether a place is in it
within : (y top count : ℕ) → top ≤ y → y < top + count → (nat_le top y && nat_lt y (top + count)) ≡ true
within y top count low high = grind (arith, nat_tests, low, high)

without : (y top count : ℕ) → (y < top) ⊎ (top + count ≤ y) → (nat_le top y && nat_lt y (top + count)) ≡ false
without y top count (inl h) = grind (arith, nat_tests, h)
without y top count (inr h) = grind (arith, nat_tests, h)

module _ {f : Frame} {k : ℕ} {blocks : Blocks} {row : Coefs} {old : RowPicture} (can : CanKeep f k blocks row old) (new : Coefs) (put : CopiesBlocks (in_mcu_row f k) (row_blocks f k row) old.coefs new) where
  next_top : (i : ℕ) → (k + 1) * rows_in_mcu f i ≡ k * rows_in_mcu f i + rows_in_mcu f i
  next_top i = (let e : (k + 1) * rows_in_mcu f i ≡ k * rows_in_mcu f i + 1 * rows_in_mcu f i = add-mul k 1 (rows_in_mcu f i) in omega (arith, e))

  here : (i x y : ℕ) → IsReal f i x y → k * rows_in_mcu f i ≤ y → y < k * rows_in_mcu f i + rows_in_mcu f i → map_of new i x y ≡ row_blocks f k row i x y
  here i x y real low high =
      let among : in_mcu_row f k i x y ≡ true =
      and_intro (nat_lt i (length f.components)) _ (lt_yes i (length f.components) real.component)
      (and_intro (nat_lt x (blocks_across f (component_at f i))) _ (lt_yes x (blocks_across f (component_at f i)) real.across) (within y (k * rows_in_mcu f i) (rows_in_mcu f i) low high)) in
      put.blocks i x y ∙ ap (λ t. cond t (row_blocks f k row i x y) (map_of old.coefs i x y)) among

  elsewhere : (i x y : ℕ) → (y < k * rows_in_mcu f i) ⊎ (k * rows_in_mcu f i + rows_in_mcu f i ≤ y) → map_of new i x y ≡ map_of old.coefs i x y
  elsewhere i x y out =
      let wide = nat_lt x (blocks_across f (component_at f i)) in
      let among : in_mcu_row f k i x y ≡ false =
      ap (λ t. nat_lt i (length f.components) && (wide && t)) (without y (k * rows_in_mcu f i) (rows_in_mcu f i) out)
      ∙ ap (λ t. nat_lt i (length f.components) && t) (and_none wide) ∙ and_none (nat_lt i (length f.components)) in
      put.blocks i x y ∙ ap (λ t. cond t (row_blocks f k row i x y) (map_of old.coefs i x y)) among

  -- each block is one that was put or was there
  each : (P : List ℤ → Type 0) (i x y : ℕ) → P (row_blocks f k row i x y) → P (map_of old.coefs i x y) → P (map_of new i x y)
  each P i x y a b = subst P (sym (put.blocks i x y)) (by (in_mcu_row f k i x y))
    where
      by : (t : Bool) → P (cond t (row_blocks f k row i x y) (map_of old.coefs i x y))
      by true = a
      by false = b

  one_more : AgreeInRows f (k + 1) blocks (map_of new)
  one_more = record {
    same = λ i x y there across down low. ⊎_elim
        (λ (h : y < k * rows_in_mcu f i). (let has = can.has in has.agree.same i x y there across down h ∙ sym (elsewhere i x y (inl h))))
        (λ (h : k * rows_in_mcu f i ≤ y). (let R = rows_in_mcu f i in
        let top = next_top i in
        let d = y - k * R in
        let e : k * R + d ≡ y = omega (arith, h) in
        let high : y < k * R + R = omega (arith, low, top) in
        sym (can.lends.row.same i x d there across (omega (arith, h, high)) (omega (arith, e, down)) ∙ ap (blocks i x) e)
        ∙ sym (here i x y (record { component = there; across = across; down = down }) h high)))
        (cases_lt y (k * rows_in_mcu f i));
  }

  has_kept : (r : RowPicture) → r.coefs ≡ new → r.rows ≡ old.rows + 1 → HasKept f (k + 1) blocks r
  has_kept r is count =
      let has = can.has in
      record {
        framed = ap (λ (q : Coefs). q.frame) is ∙ put.frame ∙ has.framed;
        is_frame = has.is_frame;
        count = count ∙ ap (λ n. n + 1) has.count;
        range = subst (λ (q : Coefs). AreInRange (bounds f) (map_of q)) (sym is)
            (record {
              sizes = λ i x y. each (λ b. length b ≡ 64) i x y (can.lends.range.sizes i x (y - k * rows_in_mcu f i)) (has.range.sizes i x y);
              values = λ i x y n. each (λ b. is_coefficient (bounds f) n (slice_index_or b n (pos 0)) ≡ true) i x y (can.lends.range.values i x (y - k * rows_in_mcu f i) n) (has.range.values i x y n);
            });
        agree = subst (λ (q : Coefs). AgreeInRows f (k + 1) blocks (map_of q)) (sym is) one_more;
        zero = λ i x y low. (let top = next_top i in ap (λ (q : Coefs). map_of q i x y) is ∙ elsewhere i x y (inr (omega (arith, low, top))) ∙ has.zero i x y (omega (arith, low, top)));
      }

pub keeps_row : (old new : RowPicture) (row : Coefs) → CopiesBlocks (in_mcu_row old.coefs.frame old.rows) (row_blocks old.coefs.frame old.rows row) old.coefs new.coefs → new.rows ≡ old.rows + 1 → KeepsRow old row new
keeps_row old new row put count f k blocks can =
    let has = can.has in
    has_kept can new.coefs
    (subst (λ (g : Frame). CopiesBlocks (in_mcu_row g k) (row_blocks g k row) old.coefs new.coefs) has.framed
    (subst (λ (n : ℕ). CopiesBlocks (in_mcu_row old.coefs.frame n) (row_blocks old.coefs.frame n row) old.coefs new.coefs) has.count put)) new refl count

-- AT THE BEGINNING
pub kept_none : (f : Frame) (blocks : Blocks) (r : RowPicture) (n : ℕ) → IsFrame f → r.coefs.frame ≡ f → r.coefs.blocks ≡ replicate n (zeros 64) → r.rows ≡ 0 → HasKept f 0 blocks r
kept_none f blocks r n is framed none count =
    let blank : map_of r.coefs ≡ no_blocks = blank_is r.coefs n none in
    record {
      framed = framed;
      is_frame = is;
      count = count;
      range = subst (λ (b : Blocks). AreInRange (bounds f) b) (sym blank) (blank_range f);
      agree = record { same = λ i x y there across down low. absurd (let z : 0 * rows_in_mcu f i ≡ 0 = omega arith in omega (arith, low, z)) };
      zero = λ i x y low. ap (λ (b : Blocks). b i x y) blank;
    }

-- WHAT IS IN IT

-- the blocks of all pictures that agree with it in these MCU rows
pub kept_on : {f : Frame} {k : ℕ} {blocks others : Blocks} {r : RowPicture} → HasKept f k blocks r → AgreeInRows f k blocks others → HasKept f k others r
kept_on {f} {k} {blocks} {others} {r} has agree = record {
  framed = has.framed;
  is_frame = has.is_frame;
  count = has.count;
  range = has.range;
  agree = record { same = λ i x y there across down low. sym (agree.same i x y there across down low) ∙ has.agree.same i x y there across down low };
  zero = has.zero;
}

-- after all MCU rows, each real block
pub kept_whole : {f : Frame} {k : ℕ} {blocks : Blocks} {r : RowPicture} → HasKept f k blocks r → mcu_rows f ≤ k → (i x y : ℕ) → IsReal f i x y → map_of r.coefs i x y ≡ blocks i x y
kept_whole {f} {k} {blocks} {r} has all i x y real =
    sym (has.agree.same i x y real.component real.across real.down (rows_cover f has.is_frame i real.component k y all real.down))

-- the same where all later blocks are zero
pub kept_early : {f : Frame} {k : ℕ} {blocks : Blocks} {r : RowPicture} → HasKept f k blocks r → ((i x y : ℕ) → IsReal f i x y → k * rows_in_mcu f i ≤ y → blocks i x y ≡ zeros 64) → (i x y : ℕ) → IsReal f i x y → map_of r.coefs i x y ≡ blocks i x y
kept_early {f} {k} {blocks} {r} has clear i x y real = ⊎_elim
    (λ (h : y < k * rows_in_mcu f i). sym (has.agree.same i x y real.component real.across real.down h))
    (λ (h : k * rows_in_mcu f i ≤ y). has.zero i x y h ∙ sym (clear i x y real h))
    (cases_lt y (k * rows_in_mcu f i))
