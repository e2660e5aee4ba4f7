-- Pictures transformed MCU row by MCU row.
use Rattle.std.proofs.Common.{◌≡◌, ◌⊎◌, ℕ, ◌+◌, ◌-◌, ◌*◌, ◌/◌, ◌%◌, ◌<◌, ◌≤◌, ◌==◌, Bool, true, false, cond, List, length, take, drop, get_or, refl, sym, ap, ◌∙◌, subst, arith, ℤ, ⊎_elim, inl, inr}
use Rattle.std.specs.Prelude.{IfOk, OnOk, Result, Ok, Err, min, nat_lt, slice_index}
use Rattle.std.specs.List.{All}
use Rattle.std.proofs.Math.Nat.{add-mul, mod-lt}
use Rattle.std.proofs.lemmas.Bool.{cases_lt}
use Rattle.std.proofs.lemmas.Bool.Decides.{nat_tests}
use Rattle.std.proofs.lemmas.List.Elements.{All-drop, All-from_get_or, All-get_or, All-same, All-take}
use Rattle.std.proofs.lemmas.Nat.{mod-mul-add, mul-le}
use Rattle.jpg_spec.specs.Elements.{IsBlockIn, zeros}
use Rattle.jpg_spec.specs.FileMeaning.{no_blocks}
use Rattle.jpg_spec.specs.FrameHeader.{HasFactors, IsFrame, padded_down}
use Rattle.jpg_spec.specs.Geometry.{Frame, IsReal, blocks_across, blocks_down, bounds, bounds_of, component_at, h_max, mcu_row_frame, mcus_down, no_component, place, units, v_max}
use Rattle.jpg_spec.specs.Scan.{Blocks}
use Rattle.jpg_spec.specs.Segments.{head_components}
use Rattle.jpg_spec.specs.declared.frame.Place.{Place}
use Rattle.jpg_spec.proofs.Basics.Common.{clash, same_of}
use Rattle.jpg_spec_move.specs.Moved.{columns_in, rows_in}
use Rattle.jpg_spec_move.specs.Moves.{mirrored}
use Rattle.jpg_spec_move.specs.Transforms.{mirrors_down, opposite, placed, signed, transposes}
use Rattle.jpg_spec_move.specs.declared.transform.Transform.{Transform}
use Rattle.jpg_spec_move.specs.declared.transform.Transform.TheVariants.{Keep, FlipH, FlipV, Transpose, Transverse, Rotate90, Rotate180, Rotate270}
use Rattle.jpg_spec_move.proofs.Within.{mirrored_in}
use Rattle.jpg_spec.proofs.Files.ReadPicture.{block_in}
use Rattle.jpg_spec.proofs.Places.PlacesFound.{real_in_padded}
use Rattle.jpg_spec.proofs.Places.PlacesSome.{h_max_some, v_max_some}
use Rattle.jpg_base.proofs.Real.{one_real}
use Rattle.jpg_spec.proofs.Writing.MovedWritten.{zeros_here}
use Rattle.jpg_spec_write.specs.WrittenFile.{HasBlocksIn}
use Rattle.jpg_base.specs.Cursor.{IsPadded, scan_mcus_down}
use Rattle.jpg_base.specs.declared.names.NoMemory.{NoMemory}
use Rattle.jpg_base.proofs.ScanPlaces.{padded_of}
use Rattle.jpg_base.proofs.UnitCounts.{length_units}
use Rattle.jpg_coefs.specs.Picture.{Picture as Coefs, map_of}
use Rattle.jpg_coefs.specs.ScanUnits.{AgreeAt}
use Rattle.jpg_coefs.specs.Sinks.{IsScanPlace}
use Rattle.jpg_coefs.proofs.Places.{is_real_place, scan_places, some_places}
use Rattle.jpg_file.specs.Read.ReadFile.{AgreeInRows, LendsRow}
use Rattle.jpg_seq.specs.ScanWritten.{CanKeep, KeepsScan, WrittenScan, kept_scan, written_data}
use Rattle.jpg_seq.specs.Reader.{row_units, rows_in_mcu}
use Rattle.jpg_seq.proofs.Machines.{one_row}
use Rattle.jpg_transform.specs.Places.{HasRowSources, keeps_rows}
use Rattle.jpg_transform.specs.RowsMoved.{BeginsInBounds, CanMove, CanMoveZero, CanMoveZeros, GivesMoved, HasAllMoved, HasMoved, IsMovedScan, MovedScan, MovesZero, TellsWhole, all_units, mcu_rows, moved_of, rows_of_output, scan_of, seen_by, units_moved}
use Rattle.jpg_transform.specs.declared.row_mover.RowMover.{RowMover}
use Rattle.jpg_transform.proofs.Opposites.{all_above}
use Rattle.jpg_transform.proofs.RowPlaces.{HaveRows, IsBetween, between, rows_for}
use Rattle.jpg_transform.proofs.Showing.{AreGiven, Arguments, reached_by}
use Rattle.jpg_transform.proofs.Viewed.{stays}

-- BLOCKS, where rows stay rows

none_over : (t : Transform) → keeps_rows t ≡ true → (transposes t ≡ false) × (mirrors_down t ≡ false)
none_over Keep k = (refl, refl)
none_over FlipH k = (refl, refl)
none_over FlipV k = absurd (clash false k refl)
none_over Transpose k = absurd (clash false k refl)
none_over Transverse k = absurd (clash false k refl)
none_over Rotate90 k = absurd (clash false k refl)
none_over Rotate180 k = absurd (clash false k refl)
none_over Rotate270 k = absurd (clash false k refl)

-- the columns of a component that are mirrored
abbrev pub columns_of : MovedScan → ℕ → ℕ
columns_of w i = columns_in w.transform w.out i

no_rows : (t : Transform) (g : Frame) (i : ℕ) → keeps_rows t ≡ true → rows_in t g i ≡ 0
no_rows t g i k = ap (λ b. cond b ((g.height / (8 * v_max g)) * (component_at g i).v) 0) (none_over t k).1

none_below : (y : ℕ) → nat_lt y 0 ≡ false
none_below y = grind (arith, nat_tests)

pub moved_is : (t : Transform) (g : Frame) (blocks : Blocks) (i x y : ℕ) → keeps_rows t ≡ true
    → moved_of t g blocks i x y ≡ signed (nat_lt x (columns_in t g i)) false (blocks i (opposite (columns_in t g i) x) y)
moved_is t g blocks i x y k =
    let c = columns_in t g i in
    ap (λ over. placed over c (rows_in t g i) (blocks i) x y) (none_over t k).0
    ∙ ap (λ r. placed false c r (blocks i) x y) (no_rows t g i k)
    ∙ ap (λ b. signed (nat_lt x c) b (blocks i (opposite c x) (opposite 0 y))) (none_below y)
    ∙ ap (λ r. signed (nat_lt x c) false (blocks i (opposite c x) r)) (sym (stays 0 y (omega arith)))

-- A place of the output has its block from the same row of the picture.
pub from_row : {w : MovedScan} (i x y : ℕ) → IsMovedScan w → IsReal w.out i x y → IsReal w.source i (opposite (columns_of w i) x) y
from_row {w} i x y is real =
    let t = w.transform in
    let a : Arguments = record { frame = w.out; transform = t; over = transposes t; columns = λ i. columns_in t w.out i; rows = λ i. rows_in t w.out i } in
    let given : AreGiven a = record { frame = is.framed; over = refl; columns = λ i h. refl; rows = λ i h. refl } in
    let from = reached_by i x y is.source given is.output real in
    subst (λ r. IsReal w.source i (opposite (columns_of w i) x) r) (ap (λ r. opposite r y) (no_rows t w.out i is.stays) ∙ sym (stays 0 y (omega arith))) (from.plain (none_over t is.stays).0)

signed_in : (b : Bool) (n : ℕ) (block : List ℤ) → IsBlockIn (bounds_of n) block → IsBlockIn (bounds_of n) (signed b false block)
signed_in true n block is = mirrored_in (bounds_of n) block is
signed_in false n block is = is

pub moved_in : {w : MovedScan} (blocks : Blocks) → IsMovedScan w → HasBlocksIn w.source blocks → HasBlocksIn w.out (moved_of w.transform w.out blocks)
moved_in {w} blocks is range i x y real =
    subst (λ n. IsBlockIn (bounds_of n) (moved_of w.transform w.out blocks i x y)) (sym is.precision)
    (subst (IsBlockIn (bounds w.source)) (sym (moved_is w.transform w.out blocks i x y is.stays))
    (signed_in (nat_lt x (columns_of w i)) w.source.precision (blocks i (opposite (columns_of w i) x) y) (range i (opposite (columns_of w i) x) y (from_row i x y is real))))

-- ROWS AND UNITS

pub have_rows : {w : MovedScan} → IsMovedScan w → HaveRows w.source w.out
have_rows {w} is = rows_for is.choice w.transform w.source w.out is.source is.framed is.stays is.output

abbrev ids_of : MovedScan → List ℕ
ids_of w = head_components w.head

abbrev row_size : MovedScan → ℕ
row_size w = row_units w.out (ids_of w)

abbrev times : MovedScan → ℕ
times w = rows_of_output w.source w.out

some_size : {w : MovedScan} → IsMovedScan w → 1 ≤ row_size w
some_size {w} is =
    let some = some_places w.out w.head is.framed is.scan.components in
    let all : length (units w.out (ids_of w)) ≡ scan_mcus_down w.out (ids_of w) * row_size w = length_units w.out (ids_of w) in
    ⊎_elim (λ (h : 0 < row_size w). omega (arith, h))
    (λ (h : row_size w ≤ 0). (let z : row_size w ≡ 0 = omega (arith, h) in
    let n : scan_mcus_down w.out (ids_of w) * row_size w ≡ 0 = ap (λ m. scan_mcus_down w.out (ids_of w) * m) z ∙ omega arith in absurd (omega (arith, some, all, n)))) (cases_lt 0 (row_size w))

-- so many units are before an MCU row
before : (w : MovedScan) (k : ℕ) → k * units_moved w ≡ (k * times w) * row_size w
before w k = grind arith

some_moved : {w : MovedScan} → IsMovedScan w → 1 ≤ units_moved w
some_moved {w} is = (let z : 1 * 1 ≤ row_size w * times w = mul-le 1 1 (row_size w) (times w) (some_size is) (have_rows is).some in omega (arith, z))

-- where an MCU row is left, so is one of its units
pub more_left : {w : MovedScan} (k : ℕ) → IsMovedScan w → k < mcu_rows w.source → k * units_moved w < all_units w
more_left {w} k is low =
    let D = scan_mcus_down w.out (ids_of w) in
    let W = row_size w in
    let rows : k * times w < D = (have_rows is).fewer k (ids_of w) is.scan.components is.all low in
    let all : all_units w ≡ D * W = length_units w.out (ids_of w) in
    let next = mul-le (k * times w + 1) W D W (omega (arith, rows)) (omega arith) in
    let sum : (k * times w + 1) * W ≡ (k * times w) * W + 1 * W = add-mul (k * times w) 1 W in
    let some = some_size is in
    omega (arith, all, next, sum, before w k, some)

pub none_left : {w : MovedScan} (k : ℕ) → IsMovedScan w → mcu_rows w.source ≤ k → all_units w ≤ k * units_moved w
none_left {w} k is low =
    let D = scan_mcus_down w.out (ids_of w) in
    let W = row_size w in
    let rows : D ≤ k * times w = (have_rows is).last k (ids_of w) is.scan.components is.all low in
    let all : all_units w ≡ D * W = length_units w.out (ids_of w) in
    let next = mul-le D W (k * times w) W rows (omega arith) in
    omega (arith, all, next, before w k)

-- THE NUMBER of the next units

least_of : (a b : ℕ) → ((min a b ≡ a) × (a ≤ b)) ⊎ ((min a b ≡ b) × (b ≤ a))
least_of a b = ⊎_elim (λ (h : a < b). inl (omega (arith, h), omega (arith, h))) (λ (h : b ≤ a). inr (omega (arith, h), omega (arith, h))) (cases_lt a b)

pub some_least : (a b n : ℕ) → n ≡ min a b → 1 ≤ a → 1 ≤ b → (1 ≤ n) × (n ≤ b)
some_least a b n e some more = ⊎_elim
    (λ (h : (min a b ≡ a) × (a ≤ b)). (omega (arith, e, h.0, some), omega (arith, e, h.0, h.1)))
    (λ (h : (min a b ≡ b) × (b ≤ a)). (omega (arith, e, h.0, more), omega (arith, e, h.0))) (least_of a b)

few_least : (a b n : ℕ) → n ≡ min a b → n ≤ a
few_least a b n e = ⊎_elim (λ (h : (min a b ≡ a) × (a ≤ b)). omega (arith, e, h.0)) (λ (h : (min a b ≡ b) × (b ≤ a)). omega (arith, e, h.0, h.1)) (least_of a b)

left_after : (u b n left all s : ℕ) → n ≡ min u b → b ≡ all - s → left + n ≡ b → left ≡ all - (s + u)
left_after u b n left all s e is put = ⊎_elim
    (λ (h : (min u b ≡ u) × (u ≤ b)). omega (arith, e, h.0, h.1, is, put))
    (λ (h : (min u b ≡ b) × (b ≤ u)). omega (arith, e, h.0, h.1, is, put)) (least_of u b)

-- WHAT IS LEFT, of a mover that took some MCU rows

module _ {w : MovedScan} {k : ℕ} {blocks : Blocks} (r : RowMover) (has : HasMoved w k blocks r) where
  pub tells_whole : (whole : Bool) → whole ≡ (((r.scan).units).left == 0) → TellsWhole w k whole
  tells_whole whole e = record {
    all = λ yes. ⊎_elim
        (λ (h : k < mcu_rows w.source). absurd (let m = more_left k has.scan h in let z : ((r.scan).units).left ≡ 0 = same_of ((r.scan).units).left 0 (sym e ∙ yes) in let l = has.left in omega (arith, m, z, l)))
        (λ (h : mcu_rows w.source ≤ k). h) (cases_lt k (mcu_rows w.source));
    more = λ no. ⊎_elim
        (λ (h : k < mcu_rows w.source). h)
        (λ (h : mcu_rows w.source ≤ k). absurd (let m = none_left k has.scan h in let l = has.left in let none : ((r.scan).units).left ≡ 0 = omega (arith, m, l) in
        clash (((r.scan).units).left == 0) (grind (arith, nat_tests, none)) (sym e ∙ no))) (cases_lt k (mcu_rows w.source));
  }

  -- The next MCU row has this many units.
  module _ (next : k < mcu_rows w.source) (count : ℕ) (counted : count ≡ min r.units ((r.scan).units).left) where
    some_left : 1 ≤ ((r.scan).units).left
    some_left = (let m = more_left k has.scan next in let l = has.left in omega (arith, m, l))

    pub some_put : (1 ≤ count) × (count ≤ ((r.scan).units).left)
    some_put = some_least r.units ((r.scan).units).left count counted (let u = has.units in let m = some_moved has.scan in omega (arith, u, m)) some_left

    -- its places
    pub agrees : (others seen : Blocks) → HasBlocksIn w.source others → AgreeInRows w.source k blocks others
        → ((i x y : ℕ) → IsReal w.out i x y → k * rows_in_mcu w.source i ≤ y → y < (k + 1) * rows_in_mcu w.source i → moved_of w.transform w.out others i x y ≡ seen i x y)
        → CanKeep (scan_of w others) w.out seen count r.scan
    agrees others seen range agree same = record { keeps = keeps; frame = refl; same = All-from_get_or (AgreeAt moved seen) l none each }
      where
        moved : Blocks
        moved = moved_of w.transform w.out others

        keeps : KeepsScan (scan_of w others) r.scan
        keeps = has.keeps others range agree

        g : Frame
        g = w.out

        none : Place
        none = place g 0 0 0

        l : List Place
        l = take count ((r.scan).units).cursor

        rows : HaveRows w.source w.out
        rows = have_rows has.scan

        at : ((r.scan).units).cursor ≡ drop ((k * times w) * row_size w) (units g (ids_of w))
        at = keeps.places ∙ ap (λ n. drop n (units g (ids_of w)))
            (let m = more_left k has.scan next in let left = has.left in let b = before w k in let z : length (units g (ids_of w)) - ((r.scan).units).left ≡ (k * times w) * row_size w = omega (arith, m, left, b) in z)

        scan_place : All (IsScanPlace g w.head) l
        scan_place = All-take (IsScanPlace g w.head) count ((r.scan).units).cursor
            (All-same (IsScanPlace g w.head) ((r.scan).units).cursor _ at (All-drop (IsScanPlace g w.head) ((k * times w) * row_size w) (units g (ids_of w)) (scan_places g w.head has.scan.scan.components)))

        few : count ≤ times w * row_size w
        few = (let f = few_least r.units ((r.scan).units).left count counted in let u = has.units in let e : units_moved w ≡ times w * row_size w = grind arith in omega (arith, f, u, e))

        rows_between : All (IsBetween g (k * times w) (times w)) l
        rows_between = subst (λ (places : List Place). All (IsBetween g (k * times w) (times w)) (take count places)) (sym at)
            (between g (ids_of w) (k * times w) (times w) count has.scan.all (some_size has.scan) few)

        each : (n : ℕ) → n < length l → AgreeAt moved seen (get_or l n none)
        each n low real =
            let p = get_or l n none in
            let i = p.component in
            let is = is_real_place g w.head p (All-get_or (IsScanPlace g w.head) l n none low scan_place) real in
            let b = All-get_or (IsBetween g (k * times w) (times w)) l n none low rows_between in
            let c = rows_in_mcu g i in
            let R : times w * c ≡ rows_in_mcu w.source i = rows.each i is.component in
            let first : k * rows_in_mcu w.source i ≡ (k * times w) * c = ap (λ m. k * m) (sym R) ∙ grind arith in
            let last : (k + 1) * rows_in_mcu w.source i ≡ (k * times w + times w) * c = ap (λ m. (k + 1) * m) (sym R) ∙ grind arith in
            same i p.x p.y is (let z = b.low in omega (arith, z, first)) (let z = b.high in omega (arith, z, last))

-- THE VIEW of an MCU row

module _ {w : MovedScan} {k : ℕ} {blocks : Blocks} {row : Coefs} (is : IsMovedScan w) (lends : LendsRow w.source k row blocks) where
  rows_low : (i : ℕ) → i < length w.source.components → (1 ≤ rows_in_mcu w.source i) × (rows_in_mcu w.source i ≤ padded_down row.frame (component_at w.source i))
  rows_low i there =
      let v = (component_at w.source i).v in
      let low = (All-get_or HasFactors w.source.components i no_component there is.source.factors).v_low in
      let high : padded_down row.frame (component_at w.source i) ≡ v = ap (λ (g : Frame). padded_down g (component_at w.source i)) lends.framed ∙ ap (λ n. n * v) (one_row w.source is.source) ∙ omega arith in
      by (length w.source.components == 1) v low high
    where
      by : (b : Bool) (v : ℕ) → 1 ≤ v → padded_down row.frame (component_at w.source i) ≡ v → (1 ≤ cond b 1 v) × (cond b 1 v ≤ padded_down row.frame (component_at w.source i))
      by true v low high = (omega arith, omega (arith, low, high))
      by false v low high = (low, omega (arith, high))

  pub sources : (columns rows : List ℕ) → ((i : ℕ) → i < length w.out.components → slice_index columns i ≡ columns_of w i) → ((i : ℕ) → i < length w.out.components → slice_index rows i ≡ rows_in_mcu w.source i)
      → ((i : ℕ) → i < length w.out.components → i < length w.source.components) → HasRowSources row w.out columns rows
  sources columns rows cs rs there = record {
    few = is.framed.count_high;
    some = λ i h. (let e = rs i h in let l = (rows_low i (there i h)).0 in omega (arith, e, l));
    places = λ i x y real.
        (let h = real.component in
        let from = from_row i x y is real in
        let low = rows_low i from.component in
        let wide = (padded_of w.source i (opposite (columns_of w i) x) y is.source from).across in
        let small : y % rows_in_mcu w.source i < rows_in_mcu w.source i = mod-lt y low.0 in
        subst (λ (g : Frame). IsPadded g i (opposite (slice_index columns i) x) (y % slice_index rows i)) (sym lends.framed)
        (subst (λ c. IsPadded (mcu_row_frame w.source) i (opposite c x) (y % slice_index rows i)) (sym (cs i h))
        (subst (λ n. IsPadded (mcu_row_frame w.source) i (opposite (columns_of w i) x) (y % n)) (sym (rs i h))
        (record {
          component = from.component;
          across = wide;
          down = subst (λ (g : Frame). y % rows_in_mcu w.source i < padded_down g (component_at w.source i)) lends.framed (omega (arith, small, low.1));
        }))));
    above = λ i x y. all_above w.source (map_of row) lends.range i x y;
  }

  -- At the places of the MCU row it has the blocks of the picture.
  pub row_due : (others : Blocks) (i x y : ℕ) → AgreeInRows w.source (k + 1) blocks others → IsReal w.out i x y → k * rows_in_mcu w.source i ≤ y → y < (k + 1) * rows_in_mcu w.source i
      → moved_of w.transform w.out others i x y ≡ signed (nat_lt x (columns_of w i)) false (map_of row i (opposite (columns_of w i) x) (y % rows_in_mcu w.source i))
  row_due others i x y agree real low high =
      let R = rows_in_mcu w.source i in
      let c = columns_of w i in
      let from = from_row i x y is real in
      let next : (k + 1) * R ≡ k * R + 1 * R = add-mul k 1 R in
      let d = y - k * R in
      let small : d < R = omega (arith, low, high, next) in
      let whole : k * R + d ≡ y = omega (arith, low) in
      let rest : y % R ≡ d = ap (λ n. n % R) (sym whole) ∙ mod-mul-add k R d small in
      let below = from.down in
      let mine : map_of row i (opposite c x) d ≡ blocks i (opposite c x) y =
      lends.row.same i (opposite c x) d from.component from.across small (omega (arith, whole, below)) ∙ ap (blocks i (opposite c x)) whole in
      moved_is w.transform w.out others i x y is.stays
      ∙ ap (λ (b : List ℤ). signed (nat_lt x c) false b) (sym (agree.same i (opposite c x) y from.component from.across from.down high) ∙ sym mine ∙ ap (λ n. map_of row i (opposite c x) n) (sym rest))

-- a row of zeros
mirrored_zeros : mirrored (zeros 64) ≡ zeros 64
unfolding mirrored
mirrored_zeros = refl

signed_zeros : (b : Bool) → signed b false (zeros 64) ≡ zeros 64
signed_zeros true = mirrored_zeros
signed_zeros false = refl

pub zero_due : {w : MovedScan} (k : ℕ) (blocks others : Blocks) → IsMovedScan w → AgreeInRows w.source (k + 1) blocks others
    → ((i x y : ℕ) → IsReal w.source i x y → k * rows_in_mcu w.source i ≤ y → y < (k + 1) * rows_in_mcu w.source i → blocks i x y ≡ zeros 64)
    → (i x y : ℕ) → IsReal w.out i x y → k * rows_in_mcu w.source i ≤ y → y < (k + 1) * rows_in_mcu w.source i → moved_of w.transform w.out others i x y ≡ zeros 64
zero_due {w} k blocks others is agree clear i x y real low high =
    let c = columns_of w i in
    let from = from_row i x y is real in
    moved_is w.transform w.out others i x y is.stays
    ∙ ap (λ (b : List ℤ). signed (nat_lt x c) false b) (sym (agree.same i (opposite c x) y from.component from.across from.down high) ∙ clear i (opposite c x) y from low high) ∙ signed_zeros (nat_lt x c)

-- AFTER A ROW

fewer_rows : (f : Frame) (k : ℕ) (blocks others : Blocks) → AgreeInRows f (k + 1) blocks others → AgreeInRows f k blocks others
fewer_rows f k blocks others agree = record {
  same = λ i x y there across down low. agree.same i x y there across down (let e : (k + 1) * rows_in_mcu f i ≡ k * rows_in_mcu f i + 1 * rows_in_mcu f i = add-mul k 1 (rows_in_mcu f i) in omega (arith, low, e));
}

-- the blocks themselves
pub same_rows : (f : Frame) (k : ℕ) (blocks : Blocks) → AgreeInRows f k blocks blocks
same_rows f k blocks = record { same = λ i x y there across down low. refl }

-- Pictures whose first MCU rows agree.
pub moved_agree : {w : MovedScan} {k : ℕ} {blocks others : Blocks} {r : RowMover} → HasMoved w k blocks r → AgreeInRows w.source k blocks others → HasMoved w k others r
moved_agree {w} {k} {blocks} {others} {r} has agree = record {
  scan = has.scan;
  frame = has.frame;
  columns = has.columns;
  rows = has.rows;
  units = has.units;
  left = has.left;
  some = record {
    others = has.some.others;
    range = has.some.range;
    agree = record { same = λ i x y there across down low. sym (agree.same i x y there across down low) ∙ has.some.agree.same i x y there across down low };
  };
  keeps = λ more range same. has.keeps more range (record { same = λ i x y there across down low. agree.same i x y there across down low ∙ same.same i x y there across down low });
}

-- A PICTURE IN BOUNDS with the same first MCU rows: with other blocks after them

abbrev patched : Frame → ℕ → Blocks → Blocks → Blocks
patched f k others row i x y = cond (nat_lt y (k * rows_in_mcu f i)) (others i x y) (row i x y)

patched_in : (f : Frame) (k : ℕ) (others row : Blocks) → HasBlocksIn f others → ((i x y : ℕ) → IsBlockIn (bounds f) (row i x y)) → HasBlocksIn f (patched f k others row)
patched_in f k others row range all i x y real = by (nat_lt y (k * rows_in_mcu f i))
  where
    by : (b : Bool) → IsBlockIn (bounds f) (cond b (others i x y) (row i x y))
    by true = range i x y real
    by false = all i x y

patched_agree : (f : Frame) (k : ℕ) (blocks others row : Blocks) → AgreeInRows f k blocks others
    → ((i x y : ℕ) → IsReal f i x y → k * rows_in_mcu f i ≤ y → y < (k + 1) * rows_in_mcu f i → blocks i x y ≡ row i x y) → AgreeInRows f (k + 1) blocks (patched f k others row)
patched_agree f k blocks others row agree here = record {
  same = λ i x y there across down low. ⊎_elim
      (λ (h : y < k * rows_in_mcu f i). (let t : nat_lt y (k * rows_in_mcu f i) ≡ true = grind (arith, nat_tests, h) in
      agree.same i x y there across down h ∙ sym (ap (λ b. cond b (others i x y) (row i x y)) t)))
      (λ (h : k * rows_in_mcu f i ≤ y). (let t : nat_lt y (k * rows_in_mcu f i) ≡ false = grind (arith, nat_tests, h) in
      here i x y (record { component = there; across = across; down = down }) h low ∙ sym (ap (λ b. cond b (others i x y) (row i x y)) t)))
      (cases_lt y (k * rows_in_mcu f i));
}

begins_next : (f : Frame) (k : ℕ) (blocks row : Blocks) → BeginsInBounds f k blocks → ((i x y : ℕ) → IsBlockIn (bounds f) (row i x y))
    → ((i x y : ℕ) → IsReal f i x y → k * rows_in_mcu f i ≤ y → y < (k + 1) * rows_in_mcu f i → blocks i x y ≡ row i x y) → BeginsInBounds f (k + 1) blocks
begins_next f k blocks row some all here = record {
  others = patched f k some.others row;
  range = patched_in f k some.others row some.range all;
  agree = patched_agree f k blocks some.others row some.agree here;
}

begins_row : (f : Frame) (k : ℕ) (blocks : Blocks) (row : Coefs) → LendsRow f k row blocks → BeginsInBounds f k blocks → BeginsInBounds f (k + 1) blocks
begins_row f k blocks row lends some =
    begins_next f k blocks (λ i x y. map_of row i x (y - k * rows_in_mcu f i)) some
    (λ i x y. block_in (bounds f) (map_of row i x (y - k * rows_in_mcu f i)) (lends.range.sizes i x (y - k * rows_in_mcu f i)) (λ n. lends.range.values i x (y - k * rows_in_mcu f i) n))
    (λ i x y real low high.
    (let R = rows_in_mcu f i in
    let next : (k + 1) * R ≡ k * R + 1 * R = add-mul k 1 R in
    let d = y - k * R in
    let whole : k * R + d ≡ y = omega (arith, low) in
    let below = real.down in
    sym (lends.row.same i x d real.component real.across (omega (arith, low, high, next)) (omega (arith, whole, below)) ∙ ap (blocks i x) whole)))

begins_zero : (f : Frame) (k : ℕ) (blocks : Blocks) → ((i x y : ℕ) → IsReal f i x y → k * rows_in_mcu f i ≤ y → y < (k + 1) * rows_in_mcu f i → blocks i x y ≡ zeros 64) → BeginsInBounds f k blocks → BeginsInBounds f (k + 1) blocks
begins_zero f k blocks clear some = begins_next f k blocks (λ i x y. zeros 64) some (λ i x y. zeros_here f) clear

-- none yet
pub begins_none : (f : Frame) (blocks : Blocks) → BeginsInBounds f 0 blocks
begins_none f blocks = record {
  others = λ i x y. zeros 64;
  range = λ i x y real. zeros_here f;
  agree = record { same = λ i x y there across down low. absurd (let z : 0 * rows_in_mcu f i ≡ 0 = omega arith in omega (arith, low, z)) };
}

-- all of them
all_rows_in : (f : Frame) (k i y : ℕ) → IsFrame f → mcu_rows f ≤ k → i < length f.components → y < blocks_down f (component_at f i) → y < k * rows_in_mcu f i
all_rows_in f k i y is all there low = by (length f.components == 1) refl
  where
    by : (b : Bool) → (length f.components == 1) ≡ b → y < k * rows_in_mcu f i
    by true e =
        let one : length f.components ≡ 1 = grind (arith, nat_tests, e) in
        let first : i ≡ 0 = omega (arith, one, there) in
        let rows : mcu_rows f ≡ blocks_down f (component_at f 0) = ap (λ t. cond t (blocks_down f (component_at f 0)) (mcus_down f)) e in
        let each : k * rows_in_mcu f i ≡ k * 1 = ap (λ t. k * cond t 1 (component_at f i).v) e in
        let down : y < blocks_down f (component_at f 0) = subst (λ n. y < blocks_down f (component_at f n)) first low in
        omega (arith, rows, each, down, all)
    by false e =
        let v = (component_at f i).v in
        let rows : mcu_rows f ≡ mcus_down f = ap (λ t. cond t (blocks_down f (component_at f 0)) (mcus_down f)) e in
        let each : k * rows_in_mcu f i ≡ k * v = ap (λ t. k * cond t 1 v) e in
        let padded : blocks_down f (component_at f i) ≤ mcus_down f * v = real_in_padded f.height v (v_max f) (v_max_some f is) in
        let more = mul-le (mcus_down f) v k v (omega (arith, all, rows)) (omega arith) in
        omega (arith, low, padded, more, each)

pub all_in_bounds : {f : Frame} {k : ℕ} {blocks : Blocks} → IsFrame f → mcu_rows f ≤ k → BeginsInBounds f k blocks → HasBlocksIn f blocks
all_in_bounds {f} {k} {blocks} is all some i x y real =
    subst (IsBlockIn (bounds f)) (sym (some.agree.same i x y real.component real.across real.down (all_rows_in f k i y is all real.component real.down))) (some.range i x y real)

-- THE CALLS

module _ {w : MovedScan} {k : ℕ} {blocks : Blocks} {row : Coefs} {r : RowMover} (can : CanMove w k blocks row r) (count : ℕ) (counted : count ≡ min r.units ((r.scan).units).left) where
  can_put : (others : Blocks) → HasBlocksIn w.source others → AgreeInRows w.source (k + 1) blocks others → CanKeep (scan_of w others) r.frame.now (seen_by row r.columns r.rows) count r.scan
  can_put others range agree =
      let has = can.has in
      subst (λ (g : Frame). CanKeep (scan_of w others) g (seen_by row r.columns r.rows) count r.scan) (sym has.frame)
      (agrees r has can.next count counted others (seen_by row r.columns r.rows) range (fewer_rows w.source k blocks others agree)
      (λ i x y real low high.
      (let R = rows_in_mcu w.source i in
      row_due has.scan can.lends others i x y agree real low high
      ∙ ap (λ c. signed (nat_lt x c) false (map_of row i (opposite c x) (y % R))) (sym (has.columns i real.component))
      ∙ ap (λ n. signed (nat_lt x (slice_index r.columns i)) false (map_of row i (opposite (slice_index r.columns i) x) (y % n))) (sym (has.rows i real.component)))))

  pub one_put : (s : WrittenScan) × CanKeep s r.frame.now (seen_by row r.columns r.rows) count r.scan
  one_put = (let b = begins_row w.source k blocks row can.lends can.has.some in (scan_of w b.others, can_put b.others b.range b.agree))

  pub puts_some : (1 ≤ count) × (count ≤ ((r.scan).units).left)
  puts_some = some_put r can.has can.next count counted

  pub moved_row : (new : RowMover) → new.frame.now ≡ r.frame.now → new.columns ≡ r.columns → new.rows ≡ r.rows → new.units ≡ r.units
      → ((s : WrittenScan) → CanKeep s r.frame.now (seen_by row r.columns r.rows) count r.scan → KeepsScan s new.scan) → ((new.scan).units).left + count ≡ ((r.scan).units).left → HasMoved w (k + 1) blocks new
  moved_row new frame columns rows each puts left =
      let has = can.has in
      record {
        scan = has.scan;
        frame = frame ∙ has.frame;
        columns = λ i h. ap (λ cs. slice_index cs i) columns ∙ has.columns i h;
        rows = λ i h. ap (λ cs. slice_index cs i) rows ∙ has.rows i h;
        units = each ∙ has.units;
        left = next_left has left;
        some = begins_row w.source k blocks row can.lends has.some;
        keeps = λ others range agree. puts (scan_of w others) (can_put others range agree);
      }
    where
      next_left : HasMoved w k blocks r → ((new.scan).units).left + count ≡ ((r.scan).units).left → ((new.scan).units).left ≡ all_units w - (k + 1) * units_moved w
      next_left has left =
          left_after (units_moved w) ((r.scan).units).left count ((new.scan).units).left (all_units w) (k * units_moved w) (counted ∙ ap (λ u. min u ((r.scan).units).left) has.units) has.left left
          ∙ (let e : (k + 1) * units_moved w ≡ k * units_moved w + 1 * units_moved w = add-mul k 1 (units_moved w) in let z : all_units w - (k * units_moved w + units_moved w) ≡ all_units w - (k + 1) * units_moved w = omega (arith, e) in z)

-- the same of a row of zeros
module _ {w : MovedScan} {k : ℕ} {blocks : Blocks} {r : RowMover} (can : CanMoveZero w k blocks r) (count : ℕ) (counted : count ≡ min r.units ((r.scan).units).left) where
  can_put_zero : (others : Blocks) → HasBlocksIn w.source others → AgreeInRows w.source (k + 1) blocks others → CanKeep (scan_of w others) r.frame.now no_blocks count r.scan
  can_put_zero others range agree =
      let has = can.has in
      subst (λ (g : Frame). CanKeep (scan_of w others) g no_blocks count r.scan) (sym has.frame)
      (agrees r has can.next count counted others no_blocks range (fewer_rows w.source k blocks others agree) (λ i x y real low high. zero_due k blocks others has.scan agree can.zero i x y real low high))

  pub one_zero : (s : WrittenScan) × CanKeep s r.frame.now no_blocks count r.scan
  one_zero = (let b = begins_zero w.source k blocks can.zero can.has.some in (scan_of w b.others, can_put_zero b.others b.range b.agree))

  pub zero_some : (1 ≤ count) × (count ≤ ((r.scan).units).left)
  zero_some = some_put r can.has can.next count counted

  pub moved_zero : (new : RowMover) → new.frame.now ≡ r.frame.now → new.columns ≡ r.columns → new.rows ≡ r.rows → new.units ≡ r.units
      → ((s : WrittenScan) → CanKeep s r.frame.now no_blocks count r.scan → KeepsScan s new.scan) → ((new.scan).units).left + count ≡ ((r.scan).units).left → HasMoved w (k + 1) blocks new
  moved_zero new frame columns rows each puts left =
      let has = can.has in
      record {
        scan = has.scan;
        frame = frame ∙ has.frame;
        columns = λ i h. ap (λ cs. slice_index cs i) columns ∙ has.columns i h;
        rows = λ i h. ap (λ cs. slice_index cs i) rows ∙ has.rows i h;
        units = each ∙ has.units;
        left = left_after (units_moved w) ((r.scan).units).left count ((new.scan).units).left (all_units w) (k * units_moved w) (counted ∙ ap (λ u. min u ((r.scan).units).left) has.units) has.left left
            ∙ (let e : (k + 1) * units_moved w ≡ k * units_moved w + 1 * units_moved w = add-mul k 1 (units_moved w) in let z : all_units w - (k * units_moved w + units_moved w) ≡ all_units w - (k + 1) * units_moved w = omega (arith, e) in z);
        some = begins_zero w.source k blocks can.zero has.some;
        keeps = λ others range agree. puts (scan_of w others) (can_put_zero others range agree);
      }

-- AT THE END

pub none_is_left : {w : MovedScan} {k : ℕ} {blocks : Blocks} {r : RowMover} → HasAllMoved w k blocks r → ((r.scan).units).left ≡ 0
none_is_left {w} {k} {blocks} {r} h = (let m = none_left k h.has.scan h.all in let l = h.has.left in omega (arith, m, l))

pub keeps_all : {w : MovedScan} {k : ℕ} {blocks : Blocks} {r : RowMover} → HasAllMoved w k blocks r → KeepsScan (scan_of w blocks) r.scan
keeps_all {w} {k} {blocks} {r} h = h.has.keeps blocks (all_in_bounds h.has.scan.source h.all h.has.some) (same_rows w.source k blocks)

pub gives_all : (r : RowMover) (text : List ℕ) → ((s : WrittenScan) → KeepsScan s r.scan → text ≡ written_data s.frame s.head s.set s.interval s.blocks) → GivesMoved r text
gives_all r text gives w k blocks h = gives (scan_of w blocks) (keeps_all h)

pub gives_end : (r : RowMover) (result : Result (List ℕ) NoMemory) → IfOk result (λ made. (s : WrittenScan) → KeepsScan s r.scan → made ≡ written_data s.frame s.head s.set s.interval s.blocks) → IfOk result (GivesMoved r)
gives_end r (Ok text) h = gives_all r text h
gives_end r (Err e) h = h

-- by two facts of a success
pub on_ok : {A B C : Type 0} (r : Result (Unit {0}) NoMemory) → (A → B → C) → OnOk r A → OnOk r B → OnOk r C
on_ok (Ok u) f a b = f a b
on_ok (Err e) f a b = a

-- AT THE BEGINNING

pub begins_moved : (w : MovedScan) (blocks : Blocks) (r : RowMover) → IsMovedScan w → r.frame.now ≡ w.out → ((i : ℕ) → i < length w.out.components → slice_index r.columns i ≡ columns_of w i)
    → ((i : ℕ) → i < length w.out.components → slice_index r.rows i ≡ rows_in_mcu w.source i) → r.units ≡ units_moved w → ((r.scan).units).left ≡ all_units w
    → ((others : Blocks) → HasBlocksIn w.out others → KeepsScan (kept_scan w.out w.head w.set w.interval others) r.scan) → HasMoved w 0 blocks r
begins_moved w blocks r is frame columns rows each left keeps = record {
  scan = is;
  frame = frame;
  columns = columns;
  rows = rows;
  units = each;
  left = left ∙ (let z : 0 * units_moved w ≡ 0 = omega arith in let e : all_units w ≡ all_units w - 0 * units_moved w = omega (arith, z) in e);
  some = begins_none w.source blocks;
  keeps = λ others range agree. keeps (moved_of w.transform w.out others) (moved_in others is range);
}

-- the first block of a component
first_real : (f : Frame) (i : ℕ) → IsFrame f → i < length f.components → (0 < blocks_across f (component_at f i)) × (0 < blocks_down f (component_at f i))
first_real f i is there =
    let factors = All-get_or HasFactors f.components i no_component there is.factors in (
      omega (arith, one_real f.width (component_at f i).h (h_max f) (h_max_some f is) is.width_low factors.h_low),
      omega (arith, one_real f.height (component_at f i).v (v_max f) (v_max_some f is) is.height_low factors.v_low),
    )

-- no component of the output is more than those of the picture
pub count_in : {w : MovedScan} (i : ℕ) → IsMovedScan w → i < length w.out.components → i < length w.source.components
count_in {w} i is there = (from_row i 0 0 is (record { component = there; across = (first_real w.out i is.framed there).0; down = (first_real w.out i is.framed there).1 })).component

-- ZERO ROWS to the end

-- the next of them
pub next_zero : {w : MovedScan} {k : ℕ} {blocks : Blocks} {r : RowMover} → CanMoveZeros w k blocks r → k < mcu_rows w.source → CanMoveZero w k blocks r
next_zero can low = record { has = can.has; next = low; zero = λ i x y real from below. can.zero i x y real from }

-- after it
pub zeros_then : {w : MovedScan} {k : ℕ} {blocks : Blocks} {old new : RowMover} → MovesZero old new → CanMoveZeros w k blocks old → k < mcu_rows w.source → CanMoveZeros w (k + 1) blocks new
zeros_then {w} {k} {blocks} moves can low = record {
  has = moves w k blocks (next_zero can low);
  zero = λ i x y real from.
      (let v = rows_in_mcu w.source i in
      let e : (k + 1) * v ≡ k * v + 1 * v = add-mul k 1 v in
      can.zero i x y real (omega (arith, e, from)));
}

-- fewer units are left
pub fewer_left : {w : MovedScan} {k : ℕ} {blocks : Blocks} {old new : RowMover} → HasMoved w k blocks old → k < mcu_rows w.source → HasMoved w (k + 1) blocks new → ((new.scan).units).left < ((old.scan).units).left
fewer_left {w} {k} before low after =
    let some = some_moved before.scan in
    let more = more_left k before.scan low in
    let e : (k + 1) * units_moved w ≡ k * units_moved w + 1 * units_moved w = add-mul k 1 (units_moved w) in
    let l = before.left in
    let m = after.left in
    omega (arith, some, more, e, l, m)
