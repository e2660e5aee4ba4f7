-- Where rows stay rows: the rows of blocks and of MCUs of the output that come from one MCU row, and the places of their units.
use Rattle.std.proofs.Common.{◌≡◌, ℕ, ◌+◌, ◌-◌, ◌*◌, ◌/◌, ◌%◌, ◌<◌, ◌≤◌, ◌==◌, Bool, true, false, cond, List, [], ◌∷◌, length, take, drop, get_or, map, refl, sym, ap, ◌∙◌, subst, arith, ⊎_elim}
use Rattle.std.specs.Prelude.{flat_map}
use Rattle.std.specs.List.{All}
use Rattle.std.proofs.Math.Nat.{add-mul, div-add-mod', div-lt_iff_lt-mul, mod-lt}
use Rattle.std.proofs.lemmas.Bool.{cases_lt}
use Rattle.std.proofs.lemmas.Bool.Decides.{nat_tests}
use Rattle.std.proofs.lemmas.List.{get_or-drop, get_or-take, length-drop, length-map, length-take}
use Rattle.std.proofs.lemmas.List.Elements.{All-from_get_or, All-get_or, All-nil}
use Rattle.std.proofs.lemmas.Nat.{mul-le}
use Rattle.jpg_spec.specs.FrameHeader.{IsFrame}
use Rattle.jpg_spec.specs.Geometry.{Frame, blocks_across, blocks_down, component_at, div_up, greatest, mcu_part, mcus_across, mcus_down, place, units, v_max}
use Rattle.jpg_spec.specs.Grids.{Grids}
use Rattle.jpg_spec.specs.Lists.{below}
use Rattle.jpg_spec.specs.ScanRows.{scan_row}
use Rattle.jpg_spec.specs.declared.frame.Place.{Place}
use Rattle.jpg_spec.proofs.Basics.Common.{clash}
use Rattle.jpg_spec.proofs.Headers.FrameFound.{factor_down}
use Rattle.jpg_spec.proofs.McuRows.RowCounts.{single_down}
use Rattle.jpg_spec.proofs.Places.PlacesFound.{covers, least}
use Rattle.jpg_spec.proofs.Places.PlacesSome.{v_max_some}
use Rattle.jpg_spec_move.specs.Moved.{Choice, grayed_frame}
use Rattle.jpg_spec_move.specs.declared.transform.Transform.{Transform}
use Rattle.jpg_spec_move.specs.declared.transform.Transform.TheVariants.{Keep, FlipH, FlipV, Transpose, Transverse, Rotate90, Rotate180, Rotate270}
use Rattle.jpg_base.specs.Cursor.{AreIn, scan_mcus_down}
use Rattle.jpg_base.proofs.ScanPlaces.{all_ids, all_row, all_rows}
use Rattle.jpg_base.proofs.UnitCounts.{length_units}
use Rattle.jpg_file.proofs.ByRow.RowsGiven.{all_down}
use Rattle.jpg_seq.specs.Reader.{row_units, rows_in_mcu}
use Rattle.jpg_seq.proofs.Machines.{row_next}
use Rattle.jpg_transform.specs.Places.{IsOutput, keeps_rows}
use Rattle.jpg_transform.specs.RowsMoved.{mcu_rows, rows_of_output}
use Rattle.jpg_transform.proofs.Showing.{IsMade, made_by}

-- THE NUMBERS DOWN of the output are those of the picture, converted to grayscale.

made_down : (trim : Bool) (t : Transform) (f g : Frame) → keeps_rows t ≡ true → IsMade trim t f g → (g.height ≡ f.height) × (map (λ c. c.v) g.components ≡ map (λ c. c.v) f.components)
made_down true Keep f g k m = (ap (λ (K : Grids). K.height) m, ap (λ (K : Grids). K.down) m)
made_down false Keep f g k m = (ap (λ (K : Grids). K.height) m, ap (λ (K : Grids). K.down) m)
made_down true FlipH f g k m = (ap (λ (K : Grids). K.height) m, ap (λ (K : Grids). K.down) m)
made_down false FlipH f g k m = (ap (λ (K : Grids). K.height) m, ap (λ (K : Grids). K.down) m)
made_down trim FlipV f g k m = absurd (clash false k refl)
made_down trim Transpose f g k m = absurd (clash false k refl)
made_down trim Transverse f g k m = absurd (clash false k refl)
made_down trim Rotate90 f g k m = absurd (clash false k refl)
made_down trim Rotate180 f g k m = absurd (clash false k refl)
made_down trim Rotate270 f g k m = absurd (clash false k refl)

-- equal factors
module _ (f g : Frame) (same : map (λ c. c.v) g.components ≡ map (λ c. c.v) f.components) where
  same_count : length g.components ≡ length f.components
  same_count = sym (length-map g.components (λ c. c.v)) ∙ ap length same ∙ length-map f.components (λ c. c.v)

  same_factor : (i : ℕ) → (component_at g i).v ≡ (component_at f i).v
  same_factor i = factor_down g i ∙ ap (λ vs. get_or vs i 1) same ∙ sym (factor_down f i)

  same_rows : (i : ℕ) → rows_in_mcu g i ≡ rows_in_mcu f i
  same_rows i = ap (λ n. cond (n == 1) 1 (component_at g i).v) same_count ∙ ap (λ v. cond (length f.components == 1) 1 v) (same_factor i)

-- HOW MANY ROWS, by whether the picture is converted to grayscale
pub record HaveRows (f g : Frame) : Type 0 where
  pub each : (i : ℕ) → i < length g.components → rows_of_output f g * rows_in_mcu g i ≡ rows_in_mcu f i
  pub some : 1 ≤ rows_of_output f g
  pub fewer : (k : ℕ) (ids : List ℕ) → AreIn g ids → length ids ≡ length g.components → k < mcu_rows f → k * rows_of_output f g < scan_mcus_down g ids
  pub last : (k : ℕ) (ids : List ℕ) → AreIn g ids → length ids ≡ length g.components → mcu_rows f ≤ k → scan_mcus_down g ids ≤ k * rows_of_output f g

-- One row of several components has `v` rows of eight lines.
lines_down : (h v k : ℕ) → 0 < v → div_up h (8 * v) ≤ k → div_up h 8 ≤ k * v
lines_down h v k some few =
    let all = covers h (8 * v) (omega (arith, some)) in
    let more = mul-le (div_up h (8 * v)) (8 * v) k (8 * v) few (omega arith) in
    let e : k * (8 * v) ≡ (k * v) * 8 = grind arith in
    least h 8 (k * v) (omega arith) (omega (arith, all, more, e))

lines_up : (h v k : ℕ) → 0 < v → div_up h 8 ≤ k * v → div_up h (8 * v) ≤ k
lines_up h v k some few =
    let all = covers h 8 (omega arith) in
    let e : k * (8 * v) ≡ (k * v) * 8 = grind arith in
    least h (8 * v) k (omega (arith, some)) (omega (arith, all, few, e))

less_by : (a b c d : ℕ) → (b ≤ a → d ≤ c) → c < d → a < b
less_by a b c d back low = ⊎_elim (λ (h : a < b). h) (λ (h : b ≤ a). absurd (let z = back h in omega (arith, low, z))) (cases_lt a b)

-- the rows of one component, whatever its factors
one_down : (f : Frame) → IsFrame f → length f.components ≡ 1 → blocks_down f (component_at f 0) ≡ div_up f.height 8
one_down f is one = single_down f.height f.components 0 one (omega arith) is.factors

module _ (f g : Frame) (is : IsFrame f) (framed : IsFrame g) (high : g.height ≡ f.height) where
  -- in colours as they are
  colour_rows : map (λ c. c.v) g.components ≡ map (λ c. c.v) f.components → HaveRows f g
  colour_rows same = record {
    each = λ i there. ap (λ n. n * rows_in_mcu g i) one ∙ (let z : 1 * rows_in_mcu g i ≡ rows_in_mcu g i = omega arith in z) ∙ same_rows f g same i;
    some = omega (arith, one);
    fewer = λ k ids are all low. (let d = down ids are all in let e : k * rows_of_output f g ≡ k * 1 = ap (λ n. k * n) one in omega (arith, low, d, e));
    last = λ k ids are all low. (let d = down ids are all in let e : k * rows_of_output f g ≡ k * 1 = ap (λ n. k * n) one in omega (arith, low, d, e));
  }
    where
      count : length g.components ≡ length f.components
      count = same_count f g same

      one : rows_of_output f g ≡ 1
      one = (let b : (length f.components == length g.components) ≡ true = grind (arith, nat_tests, count) in ap (λ t. cond t 1 (component_at f 0).v) b)

      most : v_max g ≡ v_max f
      most = ap greatest same

      rows : mcu_rows g ≡ mcu_rows f
      rows =
          ap (λ n. cond (n == 1) (blocks_down g (component_at g 0)) (mcus_down g)) count
          ∙ ap (λ n. cond (length f.components == 1) n (mcus_down g))
          (ap (λ h. div_up (div_up (h * (component_at g 0).v) (v_max g)) 8) high ∙ ap (λ v. div_up (div_up (f.height * v) (v_max g)) 8) (same_factor f g same 0) ∙ ap (λ m. div_up (div_up (f.height * (component_at f 0).v) m) 8) most)
          ∙ ap (λ n. cond (length f.components == 1) (blocks_down f (component_at f 0)) n) (ap (λ h. div_up h (8 * v_max g)) high ∙ ap (λ m. div_up f.height (8 * m)) most)

      down : (ids : List ℕ) → AreIn g ids → length ids ≡ length g.components → scan_mcus_down g ids ≡ mcu_rows f
      down ids are all = all_down g ids are all ∙ rows

  -- in gray
  gray_rows : map (λ c. c.v) g.components ≡ 1 ∷ [] → (component_at f 0).v ≡ v_max f → HaveRows f g
  gray_rows same first = by (length f.components == 1) refl
    where
      count : length g.components ≡ 1
      count = sym (length-map g.components (λ c. c.v)) ∙ ap length same

      own : (i : ℕ) → rows_in_mcu g i ≡ 1
      own i = ap (λ n. cond (n == 1) 1 (component_at g i).v) count

      down : (ids : List ℕ) → AreIn g ids → length ids ≡ length g.components → scan_mcus_down g ids ≡ div_up f.height 8
      down ids are all =
          all_down g ids are all ∙ ap (λ n. cond (n == 1) (blocks_down g (component_at g 0)) (mcus_down g)) count ∙ one_down g framed count ∙ ap (λ h. div_up h 8) high

      by : (b : Bool) → (length f.components == 1) ≡ b → HaveRows f g
      by true e =
          let single : length f.components ≡ 1 = grind (arith, nat_tests, e) in
          let one : rows_of_output f g ≡ 1 = (let t : (length f.components == length g.components) ≡ true = grind (arith, nat_tests, count, single) in ap (λ t. cond t 1 (component_at f 0).v) t) in
          let rows : mcu_rows f ≡ div_up f.height 8 = ap (λ t. cond t (blocks_down f (component_at f 0)) (mcus_down f)) e ∙ one_down f is single in
          record {
            each = λ i there. ap (λ n. n * rows_in_mcu g i) one ∙ ap (λ n. 1 * n) (own i) ∙ sym (ap (λ t. cond t 1 (component_at f i).v) e);
            some = omega (arith, one);
            fewer = λ k ids are all low. (let d = down ids are all in let m : k * rows_of_output f g ≡ k * 1 = ap (λ n. k * n) one in omega (arith, low, d, m, rows));
            last = λ k ids are all low. (let d = down ids are all in let m : k * rows_of_output f g ≡ k * 1 = ap (λ n. k * n) one in omega (arith, low, d, m, rows));
          }
      by false e =
          let v = (component_at f 0).v in
          let several : (length f.components == length g.components) ≡ false = ap (λ n. length f.components == n) count ∙ e in
          let n : rows_of_output f g ≡ v = ap (λ t. cond t 1 v) several in
          let some : 0 < v = (let l = v_max_some f is in omega (arith, l, first)) in
          let rows : mcu_rows f ≡ div_up f.height (8 * v) = ap (λ t. cond t (blocks_down f (component_at f 0)) (mcus_down f)) e ∙ ap (λ m. div_up f.height (8 * m)) (sym first) in
          record {
            each = λ i there. ap (λ r. r * rows_in_mcu g i) n ∙ ap (λ r. v * r) (own i)
                ∙ (let first_one : i ≡ 0 = omega (arith, there, count) in let z : v * 1 ≡ v = omega arith in z ∙ ap (λ c. (component_at f c).v) (sym first_one)) ∙ sym (ap (λ t. cond t 1 (component_at f i).v) e);
            some = omega (arith, n, some);
            fewer = λ k ids are all low. (let d = down ids are all in let m : k * rows_of_output f g ≡ k * v = ap (λ r. k * r) n in
                let z = less_by (k * v) (div_up f.height 8) k (div_up f.height (8 * v)) (lines_up f.height v k some) (omega (arith, low, rows)) in omega (arith, z, d, m));
            last = λ k ids are all low. (let d = down ids are all in let m : k * rows_of_output f g ≡ k * v = ap (λ r. k * r) n in
                let z = lines_down f.height v k some (omega (arith, low, rows)) in omega (arith, z, d, m));
          }

pub rows_for : (choice : Choice) (t : Transform) (f g : Frame) → IsFrame f → IsFrame g → keeps_rows t ≡ true → IsOutput choice t f g → HaveRows f g
rows_for choice t f g is framed stays o = by choice.gray (made_down choice.trim t (grayed_frame choice.gray f) g stays (made_by choice t f g o)) o.gray_down
  where
    by : (gray : Bool) → (g.height ≡ (grayed_frame gray f).height) × (map (λ c. c.v) g.components ≡ map (λ c. c.v) (grayed_frame gray f).components) → (gray ≡ true → (component_at f 0).v ≡ v_max f) → HaveRows f g
    by true m first = gray_rows f g is framed m.0 m.1 (first refl)
    by false m first = colour_rows f g is framed m.0 m.1

-- THE PLACES of rows of MCUs

-- in MCU row k
pub record IsOfRow (f : Frame) (k : ℕ) (p : Place) : Type 0 where
  pub low : k * rows_in_mcu f p.component ≤ p.y
  pub high : p.y < (k + 1) * rows_in_mcu f p.component

row_of : (f : Frame) (ids : List ℕ) (k : ℕ) → length ids ≡ length f.components → All (IsOfRow f k) (scan_row f ids k)
row_of f [] k all = All-nil (IsOfRow f k)
row_of f (i ∷ []) k all =
    let one : rows_in_mcu f i ≡ 1 = ap (λ n. cond (n == 1) 1 (component_at f i).v) (sym all) in
    let this : k * rows_in_mcu f i ≡ k * 1 = ap (λ n. k * n) one in
    let next : (k + 1) * rows_in_mcu f i ≡ (k + 1) * 1 = ap (λ n. (k + 1) * n) one in
    all_row (IsOfRow f k) (λ x. place f i x k) (blocks_across f (component_at f i)) (λ x hx. record { low = omega (arith, this); high = omega (arith, next) })
row_of f (i ∷ j ∷ more) k all =
    let ids = i ∷ j ∷ more in
    let several : (length f.components == 1) ≡ false = grind (arith, nat_tests, all) in
    all_rows (IsOfRow f k) (λ mx. flat_map (mcu_part f mx k) ids) (mcus_across f)
    (λ mx hx. all_ids (IsOfRow f k) (mcu_part f mx k) ids
    (λ n hn. let d = get_or ids n 0 in
    let c = component_at f d in
    let this : k * rows_in_mcu f d ≡ k * c.v = ap (λ b. k * cond b 1 c.v) several in
    let next : (k + 1) * rows_in_mcu f d ≡ k * c.v + c.v = ap (λ b. (k + 1) * cond b 1 c.v) several ∙ add-mul k 1 c.v ∙ omega arith in
    all_rows (IsOfRow f k) (λ v. map (λ h. place f d (mx * c.h + h) (k * c.v + v)) (below c.h)) c.v
    (λ v hv. all_row (IsOfRow f k) (λ h. place f d (mx * c.h + h) (k * c.v + v)) c.h (λ h hh. record { low = omega (arith, this); high = omega (arith, next, hv) }))))

-- each place of the scan, by its number
module _ (f : Frame) (ids : List ℕ) (d : Place) (all : length ids ≡ length f.components) where
  of_row : (j : ℕ) → 1 ≤ row_units f ids → j < length (units f ids) → IsOfRow f (j / row_units f ids) (get_or (units f ids) j d)
  of_row j some low =
      let R = row_units f ids in
      let D = scan_mcus_down f ids in
      let q = j / R in
      let r = j % R in
      let e : j ≡ q * R + r = sym (div-add-mod' j R) in
      let small : r < R = mod-lt j some in
      let long : length (units f ids) ≡ D * R = length_units f ids in
      let row : q < D = (div-lt_iff_lt-mul some).1 (omega (arith, low, long)) in
      let k = q * R + (R - R) in
      let first : k ≡ q * R = omega arith in
      let whole : q * R + R ≤ D * R = omega (arith, mul-le (q + 1) R D R (omega (arith, row)) (omega arith), add-mul q 1 R) in
      let l : List Place = take R (drop k (units f ids)) in
      let size : length l ≡ R = omega (arith, length-take R (drop k (units f ids)), length-drop k (units f ids), long, whole, first) in
      let a = row_next (IsOfRow f q) f ids (drop k (units f ids)) q R refl row (omega arith) (row_of f ids q all) in
      let at : get_or l r d ≡ get_or (units f ids) j d =
      get_or-take R (drop k (units f ids)) r d small ∙ get_or-drop k (units f ids) r d ∙ ap (λ (m : ℕ). get_or (units f ids) m d) (omega (arith, first, e)) in
      subst (IsOfRow f q) at (All-get_or (IsOfRow f q) l r d (omega (arith, size, small)) a)

-- between two rows
pub record IsBetween (f : Frame) (r n : ℕ) (p : Place) : Type 0 where
  pub low : r * rows_in_mcu f p.component ≤ p.y
  pub high : p.y < (r + n) * rows_in_mcu f p.component

pub between : (f : Frame) (ids : List ℕ) (r n m : ℕ) → length ids ≡ length f.components → 1 ≤ row_units f ids → m ≤ n * row_units f ids → All (IsBetween f r n) (take m (drop (r * row_units f ids) (units f ids)))
between f ids r n m all some few = All-from_get_or (IsBetween f r n) l none each
  where
    W : ℕ
    W = row_units f ids

    none : Place
    none = place f 0 0 0

    l : List Place
    l = take m (drop (r * W) (units f ids))

    each : (i : ℕ) → i < length l → IsBetween f r n (get_or l i none)
    each i low =
        let j = r * W + i in
        let long = length-take m (drop (r * W) (units f ids)) in
        let left = length-drop (r * W) (units f ids) in
        let inside : j < length (units f ids) = omega (arith, low, long, left) in
        let at : get_or l i none ≡ get_or (units f ids) j none = get_or-take m (drop (r * W) (units f ids)) i none (omega (arith, low, long)) ∙ get_or-drop (r * W) (units f ids) i none in
        let p = get_or (units f ids) j none in
        let row = of_row f ids none all j some inside in
        let first : r ≤ j / W = (⊎_elim (λ (h : j / W < r). absurd (let z : j < r * W = (div-lt_iff_lt-mul some).0 h in omega (arith, z))) (λ (h : r ≤ j / W). h) (cases_lt (j / W) r)) in
        let sum : (r + n) * W ≡ r * W + n * W = add-mul r n W in
        let last : j / W < r + n = (div-lt_iff_lt-mul some).1 (omega (arith, sum, few, low, long)) in
        let c = rows_in_mcu f p.component in
        let least_row = mul-le r c (j / W) c first (omega arith) in
        let most_row = mul-le (j / W + 1) c (r + n) c (omega (arith, last)) (omega arith) in
        let here : IsBetween f r n p = record { low = (let a = row.low in omega (arith, a, least_row)); high = (let a = row.high in omega (arith, a, most_row)) } in
        subst (IsBetween f r n) (sym at) here
