-- The remaining places of a scan of one component.
use Rattle.std.proofs.Common.{◌≡◌, ℕ, ◌+◌, ◌-◌, ◌*◌, ◌/◌, ◌%◌, ◌<◌, ◌≤◌, true, List, [], ◌∷◌, length, drop, drop-drop, get_or, sym, ap, ◌∙◌, arith, ⊎_elim}
use Rattle.std.specs.Prelude.{nat_lt, ◌&&◌, slice_get, Some}
use Rattle.std.proofs.Math.Nat.{add-mul, mul-le-mul_right, div-add-mod'}
use Rattle.std.proofs.lemmas.Bool.{cases_lt}
use Rattle.std.proofs.lemmas.Bool.Decides.{nat_tests}
use Rattle.std.proofs.lemmas.List.{get_or-drop, get_or-map, length-drop, length-map}
use Rattle.std.proofs.lemmas.Option.{slice_get-get_or}
use Rattle.jpg_spec.specs.Lists.{below}
use Rattle.jpg_spec.specs.Geometry.{Frame, units, component_at, blocks_across, blocks_down}
use Rattle.jpg_spec.specs.declared.frame.Place.{Place}
use Rattle.jpg_spec.proofs.Basics.Common.{length_below}
use Rattle.jpg_spec.proofs.Basics.Rows.{at_below}
use Rattle.jpg_base.proofs.UnitCounts.{length_rows, at_row}
use Rattle.jpg_prog_read.specs.GridPlaces.{grid_row, grid_places, places_from, IsAtPlace}

-- ALL OF THEM

pub all_places : (f : Frame) (i : ℕ) → places_from i (blocks_across f (component_at f i)) (blocks_down f (component_at f i)) 0 0 ≡ units f (i ∷ [])
unfolding places_from units
all_places f i =
    let wide = blocks_across f (component_at f i) in
    let z : 0 * wide + 0 ≡ 0 = omega arith in
    ap (λ n. drop n (grid_places i wide (blocks_down f (component_at f i)))) z

row_long : (i wide high y : ℕ) → length (grid_row i wide high y) ≡ wide
row_long i wide high y = length-map (below wide) (λ x. (let p : Place = record { component = i; x = x; y = y; real = nat_lt x wide && nat_lt y high } in p)) ∙ length_below wide

grid_long : (i wide high : ℕ) → length (grid_places i wide high) ≡ high * wide
grid_long i wide high = length_rows (grid_row i wide high) high wide (row_long i wide high)

pub left_long : (i wide high column row : ℕ) → length (places_from i wide high column row) ≡ high * wide - (row * wide + column)
unfolding places_from
left_long i wide high column row = length-drop (row * wide + column) (grid_places i wide high) ∙ ap (λ n. n - (row * wide + column)) (grid_long i wide high)

-- while some are left the row is one of the grid
pub in_rows : {now : List Place} (i wide high column row : ℕ) → places_from i wide high column row ≡ now → 1 ≤ length now → row < high
in_rows i wide high column row view some =
    ⊎_elim (λ (h : row < high). h)
    (λ (h : high ≤ row). absurd (omega (arith, some, ap length view, left_long i wide high column row, mul-le-mul_right wide h))) (cases_lt row high)

-- THE FIRST

place_is : (i wide high x y : ℕ) (d : Place) → x < wide → y < high → get_or (grid_row i wide high y) x d ≡ (let p : Place = record { component = i; x = x; y = y; real = true } in p)
place_is i wide high x y d across down =
    let g : ℕ → Place = λ x. (let p : Place = record { component = i; x = x; y = y; real = nat_lt x wide && nat_lt y high } in p) in
    let a : nat_lt x wide ≡ true = grind (arith, nat_tests, across) in
    let b : nat_lt y high ≡ true = grind (arith, nat_tests, down) in
    get_or-map g (below wide) x 0 d (omega (arith, length_below wide, across)) ∙ ap g (at_below wide x across)
    ∙ ap (λ t. (let p : Place = record { component = i; x = x; y = y; real = t && nat_lt y high } in p)) a
    ∙ ap (λ t. (let p : Place = record { component = i; x = x; y = y; real = t } in p)) b

pub first_left : {now : List Place} (i wide high column row : ℕ) → IsAtPlace wide high column row → places_from i wide high column row ≡ now → 1 ≤ length now
    → slice_get now 0 ≡ Some (record { component = i; x = column; y = row; real = true })
unfolding places_from
first_left {now} i wide high column row at view some =
    let d : Place = record { component = i; x = column; y = row; real = true } in
    let n = row * wide + column in
    let z : n + 0 ≡ n = omega arith in
    slice_get-get_or now 0 d some
    ∙ ap (λ (p : Place). Some p)
    (ap (λ (l : List Place). get_or l 0 d) (sym view) ∙ get_or-drop n (grid_places i wide high) 0 d ∙ ap (λ k. get_or (grid_places i wide high) k d) z
    ∙ at_row (grid_row i wide high) high wide row column d (row_long i wide high) (in_rows i wide high column row view some) at.at_column
    ∙ place_is i wide high column row d at.at_column (in_rows i wide high column row view some))

-- FURTHER ONES: those at so many more

pub further : {now : List Place} (i wide high column row x y count : ℕ) → places_from i wide high column row ≡ now → y * wide + x ≡ row * wide + column + count → places_from i wide high x y ≡ drop count now
unfolding places_from
further i wide high column row x y count view e =
    ap (λ n. drop n (grid_places i wide high)) e ∙ sym (drop-drop count (row * wide + column) (grid_places i wide high)) ∙ ap (drop count) view

-- at the start of the next row, and beyond
pub row_down : (wide column row : ℕ) → column < wide → wide ≤ column + 1 → (row + 1) * wide + 0 ≡ row * wide + column + 1
row_down wide column row at h = let e = add-mul row 1 wide in omega (arith, e, at, h)

pub rows_down : (wide column row count below : ℕ) → column < wide → wide - column ≤ count → below ≡ count - (wide - column) → (row + (1 + below / wide)) * wide + below % wide ≡ row * wide + column + count
rows_down wide column row count below at h e =
    let a = add-mul row (1 + below / wide) wide in
    let b = add-mul 1 (below / wide) wide in
    let c = div-add-mod' below wide in
    omega (arith, a, b, c, at, h, e)

-- which is one of the grid, or the one after it
pub row_within : {now : List Place} (i wide high column row count x y : ℕ) → column < wide → places_from i wide high column row ≡ now → 1 ≤ count → count ≤ length now → y * wide + x ≡ row * wide + column + count → y ≤ high
row_within i wide high column row count x y at view one some e =
    ⊎_elim (λ (h : high < y). (let a : (high + 1) * wide ≤ y * wide = mul-le-mul_right wide (omega (arith, h)) in
    let b = add-mul high 1 wide in
    absurd (omega (arith, a, b, e, one, some, ap length view, left_long i wide high column row, at))))
    (λ (h : y ≤ high). h) (cases_lt high y)
