-- The places of a scan, one after another.
use Rattle.std.proofs.Common.{◌≡◌, ℕ, ◌+◌, ◌*◌, ◌<◌, ◌≤◌, true, false, Bool, List, [], ◌∷◌, ◌++◌, length, drop, get_or, sym, ap, ◌∙◌, arith, ⊎_elim}
use Rattle.std.specs.Prelude.{map, flat_map, nat_lt, if◌then◌else◌, slice_get, Some, ◌&&◌}
use Rattle.std.specs.List.{All}
use Rattle.std.proofs.lemmas.Bool.{cases_lt}
use Rattle.std.proofs.lemmas.Bool.Decides.{nat_tests}
use Rattle.std.proofs.lemmas.List.{append_assoc, drop_more, drop_all}
use Rattle.std.proofs.lemmas.List.Elements.{All-get_or}
use Rattle.jpg_spec.specs.Lists.{below}
use Rattle.jpg_spec.specs.declared.frame.Place.{Place}
use Rattle.jpg_base.specs.declared.cursor.CursorPart.{CursorPart}
use Rattle.jpg_base.specs.Cursor.{IsAt, HasPartFactors, no_part, spot_of, row_left, part_row, below_row, part_spots, after_part, mcu_spots, after_mcu, line_spots, after_line, all_spots, spots_from, spots_left}
use Rattle.jpg_spec.proofs.Basics.Rows.{at_below}
use Rattle.jpg_spec.proofs.Basics.Common.{length_below}

-- the numbers from i on
pub next_below : (n i : ℕ) → i < n → drop i (below n) ≡ i ∷ drop (i + 1) (below n)
next_below n i h = drop_more (below n) i 0 (omega (arith, length_below n)) ∙ ap (λ k. k ∷ drop (i + 1) (below n)) (at_below n i h)

pub none_below : (n i : ℕ) → n ≤ i → drop i (below n) ≡ []
none_below n i h = drop_all i (below n) (omega (arith, length_below n))

level : {A : Type 0} (f : ℕ → List A) (n i : ℕ) → i < n → flat_map f (drop i (below n)) ≡ f i ++ flat_map f (drop (i + 1) (below n))
level f n i h = ap (flat_map f) (next_below n i h)

level_end : {A : Type 0} (f : ℕ → List A) (n i : ℕ) → n ≤ i → flat_map f (drop i (below n)) ≡ []
level_end f n i h = ap (flat_map f) (none_below n i h)

parts_level : {A : Type 0} (f : CursorPart → List A) (parts : List CursorPart) (k : ℕ) → k < length parts → flat_map f (drop k parts) ≡ f (get_or parts k no_part) ++ flat_map f (drop (k + 1) parts)
parts_level f parts k h = ap (flat_map f) (drop_more parts k no_part h)

-- where a row, a part, an MCU and a line begin
part_first : (p : CursorPart) (column row : ℕ) → 1 ≤ p.v → part_spots p column row ≡ row_left p column row 0 0 ++ below_row p column row 0
part_first p column row h = level (part_row p column row) p.v 0 h

mcu_first : (parts : List CursorPart) (row column k : ℕ) → k < length parts → 1 ≤ (get_or parts k no_part).v
    → flat_map (λ p. part_spots p column row) (drop k parts)
    ≡ row_left (get_or parts k no_part) column row 0 0 ++ (below_row (get_or parts k no_part) column row 0 ++ after_part parts column row k)
mcu_first parts row column k h v =
    let p = get_or parts k no_part in
    parts_level (λ q. part_spots q column row) parts k h ∙ ap (λ x. x ++ after_part parts column row k) (part_first p column row v) ∙ append_assoc (row_left p column row 0 0) (below_row p column row 0) (after_part parts column row k)

line_first : (parts : List CursorPart) (wide row column : ℕ) → 1 ≤ length parts → 1 ≤ (get_or parts 0 no_part).v → column < wide
    → flat_map (mcu_spots parts row) (drop column (below wide))
    ≡ row_left (get_or parts 0 no_part) column row 0 0 ++ (below_row (get_or parts 0 no_part) column row 0 ++ (after_part parts column row 0 ++ after_mcu parts wide column row))
line_first parts wide row column some v h =
    let p = get_or parts 0 no_part in
    let r = row_left p column row 0 0 in let b = below_row p column row 0 in let q = after_part parts column row 0 in let m = after_mcu parts wide column row in
    level (mcu_spots parts row) wide column h ∙ ap (λ x. x ++ m) (mcu_first parts row column 0 some v) ∙ append_assoc r (b ++ q) m ∙ ap (λ x. r ++ x) (append_assoc b q m)

pub all_first : (parts : List CursorPart) (wide high row : ℕ) → 1 ≤ length parts → 1 ≤ (get_or parts 0 no_part).v → 1 ≤ wide → row < high
    → flat_map (line_spots parts wide) (drop row (below high)) ≡ spots_from parts wide high row 0 0 0 0
all_first parts wide high row some v w h =
    let p = get_or parts 0 no_part in
    let r = row_left p 0 row 0 0 in let b = below_row p 0 row 0 in let q = after_part parts 0 row 0 in let m = after_mcu parts wide 0 row in let l = after_line parts wide high row in
    level (line_spots parts wide) high row h ∙ ap (λ x. x ++ l) (line_first parts wide row 0 some v w) ∙ append_assoc r (b ++ (q ++ m)) l ∙ ap (λ x. r ++ x) (append_assoc b (q ++ m) l ∙ ap (λ x. b ++ x) (append_assoc q m l))

-- the first place, and what is left after it
row_more : (p : CursorPart) (column row down across : ℕ) → across < p.h → row_left p column row down across ≡ spot_of p (column * p.h + across) (row * p.v + down) ∷ row_left p column row down (across + 1)
row_more p column row down across h = ap (map (λ k. spot_of p (column * p.h + k) (row * p.v + down))) (next_below p.h across h)

row_end : (p : CursorPart) (column row down across : ℕ) → p.h ≤ across → row_left p column row down across ≡ []
row_end p column row down across h = ap (map (λ k. spot_of p (column * p.h + k) (row * p.v + down))) (none_below p.h across h)

pub behind_first : List CursorPart → ℕ → ℕ → ℕ → ℕ → ℕ → ℕ → ℕ → List Place
behind_first parts wide high row column part down across =
    let p = get_or parts part no_part in
    row_left p column row down (across + 1) ++ (below_row p column row down ++ (after_part parts column row part ++ (after_mcu parts wide column row ++ after_line parts wide high row)))

none_here : (parts : List CursorPart) (wide high row column part down across : ℕ) → high ≤ row → spots_left parts wide high row column part down across ≡ []
unfolding spots_left
none_here parts wide high row column part down across h =
    let t : nat_lt row high ≡ false = grind (arith, nat_tests) in
    ap (λ b. if b then spots_from parts wide high row column part down across else []) t

some_here : (parts : List CursorPart) (wide high row column part down across : ℕ) → row < high → spots_left parts wide high row column part down across ≡ spots_from parts wide high row column part down across
unfolding spots_left
some_here parts wide high row column part down across h =
    let t : nat_lt row high ≡ true = grind (arith, nat_tests) in
    ap (λ b. if b then spots_from parts wide high row column part down across else []) t

pub begins : (parts : List CursorPart) (wide high : ℕ) → 1 ≤ length parts → All HasPartFactors parts → 1 ≤ wide → 1 ≤ high → spots_left parts wide high 0 0 0 0 0 ≡ all_spots parts wide high
begins parts wide high some factors w h =
    let v = (All-get_or HasPartFactors parts 0 no_part some factors).v_low in
    some_here parts wide high 0 0 0 0 0 h ∙ sym (all_first parts wide high 0 some v w h)

drop_first : (xs : List Place) (x : Place) (ys : List Place) → xs ≡ x ∷ ys → ys ≡ drop 1 xs
drop_first xs x ys e = sym (ap (drop 1) e)

-- FROM A PLACE: in this row of MCUs, this MCU of it, and this part, row and block of that
module _ (parts : List CursorPart) (wide high row column part down across : ℕ) where
  pub here : IsAt parts wide high row column part down across → row < high
      → spots_left parts wide high row column part down across
      ≡ spot_of (get_or parts part no_part) (column * (get_or parts part no_part).h + across) (row * (get_or parts part no_part).v + down) ∷ behind_first parts wide high row column part down across
  unfolding spots_left behind_first
  here at lt =
      let p = get_or parts part no_part in
      let t : nat_lt row high ≡ true = grind (arith, nat_tests) in
      let rest = below_row p column row down ++ (after_part parts column row part ++ (after_mcu parts wide column row ++ after_line parts wide high row)) in
      ap (λ b. if b then spots_from parts wide high row column part down across else []) t ∙ ap (λ x. x ++ rest) (row_more p column row down across at.at_across)

  -- where places are left the row is one of the grid
  in_grid : {now : List Place} → spots_left parts wide high row column part down across ≡ now → 1 ≤ length now → row < high
  in_grid view some =
      ⊎_elim (λ (h : row < high). h) (λ (h : high ≤ row). absurd (omega (arith, some, ap length view, ap length (none_here parts wide high row column part down across h)))) (cases_lt row high)

  -- THE NEXT ONE

  after_is : {now : List Place} (left : List Place) → IsAt parts wide high row column part down across
      → spots_left parts wide high row column part down across ≡ now → 1 ≤ length now → left ≡ behind_first parts wide high row column part down across
      → left ≡ drop 1 now
  after_is left at view some e =
      let p = get_or parts part no_part in
      e ∙ drop_first (spots_left parts wide high row column part down across) (spot_of p (column * p.h + across) (row * p.v + down)) (behind_first parts wide high row column part down across) (here at (in_grid view some)) ∙ ap (drop 1) view

  pub to_the_right : {now : List Place} → IsAt parts wide high row column part down across → spots_left parts wide high row column part down across ≡ now
      → 1 ≤ length now → spots_left parts wide high row column part down (across + 1) ≡ drop 1 now
  unfolding behind_first
  to_the_right at view some = after_is _ at view some (some_here parts wide high row column part down (across + 1) (in_grid view some))

  -- where the row of the part ends
  row_ends : (get_or parts part no_part).h ≤ across + 1
      → below_row (get_or parts part no_part) column row down ++ (after_part parts column row part ++ (after_mcu parts wide column row ++ after_line parts wide high row))
      ≡ behind_first parts wide high row column part down across
  unfolding behind_first
  row_ends e =
      let p = get_or parts part no_part in
      sym (ap (λ x. x ++ (below_row p column row down ++ (after_part parts column row part ++ (after_mcu parts wide column row ++ after_line parts wide high row)))) (row_end p column row down (across + 1) e))

  pub down_a_row : {now : List Place} → IsAt parts wide high row column part down across → spots_left parts wide high row column part down across ≡ now
      → 1 ≤ length now → (get_or parts part no_part).h ≤ across + 1 → down + 1 < (get_or parts part no_part).v
      → spots_left parts wide high row column part (down + 1) 0 ≡ drop 1 now
  down_a_row at view some e1 h =
      let p = get_or parts part no_part in
      let rest = after_part parts column row part ++ (after_mcu parts wide column row ++ after_line parts wide high row) in
      after_is _ at view some
      (some_here parts wide high row column part (down + 1) 0 (in_grid view some)
      ∙ sym (ap (λ x. x ++ rest) (level (part_row p column row) p.v (down + 1) h) ∙ append_assoc (row_left p column row (down + 1) 0) (below_row p column row (down + 1)) rest)
      ∙ row_ends e1)

  part_ends : (get_or parts part no_part).h ≤ across + 1 → (get_or parts part no_part).v ≤ down + 1
      → after_part parts column row part ++ (after_mcu parts wide column row ++ after_line parts wide high row)
      ≡ behind_first parts wide high row column part down across
  part_ends e1 e2 =
      let p = get_or parts part no_part in
      sym (ap (λ x. x ++ (after_part parts column row part ++ (after_mcu parts wide column row ++ after_line parts wide high row))) (level_end (part_row p column row) p.v (down + 1) e2))
      ∙ row_ends e1

  pub to_a_part : {now : List Place} → IsAt parts wide high row column part down across → spots_left parts wide high row column part down across ≡ now
      → 1 ≤ length now → (get_or parts part no_part).h ≤ across + 1 → (get_or parts part no_part).v ≤ down + 1 → part + 1 < length parts
      → spots_left parts wide high row column (part + 1) 0 0 ≡ drop 1 now
  to_a_part at view some e1 e2 h =
      let q = get_or parts (part + 1) no_part in
      let rest = after_mcu parts wide column row ++ after_line parts wide high row in
      let v = (All-get_or HasPartFactors parts (part + 1) no_part h at.factors).v_low in
      let r = row_left q column row 0 0 in let b = below_row q column row 0 in let k = after_part parts column row (part + 1) in
      after_is _ at view some
      (some_here parts wide high row column (part + 1) 0 0 (in_grid view some)
      ∙ sym (ap (λ x. x ++ rest) (mcu_first parts row column (part + 1) h v) ∙ append_assoc r (b ++ k) rest ∙ ap (λ x. r ++ x) (append_assoc b k rest))
      ∙ part_ends e1 e2)

  mcu_ends : (get_or parts part no_part).h ≤ across + 1 → (get_or parts part no_part).v ≤ down + 1 → length parts ≤ part + 1
      → after_mcu parts wide column row ++ after_line parts wide high row ≡ behind_first parts wide high row column part down across
  mcu_ends e1 e2 e3 =
      sym (ap (λ x. x ++ (after_mcu parts wide column row ++ after_line parts wide high row)) (ap (flat_map (λ p. part_spots p column row)) (drop_all (part + 1) parts e3)))
      ∙ part_ends e1 e2

  pub to_a_column : {now : List Place} → IsAt parts wide high row column part down across → spots_left parts wide high row column part down across ≡ now
      → 1 ≤ length now → (get_or parts part no_part).h ≤ across + 1 → (get_or parts part no_part).v ≤ down + 1 → length parts ≤ part + 1 → column + 1 < wide
      → spots_left parts wide high row (column + 1) 0 0 0 ≡ drop 1 now
  to_a_column at view some e1 e2 e3 h =
      let one : 1 ≤ length parts = omega (arith, at.at_part) in
      let v = (All-get_or HasPartFactors parts 0 no_part one at.factors).v_low in
      let p = get_or parts 0 no_part in
      let r = row_left p (column + 1) row 0 0 in let b = below_row p (column + 1) row 0 in let q = after_part parts (column + 1) row 0 in let m = after_mcu parts wide (column + 1) row in let l = after_line parts wide high row in
      after_is _ at view some
      (some_here parts wide high row (column + 1) 0 0 0 (in_grid view some)
      ∙ sym (ap (λ x. x ++ l) (line_first parts wide row (column + 1) one v h) ∙ append_assoc r (b ++ (q ++ m)) l ∙ ap (λ x. r ++ x) (append_assoc b (q ++ m) l ∙ ap (λ x. b ++ x) (append_assoc q m l)))
      ∙ mcu_ends e1 e2 e3)

  line_ends : (get_or parts part no_part).h ≤ across + 1 → (get_or parts part no_part).v ≤ down + 1 → length parts ≤ part + 1 → wide ≤ column + 1
      → after_line parts wide high row ≡ behind_first parts wide high row column part down across
  line_ends e1 e2 e3 e4 =
      sym (ap (λ x. x ++ after_line parts wide high row) (level_end (mcu_spots parts row) wide (column + 1) e4))
      ∙ mcu_ends e1 e2 e3

  pub to_a_line : {now : List Place} → IsAt parts wide high row column part down across → spots_left parts wide high row column part down across ≡ now
      → 1 ≤ length now → (get_or parts part no_part).h ≤ across + 1 → (get_or parts part no_part).v ≤ down + 1 → length parts ≤ part + 1 → wide ≤ column + 1
      → spots_left parts wide high (row + 1) 0 0 0 0 ≡ drop 1 now
  to_a_line at view some e1 e2 e3 e4 =
      let one : 1 ≤ length parts = omega (arith, at.at_part) in
      let v = (All-get_or HasPartFactors parts 0 no_part one at.factors).v_low in
      let end = line_ends e1 e2 e3 e4 in
      ⊎_elim
      (λ (h : row + 1 < high). after_is _ at view some
      (some_here parts wide high (row + 1) 0 0 0 0 h ∙ sym (all_first parts wide high (row + 1) one v (omega (arith, at.at_column)) h) ∙ end))
      (λ (h : high ≤ row + 1). after_is _ at view some
      (none_here parts wide high (row + 1) 0 0 0 0 h ∙ sym (level_end (line_spots parts wide) high (row + 1) h) ∙ end))
      (cases_lt (row + 1) high)

  pub line_at : {now : List Place} → IsAt parts wide high row column part down across → spots_left parts wide high row column part down across ≡ now
      → 1 ≤ length now → IsAt parts wide high (row + 1) 0 0 0 0
  line_at at view left =
      let some : 1 ≤ length parts = omega (arith, at.at_part) in
      let f = All-get_or HasPartFactors parts 0 no_part some at.factors in
      record { factors = at.factors; at_part = some; at_down = f.v_low; at_across = f.h_low; at_column = omega (arith, at.at_column); at_row = omega (arith, in_grid view left); wide_most = at.wide_most; high_most = at.high_most }

  pub first_here : {now : List Place} → IsAt parts wide high row column part down across → spots_left parts wide high row column part down across ≡ now
      → 1 ≤ length now
      → slice_get now 0
      ≡ Some (spot_of (get_or parts part no_part) (column * (get_or parts part no_part).h + across) (row * (get_or parts part no_part).v + down))
  first_here at view some = ap (λ (l : List Place). slice_get l 0) (sym view ∙ here at (in_grid view some))

-- the first of these places, from its numbers
pub place_here : (left : List Place) (p q : CursorPart) (column across row down : ℕ) (s : Place)
    → slice_get left 0 ≡ Some (spot_of q (column * q.h + across) (row * q.v + down)) → q ≡ p → s.component ≡ p.component → s.x ≡ column * p.h + across
    → s.y ≡ row * p.v + down → s.real ≡ (nat_lt s.x p.wide && nat_lt s.y p.high) → slice_get left 0 ≡ Some s
place_here left p q column across row down s h same ec ex ey er =
    h ∙ ap (λ (r : CursorPart). Some (spot_of r (column * r.h + across) (row * r.v + down))) same
    ∙ ap (λ (n : ℕ). Some (spot_of p n (row * p.v + down))) (sym ex) ∙ ap (λ (n : ℕ). Some (spot_of p s.x n)) (sym ey)
    ∙ ap (λ (b : Bool). (let t : Place = record s { component = p.component; real = b } in Some t)) (sym er)
    ∙ ap (λ (k : ℕ). (let t : Place = record s { component = k } in Some t)) (sym ec)
