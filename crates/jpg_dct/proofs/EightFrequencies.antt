-- Lines of vectors as the rows and columns of a block.
use Rattle.std.proofs.Common.{◌≡◌, ℕ, ◌+◌, ◌-◌, ◌*◌, ◌/◌, ◌<◌, ◌≤◌, List, length, slice_index, map, ℤ, pos, negsuc, ◌+ℤ◌, ◌-ℤ◌, ◌*ℤ◌, ◌≤ℤ◌, nat_abs, sym, ap, ◌∙◌, subst, arith, ⊎_elim}
use Rattle.std.specs.Int.{int_shr}
use Rattle.std.proofs.lemmas.Bool.{cases_lt}
use Rattle.std.proofs.lemmas.Int.{ints}
use Rattle.std.proofs.lemmas.List.Elements.{All-get_or}
use Rattle.jpg_spec.specs.Lists.{below}
use Rattle.jpg_spec_image.specs.Dct.{number_at, column_at, odd_sums}
use Rattle.jpg_spec_image.specs.ForwardDct.{level, woven, even_frequencies, line_frequencies, frequency_row, frequency_rows, frequency_column, forward_dct}
use Rattle.jpg_spec_image.proofs.Frequencies.{InWidth, LineIn, line_below, sum_of, first_is, sum_high, rounded_row, odd_at0, odd_at1, odd_at2, odd_at3, even_at1, even_at2, even_at3}
use Rattle.jpg_spec_image.proofs.CodedBlocks.{number_is}
use Rattle.jpg_dct.specs.declared.forward.lanes.Eight.{Eight}
use Rattle.jpg_dct.specs.Eights.{IsEight, IsLine, vectors, vector, eighth}
use Rattle.jpg_dct.proofs.Several.{EightOf, all8, eight, eight_of, on, same4, same8}
use Rattle.jpg_dct.proofs.Lines.{line_small, row_bound}
use Rattle.jpg_dct.proofs.Eights.{eight_at}

-- SIXTEEN TIMES as large

abbrev pub fourth : ℤ → ℤ
fourth x = int_shr (x +ℤ pos 1024) 11

sixteenth : (x : ℤ) → eighth (x *ℤ pos 16) ≡ fourth x
sixteenth (pos n) = (let e : (n * 16 + 16384) / 32768 ≡ (n + 1024) / 2048 = omega arith in ap pos e)
sixteenth (negsuc n) =
    ⊎_elim
    (λ (a : n < 1024). (let x : (negsuc n *ℤ pos 16) +ℤ pos 16384 ≡ pos (16 * (1023 - n)) = omega (arith, ints, a) in
    let y : negsuc n +ℤ pos 1024 ≡ pos (1023 - n) = omega (arith, ints, a) in
    let e : 16 * (1023 - n) / 32768 ≡ (1023 - n) / 2048 = omega arith in
    ap (λ z. int_shr z 15) x ∙ ap pos e ∙ sym (ap (λ z. int_shr z 11) y)))
    (λ (b : 1024 ≤ n). (let x : (negsuc n *ℤ pos 16) +ℤ pos 16384 ≡ negsuc (16 * (n - 1024) + 15) = omega (arith, ints, b) in
    let y : negsuc n +ℤ pos 1024 ≡ negsuc (n - 1024) = omega (arith, ints, b) in
    let e : (16 * (n - 1024) + 15) / 32768 ≡ (n - 1024) / 2048 = omega arith in
    ap (λ z. int_shr z 15) x ∙ ap negsuc e ∙ sym (ap (λ z. int_shr z 11) y)))
    (cases_lt n 1024)

by_sixteen : (x y : ℤ) → x ≡ y *ℤ pos 16 → eighth x ≡ fourth y
by_sixteen x y e = ap eighth e ∙ sixteenth y

-- sixteen times a difference, and a sum
apart : (a b : ℤ) → (a *ℤ pos 16) -ℤ (b *ℤ pos 16) ≡ (a -ℤ b) *ℤ pos 16
apart a b = omega (arith, ints)

together : (a b : ℤ) → (a *ℤ pos 16) +ℤ (b *ℤ pos 16) ≡ (a +ℤ b) *ℤ pos 16
together a b = omega (arith, ints)

odd_scaled0 : (a b c d : ℤ) → number_at (odd_sums (a *ℤ pos 16) (b *ℤ pos 16) (c *ℤ pos 16) (d *ℤ pos 16)) 0 ≡ number_at (odd_sums a b c d) 0 *ℤ pos 16
odd_scaled0 a b c d = omega (arith, ints, odd_at0 a b c d, odd_at0 (a *ℤ pos 16) (b *ℤ pos 16) (c *ℤ pos 16) (d *ℤ pos 16))

odd_scaled1 : (a b c d : ℤ) → number_at (odd_sums (a *ℤ pos 16) (b *ℤ pos 16) (c *ℤ pos 16) (d *ℤ pos 16)) 1 ≡ number_at (odd_sums a b c d) 1 *ℤ pos 16
odd_scaled1 a b c d = omega (arith, ints, odd_at1 a b c d, odd_at1 (a *ℤ pos 16) (b *ℤ pos 16) (c *ℤ pos 16) (d *ℤ pos 16))

odd_scaled2 : (a b c d : ℤ) → number_at (odd_sums (a *ℤ pos 16) (b *ℤ pos 16) (c *ℤ pos 16) (d *ℤ pos 16)) 2 ≡ number_at (odd_sums a b c d) 2 *ℤ pos 16
odd_scaled2 a b c d = omega (arith, ints, odd_at2 a b c d, odd_at2 (a *ℤ pos 16) (b *ℤ pos 16) (c *ℤ pos 16) (d *ℤ pos 16))

odd_scaled3 : (a b c d : ℤ) → number_at (odd_sums (a *ℤ pos 16) (b *ℤ pos 16) (c *ℤ pos 16) (d *ℤ pos 16)) 3 ≡ number_at (odd_sums a b c d) 3 *ℤ pos 16
odd_scaled3 a b c d = omega (arith, ints, odd_at3 a b c d, odd_at3 (a *ℤ pos 16) (b *ℤ pos 16) (c *ℤ pos 16) (d *ℤ pos 16))

even_scaled0 : (a b c d : ℤ) → number_at (even_frequencies (a *ℤ pos 16) (b *ℤ pos 16) (c *ℤ pos 16) (d *ℤ pos 16)) 0 ≡ number_at (even_frequencies a b c d) 0 *ℤ pos 16
unfolding even_frequencies
even_scaled0 a b c d = omega (arith, ints)

even_scaled1 : (a b c d : ℤ) → number_at (even_frequencies (a *ℤ pos 16) (b *ℤ pos 16) (c *ℤ pos 16) (d *ℤ pos 16)) 1 ≡ number_at (even_frequencies a b c d) 1 *ℤ pos 16
even_scaled1 a b c d = omega (arith, ints, even_at1 a b c d, even_at1 (a *ℤ pos 16) (b *ℤ pos 16) (c *ℤ pos 16) (d *ℤ pos 16))

even_scaled2 : (a b c d : ℤ) → number_at (even_frequencies (a *ℤ pos 16) (b *ℤ pos 16) (c *ℤ pos 16) (d *ℤ pos 16)) 2 ≡ number_at (even_frequencies a b c d) 2 *ℤ pos 16
even_scaled2 a b c d = omega (arith, ints, even_at2 a b c d, even_at2 (a *ℤ pos 16) (b *ℤ pos 16) (c *ℤ pos 16) (d *ℤ pos 16))

even_scaled3 : (a b c d : ℤ) → number_at (even_frequencies (a *ℤ pos 16) (b *ℤ pos 16) (c *ℤ pos 16) (d *ℤ pos 16)) 3 ≡ number_at (even_frequencies a b c d) 3 *ℤ pos 16
even_scaled3 a b c d = omega (arith, ints, even_at3 a b c d, even_at3 (a *ℤ pos 16) (b *ℤ pos 16) (c *ℤ pos 16) (d *ℤ pos 16))

-- a line times sixteen, and a function of what g makes of the ends
abbrev sixteen : EightOf ℤ → EightOf ℤ
sixteen d = eight_of (d.at0 *ℤ pos 16) (d.at1 *ℤ pos 16) (d.at2 *ℤ pos 16) (d.at3 *ℤ pos 16) (d.at4 *ℤ pos 16) (d.at5 *ℤ pos 16) (d.at6 *ℤ pos 16) (d.at7 *ℤ pos 16)

abbrev ends_of : (ℤ → ℤ → ℤ → ℤ → List ℤ) → (ℤ → ℤ → ℤ) → EightOf ℤ → List ℤ
ends_of f g d = f (g d.at0 d.at7) (g d.at1 d.at6) (g d.at2 d.at5) (g d.at3 d.at4)

of_four : (f : ℤ → ℤ → ℤ → ℤ → List ℤ) (n : ℕ) (g : ℤ → ℤ → ℤ) → ((a b : ℤ) → g (a *ℤ pos 16) (b *ℤ pos 16) ≡ g a b *ℤ pos 16)
    → ((a b c d : ℤ) → number_at (f (a *ℤ pos 16) (b *ℤ pos 16) (c *ℤ pos 16) (d *ℤ pos 16)) n ≡ number_at (f a b c d) n *ℤ pos 16)
    → (d : EightOf ℤ) → eighth (number_at (ends_of f g (sixteen d)) n) ≡ fourth (number_at (ends_of f g d) n)
of_four f n g ends scaled d =
    by_sixteen (number_at (ends_of f g (sixteen d)) n) (number_at (ends_of f g d) n)
    (ap (λ xs. number_at xs n) (same4 f (ends d.at0 d.at7) (ends d.at1 d.at6) (ends d.at2 d.at5) (ends d.at3 d.at4))
    ∙ scaled (g d.at0 d.at7) (g d.at1 d.at6) (g d.at2 d.at5) (g d.at3 d.at4))

sixteen_lines : (d : EightOf ℤ) → map eighth (on line_frequencies (sixteen d)) ≡ map fourth (on line_frequencies d)
unfolding woven
sixteen_lines d =
    eight
    (of_four even_frequencies 0 (λ a b. a +ℤ b) together even_scaled0 d)
    (of_four odd_sums 3 (λ a b. a -ℤ b) apart odd_scaled3 d)
    (of_four even_frequencies 1 (λ a b. a +ℤ b) together even_scaled1 d)
    (of_four odd_sums 2 (λ a b. a -ℤ b) apart odd_scaled2 d)
    (of_four even_frequencies 2 (λ a b. a +ℤ b) together even_scaled2 d)
    (of_four odd_sums 1 (λ a b. a -ℤ b) apart odd_scaled1 d)
    (of_four even_frequencies 3 (λ a b. a +ℤ b) together even_scaled3 d)
    (of_four odd_sums 0 (λ a b. a -ℤ b) apart odd_scaled0 d)

-- ROWS

-- the levels of row v
abbrev levels : List ℕ → ℕ → EightOf ℤ
levels s v = eight_of (level s (8 * v)) (level s (8 * v + 1)) (level s (8 * v + 2)) (level s (8 * v + 3)) (level s (8 * v + 4)) (level s (8 * v + 5)) (level s (8 * v + 6)) (level s (8 * v + 7))

column_is_row : (s : List ℕ) (columns : List (List ℤ)) (v : ℕ) → v < 8 → ((u : ℕ) → u < 8 → column_at columns v u ≡ level s (8 * v + u) *ℤ pos 16) → frequency_column columns v ≡ frequency_row s v
unfolding frequency_column frequency_row
column_is_row s columns v lv is =
    let first : level s (8 * v + 0) *ℤ pos 16 ≡ level s (8 * v) *ℤ pos 16 = ap (λ k. level s k *ℤ pos 16) (omega arith) in
    same8 (λ a b c d e f g h. map eighth (line_frequencies a b c d e f g h))
    (is 0 (omega arith) ∙ first) (is 1 (omega arith)) (is 2 (omega arith)) (is 3 (omega arith)) (is 4 (omega arith)) (is 5 (omega arith)) (is 6 (omega arith)) (is 7 (omega arith))
    ∙ sixteen_lines (levels s v)

level_small : (s : List ℕ) (k : ℕ) → slice_index s k < 256 → nat_abs (level s k) ≤ 128
level_small s k h = omega (arith, ints, h)

row_small : (s : List ℕ) (v u : ℕ) → ((k : ℕ) → slice_index s k < 256) → u < 8 → nat_abs (number_at (frequency_row s v) u) ≤ 4096
unfolding frequency_row woven
row_small s v u few lu =
    let h = λ (k : ℕ). level_small s k (few k) in
    let f : List ℤ = on line_frequencies (levels s v) in
    let b = line_small 128 (levels s v)
    (h (8 * v)) (h (8 * v + 1)) (h (8 * v + 2)) (h (8 * v + 3)) (h (8 * v + 4)) (h (8 * v + 5)) (h (8 * v + 6)) (h (8 * v + 7)) in
    All-get_or (λ x. nat_abs x ≤ 4096) (frequency_row s v) u (pos 0) lu
    (all8 (λ x. nat_abs x ≤ 4096) (row_bound (number_at f 0) b.at0) (row_bound (number_at f 1) b.at1) (row_bound (number_at f 2) b.at2) (row_bound (number_at f 3) b.at3) (row_bound (number_at f 4) b.at4) (row_bound (number_at f 5) b.at5) (row_bound (number_at f 6) b.at6) (row_bound (number_at f 7) b.at7))

-- no number of a row is 4096 itself

level_in : (s : List ℕ) (k : ℕ) → slice_index s k < 256 → InWidth (negsuc 127) 255 (level s k)
level_in s k h = record { low = omega (arith, ints, h); high = omega (arith, ints, h) }

first_high : (t : ℤ) → t ≤ℤ pos 1016 → fourth (t *ℤ pos 8192) ≤ℤ pos 4090
first_high (pos n) h = (let e : pos ((n * 8192 + 1024) / 2048) ≤ℤ pos 4090 = omega (arith, ints, h) in e)
first_high (negsuc n) h =
    let x : (negsuc n *ℤ pos 8192) +ℤ pos 1024 ≡ negsuc (n * 8192 + 7167) = omega (arith, ints) in
    let e : negsuc ((n * 8192 + 7167) / 2048) ≤ℤ pos 4090 = omega (arith, ints) in
    subst (λ z. int_shr z 11 ≤ℤ pos 4090) (sym x) e

other_high : (x : ℤ) → nat_abs x ≤ 32768 * 255 → fourth x ≤ℤ pos 4090
other_high x h = (let r : nat_abs (fourth x) ≤ 4080 = rounded_row x 4080 (omega (arith, h)) in omega (arith, ints, r))

row_high : (s : List ℕ) (v u : ℕ) → ((k : ℕ) → slice_index s k < 256) → u < 8 → number_at (frequency_row s v) u ≤ℤ pos 4090
unfolding frequency_row woven
row_high s v u few lu =
    let l = levels s v in
    let h = λ (k : ℕ). level_in s k (few k) in
    let line : LineIn (negsuc 127) 255 l.at0 l.at1 l.at2 l.at3 l.at4 l.at5 l.at6 l.at7 = record {
      at0 = h (8 * v);
      at1 = h (8 * v + 1);
      at2 = h (8 * v + 2);
      at3 = h (8 * v + 3);
      at4 = h (8 * v + 4);
      at5 = h (8 * v + 5);
      at6 = h (8 * v + 6);
      at7 = h (8 * v + 7);
    } in
    let f : List ℤ = on line_frequencies l in
    let b = line_below (negsuc 127) 255 l.at0 l.at1 l.at2 l.at3 l.at4 l.at5 l.at6 l.at7 line in
    let t : on sum_of l ≤ℤ pos 1016 = sum_high (negsuc 127) 255 l.at0 l.at1 l.at2 l.at3 l.at4 l.at5 l.at6 l.at7 line in
    let first : fourth (number_at f 0) ≤ℤ pos 4090 = subst (λ z. fourth z ≤ℤ pos 4090) (sym (first_is l.at0 l.at1 l.at2 l.at3 l.at4 l.at5 l.at6 l.at7)) (first_high (on sum_of l) t) in
    All-get_or (λ x. x ≤ℤ pos 4090) (frequency_row s v) u (pos 0) lu
    (all8 (λ x. x ≤ℤ pos 4090) first (other_high (number_at f 1) b.at1) (other_high (number_at f 2) b.at2) (other_high (number_at f 3) b.at3) (other_high (number_at f 4) b.at4)
    (other_high (number_at f 5) b.at5) (other_high (number_at f 6) b.at6) (other_high (number_at f 7) b.at7))

-- row v after the transposition
pub row_at : (s : List ℕ) (columns rows across : Eight)
    → ((u v : ℕ) → u < 8 → v < 8 → number_at (vector columns u) v ≡ level s (8 * v + u) *ℤ pos 16)
    → ((v : ℕ) → v < 8 → map (column_at (vectors rows) v) (below 8) ≡ frequency_column (vectors columns) v)
    → ((u v : ℕ) → u < 8 → v < 8 → number_at (vector across v) u ≡ number_at (vector rows u) v)
    → (u v : ℕ) → u < 8 → v < 8 → number_at (vector across v) u ≡ number_at (frequency_row s v) u
row_at s columns rows across first second third u v lu lv =
    third u v lu lv ∙ sym (eight_at (column_at (vectors rows) v) u lu)
    ∙ ap (λ l. number_at l u) (second v lv ∙ column_is_row s (vectors columns) v lv (λ u lu. first u v lu lv))

pub rows_small : (s : List ℕ) (across : Eight) → ((k : ℕ) → slice_index s k < 256) → ((v : ℕ) → v < 8 → length (vector across v) ≡ 8)
    → ((u v : ℕ) → u < 8 → v < 8 → number_at (vector across v) u ≡ number_at (frequency_row s v) u) → (v : ℕ) → v < 8 → IsLine (vector across v)
rows_small s across few long is v lv = record {
  small = record { long = long v lv; small = λ u lu. subst (λ x. nat_abs x ≤ 4096) (sym (is u v lu lv)) (row_small s v u few lu) };
  high = λ u lu. subst (λ x. x ≤ℤ pos 4090) (sym (is u v lu lv)) (row_high s v u few lu);
}

pub small_line : (xs : List ℤ) → IsEight 2048 xs → IsLine xs
small_line xs e = record { small = record { long = e.long; small = λ k lt. omega (arith, e.small k lt) }; high = λ k lt. omega (arith, ints, e.small k lt) }

-- COLUMNS

columns_alike : (s : List ℕ) (across : Eight) (u : ℕ) → u < 8 → ((u v : ℕ) → u < 8 → v < 8 → number_at (vector across v) u ≡ number_at (frequency_row s v) u)
    → frequency_column (vectors across) u ≡ frequency_column (frequency_rows s) u
unfolding frequency_column
columns_alike s across u lu is =
    same8 (λ a b c d e f g h. map eighth (line_frequencies a b c d e f g h))
    (is u 0 lu (omega arith)) (is u 1 lu (omega arith)) (is u 2 lu (omega arith)) (is u 3 lu (omega arith)) (is u 4 lu (omega arith)) (is u 5 lu (omega arith)) (is u 6 lu (omega arith)) (is u 7 lu (omega arith))

pub number_at_is : (s : List ℕ) (across done : Eight) → ((u v : ℕ) → u < 8 → v < 8 → number_at (vector across v) u ≡ number_at (frequency_row s v) u)
    → ((u : ℕ) → u < 8 → map (column_at (vectors done) u) (below 8) ≡ frequency_column (vectors across) u)
    → (u v : ℕ) → u < 8 → v < 8 → number_at (vector done v) u ≡ number_at (forward_dct s) (8 * v + u)
number_at_is s across done is last u v lu lv =
    sym (eight_at (column_at (vectors done) u) v lv) ∙ ap (λ l. number_at l v) (last u lu ∙ columns_alike s across u lu is) ∙ sym (number_is s v u lv lu)
