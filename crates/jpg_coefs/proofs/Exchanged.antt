-- Grids whose blocks are numbered by rows and by columns.
use Rattle.std.proofs.Common.{◌≡◌, ℕ, zero, suc, ◌+◌, ◌-◌, ◌*◌, ◌/◌, ◌%◌, ◌<◌, ◌≤◌, cond, List, [], ◌∷◌, length, take, get_or, true, false, sym, ap, ◌∙◌, arith, inl, inr}
use Rattle.std.specs.Prelude.{◌⊎◌, sum_by, nat_lt}
use Rattle.std.proofs.lemmas.Bool.{cases_lt}
use Rattle.std.proofs.lemmas.Bool.Decides.{nat_tests}
use Rattle.std.proofs.lemmas.Nat.{mul-add-lt, div-mul-add, mod-mul-add, div_below, mod_below, div-add-mod'}
use Rattle.std.proofs.lemmas.List.Sums.{sum_by-cons}
use Rattle.jpg_coefs.specs.Stored.{turned_place, column_place}

lt_is : (a b : ℕ) → a < b → nat_lt a b ≡ true
lt_is a b h = grind (arith, nat_tests, h)

lt_not : (a b : ℕ) → b ≤ a → nat_lt a b ≡ false
lt_not a b h = grind (arith, nat_tests, h)

-- ONE, of w columns and h rows

pub turned_at : (w h x y : ℕ) → x < w → turned_place w h (y * w + x) ≡ x * h + y
turned_at w h x y lt = ap (λ n. n * h + (y * w + x) / w) (mod-mul-add y w x lt) ∙ ap (λ n. x * h + n) (div-mul-add y w x lt)

some_wide : (w h n : ℕ) → n < w * h → 0 < w
some_wide zero h n lt = absurd (omega (arith, lt))
some_wide (suc w) h n lt = omega arith

row_below : (w h n : ℕ) → n < w * h → n / w < h
row_below w h n lt = div_below n w h (some_wide w h n lt) (omega (arith, lt))

turned_below : (w h n : ℕ) → n < w * h → turned_place w h n < h * w
turned_below w h n lt =
    let b = mul-add-lt (n % w) h (n / w) w (mod_below n w (some_wide w h n lt)) (row_below w h n lt) in
    omega (arith, b)

pub turned_back : (w h n : ℕ) → n < w * h → turned_place h w (turned_place w h n) ≡ n
turned_back w h n lt = turned_at h w (n / w) (n % w) (row_below w h n lt) ∙ div-add-mod' n w

-- GRIDS, one after another

abbrev pub sizes : {C : Type 0} → (C → ℕ) → (C → ℕ) → List C → ℕ
sizes w h cs = sum_by (λ c. w c * h c) cs

module _ {C : Type 0} (w h : C → ℕ) where
  -- the block of grid i at a column and a row
  pub column_at : (cs : List C) (d : C) (i x y : ℕ) → i < length cs → x < w (get_or cs i d) → y < h (get_or cs i d)
      → column_place w h cs (sizes w h (take i cs) + (y * w (get_or cs i d) + x)) ≡ sizes w h (take i cs) + (x * h (get_or cs i d) + y)
  column_at [] d i x y there across down = absurd (omega (arith, there))
  column_at (c ∷ cs) d zero x y there across down =
      let n = y * w c + x in
      let low : n < w c * h c = mul-add-lt y (w c) x (h c) down across in
      let e : 0 + n ≡ n = omega arith in
      let k : x * h c + y ≡ 0 + (x * h c + y) = omega arith in
      ap (column_place w h (c ∷ cs)) e
      ∙ ap (λ b. cond b (turned_place (w c) (h c) n) (w c * h c + column_place w h cs (n - w c * h c))) (lt_is n (w c * h c) low)
      ∙ turned_at (w c) (h c) x y across ∙ k
  column_at (c ∷ cs) d (suc i) x y there across down =
      let rest = sizes w h (take i cs) + (y * w (get_or cs i d) + x) in
      let size = w c * h c in
      let n = sizes w h (take (suc i) (c ∷ cs)) + (y * w (get_or cs i d) + x) in
      let s : sizes w h (take (suc i) (c ∷ cs)) ≡ size + sizes w h (take i cs) = sum_by-cons (λ c. w c * h c) c (take i cs) in
      let e : n - size ≡ rest = omega (arith, s) in
      ap (λ b. cond b (turned_place (w c) (h c) n) (size + column_place w h cs (n - size))) (lt_not n size (omega (arith, s)))
      ∙ ap (λ m. size + column_place w h cs m) e
      ∙ ap (λ m. size + m) (column_at cs d i x y (omega (arith, there)) across down)
      ∙ omega (arith, s)

  -- exchanged twice each number is what it was
  pub column_back : (cs : List C) (n : ℕ) → n < sizes w h cs → (column_place w h cs n < sizes w h cs) × (column_place h w cs (column_place w h cs n) ≡ n)
  column_back [] n lt = absurd (omega (arith, lt))
  column_back (c ∷ cs) n lt = by (λ k. column_back cs k) (cases_lt n (w c * h c))
    where
      size : ℕ
      size = w c * h c

      first : n < size → column_place w h (c ∷ cs) n ≡ turned_place (w c) (h c) n
      first low = ap (λ b. cond b (turned_place (w c) (h c) n) (size + column_place w h cs (n - size))) (lt_is n size low)

      later : size ≤ n → column_place w h (c ∷ cs) n ≡ size + column_place w h cs (n - size)
      later high = ap (λ b. cond b (turned_place (w c) (h c) n) (size + column_place w h cs (n - size))) (lt_not n size high)

      back_first : (m : ℕ) → m < h c * w c → column_place h w (c ∷ cs) m ≡ turned_place (h c) (w c) m
      back_first m low = ap (λ b. cond b (turned_place (h c) (w c) m) (h c * w c + column_place h w cs (m - h c * w c))) (lt_is m (h c * w c) low)

      back_later : (m : ℕ) → column_place h w (c ∷ cs) (size + m) ≡ size + column_place h w cs m
      back_later m =
          let s : h c * w c ≡ size = grind arith in
          let e : size + m - h c * w c ≡ m = omega (arith, s) in
          ap (λ b. cond b (turned_place (h c) (w c) (size + m)) (h c * w c + column_place h w cs (size + m - h c * w c))) (lt_not (size + m) (h c * w c) (omega (arith, s)))
          ∙ ap (λ k. h c * w c + column_place h w cs k) e
          ∙ ap (λ k. k + column_place h w cs m) s

      by : ((k : ℕ) → k < sizes w h cs → (column_place w h cs k < sizes w h cs) × (column_place h w cs (column_place w h cs k) ≡ k)) → (n < size) ⊎ (size ≤ n) → (column_place w h (c ∷ cs) n < sizes w h (c ∷ cs)) × (column_place h w (c ∷ cs) (column_place w h (c ∷ cs) n) ≡ n)
      by others (inl low) =
          let below = turned_below (w c) (h c) n low in
          let s : sizes w h (c ∷ cs) ≡ size + sizes w h cs = sum_by-cons (λ c. w c * h c) c cs in
          let t : h c * w c ≡ size = grind arith in
          (omega (arith, s, t, first low, below), ap (column_place h w (c ∷ cs)) (first low) ∙ back_first (turned_place (w c) (h c) n) below ∙ turned_back (w c) (h c) n low)
      by others (inr high) =
          let s : sizes w h (c ∷ cs) ≡ size + sizes w h cs = sum_by-cons (λ c. w c * h c) c cs in
          let r = others (n - size) (omega (arith, s, lt, high)) in
          (omega (arith, s, later high, r.0), ap (column_place h w (c ∷ cs)) (later high) ∙ back_later (column_place w h cs (n - size)) ∙ omega (arith, high, r.1))

  -- different numbers have different places
  pub columns_apart : (cs : List C) (m n : ℕ) → m < sizes w h cs → n < sizes w h cs → column_place w h cs m ≡ column_place w h cs n → m ≡ n
  columns_apart cs m n a b e = sym ((column_back cs m a).1) ∙ ap (column_place h w cs) e ∙ (column_back cs n b).1
