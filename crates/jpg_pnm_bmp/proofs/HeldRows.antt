-- Rows of one length, stored one after another.
use Rattle.std.proofs.Common.{◌≡◌, ℕ, zero, suc, ◌+◌, ◌-◌, ◌*◌, ◌<◌, ◌≤◌, List, [], ◌∷◌, ◌++◌, length, take, drop, get_or, refl, sym, add-one, ap, ◌∙◌, arith}
use Rattle.std.proofs.Math.Nat.{add-mul, zero-mul}
use Rattle.std.proofs.lemmas.List.{take_all, length-take-le, take-append-le, drop-append-le, drop-drop, length-drop}
use Rattle.jpg_pnm_bmp.specs.Ends.{rows_of}

pub length_rows : (n long : ℕ) (bytes : List ℕ) → length (rows_of n long bytes) ≡ n
length_rows zero long bytes = refl
length_rows (suc n) long bytes = ap suc (length_rows n long (drop long bytes))

suc_times : (n long : ℕ) → suc n * long ≡ n * long + long
suc_times n long = ap (λ m. m * long) (sym (add-one n)) ∙ add-mul n 1 long ∙ (let e : n * long + 1 * long ≡ n * long + long = omega arith in e)

-- one more row
pub rows_more : (n long : ℕ) (bytes row : List ℕ) → length bytes ≡ n * long → length row ≡ long → rows_of (suc n) long (bytes ++ row) ≡ rows_of n long bytes ++ row ∷ []
rows_more zero long [] row whole is = ap (λ r. r ∷ []) (take_all long row (omega (arith, is)))
rows_more zero long (b ∷ bytes) row whole is = absurd (let e : length (b ∷ bytes) ≡ 0 = whole ∙ zero-mul long in omega (arith, e))
rows_more (suc n) long bytes row whole is =
    let all : length bytes ≡ n * long + long = whole ∙ suc_times n long in
    let some : long ≤ length bytes = omega (arith, all) in
    let fewer : length (drop long bytes) ≡ n * long = length-drop long bytes ∙ (let e : length bytes - long ≡ n * long = omega (arith, all) in e) in
    ap (λ r. r ∷ rows_of (suc n) long (drop long (bytes ++ row))) (take-append-le long bytes row some)
    ∙ ap (λ r. take long bytes ∷ rows_of (suc n) long r) (drop-append-le long bytes row some)
    ∙ ap (λ r. take long bytes ∷ r) (rows_more n long (drop long bytes) row fewer is)

-- a row at its place
pub row_at : (n k long : ℕ) (bytes : List ℕ) → k < n → get_or (rows_of n long bytes) k [] ≡ take long (drop (k * long) bytes)
row_at zero k long bytes h = absurd (omega (arith, h))
row_at (suc n) zero long bytes h = ap (λ m. take long (drop m bytes)) (sym (zero-mul long))
row_at (suc n) (suc k) long bytes h =
    row_at n k long (drop long bytes) (omega (arith, h)) ∙ ap (take long) (drop-drop (k * long) long bytes ∙ ap (λ m. drop m bytes) (let e : long + k * long ≡ suc k * long = omega (arith, suc_times k long) in e))

-- and its length
pub row_long : (n k long : ℕ) (bytes : List ℕ) → length bytes ≡ n * long → k < n → length (get_or (rows_of n long bytes) k []) ≡ long
row_long zero k long bytes whole h = absurd (omega (arith, h))
row_long (suc n) zero long bytes whole h = length-take-le long bytes (omega (arith, whole ∙ suc_times n long))
row_long (suc n) (suc k) long bytes whole h =
    let all : length bytes ≡ n * long + long = whole ∙ suc_times n long in
    row_long n k long (drop long bytes) (length-drop long bytes ∙ (let e : length bytes - long ≡ n * long = omega (arith, all) in e)) (omega (arith, h))
