-- Rows of colours, pixel by pixel.
use Rattle.std.proofs.Common.{◌≡◌, ℕ, zero, suc, ◌+◌, ◌*◌, ◌<◌, List, [], ◌∷◌, ◌++◌, length, take, set, get_or, zip, flat_map, add-one, refl, sym, ap, ◌∙◌, arith}
use Rattle.std.proofs.lemmas.List.{take_more_set, take_all, length-set, append_assoc, append-nil}

three_items : (xs : List ℕ) → length xs ≡ 3 → ◌≡◌ {A = List ℕ} (get_or xs 0 0 ∷ get_or xs 1 0 ∷ get_or xs 2 0 ∷ []) xs
three_items (a ∷ b ∷ c ∷ []) e = refl
three_items [] e = absurd (omega (arith, e))
three_items (a ∷ []) e = absurd (omega (arith, e))
three_items (a ∷ b ∷ []) e = absurd (omega (arith, e))
three_items (a ∷ b ∷ c ∷ d ∷ xs) e = absurd (omega (arith, e))

pub put_three : (out pixel : List ℕ) (n : ℕ) → n + 2 < length out → length pixel ≡ 3
    → take (n + 3) (set (set (set out n (get_or pixel 0 0)) (n + 1) (get_or pixel 1 0)) (n + 2) (get_or pixel 2 0)) ≡ take n out ++ pixel
put_three out pixel n lt long =
    let a = get_or pixel 0 0 in
    let b = get_or pixel 1 0 in
    let c = get_or pixel 2 0 in
    let one = set out n a in
    let two = set one (n + 1) b in
    let l1 : length one ≡ length out = length-set out n a in
    let l2 : length two ≡ length one = length-set one (n + 1) b in
    let s3 : n + 3 ≡ n + 2 + 1 = omega arith in
    let s2 : n + 2 ≡ n + 1 + 1 = omega arith in
    ap (λ m. take m (set two (n + 2) c)) s3
    ∙ take_more_set two (n + 2) c (omega (arith, lt, l1, l2))
    ∙ ap (λ m. take m two ++ c ∷ []) s2
    ∙ ap (λ ys. ys ++ c ∷ []) (take_more_set one (n + 1) b (omega (arith, lt, l1)))
    ∙ ap (λ ys. (ys ++ b ∷ []) ++ c ∷ []) (take_more_set out n a (omega (arith, lt)))
    ∙ append_assoc (take n out ++ a ∷ []) (b ∷ []) (c ∷ [])
    ∙ append_assoc (take n out) (a ∷ []) (b ∷ c ∷ [])
    ∙ ap (λ ys. take n out ++ ys) (three_items pixel long)

-- ROWS OF THREE made one, pixel by pixel: each pixel is f of its three samples

abbrev pub Pixel : Type 0
Pixel = ℕ → ℕ → ℕ → List ℕ

abbrev pub row_by : Pixel → List ℕ → List ℕ → List ℕ → List ℕ
row_by f a b c = flat_map (λ p. f p.0 p.1.0 p.1.1) (zip a (zip b c))

next_pixel : (f : Pixel) (a b c : List ℕ) (i : ℕ) → i < length a → length b ≡ length a → length c ≡ length a
    → row_by f (take (suc i) a) (take (suc i) b) (take (suc i) c) ≡ row_by f (take i a) (take i b) (take i c) ++ f (get_or a i 0) (get_or b i 0) (get_or c i 0)
next_pixel f [] b c i lt eb ec = absurd (omega (arith, lt))
next_pixel f (x ∷ xs) [] c i lt eb ec = absurd (omega (arith, eb))
next_pixel f (x ∷ xs) (y ∷ ys) [] i lt eb ec = absurd (omega (arith, ec))
next_pixel f (x ∷ xs) (y ∷ ys) (z ∷ zs) zero lt eb ec = append-nil (f x y z)
next_pixel f (x ∷ xs) (y ∷ ys) (z ∷ zs) (suc i) lt eb ec =
    ap (λ ps. f x y z ++ ps) (next_pixel f xs ys zs i (omega (arith, lt)) (omega (arith, eb)) (omega (arith, ec)))
    ∙ sym (append_assoc (f x y z) (row_by f (take i xs) (take i ys) (take i zs)) (f (get_or xs i 0) (get_or ys i 0) (get_or zs i 0)))

pub pixel_step : (f : Pixel) (a b c old new pixel : List ℕ) (i : ℕ) → i < length a → length b ≡ length a → length c ≡ length a
    → take (3 * i) old ≡ row_by f (take i a) (take i b) (take i c) → take (3 * i + 3) new ≡ take (3 * i) old ++ pixel → pixel ≡ f (get_or a i 0) (get_or b i 0) (get_or c i 0)
    → take (3 * (i + 1)) new ≡ row_by f (take (i + 1) a) (take (i + 1) b) (take (i + 1) c)
pixel_step f a b c old new pixel i lt eb ec e is p =
    let n : 3 * (i + 1) ≡ 3 * i + 3 = omega arith in
    ap (λ m. take m new) n ∙ is
    ∙ ap (λ ps. ps ++ pixel) e
    ∙ ap (λ ps. row_by f (take i a) (take i b) (take i c) ++ ps) p
    ∙ sym (next_pixel f a b c i lt eb ec)
    ∙ ap (λ m. row_by f (take m a) (take m b) (take m c)) (sym (add-one i))

pub pixels_done : (f : Pixel) (a b c new : List ℕ) (i : ℕ) → i ≡ length a → length b ≡ length a → length c ≡ length a → length new ≡ 3 * length a
    → take (3 * i) new ≡ row_by f (take i a) (take i b) (take i c) → new ≡ row_by f a b c
pixels_done f a b c new i is eb ec long e =
    sym (take_all (3 * i) new (omega (arith, is, long))) ∙ e
    ∙ ap (λ x. row_by f x (take i b) (take i c)) (take_all i a (omega (arith, is)))
    ∙ ap (λ x. row_by f a x (take i c)) (take_all i b (omega (arith, is, eb)))
    ∙ ap (row_by f a b) (take_all i c (omega (arith, is, ec)))

-- the three as they are
abbrev pub as_they_are : Pixel
as_they_are a b c = a ∷ b ∷ c ∷ []
