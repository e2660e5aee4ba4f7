-- Rows that are made pair by pair, and samples repeated.
use Rattle.std.proofs.Common.{◌≡◌, ℕ, zero, suc, ◌+◌, ◌-◌, ◌*◌, ◌/◌, ◌<◌, ◌≤◌, List, [], ◌∷◌, ◌++◌, length, take, set, get_or, slice_index, flat_map, replicate, add-one, refl, sym, ap, ◌∙◌, arith}
use Rattle.std.proofs.lemmas.Bool.Decides.{nat_tests}
use Rattle.std.proofs.lemmas.List.{take_more_set, take_more, take_all, length-set, append_assoc, append-nil}
use Rattle.std.proofs.lemmas.Grind.{flat_map-append}
use Rattle.jpg_spec.specs.Lists.{below}
use Rattle.jpg_spec_image.specs.Upsampling.{left_of, right_of, column_sum, left_of2, right_of2, repeat_row}

pub two : {a b a' b' : ℕ} → a ≡ a' → b ≡ b' → ◌≡◌ {A = List ℕ} (a ∷ b ∷ []) (a' ∷ b' ∷ [])
two {a} {b} {a'} {b'} ea eb = ap (λ (x : ℕ). (let l : List ℕ = x ∷ b ∷ [] in l)) ea ∙ ap (λ (x : ℕ). (let l : List ℕ = a' ∷ x ∷ [] in l)) eb

-- VALUES
pub left_is : (row : List ℕ) (i : ℕ) → 1 ≤ i → (3 * slice_index row i + slice_index row (i - 1) + 1) / 4 ≡ left_of row i
left_is row i some = grind (arith, nat_tests)

pub right_is : (row : List ℕ) (i : ℕ) → i + 1 < length row → (3 * slice_index row i + slice_index row (i + 1) + 2) / 4 ≡ right_of row i
right_is row i some = grind (arith, nat_tests)

pub right_end : (row : List ℕ) (i : ℕ) → i + 1 ≡ length row → slice_index row i ≡ right_of row i
right_end row i some = grind (arith, nat_tests)

pub left_is2 : (near far : List ℕ) (i : ℕ) → 1 ≤ i → (3 * column_sum near far i + column_sum near far (i - 1) + 8) / 16 ≡ left_of2 near far i
left_is2 near far i some = grind (arith, nat_tests)

pub right_is2 : (near far : List ℕ) (i : ℕ) → i + 1 < length near → (3 * column_sum near far i + column_sum near far (i + 1) + 7) / 16 ≡ right_of2 near far i
right_is2 near far i some = grind (arith, nat_tests)

pub right_end2 : (near far : List ℕ) (i : ℕ) → i + 1 ≡ length near → (4 * column_sum near far i + 7) / 16 ≡ right_of2 near far i
right_end2 near far i some = grind (arith, nat_tests)

-- a value of the code: sums of columns i and j
pub mixed_is : (near far : List ℕ) (i j c d m r : ℕ) → c ≡ column_sum near far i → d ≡ column_sum near far j → r ≡ (3 * c + d + m) / 16
    → r ≡ (3 * column_sum near far i + column_sum near far j + m) / 16
mixed_is near far i j c d m r ec ed e = e ∙ ap (λ x. (3 * x + d + m) / 16) ec ∙ ap (λ x. (3 * column_sum near far i + x + m) / 16) ed

-- 3c + c is 4c
pub four_times : (c more : ℕ) → (3 * c + c + more) / 16 ≡ (4 * c + more) / 16
four_times c more = ap (λ n. n / 16) (omega arith)

-- PAIRS
pub pair_length : (out new : List ℕ) (i j a b : ℕ) → new ≡ set (set out i a) j b → length new ≡ length out
pair_length out new i j a b e = ap length e ∙ length-set (set out i a) j b ∙ length-set out i a

pub pair_step : (f : ℕ → List ℕ) (out new : List ℕ) (i a b : ℕ) → 2 * i + 1 < length out → new ≡ set (set out (2 * i) a) (2 * i + 1) b
    → take (2 * i) out ≡ flat_map f (below i) → ◌≡◌ {A = List ℕ} (a ∷ b ∷ []) (f i) → take (2 * (i + 1)) new ≡ flat_map f (below (i + 1))
pair_step f out new i a b lt is e fi =
    let ys = set out (2 * i) a in
    let len : length ys ≡ length out = length-set out (2 * i) a in
    let n : 2 * (i + 1) ≡ 2 * i + 1 + 1 = omega arith in
    ap (λ m. take m new) n
    ∙ ap (take (2 * i + 1 + 1)) is
    ∙ take_more_set ys (2 * i + 1) b (omega (arith, len, lt))
    ∙ ap (λ zs. zs ++ b ∷ []) (take_more_set out (2 * i) a (omega (arith, lt)))
    ∙ append_assoc (take (2 * i) out) (a ∷ []) (b ∷ [])
    ∙ ap (λ zs. zs ++ a ∷ b ∷ []) e
    ∙ ap (λ zs. flat_map f (below i) ++ zs) (fi ∙ sym (append-nil (f i)))
    ∙ sym (flat_map-append f (below i) (i ∷ []))
    ∙ ap (λ m. flat_map f (below m)) (sym (add-one i))

-- all pairs are there
pub pairs_done : (f : ℕ → List ℕ) (out : List ℕ) (n : ℕ) → 1 ≤ n → length out ≡ 2 * n → take (2 * (n - 1 + 1)) out ≡ flat_map f (below (n - 1 + 1)) → out ≡ flat_map f (below n)
pairs_done f out n some len e =
    let m : n - 1 + 1 ≡ n = omega (arith, some) in
    sym (take_all (2 * (n - 1 + 1)) out (omega (arith, m, len))) ∙ e ∙ ap (λ k. flat_map f (below k)) m

pub moved_to : (f : ℕ → List ℕ) (out : List ℕ) (i n : ℕ) → i ≡ n → take (2 * i) out ≡ flat_map f (below i) → take (2 * n) out ≡ flat_map f (below n)
moved_to f out i n e h = ap (λ k. take (2 * k) out) (sym e) ∙ h ∙ ap (λ k. flat_map f (below k)) e

-- REPEATED
pub replicate_more : (k s : ℕ) → replicate (k + 1) s ≡ replicate k s ++ s ∷ []
replicate_more zero s = refl
replicate_more (suc k) s = ap (λ n. replicate n s) (add-one (suc k)) ∙ ap (λ ys. s ∷ ys) (ap (λ n. replicate n s) (sym (add-one k)) ∙ replicate_more k s)

pub fill_step : (out : List ℕ) (start : List ℕ) (at k s : ℕ) → at + k < length out → take (at + k) out ≡ start ++ replicate k s
    → take (at + (k + 1)) (set out (at + k) s) ≡ start ++ replicate (k + 1) s
fill_step out start at k s lt e =
    let n : at + (k + 1) ≡ at + k + 1 = omega arith in
    ap (λ m. take m (set out (at + k) s)) n
    ∙ take_more_set out (at + k) s lt
    ∙ ap (λ ys. ys ++ s ∷ []) e
    ∙ append_assoc start (replicate k s) (s ∷ [])
    ∙ ap (λ ys. start ++ ys) (sym (replicate_more k s))

pub repeat_none : (times : ℕ) (out : List ℕ) → take (times * 0) out ≡ repeat_row times []
unfolding repeat_row
repeat_none times out = let e : times * 0 ≡ 0 = omega arith in ap (λ n. take n out) e

pub repeat_step : (times i : ℕ) (row old new : List ℕ) → i < length row → take (times * i) old ≡ repeat_row times (take i row)
    → take (times * i + times) new ≡ take (times * i) old ++ replicate times (get_or row i 0) → take (times * (i + 1)) new ≡ repeat_row times (take (i + 1) row)
unfolding repeat_row
repeat_step times i row old new lt e is =
    let n : times * (i + 1) ≡ times * i + times = grind arith in
    ap (λ m. take m new) n ∙ is
    ∙ ap (λ ys. ys ++ replicate times (get_or row i 0)) e
    ∙ ap (λ ys. repeat_row times (take i row) ++ ys) (sym (append-nil (replicate times (get_or row i 0))))
    ∙ sym (flat_map-append (λ s. replicate times s) (take i row) (get_or row i 0 ∷ []))
    ∙ ap (flat_map (λ s. replicate times s)) (sym (take_more row i 0 lt))

pub fill_pair : (out : List ℕ) (n s : ℕ) → n + 2 ≤ length out → take (n + 2) (set (set out n s) (n + 1) s) ≡ take n out ++ replicate 2 s
fill_pair out n s le =
    let first = set out n s in
    let long : length first ≡ length out = length-set out n s in
    let more : n + 2 ≡ n + 1 + 1 = omega arith in
    ap (λ m. take m (set first (n + 1) s)) more
    ∙ take_more_set first (n + 1) s (omega (arith, le, long))
    ∙ ap (λ ys. ys ++ s ∷ []) (take_more_set out n s (omega (arith, le)))
    ∙ append_assoc (take n out) (s ∷ []) (s ∷ [])

pub repeated_once : (row : List ℕ) → row ≡ repeat_row 1 row
unfolding repeat_row
repeated_once [] = refl
repeated_once (s ∷ row) = ap (λ ys. s ∷ ys) (repeated_once row)
