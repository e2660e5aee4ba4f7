-- The samples of an image in a file of bytes are bytes.
use Rattle.std.proofs.Common.{◌≡◌, ℕ, zero, suc, ◌+◌, ◌-◌, ◌*◌, ◌/◌, ◌%◌, ◌<◌, ◌≤◌, ◌==◌, Bool, true, false, cond, not, ◌&&◌, List, [], ◌∷◌, ◌++◌, length, take, drop, map, flat_map, slice_index, refl, sym, ap, ◌∙◌, subst, arith, inl, inr, ⊎_elim, None, Some}
use Rattle.std.specs.Prelude.{All, nat_lt, nat_le}
use Rattle.std.proofs.lemmas.Bool.{cases_lt}
use Rattle.std.proofs.lemmas.Bool.Decides.{nat_tests}
use Rattle.std.proofs.lemmas.List.{append_assoc, append-nil, get_or_past}
use Rattle.std.proofs.Math.Nat.{div-zero, mod-lt}
use Rattle.std.proofs.lemmas.List.Elements.{All-nil, All-cons, All-head, All-tail, All-get_or, All-append, All-push, All-weaker, All-take, All-drop, All-map}
use Rattle.std.proofs.lemmas.List.Concat.{flat_map-cons}
use Rattle.std.proofs.lemmas.Nat.{div_below}
use Rattle.jpg_spec.specs.Lists.{below}
use Rattle.jpg_spec_image.specs.Images.{Image, sample_count, is_wrong, are_right}
use Rattle.jpg_spec_image.specs.ImageText.{turned_round}
use Rattle.jpg_spec_image.specs.PnmText.{pnm_info, greatest_sample, number_fault, are_right_numbers, scaled_sample, AfterLast}
use Rattle.jpg_spec_image.specs.BmpFile.{bmp_depth, colour, colours, bmp_line, bmp_body_samples, used, line, height}
use Rattle.jpg_spec_image.specs.ImageFaults.{pnm, bmp, body_of, one_line, IsPlainWhole, IsBodyWhole, IsImage}
use Rattle.jpg_spec.proofs.Basics.Common.{both, negated, lt_yes, not_lt_of}
use Rattle.jpg_spec_image.proofs.ImageTextRuns.{first_right}
use Rattle.jpg_spec.specs.declared.fault.Fault.TheVariants.{ImageValue}
use Rattle.jpg_spec.specs.declared.frame.Limits.{Limits}
use Rattle.jpg_pnm_bmp.specs.Made.{AreBytes}

-- SCALED SAMPLES

none_scaled : (s : ℕ) → scaled_sample 0 s < 256
none_scaled s = let e : scaled_sample 0 s ≡ 0 = div-zero (255 * s + 0 / 2) in omega (arith, e)

scaled_byte : (most s : ℕ) → s ≤ most → scaled_sample most s < 256
scaled_byte zero s h = none_scaled s
scaled_byte (suc m) s h = div_below (255 * s + suc m / 2) (suc m) 256 (omega arith) (omega (arith, h))

pub scaled_all : (most : ℕ) (xs : List ℕ) → All (λ s. s ≤ most) xs → AreBytes (map (scaled_sample most) xs)
scaled_all most xs h = All-map (λ b. b < 256) (scaled_sample most) xs (All-weaker (λ s. s ≤ most) (λ s. scaled_sample most s < 256) (λ s l. scaled_byte most s l) xs h)

-- NUMBERS: the samples among them are no more than the greatest one

abbrev AreUpTo : List ℕ → Type 0
AreUpTo numbers = All (λ s. s ≤ greatest_sample numbers) (drop 3 numbers)

sample_low : (most n : ℕ) → cond (nat_lt most n) (Some ImageValue) None ≡ None → n ≤ most
sample_low most n e = by (nat_lt most n) refl e
  where
    by : (v : Bool) → nat_lt most n ≡ v → cond v (Some ImageValue) None ≡ None → n ≤ most
    by true p e = cc
    by false p e = not_lt_of most n p

up_to_more : (before : List ℕ) (n : ℕ) → AreUpTo before → number_fault before n ≡ None → AreUpTo (before ++ n ∷ [])
up_to_more [] n u e = All-nil (λ s. s ≤ greatest_sample (n ∷ []))
up_to_more (w ∷ []) n u e = All-nil (λ s. s ≤ greatest_sample (w ∷ n ∷ []))
up_to_more (w ∷ h ∷ []) n u e = All-nil (λ s. s ≤ greatest_sample (w ∷ h ∷ n ∷ []))
up_to_more (w ∷ h ∷ m ∷ samples) n u e = All-push (λ s. s ≤ m) samples n u (sample_low m n e)

pub up_to_right : (format : ℕ) (before numbers : List ℕ) → AreUpTo before → are_right_numbers format before numbers ≡ true → AreUpTo (before ++ numbers)
up_to_right format before [] u e = subst AreUpTo (sym (append-nil before)) u
up_to_right format before (n ∷ numbers) u e =
    let r = first_right format before n numbers e in
    subst AreUpTo (append_assoc before (n ∷ []) numbers) (up_to_right format (before ++ n ∷ []) numbers (up_to_more before n u r.right) r.others)

up_to_last : (bytes : List ℕ) (format : ℕ) (numbers after : List ℕ) → AfterLast bytes format numbers after → AreUpTo numbers
up_to_last bytes format numbers after l =
    subst AreUpTo (sym l.all) (up_to_more l.before l.last (up_to_right format [] l.before (All-nil (λ s. s ≤ 0)) l.read.before.right) l.right)

pub plain_bytes : (bytes after : List ℕ) (image : Image) → IsPlainWhole bytes after image → AreBytes image.samples
plain_bytes bytes after image (format, numbers, l, plain, e) =
    subst (λ (i : Image). AreBytes i.samples) (sym e) (scaled_all (greatest_sample numbers) (drop 3 numbers) (up_to_last bytes format numbers after l))

-- BODIES

byte_low : (count most place b : ℕ) → is_wrong (one_line count (most + 1)) place b ≡ false → place < count → b ≤ most
byte_low count most place b e h =
    let inside : nat_lt (place % count) count ≡ true = lt_yes (place % count) count (mod-lt place (omega (arith, h))) in
    let high : nat_le (most + 1) b ≡ false = sym (ap (λ (v : Bool). v && nat_le (most + 1) b) inside) ∙ e in
    ⊎_elim (λ (a : most < b). (let yes : nat_le (most + 1) b ≡ true = grind (arith, nat_tests, a) in let f : ⊥ = cc in absurd f)) (λ (a : b ≤ most). a) (cases_lt most b)

one_right : (count most place : ℕ) (body : List ℕ) → are_right (one_line count (most + 1)) place body ≡ true → place + length body ≤ count → All (λ s. s ≤ most) body
one_right count most place [] e h = All-nil (λ s. s ≤ most)
one_right count most place (b ∷ body) e h =
    let s = both (not (is_wrong (one_line count (most + 1)) place b)) (are_right (one_line count (most + 1)) (place + 1) body) e in
    All-cons (λ s. s ≤ most) b body (byte_low count most place b (negated (is_wrong (one_line count (most + 1)) place b) s.0) (omega (arith, h)))
    (one_right count most (place + 1) body s.1 (omega (arith, h)))

-- of a body with these numbers
pub pnm_bytes : (format : ℕ) (numbers body : List ℕ) → are_right (body_of (pnm format numbers)) 0 body ≡ true → length body ≤ sample_count (pnm_info format numbers) → AreBytes (map (scaled_sample (greatest_sample numbers)) body)
pnm_bytes format numbers body right few =
    scaled_all (greatest_sample numbers) body (one_right (sample_count (pnm_info format numbers)) (greatest_sample numbers) 0 body right (omega (arith, few)))

-- PARTS OF BYTES

pub front_bytes : (xs ys : List ℕ) → AreBytes (xs ++ ys) → AreBytes xs
front_bytes [] ys h = All-nil (λ b. b < 256)
front_bytes (x ∷ xs) ys h = All-cons (λ b. b < 256) x xs (All-head (λ b. b < 256) x (xs ++ ys) h) (front_bytes xs ys (All-tail (λ b. b < 256) x (xs ++ ys) h))

pub rest_bytes : (xs ys : List ℕ) → AreBytes (xs ++ ys) → AreBytes ys
rest_bytes [] ys h = h
rest_bytes (x ∷ xs) ys h = rest_bytes xs ys (All-tail (λ b. b < 256) x (xs ++ ys) h)

pub flat_bytes : (f : ℕ → List ℕ) (ys : List ℕ) → ((y : ℕ) → AreBytes (f y)) → AreBytes (flat_map f ys)
flat_bytes f [] all = All-nil (λ b. b < 256)
flat_bytes f (y ∷ ys) all = subst AreBytes (sym (flat_map-cons f y ys)) (All-append (λ b. b < 256) (f y) (flat_map f ys) (all y) (flat_bytes f ys all))

-- BMP

pub turned_bytes : (xs : List ℕ) → AreBytes xs → AreBytes (turned_round xs)
turned_bytes [] h = h
turned_bytes (a ∷ []) h = h
turned_bytes (a ∷ b ∷ []) h = h
turned_bytes (a ∷ b ∷ c ∷ xs) h =
    let P : ℕ → Type 0 = λ b. b < 256 in
    let more = All-tail P a (b ∷ c ∷ xs) h in
    let rest = All-tail P b (c ∷ xs) more in
    All-cons P c (b ∷ a ∷ turned_round xs) (All-head P c xs rest)
    (All-cons P b (a ∷ turned_round xs) (All-head P b (c ∷ xs) more) (All-cons P a (turned_round xs) (All-head P a (b ∷ c ∷ xs) h) (turned_bytes xs (All-tail P c xs rest))))

byte_at : (xs : List ℕ) (k : ℕ) → AreBytes xs → slice_index xs k < 256
byte_at xs k h = ⊎_elim (λ (l : k < length xs). All-get_or (λ b. b < 256) xs k 0 l h) (λ (l : length xs ≤ k). (let e : slice_index xs k ≡ 0 = get_or_past xs k 0 l in omega (arith, e))) (cases_lt k (length xs))

colour_bytes : (palette : List ℕ) (n : ℕ) → AreBytes palette → AreBytes (colour palette n)
colour_bytes palette n h =
    let P : ℕ → Type 0 = λ b. b < 256 in
    let r = slice_index palette (4 * n + 2) in
    let g = slice_index palette (4 * n + 1) in
    let b = slice_index palette (4 * n) in
    All-cons P r (g ∷ b ∷ []) (byte_at palette (4 * n + 2) h) (All-cons P g (b ∷ []) (byte_at palette (4 * n + 1) h) (All-cons P b [] (byte_at palette (4 * n) h) (All-nil P)))

colours_bytes : (head palette row : List ℕ) → AreBytes palette → AreBytes row → AreBytes (colours head palette row)
colours_bytes head palette row p r = by (bmp_depth head == 8)
  where
    by : (v : Bool) → AreBytes (cond v (flat_map (colour palette) row) (turned_round row))
    by true = flat_bytes (colour palette) row (λ n. colour_bytes palette n p)
    by false = turned_bytes row r

bmp_bytes : (head palette body : List ℕ) → AreBytes palette → AreBytes body → AreBytes (bmp_body_samples head palette body)
bmp_bytes head palette body p b =
    flat_bytes (λ y. colours head palette (bmp_line head body y)) (below (height head)) (λ y.
    colours_bytes head palette (bmp_line head body y) p
    (All-take (λ b. b < 256) (used head) (drop (line head * (height head - 1 - y)) body) (All-drop (λ b. b < 256) (line head * (height head - 1 - y)) body b)))

pub body_bytes : (bytes : List ℕ) (image : Image) → IsBodyWhole bytes image → AreBytes bytes → AreBytes image.samples
body_bytes bytes image (pnm format numbers, front, body, f, cut, long, right, e) all =
    subst (λ (i : Image). AreBytes i.samples) (sym e) (pnm_bytes format numbers body right (omega (arith, long)))
body_bytes bytes image (bmp head palette, front, body, f, cut, long, right, e) all =
    let both : AreBytes (front ++ body) = subst AreBytes cut all in
    let behind = rest_bytes head (palette ++ f.skipped) (subst AreBytes f.cut (front_bytes front body both)) in
    subst (λ (i : Image). AreBytes i.samples) (sym e) (bmp_bytes head palette body (front_bytes palette f.skipped behind) (rest_bytes front body both))

-- ALL

pub image_bytes : (limits : Limits) (bytes : List ℕ) (image : Image) → IsImage limits bytes image → AreBytes bytes → AreBytes image.samples
image_bytes limits bytes image (inl (n, inside, most, inl (b, plain, after))) all = plain_bytes (take n bytes) (b ∷ []) image plain
image_bytes limits bytes image (inl (n, inside, most, inr body)) all = body_bytes (take n bytes) image body (All-take (λ b. b < 256) n bytes all)
image_bytes limits bytes image (inr (less, none, plain)) all = plain_bytes bytes [] image plain
