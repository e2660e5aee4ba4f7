-- The numbers of an image in a file are within bounds, and it has as many samples as they say.
use Rattle.std.proofs.Common.{◌≡◌, ℕ, suc, ◌+◌, ◌-◌, ◌*◌, ◌<◌, ◌≤◌, ◌==◌, Bool, true, false, cond, ◌&&◌, List, [], ◌∷◌, ◌++◌, length, take, drop, flat_map, refl, sym, ap, ◌∙◌, subst, arith, inl, inr, None, Some}
use Rattle.std.specs.Prelude.{nat_lt, nat_le}
use Rattle.std.proofs.lemmas.List.{append_assoc, append-nil, length-append, length-map, length-drop, length-take-le}
use Rattle.std.proofs.lemmas.List.Elements.{All-take}
use Rattle.std.proofs.lemmas.List.Concat.{flat_map-cons}
use Rattle.std.proofs.lemmas.Nat.{mul-le, rows}
use Rattle.jpg_spec.specs.Lists.{below}
use Rattle.jpg_spec_image.specs.Images.{Image, is_side, are_few_pixels, sample_count}
use Rattle.jpg_spec_image.specs.ImageText.{turned_round}
use Rattle.jpg_spec_image.specs.PnmText.{is_plain, pnm_info, is_number_due, number_fault, are_right_numbers, AfterLast, greatest_sample, scaled_sample}
use Rattle.jpg_spec_image.specs.BmpFile.{bmp_depth, colour, colours, bmp_line, bmp_body_samples, used, line, height, width}
use Rattle.jpg_spec_image.specs.ImageFaults.{pnm, bmp, image_of, IsBodyFront, IsPlainWhole, IsBodyWhole, IsImage}
use Rattle.jpg_spec.proofs.Basics.Common.{both, le_of, lt_of, not_lt_of, length_below}
use Rattle.jpg_spec_image.proofs.ImageTextRuns.{first_right}
use Rattle.jpg_spec_image.proofs.ImageBodyRuns.{last_three, bmp_sides}
use Rattle.jpg_spec_image.proofs.TargaText.{turned_long}
use Rattle.jpg_spec.specs.declared.fault.Fault.TheVariants.{ImageHeader}
use Rattle.jpg_spec.specs.declared.frame.Limits.{Limits}
use Rattle.jpg_spec_image.specs.declared.image.ImageInfo.{ImageInfo}
use Rattle.jpg_pnm_bmp.specs.Made.{AreBytes, IsRightImage}
use Rattle.jpg_pnm_bmp.specs.PlainSamples.{AreRightNumbers}
use Rattle.jpg_pnm_bmp.proofs.ImageBytes.{plain_bytes, body_bytes}

pub record AreSides (w h : ℕ) : Type 0 where
  pub wide : is_side w ≡ true
  pub high : is_side h ≡ true
  pub few : are_few_pixels w h ≡ true

pub right_numbers : (info : ImageInfo) → AreSides info.width info.height → AreRightNumbers info
right_numbers info s =
    let w = both (nat_le 1 info.width) (nat_le info.width 65500) s.wide in
    let h = both (nat_le 1 info.height) (nat_le info.height 65500) s.high in
    record {
      width_low = le_of 1 info.width w.0;
      width_high = le_of info.width 65500 w.1;
      height_low = le_of 1 info.height h.0;
      height_high = le_of info.height 65500 h.1;
      pixels = le_of (info.width * info.height) 268435456 s.few;
    }

pub right_image : (image : Image) → AreSides image.info.width image.info.height → length image.samples ≡ sample_count image.info → AreBytes image.samples → IsRightImage image
right_image image s count bytes =
    let n = right_numbers image.info s in
    record {
      width_low = n.width_low;
      width_high = n.width_high;
      height_low = n.height_low;
      height_high = n.height_high;
      pixels = n.pixels;
      count = count;
      bytes = bytes;
    }

-- NUMBERS

abbrev SidesSoFar : List ℕ → Type 0
SidesSoFar [] = Unit {0}
SidesSoFar (w ∷ []) = is_side w ≡ true
SidesSoFar (w ∷ h ∷ rest) = AreSides w h

side_of : (v : Bool) → cond v None (Some ImageHeader) ≡ None → v ≡ true
side_of true e = refl
side_of false e = cc

sides_more : (before : List ℕ) (n : ℕ) → SidesSoFar before → number_fault before n ≡ None → SidesSoFar (before ++ n ∷ [])
sides_more [] n s e = side_of (is_side n) e
sides_more (w ∷ []) n s e =
    let t = both (is_side n) (are_few_pixels w n) (side_of (is_side n && are_few_pixels w n) e) in
    record { wide = s; high = t.0; few = t.1 }
sides_more (w ∷ h ∷ rest) n s e = s

sides_right : (format : ℕ) (before numbers : List ℕ) → SidesSoFar before → are_right_numbers format before numbers ≡ true → SidesSoFar (before ++ numbers)
sides_right format before [] s e = subst SidesSoFar (sym (append-nil before)) s
sides_right format before (n ∷ numbers) s e =
    let r = first_right format before n numbers e in
    subst SidesSoFar (append_assoc before (n ∷ []) numbers) (sides_right format (before ++ n ∷ []) numbers (sides_more before n s r.right) r.others)

-- of a text with both sides
pub text_sides : (format w h : ℕ) (rest : List ℕ) → are_right_numbers format [] (w ∷ h ∷ rest) ≡ true → AreSides w h
text_sides format w h rest e = sides_right format [] (w ∷ h ∷ rest) tt e

sides_last : (bytes : List ℕ) (format : ℕ) (numbers after : List ℕ) → AfterLast bytes format numbers after → SidesSoFar numbers
sides_last bytes format numbers after l =
    subst SidesSoFar (sym l.all) (sides_more l.before l.last (sides_right format [] l.before tt l.read.before.right) l.right)

-- P2 AND P3

record HasAll (format : ℕ) (numbers : List ℕ) : Type 0 where
  sides : AreSides (pnm_info format numbers).width (pnm_info format numbers).height
  count : length (drop 3 numbers) ≡ sample_count (pnm_info format numbers)

plain_due : (format : ℕ) (numbers : List ℕ) → is_plain format ≡ true → is_number_due format numbers ≡ nat_lt (length numbers) (3 + sample_count (pnm_info format numbers))
plain_due format numbers e = ap (λ (v : Bool). nat_lt (length numbers) (cond v (3 + sample_count (pnm_info format numbers)) 3)) e

plain_all : (format : ℕ) (before : List ℕ) (last : ℕ) → is_plain format ≡ true → is_number_due format before ≡ true → is_number_due format (before ++ last ∷ []) ≡ false → SidesSoFar (before ++ last ∷ []) → HasAll format (before ++ last ∷ [])
plain_all format [] last plain due none s =
    let l = not_lt_of 1 (3 + sample_count (pnm_info format (last ∷ []))) (sym (plain_due format (last ∷ []) plain) ∙ none) in
    absurd (omega (arith, l))
plain_all format (w ∷ []) last plain due none s =
    let l = not_lt_of 2 (3 + sample_count (pnm_info format (w ∷ last ∷ []))) (sym (plain_due format (w ∷ last ∷ []) plain) ∙ none) in
    absurd (omega (arith, l))
plain_all format (w ∷ h ∷ rest) last plain due none s =
    let count : ℕ = sample_count (pnm_info format (w ∷ h ∷ [])) in
    let a : length (w ∷ h ∷ rest) < 3 + count = lt_of (length (w ∷ h ∷ rest)) (3 + count) (sym (plain_due format (w ∷ h ∷ rest) plain) ∙ due) in
    let b : 3 + count ≤ length (w ∷ h ∷ (rest ++ last ∷ [])) = not_lt_of (length (w ∷ h ∷ (rest ++ last ∷ []))) (3 + count) (sym (plain_due format (w ∷ h ∷ (rest ++ last ∷ [])) plain) ∙ none) in
    let c : length (w ∷ h ∷ (rest ++ last ∷ [])) ≡ length (w ∷ h ∷ rest) + 1 = length-append (w ∷ h ∷ rest) (last ∷ []) in
    let d : length (drop 3 (w ∷ h ∷ (rest ++ last ∷ []))) ≡ length (w ∷ h ∷ (rest ++ last ∷ [])) - 3 = length-drop 3 (w ∷ h ∷ (rest ++ last ∷ [])) in
    let e : length (drop 3 (w ∷ h ∷ (rest ++ last ∷ []))) ≡ count = omega (arith, a, b, c, d) in
    record { sides = s; count = e }

plain_right : (bytes after : List ℕ) (image : Image) → IsPlainWhole bytes after image → IsRightImage image
plain_right bytes after image (format, numbers, l, plain, e) =
    let none = ap (is_number_due format) (sym l.all) ∙ l.none_due in
    let a = subst (HasAll format) (sym l.all) (plain_all format l.before l.last plain l.read.before.due none (subst SidesSoFar l.all (sides_last bytes format numbers after l))) in
    let w : IsPlainWhole bytes after (image_of (pnm format numbers) (drop 3 numbers)) = (format, numbers, l, plain, refl) in
    subst IsRightImage (sym e)
    (right_image (image_of (pnm format numbers) (drop 3 numbers)) a.sides (length-map (drop 3 numbers) (scaled_sample (greatest_sample numbers)) ∙ a.count) (plain_bytes bytes after (image_of (pnm format numbers) (drop 3 numbers)) w))

-- BMP

pub long_all : (f : ℕ → List ℕ) (n : ℕ) (ys : List ℕ) → ((y : ℕ) → length (f y) ≡ n) → length (flat_map f ys) ≡ length ys * n
long_all f n [] all = omega arith
long_all f n (y ∷ ys) all =
    ap length (flat_map-cons f y ys) ∙ length-append (f y) (flat_map f ys) ∙ ap (λ k. k + length (flat_map f ys)) (all y) ∙ ap (λ k. n + k) (long_all f n ys all) ∙ more (length ys) n
  where
    more : (k n : ℕ) → n + k * n ≡ suc k * n
    more k n = grind (arith, rows)

long_line : (head body : List ℕ) (y : ℕ) → length body ≡ line head * (height head - 1) + used head → length (bmp_line head body y) ≡ used head
long_line head body y long =
    let least : line head * (height head - 1 - y) ≤ line head * (height head - 1) = mul-le (line head) (height head - 1 - y) (line head) (height head - 1) (omega arith) (omega arith) in
    let left = length-drop (line head * (height head - 1 - y)) body in
    length-take-le (used head) (drop (line head * (height head - 1 - y)) body) (omega (arith, long, least, left))

long_row : (head palette row : List ℕ) → length row ≡ used head → length (colours head palette row) ≡ 3 * width head
long_row head palette row long = by (bmp_depth head == 8) long
  where
    by : (v : Bool) → length row ≡ cond v (width head) (3 * width head) → length (cond v (flat_map (colour palette) row) (turned_round row)) ≡ 3 * width head
    by true e = (let a = long_all (colour palette) 3 row (λ n. refl) in omega (arith, a, e))
    by false e = turned_long row ∙ e

bmp_count : (head palette body : List ℕ) → length body ≡ line head * (height head - 1) + used head → length (bmp_body_samples head palette body) ≡ height head * (3 * width head)
bmp_count head palette body long =
    long_all (λ y. colours head palette (bmp_line head body y)) (3 * width head) (below (height head)) (λ y. long_row head palette (bmp_line head body y) (long_line head body y long))
    ∙ ap (λ n. n * (3 * width head)) (length_below (height head))

-- BODIES

pub raw_sides : (format : ℕ) (numbers front : List ℕ) → IsBodyFront (pnm format numbers) front → AreSides (pnm_info format numbers).width (pnm_info format numbers).height
raw_sides format numbers front (b, l, raw, space) =
    let t = last_three front format numbers (b ∷ []) raw l in
    subst (λ (ns : List ℕ). AreSides (pnm_info format ns).width (pnm_info format ns).height) (sym t.all) (subst SidesSoFar t.all (sides_last front format numbers (b ∷ []) l))

body_right : (bytes : List ℕ) (image : Image) → IsBodyWhole bytes image → AreBytes bytes → IsRightImage image
body_right bytes image (pnm format numbers, front, body, f, cut, long, right, e) all =
    let samples = body_bytes bytes (image_of (pnm format numbers) body) (pnm format numbers, front, body, f, cut, long, right, refl) all in
    subst IsRightImage (sym e) (right_image (image_of (pnm format numbers) body) (raw_sides format numbers front f) (length-map body (scaled_sample (greatest_sample numbers)) ∙ long) samples)
body_right bytes image (bmp head palette, front, body, f, cut, long, right, e) all =
    let samples = body_bytes bytes (image_of (bmp head palette) body) (bmp head palette, front, body, f, cut, long, right, refl) all in
    let b = bmp_sides head f.header.right in
    subst IsRightImage (sym e) (right_image (image_of (bmp head palette) body) (record { wide = b.wide; high = b.high; few = b.few }) (bmp_count head palette body long) samples)

pub image_right : (limits : Limits) (bytes : List ℕ) (image : Image) → IsImage limits bytes image → AreBytes bytes → IsRightImage image
image_right limits bytes image (inl (n, inside, most, inl (b, plain, after))) all = plain_right (take n bytes) (b ∷ []) image plain
image_right limits bytes image (inl (n, inside, most, inr body)) all = body_right (take n bytes) image body (All-take (λ b. b < 256) n bytes all)
image_right limits bytes image (inr (less, none, plain)) all = plain_right bytes [] image plain
