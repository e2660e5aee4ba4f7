-- Reading the header or the body of an image gives its defined state; so does reading what is complete, or has a fault.
use Rattle.std.proofs.Common.{◌≡◌, ℕ, zero, suc, ◌+◌, ◌*◌, ◌<◌, ◌≤◌, Bool, true, false, cond, not, ◌&&◌, ◌==◌, List, [], ◌∷◌, ◌++◌, length, take, refl, sym, ap, ◌∙◌, subst, arith, inl, inr, None, Some}
use Rattle.std.specs.Prelude.{◌||◌, nat_lt, nat_le}
use Rattle.std.proofs.lemmas.Bool.Decides.{nat_tests}
use Rattle.std.proofs.lemmas.List.{append_assoc, append-nil, length-append}
use Rattle.std.proofs.Math.Seq.{take-append_seam}
use Rattle.jpg_spec.specs.Lists.{begins_with}
use Rattle.jpg_spec.proofs.Basics.Common.{both, neither, or_right, le_of, not_lt_of, negated, lt_yes, lt_no, same_of}
use Rattle.jpg_spec_image.specs.Images.{Image, sample_count, is_wrong, are_right, is_side, are_few_pixels}
use Rattle.jpg_spec_image.specs.PnmText.{is_plain, is_raw, is_pnm_space, pnm_info, pnm_kind, is_number_due, number_fault, are_right_numbers, AfterLast}
use Rattle.jpg_spec_image.specs.BmpFile.{bmp_fault, has_wrong_precision, is_forbidden, palette_bytes, bmp_offset, width, height, bmp_depth, planes, colours_used, used}
use Rattle.jpg_spec_image.specs.ImageFaults.{ImageHead, pnm, bmp, body_of, image_of, IsBodyFront, IsWholeImage, ShowsImageFault}
use Rattle.jpg_spec_image.specs.ImageSteps.{ImageState, at_start, in_bmp_head, in_bmp_front, in_body, whole, failed, fault_or, plain_image, step, run, body_so_far, bmp_front}
use Rattle.jpg_spec_image.proofs.ImageRuns.{run_join, gap_no_digit}
use Rattle.jpg_spec_image.proofs.ImageTextRuns.{first_right, shows_number, shows_no_number, shows_no_format, shows_left_out, last_run}
use Rattle.jpg_spec.specs.declared.fault.Fault.{Fault}
use Rattle.jpg_spec.specs.declared.fault.Fault.TheVariants.{ImageHeader, ImageUnsupported, ImageValue}
use Rattle.jpg_spec_image.specs.declared.image.ImageKind.{ImageKind}
use Rattle.jpg_spec_image.specs.declared.image.ImageKind.TheVariants.{Gray, Rgb}
use Rattle.jpg_spec.proofs.Places.PlacesSome.{product_some}

-- A BODY, byte by byte

abbrev pub count : ImageHead → ℕ
count head = (body_of head).count

pub right_byte : (head : ImageHead) (body : List ℕ) (b : ℕ) → is_wrong (body_of head) (length body) b ≡ false → step (in_body head body) b ≡ body_so_far head (body ++ b ∷ [])
right_byte head body b e = ap (λ (v : Bool). cond v (failed ImageValue) (body_so_far head (body ++ b ∷ []))) e

pub wrong_byte : (head : ImageHead) (body : List ℕ) (b : ℕ) → is_wrong (body_of head) (length body) b ≡ true → step (in_body head body) b ≡ failed ImageValue
wrong_byte head body b e = ap (λ (v : Bool). cond v (failed ImageValue) (body_so_far head (body ++ b ∷ []))) e

pub not_yet : (head : ImageHead) (body : List ℕ) → length body < count head → body_so_far head body ≡ in_body head body
not_yet head body h = ap (λ (v : Bool). cond v (in_body head body) (whole (image_of head body))) (lt_yes (length body) (count head) h)

pub all_there : (head : ImageHead) (body : List ℕ) → count head ≤ length body → body_so_far head body ≡ whole (image_of head body)
all_there head body h = ap (λ (v : Bool). cond v (in_body head body) (whole (image_of head body))) (lt_no (length body) (count head) h)

push_long : (body : List ℕ) (b : ℕ) → length (body ++ b ∷ []) ≡ length body + 1
push_long body b = length-append body (b ∷ [])

record FirstRight (head : ImageHead) (body : List ℕ) (b : ℕ) (more : List ℕ) : Type 0 where
  pub first : is_wrong (body_of head) (length body) b ≡ false
  pub others : are_right (body_of head) (length (body ++ b ∷ [])) more ≡ true
  pub joined : (body ++ b ∷ []) ++ more ≡ body ++ b ∷ more

first_of_more : (head : ImageHead) (body : List ℕ) (b : ℕ) (more : List ℕ) → are_right (body_of head) (length body) (b ∷ more) ≡ true → FirstRight head body b more
first_of_more head body b more e =
    let s = both (not (is_wrong (body_of head) (length body) b)) (are_right (body_of head) (length body + 1) more) e in
    record {
      first = negated (is_wrong (body_of head) (length body) b) s.0;
      others = ap (λ k. are_right (body_of head) k more) (push_long body b) ∙ s.1;
      joined = append_assoc body (b ∷ []) more;
    }

pub body_run : (head : ImageHead) (body more : List ℕ) → are_right (body_of head) (length body) more ≡ true → length (body ++ more) < count head → run (in_body head body) more ≡ in_body head (body ++ more)
unfolding run
body_run head body [] e h = ap (in_body head) (sym (append-nil body))
body_run head body (b ∷ more) e h =
    let f = first_of_more head body b more e in
    let l1 = length-append body (b ∷ more) in
    let l2 = push_long body b in
    ap (λ x. run x more) (right_byte head body b f.first ∙ not_yet head (body ++ b ∷ []) (omega (arith, l1, l2, h)))
    ∙ body_run head (body ++ b ∷ []) more f.others (subst (λ x. length x < count head) (sym f.joined) h)
    ∙ ap (in_body head) f.joined

pub body_all : (head : ImageHead) (body more : List ℕ) → are_right (body_of head) (length body) more ≡ true → 1 ≤ length more → length (body ++ more) ≡ count head → run (in_body head body) more ≡ whole (image_of head (body ++ more))
unfolding run
body_all head body [] e some h = absurd (omega (arith, some))
body_all head body (b ∷ []) e some h =
    let f = first_of_more head body b [] e in
    right_byte head body b f.first ∙ all_there head (body ++ b ∷ []) (omega (arith, h))
body_all head body (b ∷ c ∷ more) e some h =
    let f = first_of_more head body b (c ∷ more) e in
    let l1 = length-append body (b ∷ c ∷ more) in
    let l2 = push_long body b in
    ap (λ x. run x (c ∷ more)) (right_byte head body b f.first ∙ not_yet head (body ++ b ∷ []) (omega (arith, l1, l2, h)))
    ∙ body_all head (body ++ b ∷ []) (c ∷ more) f.others (omega arith) (subst (λ x. length x ≡ count head) (sym f.joined) h)
    ∙ ap (λ x. whole (image_of head x)) f.joined

-- A BODY IS NEVER EMPTY

pub side_some : (n : ℕ) → is_side n ≡ true → 1 ≤ n
side_some n e = le_of 1 n (both (nat_le 1 n) (nat_le n 65500) e).0

pub take_in_row : (k : ImageKind) (w h : ℕ) → 1 ≤ w → 1 ≤ h → 1 ≤ sample_count (record { width = w; height = h; kind = k; x_metre = 0; y_metre = 0 })
take_in_row Gray w h a b = product_some h w b a
take_in_row Rgb w h a b = product_some h (3 * w) b (omega (arith, a))

width_some : (n : ℕ) → number_fault [] n ≡ None → 1 ≤ n
width_some n e = by (is_side n) refl e
  where
    by : (v : Bool) → is_side n ≡ v → cond v None (Some ImageHeader) ≡ None → 1 ≤ n
    by true p e = side_some n p
    by false p e = cc

height_some : (w n : ℕ) → number_fault (w ∷ []) n ≡ None → 1 ≤ n
height_some w n e = by (is_side n) (are_few_pixels w n) refl e
  where
    by : (u v : Bool) → is_side n ≡ u → cond (u && v) None (Some ImageHeader) ≡ None → 1 ≤ n
    by true v p e = side_some n p
    by false v p e = cc

pub raw_plain : (format : ℕ) → is_raw format ≡ true → is_plain format ≡ false
raw_plain format e = grind (arith, nat_tests)

-- the three numbers of P5 and P6
pub record ThreeNumbers (numbers : List ℕ) : Type 0 where
  pub width : ℕ
  pub height : ℕ
  pub most : ℕ
  pub all : numbers ≡ width ∷ height ∷ most ∷ []
  pub wide : 1 ≤ width
  pub high : 1 ≤ height
  pub small : 1 ≤ most
  pub byte : most ≤ 255

few_due : (format : ℕ) (numbers : List ℕ) → is_raw format ≡ true → is_number_due format numbers ≡ nat_lt (length numbers) 3
few_due format numbers e = ap (λ (v : Bool). nat_lt (length numbers) (cond v (3 + sample_count (pnm_info format numbers)) 3)) (raw_plain format e)

pub three : (format : ℕ) (before : List ℕ) (last : ℕ) → is_raw format ≡ true → are_right_numbers format [] before ≡ true → is_number_due format before ≡ true → is_number_due format (before ++ last ∷ []) ≡ false → number_fault before last ≡ None
    → ThreeNumbers (before ++ last ∷ [])
three format [] last raw r due none e = let f : ⊥ = clash (is_number_due format (last ∷ [])) (few_due format (last ∷ []) raw) none in absurd f
  where
    clash : (v : Bool) → v ≡ true → v ≡ false → ⊥
    clash v a b = cc
three format (w ∷ []) last raw r due none e = let f : ⊥ = clash (is_number_due format (w ∷ last ∷ [])) (few_due format (w ∷ last ∷ []) raw) none in absurd f
  where
    clash : (v : Bool) → v ≡ true → v ≡ false → ⊥
    clash v a b = cc
three format (w ∷ h ∷ []) last raw r due none e =
    let a = first_right format [] w (h ∷ []) r in
    let b = first_right format (w ∷ []) h [] a.others in
    record { width = w; height = h; most = last; all = refl; wide = width_some w a.right; high = height_some w h b.right; small = (most_byte last e).0; byte = (most_byte last e).1 }
  where
    most_byte : (n : ℕ) → number_fault (w ∷ h ∷ []) n ≡ None → (1 ≤ n) × (n ≤ 255)
    most_byte n e = by (n == 0) (nat_lt 255 n) refl refl e
      where
        by : (u v : Bool) → (n == 0) ≡ u → nat_lt 255 n ≡ v → cond u (Some ImageHeader) (cond v (Some ImageUnsupported) None) ≡ None → (1 ≤ n) × (n ≤ 255)
        by true v q p e = cc
        by false true q p e = cc
        by false false q p e = (grind (arith, nat_tests), not_lt_of 255 n p)
three format (w ∷ h ∷ m ∷ before) last raw r due none e = let f : ⊥ = clash (is_number_due format (w ∷ h ∷ m ∷ before)) due (few_due format (w ∷ h ∷ m ∷ before) raw ∙ lt_no (length (w ∷ h ∷ m ∷ before)) 3 (omega arith)) in absurd f
  where
    clash : (v : Bool) → v ≡ true → v ≡ false → ⊥
    clash v a b = cc

pub last_three : (bytes : List ℕ) (format : ℕ) (numbers after : List ℕ) → is_raw format ≡ true → AfterLast bytes format numbers after → ThreeNumbers numbers
last_three bytes format numbers after raw l =
    subst ThreeNumbers (sym l.all) (three format l.before l.last raw l.read.before.right l.read.before.due (ap (is_number_due format) (sym l.all) ∙ l.none_due) l.right)

-- the sides of a BMP
pub record BmpSides (head : List ℕ) : Type 0 where
  pub read : has_wrong_precision head ≡ false
  pub allowed : is_forbidden head ≡ false
  pub wide : is_side (width head) ≡ true
  pub high : is_side (height head) ≡ true
  pub few : are_few_pixels (width head) (height head) ≡ true
  pub room : 54 + palette_bytes head ≤ bmp_offset head
  pub colours : (bmp_depth head == 8 && nat_lt 256 (colours_used head)) ≡ false

pub bmp_sides : (head : List ℕ) → bmp_fault head ≡ None → BmpSides head
bmp_sides head e = by (has_wrong_precision head) (is_forbidden head) refl refl e
  where
    by : (u v : Bool) → has_wrong_precision head ≡ u → is_forbidden head ≡ v → cond u (Some ImageUnsupported) (cond v (Some ImageHeader) None) ≡ None → BmpSides head
    by true v p q e = cc
    by false true p q e = cc
    by false false p q e =
        let a = neither (not ((is_side (width head) && is_side (height head)) && are_few_pixels (width head) (height head))) (not (planes head == 1) || (bmp_depth head == 8 && nat_lt 256 (colours_used head) || nat_lt (bmp_offset head) (54 + palette_bytes head))) q in
        let b = neither (not (planes head == 1)) (bmp_depth head == 8 && nat_lt 256 (colours_used head) || nat_lt (bmp_offset head) (54 + palette_bytes head)) a.1 in
        let c = neither (bmp_depth head == 8 && nat_lt 256 (colours_used head)) (nat_lt (bmp_offset head) (54 + palette_bytes head)) b.1 in
        let d = both (is_side (width head) && is_side (height head)) (are_few_pixels (width head) (height head)) (yes ((is_side (width head) && is_side (height head)) && are_few_pixels (width head) (height head)) a.0) in
        let s = both (is_side (width head)) (is_side (height head)) d.0 in
        record { read = p; allowed = q; wide = s.0; high = s.1; few = d.1; room = not_lt_of (bmp_offset head) (54 + palette_bytes head) c.1; colours = c.0 }
      where
        yes : (v : Bool) → not v ≡ false → v ≡ true
        yes true e = refl
        yes false e = cc

used_some : (head : List ℕ) → 1 ≤ width head → 1 ≤ used head
used_some head w = by (bmp_depth head == 8)
  where
    by : (v : Bool) → 1 ≤ cond v (width head) (3 * width head)
    by true = w
    by false = omega (arith, w)

pub some_count : (head : ImageHead) (front : List ℕ) → IsBodyFront head front → 1 ≤ count head
some_count (pnm format numbers) front (b, l, raw, space) =
    let t = last_three front format numbers (b ∷ []) raw l in
    subst (λ ns. 1 ≤ sample_count (pnm_info format ns)) (sym t.all) (take_in_row (pnm_kind format) t.width t.height t.wide t.high)
some_count (bmp head palette) front f =
    let s = bmp_sides head f.header.right in
    let u = used_some head (side_some (width head) s.wide) in
    omega (arith, u)

-- THE 54 BYTES of a BMP

pub head_run : (head more : List ℕ) → 1 ≤ length more → length (head ++ more) ≡ 54 → run (in_bmp_head head) more ≡ fault_or (bmp_fault (head ++ more)) (bmp_front (head ++ more) [] 0)
unfolding run
head_run head [] some h = absurd (omega (arith, some))
head_run head (b ∷ []) some h = ap (λ (v : Bool). cond v (in_bmp_head (head ++ b ∷ [])) (fault_or (bmp_fault (head ++ b ∷ [])) (bmp_front (head ++ b ∷ []) [] 0))) (lt_no (length (head ++ b ∷ [])) 54 (omega (arith, h)))
head_run head (b ∷ c ∷ more) some h =
    let l1 = length-append head (b ∷ c ∷ more) in
    let l2 = length-append head (b ∷ []) in
    let j : (head ++ b ∷ []) ++ c ∷ more ≡ head ++ b ∷ c ∷ more = append_assoc head (b ∷ []) (c ∷ more) in
    ap (λ x. run x (c ∷ more)) (ap (λ (v : Bool). cond v (in_bmp_head (head ++ b ∷ [])) (fault_or (bmp_fault (head ++ b ∷ [])) (bmp_front (head ++ b ∷ []) [] 0))) (lt_yes (length (head ++ b ∷ [])) 54 (omega (arith, l1, l2, h))))
    ∙ head_run (head ++ b ∷ []) (c ∷ more) (omega arith) (ap length j ∙ h)
    ∙ ap (λ x. fault_or (bmp_fault x) (bmp_front x [] 0)) j

pub whole_head_run : (head : List ℕ) → length head ≡ 54 → begins_with (66 ∷ 77 ∷ []) head ≡ true → run at_start head ≡ fault_or (bmp_fault head) (bmp_front head [] 0)
unfolding run
whole_head_run [] h e = cc
whole_head_run (a ∷ []) h e = absurd (omega (arith, h))
whole_head_run (a ∷ b ∷ more) h e =
    let s = both (66 == a) (77 == b && true) e in
    let t = both (77 == b) true s.1 in
    let pa : 66 ≡ a = same_of 66 a s.0 in
    let pb : 77 ≡ b = same_of 77 b t.0 in
    let l : length (66 ∷ 77 ∷ more) ≡ 54 = h in
    ap (λ x. run at_start (x ∷ b ∷ more)) (sym pa) ∙ ap (λ x. run at_start (66 ∷ x ∷ more)) (sym pb)
    ∙ head_run (66 ∷ 77 ∷ []) more (omega (arith, l)) l
    ∙ ap (λ x. fault_or (bmp_fault (66 ∷ x ∷ more)) (bmp_front (66 ∷ x ∷ more) [] 0)) pb ∙ ap (λ x. fault_or (bmp_fault (x ∷ b ∷ more)) (bmp_front (x ∷ b ∷ more) [] 0)) pa

-- UP TO THE PIXELS

-- the palette among the bytes after the 54
abbrev pub palette_of : List ℕ → List ℕ → List ℕ
palette_of head behind = take (palette_bytes head) behind

pub palette_more : (n : ℕ) (behind : List ℕ) (b : ℕ) → cond (nat_lt (length behind) n) (take n behind ++ b ∷ []) (take n behind) ≡ take n (behind ++ b ∷ [])
palette_more zero behind b = ap (λ (w : Bool). cond w (b ∷ []) []) (lt_no (length behind) 0 (omega arith))
palette_more (suc n) [] b = ap (λ (w : Bool). cond w (b ∷ []) []) (lt_yes 0 (suc n) (omega arith)) ∙ ap (λ (xs : List ℕ). b ∷ xs) (sym (none n))
  where
    none : (n : ℕ) → take {A = ℕ} n [] ≡ []
    none zero = refl
    none (suc n) = refl
palette_more (suc n) (x ∷ behind) b = ap (λ (w : Bool). cond w (x ∷ take n behind ++ b ∷ []) (x ∷ take n behind)) shorter ∙ taken (nat_lt (length behind) n) ∙ ap (λ t. x ∷ t) (palette_more n behind b)
  where
    shorter : nat_lt (length (x ∷ behind)) (suc n) ≡ nat_lt (length behind) n
    shorter = grind (arith, nat_tests)

    taken : (v : Bool) → cond v (x ∷ take n behind ++ b ∷ []) (x ∷ take n behind) ≡ x ∷ cond v (take n behind ++ b ∷ []) (take n behind)
    taken true = refl
    taken false = refl

abbrev pub front_so_far : List ℕ → List ℕ → ImageState
front_so_far head behind = bmp_front head (palette_of head behind) (length behind)

pub front_goes_on : (head behind : List ℕ) → 54 + length behind < bmp_offset head → front_so_far head behind ≡ in_bmp_front head (palette_of head behind) (length behind)
front_goes_on head behind h = ap (λ (v : Bool). cond v (in_bmp_front head (palette_of head behind) (length behind)) (in_body (bmp head (palette_of head behind)) [])) (lt_yes (54 + length behind) (bmp_offset head) h)

pub front_step : (head behind : List ℕ) (b : ℕ) → step (in_bmp_front head (palette_of head behind) (length behind)) b ≡ front_so_far head (behind ++ b ∷ [])
front_step head behind b =
    ap (λ p. bmp_front head p (length behind + 1)) (palette_more (palette_bytes head) behind b)
    ∙ ap (bmp_front head (palette_of head (behind ++ b ∷ []))) (sym (length-append behind (b ∷ [])))

front_bytes : (head behind more : List ℕ) → 54 + length (behind ++ more) ≤ bmp_offset head → run (front_so_far head behind) more ≡ front_so_far head (behind ++ more)
unfolding run
front_bytes head behind [] h = ap (front_so_far head) (sym (append-nil behind))
front_bytes head behind (b ∷ more) h =
    let l = length-append behind (b ∷ more) in
    let j : (behind ++ b ∷ []) ++ more ≡ behind ++ b ∷ more = append_assoc behind (b ∷ []) more in
    ap (λ s. run (step s b) more) (front_goes_on head behind (omega (arith, l, h)))
    ∙ ap (λ s. run s more) (front_step head behind b)
    ∙ front_bytes head (behind ++ b ∷ []) more (subst (λ x. 54 + length x ≤ bmp_offset head) (sym j) h)
    ∙ ap (front_so_far head) j

pub front_run : (head : ImageHead) (front : List ℕ) → IsBodyFront head front → run at_start front ≡ in_body head []
front_run (pnm format numbers) front (b, l, raw, space) =
    last_run front format numbers b l (gap_no_digit b (ap (λ (v : Bool). v || b == 35) space)) (or_right (is_plain format) (is_pnm_space b) space)
    ∙ ap (λ (v : Bool). cond v (whole (plain_image format numbers)) (in_body (pnm format numbers) [])) (raw_plain format raw)
front_run (bmp head palette) front f =
    let behind = palette ++ f.skipped in
    let l0 = ap length f.cut ∙ length-append head behind in
    let hl = f.header.long in
    let up = f.up_to in
    let at : 54 + length behind ≡ bmp_offset head = omega (arith, l0, hl, up) in
    ap (run at_start) f.cut
    ∙ run_join at_start head behind
    ∙ ap (λ s. run s behind) (whole_head_run head f.header.long f.header.begins ∙ ap (λ o. fault_or o (bmp_front head [] 0)) f.header.right ∙ ap (λ p. bmp_front head p 0) (sym (take_none (palette_bytes head))))
    ∙ front_bytes head [] behind (omega (arith, at))
    ∙ ap (λ (v : Bool). cond v (in_bmp_front head (palette_of head behind) (length behind)) (in_body (bmp head (palette_of head behind)) [])) (lt_no (54 + length behind) (bmp_offset head) (omega (arith, at)))
    ∙ ap (λ p. in_body (bmp head p) []) (ap (λ k. take k behind) (sym f.palette_long) ∙ take-append_seam palette f.skipped)
  where
    take_none : (n : ℕ) → take {A = ℕ} n [] ≡ []
    take_none zero = refl
    take_none (suc n) = refl

-- WHAT IS COMPLETE, AND WHAT HAS A FAULT

pub whole_run : (bytes : List ℕ) (image : Image) → IsWholeImage bytes image → run at_start bytes ≡ whole image
whole_run bytes image (inl (b, (format, numbers, l, plain, e), d)) =
    last_run bytes format numbers b l d (ap (λ (v : Bool). v || is_pnm_space b) plain)
    ∙ ap (λ (v : Bool). cond v (whole (plain_image format numbers)) (in_body (pnm format numbers) [])) plain
    ∙ ap whole (sym e)
whole_run bytes image (inr (head, front, body, f, cut, long, right, e)) =
    let some = some_count head front f in
    ap (run at_start) cut
    ∙ run_join at_start front body
    ∙ ap (λ s. run s body) (front_run head front f)
    ∙ body_all head [] body right (omega (arith, some, long)) long
    ∙ ap whole (sym e)

pub shows_run : (fault : Fault) (bytes : List ℕ) → ShowsImageFault fault bytes → run at_start bytes ≡ failed fault
unfolding run
shows_run fault bytes (inl (e, s)) = shows_no_format bytes s ∙ ap failed (sym e)
shows_run fault bytes (inr (inl (e, s))) = shows_left_out bytes s ∙ ap failed (sym e)
shows_run fault bytes (inr (inr (inl (e, s)))) = shows_no_number bytes s ∙ ap failed (sym e)
shows_run fault bytes (inr (inr (inr (inl s)))) = shows_number fault bytes s
shows_run fault bytes (inr (inr (inr (inr (inl (long, begins, e)))))) = whole_head_run bytes long begins ∙ ap (λ o. fault_or o (bmp_front bytes [] 0)) e
shows_run fault bytes (inr (inr (inr (inr (inr (e, (head, front, body, b, f, cut, few, right, wrong))))))) =
    ap (run at_start) cut
    ∙ run_join at_start front (body ++ b ∷ [])
    ∙ ap (λ s. run s (body ++ b ∷ [])) (front_run head front f)
    ∙ run_join (in_body head []) body (b ∷ [])
    ∙ ap (λ s. run s (b ∷ [])) (body_run head [] body right few)
    ∙ wrong_byte head body b wrong
    ∙ ap failed (sym e)
