-- What is there where an image is complete: its numbers, or the rows and the palette of a BMP.
use Rattle.std.proofs.Common.{◌≡◌, ℕ, zero, suc, ◌+◌, ◌-◌, ◌*◌, ◌%◌, ◌<◌, ◌≤◌, Bool, true, false, cond, not, ◌&&◌, ◌==◌, List, [], ◌∷◌, ◌++◌, length, drop, get_or, replicate, refl, sym, ap, ◌∙◌, subst, arith, None, Some}
use Rattle.std.specs.Prelude.{nat_lt, nat_le}
use Rattle.std.proofs.lemmas.List.{get_or-take, get_or-drop, length-drop, length-replicate, length-take-le}
use Rattle.std.proofs.lemmas.Nat.{mul-le, mod-mul-add}
use mathlib.Core.HLevel.{⊥_prop}
use mathlib.Core.Bool.{Bool-set}
use native.Mathlib.Bridge.{le_prop}
use Rattle.jpg_spec.proofs.Basics.Common.{both, le_of, lt_of, lt_yes, negated}
use Rattle.jpg_spec.specs.NumberTexts.{in_comment}
use Rattle.jpg_spec.specs.declared.fault.Fault.TheVariants.{ImageHeader, ImageUnsupported}
use Rattle.jpg_spec_image.specs.Images.{Body, sample_count, is_wrong, are_right}
use Rattle.jpg_spec_image.specs.PnmText.{is_plain, pnm_info, is_number_due, number_fault, are_right_numbers}
use Rattle.jpg_spec_image.specs.BmpFile.{bmp_depth, bmp_line, height, line, palette_entries, used}
use Rattle.jpg_spec_image.specs.ImageFaults.{ImageHead, pnm, bmp, body_of, image_of, IsBodyFront}
use Rattle.jpg_spec_image.specs.ImageSteps.{ImageState, in_gap, in_number, in_bmp_front, in_body, whole, after_number, plain_image}
use Rattle.jpg_spec_image.specs.ImageReading.{RepresentsImage, InBody, InFront, InGap}
use Rattle.jpg_spec_image.proofs.ImageBodyRuns.{ThreeNumbers, last_three, bmp_sides}
use Rattle.jpg_spec_image.proofs.ImageTextRuns.{first_right}
use Rattle.jpg_spec_image.proofs.ImageStands.{stands}
use Rattle.jpg_pnm_bmp.specs.Known.{list_of}
use Rattle.jpg_pnm_bmp.specs.Made.{AreIndexes}
use Rattle.jpg_pnm_bmp.specs.Reader.{AddsNumber, AreAllNumbers, AreGivenAt, CanMake, CanMakeAt, HasAll, HasPixels, HasScale, IsDueAfter, IsReached, Stretches, numbers_list}
use Rattle.jpg_pnm_bmp.specs.declared.read.numbers.Numbers.{Numbers}
use Rattle.jpg_pnm_bmp.specs.declared.read.numbers.Numbers.TheVariants.{Nothing, Width, Sides, All}
use Rattle.jpg_pnm_bmp.specs.declared.read.piece.Answer.{Answer}
use Rattle.jpg_pnm_bmp.specs.declared.read.piece.Answer.TheVariants as answer
use Rattle.jpg_pnm_bmp.specs.declared.read.work.Stage.{Stage}
use Rattle.jpg_pnm_bmp.specs.declared.read.work.Stage.TheVariants as stage
use Rattle.jpg_pnm_bmp.specs.declared.read.work.Work.{Work}

-- NUMBERS

few_due : (format : ℕ) (numbers : List ℕ) → length numbers < 3 → is_number_due format numbers ≡ true
few_due format numbers h = by (is_plain format)
  where
    by : (v : Bool) → nat_lt (length numbers) (cond v (3 + sample_count (pnm_info format numbers)) 3) ≡ true
    by true = lt_yes (length numbers) (3 + sample_count (pnm_info format numbers)) (omega (arith, h))
    by false = lt_yes (length numbers) 3 h

clash : (v : Bool) → v ≡ true → v ≡ false → ⊥
clash v a b = cc

-- a number after which none is due is the third, or a later one
pub numbers_full : (format : ℕ) (old : Numbers) (samples : List ℕ) (n : ℕ) (w : Work) → is_number_due format (list_of old samples ++ n ∷ []) ≡ false → HasScale old → AddsNumber old w → AreAllNumbers w.numbers
numbers_full format Nothing samples n w d s a = absurd (clash (is_number_due format (n ∷ [])) (few_due format (n ∷ []) (omega arith)) d)
numbers_full format (Width x) samples n w d s a = absurd (clash (is_number_due format (x ∷ n ∷ [])) (few_due format (x ∷ n ∷ []) (omega arith)) d)
numbers_full format (Sides x y) samples n w d s (none, (m, is, some)) = subst AreAllNumbers (sym is) some
numbers_full format (All x y m) samples n w d s is = subst AreAllNumbers (sym is) s

pub last_full : (old w : Work) (n : ℕ) → IsDueAfter old n false → HasScale old.numbers → AddsNumber old.numbers w → AreAllNumbers w.numbers
last_full old w n due s a =
    let front : List ℕ = replicate old.before 0 in
    numbers_full old.format old.numbers (front ++ old.samples) n w (sym (due front (length-replicate old.before 0))) s a

-- the third number of P5 and P6 is the last one
pub raw_begun : (front : List ℕ) (old w : Work) (n : ℕ) → is_plain old.format ≡ false → is_number_due old.format (numbers_list front old) ≡ true → is_number_due old.format (numbers_list front old ++ n ∷ []) ≡ false → AreGivenAt old.numbers front
    → AddsNumber old.numbers w → front ++ w.samples ≡ []
raw_begun front old w n raw = by old.numbers
  where
    by : (k : Numbers) → is_number_due old.format (list_of k (front ++ old.samples)) ≡ true → is_number_due old.format (list_of k (front ++ old.samples) ++ n ∷ []) ≡ false → AreGivenAt k front → AddsNumber k w → front ++ w.samples ≡ []
    by Nothing due last known adds = absurd (clash (is_number_due old.format (n ∷ [])) (few_due old.format (n ∷ []) (omega arith)) last)
    by (Width x) due last known adds = absurd (clash (is_number_due old.format (x ∷ n ∷ [])) (few_due old.format (x ∷ n ∷ []) (omega arith)) last)
    by (Sides x y) due last known adds = ap (λ l. l ++ w.samples) known ∙ adds.0
    by (All x y m) due last known adds =
        let numbers : List ℕ = x ∷ y ∷ m ∷ (front ++ old.samples) in
        let h : length numbers < 3 = lt_of (length numbers) 3 (sym (ap (λ (v : Bool). nat_lt (length numbers) (cond v (3 + sample_count (pnm_info old.format numbers)) 3)) raw) ∙ due) in
        absurd (omega (arith, h))

-- the image of P2 and P3
pub plain_made : (front : List ℕ) (format : ℕ) (w : Work) → AreAllNumbers w.numbers → plain_image format (numbers_list front w) ≡ image_of (pnm format (list_of w.numbers [])) (front ++ w.samples)
plain_made front format w = by w.numbers
  where
    by : (k : Numbers) → AreAllNumbers k → plain_image format (list_of k (front ++ w.samples)) ≡ image_of (pnm format (list_of k [])) (front ++ w.samples)
    by Nothing all = absurd all
    by (Width x) all = absurd all
    by (Sides x y) all = absurd all
    by (All x y m) all = refl

-- a number has ended before a byte
pub after_due : (format : ℕ) (numbers : List ℕ) (b : ℕ) → is_number_due format numbers ≡ true → after_number format numbers b ≡ in_gap format numbers true (in_comment false b)
after_due format numbers b e = ap (λ (v : Bool). cond v (in_gap format numbers true (in_comment false b)) (cond (is_plain format) (whole (plain_image format numbers)) (in_body (pnm format numbers) []))) e

after_none : (format : ℕ) (numbers : List ℕ) (b : ℕ) → is_number_due format numbers ≡ false → after_number format numbers b ≡ cond (is_plain format) (whole (plain_image format numbers)) (in_body (pnm format numbers) [])
after_none format numbers b e = ap (λ (v : Bool). cond v (in_gap format numbers true (in_comment false b)) (cond (is_plain format) (whole (plain_image format numbers)) (in_body (pnm format numbers) []))) e

pub after_plain : (format : ℕ) (numbers : List ℕ) (b : ℕ) → is_number_due format numbers ≡ false → is_plain format ≡ true → after_number format numbers b ≡ whole (plain_image format numbers)
after_plain format numbers b e p = after_none format numbers b e ∙ ap (λ (v : Bool). cond v (whole (plain_image format numbers)) (in_body (pnm format numbers) [])) p

pub after_raw : (format : ℕ) (numbers : List ℕ) (b : ℕ) → is_number_due format numbers ≡ false → is_plain format ≡ false → after_number format numbers b ≡ in_body (pnm format numbers) []
after_raw format numbers b e p = after_none format numbers b e ∙ ap (λ (v : Bool). cond v (whole (plain_image format numbers)) (in_body (pnm format numbers) [])) p

pub most_some : (w h n : ℕ) → number_fault (w ∷ h ∷ []) n ≡ None → 1 ≤ n
most_some w h n e = by (n == 0) refl e
  where
    by : (u : Bool) → (n == 0) ≡ u → cond u (Some ImageHeader) (cond (nat_lt 255 n) (Some ImageUnsupported) None) ≡ None → 1 ≤ n
    by true q p = cc
    by false q p = grind (arith, q)

scale_right : (format : ℕ) (numbers : Numbers) (samples : List ℕ) → are_right_numbers format [] (list_of numbers samples) ≡ true → HasScale numbers
scale_right format Nothing samples r = tt
scale_right format (Width a) samples r = tt
scale_right format (Sides a b) samples r = tt
scale_right format (All a b m) samples r =
    let x = first_right format [] a (b ∷ m ∷ samples) r in
    let y = first_right format (a ∷ []) b (m ∷ samples) x.others in
    let z = first_right format (a ∷ b ∷ []) m samples y.others in
    most_some a b m z.right

pub scale_reached : (format : ℕ) (numbers : Numbers) (samples : List ℕ) (n : ℕ) → IsReached (in_number format (list_of numbers samples) n) → HasScale numbers
scale_reached format numbers samples n (bytes, e) = by bytes (subst (RepresentsImage bytes) e (stands bytes))
  where
    by : (bytes : List ℕ) → RepresentsImage bytes (in_number format (list_of numbers samples) n) → HasScale numbers
    by bytes (m, r, c) = scale_right format numbers samples r.before.right

pub gap_scale : (format : ℕ) (numbers : Numbers) (samples : List ℕ) (some commented : Bool) → IsReached (in_gap format (list_of numbers samples) some commented) → HasScale numbers
gap_scale format numbers samples some commented (bytes, e) = (let i : InGap bytes format (list_of numbers samples) some commented = subst (RepresentsImage bytes) e (stands bytes) in scale_right format numbers samples i.behind.right)

numbers_all : (numbers : Numbers) → ThreeNumbers (list_of numbers []) → AreAllNumbers numbers
numbers_all Nothing t = let e = t.all in let f : ⊥ = cc in absurd f
numbers_all (Width w) t = let e = t.all in let f : ⊥ = cc in absurd f
numbers_all (Sides w h) t = let e = t.all in let f : ⊥ = cc in absurd f
numbers_all (All w h m) t = let e = t.all in let f : t.most ≡ m = cc in subst (λ n. 1 ≤ n) f t.small

pub numbers_reached : (format : ℕ) (numbers : Numbers) (bytes body : List ℕ) → InBody bytes (pnm format (list_of numbers [])) body → AreAllNumbers numbers
numbers_reached format numbers bytes body i = by i.front i.header
  where
    by : (front : List ℕ) → IsBodyFront (pnm format (list_of numbers [])) front → AreAllNumbers numbers
    by front (b, l, raw, space) = numbers_all numbers (last_three front format (list_of numbers []) (b ∷ []) raw l)

-- the third number is added
pub third_added : (old : Numbers) (a b m : ℕ) (w : Work) → old ≡ Sides a b → w.samples ≡ [] → w.numbers ≡ All a b m → 1 ≤ m → AddsNumber old w
third_added old a b m w is none numbers some = subst (λ k. AddsNumber k w) (sym is) (none, (m, numbers, some))

-- all three numbers stay
pub numbers_stay : (old : Numbers) (w : Work) → AreAllNumbers old → AddsNumber old w → w.numbers ≡ old
numbers_stay Nothing w all a = absurd all
numbers_stay (Width x) w all a = absurd all
numbers_stay (Sides x y) w all a = absurd all
numbers_stay (All x y m) w all a = a

-- A BMP

pub head_reached : (head palette : List ℕ) (passed : ℕ) → IsReached (in_bmp_front head palette passed) → 54 ≤ length head
head_reached head palette passed (bytes, e) = by bytes (subst (RepresentsImage bytes) e (stands bytes))
  where
    by : (bytes : List ℕ) → InFront bytes head palette passed → 54 ≤ length head
    by bytes r = (let l = r.header.long in omega (arith, l))

pub body_head : (head palette : List ℕ) (bytes body : List ℕ) → InBody bytes (bmp head palette) body → 54 ≤ length head
body_head head palette bytes body i = (let l = i.header.header.long in omega (arith, l))

pub body_high : (head palette : List ℕ) (bytes body : List ℕ) → InBody bytes (bmp head palette) body → height head ≤ 65500
body_high head palette bytes body i =
    let s = bmp_sides head i.header.header.right in
    le_of (height head) 65500 (both (nat_le 1 (height head)) (nat_le (height head) 65500) s.high).1

-- AN ANSWER: nothing else is told by it, so there is one proof of it at most

pub numbers_prop : (numbers : Numbers) → IsProp (AreAllNumbers numbers)
numbers_prop Nothing = ⊥_prop
numbers_prop (Width a) = ⊥_prop
numbers_prop (Sides a b) = ⊥_prop
numbers_prop (All a b m) = le_prop

pub scale_prop : (numbers : Numbers) → IsProp (HasScale numbers)
scale_prop Nothing = λ a b. refl
scale_prop (Width x) = λ a b. refl
scale_prop (Sides x y) = λ a b. refl
scale_prop (All x y m) = le_prop

pixels_prop : (head palette body : List ℕ) → IsProp (HasPixels head palette body)
pixels_prop head palette body = λ a b i. record {
  long = le_prop a.long b.long i;
  high = le_prop a.high b.high i;
  there = le_prop a.there b.there i;
  right = Bool-set _ _ a.right b.right i;
  colours = le_prop a.colours b.colours i;
}

make_prop : (st : Stage) (w : Work) → IsProp (CanMakeAt st w)
make_prop stage.Start w = ⊥_prop
make_prop (stage.First first) w = ⊥_prop
make_prop (stage.Gap some commented) w = ⊥_prop
make_prop (stage.Number n) w = ⊥_prop
make_prop stage.BmpHead w = ⊥_prop
make_prop (stage.BmpFront passed) w = ⊥_prop
make_prop stage.PnmBody w = numbers_prop w.numbers
make_prop stage.BmpBody w = pixels_prop w.head w.palette w.samples

pub all_prop : (a : Answer) (w : Work) → IsProp (HasAll a w)
all_prop answer.More w = λ a b. refl
all_prop answer.Whole w = make_prop w.stage w
all_prop (answer.Fault fault) w = λ a b. refl
all_prop answer.NoMemory w = λ a b. refl

pub all_pnm : (front : List ℕ) (old : Work) (head : ImageHead) (s : ImageState) (a : Answer) (w : Work) → old.stage ≡ stage.PnmBody → AreAllNumbers old.numbers → Stretches front head old s a w → HasAll a w
all_pnm front old head s answer.More w is numbers h = tt
all_pnm front old head s answer.Whole w is numbers (e, f, h) = subst CanMake (sym f) (subst (λ st. CanMakeAt st (record old { samples = w.samples })) (sym is) numbers)
all_pnm front old head s (answer.Fault fault) w is numbers h = tt
all_pnm front old head s answer.NoMemory w is numbers h = tt

-- no samples of a BMP were given away
pub all_bmp : (old : Work) (bytes : List ℕ) (s : ImageState) (a : Answer) (w : Work) → old.stage ≡ stage.BmpBody → InBody bytes (bmp old.head old.palette) old.samples → Stretches [] (bmp old.head old.palette) old s a w → HasAll a w
all_bmp old bytes s answer.More w is i h = tt
all_bmp old bytes s answer.Whole w is i (e, f, h) =
    let p : HasPixels old.head old.palette w.samples = record {
      long = body_head old.head old.palette bytes old.samples i;
      high = body_high old.head old.palette bytes old.samples i;
      there = h.there;
      right = h.right;
      colours = (let l = i.header.palette_long in omega (arith, l));
    } in
    subst CanMake (sym f) (subst (λ st. CanMakeAt st (record old { samples = w.samples })) (sym is) p)
all_bmp old bytes s (answer.Fault fault) w is i h = tt
all_bmp old bytes s answer.NoMemory w is i h = tt

-- ROWS

right_at : (b : Body) (place : ℕ) (body : List ℕ) (k : ℕ) → are_right b place body ≡ true → k < length body → is_wrong b (place + k) (get_or body k 0) ≡ false
right_at b place [] k r h = absurd (omega (arith, h))
right_at b place (x ∷ body) zero r h =
    let parts = both (not (is_wrong b place x)) (are_right b (place + 1) body) r in
    let e : place ≡ place + 0 = omega arith in
    subst (λ n. is_wrong b n x ≡ false) e (negated (is_wrong b place x) parts.0)
right_at b place (x ∷ body) (suc k) r h =
    let parts = both (not (is_wrong b place x)) (are_right b (place + 1) body) r in
    let e : place + 1 + k ≡ place + suc k = omega arith in
    subst (λ n. is_wrong b n (get_or body k 0) ≡ false) e (right_at b (place + 1) body k parts.1 (omega (arith, h)))

entries_of : (head : List ℕ) → (bmp_depth head == 8) ≡ true → (body_of (bmp head [])).limit ≡ palette_entries head
entries_of head e = ap (λ (v : Bool). cond v (palette_entries head) 256) e

below_limit : (v : Bool) (limit n : ℕ) → v ≡ true → (v && nat_le limit n) ≡ false → n < limit
below_limit v limit n e f = lt_of_not (ap (λ u. u && nat_le limit n) (sym e) ∙ f)
  where
    lt_of_not : nat_le limit n ≡ false → n < limit
    lt_of_not g = grind (arith, g)

-- a row's bytes are colours of the palette
pub row_indexes : (head palette body : List ℕ) (y : ℕ) → HasPixels head palette body → y < height head → (bmp_depth head == 8) ≡ true → AreIndexes palette (bmp_line head body y)
row_indexes head palette body y p inside depth = λ k h.
    let up = height head - 1 - y in
    let start = line head * up in
    let u = used head in
    let least : start ≤ line head * (height head - 1) = mul-le (line head) up (line head) (height head - 1) (omega arith) (omega (arith, inside)) in
    let there = p.there in
    let long = length-take-le u (drop start body) (let d = length-drop start body in omega (arith, d, least, there)) in
    let few : k < u = omega (arith, h, long) in
    let at : get_or (bmp_line head body y) k 0 ≡ get_or body (start + k) 0 = get_or-take u (drop start body) k 0 few ∙ get_or-drop start body k 0 in
    let wrong = right_at (body_of (bmp head palette)) 0 body (start + k) p.right (omega (arith, least, there, few)) in
    let wide : u ≤ line head = omega arith in
    let place : (start + k) % line head ≡ k = place_of up k (line head) (omega (arith, few, wide)) in
    let sample : nat_lt ((0 + (start + k)) % line head) u ≡ true = lt_yes ((0 + (start + k)) % line head) u (let e : (0 + (start + k)) % line head ≡ (start + k) % line head = ap (λ n. n % line head) (let z : 0 + (start + k) ≡ start + k = omega arith in z) in omega (arith, e, place, few)) in
    let low = below_limit (nat_lt ((0 + (start + k)) % line head) u) (body_of (bmp head palette)).limit (get_or body (start + k) 0) sample wrong in
    let limit : (body_of (bmp head palette)).limit ≡ palette_entries head = entries_of head depth in
    let colours = p.colours in
    omega (arith, at, low, limit, colours)
  where
    place_of : (up k long : ℕ) → k < long → (long * up + k) % long ≡ k
    place_of up k long h = ap (λ n. n % long) (let e : long * up + k ≡ up * long + k = omega arith in e) ∙ mod-mul-add up long k h
