-- What reading some bytes leads to, by the state before them.
use Rattle.std.proofs.Common.{◌≡◌, ℕ, suc, ◌+◌, ◌-◌, ◌*◌, ◌<◌, ◌≤◌, ◌==◌, Bool, true, false, cond, List, [], ◌∷◌, ◌++◌, length, take, drop, get_or, refl, sym, ap, ◌∙◌, subst, arith, ◌||◌, None, Some}
use Rattle.std.proofs.lemmas.List.{length-append, take_more}
use Rattle.std.proofs.Math.Logic.{∥∥₁_map}
use Rattle.jpg_spec.specs.NumberTexts.{is_digit, in_comment}
use Rattle.jpg_spec_image.proofs.ImageRuns.{digit_no_gap, run_join}
use Rattle.jpg_spec.specs.declared.fault.Fault.TheVariants.{ImageText}
use Rattle.jpg_spec_image.specs.PnmText.{is_plain, is_pnm_space, begins_gap, is_number_due, number_fault, may_follow, ended_fault}
use Rattle.jpg_spec_image.specs.BmpFile.{width, bmp_depth, used}
use Rattle.jpg_spec_image.specs.ImageFaults.{ImageHead, pnm, bmp, image_of, IsBodyFront}
use Rattle.jpg_spec_image.specs.ImageSteps.{ImageState, in_number, in_gap, in_body, whole, failed, fault_or, capped, gap_byte, number_byte, after_number, step, run}
use Rattle.jpg_spec_image.specs.ImageReading.{RepresentsImage, InBody, InGap}
use Rattle.jpg_spec_image.proofs.ImageBodyRuns.{ThreeNumbers, last_three, bmp_sides, side_some}
use Rattle.jpg_spec_image.proofs.ImageStands.{stands}
use Rattle.jpg_spec_image.proofs.ImageTextRuns.{step_number}
use Rattle.jpg_pnm_bmp.specs.Known.{list_of}
use Rattle.jpg_pnm_bmp.specs.Pieces.{IsGoing}
use Rattle.jpg_pnm_bmp.specs.Reader.{standing, image_view, pixels_kind, AreBefore, AreGivenAt, AreGivenIn, IsGoingOn, IsReached, ReadsDigits, Reaches, CanStretch, Stretches}
use Rattle.jpg_pnm_bmp.specs.declared.read.numbers.Numbers.{Numbers}
use Rattle.jpg_pnm_bmp.specs.declared.read.numbers.Numbers.TheVariants.{Nothing, Width, Sides, All}
use Rattle.jpg_pnm_bmp.specs.declared.read.piece.Answer.{Answer}
use Rattle.jpg_pnm_bmp.specs.declared.read.piece.Answer.TheVariants as answer
use Rattle.jpg_pnm_bmp.specs.declared.read.piece.Moved.{Moved}
use Rattle.jpg_pnm_bmp.specs.declared.read.work.Stage.{Stage}
use Rattle.jpg_pnm_bmp.specs.declared.read.work.Stage.TheVariants as stage
use Rattle.jpg_pnm_bmp.specs.declared.read.work.Work.{Work}
use Rattle.jpg_pnm_bmp.proofs.Stretch.{first_run}

-- no samples were given away
pub none_before : (w : Work) → w.before ≡ 0 → AreBefore [] w
none_before w none = record { long = sym none; known = by w.stage w.numbers }
  where
    at : (numbers : Numbers) → AreGivenAt numbers []
    at Nothing = refl
    at (Width a) = refl
    at (Sides a b) = refl
    at (All a b m) = tt

    by : (st : Stage) (numbers : Numbers) → AreGivenIn st numbers []
    by stage.Start numbers = refl
    by (stage.First first) numbers = refl
    by (stage.Gap some commented) numbers = at numbers
    by (stage.Number n) numbers = at numbers
    by stage.BmpHead numbers = refl
    by (stage.BmpFront passed) numbers = refl
    by stage.PnmBody numbers = tt
    by stage.BmpBody numbers = refl

pub going_on : (w : Work) → IsGoing pixels_kind w → IsGoingOn w
going_on w h = ∥∥₁_map h (λ r. ([], none_before w r.1.0, (r.0, sym r.1.1)))

pub one_led : (front : List ℕ) (s : ImageState) (piece : List ℕ) (a : Answer) (w : Work) (m : Moved) → m ≡ record { used = 1; answer = a } → 1 ≤ length piece → Reaches front (step s (get_or piece 0 0)) a w
    → Reaches front (run s (take m.used piece)) m.answer w
one_led front s piece a w m e h r =
    subst (λ (x : Moved). Reaches front (run s (take x.used piece)) x.answer w) (sym e) (subst (λ t. Reaches front t a w) (sym (first_run s piece h)) r)

pub due_reached : (format : ℕ) (numbers : List ℕ) (n : ℕ) → IsReached (in_number format numbers n) → is_number_due format numbers ≡ true
due_reached format numbers n (bytes, e) = due bytes (subst (RepresentsImage bytes) e (stands bytes))
  where
    due : (bytes : List ℕ) → RepresentsImage bytes (in_number format numbers n) → is_number_due format numbers ≡ true
    due bytes (m, r, c) = r.before.due

-- a right number has ended
pub number_goes : (format : ℕ) (numbers : List ℕ) (n b : ℕ) (due : Bool) → is_digit b ≡ false → due ≡ is_number_due format (numbers ++ n ∷ []) → cond due (begins_gap b) (is_plain format || is_pnm_space b) ≡ true → number_fault numbers n ≡ None
    → number_byte format numbers n b ≡ after_number format (numbers ++ n ∷ []) b
number_goes format numbers n b due digit is follows right =
    let may : may_follow format (numbers ++ n ∷ []) b ≡ true = ap (λ (v : Bool). cond v (begins_gap b) (is_plain format || is_pnm_space b)) (sym is) ∙ follows in
    let ended : ended_fault format numbers n b ≡ None = ap (λ (v : Bool). cond v (number_fault numbers n) (Some ImageText)) may ∙ right in
    step_number format numbers n b None digit ended

-- the samples that were given away, and those that are held
pub held_long : (front : List ℕ) (w : Work) (held : ℕ) → length front ≡ w.before → held ≡ length w.samples → length (front ++ w.samples) ≡ w.before + held
held_long front w held long h = let l = length-append front w.samples in omega (arith, l, long, h)

pub body_reached : (head : ImageHead) (body : List ℕ) → IsReached (in_body head body) → (bytes : List ℕ) × InBody bytes head body
body_reached head body (bytes, e) = (bytes, subst (RepresentsImage bytes) e (stands bytes))

used_some : (head : List ℕ) → 1 ≤ width head → 1 ≤ used head
used_some head w = by (bmp_depth head == 8)
  where
    by : (v : Bool) → 1 ≤ cond v (width head) (3 * width head)
    by true = w
    by false = omega (arith, w)

-- A PART OF A BODY

pub stretch_led : (front : List ℕ) (old : Work) (head : ImageHead) (s : ImageState) (a : Answer) (w : Work) → ((x : List ℕ) → standing front (record old { samples = x }) ≡ in_body head (front ++ x))
    → ((x : List ℕ) → image_view front (record old { samples = x }) ≡ image_of head (front ++ x)) → Stretches front head old s a w → Reaches front s a w
stretch_led front old head s answer.More w g i (e, f) = ap (standing front) f ∙ g w.samples ∙ sym e
stretch_led front old head s answer.Whole w g i (e, f, h) = e ∙ ap whole (sym (ap (image_view front) f ∙ i w.samples))
stretch_led front old head s (answer.Fault fault) w g i e = e
stretch_led front old head s answer.NoMemory w g i e = e

pub all_numbers : (numbers : Numbers) → ThreeNumbers (list_of numbers []) → (w : ℕ) × (h : ℕ) × (m : ℕ) × (numbers ≡ All w h m)
all_numbers Nothing t = let e = t.all in let f : ⊥ = cc in absurd f
all_numbers (Width w) t = let e = t.all in let f : ⊥ = cc in absurd f
all_numbers (Sides w h) t = let e = t.all in let f : ⊥ = cc in absurd f
all_numbers (All w h m) t = (w, h, m, refl)

pub pnm_numbers : (format : ℕ) (numbers : Numbers) (bytes body : List ℕ) → InBody bytes (pnm format (list_of numbers [])) body → (w : ℕ) × (h : ℕ) × (m : ℕ) × (numbers ≡ All w h m)
pnm_numbers format numbers bytes body i = by i.front i.header
  where
    by : (front : List ℕ) → IsBodyFront (pnm format (list_of numbers [])) front → (w : ℕ) × (h : ℕ) × (m : ℕ) × (numbers ≡ All w h m)
    by front (b, l, raw, space) = all_numbers numbers (last_three front format (list_of numbers []) (b ∷ []) raw l)

pub pnm_can : (format : ℕ) (numbers : List ℕ) (bytes body : List ℕ) → InBody bytes (pnm format numbers) body → CanStretch (pnm format numbers) body
pnm_can format numbers bytes body i = let r = i.room in record { right = i.right; room = i.room; lined = omega arith; some = omega (arith, r) }

pub bmp_can : (head palette : List ℕ) (bytes body : List ℕ) → InBody bytes (bmp head palette) body → CanStretch (bmp head palette) body
bmp_can head palette bytes body i =
    let s = bmp_sides head i.header.header.right in
    let u = used_some head (side_some (width head) s.wide) in
    record { right = i.right; room = i.room; lined = omega arith; some = omega (arith, u) }

-- DIGITS of a number
digit_goes : (format : ℕ) (numbers : List ℕ) (n b : ℕ) → is_digit b ≡ true → run (in_number format numbers n) (b ∷ []) ≡ in_number format numbers (capped (10 * n + (b - 48)))
unfolding run
digit_goes format numbers n b e = ap (λ v. cond v (in_number format numbers (capped (10 * n + (b - 48)))) (fault_or (ended_fault format numbers n b) (after_number format (numbers ++ n ∷ []) b))) e

pub no_digits : (n : ℕ) → ReadsDigits n [] n
unfolding run
no_digits n = λ format numbers. refl

pub more_digits : (n number at b : ℕ) (piece : List ℕ) → at < length piece → b ≡ get_or piece at 0 → is_digit b ≡ true → ReadsDigits n (take at piece) number → ReadsDigits n (take (at + 1) piece) (capped (10 * number + (b - 48)))
more_digits n number at b piece less is digit h format numbers =
    let s = in_number format numbers n in
    ap (run s) (take_more piece at 0 less)
    ∙ run_join s (take at piece) (get_or piece at 0 ∷ [])
    ∙ ap (λ t. run t (get_or piece at 0 ∷ [])) (h format numbers)
    ∙ ap (λ x. run (in_number format numbers number) (x ∷ [])) (sym is)
    ∙ digit_goes format numbers number b digit

-- and the byte after them
pub after_digits : (n number at : ℕ) (piece : List ℕ) (format : ℕ) (numbers : List ℕ) → at < length piece → ReadsDigits n (take at piece) number → run (in_number format numbers n) (take (at + 1) piece) ≡ number_byte format numbers number (get_or piece at 0)
unfolding run
after_digits n number at piece format numbers less h =
    let s = in_number format numbers n in
    ap (run s) (take_more piece at 0 less) ∙ run_join s (take at piece) (get_or piece at 0 ∷ []) ∙ ap (λ t. run t (get_or piece at 0 ∷ [])) (h format numbers)

-- a digit begins one after a gap
pub begins_number : (format : ℕ) (numbers : List ℕ) (some commented : Bool) (count : ℕ) (piece : List ℕ) → 1 ≤ length piece → some ≡ true → commented ≡ false → is_digit (get_or piece 0 0) ≡ true
    → run (in_gap format numbers some commented) (take (count + 1) piece) ≡ run (in_number format numbers (get_or piece 0 0 - 48)) (take count (drop 1 piece))
unfolding run
begins_number format numbers some commented count [] long s n digit = absurd (omega (arith, long))
begins_number format numbers some commented count (b ∷ piece) long s n digit =
    ap (λ k. run (in_gap format numbers some commented) (take k (b ∷ piece))) (let e : count + 1 ≡ suc count = omega arith in e)
    ∙ ap (λ t. run t (take count piece)) (ap (λ v. gap_byte format numbers v commented b) s ∙ ap (λ v. gap_byte format numbers true v b) n ∙ by (digit_no_gap b digit) digit)
  where
    by : begins_gap b ≡ false → is_digit b ≡ true → gap_byte format numbers true false b ≡ in_number format numbers (b - 48)
    by g d = ap (λ v. cond v (in_gap format numbers true (in_comment false b)) (cond (is_digit b) (in_number format numbers (b - 48)) (failed ImageText))) g ∙ ap (λ v. cond v (in_number format numbers (b - 48)) (failed ImageText)) d

pub gap_due : (format : ℕ) (numbers : List ℕ) (some commented : Bool) → IsReached (in_gap format numbers some commented) → is_number_due format numbers ≡ true
gap_due format numbers some commented (bytes, e) = (let i : InGap bytes format numbers some commented = subst (RepresentsImage bytes) e (stands bytes) in i.behind.due)
