-- Many bytes of a body at once.
use Rattle.std.proofs.Common.{◌≡◌, ℕ, zero, suc, ◌+◌, ◌*◌, ◌/◌, ◌%◌, ◌<◌, ◌≤◌, Bool, true, false, not, ◌&&◌, List, [], ◌∷◌, ◌++◌, length, take, get_or, refl, sym, ap, ◌∙◌, subst, arith, ⊎_elim}
use Rattle.std.specs.Prelude.{nat_lt, nat_le}
use Rattle.std.proofs.lemmas.Bool.{cases_lt}
use Rattle.std.proofs.lemmas.Bool.Decides.{nat_tests}
use Rattle.std.proofs.lemmas.List.{append_assoc, length-append, length-take-le, take_more, take_all}
use Rattle.std.proofs.lemmas.Nat.{mod-mul-add, div-add-mod'}
use Rattle.jpg_spec.proofs.Basics.Common.{both, and_intro, lt_yes, lt_no}
use Rattle.jpg_spec_image.specs.Images.{Body, is_wrong, are_right}
use Rattle.jpg_spec_image.specs.ImageFaults.{ImageHead, body_of, image_of}
use Rattle.jpg_spec_image.specs.ImageSteps.{ImageState, in_body, whole, failed, step, run, body_so_far}
use Rattle.jpg_spec_image.proofs.ImageBodyRuns.{count, body_run, body_all, not_yet, all_there, wrong_byte}
use Rattle.jpg_spec_image.proofs.ImageRuns.{run_join}
use Rattle.jpg_pnm_bmp.specs.Shapes.{AreBelow}
use Rattle.jpg_pnm_bmp.specs.Reader.{CanStretch, HasSamples, HoldsBodyPart, ShowsNone, Stretches}
use Rattle.jpg_pnm_bmp.specs.declared.read.piece.Answer.{Answer}
use Rattle.jpg_pnm_bmp.specs.declared.read.piece.Answer.TheVariants as answer
use Rattle.jpg_pnm_bmp.specs.declared.read.work.Work.{Work}
use Rattle.jpg_spec.specs.declared.fault.Fault.TheVariants.{ImageValue}
use Rattle.jpg_pnm_bmp.proofs.ShownNone.{body_right}

-- places along a line
pub along : (place k line : ℕ) → place % line + k < line → (place + k) % line ≡ place % line + k
along place k line h =
    let p = div-add-mod' place line in
    let e : place + k ≡ place / line * line + (place % line + k) = omega (arith, p) in
    ap (λ n. n % line) e ∙ mod-mul-add (place / line) line (place % line + k) h

-- SAMPLES

pub below_right : (body : Body) (place : ℕ) (part : List ℕ) (n : ℕ) → AreBelow body.limit part n → n ≤ length part → are_right body place (take n part) ≡ true
below_right body place part zero all l = refl
below_right body place [] (suc n) all l = refl
below_right body place (b ∷ part) (suc n) all l =
    let h : b < body.limit = all 0 (omega arith) in
    let low : nat_le body.limit b ≡ false = grind (arith, nat_tests, h) in
    and_intro (not (is_wrong body place b)) (are_right body (place + 1) (take n part)) (ap not (ap (λ v. nat_lt (place % body.line) body.used && v) low ∙ none (nat_lt (place % body.line) body.used)))
    (below_right body (place + 1) part n (λ k h. all (suc k) (omega (arith, h))) (omega (arith, l)))
  where
    none : (v : Bool) → (v && false) ≡ false
    none true = refl
    none false = refl

pub right_join : (body : Body) (place : ℕ) (xs ys : List ℕ) → are_right body place xs ≡ true → are_right body (place + length xs) ys ≡ true → are_right body place (xs ++ ys) ≡ true
right_join body place [] ys r s = (let e : place + 0 ≡ place = omega arith in subst (λ n. are_right body n ys ≡ true) e s)
right_join body place (x ∷ xs) ys r s =
    let t = both (not (is_wrong body place x)) (are_right body (place + 1) xs) r in
    let e : place + length (x ∷ xs) ≡ place + 1 + length xs = omega arith in
    and_intro (not (is_wrong body place x)) (are_right body (place + 1) (xs ++ ys)) t.0 (right_join body (place + 1) xs ys t.1 (subst (λ n. are_right body n ys ≡ true) e s))

-- what fills a line
pub filling_right : (body : Body) (place : ℕ) (part : List ℕ) → body.used ≤ place % body.line → place % body.line + length part ≤ body.line → are_right body place part ≡ true
filling_right body place [] u l = refl
filling_right body place (b ∷ []) u l = and_intro (not (is_wrong body place b)) true (ap not (ap (λ v. v && nat_le body.limit b) (lt_no (place % body.line) body.used u))) refl
filling_right body place (b ∷ c ∷ part) u l =
    let e : (place + 1) % body.line ≡ place % body.line + 1 = along place 1 body.line (omega (arith, l)) in
    and_intro (not (is_wrong body place b)) (are_right body (place + 1) (c ∷ part)) (ap not (ap (λ v. v && nat_le body.limit b) (lt_no (place % body.line) body.used u)))
    (filling_right body (place + 1) (c ∷ part) (omega (arith, e, u)) (omega (arith, e, l)))

-- A PART OF A BODY

pub part_run : (head : ImageHead) (body part : List ℕ) → are_right (body_of head) (length body) part ≡ true → 1 ≤ length part → length (body ++ part) ≤ count head → run (in_body head body) part ≡ body_so_far head (body ++ part)
part_run head body part e some few =
    ⊎_elim
    (λ (a : length (body ++ part) < count head). body_run head body part e a ∙ sym (not_yet head (body ++ part) a))
    (λ (a : count head ≤ length (body ++ part)). (let all : length (body ++ part) ≡ count head = omega (arith, a, few) in body_all head body part e some all ∙ sym (all_there head (body ++ part) a)))
    (cases_lt (length (body ++ part)) (count head))

-- a part whose sample k is the first above the limit
pub wrong_run : (head : ImageHead) (body part : List ℕ) (k : ℕ) → k < length part → AreBelow (body_of head).limit part k → (body_of head).limit ≤ get_or part k 0
    → length body % (body_of head).line + length part ≤ (body_of head).used → (body_of head).used ≤ (body_of head).line → length body + length part ≤ count head → run (in_body head body) (take (k + 1) part) ≡ failed ImageValue
unfolding run
wrong_run head body part k h below above line lined few =
    let b = body_of head in
    let long = length-take-le k part (omega (arith, h)) in
    let l = length-append body (take k part) in
    let at : length (body ++ take k part) % b.line ≡ length body % b.line + k = ap (λ n. n % b.line) (l ∙ ap (λ n. length body + n) long) ∙ along (length body) k b.line (omega (arith, h, line, lined)) in
    let used : nat_lt (length (body ++ take k part) % b.line) b.used ≡ true = lt_yes (length (body ++ take k part) % b.line) b.used (omega (arith, at, h, line)) in
    let high : nat_le b.limit (get_or part k 0) ≡ true = grind (arith, nat_tests, above) in
    ap (run (in_body head body)) (take_more part k 0 h)
    ∙ run_join (in_body head body) (take k part) (get_or part k 0 ∷ [])
    ∙ ap (λ s. run s (get_or part k 0 ∷ [])) (body_run head body (take k part) (below_right b (length body) part k below (omega (arith, h))) (omega (arith, l, long, h, few)))
    ∙ wrong_byte head (body ++ take k part) (get_or part k 0) (and_intro (nat_lt (length (body ++ take k part) % b.line) b.used) (nat_le b.limit (get_or part k 0)) used high)

-- what is known of a part that is taken after `at` bytes
pub record PartFits (b : Body) (at : ℕ) (part : List ℕ) : Type 0 where
  pub few : at < b.count → at + length part ≤ b.count
  pub along_samples : 0 < b.line → at % b.line < b.used → at % b.line + length part ≤ b.used
  pub after_samples : 0 < b.line → b.used ≤ at % b.line → at % b.line + length part ≤ b.line

pub part_right : (b : Body) (at : ℕ) (part : List ℕ) → PartFits b at part → 0 < b.line → (0 < b.line → at % b.line < b.used → AreBelow b.limit part (length part)) → are_right b at part ≡ true
part_right b at part f some below =
    ⊎_elim
    (λ (h : at % b.line < b.used). subst (λ x. are_right b at x ≡ true) (take_all (length part) part (omega arith)) (below_right b at part (length part) (below some h) (omega arith)))
    (λ (h : b.used ≤ at % b.line). filling_right b at part h (f.after_samples some h))
    (cases_lt (at % b.line) b.used)

pub stretched : (front : List ℕ) (head : ImageHead) (old w : Work) (part : List ℕ) (a : Answer) → length front ≡ old.before → CanStretch head (front ++ old.samples) → PartFits (body_of head) (length (front ++ old.samples)) part → 1 ≤ length part
    → (0 < (body_of head).line → length (front ++ old.samples) % (body_of head).line < (body_of head).used → AreBelow (body_of head).limit part (length part))
    → HoldsBodyPart old part (count head) a w → Stretches front head old (run (in_body head (front ++ old.samples)) part) a w
stretched front head old w part answer.More long can f some below (e, h) =
    let body : List ℕ = front ++ old.samples in
    let l = length-append body part in
    let m = length-append front old.samples in
    let n = length-append old.samples part in
    let few : length (body ++ part) < count head = omega (arith, l, m, n, h, long) in
    let r = part_right (body_of head) (length body) part f can.some below in (
      part_run head body part r some (omega (arith, few)) ∙ not_yet head (body ++ part) few ∙ ap (in_body head) (append_assoc front old.samples part ∙ ap (λ x. front ++ x) (sym (ap (λ (x : Work). x.samples) e))),
      e ∙ ap (λ x. (let z : Work = record old { samples = x } in z)) (sym (ap (λ (x : Work). x.samples) e)),
    )
stretched front head old w part answer.Whole long can f some below (e, h) =
    let body : List ℕ = front ++ old.samples in
    let l = length-append body part in
    let m = length-append front old.samples in
    let n = length-append old.samples part in
    let room = can.room in
    let few = f.few room in
    let all : count head ≤ length (body ++ part) = omega (arith, l, m, n, h, long) in
    let joined : body ++ part ≡ front ++ w.samples = append_assoc front old.samples part ∙ ap (λ x. front ++ x) (sym (ap (λ (x : Work). x.samples) e)) in
    let r = part_right (body_of head) (length body) part f can.some below in (
      part_run head body part r some (omega (arith, l, few)) ∙ all_there head (body ++ part) all ∙ ap (λ x. whole (image_of head x)) joined,
      e ∙ ap (λ x. (let z : Work = record old { samples = x } in z)) (sym (ap (λ (x : Work). x.samples) e)),
      subst (HasSamples head) joined (record { there = all; right = right_join (body_of head) 0 body part can.right (let z : length body ≡ 0 + length body = omega arith in subst (λ n. are_right (body_of head) n part ≡ true) z r) }),
    )
stretched front head old w part (answer.Fault fault) long can f some below h = absurd h
stretched front head old w part answer.NoMemory long can f some below h =
    let body : List ℕ = front ++ old.samples in
    let l = length-append body part in
    let room = can.room in
    let few = f.few room in
    let r = part_right (body_of head) (length body) part f can.some below in
    subst ShowsNone (sym (part_run head body part r some (omega (arith, l, few)))) (body_right head (body ++ part))

-- ONE BYTE

pub first_run : (s : ImageState) (piece : List ℕ) → 1 ≤ length piece → run s (take 1 piece) ≡ step s (get_or piece 0 0)
unfolding run
first_run s [] h = absurd (omega (arith, h))
first_run s (b ∷ piece) h = refl
