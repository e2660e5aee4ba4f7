-- After each byte the state of a reader represents the bytes that it has read.
use Rattle.std.proofs.Common.{◌≡◌, ℕ, zero, suc, ◌+◌, ◌-◌, ◌*◌, ◌<◌, ◌≤◌, Bool, true, false, cond, not, ◌&&◌, ◌==◌, List, [], ◌∷◌, ◌++◌, length, map, take, drop, refl, sym, ap, ◌∙◌, subst, arith, inl, inr, Option, None, Some}
use Rattle.std.specs.Prelude.{◌||◌, ◌⊎◌, nat_lt, nat_le, flat_map, is_none}
use Rattle.std.proofs.lemmas.List.{append_assoc, append-nil, length-append, take-append-drop, take-append-le, length-take-le}
use Rattle.std.proofs.lemmas.List.Concat.{flat_map-append}
use Rattle.std.proofs.Math.Seq.{take-append_seam}
use Rattle.jpg_spec.specs.Lists.{all_of, is_empty, begins_with}
use Rattle.jpg_spec.specs.NumberTexts.{is_digit, digits_from, in_comment, without_comments, NumberWord, number_text}
use Rattle.jpg_spec.proofs.Basics.Common.{both, neither, and_intro, le_of, lt_of, not_lt_of, lt_yes, same_of, or_alone, not_empty}
use Rattle.jpg_spec_image.specs.Images.{Image, Body, sample_count, is_wrong, are_right}
use Rattle.jpg_spec_image.specs.PnmText.{is_plain, is_raw, is_read, is_left_out, is_pnm_space, begins_gap, ends_in_comment, is_gap_so_far, is_gap, is_number_word, parsed_number, pnm_info, greatest_sample, is_number_due, number_fault, may_follow, ended_fault, are_right_numbers, AfterNumbers, AfterNumber, AfterLast}
use Rattle.jpg_spec_image.specs.BmpFile.{bmp_fault, palette_bytes, bmp_offset, IsBmpHead}
use Rattle.jpg_spec_image.specs.ImageFaults.{ImageHead, pnm, bmp, body_of, image_of, IsBodyFront, IsWholeImage, ShowsImageFault}
use Rattle.jpg_spec_image.specs.ImageSteps.{ImageState, at_start, behind_first, in_gap, in_number, in_bmp_head, in_bmp_front, in_body, whole, failed, past, fault_or, capped, first_byte, second_byte, gap_byte, number_byte, after_number, plain_image, step, run, body_so_far, bmp_front, head_so_far, front_byte}
use Rattle.jpg_spec_image.specs.ImageReading.{RepresentsImage, InGap, InFront, InBody, IsPast}
use Rattle.jpg_spec_image.proofs.ImageRuns.{capped_more, right_small}
use Rattle.jpg_spec_image.proofs.ImageTextRuns.{greatest_byte, ended_capped}
use Rattle.jpg_spec_image.proofs.ImageBodyRuns.{count, bmp_sides, some_count, palette_of, front_so_far, front_step}
use Rattle.jpg_spec.specs.declared.fault.Fault.{Fault}
use Rattle.jpg_spec.specs.declared.fault.Fault.TheVariants.{ImageText, ImageUnsupported, ImageValue}
use Rattle.jpg_spec.proofs.Texts.TextRuns.{all_join, one_of, digits_more}

begins_more : (ns xs ys : List ℕ) → begins_with ns xs ≡ true → begins_with ns (xs ++ ys) ≡ true
begins_more [] xs ys e = refl
begins_more (n ∷ ns) [] ys e = cc
begins_more (n ∷ ns) (x ∷ xs) ys e =
    let s = both (n == x) (begins_with ns xs) e in
    and_intro (n == x) (begins_with ns (xs ++ ys)) s.0 (begins_more ns xs ys s.1)

take_none : (n : ℕ) → take {A = ℕ} n [] ≡ []
take_none zero = refl
take_none (suc n) = refl

-- GAPS

comments_more : (commented : Bool) (gap : List ℕ) (b : ℕ) → without_comments commented (gap ++ b ∷ []) ≡ without_comments commented gap ++ cond (in_comment (ends_in_comment commented gap) b) 32 b ∷ []
comments_more commented [] b = refl
comments_more commented (x ∷ gap) b = ap (λ t. cond (in_comment commented x) 32 x ∷ t) (comments_more (in_comment commented x) gap b)

ends_more : (commented : Bool) (gap : List ℕ) (b : ℕ) → ends_in_comment commented (gap ++ b ∷ []) ≡ in_comment (ends_in_comment commented gap) b
ends_more commented [] b = refl
ends_more commented (x ∷ gap) b = ends_more (in_comment commented x) gap b

space_yet : (commented : Bool) (b : ℕ) → (commented || begins_gap b) ≡ true → is_pnm_space (cond (in_comment commented b) 32 b) ≡ true
space_yet true b e = by (b == 10) refl
  where
    by : (v : Bool) → (b == 10) ≡ v → is_pnm_space (cond (not v) 32 b) ≡ true
    by true p = let q = same_of b 10 p in ap is_pnm_space q
    by false p = refl
space_yet false b e = by (b == 35) e
  where
    by : (v : Bool) → (is_pnm_space b || v) ≡ true → is_pnm_space (cond v 32 b) ≡ true
    by true e = refl
    by false e = or_alone (is_pnm_space b) e

gap_more : (gap : List ℕ) (commented : Bool) (b : ℕ) → is_gap_so_far gap ≡ true → ends_in_comment false gap ≡ commented → (commented || begins_gap b) ≡ true → is_gap_so_far (gap ++ b ∷ []) ≡ true
gap_more gap commented b s c e =
    ap (all_of is_pnm_space) (comments_more false gap b)
    ∙ all_join is_pnm_space (without_comments false gap) (cond (in_comment (ends_in_comment false gap) b) 32 b ∷ []) s
    (one_of is_pnm_space (cond (in_comment (ends_in_comment false gap) b) 32 b) (ap (λ v. is_pnm_space (cond (in_comment v b) 32 b)) c ∙ space_yet commented b e))

-- NUMBERS, with one more byte after them

tail_more : (bytes : List ℕ) (format : ℕ) (numbers tail : List ℕ) (b : ℕ) → AfterNumbers bytes format numbers tail → AfterNumbers (bytes ++ b ∷ []) format numbers (tail ++ b ∷ [])
tail_more bytes format numbers tail b r = record {
  words = r.words;
  cut = ap (λ x. x ++ b ∷ []) r.cut ∙ ap (λ x. 80 ∷ format ∷ x) (append_assoc (flat_map number_text r.words) tail (b ∷ []));
  known = r.known;
  formed = r.formed;
  told = r.told;
  right = r.right;
  due = r.due;
}

other_tail : (bytes : List ℕ) (format : ℕ) (numbers tail new : List ℕ) → tail ≡ new → AfterNumbers bytes format numbers tail → AfterNumbers bytes format numbers new
other_tail bytes format numbers tail new e r = subst (AfterNumbers bytes format numbers) e r

-- a number at the end, and a byte after it
byte_after : (bytes : List ℕ) (format : ℕ) (numbers : List ℕ) (n b : ℕ) → AfterNumber bytes format numbers n [] → AfterNumber (bytes ++ b ∷ []) format numbers n (b ∷ [])
byte_after bytes format numbers n b r = record {
  word = r.word;
  before = other_tail (bytes ++ b ∷ []) format numbers ((number_text r.word ++ []) ++ b ∷ []) (number_text r.word ++ b ∷ []) (ap (λ x. x ++ b ∷ []) (append-nil (number_text r.word))) (tail_more bytes format numbers (number_text r.word ++ []) b r.before);
  formed = r.formed;
  told = r.told;
}

digit_more : (bytes : List ℕ) (format : ℕ) (numbers : List ℕ) (n b : ℕ) → AfterNumber bytes format numbers n [] → is_digit b ≡ true → AfterNumber (bytes ++ b ∷ []) format numbers (10 * n + (b - 48)) []
digit_more bytes format numbers n b r d =
    let w = r.word in
    let s = both (is_gap w.gap) (not (is_empty w.digits) && all_of is_digit w.digits) r.formed in
    let t = both (not (is_empty w.digits)) (all_of is_digit w.digits) s.1 in
    let new : NumberWord = record { gap = w.gap; digits = w.digits ++ b ∷ [] } in
    record {
      word = new;
      before = other_tail (bytes ++ b ∷ []) format numbers ((number_text w ++ []) ++ b ∷ []) (number_text new ++ [])
          (ap (λ x. x ++ b ∷ []) (append-nil (number_text w)) ∙ append_assoc w.gap w.digits (b ∷ []) ∙ sym (append-nil (number_text new)))
          (tail_more bytes format numbers (number_text w ++ []) b r.before);
      formed = and_intro (is_gap w.gap) (not (is_empty (w.digits ++ b ∷ [])) && all_of is_digit (w.digits ++ b ∷ [])) s.0
          (and_intro (not (is_empty (w.digits ++ b ∷ []))) (all_of is_digit (w.digits ++ b ∷ [])) (ap not (not_empty w.digits b)) (all_join is_digit w.digits (b ∷ []) t.1 (one_of is_digit b d)));
      told = digits_more 0 w.digits b ∙ ap (λ k. 10 * k + (b - 48)) r.told;
    }

numbers_more : (format : ℕ) (before numbers : List ℕ) (n : ℕ) → are_right_numbers format before numbers ≡ true → is_number_due format (before ++ numbers) ≡ true → number_fault (before ++ numbers) n ≡ None → are_right_numbers format before (numbers ++ n ∷ []) ≡ true
numbers_more format before [] n e d f =
    let nil : before ++ [] ≡ before = append-nil before in
    and_intro (is_number_due format before && is_none (number_fault before n)) true
    (and_intro (is_number_due format before) (is_none (number_fault before n)) (ap (is_number_due format) (sym nil) ∙ d) (ap (λ x. is_none (number_fault x n)) (sym nil) ∙ ap is_none f)) refl
numbers_more format before (m ∷ numbers) n e d f =
    let s = both (is_number_due format before && is_none (number_fault before m)) (are_right_numbers format (before ++ m ∷ []) numbers) e in
    let j : (before ++ m ∷ []) ++ numbers ≡ before ++ m ∷ numbers = append_assoc before (m ∷ []) numbers in
    and_intro (is_number_due format before && is_none (number_fault before m)) (are_right_numbers format (before ++ m ∷ []) (numbers ++ n ∷ [])) s.0
    (numbers_more format (before ++ m ∷ []) numbers n s.1 (ap (is_number_due format) j ∙ d) (ap (λ x. number_fault x n) j ∙ f))

map_more : (ws : List NumberWord) (w : NumberWord) → map parsed_number (ws ++ w ∷ []) ≡ map parsed_number ws ++ parsed_number w ∷ []
map_more [] w = refl
map_more (x ∷ ws) w = ap (λ l. parsed_number x ∷ l) (map_more ws w)

-- the number that ended is one of the numbers, if a further one is expected
one_more : (bytes : List ℕ) (format : ℕ) (numbers : List ℕ) (n : ℕ) (after : List ℕ) → AfterNumber bytes format numbers n after → number_fault numbers n ≡ None → is_number_due format (numbers ++ n ∷ []) ≡ true
    → AfterNumbers bytes format (numbers ++ n ∷ []) after
one_more bytes format numbers n after r f d =
    let q = r.before in
    let w = r.word in
    record {
      words = q.words ++ w ∷ [];
      cut = q.cut ∙ ap (λ x. 80 ∷ format ∷ x) (sym (append_assoc (flat_map number_text q.words) (number_text w) after) ∙ ap (λ x. x ++ after) (sym (flat_map-append number_text q.words (w ∷ []) ∙ ap (λ x. flat_map number_text q.words ++ x) (append-nil (number_text w)))));
      known = q.known;
      formed = all_join is_number_word q.words (w ∷ []) q.formed (one_of is_number_word w r.formed);
      told = map_more q.words w ∙ ap (λ x. x ++ parsed_number w ∷ []) q.told ∙ ap (λ k. numbers ++ k ∷ []) r.told;
      right = numbers_more format [] numbers n q.right q.due f;
      due = d;
    }

-- BODIES

right_more : (body : Body) (place : ℕ) (bytes : List ℕ) (b : ℕ) → are_right body place bytes ≡ true → is_wrong body (place + length bytes) b ≡ false → are_right body place (bytes ++ b ∷ []) ≡ true
right_more body place [] b e w = and_intro (not (is_wrong body place b)) true (ap not (ap (λ k. is_wrong body k b) (omega arith) ∙ w)) refl
right_more body place (x ∷ bytes) b e w =
    let s = both (not (is_wrong body place x)) (are_right body (place + 1) bytes) e in
    let at : place + 1 + length bytes ≡ place + length (x ∷ bytes) = omega arith in
    and_intro (not (is_wrong body place x)) (are_right body (place + 1) (bytes ++ b ∷ [])) s.0 (right_more body (place + 1) bytes b s.1 (ap (λ k. is_wrong body k b) at ∙ w))

-- ONE MORE BYTE

first_stands : (bytes : List ℕ) (b : ℕ) → bytes ≡ [] → RepresentsImage (bytes ++ b ∷ []) (first_byte b)
first_stands bytes b e = by (b == 80 || b == 66) refl
  where
    by : (v : Bool) → (b == 80 || b == 66) ≡ v → RepresentsImage (bytes ++ b ∷ []) (cond v (behind_first b) (failed ImageText))
    by true p = (ap (λ x. x ++ b ∷ []) e, p)
    by false p = inl (refl, inl (b, ap (λ x. x ++ b ∷ []) e, p))

due_first : (format : ℕ) → is_number_due format [] ≡ true
due_first format = by (is_plain format)
  where
    by : (v : Bool) → nat_lt 0 (cond v (3 + sample_count (pnm_info format [])) 3) ≡ true
    by true = lt_yes 0 (3 + sample_count (pnm_info format [])) (omega arith)
    by false = refl

second_stands : (bytes : List ℕ) (first b : ℕ) → bytes ≡ first ∷ [] → (first == 80 || first == 66) ≡ true → RepresentsImage (bytes ++ b ∷ []) (second_byte first b)
second_stands bytes first b e f = by (first == 66) refl
  where
    pushed : bytes ++ b ∷ [] ≡ first ∷ b ∷ []
    pushed = ap (λ x. x ++ b ∷ []) e

    in_bmp : (v : Bool) → first ≡ 66 → (b == 77) ≡ v → RepresentsImage (bytes ++ b ∷ []) (cond v (in_bmp_head (66 ∷ 77 ∷ [])) (failed ImageText))
    in_bmp true q p = (pushed ∙ ap (λ x. x ∷ b ∷ []) q ∙ ap (λ x. 66 ∷ x ∷ []) (same_of b 77 p), omega arith, refl)
    in_bmp false q p = inl (refl, inr (inl (b, pushed ∙ ap (λ x. x ∷ b ∷ []) q, p)))

    in_pnm : (u v : Bool) → first ≡ 80 → is_read b ≡ u → is_left_out b ≡ v → RepresentsImage (bytes ++ b ∷ []) (cond u (in_gap b [] false false) (cond v (failed ImageUnsupported) (failed ImageText)))
    in_pnm true v q p r = record {
      gap = [];
      behind = record { words = []; cut = pushed ∙ ap (λ x. x ∷ b ∷ []) q; known = p; formed = refl; told = refl; right = refl; due = due_first b };
      some_is = refl;
      first = refl;
      so_far = refl;
      comment = refl;
    }
    in_pnm false true q p r = inr (inl (refl, (b, pushed ∙ ap (λ x. x ∷ b ∷ []) q, r)))
    in_pnm false false q p r = inl (refl, inr (inr (b, pushed ∙ ap (λ x. x ∷ b ∷ []) q, p, r)))

    is_p : (first == 66) ≡ false → first ≡ 80
    is_p p = same_of first 80 (either (first == 80) (first == 66) f p)
      where
        either : (v w : Bool) → (v || w) ≡ true → w ≡ false → v ≡ true
        either true w e g = refl
        either false w e g = cc

    by : (v : Bool) → (first == 66) ≡ v → RepresentsImage (bytes ++ b ∷ []) (cond v (cond (b == 77) (in_bmp_head (66 ∷ 77 ∷ [])) (failed ImageText)) (cond (is_read b) (in_gap b [] false false) (cond (is_left_out b) (failed ImageUnsupported) (failed ImageText))))
    by true p = in_bmp (b == 77) (same_of first 66 p) refl
    by false p = in_pnm (is_read b) (is_left_out b) (is_p p) refl refl

gap_stands : (bytes : List ℕ) (format : ℕ) (numbers : List ℕ) (some commented : Bool) (b : ℕ) → InGap bytes format numbers some commented → RepresentsImage (bytes ++ b ∷ []) (gap_byte format numbers some commented b)
gap_stands bytes format numbers some commented b g = by (commented || begins_gap b) (some && is_digit b) refl refl
  where
    behind : AfterNumbers (bytes ++ b ∷ []) format numbers (g.gap ++ b ∷ [])
    behind = tail_more bytes format numbers g.gap b g.behind

    some_gap : (gap : List ℕ) → some ≡ cond (is_empty gap) false true → some ≡ true → is_empty gap ≡ false
    some_gap [] e f = cc
    some_gap (x ∷ gap) e f = refl

    stray : (gap : List ℕ) → some ≡ cond (is_empty gap) false true → (some && is_digit b) ≡ false → (is_empty gap || not (is_digit b)) ≡ true
    stray [] e f = refl
    stray (x ∷ gap) e f = ap not (ap (λ v. v && is_digit b) (sym e) ∙ f)

    outside : (commented || begins_gap b) ≡ false → ends_in_comment false g.gap ≡ false
    outside p = g.comment ∙ (neither commented (begins_gap b) p).0

    by : (u v : Bool) → (commented || begins_gap b) ≡ u → (some && is_digit b) ≡ v
        → RepresentsImage (bytes ++ b ∷ []) (cond u (in_gap format numbers true (in_comment commented b)) (cond v (in_number format numbers (b - 48)) (failed ImageText)))
    by true v p q = record {
      gap = g.gap ++ b ∷ [];
      behind = behind;
      some_is = ap (λ w. cond w false true) (sym (not_empty g.gap b));
      first = ap (λ w. w && not (is_empty numbers)) (not_empty g.gap b);
      so_far = gap_more g.gap commented b g.so_far g.comment p;
      comment = ends_more false g.gap b ∙ ap (λ w. in_comment w b) g.comment;
    }
    by false true p q =
        let s = both some (is_digit b) q in
        let word : NumberWord = record { gap = g.gap; digits = b ∷ [] } in
        let high = le_of b 57 (both (nat_le 48 b) (nat_le b 57) s.1).1 in
        let gap_is = and_intro (is_gap_so_far g.gap && not (ends_in_comment false g.gap)) (not (is_empty g.gap))
        (and_intro (is_gap_so_far g.gap) (not (ends_in_comment false g.gap)) g.so_far (ap not (outside p))) (ap not (some_gap g.gap g.some_is s.0)) in (
          digits_from 0 (b ∷ []),
          record {
            word = word;
            before = other_tail (bytes ++ b ∷ []) format numbers (g.gap ++ b ∷ []) (number_text word ++ []) (sym (append-nil (g.gap ++ b ∷ []))) behind;
            formed = and_intro (is_gap g.gap) (not (is_empty (b ∷ [])) && all_of is_digit (b ∷ [])) gap_is (one_of is_digit b s.1);
            told = refl;
          },
          omega (arith, high),
        )
    by false false p q =
        let n = neither commented (begins_gap b) p in
        inr (inr (inl (refl, (format, numbers, g.gap, b, behind, g.first, g.so_far, outside p, and_intro (not (begins_gap b)) (is_empty g.gap || not (is_digit b)) (ap not n.1) (stray g.gap g.some_is q)))))

-- the last number, and a byte after it
last_stands : (bytes : List ℕ) (format : ℕ) (numbers : List ℕ) (b : ℕ) → AfterLast bytes format numbers (b ∷ []) → is_digit b ≡ false → is_read format ≡ true → (is_plain format || is_pnm_space b) ≡ true
    → RepresentsImage bytes (cond (is_plain format) (whole (plain_image format numbers)) (in_body (pnm format numbers) []))
last_stands bytes format numbers b l d known may = by (is_plain format) refl known may
  where
    by : (v : Bool) → is_plain format ≡ v → (v || is_raw format) ≡ true → (v || is_pnm_space b) ≡ true → RepresentsImage bytes (cond v (whole (plain_image format numbers)) (in_body (pnm format numbers) []))
    by true p k m = inl (b, (format, numbers, l, p, refl), d)
    by false p k m =
        let f : IsBodyFront (pnm format numbers) bytes = (b, l, k, m) in
        let s = some_count (pnm format numbers) bytes f in
        record { front = bytes; header = f; cut = sym (append-nil bytes); right = refl; room = omega (arith, s) }

number_stands : (bytes : List ℕ) (format : ℕ) (numbers : List ℕ) (m b : ℕ) → AfterNumber bytes format numbers m [] → RepresentsImage (bytes ++ b ∷ []) (number_byte format numbers (capped m) b)
number_stands bytes format numbers m b r = by (is_digit b) refl
  where
    byte : greatest_sample numbers ≤ 255
    byte = greatest_byte bytes format numbers (number_text r.word ++ []) r.before

    new : AfterNumber (bytes ++ b ∷ []) format numbers m (b ∷ [])
    new = byte_after bytes format numbers m b r

    goes_on : (u : Bool) → is_number_due format (numbers ++ m ∷ []) ≡ u → is_digit b ≡ false → number_fault numbers m ≡ None → cond u (begins_gap b) (is_plain format || is_pnm_space b) ≡ true
        → RepresentsImage (bytes ++ b ∷ []) (cond u (in_gap format (numbers ++ m ∷ []) true (in_comment false b)) (cond (is_plain format) (whole (plain_image format (numbers ++ m ∷ []))) (in_body (pnm format (numbers ++ m ∷ [])) [])))
    goes_on true p d f e = record {
      gap = b ∷ [];
      behind = one_more (bytes ++ b ∷ []) format numbers m (b ∷ []) new f p;
      some_is = refl;
      first = refl;
      so_far = gap_more [] false b refl refl e;
      comment = refl;
    }
    goes_on false p d f e = last_stands (bytes ++ b ∷ []) format (numbers ++ m ∷ []) b (record { before = numbers; last = m; all = refl; read = new; right = f; none_due = p }) d r.before.known e

    follows : (u : Bool) → may_follow format (numbers ++ m ∷ []) b ≡ u → cond u (number_fault numbers m) (Some ImageText) ≡ None → (may_follow format (numbers ++ m ∷ []) b ≡ true) × (number_fault numbers m ≡ None)
    follows true p e = (p, e)
    follows false p e = cc

    by_fault : (o : Option Fault) → is_digit b ≡ false → ended_fault format numbers m b ≡ o → RepresentsImage (bytes ++ b ∷ []) (fault_or o (after_number format (numbers ++ capped m ∷ []) b))
    by_fault (Some fault) d e = inr (inr (inr (inl (format, numbers, m, b, new, d, e))))
    by_fault None d e =
        let f = follows (may_follow format (numbers ++ m ∷ []) b) refl e in
        subst (λ k. RepresentsImage (bytes ++ b ∷ []) (after_number format (numbers ++ k ∷ []) b)) (sym (right_small numbers m byte f.1)) (goes_on (is_number_due format (numbers ++ m ∷ [])) refl d f.1 f.0)

    by : (v : Bool) → is_digit b ≡ v
        → RepresentsImage (bytes ++ b ∷ []) (cond v (in_number format numbers (capped (10 * capped m + (b - 48)))) (fault_or (ended_fault format numbers (capped m) b) (after_number format (numbers ++ capped m ∷ []) b)))
    by true d = (10 * m + (b - 48), digit_more bytes format numbers m b r d, capped_more m (b - 48))
    by false d = by_fault (ended_fault format numbers (capped m) b) d (sym (ended_capped format numbers m b byte))

-- up to the pixels of a BMP
front_stands : (bytes head behind : List ℕ) → bytes ≡ head ++ behind → IsBmpHead head → 54 + length behind ≤ bmp_offset head → RepresentsImage bytes (front_so_far head behind)
front_stands bytes head behind cut header room = by (nat_lt (54 + length behind) (bmp_offset head)) refl
  where
    by : (v : Bool) → nat_lt (54 + length behind) (bmp_offset head) ≡ v → RepresentsImage bytes (cond v (in_bmp_front head (palette_of head behind) (length behind)) (in_body (bmp head (palette_of head behind)) []))
    by true p = record { behind = behind; cut = cut; header = header; palette_is = refl; passed_is = refl; room = lt_of (54 + length behind) (bmp_offset head) p }
    by false p =
        let far = not_lt_of (54 + length behind) (bmp_offset head) p in
        let s = bmp_sides head header.right in
        let fits = s.room in
        let long = ap length cut ∙ length-append head behind in
        let hl = header.long in
        let few : palette_bytes head ≤ length behind = omega (arith, far, room, fits) in
        let f : IsBodyFront (bmp head (palette_of head behind)) bytes = record {
          skipped = drop (palette_bytes head) behind;
          cut = cut ∙ ap (λ x. head ++ x) (sym (take-append-drop (palette_bytes head) behind));
          header = header;
          palette_long = length-take-le (palette_bytes head) behind few;
          up_to = omega (arith, long, hl, far, room);
        } in
        let n = some_count (bmp head (palette_of head behind)) bytes f in
        record { front = bytes; header = f; cut = sym (append-nil bytes); right = refl; room = omega (arith, n) }

head_stands : (bytes head : List ℕ) (b : ℕ) → bytes ≡ head → length head < 54 → begins_with (66 ∷ 77 ∷ []) head ≡ true → RepresentsImage (bytes ++ b ∷ []) (head_so_far (head ++ b ∷ []))
head_stands bytes head b e short begins = by (nat_lt (length (head ++ b ∷ [])) 54) refl
  where
    new : bytes ++ b ∷ [] ≡ head ++ b ∷ []
    new = ap (λ x. x ++ b ∷ []) e

    starts : begins_with (66 ∷ 77 ∷ []) (head ++ b ∷ []) ≡ true
    starts = begins_more (66 ∷ 77 ∷ []) head (b ∷ []) begins

    by_fault : (o : Option Fault) → bmp_fault (head ++ b ∷ []) ≡ o → length (head ++ b ∷ []) ≡ 54 → RepresentsImage (bytes ++ b ∷ []) (fault_or o (bmp_front (head ++ b ∷ []) [] 0))
    by_fault (Some fault) f l = inr (inr (inr (inr (inl (ap length new ∙ l, ap (begins_with (66 ∷ 77 ∷ [])) new ∙ starts, ap bmp_fault new ∙ f)))))
    by_fault None f l =
        let s = bmp_sides (head ++ b ∷ []) f in
        let room = s.room in
        subst (λ p. RepresentsImage (bytes ++ b ∷ []) (bmp_front (head ++ b ∷ []) p 0)) (take_none (palette_bytes (head ++ b ∷ [])))
        (front_stands (bytes ++ b ∷ []) (head ++ b ∷ []) [] (new ∙ sym (append-nil (head ++ b ∷ []))) (record { long = l; begins = starts; right = f }) (omega (arith, room)))

    by : (v : Bool) → nat_lt (length (head ++ b ∷ [])) 54 ≡ v → RepresentsImage (bytes ++ b ∷ []) (cond v (in_bmp_head (head ++ b ∷ [])) (fault_or (bmp_fault (head ++ b ∷ [])) (bmp_front (head ++ b ∷ []) [] 0)))
    by true p = (new, lt_of (length (head ++ b ∷ [])) 54 p, starts)
    by false p =
        let l = length-append head (b ∷ []) in
        let g = not_lt_of (length (head ++ b ∷ [])) 54 p in
        by_fault (bmp_fault (head ++ b ∷ [])) refl (omega (arith, l, g, short))

passing_stands : (bytes head palette : List ℕ) (passed b : ℕ) → InFront bytes head palette passed → RepresentsImage (bytes ++ b ∷ []) (front_byte head palette passed b)
passing_stands bytes head palette passed b f =
    let l = length-append f.behind (b ∷ []) in
    let r = f.room in
    let s = front_stands (bytes ++ b ∷ []) head (f.behind ++ b ∷ []) (ap (λ x. x ++ b ∷ []) f.cut ∙ append_assoc head f.behind (b ∷ [])) f.header (omega (arith, l, r)) in
    subst (λ p. RepresentsImage (bytes ++ b ∷ []) (step (in_bmp_front head p passed) b)) (sym f.palette_is)
    (subst (λ n. RepresentsImage (bytes ++ b ∷ []) (step (in_bmp_front head (palette_of head f.behind) n) b)) (sym f.passed_is)
    (subst (RepresentsImage (bytes ++ b ∷ [])) (sym (front_step head f.behind b)) s))

body_stands : (bytes : List ℕ) (head : ImageHead) (body : List ℕ) (b : ℕ) → InBody bytes head body → RepresentsImage (bytes ++ b ∷ []) (step (in_body head body) b)
body_stands bytes head body b i = by (is_wrong (body_of head) (length body) b) refl
  where
    cut : bytes ++ b ∷ [] ≡ i.front ++ (body ++ b ∷ [])
    cut = ap (λ x. x ++ b ∷ []) i.cut ∙ append_assoc i.front body (b ∷ [])

    more : is_wrong (body_of head) (length body) b ≡ false → are_right (body_of head) 0 (body ++ b ∷ []) ≡ true
    more w = right_more (body_of head) 0 body b i.right (ap (λ k. is_wrong (body_of head) k b) (omega arith) ∙ w)

    so_far : (v : Bool) → is_wrong (body_of head) (length body) b ≡ false → nat_lt (length (body ++ b ∷ [])) (count head) ≡ v → RepresentsImage (bytes ++ b ∷ []) (cond v (in_body head (body ++ b ∷ [])) (whole (image_of head (body ++ b ∷ []))))
    so_far true w p = record { front = i.front; header = i.header; cut = cut; right = more w; room = lt_of (length (body ++ b ∷ [])) (count head) p }
    so_far false w p =
        let l = length-append body (b ∷ []) in
        let g = not_lt_of (length (body ++ b ∷ [])) (count head) p in
        let r = i.room in
        inr (head, i.front, body ++ b ∷ [], i.header, cut, omega (arith, l, g, r), more w, refl)

    by : (v : Bool) → is_wrong (body_of head) (length body) b ≡ v → RepresentsImage (bytes ++ b ∷ []) (cond v (failed ImageValue) (body_so_far head (body ++ b ∷ [])))
    by true w = inr (inr (inr (inr (inr (refl, (head, i.front, body, b, i.header, cut, i.room, i.right, w))))))
    by false w = so_far (nat_lt (length (body ++ b ∷ [])) (count head)) w refl

-- bytes after a complete image, or after a fault
now_past : (bytes : List ℕ) (b : ℕ) → (((image : Image) × IsWholeImage bytes image) ⊎ ((fault : Fault) × ShowsImageFault fault bytes)) → IsPast (bytes ++ b ∷ [])
now_past bytes b s =
    let l = length-append bytes (b ∷ []) in
    (length bytes, omega (arith, l), subst (λ x. ((image : Image) × IsWholeImage x image) ⊎ ((fault : Fault) × ShowsImageFault fault x)) (sym (take-append_seam bytes (b ∷ []))) s)

still_past : (bytes : List ℕ) (b : ℕ) → IsPast bytes → IsPast (bytes ++ b ∷ [])
still_past bytes b (n, h, s) =
    let l = length-append bytes (b ∷ []) in
    (n, omega (arith, l, h), subst (λ x. ((image : Image) × IsWholeImage x image) ⊎ ((fault : Fault) × ShowsImageFault fault x)) (sym (take-append-le n bytes (b ∷ []) (omega (arith, h)))) s)

pub byte_stands : (bytes : List ℕ) (s : ImageState) (b : ℕ) → RepresentsImage bytes s → RepresentsImage (bytes ++ b ∷ []) (step s b)
byte_stands bytes at_start b s = first_stands bytes b s
byte_stands bytes (behind_first first) b (e, f) = second_stands bytes first b e f
byte_stands bytes (in_gap format numbers some commented) b s = gap_stands bytes format numbers some commented b s
byte_stands bytes (in_number format numbers n) b (m, r, e) = subst (λ k. RepresentsImage (bytes ++ b ∷ []) (number_byte format numbers k b)) (sym e) (number_stands bytes format numbers m b r)
byte_stands bytes (in_bmp_head head) b (e, short, begins) = head_stands bytes head b e short begins
byte_stands bytes (in_bmp_front head palette passed) b s = passing_stands bytes head palette passed b s
byte_stands bytes (in_body head body) b s = body_stands bytes head body b s
byte_stands bytes (whole image) b s = now_past bytes b (inl (image, s))
byte_stands bytes (failed fault) b s = now_past bytes b (inr (fault, s))
byte_stands bytes past b s = still_past bytes b s

pub bytes_stand : (done : List ℕ) (s : ImageState) (bytes : List ℕ) → RepresentsImage done s → RepresentsImage (done ++ bytes) (run s bytes)
unfolding run
bytes_stand done s [] h = subst (λ x. RepresentsImage x s) (sym (append-nil done)) h
bytes_stand done s (b ∷ bytes) h = subst (λ x. RepresentsImage x (run (step s b) bytes)) (append_assoc done (b ∷ []) bytes) (bytes_stand (done ++ b ∷ []) (step s b) bytes (byte_stands done s b h))

pub stands : (bytes : List ℕ) → RepresentsImage bytes (run at_start bytes)
stands bytes = bytes_stand [] at_start bytes refl
