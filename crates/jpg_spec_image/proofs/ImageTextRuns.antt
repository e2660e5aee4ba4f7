-- Reading the text of an image that is complete, or has a fault, gives that result.
use Rattle.std.proofs.Common.{◌≡◌, ℕ, suc, ◌+◌, ◌-◌, ◌*◌, ◌≤◌, Bool, true, false, cond, not, ◌&&◌, ◌==◌, List, [], ◌∷◌, ◌++◌, map, refl, sym, ap, ◌∙◌, subst, arith, inl, inr, Option, None, Some}
use Rattle.std.specs.Prelude.{◌||◌, ◌⊎◌, nat_lt, flat_map, is_none}
use Rattle.std.proofs.lemmas.Bool.Decides.{nat_tests}
use Rattle.std.proofs.lemmas.List.{append_assoc, append-nil, length-append}
use Rattle.jpg_spec.specs.Lists.{all_of, is_empty}
use Rattle.jpg_spec.specs.NumberTexts.{is_digit, in_comment, without_comments, NumberWord, number_text}
use Rattle.jpg_spec.proofs.Basics.Common.{both, not_lt_of, negated, lt_yes}
use Rattle.jpg_spec_image.specs.Images.{sample_count}
use Rattle.jpg_spec_image.specs.PnmText.{is_plain, is_read, is_left_out, is_pnm_space, begins_gap, ends_in_comment, is_gap_so_far, is_gap, is_number_word, parsed_number, pnm_info, greatest_sample, numbers_due, is_number_due, number_fault, may_follow, ended_fault, are_right_numbers, AfterNumbers, AfterNumber, AfterLast}
use Rattle.jpg_spec_image.specs.ImageFaults.{pnm, ShowsNoFormat, ShowsLeftOut, ShowsNoNumber, ShowsNumber}
use Rattle.jpg_spec_image.specs.ImageSteps.{at_start, behind_first, in_gap, in_number, in_bmp_head, in_body, whole, failed, fault_or, capped, after_number, plain_image, step, run}
use Rattle.jpg_spec_image.proofs.ImageRuns.{run_join, gap_no_digit, in_gap_yet, some_gap_run, word_run, capped_fault, right_small}
use Rattle.jpg_spec.specs.declared.fault.Fault.{Fault}
use Rattle.jpg_spec.specs.declared.fault.Fault.TheVariants.{ImageText, ImageHeader, ImageUnsupported}
use Rattle.jpg_spec.proofs.Writing.WrittenFront.{no_fault}

-- THE GREATEST SAMPLE of right numbers is a byte

pub greatest_more : (before : List ℕ) (n : ℕ) → greatest_sample before ≤ 255 → number_fault before n ≡ None → greatest_sample (before ++ n ∷ []) ≤ 255
greatest_more [] n h e = omega arith
greatest_more (w ∷ []) n h e = omega arith
greatest_more (w ∷ g ∷ []) n h e = by (n == 0) (nat_lt 255 n) refl e
  where
    by : (u v : Bool) → nat_lt 255 n ≡ v → cond u (Some ImageHeader) (cond v (Some ImageUnsupported) None) ≡ None → n ≤ 255
    by true v p e = cc
    by false true p e = cc
    by false false p e = not_lt_of 255 n p
greatest_more (w ∷ g ∷ m ∷ before) n h e = h

pub record RightNumber (format : ℕ) (before : List ℕ) (n : ℕ) (numbers : List ℕ) : Type 0 where
  pub due : is_number_due format before ≡ true
  pub right : number_fault before n ≡ None
  pub others : are_right_numbers format (before ++ n ∷ []) numbers ≡ true

pub first_right : (format : ℕ) (before : List ℕ) (n : ℕ) (numbers : List ℕ) → are_right_numbers format before (n ∷ numbers) ≡ true → RightNumber format before n numbers
first_right format before n numbers e =
    let s = both (is_number_due format before && is_none (number_fault before n)) (are_right_numbers format (before ++ n ∷ []) numbers) e in
    let t = both (is_number_due format before) (is_none (number_fault before n)) s.0 in
    record { due = t.0; right = no_fault (number_fault before n) t.1; others = s.1 }

greatest_right : (format : ℕ) (before numbers : List ℕ) → greatest_sample before ≤ 255 → are_right_numbers format before numbers ≡ true → greatest_sample (before ++ numbers) ≤ 255
greatest_right format before [] h e = subst (λ x. greatest_sample x ≤ 255) (sym (append-nil before)) h
greatest_right format before (n ∷ numbers) h e =
    let r = first_right format before n numbers e in
    subst (λ x. greatest_sample x ≤ 255) (append_assoc before (n ∷ []) numbers) (greatest_right format (before ++ n ∷ []) numbers (greatest_more before n h r.right) r.others)

pub greatest_byte : (bytes : List ℕ) (format : ℕ) (numbers tail : List ℕ) → AfterNumbers bytes format numbers tail → greatest_sample numbers ≤ 255
greatest_byte bytes format numbers tail b = greatest_right format [] numbers (omega arith) b.right

-- A NUMBER AND THE BYTE AFTER IT

pub step_number : (format : ℕ) (numbers : List ℕ) (n b : ℕ) (o : Option Fault) → is_digit b ≡ false → ended_fault format numbers n b ≡ o
    → step (in_number format numbers n) b ≡ fault_or o (after_number format (numbers ++ n ∷ []) b)
step_number format numbers n b o d e =
    ap (λ (v : Bool). cond v (in_number format numbers (capped (10 * n + (b - 48)))) (fault_or (ended_fault format numbers n b) (after_number format (numbers ++ n ∷ []) b))) d
    ∙ ap (λ (x : Option Fault). fault_or x (after_number format (numbers ++ n ∷ []) b)) e

pub followed : (format : ℕ) (numbers : List ℕ) (n b : ℕ) → is_number_due format (numbers ++ n ∷ []) ≡ true → begins_gap b ≡ true → ended_fault format numbers n b ≡ number_fault numbers n
followed format numbers n b due e =
    ap (λ (v : Bool). cond (cond v (begins_gap b) (is_plain format || is_pnm_space b)) (number_fault numbers n) (Some ImageText)) due
    ∙ ap (λ (v : Bool). cond v (number_fault numbers n) (Some ImageText)) e

pub last_followed : (format : ℕ) (numbers : List ℕ) (n b : ℕ) → is_number_due format (numbers ++ n ∷ []) ≡ false → (is_plain format || is_pnm_space b) ≡ true → ended_fault format numbers n b ≡ number_fault numbers n
last_followed format numbers n b due e =
    ap (λ (v : Bool). cond (cond v (begins_gap b) (is_plain format || is_pnm_space b)) (number_fault numbers n) (Some ImageText)) due
    ∙ ap (λ (v : Bool). cond v (number_fault numbers n) (Some ImageText)) e

next_number : (format : ℕ) (numbers : List ℕ) (n b : ℕ) → greatest_sample numbers ≤ 255 → number_fault numbers n ≡ None → is_number_due format (numbers ++ n ∷ []) ≡ true → begins_gap b ≡ true
    → step (in_number format numbers (capped n)) b ≡ in_gap format (numbers ++ n ∷ []) true (in_comment false b)
next_number format numbers n b g right due e =
    ap (λ k. step (in_number format numbers k) b) (right_small numbers n g right)
    ∙ step_number format numbers n b None (gap_no_digit b e) (followed format numbers n b due e ∙ right)
    ∙ ap (λ (v : Bool). cond v (in_gap format (numbers ++ n ∷ []) true (in_comment false b)) (cond (is_plain format) (whole (plain_image format (numbers ++ n ∷ []))) (in_body (pnm format (numbers ++ n ∷ [])) []))) due

pub gap_begun : (format : ℕ) (numbers : List ℕ) (some : Bool) (b : ℕ) → begins_gap b ≡ true → step (in_gap format numbers some false) b ≡ in_gap format numbers true (in_comment false b)
gap_begun format numbers some b e = ap (λ (v : Bool). cond v (in_gap format numbers true (in_comment false b)) (cond (some && is_digit b) (in_number format numbers (b - 48)) (failed ImageText))) e

-- WORDS

abbrev pub Begins : List ℕ → Type 0
Begins tail = (b : ℕ) × (rest : List ℕ) × (tail ≡ b ∷ rest) × (begins_gap b ≡ true)

next_run : (format : ℕ) (numbers : List ℕ) (n : ℕ) (tail : List ℕ) → greatest_sample numbers ≤ 255 → number_fault numbers n ≡ None → is_number_due format (numbers ++ n ∷ []) ≡ true → Begins tail
    → run (in_number format numbers (capped n)) tail ≡ run (in_gap format (numbers ++ n ∷ []) false false) tail
unfolding run
next_run format numbers n tail g right due (b, rest, e, f) =
    ap (run (in_number format numbers (capped n))) e
    ∙ ap (λ x. run x rest) (next_number format numbers n b g right due f ∙ sym (gap_begun format (numbers ++ n ∷ []) false b f))
    ∙ ap (run (in_gap format (numbers ++ n ∷ []) false false)) (sym e)

pub gap_begins : (gap more : List ℕ) → is_gap_so_far gap ≡ true → is_empty gap ≡ false → Begins (gap ++ more)
gap_begins [] more e n = cc
gap_begins (b ∷ gap) more e n =
    let s = both (is_pnm_space (cond (in_comment false b) 32 b)) (all_of is_pnm_space (without_comments (in_comment false b) gap)) e in
    (b, gap ++ more, refl, in_gap_yet false b s.0)

pub word_begins : (w : NumberWord) (tail : List ℕ) → is_number_word w ≡ true → Begins (number_text w ++ tail)
word_begins w tail e =
    let s = both (is_gap w.gap) (not (is_empty w.digits) && all_of is_digit w.digits) e in
    let g = both (is_gap_so_far w.gap && not (ends_in_comment false w.gap)) (not (is_empty w.gap)) s.0 in
    let h = both (is_gap_so_far w.gap) (not (ends_in_comment false w.gap)) g.0 in
    subst Begins (sym (append_assoc w.gap w.digits tail)) (gap_begins w.gap (w.digits ++ tail) h.0 (negated (is_empty w.gap) g.1))

-- what is required after words, so that the last of them ends
abbrev pub StartsAfter : List NumberWord → List ℕ → Type 0
StartsAfter [] tail = Unit {0}
StartsAfter (w ∷ words) tail = Begins tail

words_run : (format : ℕ) (before : List ℕ) (words : List NumberWord) (tail : List ℕ) → greatest_sample before ≤ 255 → all_of is_number_word words ≡ true → are_right_numbers format before (map parsed_number words) ≡ true
    → is_number_due format (before ++ map parsed_number words) ≡ true → StartsAfter words tail
    → run (in_gap format before false false) (flat_map number_text words ++ tail) ≡ run (in_gap format (before ++ map parsed_number words) false false) tail
words_run format before [] tail g f r due st = ap (λ x. run (in_gap format x false false) tail) (sym (append-nil before))
words_run format before (w ∷ words) tail g f r due st =
    let s = both (is_number_word w) (all_of is_number_word words) f in
    let n = parsed_number w in
    let q = first_right format before n (map parsed_number words) r in
    let again : (before ++ n ∷ []) ++ map parsed_number words ≡ before ++ n ∷ map parsed_number words = append_assoc before (n ∷ []) (map parsed_number words) in
    let due' : is_number_due format ((before ++ n ∷ []) ++ map parsed_number words) ≡ true = ap (is_number_due format) again ∙ due in
    ap (run (in_gap format before false false)) (append_assoc (number_text w) (flat_map number_text words) tail)
    ∙ run_join (in_gap format before false false) (number_text w) (flat_map number_text words ++ tail)
    ∙ ap (λ x. run x (flat_map number_text words ++ tail)) (word_run format before w s.0)
    ∙ next_run format before n (flat_map number_text words ++ tail) g q.right (due_next words due' q.others) (rest_begins words s.1 st)
    ∙ words_run format (before ++ n ∷ []) words tail (greatest_more before n g q.right) s.1 q.others due' (starts words st)
    ∙ ap (λ x. run (in_gap format x false false) tail) again
  where
    due_next : (words : List NumberWord) → is_number_due format ((before ++ parsed_number w ∷ []) ++ map parsed_number words) ≡ true → are_right_numbers format (before ++ parsed_number w ∷ []) (map parsed_number words) ≡ true → is_number_due format (before ++ parsed_number w ∷ []) ≡ true
    due_next [] d a = ap (is_number_due format) (sym (append-nil (before ++ parsed_number w ∷ []))) ∙ d
    due_next (v ∷ words) d a = (first_right format (before ++ parsed_number w ∷ []) (parsed_number v) (map parsed_number words) a).due

    rest_begins : (words : List NumberWord) → all_of is_number_word words ≡ true → Begins tail → Begins (flat_map number_text words ++ tail)
    rest_begins [] f b = b
    rest_begins (v ∷ words) f b =
        let s = both (is_number_word v) (all_of is_number_word words) f in
        subst Begins (sym (append_assoc (number_text v) (flat_map number_text words) tail)) (word_begins v (flat_map number_text words ++ tail) s.0)

    starts : (words : List NumberWord) → Begins tail → StartsAfter words tail
    starts [] b = tt
    starts (v ∷ words) b = b

begun : (format : ℕ) (rest : List ℕ) → is_read format ≡ true → run at_start (80 ∷ format ∷ rest) ≡ run (in_gap format [] false false) rest
unfolding run
begun format rest e = ap (λ (v : Bool). run (cond v (in_gap format [] false false) (cond (is_left_out format) (failed ImageUnsupported) (failed ImageText))) rest) e

pub after_run : (bytes : List ℕ) (format : ℕ) (numbers tail : List ℕ) → AfterNumbers bytes format numbers tail → (numbers ≡ []) ⊎ Begins tail
    → run at_start bytes ≡ run (in_gap format numbers false false) tail
after_run bytes format numbers tail b st =
    ap (run at_start) b.cut
    ∙ begun format (flat_map number_text b.words ++ tail) b.known
    ∙ words_run format [] b.words tail (omega arith) b.formed (ap (are_right_numbers format []) b.told ∙ b.right) (ap (is_number_due format) b.told ∙ b.due) (starts b.words b.told st)
    ∙ ap (λ x. run (in_gap format x false false) tail) b.told
  where
    starts : (words : List NumberWord) → map parsed_number words ≡ numbers → (numbers ≡ []) ⊎ Begins tail → StartsAfter words tail
    starts [] e s = tt
    starts (w ∷ words) e (inl n) = let f : ⊥ = cc in absurd f
    starts (w ∷ words) e (inr s) = s

pub number_run : (bytes : List ℕ) (format : ℕ) (numbers : List ℕ) (n : ℕ) (after : List ℕ) → AfterNumber bytes format numbers n after
    → run at_start bytes ≡ run (in_number format numbers (capped n)) after
number_run bytes format numbers n after b =
    after_run bytes format numbers (number_text b.word ++ after) b.before (inr (word_begins b.word after b.formed))
    ∙ run_join (in_gap format numbers false false) (number_text b.word) after
    ∙ ap (λ x. run x after) (word_run format numbers b.word b.formed ∙ ap (λ k. in_number format numbers (capped k)) b.told)

-- FAULTS OF NUMBERS

-- whether more numbers are expected doesn't depend on the value of the last one
due_alike : (format : ℕ) (numbers : List ℕ) (n m : ℕ) → is_number_due format (numbers ++ n ∷ []) ≡ is_number_due format (numbers ++ m ∷ [])
due_alike format [] n m = one n ∙ sym (one m)
  where
    one : (n : ℕ) → is_number_due format (n ∷ []) ≡ true
    one n = by (is_plain format)
      where
        by : (v : Bool) → nat_lt 1 (cond v (3 + sample_count (pnm_info format (n ∷ []))) 3) ≡ true
        by true = lt_yes 1 (3 + sample_count (pnm_info format (n ∷ []))) (omega arith)
        by false = refl
due_alike format (w ∷ []) n m = two n ∙ sym (two m)
  where
    two : (n : ℕ) → is_number_due format (w ∷ n ∷ []) ≡ true
    two n = by (is_plain format)
      where
        by : (v : Bool) → nat_lt 2 (cond v (3 + sample_count (pnm_info format (w ∷ n ∷ []))) 3) ≡ true
        by true = lt_yes 2 (3 + sample_count (pnm_info format (w ∷ n ∷ []))) (omega arith)
        by false = refl
due_alike format (w ∷ h ∷ numbers) n m = ap (λ k. nat_lt (suc (suc k)) (numbers_due format (w ∷ h ∷ []))) (length-append numbers (n ∷ []) ∙ sym (length-append numbers (m ∷ [])))

pub ended_capped : (format : ℕ) (numbers : List ℕ) (n b : ℕ) → greatest_sample numbers ≤ 255 → ended_fault format numbers (capped n) b ≡ ended_fault format numbers n b
ended_capped format numbers n b g =
    ap (λ (v : Bool). cond (cond v (begins_gap b) (is_plain format || is_pnm_space b)) (number_fault numbers (capped n)) (Some ImageText)) (due_alike format numbers (capped n) n)
    ∙ ap (λ (x : Option Fault). cond (may_follow format (numbers ++ n ∷ []) b) x (Some ImageText)) (capped_fault numbers n g)

pub shows_number : (fault : Fault) (bytes : List ℕ) → ShowsNumber fault bytes → run at_start bytes ≡ failed fault
unfolding run
shows_number fault bytes (format, numbers, n, b, r, d, e) =
    let g = greatest_byte bytes format numbers (number_text r.word ++ b ∷ []) r.before in
    number_run bytes format numbers n (b ∷ []) r ∙ step_number format numbers (capped n) b (Some fault) d (ended_capped format numbers n b g ∙ e)

pub shows_no_number : (bytes : List ℕ) → ShowsNoNumber bytes → run at_start bytes ≡ failed ImageText
unfolding run
shows_no_number bytes (format, numbers, gap, b, r, some, so_far, outside, astray) =
    let s = both (not (begins_gap b)) (is_empty gap || not (is_digit b)) astray in
    by gap r some so_far outside (negated (begins_gap b) s.0) s.1
  where
    wrong : (some : Bool) → begins_gap b ≡ false → (some && is_digit b) ≡ false → step (in_gap format numbers some false) b ≡ failed ImageText
    wrong some e f =
        ap (λ (v : Bool). cond v (in_gap format numbers true (in_comment false b)) (cond (some && is_digit b) (in_number format numbers (b - 48)) (failed ImageText))) e
        ∙ ap (λ (v : Bool). cond v (in_number format numbers (b - 48)) (failed ImageText)) f

    empty_of : (xs : List ℕ) → not (is_empty xs) ≡ false → xs ≡ []
    empty_of [] e = refl
    empty_of (x ∷ xs) e = cc

    by : (gap : List ℕ) → AfterNumbers bytes format numbers (gap ++ b ∷ []) → (is_empty gap && not (is_empty numbers)) ≡ false → is_gap_so_far gap ≡ true → ends_in_comment false gap ≡ false → begins_gap b ≡ false → (is_empty gap || not (is_digit b)) ≡ true → run at_start bytes ≡ failed ImageText
    by [] r some so_far outside e f = after_run bytes format numbers (b ∷ []) r (inl (empty_of numbers some)) ∙ wrong false e refl
    by (x ∷ gap) r some so_far outside e f =
        after_run bytes format numbers ((x ∷ gap) ++ b ∷ []) r (inr (gap_begins (x ∷ gap) (b ∷ []) so_far refl))
        ∙ run_join (in_gap format numbers false false) (x ∷ gap) (b ∷ [])
        ∙ ap (λ s. run s (b ∷ [])) (some_gap_run format numbers false (x ∷ gap) so_far refl ∙ ap (in_gap format numbers true) outside)
        ∙ wrong true e (negated (is_digit b) f)

-- THE FORMAT

read_not_out : (b : ℕ) → is_left_out b ≡ true → is_read b ≡ false
read_not_out b e = grind (arith, nat_tests)

pub shows_no_format : (bytes : List ℕ) → ShowsNoFormat bytes → run at_start bytes ≡ failed ImageText
unfolding run
shows_no_format bytes (inl (b, e, f)) = ap (run at_start) e ∙ ap (λ (v : Bool). cond v (behind_first b) (failed ImageText)) f
shows_no_format bytes (inr (inl (b, e, f))) = ap (run at_start) e ∙ ap (λ (v : Bool). cond v (in_bmp_head (66 ∷ 77 ∷ [])) (failed ImageText)) f
shows_no_format bytes (inr (inr (b, e, f, g))) =
    ap (run at_start) e
    ∙ ap (λ (v : Bool). cond v (in_gap b [] false false) (cond (is_left_out b) (failed ImageUnsupported) (failed ImageText))) f
    ∙ ap (λ (v : Bool). cond v (failed ImageUnsupported) (failed ImageText)) g

pub shows_left_out : (bytes : List ℕ) → ShowsLeftOut bytes → run at_start bytes ≡ failed ImageUnsupported
unfolding run
shows_left_out bytes (b, e, f) =
    ap (run at_start) e
    ∙ ap (λ (v : Bool). cond v (in_gap b [] false false) (cond (is_left_out b) (failed ImageUnsupported) (failed ImageText))) (read_not_out b f)
    ∙ ap (λ (v : Bool). cond v (failed ImageUnsupported) (failed ImageText)) f

-- THE LAST NUMBER

pub last_run : (bytes : List ℕ) (format : ℕ) (numbers : List ℕ) (b : ℕ) → AfterLast bytes format numbers (b ∷ []) → is_digit b ≡ false → (is_plain format || is_pnm_space b) ≡ true
    → run at_start bytes ≡ cond (is_plain format) (whole (plain_image format numbers)) (in_body (pnm format numbers) [])
unfolding run
last_run bytes format numbers b l d f =
    let g = greatest_byte bytes format l.before (number_text l.read.word ++ b ∷ []) l.read.before in
    let none : is_number_due format (l.before ++ l.last ∷ []) ≡ false = ap (is_number_due format) (sym l.all) ∙ l.none_due in
    number_run bytes format l.before l.last (b ∷ []) l.read
    ∙ ap (λ k. step (in_number format l.before k) b) (right_small l.before l.last g l.right)
    ∙ step_number format l.before l.last b None d (last_followed format l.before l.last b none f ∙ l.right)
    ∙ ap (λ x. after_number format x b) (sym l.all)
    ∙ ap (λ (v : Bool). cond v (in_gap format numbers true (in_comment false b)) (cond (is_plain format) (whole (plain_image format numbers)) (in_body (pnm format numbers) []))) l.none_due
