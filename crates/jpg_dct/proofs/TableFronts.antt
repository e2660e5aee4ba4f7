-- What bytes that were read represent: a prefix of a spelling of tables.
use Rattle.std.proofs.Common.{◌≡◌, ℕ, ◌+◌, ◌-◌, ◌*◌, ◌<◌, ◌≤◌, Bool, true, false, cond, not, ◌&&◌, ◌==◌, List, [], ◌∷◌, ◌++◌, length, map, refl, sym, ap, ◌∙◌, subst, arith, None, Some}
use Rattle.std.specs.Prelude.{nat_lt, nat_le, flat_map}
use Rattle.std.proofs.lemmas.Bool.Decides.{nat_tests}
use Rattle.std.proofs.lemmas.List.{append_assoc, append-nil, length-append, length-map, map-append}
use Rattle.std.proofs.lemmas.List.Concat.{flat_map-append}
use Rattle.jpg_spec.specs.Lists.{all_of, is_empty}
use Rattle.jpg_spec.specs.NumberTexts.{is_digit, digits_from, without_comments, is_space, NumberWord, number_text}
use Rattle.jpg_spec.specs.Segments.{QuantTable}
use Rattle.jpg_spec_image.specs.TableText.{is_quantiser_number, is_first_quantiser, is_further_quantiser, are_apart, is_count, tables_of, SpellsTables}
use Rattle.jpg_spec.proofs.Basics.Common.{both, and_intro, same_of, le_of, lt_of, some_once}
use Rattle.jpg_spec.specs.TextReaders.{run}
use Rattle.jpg_spec.proofs.Texts.TextRuns.{all_join, one_of, value_of, digits_more, run_front}
use Rattle.jpg_dct.specs.TableState.{NumbersState, no_numbers, ended, digit_step, number_step, parsed_tables}
use Rattle.jpg_dct.proofs.TableRuns.{at, ended_in}

-- TESTS of lists

some_left : (xs : List ℕ) (b : ℕ) → not (is_empty (xs ++ b ∷ [])) ≡ true
some_left [] b = refl
some_left (x ∷ xs) b = refl

pub none_of : (xs : List ℕ) → length xs ≡ 0 → xs ≡ []
none_of [] e = refl
none_of (x ∷ xs) e = absurd (omega (arith, e))

-- WORDS SO FAR

-- what is allowed before the next number
is_gap : List NumberWord → List ℕ → Bool
is_gap [] gap = all_of is_space gap
is_gap (w ∷ words) gap = not (is_empty gap) && all_of is_space gap

gap_left : (words : List NumberWord) (gap : List ℕ) (b : ℕ) → all_of is_space gap ≡ true → is_space b ≡ true → is_gap words (gap ++ b ∷ []) ≡ true
unfolding is_gap
gap_left [] gap b a e = all_join is_space gap (b ∷ []) a (one_of is_space b e)
gap_left (w ∷ words) gap b a e = and_intro (not (is_empty (gap ++ b ∷ []))) (all_of is_space (gap ++ b ∷ [])) (some_left gap b) (all_join is_space gap (b ∷ []) a (one_of is_space b e))

gap_space : (words : List NumberWord) (gap : List ℕ) → is_gap words gap ≡ true → all_of is_space gap ≡ true
unfolding is_gap
gap_space [] gap e = e
gap_space (w ∷ words) gap e = (both (not (is_empty gap)) (all_of is_space gap) e).1

words_more : (words : List NumberWord) (gap digits : List ℕ) → are_apart words ≡ true → is_gap words gap ≡ true → is_quantiser_number digits ≡ true
    → are_apart (words ++ record { gap = gap; digits = digits } ∷ []) ≡ true
unfolding is_gap
words_more [] gap digits f g d = and_intro (all_of is_space gap && is_quantiser_number digits) true (and_intro (all_of is_space gap) (is_quantiser_number digits) g d) refl
words_more (w ∷ words) gap digits f g d =
    let s = both (is_first_quantiser w) (all_of is_further_quantiser words) f in
    let p = both (not (is_empty gap)) (all_of is_space gap) g in
    let word : NumberWord = record { gap = gap; digits = digits } in
    and_intro (is_first_quantiser w) (all_of is_further_quantiser (words ++ word ∷ [])) s.0
    (all_join is_further_quantiser words (word ∷ []) s.1
    (one_of is_further_quantiser word (and_intro (not (is_empty gap)) (all_of is_space gap && is_quantiser_number digits) p.0 (and_intro (all_of is_space gap) (is_quantiser_number digits) p.1 d))))

-- Numbers with the space before them, and of one more space and digits, if any.
record IsFront (t : List ℕ) (s : NumbersState) : Type 0 where
  words : List NumberWord
  gap : List ℕ
  digits : List ℕ
  text : t ≡ flat_map number_text words ++ (gap ++ digits)
  formed : are_apart words ≡ true
  told : map value_of words ≡ s.numbers
  apart : is_gap words gap ≡ true
  all : all_of is_digit digits ≡ true
  count : length digits ≡ s.digits
  value : digits_from 0 digits ≡ s.value
  few : s.digits ≤ 5
  small : s.value ≤ 65535
  room : 1 ≤ s.digits → length words < 256
  most : length words ≤ 256

front_none : IsFront [] no_numbers
unfolding is_gap
front_none = record {
  words = [];
  gap = [];
  digits = [];
  text = refl;
  formed = refl;
  told = refl;
  apart = refl;
  all = refl;
  count = refl;
  value = refl;
  few = omega arith;
  small = omega arith;
  room = λ some. omega arith;
  most = omega arith;
}

-- A DIGIT

front_long : (t : List ℕ) (s : NumbersState) (f : IsFront t s) → length f.words ≡ length s.numbers
front_long t s f = sym (length-map f.words value_of) ∙ ap length f.told

digit_more : (t : List ℕ) (s : NumbersState) (b : ℕ) → IsFront t s → is_digit b ≡ true → length s.numbers < 256 → s.digits < 5 → 10 * s.value + (b - 48) ≤ 65535
    → IsFront (t ++ b ∷ []) (at s.numbers (s.digits + 1) (10 * s.value + (b - 48)))
digit_more t s b f d room few small =
    let long = front_long t s f in
    let more = length-append f.digits (b ∷ []) in
    let count = f.count in
    record {
      words = f.words;
      gap = f.gap;
      digits = f.digits ++ b ∷ [];
      text = ap (λ x. x ++ b ∷ []) f.text ∙ append_assoc (flat_map number_text f.words) (f.gap ++ f.digits) (b ∷ []) ∙ ap (λ x. flat_map number_text f.words ++ x) (append_assoc f.gap f.digits (b ∷ []));
      formed = f.formed;
      told = f.told;
      apart = f.apart;
      all = all_join is_digit f.digits (b ∷ []) f.all (one_of is_digit b d);
      count = omega (arith, more, count);
      value = digits_more 0 f.digits b ∙ ap (λ x. 10 * x + (b - 48)) f.value;
      few = omega (arith, few);
      small = small;
      room = λ some. omega (arith, long, room);
      most = f.most;
    }

digit_front : (t : List ℕ) (s u : NumbersState) (b : ℕ) → IsFront t s → is_digit b ≡ true → digit_step s (b - 48) ≡ Some u → IsFront (t ++ b ∷ []) u
digit_front t s u b f d e = by (nat_lt (length s.numbers) 256) (nat_lt s.digits 5) (nat_le (10 * s.value + (b - 48)) 65535) refl refl refl e
  where
    by : (x y z : Bool) → nat_lt (length s.numbers) 256 ≡ x → nat_lt s.digits 5 ≡ y → nat_le (10 * s.value + (b - 48)) 65535 ≡ z
        → cond (x && (y && z)) (Some (at s.numbers (s.digits + 1) (10 * s.value + (b - 48)))) None ≡ Some u → IsFront (t ++ b ∷ []) u
    by true true true p q r e =
        subst (IsFront (t ++ b ∷ [])) (some_once (at s.numbers (s.digits + 1) (10 * s.value + (b - 48))) u e)
        (digit_more t s b f d (lt_of (length s.numbers) 256 p) (lt_of s.digits 5 q) (le_of (10 * s.value + (b - 48)) 65535 r))
    by true true false p q r e = cc
    by true false z p q r e = cc
    by false y z p q r e = cc

-- THE NUMBERS, once the current one is complete

pub record IsEnded (t : List ℕ) (s : NumbersState) : Type 0 where
  pub words : List NumberWord
  pub tail : List ℕ
  pub text : t ≡ flat_map number_text words ++ tail
  pub formed : are_apart words ≡ true
  pub told : map value_of words ≡ (ended s).numbers
  pub space : all_of is_space tail ≡ true
  pub most : length words ≤ 256
  pub none : ended s ≡ at (ended s).numbers 0 0

number_yes : (ds : List ℕ) → 1 ≤ length ds → length ds ≤ 5 → all_of is_digit ds ≡ true → digits_from 0 ds ≤ 65535 → is_quantiser_number ds ≡ true
number_yes ds some few all small =
    and_intro (nat_le 1 (length ds) && nat_le (length ds) 5) (all_of is_digit ds && nat_le (digits_from 0 ds) 65535)
    (and_intro (nat_le 1 (length ds)) (nat_le (length ds) 5) (yes 1 (length ds) some) (yes (length ds) 5 few))
    (and_intro (all_of is_digit ds) (nat_le (digits_from 0 ds) 65535) all (yes (digits_from 0 ds) 65535 small))
  where
    yes : (a b : ℕ) → a ≤ b → nat_le a b ≡ true
    yes a b h = grind (arith, nat_tests, h)

none_in_work : (t : List ℕ) (s : NumbersState) → IsFront t s → s.digits ≡ 0 → IsEnded t s
none_in_work t s f zero =
    let no : f.digits ≡ [] = none_of f.digits (f.count ∙ zero) in
    let same : ended s ≡ s = ap (λ n. cond (n == 0) s (at (s.numbers ++ s.value ∷ []) 0 0)) zero in
    let value : s.value ≡ 0 = sym f.value ∙ ap (digits_from 0) no in
    record {
      words = f.words;
      tail = f.gap;
      text = f.text ∙ ap (λ x. flat_map number_text f.words ++ x) (ap (λ x. f.gap ++ x) no ∙ append-nil f.gap);
      formed = f.formed;
      told = f.told ∙ ap (λ (x : NumbersState). x.numbers) (sym same);
      space = gap_space f.words f.gap f.apart;
      most = f.most;
      none = same ∙ ap (λ n. at s.numbers n s.value) zero ∙ ap (λ v. at s.numbers 0 v) value ∙ ap (λ (x : NumbersState). at x.numbers 0 0) (sym same);
    }

one_in_work : (t : List ℕ) (s : NumbersState) → IsFront t s → 1 ≤ s.digits → IsEnded t s
one_in_work t s f some =
    let word : NumberWord = record { gap = f.gap; digits = f.digits } in
    let whole : ended s ≡ at (s.numbers ++ s.value ∷ []) 0 0 = ended_in s.numbers s.digits s.value some in
    let long = length-append f.words (word ∷ []) in
    let room = f.room some in
    let count = f.count in
    let few = f.few in
    let small : digits_from 0 f.digits ≤ 65535 = subst (λ v. v ≤ 65535) (sym f.value) f.small in
    record {
      words = f.words ++ word ∷ [];
      tail = [];
      text = f.text ∙ sym (append-nil (flat_map number_text (f.words ++ word ∷ [])) ∙ flat_map-append number_text f.words (word ∷ []) ∙ ap (λ l. flat_map number_text f.words ++ l) (append-nil (f.gap ++ f.digits)));
      formed = words_more f.words f.gap f.digits f.formed f.apart (number_yes f.digits (omega (arith, some, count)) (omega (arith, few, count)) f.all small);
      told = map-append value_of f.words (word ∷ []) ∙ ap (λ l. l ++ digits_from 0 f.digits ∷ []) f.told ∙ ap (λ x. s.numbers ++ x ∷ []) f.value ∙ ap (λ (x : NumbersState). x.numbers) (sym whole);
      space = refl;
      most = omega (arith, long, room);
      none = whole ∙ ap (λ (x : NumbersState). at x.numbers 0 0) (sym whole);
    }

front_ended : (t : List ℕ) (s : NumbersState) → IsFront t s → IsEnded t s
front_ended t s f = by (s.digits == 0) refl
  where
    by : (v : Bool) → (s.digits == 0) ≡ v → IsEnded t s
    by true e = none_in_work t s f (same_of s.digits 0 e)
    by false e = one_in_work t s f (grind (arith, nat_tests, e))

-- A SPACE

space_front : (t : List ℕ) (s : NumbersState) (b : ℕ) → IsFront t s → is_space b ≡ true → IsFront (t ++ b ∷ []) (ended s)
space_front t s b f e =
    let i = front_ended t s f in
    subst (IsFront (t ++ b ∷ [])) (sym i.none) (record {
      words = i.words;
      gap = i.tail ++ b ∷ [];
      digits = [];
      text = ap (λ x. x ++ b ∷ []) i.text ∙ append_assoc (flat_map number_text i.words) i.tail (b ∷ []) ∙ ap (λ x. flat_map number_text i.words ++ x) (sym (append-nil (i.tail ++ b ∷ [])));
      formed = i.formed;
      told = i.told;
      apart = gap_left i.words i.tail b i.space e;
      all = refl;
      count = refl;
      value = refl;
      few = omega arith;
      small = omega arith;
      room = λ some. absurd (omega (arith, some));
      most = i.most;
    })

front_step : (t : List ℕ) (s u : NumbersState) (b : ℕ) → IsFront t s → number_step s b ≡ Some u → IsFront (t ++ b ∷ []) u
front_step t s u b f e = by (is_digit b) (is_space b) refl refl e
  where
    by : (x y : Bool) → is_digit b ≡ x → is_space b ≡ y → cond x (digit_step s (b - 48)) (cond y (Some (ended s)) None) ≡ Some u → IsFront (t ++ b ∷ []) u
    by true y p q e = digit_front t s u b f p e
    by false true p q e = subst (IsFront (t ++ b ∷ [])) (some_once (ended s) u e) (space_front t s b f q)
    by false false p q e = cc

-- A COMPLETE TEXT

-- what was read, once the current number is complete
pub read_as : (text : List ℕ) (s : NumbersState) → run number_step no_numbers text ≡ Some s → IsEnded text s
read_as text s e = front_ended text s (run_front number_step IsFront front_step [] text no_numbers s front_none e)

pub told_spells : (text : List ℕ) (s : NumbersState) (tables : List QuantTable) → run number_step no_numbers (without_comments false text) ≡ Some s → parsed_tables s ≡ Some tables → SpellsTables text tables
told_spells text s tables e told = by (is_count (length (ended s).numbers)) refl told
  where
    by : (v : Bool) → is_count (length (ended s).numbers) ≡ v → cond v (Some (tables_of (ended s).numbers)) None ≡ Some tables → SpellsTables text tables
    by false c h = cc
    by true c h =
        let i = read_as (without_comments false text) s e in
        let long : is_count (length i.words) ≡ true = ap is_count (sym (length-map i.words value_of) ∙ ap length i.told) ∙ c in
        record {
          word = record { numbers = i.words; after = i.tail };
          formed = and_intro (are_apart i.words && all_of is_space i.tail) (is_count (length i.words)) (and_intro (are_apart i.words) (all_of is_space i.tail) i.formed i.space) long;
          spelled = i.text;
          told = ap tables_of i.told ∙ some_once (tables_of (ended s).numbers) tables h;
        }
