-- What bytes that were read represent: a prefix of a spelling.
use Rattle.std.proofs.Common.{◌≡◌, ℕ, ◌+◌, ◌-◌, ◌*◌, ◌<◌, ◌≤◌, Bool, true, false, cond, not, ◌&&◌, List, [], ◌∷◌, ◌++◌, length, map, refl, sym, ap, ◌∙◌, subst, arith, None, Some}
use Rattle.std.specs.Prelude.{◌||◌, nat_lt, nat_le, flat_map}
use Rattle.std.proofs.lemmas.Bool.Decides.{nat_tests}
use Rattle.std.proofs.lemmas.List.{append_assoc, append-nil, length-append, length-map, map-append}
use Rattle.std.proofs.lemmas.List.Concat.{flat_map-append}
use Rattle.jpg_spec.specs.Lists.{all_of, is_empty}
use Rattle.jpg_spec.specs.NumberTexts.{is_digit, digits_from, is_space, NumberWord, NumbersWord, number_text, numbers_text, parsed_numbers}
use Rattle.jpg_spec_write.specs.ScriptGrammar.{is_joint, is_between, is_script_number, is_first, is_further, are_joined, are_numbers}
use Rattle.jpg_spec.proofs.Basics.Common.{both, and_intro, le_of, lt_of, some_once, not_empty}
use Rattle.jpg_spec.proofs.Texts.TextRuns.{all_join, one_of, value_of, digits_more}
use Rattle.jpg_scans.specs.declared.standing.Standing.{Standing}
use Rattle.jpg_scans.specs.declared.standing.Standing.TheVariants.{Before, InNumber, Behind, Joined}
use Rattle.jpg_scans.specs.TextState.{NumbersState, ended_by, ended, first_digit, further_digit, digit_by, joint_by, number_step, is_after}

-- TESTS of lists

spaces_between : (xs : List ℕ) → all_of is_space xs ≡ true → all_of is_between xs ≡ true
spaces_between [] e = refl
spaces_between (x ∷ xs) e =
    let s = both (is_space x) (all_of is_space xs) e in
    and_intro (is_between x) (all_of is_between xs) (ap (λ v. v || is_joint x) s.0) (spaces_between xs s.1)

joint_between : (b : ℕ) → is_joint b ≡ true → is_between b ≡ true
joint_between b e = by (is_space b)
  where
    by : (v : Bool) → (v || is_joint b) ≡ true
    by true = refl
    by false = e

-- what a test lets through
pub if_some : {X : Type 0} (P : X → Type 0) (v : Bool) (x s : X) → (v ≡ true → P x) → cond v (Some x) None ≡ Some s → P s
if_some P true x s h e = subst P (some_once x s e) (h refl)
if_some P false x s h e = cc

-- WORDS SO FAR

-- what is allowed before the next number
pub is_gap : List NumberWord → List ℕ → Bool
is_gap [] gap = all_of is_space gap
is_gap (w ∷ words) gap = not (is_empty gap) && all_of is_between gap

pub fits : List NumberWord → Bool
fits [] = true
fits (w ∷ words) = are_joined (w ∷ words)

fit_of : (words : List NumberWord) → are_joined words ≡ true → fits words ≡ true
unfolding fits
fit_of [] e = cc
fit_of (w ∷ words) e = e

joined_more : (words : List NumberWord) (gap digits : List ℕ) → fits words ≡ true → is_gap words gap ≡ true → is_script_number digits ≡ true → are_joined (words ++ record { gap = gap; digits = digits } ∷ []) ≡ true
unfolding fits is_gap
joined_more [] gap digits f g d = and_intro (all_of is_space gap && is_script_number digits) true (and_intro (all_of is_space gap) (is_script_number digits) g d) refl
joined_more (w ∷ words) gap digits f g d =
    let s = both (is_first w) (all_of is_further words) f in
    let word : NumberWord = record { gap = gap; digits = digits } in
    and_intro (is_first w) (all_of is_further (words ++ word ∷ [])) s.0
    (all_join is_further words (word ∷ []) s.1 (one_of is_further word (and_intro (not (is_empty gap) && all_of is_between gap) (is_script_number digits) g d)))

gap_between : (words : List NumberWord) (gap : List ℕ) → are_joined words ≡ true → is_empty gap ≡ false → all_of is_between gap ≡ true → is_gap words gap ≡ true
unfolding is_gap
gap_between [] gap j n a = cc
gap_between (w ∷ words) gap j n a = and_intro (not (is_empty gap)) (all_of is_between gap) (ap not n) a

-- numbers, and what follows them
pub record IsList (t ns tail : List ℕ) : Type 0 where
  pub words : List NumberWord
  pub text : t ≡ flat_map number_text words ++ tail
  pub joined : are_joined words ≡ true
  pub told : map value_of words ≡ ns
  pub few : length words ≤ 4

-- numbers, and digits of one more
pub record IsInNumber (t ns : List ℕ) (n v : ℕ) : Type 0 where
  pub words : List NumberWord
  pub gap : List ℕ
  pub digits : List ℕ
  pub text : t ≡ flat_map number_text words ++ (gap ++ digits)
  pub fit : fits words ≡ true
  pub told : map value_of words ≡ ns
  pub room : length words < 4
  pub apart : is_gap words gap ≡ true
  pub all : all_of is_digit digits ≡ true
  pub count : length digits ≡ n
  pub value : digits_from 0 digits ≡ v
  pub some : 1 ≤ n
  pub few : n ≤ 3
  pub small : v ≤ 255

pub record IsAfter (t ns : List ℕ) : Type 0 where
  pub tail : List ℕ
  pub list : IsList t ns tail
  pub some : is_empty tail ≡ false
  pub spaces : all_of is_space tail ≡ true

pub record IsJoined (t ns : List ℕ) : Type 0 where
  pub tail : List ℕ
  pub list : IsList t ns tail
  pub some : is_empty tail ≡ false
  pub apart : all_of is_between tail ≡ true
  pub room : length ns < 4

pub record IsBefore (t ns : List ℕ) : Type 0 where
  pub none : ns ≡ []
  pub spaces : all_of is_space t ≡ true

abbrev pub ListFront : List ℕ → List ℕ → Standing → Type 0
ListFront t ns Before = IsBefore t ns
ListFront t ns (InNumber n v) = IsInNumber t ns n v
ListFront t ns Behind = IsAfter t ns
ListFront t ns Joined = IsJoined t ns

-- A NUMBER IS COMPLETE

closed : (t ns : List ℕ) (n v : ℕ) → IsInNumber t ns n v → IsList t (ns ++ v ∷ []) []
closed t ns n v i =
    let word : NumberWord = record { gap = i.gap; digits = i.digits } in
    let long = length-append i.words (word ∷ []) in
    let room = i.room in
    let low : nat_le 1 (length i.digits) ≡ true = ap (nat_le 1) i.count ∙ le_yes 1 n i.some in
    let high : nat_le (length i.digits) 3 ≡ true = ap (λ m. nat_le m 3) i.count ∙ le_yes n 3 i.few in
    let fit : nat_le (digits_from 0 i.digits) 255 ≡ true = ap (λ m. nat_le m 255) i.value ∙ le_yes v 255 i.small in
    let number : is_script_number i.digits ≡ true = and_intro (nat_le 1 (length i.digits) && nat_le (length i.digits) 3) (all_of is_digit i.digits && nat_le (digits_from 0 i.digits) 255)
    (and_intro (nat_le 1 (length i.digits)) (nat_le (length i.digits) 3) low high) (and_intro (all_of is_digit i.digits) (nat_le (digits_from 0 i.digits) 255) i.all fit) in
    record {
      words = i.words ++ word ∷ [];
      text = i.text ∙ sym (append-nil (flat_map number_text (i.words ++ word ∷ [])) ∙ flat_map-append number_text i.words (word ∷ []) ∙ ap (λ l. flat_map number_text i.words ++ l) (append-nil (i.gap ++ i.digits)));
      joined = joined_more i.words i.gap i.digits i.fit i.apart number;
      told = map-append value_of i.words (word ∷ []) ∙ ap (λ l. l ++ digits_from 0 i.digits ∷ []) i.told ∙ ap (λ x. ns ++ x ∷ []) i.value;
      few = omega (arith, long, room);
    }
  where
    le_yes : (a b : ℕ) → a ≤ b → nat_le a b ≡ true
    le_yes a b h = grind (arith, nat_tests, h)

tail_more : (t ns tail : List ℕ) (b : ℕ) → IsList t ns tail → IsList (t ++ b ∷ []) ns (tail ++ b ∷ [])
tail_more t ns tail b l = record {
  words = l.words;
  text = ap (λ x. x ++ b ∷ []) l.text ∙ append_assoc (flat_map number_text l.words) tail (b ∷ []);
  joined = l.joined;
  told = l.told;
  few = l.few;
}

pub told_long : (t ns tail : List ℕ) → (l : IsList t ns tail) → length l.words ≡ length ns
told_long t ns tail l = sym (length-map l.words value_of) ∙ ap length l.told

-- A DIGIT

one_digit : (b : ℕ) → digits_from 0 (b ∷ []) ≡ b - 48
one_digit b = omega arith

small_digit : (b : ℕ) → is_digit b ≡ true → b - 48 ≤ 255
small_digit b e = let h = le_of b 57 (both (nat_le 48 b) (nat_le b 57) e).1 in omega (arith, h)

begun : (t ns tail : List ℕ) (b : ℕ) → IsList t ns tail → is_empty tail ≡ false → all_of is_between tail ≡ true → length ns < 4 → is_digit b ≡ true → IsInNumber (t ++ b ∷ []) ns 1 (b - 48)
begun t ns tail b l some apart room d =
    let long = told_long t ns tail l in
    record {
      words = l.words;
      gap = tail;
      digits = b ∷ [];
      text = ap (λ x. x ++ b ∷ []) l.text ∙ append_assoc (flat_map number_text l.words) tail (b ∷ []);
      fit = fit_of l.words l.joined;
      told = l.told;
      room = omega (arith, long, room);
      apart = gap_between l.words tail l.joined some apart;
      all = one_of is_digit b d;
      count = refl;
      value = one_digit b;
      some = omega arith;
      few = omega arith;
      small = small_digit b d;
    }

first_begun : (t ns : List ℕ) (b : ℕ) → IsBefore t ns → is_digit b ≡ true → IsInNumber (t ++ b ∷ []) ns 1 (b - 48)
unfolding fits is_gap
first_begun t ns b i d = record {
  words = [];
  gap = t;
  digits = b ∷ [];
  text = refl;
  fit = refl;
  told = sym i.none;
  room = omega arith;
  apart = i.spaces;
  all = one_of is_digit b d;
  count = refl;
  value = one_digit b;
  some = omega arith;
  few = omega arith;
  small = small_digit b d;
}

continued : (t ns : List ℕ) (n v b : ℕ) → IsInNumber t ns n v → is_digit b ≡ true → n < 3 → 10 * v + (b - 48) ≤ 255 → IsInNumber (t ++ b ∷ []) ns (n + 1) (10 * v + (b - 48))
continued t ns n v b i d few small =
    let long = length-append i.digits (b ∷ []) in
    let count = i.count in
    record {
      words = i.words;
      gap = i.gap;
      digits = i.digits ++ b ∷ [];
      text = ap (λ x. x ++ b ∷ []) i.text ∙ append_assoc (flat_map number_text i.words) (i.gap ++ i.digits) (b ∷ []) ∙ ap (λ x. flat_map number_text i.words ++ x) (append_assoc i.gap i.digits (b ∷ []));
      fit = i.fit;
      told = i.told;
      room = i.room;
      apart = i.apart;
      all = all_join is_digit i.digits (b ∷ []) i.all (one_of is_digit b d);
      count = omega (arith, long, count);
      value = digits_more 0 i.digits b ∙ ap (λ x. 10 * x + (b - 48)) i.value;
      some = omega arith;
      few = omega (arith, few);
      small = small;
    }

abbrev pub Front : List ℕ → NumbersState → Type 0
Front t s = ListFront t s.numbers s.standing

first_front : (t ns : List ℕ) (b : ℕ) (s : NumbersState) → (length ns < 4 → IsInNumber (t ++ b ∷ []) ns 1 (b - 48)) → first_digit ns (b - 48) ≡ Some s → Front (t ++ b ∷ []) s
first_front t ns b s h e = if_some (Front (t ++ b ∷ [])) (nat_lt (length ns) 4) (record { numbers = ns; standing = InNumber 1 (b - 48) }) s (λ a. h (lt_of (length ns) 4 a)) e

further_front : (t ns : List ℕ) (n v b : ℕ) (s : NumbersState) → IsInNumber t ns n v → is_digit b ≡ true → further_digit ns n v (b - 48) ≡ Some s → Front (t ++ b ∷ []) s
further_front t ns n v b s i d e =
    let fits = nat_le (10 * v + (b - 48)) 255 in
    if_some (Front (t ++ b ∷ [])) (nat_lt n 3 && fits) (record { numbers = ns; standing = InNumber (n + 1) (10 * v + (b - 48)) }) s
    (λ a. (let p = both (nat_lt n 3) fits a in continued t ns n v b i d (lt_of n 3 p.0) (le_of (10 * v + (b - 48)) 255 p.1))) e

digit_front : (t ns : List ℕ) (st : Standing) (b : ℕ) (s : NumbersState) → ListFront t ns st → is_digit b ≡ true → digit_by ns st (b - 48) ≡ Some s → Front (t ++ b ∷ []) s
digit_front t ns Before b s f d e = first_front t ns b s (λ room. first_begun t ns b f d) e
digit_front t ns (InNumber n v) b s f d e = further_front t ns n v b s f d e
digit_front t ns Behind b s f d e = first_front t ns b s (λ room. begun t ns f.tail b f.list f.some (spaces_between f.tail f.spaces) room d) e
digit_front t ns Joined b s f d e = first_front t ns b s (λ room. begun t ns f.tail b f.list f.some f.apart room d) e

-- A SPACE

space_front : (t ns : List ℕ) (st : Standing) (b : ℕ) → ListFront t ns st → is_space b ≡ true → Front (t ++ b ∷ []) (ended_by ns st)
space_front t ns Before b f e = record { none = f.none; spaces = all_join is_space t (b ∷ []) f.spaces (one_of is_space b e) }
space_front t ns (InNumber n v) b f e = record { tail = b ∷ []; list = tail_more t (ns ++ v ∷ []) [] b (closed t ns n v f); some = refl; spaces = one_of is_space b e }
space_front t ns Behind b f e = record { tail = f.tail ++ b ∷ []; list = tail_more t ns f.tail b f.list; some = not_empty f.tail b; spaces = all_join is_space f.tail (b ∷ []) f.spaces (one_of is_space b e) }
space_front t ns Joined b f e = record {
  tail = f.tail ++ b ∷ [];
  list = tail_more t ns f.tail b f.list;
  some = not_empty f.tail b;
  apart = all_join is_between f.tail (b ∷ []) f.apart (one_of is_between b (ap (λ v. v || is_joint b) e));
  room = f.room;
}

-- A COMMA OR HYPHEN

joined_front : (t ns tail : List ℕ) (b : ℕ) (s : NumbersState) → IsList t ns tail → all_of is_between tail ≡ true → is_joint b ≡ true
    → cond (nat_lt (length ns) 4) (Some (record { numbers = ns; standing = Joined })) None ≡ Some s → Front (t ++ b ∷ []) s
joined_front t ns tail b s l a j e = if_some (Front (t ++ b ∷ [])) (nat_lt (length ns) 4) (record { numbers = ns; standing = Joined }) s joins e
  where
    joins : nat_lt (length ns) 4 ≡ true → Front (t ++ b ∷ []) (record { numbers = ns; standing = Joined })
    joins p = record {
      tail = tail ++ b ∷ [];
      list = tail_more t ns tail b l;
      some = not_empty tail b;
      apart = all_join is_between tail (b ∷ []) a (one_of is_between b (joint_between b j));
      room = lt_of (length ns) 4 p;
    }

joint_front : (t ns : List ℕ) (st : Standing) (b : ℕ) (s : NumbersState) → ListFront t ns st → is_joint b ≡ true → joint_by (ended_by ns st).numbers (ended_by ns st).standing ≡ Some s → Front (t ++ b ∷ []) s
joint_front t ns Before b s f j e = cc
joint_front t ns (InNumber n v) b s f j e = joined_front t (ns ++ v ∷ []) [] b s (closed t ns n v f) refl j e
joint_front t ns Behind b s f j e = joined_front t ns f.tail b s f.list (spaces_between f.tail f.spaces) j e
joint_front t ns Joined b s f j e = joined_front t ns f.tail b s f.list f.apart j e

pub list_step : (t : List ℕ) (s u : NumbersState) (b : ℕ) → Front t s → number_step s b ≡ Some u → Front (t ++ b ∷ []) u
list_step t s u b f e = by (is_digit b) (is_space b) (is_joint b) refl refl refl e
  where
    by : (x y z : Bool) → is_digit b ≡ x → is_space b ≡ y → is_joint b ≡ z
        → cond x (digit_by s.numbers s.standing (b - 48)) (cond y (Some (ended s)) (cond z (joint_by (ended s).numbers (ended s).standing) None)) ≡ Some u → Front (t ++ b ∷ []) u
    by true y z p q r e = digit_front t s.numbers s.standing b u f p e
    by false true z p q r e = subst (Front (t ++ b ∷ [])) (some_once (ended s) u e) (space_front t s.numbers s.standing b f q)
    by false false true p q r e = joint_front t s.numbers s.standing b u f r e
    by false false false p q r e = cc

-- A LIST IS COMPLETE

pub record IsWhole (t ns : List ℕ) : Type 0 where
  pub word : NumbersWord
  pub text : numbers_text word ≡ t
  pub numbers : are_numbers word ≡ true
  pub few : nat_le (length word.numbers) 4 ≡ true
  pub told : parsed_numbers word ≡ ns

whole_list : (t ns tail : List ℕ) → IsList t ns tail → all_of is_space tail ≡ true → IsWhole t ns
whole_list t ns tail l e =
    let few = l.few in
    record {
      word = record { numbers = l.words; after = tail };
      text = sym l.text;
      numbers = and_intro (are_joined l.words) (all_of is_space tail) l.joined e;
      few = grind (arith, nat_tests, few);
      told = l.told;
    }

pub list_whole : (t ns : List ℕ) (st : Standing) → ListFront t ns st → is_after (ended_by ns st).standing ≡ true → IsWhole t (ended_by ns st).numbers
list_whole t ns Before f e = cc
list_whole t ns (InNumber n v) f e = whole_list t (ns ++ v ∷ []) [] (closed t ns n v f) refl
list_whole t ns Behind f e = whole_list t ns f.tail f.list f.spaces
list_whole t ns Joined f e = cc
