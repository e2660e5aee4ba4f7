-- Readers of texts from state to state, and bytes of texts.
use Rattle.std.proofs.Common.{◌≡◌, ℕ, ◌+◌, ◌-◌, ◌*◌, ◌≤◌, Bool, true, false, List, [], ◌∷◌, ◌++◌, refl, sym, ap, ◌∙◌, subst, arith, Option, None, Some, ◌==◌, ◌&&◌, cond}
use Rattle.std.specs.Prelude.{◌||◌, nat_le, option_map, option_and_then}
use Rattle.std.proofs.lemmas.Bool.Decides.{nat_tests}
use Rattle.std.proofs.lemmas.List.{append_assoc, append-nil}
use Rattle.jpg_spec.specs.Lists.{all_of}
use Rattle.jpg_spec.specs.NumberTexts.{is_digit, is_space, digits_from, in_comment, without_comments, NumberWord}
use Rattle.jpg_spec.proofs.Basics.Common.{both, and_intro, same_of, some_once}
use Rattle.jpg_spec.specs.TextReaders.{run, ReaderState, reader_step, plain}

-- RUNS

pub run_append : {S : Type 0} (step : S → ℕ → Option S) (s : S) (a b : List ℕ) → run step s (a ++ b) ≡ option_and_then (λ t. run step t b) (run step s a)
unfolding run
run_append step s [] b = refl
run_append {S = S} step s (x ∷ a) b = by (step s x) (λ t. run_append step t a b)
  where
    by : (o : Option S) → ((t : S) → run step t (a ++ b) ≡ option_and_then (λ u. run step u b) (run step t a))
        → option_and_then (λ t. run step t (a ++ b)) o ≡ option_and_then (λ u. run step u b) (option_and_then (λ t. run step t a) o)
    by None more = refl
    by (Some t) more = more t

pub run_two : {S : Type 0} (step : S → ℕ → Option S) (s t : S) (a b : List ℕ) → run step s a ≡ Some t → run step s (a ++ b) ≡ run step t b
run_two step s t a b e = run_append step s a b ∙ ap (option_and_then (λ u. run step u b)) e

pub run_cons : {S : Type 0} (step : S → ℕ → Option S) (s t : S) (x : ℕ) (b : List ℕ) → step s x ≡ Some t → run step s (x ∷ b) ≡ run step t b
unfolding run
run_cons step s t x b e = ap (option_and_then (λ u. run step u b)) e

pub run_nil : {S : Type 0} (step : S → ℕ → Option S) (s : S) → run step s [] ≡ Some s
unfolding run
run_nil step s = refl

pub run_one : {S : Type 0} (step : S → ℕ → Option S) (s : S) (b : ℕ) → run step s (b ∷ []) ≡ step s b
unfolding run
run_one {S = S} step s b = same (step s b)
  where
    same : (o : Option S) → option_and_then (λ (t : S). Some t) o ≡ o
    same None = refl
    same (Some t) = refl

-- what each step keeps of the bytes so far, all keep
pub run_front : {S : Type 0} (step : S → ℕ → Option S) (Front : List ℕ → S → Type 0) → ((t : List ℕ) (s u : S) (b : ℕ) → Front t s → step s b ≡ Some u → Front (t ++ b ∷ []) u)
    → (t bytes : List ℕ) (s u : S) → Front t s → run step s bytes ≡ Some u → Front (t ++ bytes) u
unfolding run
run_front step Front one t [] s u f e = subst (λ x. Front x u) (sym (append-nil t)) (subst (Front t) (some_once s u e) f)
run_front {S = S} step Front one t (b ∷ bytes) s u f e = by (step s b) refl e (λ v a. run_front step Front one (t ++ b ∷ []) bytes v u (one t s v b f a))
  where
    by : (o : Option S) → step s b ≡ o → option_and_then (λ v. run step v bytes) o ≡ Some u → ((v : S) → step s b ≡ Some v → run step v bytes ≡ Some u → Front ((t ++ b ∷ []) ++ bytes) u) → Front (t ++ b ∷ bytes) u
    by None a e more = cc
    by (Some v) a e more = subst (λ x. Front x u) (append_assoc t (b ∷ []) bytes) (more v a e)

-- the text that is read is the one without comments
pub comments_read : {S : Type 0} (step : S → ℕ → Option S) (behind : Bool) (s : S) (bytes : List ℕ)
    → option_map (λ (r : ReaderState S). r.text) (run (reader_step step) (record { behind = behind; text = s }) bytes) ≡ run step s (without_comments behind bytes)
unfolding run
comments_read step behind s [] = refl
comments_read {S = S} step behind s (b ∷ bytes) = by (step s (cond (in_comment behind b) 32 b)) (λ t. comments_read step (in_comment behind b) t bytes)
  where
    by : (o : Option S) → ((t : S) → option_map (λ (r : ReaderState S). r.text) (run (reader_step step) (record { behind = in_comment behind b; text = t }) bytes) ≡ run step t (without_comments (in_comment behind b) bytes))
        → option_map (λ (r : ReaderState S). r.text) (option_and_then (λ r. run (reader_step step) r bytes) (option_map (λ (t : S). record { behind = in_comment behind b; text = t }) o))
        ≡ option_and_then (λ t. run step t (without_comments (in_comment behind b) bytes)) o
    by None more = refl
    by (Some t) more = more t

-- no comment goes on after LF
pub line_end : {S : Type 0} (step : S → ℕ → Option S) (r : ReaderState S) (s : S) → step r.text 10 ≡ Some s → reader_step step r 10 ≡ Some (plain s)
line_end {S = S} step r s e =
    ap (λ v. option_map (λ (text : S). record { behind = v; text = text }) (step r.text (cond v 32 10))) (no_comment r.behind)
    ∙ ap (λ (o : Option S). option_map (λ (text : S). plain text) o) e
  where
    no_comment : (behind : Bool) → in_comment behind 10 ≡ false
    no_comment true = refl
    no_comment false = refl

-- BYTES

pub space_low : (b : ℕ) → is_space b ≡ true → b ≤ 32
space_low b e = by (b == 32) (b == 9) (b == 10) (b == 12) (b == 13) refl refl refl refl refl e
  where
    by : (v w x y z : Bool) → (b == 32) ≡ v → (b == 9) ≡ w → (b == 10) ≡ x → (b == 12) ≡ y → (b == 13) ≡ z → (v || (w || (x || (y || z)))) ≡ true → b ≤ 32
    by true w x y z a b' c d f e = let s = same_of b 32 a in omega (arith, s)
    by false true x y z a b' c d f e = let s = same_of b 9 b' in omega (arith, s)
    by false false true y z a b' c d f e = let s = same_of b 10 c in omega (arith, s)
    by false false false true z a b' c d f e = let s = same_of b 12 d in omega (arith, s)
    by false false false false true a b' c d f e = let s = same_of b 13 f in omega (arith, s)
    by false false false false false a b' c d f e = cc

pub space_no_digit : (b : ℕ) → is_space b ≡ true → is_digit b ≡ false
space_no_digit b e =
    let l = space_low b e in
    let no : nat_le 48 b ≡ false = grind (arith, nat_tests, l) in
    ap (λ t. t && nat_le b 57) no

-- TESTS of lists

pub all_join : {A : Type 0} (t : A → Bool) (a b : List A) → all_of t a ≡ true → all_of t b ≡ true → all_of t (a ++ b) ≡ true
all_join t [] b e f = f
all_join t (x ∷ a) b e f =
    let s = both (t x) (all_of t a) e in
    and_intro (t x) (all_of t (a ++ b)) s.0 (all_join t a b s.1 f)

pub one_of : {A : Type 0} (t : A → Bool) (x : A) → t x ≡ true → all_of t (x ∷ []) ≡ true
one_of t x e = and_intro (t x) true e refl

-- NUMBERS

abbrev pub value_of : NumberWord → ℕ
value_of w = digits_from 0 w.digits

pub digits_more : (v : ℕ) (ds : List ℕ) (b : ℕ) → digits_from v (ds ++ b ∷ []) ≡ 10 * digits_from v ds + (b - 48)
digits_more v [] b = refl
digits_more v (d ∷ ds) b = digits_more (10 * v + (d - 48)) ds b

pub grows : (v : ℕ) (ds : List ℕ) → v ≤ digits_from v ds
grows v [] = omega arith
grows v (d ∷ ds) = let h = grows (10 * v + (d - 48)) ds in omega (arith, h)
