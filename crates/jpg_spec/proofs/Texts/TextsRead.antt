-- A text that is read byte by byte: where it is wrong, and what it encodes.
use Rattle.std.proofs.Common.{◌≡◌, ◌⊎◌, ℕ, ◌+◌, ◌<◌, ◌≤◌, false, List, [], ◌∷◌, ◌++◌, length, take, get_or, refl, sym, ap, ◌∙◌, subst, inl, inr, Option, None, Some, Err}
use Rattle.std.specs.Prelude.{option_map, option_and_then}
use Rattle.std.proofs.lemmas.List.{take_more}
use Rattle.jpg_spec.specs.declared.fault.FaultAt.{FaultAt}
use Rattle.jpg_spec.specs.NumberTexts.{without_comments}
use Rattle.jpg_spec.proofs.Basics.Common.{some_once}
use Rattle.jpg_spec.specs.TextForms.{TextForm, Begins, IsWrongByte, EndsTooEarly, IsTooLong, Tells, HasOneAnswer}
use Rattle.jpg_spec.specs.TextReaders.{TextReader, ReaderState, reader_step, run, plain, read_by, IsRead}
use Rattle.jpg_spec.proofs.Texts.TextRuns.{run_append, run_two, run_cons, run_one, comments_read, line_end}
use Rattle.jpg_spec.proofs.Texts.TextsParsed.{one_answer}

-- a text that the reader has read to its end
pub record ReadsAs (A S : Type 0) (r : TextReader A S) (bytes : List ℕ) (told : A) : Type 0 where
  pub state : S
  pub run : run r.step r.start bytes ≡ Some state
  pub is : r.told state ≡ Some told

-- what may follow in this state, up to the end of a text
pub record Finishes (A S : Type 0) (r : TextReader A S) (s : S) : Type 0 where
  pub rest : List ℕ
  pub state : ReaderState S
  pub run : run (reader_step r.step) (plain s) rest ≡ Some state
  pub told : A
  pub is : r.told state.text ≡ Some told

-- A READER OF A FORM: it reads what is spelled, what it answers is spelled, and after each text that it reads a line may
-- end, and some text goes on.
pub record ReadsForm (A S : Type 0) (f : TextForm A) (r : TextReader A S) : Type 0 where
  pub spelled : (text : List ℕ) (told : A) → f.spells text told → ReadsAs A S r (without_comments false text) told
  pub told : (text : List ℕ) (s : S) (told : A) → run r.step r.start (without_comments false text) ≡ Some s → r.told s ≡ Some told → f.spells text told
  pub goes_on : (text : List ℕ) (s : S) → run r.step r.start (without_comments false text) ≡ Some s → (next : S) × (r.step s 10 ≡ Some next) × Finishes A S r next

module _ {A S : Type 0} {f : TextForm A} {r : TextReader A S} (reads : ReadsForm A S f r) where
  plain_read : (text : List ℕ) (s : ReaderState S) → read_by r text ≡ Some s → run r.step r.start (without_comments false text) ≡ Some s.text
  plain_read text s e = sym (comments_read r.step false r.start text) ∙ ap (option_map (λ (x : ReaderState S). x.text)) e

  pub told_spells : (text : List ℕ) (s : ReaderState S) (told : A) → read_by r text ≡ Some s → r.told s.text ≡ Some told → f.spells text told
  told_spells text s told e h = reads.told text s.text told (plain_read text s e) h

  begins : (text : List ℕ) (s : ReaderState S) → read_by r text ≡ Some s → Begins f text
  begins text s e =
      let line = reads.goes_on text s.text (plain_read text s e) in
      let g = line.2 in
      let step = reader_step r.step in
      let all : read_by r (text ++ 10 ∷ g.rest) ≡ Some g.state = run_two step (plain r.start) s text (10 ∷ g.rest) e ∙ run_cons step s (plain line.0) 10 g.rest (line_end r.step s line.0 line.1) ∙ g.run in
      (10 ∷ g.rest, (g.told, told_spells (text ++ 10 ∷ g.rest) g.state g.told all g.is))

  -- bytes at which the reader stops begin no text of the form
  stops : (bytes : List ℕ) → Begins f bytes → read_by r bytes ≡ None → ⊥
  stops bytes b none =
      let s = reads.spelled (bytes ++ b.0) b.1.0 b.1.1 in
      let no : read_by r (bytes ++ b.0) ≡ None = run_append (reader_step r.step) (plain r.start) bytes b.0 ∙ ap (option_and_then (λ t. run (reader_step r.step) t b.0)) none in
      let z : None ≡ Some s.state = ap (option_map (λ (x : ReaderState S). x.text)) (sym no) ∙ comments_read r.step false r.start (bytes ++ b.0) ∙ s.run in
      cc

  -- THE ANSWERS

  pub byte_read : (text : List ℕ) (n b : ℕ) (s : ReaderState S) (o : Option (ReaderState S)) → n < length text → b ≡ get_or text n 0 → read_by r (take n text) ≡ Some s → reader_step r.step s b ≡ o → read_by r (take (n + 1) text) ≡ o
  byte_read text n b s o l e h is =
      let step = reader_step r.step in
      ap (read_by r) (take_more text n 0 l ∙ ap (λ x. take n text ++ x ∷ []) (sym e)) ∙ run_two step (plain r.start) s (take n text) (b ∷ []) h ∙ run_one step s b ∙ is

  pub wrong_byte : (text : List ℕ) (n b : ℕ) (s : ReaderState S) → n < length text → n < 65536 → b ≡ get_or text n 0 → read_by r (take n text) ≡ Some s → reader_step r.step s b ≡ None → IsWrongByte A f text (n + 1)
  wrong_byte text n b s l early e h is = record {
    before = n;
    place_is = refl;
    there = l;
    early = early;
    begins = begins (take n text) s h;
    wrong = λ begun. stops (take (n + 1) text) begun (byte_read text n b s None l e h is);
  }

  pub too_long : (text : List ℕ) (n : ℕ) (s : ReaderState S) → n < length text → n ≡ 65536 → read_by r (take n text) ≡ Some s → IsTooLong A f text (n + 1)
  too_long text n s l e h = record {
    place_is = ap (λ m. m + 1) e;
    long = subst (λ m. m < length text) e l;
    begins = subst (λ m. Begins f (take m text)) e (begins (take n text) s h);
  }

  pub ends_early : (text : List ℕ) (s : ReaderState S) → length text ≤ 65536 → read_by r text ≡ Some s → r.told s.text ≡ None → EndsTooEarly A f text (length text)
  ends_early text s l h none = record {
    place_is = refl;
    short = l;
    begins = begins text s h;
    wrong = λ told spells.
        (let a = reads.spelled text told spells in
        let same : s.text ≡ a.state = some_once s.text a.state (sym (plain_read text s h) ∙ a.run) in
        let no : None ≡ Some told = sym none ∙ ap r.told same ∙ a.is in
        let z : ⊥ = cc in z);
  }

  pub refused : (text : List ℕ) (place : ℕ) (e : FaultAt) → e ≡ record { fault = f.fault; at = place } → IsWrongByte A f text place ⊎ IsTooLong A f text place → IsRead f r text (Err e)
  refused text place e is w = subst (λ (g : FaultAt). IsRead f r text (Err g)) (sym is) (refl, w)

  pub refused_at_end : (text : List ℕ) (place : ℕ) (e : FaultAt) → e ≡ record { fault = f.fault; at = place } → EndsTooEarly A f text place → Tells f text (Err e)
  refused_at_end text place e is w = subst (λ (g : FaultAt). Tells f text (Err g)) (sym is) (refl, inr (inl w))

  once : (text : List ℕ) (a b : A) → f.spells text a → f.spells text b → a ≡ b
  once text a b s t =
      let x = reads.spelled text a s in
      let y = reads.spelled text b t in
      let same : x.state ≡ y.state = some_once x.state y.state (sym x.run ∙ y.run) in
      some_once a b (sym x.is ∙ ap r.told same ∙ y.is)

  pub has_one_answer : (text : List ℕ) → HasOneAnswer f text
  has_one_answer = one_answer f once
