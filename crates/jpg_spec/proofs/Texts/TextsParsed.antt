-- A text that a reader reads encodes one answer, or is wrong at one place.
use Rattle.std.proofs.Common.{◌≡◌, ◌⊎◌, ℕ, ◌<◌, ◌≤◌, Bool, true, false, List, [], ◌++◌, length, take, drop, refl, sym, ap, ◌∙◌, subst, arith, inl, inr, Result, Ok, Err}
use Rattle.std.specs.Prelude.{nat_le}
use Rattle.std.proofs.lemmas.Bool.{cases_lt}
use Rattle.std.proofs.lemmas.Bool.Decides.{nat_tests}
use Rattle.std.proofs.lemmas.List.{append_assoc, append-nil, length-take-le, take-append-drop, take-take, take_all}
use Rattle.jpg_spec.specs.declared.fault.FaultAt.{FaultAt}
use Rattle.jpg_spec.specs.declared.fault.Fault.{Fault}
use Rattle.jpg_spec.proofs.Basics.Common.{le_of, take_shorter}
use Rattle.jpg_spec.specs.TextForms.{TextForm, longest_text, Begins, IsWrongByte, EndsTooEarly, IsTooLong, IsWrongText, Tells, HasOneAnswer}

le_both : (p q : ℕ) → p ≤ q → q ≤ p → p ≡ q
le_both p q l h = omega (arith, l, h)

same_fault : (f g : FaultAt) (fault : Fault) → f.fault ≡ fault → g.fault ≡ fault → f.at ≡ g.at → f ≡ g
same_fault f g fault a b e =
    ap (λ (x : Fault). (let r : FaultAt = record { fault = x; at = f.at } in r)) (a ∙ sym b) ∙ ap (λ n. (let r : FaultAt = record { fault = g.fault; at = n } in r)) e

front_whole : (text : List ℕ) → length (take 65537 text) ≤ 65536 → take 65537 text ≡ text
front_whole text short = by (cases_lt 65536 (length text))
  where
    by : (65536 < length text) ⊎ (length text ≤ 65536) → take 65537 text ≡ text
    by (inl long) = absurd (let e = length-take-le 65537 text (omega (arith, long)) in omega (arith, e, short))
    by (inr few) = take_all 65537 text (omega (arith, few))

front_few : (text : List ℕ) → length (take 65537 text) ≤ length text
front_few text = by (cases_lt 65536 (length text))
  where
    by : (65536 < length text) ⊎ (length text ≤ 65536) → length (take 65537 text) ≤ length text
    by (inl long) = (let e = length-take-le 65537 text (omega (arith, long)) in omega (arith, e, long))
    by (inr few) = (let e = ap length (take_all 65537 text (omega (arith, few))) in omega (arith, e))

module _ {A : Type 0} (f : TextForm A) where
  -- a prefix of a prefix of a text is one
  front_begins : (text : List ℕ) (n : ℕ) → Begins f text → Begins f (take n text)
  front_begins text n b =
      let whole : take n text ++ (drop n text ++ b.0) ≡ text ++ b.0 = sym (append_assoc (take n text) (drop n text) b.0) ∙ ap (λ x. x ++ b.0) (take-append-drop n text) in
      (drop n text ++ b.0, (b.1.0, subst (λ x. f.spells x b.1.0) (sym whole) b.1.1))

  shorter_begins : (text : List ℕ) (m n : ℕ) → m ≤ n → Begins f (take n text) → Begins f (take m text)
  shorter_begins text m n l b = subst (Begins f) (take_shorter m n text l) (front_begins (take n text) m b)

  spelled_begins : (text : List ℕ) (told : A) → f.spells text told → Begins f text
  spelled_begins text told s = ([], (told, subst (λ x. f.spells x told) (sym (append-nil text)) s))

  -- NO TWO ANSWERS

  -- no text that begins with all of these bytes is wrong before their end
  wrong_no : (text : List ℕ) (place n : ℕ) → IsWrongByte A f text place → Begins f (take n text) → place ≤ n → ⊥
  wrong_no text place n w b l = w.wrong (shorter_begins text place n l b)

  wrong_not_whole : (text : List ℕ) (place : ℕ) → IsWrongByte A f text place → Begins f text → ⊥
  wrong_not_whole text place w b = w.wrong (front_begins text place b)

  wrong_once : (text : List ℕ) (p q : ℕ) → IsWrongByte A f text p → IsWrongByte A f text q → p ≤ q
  wrong_once text p q w v = by (nat_le p q) refl
    where
      by : (b : Bool) → nat_le p q ≡ b → p ≤ q
      by true e = le_of p q e
      by false e =
          let more : q < p = grind (arith, nat_tests, e) in
          let is = w.place_is in
          absurd (wrong_no text q w.before v w.begins (omega (arith, more, is)))

  not_both : (text : List ℕ) (told : A) (place : ℕ) → length text ≤ longest_text → f.spells text told → IsWrongText f text place → ⊥
  not_both text told place short s (inl w) = wrong_not_whole text place w (spelled_begins text told s)
  not_both text told place short s (inr (inl e)) = e.wrong told s
  not_both text told place short s (inr (inr l)) = let long = l.long in absurd (omega (arith, short, long))

  wrong_not_long : (text : List ℕ) (p q : ℕ) → IsWrongByte A f text p → IsTooLong A f text q → ⊥
  wrong_not_long text p q w l = let is = w.place_is in let early = w.early in wrong_no text p longest_text w l.begins (omega (arith, is, early))

  early_not_long : (text : List ℕ) (p q : ℕ) → EndsTooEarly A f text p → IsTooLong A f text q → ⊥
  early_not_long text p q e l = let short = e.short in let long = l.long in absurd (omega (arith, short, long))

  one_place : (text : List ℕ) (p q : ℕ) → IsWrongText f text p → IsWrongText f text q → p ≡ q
  one_place text p q (inl w) (inl v) = le_both p q (wrong_once text p q w v) (wrong_once text q p v w)
  one_place text p q (inl w) (inr (inl e)) = absurd (wrong_not_whole text p w e.begins)
  one_place text p q (inl w) (inr (inr l)) = absurd (wrong_not_long text p q w l)
  one_place text p q (inr (inl e)) (inl v) = absurd (wrong_not_whole text q v e.begins)
  one_place text p q (inr (inl e)) (inr (inl d)) = e.place_is ∙ sym d.place_is
  one_place text p q (inr (inl e)) (inr (inr l)) = absurd (early_not_long text p q e l)
  one_place text p q (inr (inr l)) (inl v) = absurd (wrong_not_long text q p v l)
  one_place text p q (inr (inr l)) (inr (inl e)) = absurd (early_not_long text q p e l)
  one_place text p q (inr (inr l)) (inr (inr k)) = l.place_is ∙ sym k.place_is

  -- A TEXT DEPENDS ONLY ON ITS PREFIX, one byte longer than the longest

  begins_again : (n : ℕ) (text : List ℕ) → n ≤ 65537 → Begins f (take n (take 65537 text)) → Begins f (take n text)
  begins_again n text few h = subst (Begins f) (take-take n 65537 text few) h

  begins_front : (n : ℕ) (text : List ℕ) → n ≤ 65537 → Begins f (take n text) → Begins f (take n (take 65537 text))
  begins_front n text few h = subst (Begins f) (sym (take-take n 65537 text few)) h

  wrong_whole : (text : List ℕ) (place : ℕ) → IsWrongText f (take 65537 text) place → IsWrongText f text place
  wrong_whole text place (inl h) = inl (record {
    before = h.before;
    place_is = h.place_is;
    there = (let there = h.there in let few = front_few text in omega (arith, there, few));
    early = h.early;
    begins = begins_again h.before text (let early = h.early in omega (arith, early)) h.begins;
    wrong = λ b. h.wrong (begins_front place text (let early = h.early in let e = h.place_is in omega (arith, early, e)) b);
  })
  wrong_whole text place (inr (inl h)) = inr (inl (subst (λ (t : List ℕ). EndsTooEarly A f t place) (front_whole text h.short) h))
  wrong_whole text place (inr (inr h)) = inr (inr (record {
    place_is = h.place_is;
    long = (let long = h.long in let few = front_few text in omega (arith, long, few));
    begins = begins_again 65536 text (omega arith) h.begins;
  }))

  pub tells_whole : (text : List ℕ) (told : Result A FaultAt) → Tells f (take 65537 text) told → Tells f text told
  tells_whole text (Ok told) h = subst (λ (t : List ℕ). Tells f t (Ok told)) (front_whole text h.0) h
  tells_whole text (Err e) h = (h.0, wrong_whole text e.at h.1)

  -- if what a text spells is one
  pub one_answer : ((text : List ℕ) (a b : A) → f.spells text a → f.spells text b → a ≡ b) → (text : List ℕ) → HasOneAnswer f text
  one_answer once text (Ok a) (Ok b) s t = ap (λ (x : A). (let r : Result A FaultAt = Ok x in r)) (once text a b s.1 t.1)
  one_answer once text (Ok a) (Err e) s t = absurd (not_both text a e.at s.0 s.1 t.1)
  one_answer once text (Err e) (Ok b) s t = absurd (not_both text b e.at t.0 t.1 s.1)
  one_answer once text (Err e) (Err g) s t = ap (λ (x : FaultAt). (let r : Result A FaultAt = Err x in r)) (same_fault e g f.fault s.0 t.0 (one_place text e.at g.at s.1 t.1))
