-- The pending elements of bands, element by element.
use Rattle.std.proofs.Common.{◌≡◌, ℕ, zero, suc, ◌+◌, ◌-◌, ◌^◌, ◌<◌, ◌≤◌, ◌==◌, ◌⊎◌, inl, inr, lit<, Bool, true, false, cond, List, [], ◌∷◌, ◌++◌, length, take, drop, refl, sym, ap, ◌∙◌, subst, arith, ℤ, pos, ◌||◌}
use Rattle.std.specs.Prelude.{nat_lt, nat_abs}
use Rattle.std.proofs.lemmas.Bool.{cases_lt}
use Rattle.std.proofs.lemmas.Bool.Decides.{nat_tests}
use Rattle.std.proofs.lemmas.Nat.Bits.{bit_at-zero}
use Rattle.std.proofs.lemmas.List.{append_assoc, get_or-replicate}
use Rattle.arrayvec.specs.ArrayVec.{ArrayVec}
use Rattle.jpg_spec.specs.Lists.{any_of}
use Rattle.jpg_spec.specs.Elements.{Element, ends, is_zero, zeros}
use Rattle.jpg_spec_write.specs.Sending.{Sent, is_new, up_to_last, after_last, corrections_of, value_elements, ended_bands, band_elements}
use Rattle.jpg_spec.proofs.Basics.Common.{neither, not_lt_of}
use Rattle.jpg_prog_write.specs.Items.{IsItem}
use Rattle.jpg_prog_write.specs.Bands.{IsBand, IsShort, AreMarks, IsReady, sents, elements_after, elements_due, elements_left, ends_new, cleared}
use Rattle.jpg_prog_write.specs.Steps.{IsFirst, IsCompleteElement, GivesElement, LeavesBand}
use Rattle.jpg_prog_write.specs.declared.band.Band.{Band}
use Rattle.jpg_prog_write.specs.declared.bands.Bands.{Bands}
use Rattle.jpg_prog_write.specs.declared.bands.Whole.{Whole}
use Rattle.jpg_prog_write.specs.declared.item.Item.{Item}
use Rattle.jpg_prog_write.proofs.Fronts.{sents_step, sents_none, sents_cut, cut_is}

-- LISTS

-- a band of a prefix and a rest
pub due_begins : (bands : ℕ) (bits : List Bool) (band front rest : List Sent) (later : List (List Sent)) → up_to_last band ≡ front → after_last band ≡ rest → 1 ≤ length front + length rest
    → band_elements 32767 bands bits (band ∷ later) ≡ elements_due bands bits front rest later
unfolding elements_due elements_after
due_begins bands bits band [] [] later e f some = absurd (omega (arith, some))
due_begins bands bits band [] (s ∷ rest) later e f some = rw (e, f) refl
due_begins bands bits band (t ∷ front) [] later e f some = rw (e, f) (append_assoc (ended_bands bands bits) (value_elements 0 [] (t ∷ front)) (band_elements 32767 0 [] later))
due_begins bands bits band (t ∷ front) (s ∷ rest) later e f some =
    let waiting = corrections_of (s ∷ rest) in
    rw (e, f) (append_assoc (ended_bands bands bits) (value_elements 0 [] (t ∷ front))
    (cond (0 + 1 == 32767 || nat_lt 937 (length waiting)) (ended_bands (0 + 1) waiting ++ band_elements 32767 0 [] later) (band_elements 32767 (0 + 1) waiting later)))

-- the EOB before a prefix
pub due_ends : (bands : ℕ) (bits : List Bool) (front rest : List Sent) (later : List (List Sent)) → 1 ≤ bands → 1 ≤ length front → elements_due bands bits front rest later ≡ ends bands bits ∷ elements_due 0 [] front rest later
unfolding elements_due
due_ends zero bits front rest later some more = absurd (omega (arith, some))
due_ends (suc bands) bits [] rest later some more = absurd (omega (arith, more))
due_ends (suc bands) bits (t ∷ front) rest later some more = refl

-- an element of the prefix
pub due_value : (e : Element) (front others rest : List Sent) (later : List (List Sent)) → 1 ≤ length front → value_elements 0 [] front ≡ e ∷ value_elements 0 [] others → elements_due 0 [] front rest later ≡ e ∷ elements_due 0 [] others rest later
unfolding elements_due
due_value e [] others rest later some h = absurd (omega (arith, some))
due_value e (t ∷ front) [] rest later some h = ap (λ (es : List Element). es ++ elements_after 0 [] rest later) h
due_value e (t ∷ front) (o ∷ others) rest later some h = ap (λ (es : List Element). es ++ elements_after 0 [] rest later) h

-- nothing is left of the band
pub due_none : (bands : ℕ) (bits : List Bool) (later : List (List Sent)) → elements_due bands bits [] [] later ≡ band_elements 32767 bands bits later
unfolding elements_due elements_after
due_none bands bits later = refl

abbrev pub is_full : ℕ → List Bool → Bool
is_full bands waiting = bands == 32767 || nat_lt 937 (length waiting)

-- the rest joins the EOB that waits
pub due_waits : (bands : ℕ) (bits : List Bool) (rest : List Sent) (later : List (List Sent)) → 1 ≤ length rest → is_full (bands + 1) (bits ++ corrections_of rest) ≡ false
    → elements_due bands bits [] rest later ≡ band_elements 32767 (bands + 1) (bits ++ corrections_of rest) later
unfolding elements_due elements_after
due_waits bands bits [] later some e = absurd (omega (arith, some))
due_waits bands bits (s ∷ rest) later some e =
    let waiting = bits ++ corrections_of (s ∷ rest) in
    ap (λ b. (let es : List Element = cond b (ended_bands (bands + 1) waiting ++ band_elements 32767 0 [] later) (band_elements 32767 (bands + 1) waiting later) in es)) e

-- and is sent
pub due_full : (bands : ℕ) (bits : List Bool) (rest : List Sent) (later : List (List Sent)) → 1 ≤ length rest → is_full (bands + 1) (bits ++ corrections_of rest) ≡ true
    → elements_due bands bits [] rest later ≡ ends (bands + 1) (bits ++ corrections_of rest) ∷ elements_due 0 [] [] [] later
unfolding elements_due elements_after
due_full bands bits [] later some e = absurd (omega (arith, some))
due_full bands bits (s ∷ rest) later some e =
    let waiting = bits ++ corrections_of (s ∷ rest) in
    ap (λ b. (let es : List Element = cond b (ended_bands (bands + 1) waiting ++ band_elements 32767 0 [] later) (band_elements 32767 (bands + 1) waiting later) in es)) e
    ∙ ap (λ (es : List Element). es ++ band_elements 32767 0 [] later) (ended_some bands waiting)
  where
    ended_some : (n : ℕ) (bs : List Bool) → ended_bands (n + 1) bs ≡ ends (n + 1) bs ∷ []
    ended_some zero bs = refl
    ended_some (suc n) bs = (let k : suc n + 1 ≡ suc (n + 1) = omega arith in ap (λ m. ended_bands m bs) k ∙ ap (λ m. (let es : List Element = ends m bs ∷ [] in es)) (sym k))

-- an EOB that waits
pub ended_first : (bands : ℕ) (bits : List Bool) (item : Item) → 1 ≤ bands → IsItem (ends bands bits) item bits → IsFirst (ended_bands bands bits) item bits []
ended_first zero bits item some is = absurd (omega (arith, some))
ended_first (suc bands) bits item some is = record { element = ends (suc bands) bits; is = is; first = refl }

-- BANDS

zeros_short : IsShort (zeros 64)
zeros_short = record { long = refl; short = λ k one few. (let e = get_or-replicate 64 k (pos 0) (pos 0) (omega (arith, few)) in subst (λ v. nat_abs v < 2 ^ 14) (sym e) (lit< tt)) }

no_marks : AreMarks 0 (zeros 64)
no_marks k few = bit_at-zero k ∙ ap (λ v. (let n : ℕ = cond (is_zero v) 0 1 in n)) (sym (get_or-replicate 64 k (pos 0) (pos 0) few))

pub new_ready : (band : Band) (b : Bands) → IsBand band → b.band ≡ band → b.block ≡ zeros 64 → b.marks ≡ 0 → b.at ≡ band.end → b.last ≡ band.end → b.bands ≡ 0 → b.waiting.items ≡ [] → IsReady b
new_ready band b is e block marks at last none nothing = record {
  band = subst IsBand (sym e) is;
  short = subst IsShort (sym block) zeros_short;
  marks = subst (λ m. AreMarks m b.block) (sym marks) (subst (AreMarks 0) (sym block) no_marks);
  at = omega (arith, at, is.some, is.order);
  order = omega (arith, at, last);
  most = (let m = ap (λ x. x.end) e in omega (arith, last, m));
  front = ap ends_new (sents_none b.band b.at b.last b.block (omega (arith, at, last)));
  few = omega (arith, none);
  waits = (let n = ap length nothing in omega (arith, n));
  none = λ z. nothing;
}

-- some values are in a part that isn't empty
pub some_sents : (band : Band) (from end : ℕ) (block : List ℤ) → from < end → end ≤ length block → 1 ≤ length (sents band from end block)
some_sents band from end block some inside = (let e = ap length (sents_step band from end block some inside) in omega (arith, e))

-- a block's band begins
pub begins : (band : Band) (bands last : ℕ) (bits : List Bool) (block : List ℤ) (later : List (List Sent)) → IsBand band → length block ≡ 64 → band.start ≤ last → last ≤ band.end → ends_new (sents band band.start last block) ≡ true
    → any_of is_new (sents band last band.end block) ≡ false
    → band_elements 32767 bands bits (sents band band.start band.end block ∷ later) ≡ elements_due bands bits (sents band band.start last block) (sents band last band.end block) later
begins band bands last bits block later is long low high new none =
    let all = sents band band.start band.end block in
    let k : band.start + (last - band.start) ≡ last = omega (arith, low) in
    let cut = sents_cut band (last - band.start) band.start band.end block (omega (arith, k, high)) (omega (arith, is.most, long)) in
    let front : take (last - band.start) all ≡ sents band band.start last block = cut.0 ∙ ap (λ n. sents band band.start n block) k in
    let rest : drop (last - band.start) all ≡ sents band last band.end block = cut.1 ∙ ap (λ n. sents band n band.end block) k in
    let parts = cut_is all (last - band.start) (ap ends_new front ∙ new) (ap (any_of is_new) rest ∙ none) in
    due_begins bands bits all (sents band band.start last block) (sents band last band.end block) later (parts.0 ∙ front) (parts.1 ∙ rest) (some (cases_lt band.start last))
  where
    some : (band.start < last) ⊎ (last ≤ band.start) → 1 ≤ length (sents band band.start last block) + length (sents band last band.end block)
    some (inl h) = (let a = some_sents band band.start last block h (omega (arith, high, is.most, long)) in omega (arith, a))
    some (inr h) = (let a = some_sents band last band.end block (omega (arith, h, is.order)) (omega (arith, is.most, long)) in omega (arith, a))

-- no corrections wait after an item
pub ready_cleared : (b : Bands) → IsBand b.band → IsShort b.block → AreMarks b.marks b.block → 1 ≤ b.at → b.at ≤ b.last → b.last ≤ b.band.end → ends_new (sents b.band b.at b.last b.block) ≡ true → b.bands < 32767 → IsReady (cleared b)
ready_cleared b band short marks at order most front few = record {
  band = band;
  short = short;
  marks = marks;
  at = at;
  order = order;
  most = most;
  front = front;
  few = few;
  waits = omega arith;
  none = λ z. refl;
}

-- the EOB before a band's prefix
pub gives_ends : (old new : Bands) (item : Item) → IsReady old → old.at < old.last → 1 ≤ old.bands → IsItem (ends old.bands old.waiting.items) item old.waiting.items → new ≡ record old { bands = 0 } → GivesElement old item new
gives_ends old new item r some bands is e = subst (GivesElement old item) (sym e) (record {
  first = λ later. record {
    element = ends old.bands old.waiting.items;
    is = is;
    first = due_ends old.bands old.waiting.items (sents old.band old.at old.last old.block) (sents old.band old.last old.band.end old.block) later bands
        (some_sents old.band old.at old.last old.block some (omega (arith, r.most, r.band.most, r.short.long)));
  };
  ready = ready_cleared (record old { bands = 0 }) r.band r.short r.marks r.at r.order r.most r.front (lit< tt);
  band = refl;
  fewer = omega (arith, bands);
})

-- a value or a run of sixteen zeros
pub gives_value : (old new : Bands) (whole : Whole) → IsReady old → old.at < old.last → old.bands ≡ 0 → IsCompleteElement old.band old.at old.last old.block whole new.waiting.items → new ≡ record old { at = whole.at; waiting = new.waiting } → GivesElement old whole.item new
gives_value old new whole r some none is e = subst (GivesElement old whole.item) (sym e) (record {
  first = λ later.
      let front = sents old.band old.at old.last old.block in
      let others = sents old.band whole.at old.last old.block in
      let rest = sents old.band old.last old.band.end old.block in
      record {
        element = is.first.element;
        is = is.first.is;
        first = ap (λ n. elements_due n old.waiting.items front rest later) none ∙ ap (λ bits. elements_due 0 bits front rest later) (r.none none)
            ∙ due_value is.first.element front others rest later (some_sents old.band old.at old.last old.block some (omega (arith, r.most, r.band.most, r.short.long))) is.first.first
            ∙ ap (λ n. is.first.element ∷ elements_due n [] others rest later) (sym none);
      };
  ready = ready_cleared (record old { at = whole.at; waiting = new.waiting }) r.band r.short r.marks (omega (arith, is.order)) is.most r.most is.front r.few;
  band = refl;
  fewer = omega (arith, is.order, is.most, r.most);
})

-- THE REST

abbrev pub Waiting : Type 0
Waiting = ArrayVec Bool

abbrev pub with_rest : Bands → Waiting → Bands
with_rest old waiting = record old { at = old.band.end; last = old.band.end; bands = old.bands + 1; waiting = waiting }

rest_due : (old : Bands) (later : List (List Sent)) → old.last ≤ old.at → elements_left old later ≡ elements_due old.bands old.waiting.items [] (sents old.band old.last old.band.end old.block) later
rest_due old later none = ap (λ front. elements_due old.bands old.waiting.items front (sents old.band old.last old.band.end old.block) later) (sents_none old.band old.at old.last old.block none)

fewer : (n : ℕ) → n < 32767 → (n + 1 == 32767) ≡ false → n + 1 < 32767
fewer n l t = grind (arith, nat_tests, l, t)

pub leaves_rest : (old : Bands) (waiting : Waiting) → IsReady old → old.last ≤ old.at → old.last < old.band.end → waiting.items ≡ old.waiting.items ++ corrections_of (sents old.band old.last old.band.end old.block)
    → is_full (old.bands + 1) waiting.items ≡ false → LeavesBand old (with_rest old waiting)
leaves_rest old waiting r none some e h =
    let rest = sents old.band old.last old.band.end old.block in
    let n = neither (old.bands + 1 == 32767) (nat_lt 937 (length waiting.items)) h in
    record {
      left = λ later. rest_due old later none
          ∙ due_waits old.bands old.waiting.items rest later (some_sents old.band old.last old.band.end old.block some (omega (arith, r.band.most, r.short.long))) (ap (is_full (old.bands + 1)) (sym e) ∙ h)
          ∙ ap (λ bits. band_elements 32767 (old.bands + 1) bits later) (sym e);
      ready = record {
        band = r.band;
        short = r.short;
        marks = r.marks;
        at = omega (arith, r.band.some, r.band.order);
        order = omega arith;
        most = omega arith;
        front = ap ends_new (sents_none old.band old.band.end old.band.end old.block (omega arith));
        few = fewer old.bands r.few n.0;
        waits = not_lt_of 937 (length waiting.items) n.1;
        none = λ z. absurd (omega (arith, z));
      };
      band = refl;
    }

pub gives_rest : (old new : Bands) (waiting : Waiting) (item : Item) → IsReady old → old.last ≤ old.at → old.last < old.band.end → waiting.items ≡ old.waiting.items ++ corrections_of (sents old.band old.last old.band.end old.block)
    → is_full (old.bands + 1) waiting.items ≡ true → IsItem (ends (old.bands + 1) waiting.items) item waiting.items → new ≡ record (with_rest old waiting) { bands = 0 } → GivesElement old item new
gives_rest old new waiting item r none some e h is k = subst (GivesElement old item) (sym k) (record {
  first = λ later.
      let rest = sents old.band old.last old.band.end old.block in
      let nothing = sents_none old.band old.band.end old.band.end old.block (omega arith) in
      record {
        element = ends (old.bands + 1) waiting.items;
        is = is;
        first = rest_due old later none
            ∙ due_full old.bands old.waiting.items rest later (some_sents old.band old.last old.band.end old.block some (omega (arith, r.band.most, r.short.long))) (ap (is_full (old.bands + 1)) (sym e) ∙ h)
            ∙ ap (λ bits. ends (old.bands + 1) bits ∷ elements_due 0 [] [] [] later) (sym e)
            ∙ ap (λ xs. ends (old.bands + 1) waiting.items ∷ elements_due 0 [] xs xs later) (sym nothing);
      };
  ready = ready_cleared (record (with_rest old waiting) { bands = 0 }) r.band r.short r.marks (omega (arith, r.band.some, r.band.order)) (omega arith) (omega arith)
      (ap ends_new (sents_none old.band old.band.end old.band.end old.block (omega arith))) (lit< tt);
  band = refl;
  fewer = omega (arith, some, r.order);
})

-- nothing is left of the band
pub leaves_all : (old : Bands) → IsReady old → old.last ≤ old.at → old.band.end ≤ old.last → LeavesBand old old
leaves_all old r none rest = record {
  left = λ later. rest_due old later none ∙ ap (λ xs. elements_due old.bands old.waiting.items [] xs later) (sents_none old.band old.last old.band.end old.block rest)
      ∙ due_none old.bands old.waiting.items later;
  ready = r;
  band = refl;
}
