-- Bits of a unit of a band, one after another.
use Rattle.std.proofs.Common.{◌≡◌, ℕ, ◌+◌, ◌<◌, ◌≤◌, Bool, false, List, [], ◌∷◌, ◌++◌, length, take, drop, refl, sym, ap, ◌∙◌, subst, arith}
use Rattle.std.specs.Prelude.{slice_index_or}
use Rattle.std.specs.List.{Contains}
use Rattle.std.proofs.lemmas.List.{append_assoc, append-nil, length-append, take-append-drop, length-take-le}
use Rattle.jpg_spec.specs.Codes.{Code}
use Rattle.jpg_spec.specs.Parts.{BeginsCode}
use Rattle.jpg_huff.specs.Look.{Spots}
use Rattle.jpg_huff.specs.declared.look.Spotted.TheVariants.{Symbol}
use Rattle.jpg_prog_read.specs.declared.stage.Stage.TheVariants as stage
use Rattle.jpg_prog_read.specs.declared.scan.BandScan.{BandScan}
use Rattle.jpg_prog_read.specs.declared.band.BandStep.{BandStep}
use Rattle.jpg_prog_read.specs.declared.band.BandStep.TheVariants.{More, Done, Fault}
use Rattle.jpg_prog_read.specs.InWork.{InWork, IsOpenBand, DoesWait}
use Rattle.jpg_prog_read.specs.ReaderSteps.{StaysOpen, KeepsOtherValues}
use Rattle.jpg_prog_read.specs.Stands.{RepresentsBandUnit, AnswersBit, AnswersStep}
use Rattle.jpg_prog_read.specs.BandBits.{AnswersSymbol, Through, EndsAt, BandComesTo, TakesBand}
use Rattle.jpg_prog_read.proofs.BandSteps.{code_more, number_more}

-- bits after which the unit continues, and more are left
pub record HasGone (b : BandScan) (ac : List Code) (left : ℕ) (old : InWork) (store : List Bool) (new : InWork) (rest : List Bool) : Type 0 where
  pub bits : List Bool
  pub split : store ≡ bits ++ rest
  pub more : 1 ≤ length rest
  pub goes_on : IsOpenBand b new
  pub through : Through b ac left old bits new

-- BITS, and the bits of a code

first_bit : (store : List Bool) → 1 ≤ length store → store ≡ slice_index_or store 0 false ∷ drop 1 store
first_bit [] some = absurd (omega (arith, some))
first_bit (bit ∷ store) some = refl

-- bits with their last one
last_of : (bits : List Bool) → 1 ≤ length bits → (front : List Bool) × (last : Bool) × (bits ≡ front ++ last ∷ [])
last_of [] some = absurd (omega (arith, some))
last_of (x ∷ []) some = ([], x, refl)
last_of (x ∷ y ∷ bits) some =
    let more = last_of (y ∷ bits) (omega arith) in
    (x ∷ more.0, more.1, ap (λ (l : List Bool). x ∷ l) more.2)

-- the first bits of a store with their last one
pub last_taken : (n : ℕ) (store : List Bool) → 1 ≤ n → n ≤ length store
    → (front : List Bool) × (last : Bool) × (take n store ≡ front ++ last ∷ []) × (store ≡ (front ++ last ∷ []) ++ drop n store)
last_taken n store some fits =
    let c = last_of (take n store) (omega (arith, length-take-le n store fits, some)) in
    (c.0, c.1, c.2, sym (take-append-drop n store) ∙ ap (λ (l : List Bool). l ++ drop n store) c.2)

pub begins_more : (ac : List Code) (w rest : List Bool) (bit last : Bool) (symbol : ℕ) → Contains ac (w ++ ((bit ∷ rest) ++ last ∷ []), symbol) → BeginsCode ac (w ++ bit ∷ [])
begins_more ac w [] bit last symbol is = ((w ++ bit ∷ last ∷ [], symbol), last, [], is, sym (append_assoc w (bit ∷ []) (last ∷ [])))
begins_more ac w (next ∷ rest) bit last symbol is = ((w ++ bit ∷ next ∷ (rest ++ last ∷ []), symbol), next, rest ++ last ∷ [], is, sym (append_assoc w (bit ∷ []) (next ∷ (rest ++ last ∷ []))))

abbrev pub walked : InWork → List Bool → InWork
walked s w = record s { walked = w }

pub walked_open : (b : BandScan) (s : InWork) (w : List Bool) → s.stage ≡ stage.Code → IsOpenBand b s → IsOpenBand b (walked s w)
walked_open b s w e o = record { left = o.left; fits = o.fits; waits = subst (λ g. DoesWait g (walked s w)) (sym e) tt }

-- a state with its bits of a code again
pub walked_back : (s mid : InWork) → mid ≡ record s { walked = mid.walked } → walked mid s.walked ≡ s
walked_back s mid e = ap (λ (m : InWork). walked m s.walked) e

pub walked_none : (s : InWork) → s.walked ≡ [] → walked s [] ≡ s
walked_none s e = ap (λ (l : List Bool). walked s l) (sym e)

-- no bits of a code were read
pub quiet_of : (begun : Bool) (walk now : List Bool) → (begun ≡ false → walk ≡ []) → begun ≡ false → walk ≡ now → now ≡ []
quiet_of begun walk now quiet h e = sym e ∙ quiet h

-- and the bits of a number
abbrev pub taken : InWork → List Bool → InWork
taken s x = record s { extra = x }

taken_none : (s : InWork) → s.extra ≡ [] → taken s [] ≡ s
taken_none s e = ap (λ (l : List Bool). taken s l) (sym e)

pub waits_for : (b : BandScan) (s : InWork) → s.stage ≡ stage.Number → IsOpenBand b s → length s.extra < s.size
waits_for b s e o = subst (λ g. DoesWait g s) e o.waits

-- BY THESE PARAMETERS, with these codes, while so many units are left
module _ (b : BandScan) (ac : List Code) (left : ℕ) where
  -- ONE AFTER ANOTHER

  pub through_then : (old : InWork) (xs : List Bool) (mid : InWork) (ys : List Bool) (new : InWork) → Through b ac left old xs mid → Through b ac left mid ys new
      → Through b ac left old (xs ++ ys) new
  through_then old [] mid ys new x y = subst (λ (s : InWork). Through b ac left s ys new) x y
  through_then old (bit ∷ xs) mid ys new x y = (x.0, x.1, through_then x.0 xs mid ys new x.2 y)

  pub through_outside : (old : InWork) (bits : List Bool) (new : InWork) → Through b ac left old bits new → KeepsOtherValues old new
  through_outside old [] new x = (ap (λ (s : InWork). s.front) x, ap (λ (s : InWork). s.behind) x)
  through_outside old (bit ∷ bits) new x =
      let more = through_outside x.0 bits new x.2 in
      (more.0 ∙ (x.1).outside.0, more.1 ∙ (x.1).outside.1)

  -- what comes after such bits
  ends_then : (old : InWork) (xs : List Bool) {mid : InWork} {ys : List Bool} {step : BandStep} {new : InWork} → Through b ac left old xs mid
      → EndsAt b ac left mid ys step new → EndsAt b ac left old (xs ++ ys) step new
  ends_then old xs {mid} {ys} {step} {new} x y = record {
    front = xs ++ y.front;
    bit = y.bit;
    mid = y.mid;
    cut = ap (λ (l : List Bool). xs ++ l) y.cut ∙ sym (append_assoc xs y.front (y.bit ∷ []));
    through = through_then old xs mid y.front y.mid x y.through;
    outside = y.outside;
    answered = y.answered;
  }

  comes_then : (old : InWork) (xs : List Bool) (mid : InWork) (ys : List Bool) (step : BandStep) (new : InWork) → Through b ac left old xs mid
      → BandComesTo b ac left mid ys step new → BandComesTo b ac left old (xs ++ ys) step new
  comes_then old xs mid ys More new x y = through_then old xs mid ys new x y
  comes_then old xs mid ys Done new x y = ends_then old xs x y
  comes_then old xs mid ys (Fault f) new x y = ends_then old xs x y

  pub gone_then : {old : InWork} {store : List Bool} {mid : InWork} {here : List Bool} (step : BandStep) {new : InWork} {rest : List Bool}
      → HasGone b ac left old store mid here → TakesBand b ac left mid here step new rest → TakesBand b ac left old store step new rest
  gone_then {old} {store} {mid} {here} step {new} {rest} x y =
      let o = through_outside old x.bits mid x.through in
      record {
        bits = x.bits ++ y.bits;
        split = x.split ∙ ap (λ (l : List Bool). x.bits ++ l) y.split ∙ sym (append_assoc x.bits y.bits rest);
        some = omega (arith, length-append x.bits y.bits, y.some);
        stays = y.stays;
        outside = (y.outside.0 ∙ o.0, y.outside.1 ∙ o.1);
        comes = comes_then old x.bits mid y.bits step new x.through y.comes;
      }

  pub gone_more : {old : InWork} {store : List Bool} {mid : InWork} {here : List Bool} {new : InWork} {rest : List Bool} → HasGone b ac left old store mid here
      → TakesBand b ac left mid here More new rest → 1 ≤ length rest → HasGone b ac left old store new rest
  gone_more x y more =
      let t = gone_then More x y in
      record { bits = t.bits; split = t.split; more = more; goes_on = t.stays; through = t.comes }

  -- bits after which the unit continues, and further ones
  pub both_taken : {old : InWork} {store : List Bool} {mid : InWork} {here : List Bool} (step : BandStep) {new : InWork} {rest : List Bool}
      → TakesBand b ac left old store More mid here → 1 ≤ length here → TakesBand b ac left mid here step new rest → TakesBand b ac left old store step new rest
  both_taken step x more y = gone_then step (record { bits = x.bits; split = x.split; more = more; goes_on = x.stays; through = x.comes }) y

  -- SOME BITS AND THEIR ANSWER

  comes_to : (old : InWork) (bits : List Bool) (step : BandStep) (new : InWork) → EndsAt b ac left old bits step new → StaysOpen b step new
      → BandComesTo b ac left old bits step new
  comes_to old bits More new x s =
      subst (λ (l : List Bool). Through b ac left old l new) (sym x.cut)
      (through_then old x.front x.mid (x.bit ∷ []) new x.through (new, record { goes_on = s; outside = x.outside; answered = x.answered }, refl))
  comes_to old bits Done new x s = x
  comes_to old bits (Fault f) new x s = x

  takes_to : (old : InWork) (bits : List Bool) (step : BandStep) (new : InWork) (store rest : List Bool) → EndsAt b ac left old bits step new
      → StaysOpen b step new → store ≡ bits ++ rest → TakesBand b ac left old store step new rest
  takes_to old bits step new store rest x s e =
      let o = through_outside old x.front x.mid x.through in
      record {
        bits = bits;
        split = e;
        some = omega (arith, ap length x.cut, length-append x.front (x.bit ∷ []));
        stays = s;
        outside = (x.outside.0 ∙ o.0, x.outside.1 ∙ o.1);
        comes = comes_to old bits step new x s;
      }

  -- only one bit
  pub one_taken : (old : InWork) (store : List Bool) (bit : Bool) (step : BandStep) (new : InWork) (rest : List Bool) → 1 ≤ length store
      → bit ≡ slice_index_or store 0 false → rest ≡ drop 1 store → KeepsOtherValues old new → StaysOpen b step new → AnswersBit b ac left old bit step new
      → TakesBand b ac left old store step new rest
  one_taken old store bit step new rest some e r o s a =
      let f : store ≡ bit ∷ rest = first_bit store some ∙ ap (λ (x : Bool). x ∷ drop 1 store) (sym e) ∙ ap (λ (l : List Bool). bit ∷ l) (sym r) in
      takes_to old (bit ∷ []) step new store rest (record { front = []; bit = bit; mid = old; cut = refl; through = refl; outside = o; answered = a }) s f

  -- A COMPLETE CODE

  code_through : (s : InWork) (w rest : List Bool) (last : Bool) (symbol : ℕ) → s.stage ≡ stage.Code → IsOpenBand b s
      → Contains ac (w ++ (rest ++ last ∷ []), symbol) → Through b ac left (walked s w) rest (walked s (w ++ rest))
  code_through s w [] last symbol e o is = ap (λ (l : List Bool). walked s l) (append-nil w)
  code_through s w (bit ∷ rest) last symbol e o is =
      let join : (w ++ bit ∷ []) ++ rest ≡ w ++ bit ∷ rest = append_assoc w (bit ∷ []) rest in
      let all : (w ++ bit ∷ []) ++ (rest ++ last ∷ []) ≡ w ++ (bit ∷ (rest ++ last ∷ [])) = append_assoc w (bit ∷ []) (rest ++ last ∷ []) in
      let begins = begins_more ac w rest bit last symbol is in (
        walked s (w ++ bit ∷ []),
        record {
          goes_on = walked_open b s (w ++ bit ∷ []) e o;
          outside = (refl, refl);
          answered = λ at bits k l f. code_more f bit e (subst (λ t. BeginsCode t (w ++ bit ∷ [])) (sym k.ac_codes) begins);
        },
        subst (λ (l : List Bool). Through b ac left (walked s (w ++ bit ∷ [])) rest (walked s l)) join
            (code_through s (w ++ bit ∷ []) rest last symbol e o (subst (λ (l : List Bool). Contains ac (l, symbol)) (sym all) is)),
      )

  pub code_taken : (old : InWork) (store : List Bool) (n symbol : ℕ) (step : BandStep) (new : InWork) (rest : List Bool) → old.stage ≡ stage.Code
      → IsOpenBand b old → old.walked ≡ [] → Spots ac store (Symbol n symbol) → rest ≡ drop n store → KeepsOtherValues old new → StaysOpen b step new
      → AnswersSymbol b old symbol step new → TakesBand b ac left old store step new rest
  code_taken old store n symbol step new rest e o quiet (some, short, fits, is) r keeps stays answers =
      let c = last_taken n store some fits in
      let code : Contains ac (c.0 ++ c.1 ∷ [], symbol) = subst (λ (l : List Bool). Contains ac (l, symbol)) c.2 is in
      let x : Through b ac left old c.0 (walked old c.0) = subst (λ (s : InWork). Through b ac left s c.0 (walked old c.0)) (walked_none old quiet) (code_through old [] c.0 c.1 symbol e o code) in
      let last : EndsAt b ac left old (c.0 ++ c.1 ∷ []) step new =
      record { front = c.0; bit = c.1; mid = walked old c.0; cut = refl; through = x; outside = keeps; answered = λ at bits k l f. answers ac at bits c.0 c.1 k code f } in
      takes_to old (c.0 ++ c.1 ∷ []) step new store rest last stays (c.3 ∙ ap (λ (l : List Bool). (c.0 ++ c.1 ∷ []) ++ l) (sym r))

  -- A COMPLETE NUMBER

  number_through : (s : InWork) (w rest : List Bool) → s.stage ≡ stage.Number → IsOpenBand b s → length w + length rest < s.size
      → Through b ac left (taken s w) rest (taken s (w ++ rest))
  number_through s w [] e o short = ap (λ (l : List Bool). taken s l) (append-nil w)
  number_through s w (bit ∷ rest) e o short =
      let long : length (w ++ bit ∷ []) ≡ length w + 1 = length-append w (bit ∷ []) in (
        taken s (w ++ bit ∷ []),
        record {
          goes_on = record { left = o.left; fits = o.fits; waits = subst (λ g. DoesWait g (taken s (w ++ bit ∷ []))) (sym e) (let h : length (w ++ bit ∷ []) < s.size = omega (arith, long, short) in h) };
          outside = (refl, refl);
          answered = λ at bits k l f. number_more f bit e;
        },
        subst (λ (l : List Bool). Through b ac left (taken s (w ++ bit ∷ [])) rest (taken s l)) (append_assoc w (bit ∷ []) rest) (number_through s (w ++ bit ∷ []) rest e o (omega (arith, long, short))),
      )

  pub number_taken : (old filled : InWork) (store : List Bool) (step : BandStep) (new : InWork) (rest : List Bool) → old.stage ≡ stage.Number → IsOpenBand b old
      → old.extra ≡ [] → 1 ≤ old.size → old.size ≤ length store → filled ≡ taken old (take old.size store) → rest ≡ drop old.size store
      → KeepsOtherValues filled new → StaysOpen b step new → AnswersStep b filled step new → TakesBand b ac left old store step new rest
  number_taken old filled store step new rest e o none some fits whole r keeps stays answers =
      let c = last_taken old.size store some fits in
      let short : 0 + length c.0 < old.size = omega (arith, length-take-le old.size store fits, ap length c.2, length-append c.0 (c.1 ∷ [])) in
      let x : Through b ac left old c.0 (taken old c.0) = subst (λ (s : InWork). Through b ac left s c.0 (taken old c.0)) (taken_none old none) (number_through old [] c.0 e o short) in
      let f : filled ≡ taken old (c.0 ++ c.1 ∷ []) = whole ∙ ap (λ (l : List Bool). taken old l) c.2 in
      let last : EndsAt b ac left old (c.0 ++ c.1 ∷ []) step new =
      record {
        front = c.0;
        bit = c.1;
        mid = taken old c.0;
        cut = refl;
        through = x;
        outside = (keeps.0 ∙ ap (λ (s : InWork). s.front) whole, keeps.1 ∙ ap (λ (s : InWork). s.behind) whole);
        answered = λ at bits k l u. answers ac at (bits ++ c.1 ∷ []) k (subst (λ (s : InWork). RepresentsBandUnit at (bits ++ c.1 ∷ []) s) (sym f) (number_more u c.1 e));
      } in
      takes_to old (c.0 ++ c.1 ∷ []) step new store rest last stays (c.3 ∙ ap (λ (l : List Bool). (c.0 ++ c.1 ∷ []) ++ l) (sym r))
