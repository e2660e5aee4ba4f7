-- Elements value by value.
use Rattle.std.proofs.Common.{◌≡◌, ◌≢◌, ℕ, zero, suc, ◌+◌, ◌-◌, ◌<◌, ◌≤◌, ◌==◌, ◌/◌, ◌^◌, Bool, true, false, cond, List, [], ◌∷◌, ◌++◌, length, take, drop, map, ◌%◌, refl, sym, ap, ◌∙◌, subst, arith, ℤ, pos, negsuc, nat_abs, ⊎_elim}
use Rattle.std.specs.Prelude.{slice_index_or, nat_lt}
use Rattle.std.proofs.lemmas.Bool.{cases_lt}
use Rattle.std.proofs.lemmas.Bool.Decides.{nat_tests}
use Rattle.std.proofs.lemmas.List.{append_assoc, append-nil}
use Rattle.jpg_spec.specs.Numbers.{category}
use Rattle.jpg_spec.specs.Elements.{Element, value, long_run}
use Rattle.jpg_spec_write.specs.Sending.{Sent, correction, newly_significant, sent, divided, corrections_of, value_elements}
use Rattle.jpg_spec.proofs.Basics.Small.{few_digits}
use Rattle.jpg_spec_write.proofs.Shifts.{shifts_less, divided_is, abs_signed}
use Rattle.jpg_prog_write.specs.Bands.{IsBand, IsShort, sents, ends_new}
use Rattle.jpg_prog_write.specs.Steps.{IsFirst, IsElementStep, IsShortSending}
use Rattle.jpg_prog_write.specs.Items.{IsItem, sent_by}
use Rattle.jpg_prog_write.specs.declared.band.Sending.{Sending}
use Rattle.jpg_prog_write.specs.declared.band.Sending.TheVariants.{Correction, NewlySignificant}
use Rattle.jpg_prog_write.specs.declared.bands.Step.TheVariants.{Goes, Gives}
use Rattle.jpg_prog_write.specs.declared.band.Band.{Band}
use Rattle.jpg_prog_write.specs.declared.item.Item.{Item}
use Rattle.jpg_prog_write.proofs.Fronts.{sent_at, sents_step, sents_none, ends_some, ends_tail}

-- A VALUE that is newly sent, or remains zero

pub zero_next : (run : ℕ) (bits : List Bool) (later : List Sent) → run ≢ 15 → value_elements run bits (newly_significant (pos 0) ∷ later) ≡ value_elements (run + 1) bits later
zero_next run bits later n =
    let t : (run == 15) ≡ false = grind (arith, nat_tests) in
    ap (λ b. (let l : List Element = cond b (long_run bits ∷ value_elements 0 [] later) (value_elements (run + 1) bits later) in l)) t

pub goes_on : (run : ℕ) (bits : List Bool) (v : ℤ) (later : List Sent) → v ≡ pos 0 → run ≤ 15 → run ≢ 15 → IsElementStep run bits (newly_significant v ∷ later) (Goes (run + 1)) bits later
goes_on run bits v later z few n =
    subst (λ w. IsElementStep run bits (newly_significant w ∷ later) (Goes (run + 1)) bits later) (sym z) (omega arith, zero_next run bits later n, (λ e. ends_some (newly_significant (pos 0)) later e refl))

pub long_whole : (run : ℕ) (bits : List Bool) (v : ℤ) (later : List Sent) (item : Item) → v ≡ pos 0 → run ≡ 15 → IsItem (long_run bits) item bits → IsElementStep run bits (newly_significant v ∷ later) (Gives item) bits later
long_whole run bits v later item z e is =
    subst (λ w. IsElementStep run bits (newly_significant w ∷ later) (Gives item) bits later) (sym z)
    (record { element = long_run bits; is = is; first = ap (λ r. value_elements r bits (newly_significant (pos 0) ∷ later)) e })

pub value_whole : (run : ℕ) (bits : List Bool) (v : ℤ) (later : List Sent) (item : Item) → v ≢ pos 0 → IsItem (value run v bits) item bits → IsElementStep run bits (newly_significant v ∷ later) (Gives item) bits later
value_whole run bits (pos zero) later item n is = absurd (n refl)
value_whole run bits (pos (suc m)) later item n is = record { element = value run (pos (suc m)) bits; is = is; first = refl }
value_whole run bits (negsuc m) later item n is = record { element = value run (negsuc m) bits; is = is; first = refl }

-- ITS CATEGORY

pub short_divided : (al : ℕ) (v : ℤ) → al ≤ 13 → nat_abs v < 2 ^ 14 → category (divided al v) ≤ 14
short_divided al v l small =
    let e : nat_abs (divided al v) ≡ nat_abs v / 2 ^ al = ap nat_abs (divided_is al v) ∙ abs_signed _ (nat_abs v / 2 ^ al) in
    few_digits 14 (nat_abs (divided al v)) (omega (arith, e, small, (shifts_less al l (nat_abs v)).0))

-- CORRECTIONS that wait

pub corrections_join : (xs ys : List Sent) → corrections_of (xs ++ ys) ≡ corrections_of xs ++ corrections_of ys
corrections_join [] ys = refl
corrections_join (correction b ∷ xs) ys = ap (λ bits. b ∷ bits) (corrections_join xs ys)
corrections_join (newly_significant v ∷ xs) ys = corrections_join xs ys

-- the next value's, and those of the others
pub wait_next : (band : Band) (k : ℕ) (block : List ℤ) (all bits new : List Bool) (s : Sent) → k < band.end → band.end ≤ length block → s ≡ sent_at band block k → new ≡ bits ++ corrections_of (s ∷ [])
    → bits ++ corrections_of (sents band k band.end block) ≡ all → new ++ corrections_of (sents band (k + 1) band.end block) ≡ all
wait_next band k block all bits new s some inside is e h =
    let later = sents band (k + 1) band.end block in
    ap (λ x. x ++ corrections_of later) e ∙ append_assoc bits (corrections_of (s ∷ [])) (corrections_of later) ∙ ap (λ x. bits ++ x) (sym (corrections_join (s ∷ []) later))
    ∙ ap (λ t. bits ++ corrections_of (t ∷ later)) is ∙ ap (λ xs. bits ++ corrections_of xs) (sym (sents_step band k band.end block some inside)) ∙ h

-- STEPS over the values of a block

pub short_sending : (band : Band) (block : List ℤ) (k : ℕ) (s : Sending) → IsBand band → IsShort block → 1 ≤ k → k < 64 → sent_by s ≡ sent_at band block k → IsShortSending s
short_sending band block k (Correction b) is short some few e = tt
short_sending band block k (NewlySignificant v) is short some few e = by band.refines refl
  where
    at : ℤ
    at = slice_index_or block k (pos 0)

    once : (a b : ℤ) → newly_significant a ≡ newly_significant b → a ≡ b
    once a b h = ap value_of h
      where
        value_of : Sent → ℤ
        value_of (newly_significant w) = w
        value_of (correction b) = pos 0

    small : v ≡ divided band.al at → category v ≤ 14
    small h = subst (λ w. category w ≤ 14) (sym h) (short_divided band.al at is.bits (short.short k some few))

    by : (r : Bool) → band.refines ≡ r → category v ≤ 14
    by false h = small (once v (divided band.al at) (e ∙ ap (λ r. sent r band.al at) h))
    by true h = two (nat_lt 1 (nat_abs at / 2 ^ band.al)) refl
      where
        whole : newly_significant v ≡ sent true band.al at
        whole = e ∙ ap (λ r. sent r band.al at) h

        two : (b : Bool) → nat_lt 1 (nat_abs at / 2 ^ band.al) ≡ b → category v ≤ 14
        two false g = small (once v (divided band.al at) (whole ∙ ap (λ b. (let s : Sent = cond b (correction (nat_abs at / 2 ^ band.al % 2 == 1)) (newly_significant (divided band.al at)) in s)) g))
        two true g = absurd (apart v (nat_abs at / 2 ^ band.al % 2 == 1) (whole ∙ ap (λ b. (let s : Sent = cond b (correction (nat_abs at / 2 ^ band.al % 2 == 1)) (newly_significant (divided band.al at)) in s)) g))
          where
            apart : (a : ℤ) (b : Bool) → newly_significant a ≡ correction b → ⊥
            apart a b h = cc

pub record GoesOn (band : Band) (at last : ℕ) (block : List ℤ) (run more : ℕ) (bits new : List Bool) : Type 0 where
  pub some : at + 1 < last
  pub short : more ≤ 15
  pub front : ends_new (sents band (at + 1) last block) ≡ true
  pub same : value_elements run bits (sents band at last block) ≡ value_elements more new (sents band (at + 1) last block)

-- some values are left where their list isn't empty
some_left : (band : Band) (from last : ℕ) (block : List ℤ) → 1 ≤ length (sents band from last block) → from < last
some_left band from last block some = ⊎_elim (λ h. h) (λ (h : last ≤ from). absurd (omega (arith, some, ap length (sents_none band from last block h)))) (cases_lt from last)

-- A STEP at a value that is s, the first of those up to `last`
module _ (band : Band) (at last : ℕ) (block : List ℤ) (s : Sent) (is : s ≡ sent_at band block at)
    (one : sents band at last block ≡ sent_at band block at ∷ sents band (at + 1) last block) (front : ends_new (sents band at last block) ≡ true) where
  all_are : sents band at last block ≡ s ∷ sents band (at + 1) last block
  all_are = one ∙ ap (λ t. t ∷ sents band (at + 1) last block) (sym is)

  ends_are : ends_new (s ∷ sents band (at + 1) last block) ≡ true
  ends_are = ap ends_new (sym all_are) ∙ front

  pub step_on : (run more : ℕ) (bits new : List Bool)
      → IsElementStep run bits (s ∷ sents band (at + 1) last block) (Goes more) new (sents band (at + 1) last block)
      → GoesOn band at last block run more bits new
  step_on run more bits new step = record {
    some = some_left band (at + 1) last block (step.2 ends_are);
    short = step.0;
    front = ends_tail s (sents band (at + 1) last block) ends_are;
    same = ap (value_elements run bits) all_are ∙ step.1;
  }

  pub step_whole : (run : ℕ) (bits new : List Bool) (item : Item)
      → IsElementStep run bits (s ∷ sents band (at + 1) last block) (Gives item) new (sents band (at + 1) last block)
      → (ends_new (sents band (at + 1) last block) ≡ true) × IsFirst (value_elements run bits (sents band at last block)) item new (value_elements 0 [] (sents band (at + 1) last block))
  step_whole run bits new item step =
      (ends_tail s (sents band (at + 1) last block) ends_are, record { element = step.element; is = step.is; first = ap (value_elements run bits) all_are ∙ step.first })

-- no corrections where nothing is refined
all_new : (al : ℕ) (values : List ℤ) → corrections_of (map (sent false al) values) ≡ []
all_new al [] = refl
all_new al (v ∷ values) = all_new al values

pub none_wait : (band : Band) (from : ℕ) (block : List ℤ) (bits : List Bool) → band.refines ≡ false → bits ≡ bits ++ corrections_of (sents band from band.end block)
unfolding sents
none_wait band from block bits e =
    let none : corrections_of (sents band from band.end block) ≡ [] =
    ap (λ r. corrections_of (map (sent r band.al) (take (band.end - from) (drop from block)))) e ∙ all_new band.al (take (band.end - from) (drop from block)) in
    sym (append-nil bits) ∙ ap (λ x. bits ++ x) (sym none)
