-- Reading a spelling of a script byte by byte gives the script that it encodes.
use Rattle.std.proofs.Common.{◌≡◌, ℕ, ◌+◌, ◌-◌, ◌*◌, ◌<◌, ◌≤◌, Bool, true, false, cond, not, ◌&&◌, ◌==◌, List, [], ◌∷◌, ◌++◌, length, map, refl, sym, ap, ◌∙◌, subst, arith, None, Some}
use Rattle.std.specs.Prelude.{◌||◌, nat_lt, nat_le, flat_map}
use Rattle.std.proofs.lemmas.Bool.Decides.{nat_tests}
use Rattle.std.proofs.lemmas.List.{append_assoc, length-append}
use Rattle.jpg_spec.specs.Lists.{all_of, is_empty}
use Rattle.jpg_spec.specs.NumberTexts.{is_digit, digits_from, is_space, NumberWord, NumbersWord, number_text, numbers_text, parsed_numbers}
use Rattle.jpg_spec_write.specs.ScriptGrammar.{is_joint, is_between, is_script_number, is_first, is_further, are_joined, are_numbers}
use Rattle.jpg_spec.proofs.Basics.Common.{both, same_of, le_of, lt_yes}
use Rattle.jpg_spec.specs.TextReaders.{run}
use Rattle.jpg_spec.proofs.Texts.TextRuns.{run_two, run_cons, run_nil, space_no_digit, grows, value_of}
use Rattle.jpg_scans.specs.declared.standing.Standing.{Standing}
use Rattle.jpg_scans.specs.declared.standing.Standing.TheVariants.{Before, InNumber, Behind, Joined}
use Rattle.jpg_scans.specs.TextState.{NumbersState, ended_by, ended, first_digit, digit_by, joint_by, number_step, no_numbers}

-- BYTES

joint_is : (b : ℕ) → is_joint b ≡ true → (P : ℕ → Type 0) → P 44 → P 45 → P b
joint_is b e P p q = by (b == 44) refl e
  where
    by : (v : Bool) → (b == 44) ≡ v → (v || (b == 45)) ≡ true → P b
    by true a e = subst P (sym (same_of b 44 a)) p
    by false a e = subst P (sym (same_of b 45 e)) q

-- ONE BYTE of a list of numbers

pub number_digit : (s : NumbersState) (b : ℕ) → is_digit b ≡ true → number_step s b ≡ digit_by s.numbers s.standing (b - 48)
number_digit s b e = ap (λ t. cond t (digit_by s.numbers s.standing (b - 48)) (cond (is_space b) (Some (ended s)) (cond (is_joint b) (joint_by (ended s).numbers (ended s).standing) None))) e

pub number_space : (s : NumbersState) (b : ℕ) → is_space b ≡ true → number_step s b ≡ Some (ended s)
number_space s b e =
    ap (λ t. cond t (digit_by s.numbers s.standing (b - 48)) (cond (is_space b) (Some (ended s)) (cond (is_joint b) (joint_by (ended s).numbers (ended s).standing) None))) (space_no_digit b e)
    ∙ ap (λ t. cond t (Some (ended s)) (cond (is_joint b) (joint_by (ended s).numbers (ended s).standing) None)) e

pub number_joint : (s : NumbersState) (b : ℕ) → is_joint b ≡ true → number_step s b ≡ joint_by (ended s).numbers (ended s).standing
number_joint s b e = joint_is b e (λ b. number_step s b ≡ joint_by (ended s).numbers (ended s).standing) refl refl

-- A NUMBER

digits_on : (ns : List ℕ) (n v : ℕ) (ds : List ℕ) → all_of is_digit ds ≡ true → n + length ds ≤ 3 → digits_from v ds ≤ 255
    → run number_step (record { numbers = ns; standing = InNumber n v }) ds ≡ Some (record { numbers = ns; standing = InNumber (n + length ds) (digits_from v ds) })
digits_on ns n v [] all few small =
    run_nil number_step (record { numbers = ns; standing = InNumber n v }) ∙ ap (λ m. Some (record { numbers = ns; standing = InNumber m v })) (omega arith)
digits_on ns n v (d ∷ ds) all few small =
    let s = both (is_digit d) (all_of is_digit ds) all in
    let next = 10 * v + (d - 48) in
    let up = grows next ds in
    let low : nat_lt n 3 ≡ true = grind (arith, nat_tests, few) in
    let fits : nat_le next 255 ≡ true = grind (arith, nat_tests, up, small) in
    run_cons number_step (record { numbers = ns; standing = InNumber n v }) (record { numbers = ns; standing = InNumber (n + 1) next }) d ds
    (number_digit (record { numbers = ns; standing = InNumber n v }) d s.0
    ∙ ap (λ t. cond (t && nat_le next 255) (Some (record { numbers = ns; standing = InNumber (n + 1) next })) None) low
    ∙ ap (λ t. cond t (Some (record { numbers = ns; standing = InNumber (n + 1) next })) None) fits)
    ∙ digits_on ns (n + 1) next ds s.1 (omega (arith, few)) small
    ∙ ap (λ m. Some (record { numbers = ns; standing = InNumber m (digits_from next ds) })) (omega arith)

-- there is no current number
is_open : Standing → Bool
is_open Before = true
is_open (InNumber n v) = false
is_open Behind = true
is_open Joined = true

open_digit : (ns : List ℕ) (st : Standing) (d : ℕ) → is_open st ≡ true → digit_by ns st d ≡ first_digit ns d
unfolding is_open
open_digit ns Before d e = refl
open_digit ns (InNumber n v) d e = cc
open_digit ns Behind d e = refl
open_digit ns Joined d e = refl

number_run : (ns : List ℕ) (st : Standing) (ds : List ℕ) → is_open st ≡ true → length ns < 4 → is_script_number ds ≡ true
    → run number_step (record { numbers = ns; standing = st }) ds ≡ Some (record { numbers = ns; standing = InNumber (length ds) (digits_from 0 ds) })
number_run ns st [] o l e = cc
number_run ns st (d ∷ ds) o l e =
    let s = both (nat_le 1 (length (d ∷ ds)) && nat_le (length (d ∷ ds)) 3) (all_of is_digit (d ∷ ds) && nat_le (digits_from 0 (d ∷ ds)) 255) e in
    let many = both (nat_le 1 (length (d ∷ ds))) (nat_le (length (d ∷ ds)) 3) s.0 in
    let value = both (all_of is_digit (d ∷ ds)) (nat_le (digits_from 0 (d ∷ ds)) 255) s.1 in
    let all = both (is_digit d) (all_of is_digit ds) value.0 in
    let few = le_of (length (d ∷ ds)) 3 many.1 in
    let first : 10 * 0 + (d - 48) ≡ d - 48 = omega arith in
    let small : digits_from (d - 48) ds ≤ 255 = subst (λ x. digits_from x ds ≤ 255) first (le_of (digits_from 0 (d ∷ ds)) 255 value.1) in
    run_cons number_step (record { numbers = ns; standing = st }) (record { numbers = ns; standing = InNumber 1 (d - 48) }) d ds
    (number_digit (record { numbers = ns; standing = st }) d all.0 ∙ open_digit ns st (d - 48) o ∙ ap (λ t. cond t (Some (record { numbers = ns; standing = InNumber 1 (d - 48) })) None) (lt_yes (length ns) 4 l))
    ∙ digits_on ns 1 (d - 48) ds all.1 (omega (arith, few)) small
    ∙ ap (λ m. Some (record { numbers = ns; standing = InNumber m (digits_from (d - 48) ds) })) (omega arith)
    ∙ ap (λ x. Some (record { numbers = ns; standing = InNumber (length (d ∷ ds)) (digits_from x ds) })) (sym first)

-- WHAT IS BETWEEN: spaces before all

spaces_before : (sp : List ℕ) → all_of is_space sp ≡ true → run number_step no_numbers sp ≡ Some no_numbers
spaces_before [] e = run_nil number_step no_numbers
spaces_before (b ∷ sp) e =
    let s = both (is_space b) (all_of is_space sp) e in
    run_cons number_step no_numbers no_numbers b sp (number_space no_numbers b s.0) ∙ spaces_before sp s.1

-- after a number, with or without commas
is_past : Standing → Bool
is_past Before = false
is_past (InNumber n v) = false
is_past Behind = true
is_past Joined = true

past_open : (st : Standing) → is_past st ≡ true → is_open st ≡ true
unfolding is_past is_open
past_open Before e = cc
past_open (InNumber n v) e = cc
past_open Behind e = refl
past_open Joined e = refl

record GoesTo (s : NumbersState) (bytes ns : List ℕ) : Type 0 where
  standing : Standing
  past : is_past standing ≡ true
  run : run number_step s bytes ≡ Some (record { numbers = ns; standing = standing })

past_space : (ns : List ℕ) (st : Standing) (b : ℕ) → is_past st ≡ true → is_space b ≡ true → number_step (record { numbers = ns; standing = st }) b ≡ Some (record { numbers = ns; standing = st })
unfolding is_past
past_space ns Before b p e = cc
past_space ns (InNumber n v) b p e = cc
past_space ns Behind b p e = number_space (record { numbers = ns; standing = Behind }) b e
past_space ns Joined b p e = number_space (record { numbers = ns; standing = Joined }) b e

past_joint : (ns : List ℕ) (st : Standing) (b : ℕ) → is_past st ≡ true → length ns < 4 → is_joint b ≡ true → number_step (record { numbers = ns; standing = st }) b ≡ Some (record { numbers = ns; standing = Joined })
unfolding is_past
past_joint ns Before b p l e = cc
past_joint ns (InNumber n v) b p l e = cc
past_joint ns Behind b p l e = number_joint (record { numbers = ns; standing = Behind }) b e ∙ ap (λ t. cond t (Some (record { numbers = ns; standing = Joined })) None) (lt_yes (length ns) 4 l)
past_joint ns Joined b p l e = number_joint (record { numbers = ns; standing = Joined }) b e ∙ ap (λ t. cond t (Some (record { numbers = ns; standing = Joined })) None) (lt_yes (length ns) 4 l)

joined_past : is_past Joined ≡ true
unfolding is_past
joined_past = refl

after_past : is_past Behind ≡ true
unfolding is_past
after_past = refl

goes_cons : (s t : NumbersState) (b : ℕ) (bytes ns : List ℕ) → number_step s b ≡ Some t → GoesTo t bytes ns → GoesTo s (b ∷ bytes) ns
goes_cons s t b bytes ns e g = record { standing = g.standing; past = g.past; run = run_cons number_step s t b bytes e ∙ g.run }

between_run : (ns : List ℕ) (st : Standing) (gap : List ℕ) → is_past st ≡ true → length ns < 4 → all_of is_between gap ≡ true → GoesTo (record { numbers = ns; standing = st }) gap ns
between_run ns st [] p l e = record { standing = st; past = p; run = run_nil number_step (record { numbers = ns; standing = st }) }
between_run ns st (b ∷ gap) p l e =
    let s = both (is_between b) (all_of is_between gap) e in
    by (is_space b) refl s.0 (between_run ns st gap p l s.1) (between_run ns Joined gap joined_past l s.1)
  where
    by : (v : Bool) → is_space b ≡ v → (v || is_joint b) ≡ true → GoesTo (record { numbers = ns; standing = st }) gap ns → GoesTo (record { numbers = ns; standing = Joined }) gap ns → GoesTo (record { numbers = ns; standing = st }) (b ∷ gap) ns
    by true a h same other = goes_cons (record { numbers = ns; standing = st }) (record { numbers = ns; standing = st }) b gap ns (past_space ns st b p a) same
    by false a h same other = goes_cons (record { numbers = ns; standing = st }) (record { numbers = ns; standing = Joined }) b gap ns (past_joint ns st b p l h) other

-- from a current number
gap_run : (ns : List ℕ) (n v : ℕ) (gap : List ℕ) → length (ns ++ v ∷ []) < 4 → (not (is_empty gap) && all_of is_between gap) ≡ true → GoesTo (record { numbers = ns; standing = InNumber n v }) gap (ns ++ v ∷ [])
gap_run ns n v [] l e = cc
gap_run ns n v (b ∷ gap) l e =
    let s = both (is_between b) (all_of is_between gap) e in
    by (is_space b) refl s.0 (between_run (ns ++ v ∷ []) Behind gap after_past l s.1) (between_run (ns ++ v ∷ []) Joined gap joined_past l s.1)
  where
    by : (t : Bool) → is_space b ≡ t → (t || is_joint b) ≡ true → GoesTo (record { numbers = ns ++ v ∷ []; standing = Behind }) gap (ns ++ v ∷ []) → GoesTo (record { numbers = ns ++ v ∷ []; standing = Joined }) gap (ns ++ v ∷ [])
        → GoesTo (record { numbers = ns; standing = InNumber n v }) (b ∷ gap) (ns ++ v ∷ [])
    by true a h same other = goes_cons (record { numbers = ns; standing = InNumber n v }) (record { numbers = ns ++ v ∷ []; standing = Behind }) b gap (ns ++ v ∷ []) (number_space (record { numbers = ns; standing = InNumber n v }) b a) same
    by false a h same other = goes_cons (record { numbers = ns; standing = InNumber n v }) (record { numbers = ns ++ v ∷ []; standing = Joined }) b gap (ns ++ v ∷ [])
        (number_joint (record { numbers = ns; standing = InNumber n v }) b h ∙ ap (λ t. cond t (Some (record { numbers = ns ++ v ∷ []; standing = Joined })) None) (lt_yes (length (ns ++ v ∷ [])) 4 l)) other

-- NUMBERS: the bytes end in the last of them

record EndsIn (s : NumbersState) (bytes told : List ℕ) : Type 0 where
  numbers : List ℕ
  digits : ℕ
  value : ℕ
  run : run number_step s bytes ≡ Some (record { numbers = numbers; standing = InNumber digits value })
  all : numbers ++ value ∷ [] ≡ told

further_run : (ns : List ℕ) (n v : ℕ) (ws : List NumberWord) → all_of is_further ws ≡ true → length ns + length ws < 4
    → EndsIn (record { numbers = ns; standing = InNumber n v }) (flat_map number_text ws) (ns ++ v ∷ map value_of ws)
further_run ns n v [] e l = record { numbers = ns; digits = n; value = v; run = run_nil number_step (record { numbers = ns; standing = InNumber n v }); all = refl }
further_run ns n v (w ∷ ws) e l =
    let s = both (is_further w) (all_of is_further ws) e in
    let parts = both (not (is_empty w.gap) && all_of is_between w.gap) (is_script_number w.digits) s.0 in
    let more = length-append ns (v ∷ []) in
    let room : length (ns ++ v ∷ []) < 4 = omega (arith, l, more) in
    let g = gap_run ns n v w.gap room parts.0 in
    let d = number_run (ns ++ v ∷ []) g.standing w.digits (past_open g.standing g.past) room parts.1 in
    let rest = further_run (ns ++ v ∷ []) (length w.digits) (digits_from 0 w.digits) ws s.1 (omega (arith, l, more)) in
    record {
      numbers = rest.numbers;
      digits = rest.digits;
      value = rest.value;
      run = run_two number_step (record { numbers = ns; standing = InNumber n v }) (record { numbers = ns ++ v ∷ []; standing = InNumber (length w.digits) (digits_from 0 w.digits) }) (number_text w) (flat_map number_text ws)
          (run_two number_step (record { numbers = ns; standing = InNumber n v }) (record { numbers = ns ++ v ∷ []; standing = g.standing }) w.gap w.digits g.run ∙ d)
          ∙ rest.run;
      all = rest.all ∙ append_assoc ns (v ∷ []) (digits_from 0 w.digits ∷ map value_of ws);
    }

-- a list, where its last number is completed
pub record ListRun (bytes told : List ℕ) : Type 0 where
  pub state : NumbersState
  pub run : run number_step no_numbers bytes ≡ Some state
  pub whole : ended state ≡ record { numbers = told; standing = Behind }

pub ended_twice : (ns : List ℕ) (st : Standing) → ended (ended_by ns st) ≡ ended_by ns st
ended_twice ns Before = refl
ended_twice ns (InNumber n v) = refl
ended_twice ns Behind = refl
ended_twice ns Joined = refl

record AfterSpaces (s : NumbersState) (bytes : List ℕ) : Type 0 where
  state : NumbersState
  run : run number_step s bytes ≡ Some state
  same : ended state ≡ ended s

spaces_after : (s : NumbersState) (sp : List ℕ) → all_of is_space sp ≡ true → AfterSpaces s sp
spaces_after s [] e = record { state = s; run = run_nil number_step s; same = refl }
spaces_after s (b ∷ sp) e =
    let p = both (is_space b) (all_of is_space sp) e in
    let rest = spaces_after (ended s) sp p.1 in
    record { state = rest.state; run = run_cons number_step s (ended s) b sp (number_space s b p.0) ∙ rest.run; same = rest.same ∙ ended_twice s.numbers s.standing }

before_open : is_open Before ≡ true
unfolding is_open
before_open = refl

joined_run : (ws : List NumberWord) → are_joined ws ≡ true → length ws ≤ 4 → EndsIn no_numbers (flat_map number_text ws) (map value_of ws)
joined_run [] e l = cc
joined_run (w ∷ ws) e l =
    let s = both (is_first w) (all_of is_further ws) e in
    let parts = both (all_of is_space w.gap) (is_script_number w.digits) s.0 in
    let g = spaces_before w.gap parts.0 in
    let d = number_run [] Before w.digits before_open (omega arith) parts.1 in
    let rest = further_run [] (length w.digits) (digits_from 0 w.digits) ws s.1 (omega (arith, l)) in
    record {
      numbers = rest.numbers;
      digits = rest.digits;
      value = rest.value;
      run = run_two number_step no_numbers (record { numbers = []; standing = InNumber (length w.digits) (digits_from 0 w.digits) }) (number_text w) (flat_map number_text ws) (run_two number_step no_numbers no_numbers w.gap w.digits g ∙ d) ∙ rest.run;
      all = rest.all;
    }

pub list_run : (w : NumbersWord) → are_numbers w ≡ true → length w.numbers ≤ 4 → ListRun (numbers_text w) (parsed_numbers w)
list_run w e l =
    let s = both (are_joined w.numbers) (all_of is_space w.after) e in
    let all = joined_run w.numbers s.0 l in
    let last : NumbersState = record { numbers = all.numbers; standing = InNumber all.digits all.value } in
    let sp = spaces_after last w.after s.1 in
    record {
      state = sp.state;
      run = run_two number_step no_numbers last (flat_map number_text w.numbers) w.after all.run ∙ sp.run;
      whole = sp.same ∙ ap (λ (ns : List ℕ). record { numbers = ns; standing = Behind }) all.all;
    }
