-- Reading the text of a script, spelled in any way, gives the script that it encodes; comments are read as spaces.
use Rattle.std.proofs.Common.{◌≡◌, ℕ, ◌+◌, ◌<◌, ◌≤◌, Bool, true, false, cond, ◌&&◌, ◌==◌, List, [], ◌∷◌, ◌++◌, length, map, refl, sym, ap, ◌∙◌, subst, arith, Option, None, Some}
use Rattle.std.specs.Prelude.{nat_le, option_map, option_and_then, flat_map}
use Rattle.std.proofs.lemmas.Bool.Decides.{nat_tests}
use Rattle.std.proofs.lemmas.List.{append_assoc, append-nil, length-append, length-map}
use Rattle.jpg_spec.specs.Lists.{all_of, is_empty}
use Rattle.jpg_spec.specs.NumberTexts.{is_digit, without_comments, is_space, NumbersWord, numbers_text, parsed_numbers}
use Rattle.jpg_spec_write.specs.Script.{Entry}
use Rattle.jpg_spec_write.specs.ScriptGrammar.{EntryWord, entry_text, ended_text, last_text, are_numbers, is_entry, last_entry, entries, banded, parsed_entry, Spells}
use Rattle.jpg_spec.proofs.Basics.Common.{both, same_of, le_of, lt_yes}
use Rattle.jpg_spec.specs.TextReaders.{run}
use Rattle.jpg_spec.proofs.Texts.TextRuns.{run_two, run_cons, run_nil, space_low, space_no_digit, value_of}
use Rattle.jpg_spec.proofs.Texts.TextsRead.{ReadsAs}
use Rattle.jpg_scans.specs.declared.standing.Standing.{Standing}
use Rattle.jpg_scans.specs.declared.standing.Standing.TheVariants.{Before, InNumber, Behind, Joined}
use Rattle.jpg_scans.specs.TextState.{NumbersState, ended_by, ended, number_step, EntryState, no_numbers, new_entry, is_before, is_after, is_new_entry, is_new_by, entry_by, whole_entry, colon_by, entry_step, TextState, one_more, text_step, script_view, new_text, script_reader}
use Rattle.jpg_scans.proofs.TextRuns.{number_space, list_run, ended_twice}

-- A BYTE OF NUMBERS in the current entry

-- a semicolon and a colon are none
none_of : (s : NumbersState) (b c : ℕ) (t : NumbersState) → number_step s b ≡ Some t → number_step s c ≡ None → (b == c) ≡ false
none_of s b c t e none = by (b == c) refl
  where
    by : (v : Bool) → (b == c) ≡ v → v ≡ false
    by true a = let z : Some t ≡ None = sym e ∙ ap (number_step s) (same_of b c a) ∙ none in cc
    by false a = refl

pub few_no : (n : ℕ) → n < 100 → nat_le 100 n ≡ false
few_no n l = grind (arith, nat_tests, l)

and_no : (a b : Bool) → (a && (b && false)) ≡ false
and_no true true = refl
and_no true false = refl
and_no false b = refl

lift_one : (es : List Entry) (cs : Option (List ℕ)) (s t : NumbersState) (b : ℕ) → length es < 100 → number_step s b ≡ Some t
    → text_step (record { entries = es; entry = record { components = cs; list = s } }) b ≡ Some (record { entries = es; entry = record { components = cs; list = t } })
lift_one es cs s t b l e =
    let here : TextState = record { entries = es; entry = record { components = cs; list = s } } in
    let stepped : Option TextState = option_map (λ (entry : EntryState). record { entries = es; entry = entry }) (entry_step here.entry b) in
    ap (λ v. cond v (option_map (λ (all : List Entry). record { entries = all; entry = new_entry }) (one_more es (whole_entry here.entry))) (cond (is_digit b && (is_new_entry here.entry && nat_le 100 (length es))) None stepped)) (none_of s b 59 t e refl)
    ∙ ap (λ v. cond (is_digit b && (is_new_entry here.entry && v)) None stepped) (few_no (length es) l)
    ∙ ap (λ v. cond v None stepped) (and_no (is_digit b) (is_new_entry here.entry))
    ∙ ap (λ v. option_map (λ (entry : EntryState). record { entries = es; entry = entry }) (cond v (cond (is_after (ended s).standing) (colon_by cs (ended s).numbers) None) (option_map (λ (list : NumbersState). record { components = cs; list = list }) (number_step s b)))) (none_of s b 58 t e refl)
    ∙ ap (λ (o : Option NumbersState). option_map (λ (entry : EntryState). record { entries = es; entry = entry }) (option_map (λ (list : NumbersState). record { components = cs; list = list }) o)) e

lift : (es : List Entry) (cs : Option (List ℕ)) (s t : NumbersState) (bytes : List ℕ) → length es < 100 → run number_step s bytes ≡ Some t
    → run text_step (record { entries = es; entry = record { components = cs; list = s } }) bytes ≡ Some (record { entries = es; entry = record { components = cs; list = t } })
unfolding run
lift es cs s t [] l e = ap (λ (o : Option NumbersState). option_map (λ (x : NumbersState). record { entries = es; entry = record { components = cs; list = x } }) o) e
lift es cs s t (b ∷ bytes) l e = by (number_step s b) refl e (λ u. lift es cs u t bytes l)
  where
    by : (o : Option NumbersState) → number_step s b ≡ o → option_and_then (λ u. run number_step u bytes) o ≡ Some t
        → ((u : NumbersState) → run number_step u bytes ≡ Some t → run text_step (record { entries = es; entry = record { components = cs; list = u } }) bytes ≡ Some (record { entries = es; entry = record { components = cs; list = t } }))
        → option_and_then (λ u. run text_step u bytes) (text_step (record { entries = es; entry = record { components = cs; list = s } }) b) ≡ Some (record { entries = es; entry = record { components = cs; list = t } })
    by None a e more = cc
    by (Some u) a e more = ap (option_and_then (λ u. run text_step u bytes)) (lift_one es cs s u b l a) ∙ more u e

-- ONE ENTRY

record EntryRun (es : List Entry) (bytes : List ℕ) (e : Entry) : Type 0 where
  state : EntryState
  run : run text_step (record { entries = es; entry = new_entry }) bytes ≡ Some (record { entries = es; entry = state })
  whole : whole_entry state ≡ Some e
  begun : is_new_entry state ≡ false

whole_by : (cs : Option (List ℕ)) (s : NumbersState) (ns : List ℕ) → ended s ≡ record { numbers = ns; standing = Behind } → whole_entry (record { components = cs; list = s }) ≡ entry_by cs ns
whole_by cs s ns e = ap (λ (t : NumbersState). cond (is_after t.standing) (entry_by cs t.numbers) None) e

begun_by : (ns : List ℕ) (st : Standing) (told : List ℕ) → ended_by ns st ≡ record { numbers = told; standing = Behind } → is_before st ≡ false
begun_by ns Before told e = let z : is_after Before ≡ is_after Behind = ap (λ (t : NumbersState). is_after t.standing) e in cc
begun_by ns (InNumber n v) told e = refl
begun_by ns Behind told e = refl
begun_by ns Joined told e = refl

colon_step : (es : List Entry) (s : NumbersState) (ns : List ℕ) → ended s ≡ record { numbers = ns; standing = Behind }
    → text_step (record { entries = es; entry = record { components = None; list = s } }) 58 ≡ Some (record { entries = es; entry = record { components = Some ns; list = no_numbers } })
colon_step es s ns e = ap (λ (t : NumbersState). option_map (λ (entry : EntryState). record { entries = es; entry = entry }) (cond (is_after t.standing) (colon_by None t.numbers) None)) e

entry_run : (es : List Entry) (c : NumbersWord) (band : Option NumbersWord) → length es < 100 → is_entry (record { components = c; band = band }) ≡ true
    → EntryRun es (entry_text (record { components = c; band = band })) (parsed_entry (record { components = c; band = band }))
entry_run es c None l e =
    let s = both (are_numbers c && nat_le (length c.numbers) 4) true e in
    let p = both (are_numbers c) (nat_le (length c.numbers) 4) s.0 in
    let r = list_run c p.0 (le_of (length c.numbers) 4 p.1) in
    record {
      state = record { components = None; list = r.state };
      run = ap (run text_step (record { entries = es; entry = new_entry })) (append-nil (numbers_text c)) ∙ lift es None no_numbers r.state (numbers_text c) l r.run;
      whole = whole_by None r.state (parsed_numbers c) r.whole;
      begun = begun_by r.state.numbers r.state.standing (parsed_numbers c) r.whole;
    }
entry_run es c (Some b) l e =
    let s = both (are_numbers c && nat_le (length c.numbers) 4) (are_numbers b && length b.numbers == 4) e in
    let p = both (are_numbers c) (nat_le (length c.numbers) 4) s.0 in
    let q = both (are_numbers b) (length b.numbers == 4) s.1 in
    let r = list_run c p.0 (le_of (length c.numbers) 4 p.1) in
    let four = same_of (length b.numbers) 4 q.1 in
    let t = list_run b q.0 (omega (arith, four)) in
    let start : TextState = record { entries = es; entry = new_entry } in
    let first : TextState = record { entries = es; entry = record { components = None; list = r.state } } in
    let next : TextState = record { entries = es; entry = record { components = Some (parsed_numbers c); list = no_numbers } } in
    record {
      state = record { components = Some (parsed_numbers c); list = t.state };
      run = run_two text_step start first (numbers_text c) (58 ∷ numbers_text b) (lift es None no_numbers r.state (numbers_text c) l r.run)
          ∙ run_cons text_step first next 58 (numbers_text b) (colon_step es r.state (parsed_numbers c) r.whole)
          ∙ lift es (Some (parsed_numbers c)) no_numbers t.state (numbers_text b) l t.run;
      whole = whole_by (Some (parsed_numbers c)) t.state (parsed_numbers b) t.whole
          ∙ ap (λ n. cond (n == 4) (Some (banded (parsed_numbers c) (parsed_numbers b))) None) (length-map b.numbers value_of ∙ four);
      begun = refl;
    }

-- ENTRIES THAT END with a semicolon

pub more_yes : (es : List Entry) (e : Entry) → length es < 100 → one_more es (Some e) ≡ Some (es ++ e ∷ [])
more_yes es e l = ap (λ v. cond v (Some (es ++ e ∷ [])) None) (lt_yes (length es) 100 l)

ended_one : (es : List Entry) (w : EntryWord) → length es < 100 → is_entry w ≡ true
    → run text_step (record { entries = es; entry = new_entry }) (ended_text w) ≡ Some (record { entries = es ++ parsed_entry w ∷ []; entry = new_entry })
ended_one es w l e =
    let r = entry_run es w.components w.band l e in
    let last : TextState = record { entries = es; entry = r.state } in
    let next : TextState = record { entries = es ++ parsed_entry w ∷ []; entry = new_entry } in
    run_two text_step (record { entries = es; entry = new_entry }) last (entry_text w) (59 ∷ []) r.run
    ∙ run_cons text_step last next 59 [] (ap (λ (o : Option Entry). option_map (λ (all : List Entry). record { entries = all; entry = new_entry }) (one_more es o)) r.whole
    ∙ ap (λ (o : Option (List Entry)). option_map (λ (all : List Entry). record { entries = all; entry = new_entry }) o) (more_yes es (parsed_entry w) l))
    ∙ run_nil text_step next

ended_run : (es : List Entry) (ws : List EntryWord) → length es + length ws ≤ 100 → all_of is_entry ws ≡ true
    → run text_step (record { entries = es; entry = new_entry }) (flat_map ended_text ws) ≡ Some (record { entries = es ++ map parsed_entry ws; entry = new_entry })
ended_run es [] l e = run_nil text_step (record { entries = es; entry = new_entry }) ∙ ap (λ (all : List Entry). Some (record { entries = all; entry = new_entry })) (sym (append-nil es))
ended_run es (w ∷ ws) l e =
    let s = both (is_entry w) (all_of is_entry ws) e in
    let more = length-append es (parsed_entry w ∷ []) in
    run_two text_step (record { entries = es; entry = new_entry }) (record { entries = es ++ parsed_entry w ∷ []; entry = new_entry }) (ended_text w) (flat_map ended_text ws) (ended_one es w (omega (arith, l)) s.0)
    ∙ ended_run (es ++ parsed_entry w ∷ []) ws (omega (arith, l, more)) s.1
    ∙ ap (λ (all : List Entry). Some (record { entries = all; entry = new_entry })) (append_assoc es (parsed_entry w ∷ []) (map parsed_entry ws))

-- SPACE at the end

-- the state after a space
unfoldable pub spaced : TextState → TextState
spaced s = record { entries = s.entries; entry = record { components = s.entry.components; list = ended s.entry.list } }

space_not : (b c : ℕ) → is_space b ≡ true → 32 < c → (b == c) ≡ false
space_not b c e l = let low = space_low b e in grind (arith, nat_tests, low, l)

pub text_space : (s : TextState) (b : ℕ) → is_space b ≡ true → text_step s b ≡ Some (spaced s)
unfolding spaced
text_space s b e =
    let stepped : Option TextState = option_map (λ (entry : EntryState). record { entries = s.entries; entry = entry }) (entry_step s.entry b) in
    ap (λ v. cond v (option_map (λ (all : List Entry). record { entries = all; entry = new_entry }) (one_more s.entries (whole_entry s.entry))) (cond (is_digit b && (is_new_entry s.entry && nat_le 100 (length s.entries))) None stepped)) (space_not b 59 e (omega arith))
    ∙ ap (λ v. cond (v && (is_new_entry s.entry && nat_le 100 (length s.entries))) None stepped) (space_no_digit b e)
    ∙ ap (λ v. option_map (λ (entry : EntryState). record { entries = s.entries; entry = entry }) (cond v (cond (is_after (ended s.entry.list).standing) (colon_by s.entry.components (ended s.entry.list).numbers) None) (option_map (λ (list : NumbersState). record { components = s.entry.components; list = list }) (number_step s.entry.list b)))) (space_not b 58 e (omega arith))
    ∙ ap (λ (o : Option NumbersState). option_map (λ (entry : EntryState). record { entries = s.entries; entry = entry }) (option_map (λ (list : NumbersState). record { components = s.entry.components; list = list }) o)) (number_space s.entry.list b e)

still_new : (cs : Option (List ℕ)) (ns : List ℕ) (st : Standing) → is_new_by cs (ended_by ns st) ≡ is_new_by cs (record { numbers = ns; standing = st })
still_new None ns Before = refl
still_new None ns (InNumber n v) = refl
still_new None ns Behind = refl
still_new None ns Joined = refl
still_new (Some cs) ns st = refl

spaced_told : (s : TextState) → script_view (spaced s) ≡ script_view s
unfolding spaced
spaced_told s =
    let l = s.entry.list in
    ap (λ v. cond v (cond (is_empty s.entries) None (Some s.entries)) (one_more s.entries (whole_entry (spaced s).entry))) (still_new s.entry.components l.numbers l.standing)
    ∙ ap (λ (t : NumbersState). cond (is_new_entry s.entry) (cond (is_empty s.entries) None (Some s.entries)) (one_more s.entries (cond (is_after t.standing) (entry_by s.entry.components t.numbers) None))) (ended_twice l.numbers l.standing)

record TextRun (s : TextState) (bytes : List ℕ) (script : List Entry) : Type 0 where
  state : TextState
  run : run text_step s bytes ≡ Some state
  told : script_view state ≡ Some script

spaces_run : (s : TextState) (sp : List ℕ) (script : List Entry) → all_of is_space sp ≡ true → script_view s ≡ Some script → TextRun s sp script
spaces_run s [] script e h = record { state = s; run = run_nil text_step s; told = h }
spaces_run s (b ∷ sp) script e h =
    let p = both (is_space b) (all_of is_space sp) e in
    let rest = spaces_run (spaced s) sp script p.1 (spaced_told s ∙ h) in
    record { state = rest.state; run = run_cons text_step s (spaced s) b sp (text_space s b p.0) ∙ rest.run; told = rest.told }

-- A COMPLETE TEXT

some_told : (es : List Entry) → 1 ≤ length es → script_view (record { entries = es; entry = new_entry }) ≡ Some es
some_told [] l = absurd (omega (arith, l))
some_told (e ∷ es) l = refl

last_told : (es : List Entry) (s : EntryState) (e : Entry) → length es < 100 → is_new_entry s ≡ false → whole_entry s ≡ Some e → script_view (record { entries = es; entry = s }) ≡ Some (es ++ e ∷ [])
last_told es s e l new whole =
    ap (λ v. cond v (cond (is_empty es) None (Some es)) (one_more es (whole_entry s))) new ∙ ap (one_more es) whole ∙ more_yes es e l

all_front : {A : Type 0} (t : A → Bool) (a b : List A) → all_of t (a ++ b) ≡ true → (all_of t a ≡ true) × (all_of t b ≡ true)
all_front t [] b e = (refl, e)
all_front t (x ∷ a) b e =
    let s = both (t x) (all_of t (a ++ b)) e in
    let r = all_front t a b s.1 in
    (ap (λ v. v && all_of t a) s.0 ∙ r.0, r.1)

body_run : (ws : List EntryWord) (last : Option EntryWord) → all_of is_entry (ws ++ last_entry last) ≡ true → 1 ≤ length (ws ++ last_entry last) → length (ws ++ last_entry last) ≤ 100
    → TextRun new_text (flat_map ended_text ws ++ last_text last) (map parsed_entry (ws ++ last_entry last))
body_run ws None e some few =
    let most = subst (λ (l : List EntryWord). length l ≤ 100) (append-nil ws) few in
    let all = ended_run [] ws (omega (arith, most)) (subst (λ (l : List EntryWord). all_of is_entry l ≡ true) (append-nil ws) e) in
    let same : map parsed_entry (ws ++ []) ≡ map parsed_entry ws = ap (map parsed_entry) (append-nil ws) in
    let long = length-map ws parsed_entry in
    record {
      state = record { entries = map parsed_entry ws; entry = new_entry };
      run = ap (run text_step new_text) (append-nil (flat_map ended_text ws)) ∙ all;
      told = some_told (map parsed_entry ws) (subst (λ n. 1 ≤ n) (sym long) (subst (λ (l : List EntryWord). 1 ≤ length l) (append-nil ws) some)) ∙ ap (λ (l : List Entry). Some l) (sym same);
    }
body_run ws (Some w) e some few =
    let parts = all_front is_entry ws (w ∷ []) e in
    let more = length-append ws (w ∷ []) in
    let all = ended_run [] ws (omega (arith, few, more)) parts.0 in
    let es = map parsed_entry ws in
    let long = length-map ws parsed_entry in
    let r = entry_run es w.components w.band (omega (arith, few, more, long)) (both (is_entry w) true parts.1).0 in
    record {
      state = record { entries = es; entry = r.state };
      run = run_two text_step new_text (record { entries = es; entry = new_entry }) (flat_map ended_text ws) (entry_text w) all ∙ r.run;
      told = last_told es r.state (parsed_entry w) (omega (arith, few, more, long)) r.begun r.whole ∙ ap (λ (l : List Entry). Some l) (joined ws);
    }
  where
    joined : (ws : List EntryWord) → map parsed_entry ws ++ parsed_entry w ∷ [] ≡ map parsed_entry (ws ++ w ∷ [])
    joined [] = refl
    joined (x ∷ ws) = ap (λ (l : List Entry). parsed_entry x ∷ l) (joined ws)

pub spelled_run : (text : List ℕ) (script : List Entry) → Spells text script → ReadsAs (List Entry) TextState script_reader (without_comments false text) script
spelled_run text script sp =
    let w = sp.word in
    let s = both (all_of is_entry (entries w)) ((nat_le 1 (length (entries w)) && nat_le (length (entries w)) 100) && all_of is_space w.after) sp.formed in
    let p = both (nat_le 1 (length (entries w)) && nat_le (length (entries w)) 100) (all_of is_space w.after) s.1 in
    let q = both (nat_le 1 (length (entries w))) (nat_le (length (entries w)) 100) p.0 in
    let body = body_run w.ended w.last s.0 (le_of 1 (length (entries w)) q.0) (le_of (length (entries w)) 100 q.1) in
    let end = spaces_run body.state w.after (map parsed_entry (entries w)) p.1 body.told in
    record {
      state = end.state;
      run = ap (run text_step new_text) sp.spelled ∙ run_two text_step new_text body.state (flat_map ended_text w.ended ++ last_text w.last) w.after body.run ∙ end.run;
      is = end.told ∙ ap (λ (l : List Entry). Some l) sp.told;
    }
