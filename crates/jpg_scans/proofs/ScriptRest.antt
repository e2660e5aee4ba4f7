-- Bytes that were read are the beginning of some text of a script: what may follow them; the reader of scripts.
use Rattle.std.proofs.Common.{◌≡◌, ℕ, zero, suc, ◌<◌, ◌≤◌, true, false, cond, ◌==◌, List, [], ◌∷◌, ◌++◌, length, refl, sym, ap, ◌∙◌, arith, Option, None, Some}
use Rattle.std.specs.Prelude.{option_map, option_and_then, nat_lt}
use Rattle.std.proofs.lemmas.Bool.Decides.{nat_tests}
use Rattle.std.proofs.lemmas.List.{length-append, length-map}
use Rattle.jpg_spec_write.specs.Script.{Entry}
use Rattle.jpg_spec.specs.NumberTexts.{NumberWord, without_comments}
use Rattle.jpg_spec_write.specs.ScriptGrammar.{are_joined, banded, script_form}
use Rattle.jpg_spec.proofs.Basics.Common.{lt_yes}
use Rattle.jpg_spec.specs.TextReaders.{ReaderState, reader_step, run, plain}
use Rattle.jpg_spec.proofs.Texts.TextRuns.{value_of}
use Rattle.jpg_spec.proofs.Texts.TextsRead.{Finishes, ReadsForm}
use Rattle.jpg_scans.specs.declared.standing.Standing.{Standing}
use Rattle.jpg_scans.specs.declared.standing.Standing.TheVariants.{Before, InNumber, Behind, Joined}
use Rattle.jpg_scans.specs.TextState.{NumbersState, ended_by, EntryState, is_new_by, one_more, TextState, text_step, script_view, script_reader}
use Rattle.jpg_scans.proofs.ScriptRuns.{more_yes, spaced, text_space, spelled_run}
use Rattle.jpg_scans.proofs.TextFronts.{ListFront, told_long}
use Rattle.jpg_scans.proofs.ScriptFronts.{TextFront, EntryFront, text_front, told_spells}

-- NUMBERS followed by a space or a line's end: none; one to four; one to three and a comma

IsOpenList : List ℕ → Standing → Type 0
IsOpenList ns Before = ns ≡ []
IsOpenList ns (InNumber n v) = ⊥
IsOpenList ns Behind = (1 ≤ length ns) × (length ns ≤ 4)
IsOpenList ns Joined = (1 ≤ length ns) × (length ns < 4)

some_joined : (words : List NumberWord) → are_joined words ≡ true → 1 ≤ length words
some_joined [] e = cc
some_joined (w ∷ words) e = omega arith

open_list : (t ns : List ℕ) (st : Standing) → ListFront t ns st → IsOpenList (ended_by ns st).numbers (ended_by ns st).standing
unfolding IsOpenList
open_list t ns Before f = f.none
open_list t ns (InNumber n v) f =
    let long = length-append ns (v ∷ []) in
    let same = sym (length-map f.words value_of) ∙ ap length f.told in
    let room = f.room in
    (omega (arith, long), omega (arith, long, same, room))
open_list t ns Behind f =
    let same = told_long t ns f.tail f.list in
    let some = some_joined f.list.words f.list.joined in
    let few = f.list.few in
    (omega (arith, same, some), omega (arith, same, few))
open_list t ns Joined f =
    let same = told_long t ns f.tail f.list in
    let some = some_joined f.list.words f.list.joined in
    (omega (arith, same, some), f.room)

-- WHAT MAY FOLLOW: nothing, or as many numbers 0 as are missing

abbrev Ends : TextState → Type 0
Ends s = Finishes (List Entry) TextState script_reader s

abbrev at : List Entry → Option (List ℕ) → List ℕ → Standing → TextState
at es cs ns st = record { entries = es; entry = record { components = cs; list = record { numbers = ns; standing = st } } }

with_components : (es : List Entry) (ns : List ℕ) (st : Standing) → (is_new_by None (record { numbers = ns; standing = st }) ≡ false → length es < 100) → IsOpenList ns st → Ends (at es None ns st)
unfolding IsOpenList run
with_components [] ns Before room o = record {
  rest = 48 ∷ [];
  state = plain (at [] None [] (InNumber 1 0));
  told = banded (0 ∷ []) (0 ∷ 63 ∷ 0 ∷ 0 ∷ []) ∷ [];
  run = ap (λ (l : List ℕ). run (reader_step text_step) (plain (at [] None l Before)) (48 ∷ [])) o;
  is = refl;
}
with_components (e ∷ es) ns Before room o = record { rest = []; state = plain (at (e ∷ es) None ns Before); told = e ∷ es; run = refl; is = refl }
with_components es ns (InNumber n v) room o = absurd o
with_components es ns Behind room o = record {
  rest = [];
  state = plain (at es None ns Behind);
  told = es ++ banded ns (0 ∷ 63 ∷ 0 ∷ 0 ∷ []) ∷ [];
  run = refl;
  is = more_yes es (banded ns (0 ∷ 63 ∷ 0 ∷ 0 ∷ [])) (room refl);
}
with_components es [] Joined room o = absurd (omega (arith, o.0))
with_components es (a ∷ ns) Joined room o =
    let few : (nat_lt (length (a ∷ ns)) 4) ≡ true = lt_yes (length (a ∷ ns)) 4 o.1 in
    record {
      rest = 48 ∷ [];
      state = plain (at es None (a ∷ ns) (InNumber 1 0));
      told = es ++ banded ((a ∷ ns) ++ 0 ∷ []) (0 ∷ 63 ∷ 0 ∷ 0 ∷ []) ∷ [];
      run = ap (λ v. option_and_then (λ (r : ReaderState TextState). Some r) (option_map (λ (text : TextState). record { behind = false; text = text })
          (option_map (λ (entry : EntryState). record { entries = es; entry = entry }) (option_map (λ (list : NumbersState). record { components = None; list = list })
          (cond v (Some (record { numbers = a ∷ ns; standing = InNumber 1 0 })) None))))) few;
      is = more_yes es (banded ((a ∷ ns) ++ 0 ∷ []) (0 ∷ 63 ∷ 0 ∷ 0 ∷ [])) (room refl);
    }

-- after a colon this many numbers are missing
abbrev due : ℕ → List ℕ
due zero = []
due (suc zero) = 48 ∷ []
due (suc (suc n)) = 48 ∷ 32 ∷ due (suc n)

four_told : (es : List Entry) (cs ns : List ℕ) (v : ℕ) → length es < 100 → length ns ≡ 3 → script_view (at es (Some cs) ns (InNumber 1 v)) ≡ Some (es ++ banded cs (ns ++ v ∷ []) ∷ [])
four_told es cs ns v l three =
    let long = length-append ns (v ∷ []) in
    let four : (length (ns ++ v ∷ []) == 4) ≡ true = grind (arith, nat_tests, long, three) in
    ap (λ b. one_more es (cond b (Some (banded cs (ns ++ v ∷ []))) None)) four ∙ more_yes es (banded cs (ns ++ v ∷ [])) l

-- from any state except in a number
after_colon : (es : List Entry) (cs ns : List ℕ) (st : Standing) → length es < 100 → IsOpenList ns st → Ends (at es (Some cs) ns st)
unfolding IsOpenList run
after_colon es cs ns (InNumber n v) l o = absurd o
after_colon es cs ns Before l o = record {
  rest = due 4;
  state = plain (at es (Some cs) (0 ∷ 0 ∷ 0 ∷ []) (InNumber 1 0));
  told = es ++ banded cs (0 ∷ 0 ∷ 0 ∷ 0 ∷ []) ∷ [];
  run = ap (λ (l : List ℕ). run (reader_step text_step) (plain (at es (Some cs) l Before)) (due 4)) o;
  is = four_told es cs (0 ∷ 0 ∷ 0 ∷ []) 0 l refl;
}
after_colon es cs [] Behind l o = absurd (omega (arith, o.0))
after_colon es cs (a ∷ []) Behind l o = record { rest = due 3; state = plain (at es (Some cs) (a ∷ 0 ∷ 0 ∷ []) (InNumber 1 0)); told = es ++ banded cs (a ∷ 0 ∷ 0 ∷ 0 ∷ []) ∷ []; run = refl; is = four_told es cs (a ∷ 0 ∷ 0 ∷ []) 0 l refl }
after_colon es cs (a ∷ b ∷ []) Behind l o = record { rest = due 2; state = plain (at es (Some cs) (a ∷ b ∷ 0 ∷ []) (InNumber 1 0)); told = es ++ banded cs (a ∷ b ∷ 0 ∷ 0 ∷ []) ∷ []; run = refl; is = four_told es cs (a ∷ b ∷ 0 ∷ []) 0 l refl }
after_colon es cs (a ∷ b ∷ c ∷ []) Behind l o = record { rest = due 1; state = plain (at es (Some cs) (a ∷ b ∷ c ∷ []) (InNumber 1 0)); told = es ++ banded cs (a ∷ b ∷ c ∷ 0 ∷ []) ∷ []; run = refl; is = four_told es cs (a ∷ b ∷ c ∷ []) 0 l refl }
after_colon es cs (a ∷ b ∷ c ∷ d ∷ []) Behind l o = record { rest = []; state = plain (at es (Some cs) (a ∷ b ∷ c ∷ d ∷ []) Behind); told = es ++ banded cs (a ∷ b ∷ c ∷ d ∷ []) ∷ []; run = refl; is = more_yes es (banded cs (a ∷ b ∷ c ∷ d ∷ [])) l }
after_colon es cs (a ∷ b ∷ c ∷ d ∷ e ∷ ns) Behind l o = absurd (omega (arith, o.1))
after_colon es cs [] Joined l o = absurd (omega (arith, o.0))
after_colon es cs (a ∷ []) Joined l o = record { rest = due 3; state = plain (at es (Some cs) (a ∷ 0 ∷ 0 ∷ []) (InNumber 1 0)); told = es ++ banded cs (a ∷ 0 ∷ 0 ∷ 0 ∷ []) ∷ []; run = refl; is = four_told es cs (a ∷ 0 ∷ 0 ∷ []) 0 l refl }
after_colon es cs (a ∷ b ∷ []) Joined l o = record { rest = due 2; state = plain (at es (Some cs) (a ∷ b ∷ 0 ∷ []) (InNumber 1 0)); told = es ++ banded cs (a ∷ b ∷ 0 ∷ 0 ∷ []) ∷ []; run = refl; is = four_told es cs (a ∷ b ∷ 0 ∷ []) 0 l refl }
after_colon es cs (a ∷ b ∷ c ∷ []) Joined l o = record { rest = due 1; state = plain (at es (Some cs) (a ∷ b ∷ c ∷ []) (InNumber 1 0)); told = es ++ banded cs (a ∷ b ∷ c ∷ 0 ∷ []) ∷ []; run = refl; is = four_told es cs (a ∷ b ∷ c ∷ []) 0 l refl }
after_colon es cs (a ∷ b ∷ c ∷ d ∷ ns) Joined l o = absurd (omega (arith, o.1))

-- after the end of a line
finishes_by : (behind : List ℕ) (es : List Entry) (cs : Option (List ℕ)) (ns : List ℕ) (st : Standing) → EntryFront behind cs (record { numbers = ns; standing = st })
    → (is_new_by cs (record { numbers = ns; standing = st }) ≡ false → length es < 100) → Ends (at es cs (ended_by ns st).numbers (ended_by ns st).standing)
finishes_by behind es None ns st f room =
    with_components es (ended_by ns st).numbers (ended_by ns st).standing (λ e. room (sym (still ns st) ∙ e)) (open_list behind ns st f)
  where
    still : (ns : List ℕ) (st : Standing) → is_new_by None (ended_by ns st) ≡ is_new_by None (record { numbers = ns; standing = st })
    still ns Before = refl
    still ns (InNumber n v) = refl
    still ns Behind = refl
    still ns Joined = refl
finishes_by behind es (Some cs) ns st f room = after_colon es cs (ended_by ns st).numbers (ended_by ns st).standing (room refl) (open_list f.behind ns st f.front)

finishes : (t : List ℕ) (s : TextState) → TextFront t s → Ends (spaced s)
unfolding spaced
finishes t s f = finishes_by f.behind s.entries s.entry.components s.entry.list.numbers s.entry.list.standing f.entry f.room

-- THE READER of scripts
pub reads_scripts : ReadsForm (List Entry) TextState script_form script_reader
reads_scripts = record {
  spelled = spelled_run;
  told = told_spells;
  goes_on = λ text s e. (spaced s, text_space s 10 refl, finishes (without_comments false text) s (text_front (without_comments false text) s e));
}
