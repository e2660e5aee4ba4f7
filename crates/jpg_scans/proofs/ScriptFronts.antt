-- What the bytes of a script's text that were read represent: entries that ended, and a prefix of one more.
use Rattle.std.proofs.Common.{◌≡◌, ℕ, ◌-◌, ◌<◌, ◌≤◌, Bool, true, false, cond, ◌&&◌, ◌==◌, List, [], ◌∷◌, ◌++◌, length, map, refl, sym, ap, ◌∙◌, subst, arith, Option, None, Some}
use Rattle.std.specs.Prelude.{nat_lt, nat_le, option_map, flat_map}
use Rattle.std.proofs.lemmas.Bool.Decides.{nat_tests}
use Rattle.std.proofs.lemmas.List.{append_assoc, append-nil, length-append, length-map, map-append}
use Rattle.std.proofs.lemmas.List.Concat.{flat_map-append}
use Rattle.jpg_spec.specs.Lists.{all_of, is_empty}
use Rattle.jpg_spec.specs.NumberTexts.{is_digit, digits_from, is_space, without_comments, NumbersWord, numbers_text, parsed_numbers}
use Rattle.jpg_spec_write.specs.Script.{Entry}
use Rattle.jpg_spec_write.specs.ScriptGrammar.{is_joint, EntryWord, entry_text, ended_text, are_numbers, is_entry, banded, parsed_entry, Spells}
use Rattle.jpg_spec.proofs.Basics.Common.{and_intro, same_of, lt_of, some_once}
use Rattle.jpg_spec.specs.TextReaders.{run}
use Rattle.jpg_spec.proofs.Texts.TextRuns.{all_join, one_of, run_front}
use Rattle.jpg_scans.specs.declared.standing.Standing.{Standing}
use Rattle.jpg_scans.specs.declared.standing.Standing.TheVariants.{Before, InNumber, Behind, Joined}
use Rattle.jpg_scans.specs.TextState.{NumbersState, ended_by, ended, digit_by, joint_by, number_step, EntryState, no_numbers, new_entry, is_before, is_after, is_new_entry, is_new_by, entry_by, whole_entry, colon_by, entry_step, TextState, one_more, text_step, script_view, new_text}
use Rattle.jpg_scans.proofs.TextFronts.{Front, list_step, list_whole}

-- AN ENTRY

-- components, a colon, and numbers after it
pub record IsAfterColon (t cs : List ℕ) (list : NumbersState) : Type 0 where
  pub components : NumbersWord
  pub behind : List ℕ
  pub text : t ≡ numbers_text components ++ 58 ∷ behind
  pub numbers : are_numbers components ≡ true
  pub few : nat_le (length components.numbers) 4 ≡ true
  pub told : parsed_numbers components ≡ cs
  pub front : Front behind list

abbrev pub EntryFront : List ℕ → Option (List ℕ) → NumbersState → Type 0
EntryFront t None list = Front t list
EntryFront t (Some cs) list = IsAfterColon t cs list

no_numbers_front : Front [] no_numbers
no_numbers_front = record { none = refl; spaces = refl }

-- a byte of numbers
in_list : (t : List ℕ) (cs : Option (List ℕ)) (s u : NumbersState) (b : ℕ) → EntryFront t cs s → number_step s b ≡ Some u → EntryFront (t ++ b ∷ []) cs u
in_list t None s u b f e = list_step t s u b f e
in_list t (Some cs) s u b f e = record {
  components = f.components;
  behind = f.behind ++ b ∷ [];
  text = ap (λ x. x ++ b ∷ []) f.text ∙ append_assoc (numbers_text f.components) (58 ∷ f.behind) (b ∷ []);
  numbers = f.numbers;
  few = f.few;
  told = f.told;
  front = list_step f.behind s u b f.front e;
}

-- a colon
at_colon : (t : List ℕ) (cs : Option (List ℕ)) (s : NumbersState) (u : EntryState) → EntryFront t cs s
    → cond (is_after (ended s).standing) (colon_by cs (ended s).numbers) None ≡ Some u → EntryFront (t ++ 58 ∷ []) u.components u.list
at_colon t None s u f e = by (is_after (ended s).standing) refl e
  where
    by : (v : Bool) → is_after (ended s).standing ≡ v → cond v (Some (record { components = Some (ended s).numbers; list = no_numbers })) None ≡ Some u → EntryFront (t ++ 58 ∷ []) u.components u.list
    by true a e =
        let w = list_whole t s.numbers s.standing f a in
        subst (λ (x : EntryState). EntryFront (t ++ 58 ∷ []) x.components x.list) (some_once (record { components = Some (ended s).numbers; list = no_numbers }) u e) (record {
          components = w.word;
          behind = [];
          text = ap (λ x. x ++ 58 ∷ []) (sym w.text);
          numbers = w.numbers;
          few = w.few;
          told = w.told;
          front = no_numbers_front;
        })
    by false a e = cc
at_colon t (Some cs) s u f e = by (is_after (ended s).standing) e
  where
    by : (v : Bool) → cond v None None ≡ Some u → EntryFront (t ++ 58 ∷ []) u.components u.list
    by true e = cc
    by false e = cc

mapped : {X Y : Type 0} (g : X → Y) (o : Option X) (y : Y) → option_map g o ≡ Some y → (x : X) × (o ≡ Some x) × (g x ≡ y)
mapped g None y e = cc
mapped g (Some x) y e = (x, refl, some_once (g x) y e)

entry_front_step : (t : List ℕ) (s u : EntryState) (b : ℕ) → EntryFront t s.components s.list → entry_step s b ≡ Some u → EntryFront (t ++ b ∷ []) u.components u.list
entry_front_step t s u b f e = by (b == 58) refl e
  where
    by : (v : Bool) → (b == 58) ≡ v
        → cond v (cond (is_after (ended s.list).standing) (colon_by s.components (ended s.list).numbers) None) (option_map (λ (list : NumbersState). record { components = s.components; list = list }) (number_step s.list b)) ≡ Some u
        → EntryFront (t ++ b ∷ []) u.components u.list
    by true a e = subst (λ x. EntryFront (t ++ x ∷ []) u.components u.list) (sym (same_of b 58 a)) (at_colon t s.components s.list u f e)
    by false a e =
        let m = mapped (λ (list : NumbersState). record { components = s.components; list = list }) (number_step s.list b) u e in
        subst (λ (x : EntryState). EntryFront (t ++ b ∷ []) x.components x.list) m.2 (in_list t s.components s.list m.0 b f m.1)

-- it may end here
pub record IsEntryText (t : List ℕ) (e : Entry) : Type 0 where
  pub word : EntryWord
  pub text : entry_text word ≡ t
  pub formed : is_entry word ≡ true
  pub told : parsed_entry word ≡ e

entry_end_by : (t : List ℕ) (cs : Option (List ℕ)) (s : NumbersState) (e : Entry) → EntryFront t cs s → is_after (ended s).standing ≡ true → entry_by cs (ended s).numbers ≡ Some e → IsEntryText t e
entry_end_by t None s e f a h =
    let w = list_whole t s.numbers s.standing f a in
    record {
      word = record { components = w.word; band = None };
      text = append-nil (numbers_text w.word) ∙ w.text;
      formed = and_intro (are_numbers w.word && nat_le (length w.word.numbers) 4) true (and_intro (are_numbers w.word) (nat_le (length w.word.numbers) 4) w.numbers w.few) refl;
      told = ap (λ ns. banded ns (0 ∷ 63 ∷ 0 ∷ 0 ∷ [])) w.told ∙ some_once (banded (ended s).numbers (0 ∷ 63 ∷ 0 ∷ 0 ∷ [])) e h;
    }
entry_end_by t (Some cs) s e f a h = by (length (ended s).numbers == 4) refl h
  where
    by : (v : Bool) → (length (ended s).numbers == 4) ≡ v → cond v (Some (banded cs (ended s).numbers)) None ≡ Some e → IsEntryText t e
    by true p h =
        let w = list_whole f.behind s.numbers s.standing f.front a in
        let four : (length w.word.numbers == 4) ≡ true = ap (λ n. n == 4) (sym (length-map w.word.numbers (λ n. digits_from 0 n.digits)) ∙ ap length w.told) ∙ p in
        record {
          word = record { components = f.components; band = Some w.word };
          text = ap (λ x. numbers_text f.components ++ 58 ∷ x) w.text ∙ sym f.text;
          formed = and_intro (are_numbers f.components && nat_le (length f.components.numbers) 4) (are_numbers w.word && length w.word.numbers == 4)
              (and_intro (are_numbers f.components) (nat_le (length f.components.numbers) 4) f.numbers f.few) (and_intro (are_numbers w.word) (length w.word.numbers == 4) w.numbers four);
          told = ap (λ ns. banded ns (parsed_numbers w.word)) f.told ∙ ap (banded cs) w.told ∙ some_once (banded cs (ended s).numbers) e h;
        }
    by false p h = cc

entry_end : (t : List ℕ) (s : EntryState) (e : Entry) → EntryFront t s.components s.list → whole_entry s ≡ Some e → IsEntryText t e
entry_end t s e f h = by (is_after (ended s.list).standing) refl h
  where
    by : (v : Bool) → is_after (ended s.list).standing ≡ v → cond v (entry_by s.components (ended s.list).numbers) None ≡ Some e → IsEntryText t e
    by true a h = entry_end_by t s.components s.list e f a h
    by false a h = cc

-- ENTRIES

pub record TextFront (t : List ℕ) (s : TextState) : Type 0 where
  pub ended : List EntryWord
  pub behind : List ℕ
  pub text : t ≡ flat_map ended_text ended ++ behind
  pub formed : all_of is_entry ended ≡ true
  pub told : map parsed_entry ended ≡ s.entries
  pub few : length ended ≤ 100
  pub entry : EntryFront behind s.entry.components s.entry.list
  pub room : is_new_entry s.entry ≡ false → length s.entries < 100

new_front : TextFront [] new_text
new_front = record { ended = []; behind = []; text = refl; formed = refl; told = refl; few = omega arith; entry = no_numbers_front; room = λ e. cc }

-- one more entry
one_told : (es : List Entry) (o : Option Entry) (all : List Entry) → one_more es o ≡ Some all → (e : Entry) × (length es < 100) × (o ≡ Some e) × (es ++ e ∷ [] ≡ all)
one_told es o all h = by (nat_lt (length es) 100) o refl h
  where
    by : (v : Bool) (o : Option Entry) → nat_lt (length es) 100 ≡ v → cond v (option_map (λ e. es ++ e ∷ []) o) None ≡ Some all → (e : Entry) × (length es < 100) × (o ≡ Some e) × (es ++ e ∷ [] ≡ all)
    by true None a h = cc
    by true (Some e) a h = (e, lt_of (length es) 100 a, refl, some_once (es ++ e ∷ []) all h)
    by false o a h = cc

at_semicolon : (t : List ℕ) (s u : TextState) → TextFront t s
    → option_map (λ (all : List Entry). record { entries = all; entry = new_entry }) (one_more s.entries (whole_entry s.entry)) ≡ Some u → TextFront (t ++ 59 ∷ []) u
at_semicolon t s u f e =
    let m = mapped (λ (all : List Entry). record { entries = all; entry = new_entry }) (one_more s.entries (whole_entry s.entry)) u e in
    let one = one_told s.entries (whole_entry s.entry) m.0 m.1 in
    let w = entry_end f.behind s.entry one.0 f.entry one.2 in
    let room = one.1 in
    let long = length-append f.ended (w.word ∷ []) in
    let count = sym (length-map f.ended parsed_entry) ∙ ap length f.told in
    subst (TextFront (t ++ 59 ∷ [])) m.2 (record {
      ended = f.ended ++ w.word ∷ [];
      behind = [];
      text = ap (λ x. x ++ 59 ∷ []) (f.text ∙ ap (λ x. flat_map ended_text f.ended ++ x) (sym w.text))
          ∙ append_assoc (flat_map ended_text f.ended) (entry_text w.word) (59 ∷ [])
          ∙ ap (λ x. flat_map ended_text f.ended ++ x) (sym (append-nil (ended_text w.word)))
          ∙ sym (flat_map-append ended_text f.ended (w.word ∷ []))
          ∙ sym (append-nil (flat_map ended_text (f.ended ++ w.word ∷ [])));
      formed = all_join is_entry f.ended (w.word ∷ []) f.formed (one_of is_entry w.word w.formed);
      told = map-append parsed_entry f.ended (w.word ∷ []) ∙ ap (λ l. l ++ parsed_entry w.word ∷ []) f.told ∙ ap (λ e. s.entries ++ e ∷ []) w.told ∙ one.3;
      few = omega (arith, room, long, count);
      entry = no_numbers_front;
      room = λ e. cc;
    })

-- a byte that is no digit begins no entry
stays_new : (s u : NumbersState) (b : ℕ) → is_digit b ≡ false → is_before s.standing ≡ true → number_step s b ≡ Some u → is_before u.standing ≡ true
stays_new s u b d n e = by s.numbers s.standing (is_space b) (is_joint b) n (sym (ap (λ v. cond v (digit_by s.numbers s.standing (b - 48)) (cond (is_space b) (Some (ended s)) (cond (is_joint b) (joint_by (ended s).numbers (ended s).standing) None))) d) ∙ e)
  where
    by : (ns : List ℕ) (st : Standing) (y z : Bool) → is_before st ≡ true → cond y (Some (ended_by ns st)) (cond z (joint_by (ended_by ns st).numbers (ended_by ns st).standing) None) ≡ Some u → is_before u.standing ≡ true
    by ns Before true z n e = ap (λ (x : NumbersState). is_before x.standing) (sym (some_once (ended_by ns Before) u e))
    by ns Before false true n e = cc
    by ns Before false false n e = cc
    by ns (InNumber m v) y z n e = cc
    by ns Behind y z n e = cc
    by ns Joined y z n e = cc

entry_stays : (cs : Option (List ℕ)) (s : NumbersState) (u : EntryState) (b : ℕ) → is_digit b ≡ false → is_new_by cs s ≡ true → entry_step (record { components = cs; list = s }) b ≡ Some u → is_new_entry u ≡ true
entry_stays (Some cs) s u b d n e = cc
entry_stays None s u b d n e = by (b == 58) e
  where
    after_no : (ns : List ℕ) (st : Standing) → is_before st ≡ true → is_after (ended_by ns st).standing ≡ false
    after_no ns Before n = refl
    after_no ns (InNumber m v) n = cc
    after_no ns Behind n = cc
    after_no ns Joined n = cc

    none : (v : Bool) (o : Option EntryState) → v ≡ false → cond v o None ≡ Some u → is_new_entry u ≡ true
    none true o a e = cc
    none false o a e = cc

    by : (v : Bool) → cond v (cond (is_after (ended s).standing) (colon_by None (ended s).numbers) None) (option_map (λ (list : NumbersState). record { components = None; list = list }) (number_step s b)) ≡ Some u → is_new_entry u ≡ true
    by true e = none (is_after (ended s).standing) (colon_by None (ended s).numbers) (after_no s.numbers s.standing n) e
    by false e =
        let m = mapped (λ (list : NumbersState). record { components = None; list = list }) (number_step s b) u e in
        ap is_new_entry (sym m.2) ∙ stays_new s m.0 b d n m.1

-- an entry that has begun is one of 100 at most
room_kept : (s : TextState) (u : EntryState) (b : ℕ) → (is_new_entry s.entry ≡ false → length s.entries < 100) → (is_digit b && (is_new_entry s.entry && nat_le 100 (length s.entries))) ≡ false
    → entry_step s.entry b ≡ Some u → is_new_entry u ≡ false → length s.entries < 100
room_kept s u b room free e begun = by (is_digit b) (is_new_entry s.entry) (nat_le 100 (length s.entries)) refl refl refl free
  where
    by : (x y z : Bool) → is_digit b ≡ x → is_new_entry s.entry ≡ y → nat_le 100 (length s.entries) ≡ z → (x && (y && z)) ≡ false → length s.entries < 100
    by x false z p q r h = room q
    by true true true p q r h = cc
    by true true false p q r h = grind (arith, nat_tests, r)
    by false true z p q r h = let new = entry_stays s.entry.components s.entry.list u b p q e in cc

in_entry : (t : List ℕ) (s u : TextState) (b : ℕ) → TextFront t s → (is_digit b && (is_new_entry s.entry && nat_le 100 (length s.entries))) ≡ false
    → option_map (λ (entry : EntryState). record { entries = s.entries; entry = entry }) (entry_step s.entry b) ≡ Some u → TextFront (t ++ b ∷ []) u
in_entry t s u b f free e =
    let m = mapped (λ (entry : EntryState). record { entries = s.entries; entry = entry }) (entry_step s.entry b) u e in
    subst (TextFront (t ++ b ∷ [])) m.2 (record {
      ended = f.ended;
      behind = f.behind ++ b ∷ [];
      text = ap (λ x. x ++ b ∷ []) f.text ∙ append_assoc (flat_map ended_text f.ended) f.behind (b ∷ []);
      formed = f.formed;
      told = f.told;
      few = f.few;
      entry = entry_front_step f.behind s.entry m.0 b f.entry m.1;
      room = room_kept s m.0 b f.room free m.1;
    })

text_front_step : (t : List ℕ) (s u : TextState) (b : ℕ) → TextFront t s → text_step s b ≡ Some u → TextFront (t ++ b ∷ []) u
text_front_step t s u b f e = by (b == 59) (is_digit b && (is_new_entry s.entry && nat_le 100 (length s.entries))) refl refl e
  where
    by : (v w : Bool) → (b == 59) ≡ v → (is_digit b && (is_new_entry s.entry && nat_le 100 (length s.entries))) ≡ w
        → cond v (option_map (λ (all : List Entry). record { entries = all; entry = new_entry }) (one_more s.entries (whole_entry s.entry)))
        (cond w None (option_map (λ (entry : EntryState). record { entries = s.entries; entry = entry }) (entry_step s.entry b))) ≡ Some u
        → TextFront (t ++ b ∷ []) u
    by true w a free e = subst (λ x. TextFront (t ++ x ∷ []) u) (sym (same_of b 59 a)) (at_semicolon t s u f e)
    by false true a free e = cc
    by false false a free e = in_entry t s u b f free e

-- bytes that are read are a prefix
pub text_front : (text : List ℕ) (s : TextState) → run text_step new_text text ≡ Some s → TextFront text s
text_front text s e = run_front text_step TextFront text_front_step [] text new_text s new_front e

-- THE TEXT MAY END here

new_spaces : (t : List ℕ) (cs : Option (List ℕ)) (ns : List ℕ) (st : Standing) → EntryFront t cs (record { numbers = ns; standing = st }) → is_new_by cs (record { numbers = ns; standing = st }) ≡ true → all_of is_space t ≡ true
new_spaces t (Some cs) ns st f e = cc
new_spaces t None ns Before f e = f.spaces
new_spaces t None ns (InNumber n v) f e = cc
new_spaces t None ns Behind f e = cc
new_spaces t None ns Joined f e = cc

formed_of : (ws : List EntryWord) (after : List ℕ) → all_of is_entry ws ≡ true → 1 ≤ length ws → length ws ≤ 100 → all_of is_space after ≡ true
    → (all_of is_entry ws && ((nat_le 1 (length ws) && nat_le (length ws) 100) && all_of is_space after)) ≡ true
formed_of ws after e some few a =
    let x : nat_le 1 (length ws) ≡ true = grind (arith, nat_tests, some) in
    let y : nat_le (length ws) 100 ≡ true = grind (arith, nat_tests, few) in
    and_intro (all_of is_entry ws) _ e (and_intro (nat_le 1 (length ws) && nat_le (length ws) 100) (all_of is_space after) (and_intro (nat_le 1 (length ws)) (nat_le (length ws) 100) x y) a)

-- after a semicolon
ends_new : (text : List ℕ) (s : TextState) (script : List Entry) → TextFront (without_comments false text) s → is_new_entry s.entry ≡ true → cond (is_empty s.entries) None (Some s.entries) ≡ Some script → Spells text script
ends_new text s script f new e = by s.entries refl e
  where
    by : (es : List Entry) → s.entries ≡ es → cond (is_empty es) None (Some es) ≡ Some script → Spells text script
    by [] a e = cc
    by (x ∷ es) a e =
        let count : length f.ended ≡ length (x ∷ es) = sym (length-map f.ended parsed_entry) ∙ ap length f.told ∙ ap length a in
        let few = f.few in
        record {
          word = record { ended = f.ended; last = None; after = f.behind };
          formed = subst (λ (ws : List EntryWord). (all_of is_entry ws && ((nat_le 1 (length ws) && nat_le (length ws) 100) && all_of is_space f.behind)) ≡ true) (sym (append-nil f.ended))
              (formed_of f.ended f.behind f.formed (omega (arith, count)) few (new_spaces f.behind s.entry.components s.entry.list.numbers s.entry.list.standing f.entry new));
          spelled = f.text ∙ ap (λ l. l ++ f.behind) (sym (append-nil (flat_map ended_text f.ended)));
          told = ap (map parsed_entry) (append-nil f.ended) ∙ f.told ∙ a ∙ some_once (x ∷ es) script e;
        }

-- without one
ends_open : (text : List ℕ) (s : TextState) (script : List Entry) → TextFront (without_comments false text) s → one_more s.entries (whole_entry s.entry) ≡ Some script → Spells text script
ends_open text s script f e =
    let one = one_told s.entries (whole_entry s.entry) script e in
    let w = entry_end f.behind s.entry one.0 f.entry one.2 in
    let room = one.1 in
    let long = length-append f.ended (w.word ∷ []) in
    let count = sym (length-map f.ended parsed_entry) ∙ ap length f.told in
    record {
      word = record { ended = f.ended; last = Some w.word; after = [] };
      formed = formed_of (f.ended ++ w.word ∷ []) [] (all_join is_entry f.ended (w.word ∷ []) f.formed (one_of is_entry w.word w.formed)) (omega (arith, long)) (omega (arith, room, long, count)) refl;
      spelled = f.text ∙ ap (λ x. flat_map ended_text f.ended ++ x) (sym w.text) ∙ sym (append-nil (flat_map ended_text f.ended ++ entry_text w.word));
      told = map-append parsed_entry f.ended (w.word ∷ []) ∙ ap (λ l. l ++ parsed_entry w.word ∷ []) f.told ∙ ap (λ e. s.entries ++ e ∷ []) w.told ∙ one.3;
    }

ends : (text : List ℕ) (s : TextState) (script : List Entry) → TextFront (without_comments false text) s → script_view s ≡ Some script → Spells text script
ends text s script f e = by (is_new_entry s.entry) refl e
  where
    by : (v : Bool) → is_new_entry s.entry ≡ v → cond v (cond (is_empty s.entries) None (Some s.entries)) (one_more s.entries (whole_entry s.entry)) ≡ Some script → Spells text script
    by true a e = ends_new text s script f a e
    by false a e = ends_open text s script f e

pub told_spells : (text : List ℕ) (s : TextState) (script : List Entry) → run text_step new_text (without_comments false text) ≡ Some s → script_view s ≡ Some script → Spells text script
told_spells text s script e h = ends text s script (text_front (without_comments false text) s e) h
