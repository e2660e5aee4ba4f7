-- Switches of a command, one after another.
use Rattle.std.proofs.Common.{◌≡◌, ℕ, ◌+◌, ◌<◌, true, List, [], ◌∷◌, length, drop, refl, sym, ap, ◌∙◌, arith, Option, Some}
use Rattle.std.proofs.lemmas.List.{drop_more}
use Rattle.jpg_spec_words.specs.Requests.{Tool, ParsedWords, request_from, then_asks, words_right, words_wrong}
use Rattle.jpg_spec_words.specs.Switches.{Switch, is_switch, purpose_of}
use Rattle.jpg_spec_words.specs.declared.switch.Flag.{Flag}
use Rattle.jpg_spec_words.specs.declared.switch.Purpose.{Purpose}
use Rattle.jpg_spec_words.specs.declared.switch.Purpose.TheVariants.{Alone, Valued}
use Rattle.jpg_spec_words.specs.declared.switch.Setting.{Setting}
use Rattle.jpg_words.specs.Requests.{asked_from, word_at}

-- the purpose of a word, as it was found in a table
pub same_purpose : (table switches : List Switch) (found word : List ℕ) (purpose : Option Purpose) → table ≡ switches → found ≡ word → purpose ≡ purpose_of table found → purpose_of switches word ≡ purpose
same_purpose table switches found word purpose same is e = sym (e ∙ ap (purpose_of table) is ∙ ap (λ t. purpose_of t word) same)

then_right : {R : Type 0} (told : ParsedWords R) → then_asks told (λ a. words_right a) ≡ told
then_right (words_wrong u) = refl
then_right (words_right a) = refl

-- a switch without a value

flag_first : {R : Type 0} (tool : Tool R) (i : ℕ) (a : R) (w : List ℕ) (rest : List (List ℕ)) (f : Flag) → is_switch w ≡ true → purpose_of tool.switches w ≡ Some (Alone f)
    → request_from tool i a (w ∷ rest) ≡ then_asks (tool.flag f i a) (λ b. request_from tool (i + 1) b rest)
flag_first tool i a w [] f switch is = rw (switch, is) (sym (then_right (tool.flag f i a)))
flag_first tool i a w (next ∷ words) f switch is = rw (switch, is) refl

pub flag_at : {R : Type 0} (tool : Tool R) (ws : List (List ℕ)) (i : ℕ) (a : R) (f : Flag) → i < length ws → is_switch (word_at ws i) ≡ true → purpose_of tool.switches (word_at ws i) ≡ Some (Alone f)
    → asked_from tool ws i a ≡ then_asks (tool.flag f i a) (asked_from tool ws (i + 1))
flag_at tool ws i a f less switch is = ap (request_from tool i a) (drop_more ws i [] less) ∙ flag_first tool i a (word_at ws i) (drop (i + 1) ws) f switch is

-- a switch and its value

two_more : (ws : List (List ℕ)) (i : ℕ) → i + 1 < length ws → drop i ws ≡ word_at ws i ∷ word_at ws (i + 1) ∷ drop (i + 2) ws
two_more ws i less =
    let after : i + 1 + 1 ≡ i + 2 = omega arith in
    drop_more ws i [] (omega arith) ∙ ap (λ l. word_at ws i ∷ l) (drop_more ws (i + 1) [] less ∙ ap (λ n. word_at ws (i + 1) ∷ drop n ws) after)

setting_first : {R : Type 0} (tool : Tool R) (i : ℕ) (a : R) (w value : List ℕ) (rest : List (List ℕ)) (s : Setting) → is_switch w ≡ true → purpose_of tool.switches w ≡ Some (Valued s)
    → request_from tool i a (w ∷ value ∷ rest) ≡ then_asks (tool.setting s i value a) (λ b. request_from tool (i + 2) b rest)
setting_first tool i a w value rest s switch is = rw (switch, is) refl

pub setting_at : {R : Type 0} (tool : Tool R) (ws : List (List ℕ)) (i : ℕ) (a : R) (s : Setting) → is_switch (word_at ws i) ≡ true → purpose_of tool.switches (word_at ws i) ≡ Some (Valued s) → i + 1 < length ws
    → asked_from tool ws i a ≡ then_asks (tool.setting s i (word_at ws (i + 1)) a) (asked_from tool ws (i + 2))
setting_at tool ws i a s switch is less = ap (request_from tool i a) (two_more ws i less) ∙ setting_first tool i a (word_at ws i) (word_at ws (i + 1)) (drop (i + 2) ws) s switch is
