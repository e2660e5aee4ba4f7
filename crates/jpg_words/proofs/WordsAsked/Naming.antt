-- The first word names the command.
use Rattle.std.proofs.Common.{◌≡◌, ◌≤◌, ◌∙◌, ℕ, Bool, true, false, cond, List, [], ◌∷◌, length, map, drop, get_or, Option, None, ap, refl, sym, subst, arith, Result}
use Rattle.std.specs.Prelude.{codes, if◌then◌else◌}
use Rattle.std.specs.Str.{bytes_eq}
use Rattle.std.proofs.lemmas.Slice.Eq.{bytes_eq-Decides}
use Rattle.jpg_spec_image.specs.declared.image.EndKind.{EndKind}
use Rattle.jpg_spec_words.specs.Requests.{FilesAsked, ParsedWords, usage_at, words_right, words_wrong}
use Rattle.jpg_spec_words.specs.CommentWords.{WriteAsked, read_asked, write_asked}
use Rattle.jpg_spec_words.specs.EncodeWords.{EncodeAsked, encode_asked}
use Rattle.jpg_spec_words.specs.ShowWords.{ShowAsked, show_asked}
use Rattle.jpg_spec_words.specs.TransformWords.{TransformAsked, transform_asked}
use Rattle.jpg_spec_words.specs.WorkWords.{work_asked}
use Rattle.jpg_spec_words.specs.Words.{is_tool}
use Rattle.jpg_spec_words.specs.declared.answers.UsageFault.TheVariants.{UnknownTool}
use Rattle.jpg_words.specs.Commands.{Command, IsCommand, IsFormatAsked, as_command, command_asked, known_command, transform_picture, show_picture, encode_image, print_comments, insert_comment, do_work}
use Rattle.jpg_words.specs.ShowWords.{IsFormat}
use Rattle.jpg_words.specs.declared.files.WordsStop.{WordsStop}
use Rattle.jpg_words.specs.declared.tools.Asked.{Asked}

pub named_as : {S : Type 0} (P : ParsedWords Command → Type 0) (text : S → List ℕ) (words : List S) (tool : S) (name : List ℕ) → 1 ≤ length words → tool ≡ get_or words 0 tool → name ≡ text tool → is_tool (text tool) ≡ true
    → P (known_command name (drop 1 (map text words))) → P (command_asked (map text words))
named_as P text [] tool name long first named known is = let no : ⊥ = omega (arith, long) in absurd no
named_as P text (word ∷ words) tool name long first named known is =
    let behind = map text words in
    let Q : List ℕ → Type 0 = λ n. P (known_command n behind) in
    subst P (sym (ap (λ b. cond b (known_command (text word) behind) (usage_at UnknownTool 0)) (ap (λ t. is_tool (text t)) (sym first) ∙ known)))
    (subst Q (named ∙ ap text first) is)

pub named_command : {S : Type 0} (text : S → List ℕ) (words : List S) (tool : S) (name : List ℕ) (r : Result Asked WordsStop) → 1 ≤ length words → tool ≡ get_or words 0 tool → name ≡ text tool → is_tool (text tool) ≡ true
    → IsCommand (known_command name (drop 1 (map text words))) r → IsCommand (command_asked (map text words)) r
named_command text words tool name r = named_as (λ told. IsCommand told r) text words tool name

pub named_format : {S : Type 0} (text : S → List ℕ) (words : List S) (tool : S) (name : List ℕ) (r : Option (EndKind × ℕ)) → 1 ≤ length words → tool ≡ get_or words 0 tool → name ≡ text tool → is_tool (text tool) ≡ true
    → IsFormatAsked (known_command name (drop 1 (map text words))) r → IsFormatAsked (command_asked (map text words)) r
named_format text words tool name r = named_as (λ told. IsFormatAsked told r) text words tool name

-- THE FORMAT that words ask for

show_format : (p : ParsedWords ShowAsked) (r : Option (EndKind × ℕ)) → IsFormat p r → IsFormatAsked (as_command show_picture p) r
show_format (words_right a) r h = h
show_format (words_wrong u) r h = h

pub djpeg_format : (tool : List ℕ) (words : List (List ℕ)) (r : Option (EndKind × ℕ)) → bytes_eq tool (codes "djpeg") ≡ true → IsFormat (show_asked words) r → IsFormatAsked (known_command tool words) r
djpeg_format tool words r e h =
    let P : List ℕ → Type 0 = λ t. IsFormatAsked (known_command t words) r in
    subst P (sym ((bytes_eq-Decides tool (codes "djpeg")).0 e)) (show_format (show_asked words) r h)

transform_none : (p : ParsedWords TransformAsked) → IsFormatAsked (as_command transform_picture p) None
transform_none (words_right a) = refl
transform_none (words_wrong u) = refl

encode_none : (p : ParsedWords EncodeAsked) → IsFormatAsked (as_command encode_image p) None
encode_none (words_right a) = refl
encode_none (words_wrong u) = refl

print_none : (p : ParsedWords FilesAsked) → IsFormatAsked (as_command print_comments p) None
print_none (words_right a) = refl
print_none (words_wrong u) = refl

insert_none : (p : ParsedWords WriteAsked) → IsFormatAsked (as_command insert_comment p) None
insert_none (words_right a) = refl
insert_none (words_wrong u) = refl

work_none : (p : ParsedWords ℕ) → IsFormatAsked (as_command do_work p) None
work_none (words_right a) = refl
work_none (words_wrong u) = refl

pub other_format : (tool : List ℕ) (words : List (List ℕ)) → bytes_eq tool (codes "djpeg") ≡ false → IsFormatAsked (known_command tool words) None
other_format tool words e = by (bytes_eq tool (codes "jpegtran")) (bytes_eq tool (codes "djpeg")) (bytes_eq tool (codes "cjpeg")) (bytes_eq tool (codes "rdjpgcom")) (bytes_eq tool (codes "wrjpgcom")) e
  where
    by : (t d c r w : Bool) → d ≡ false
        → IsFormatAsked (
        if t then as_command transform_picture (transform_asked words)
        else if d then as_command show_picture (show_asked words)
        else if c then as_command encode_image (encode_asked words)
        else if r then as_command print_comments (read_asked words)
        else if w then as_command insert_comment (write_asked words)
        else as_command do_work (work_asked words)
        ) None
    by true d c r w e = transform_none (transform_asked words)
    by false true c r w e = absurd (let f : true ≡ false = e in cc)
    by false false true r w e = encode_none (encode_asked words)
    by false false false true w e = print_none (read_asked words)
    by false false false false true e = insert_none (write_asked words)
    by false false false false false e = work_none (work_asked words)
