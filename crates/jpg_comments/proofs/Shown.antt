-- The printed form of a comment, piece by piece.
use Rattle.std.proofs.Common.{◌≡◌, ℕ, ◌+◌, ◌<◌, ◌≤◌, Bool, true, false, not, ◌||◌, ◌==◌, if◌then◌else◌, List, [], ◌∷◌, ◌++◌, length, take, drop, get_or, refl, sym, ap, ◌∙◌, append_assoc, arith, All, subst}
use Rattle.std.specs.Prelude.{slice_index, Option, Some, None, cond, nat_lt}
use Rattle.std.specs.List.{position, position_or_len}
use Rattle.std.proofs.lemmas.Bool.{false_from_ne_true, not-false, not-true, ltb-false, or_parts}
use Rattle.std.proofs.lemmas.Option.{none-some}
use Rattle.std.proofs.lemmas.List.{append-nil, get_or-take, length-take, take-append-drop, take_all, drop_more}
use Rattle.std.proofs.lemmas.List.Elements.{All-head, All-tail, All-from_get_or}
use Rattle.std.proofs.lemmas.List.Quantifiers.{position-Some}
use Rattle.std.proofs.lemmas.List.Sums.{fails_before_first}
use Rattle.memchr.specs.Find.{IsFirstByte, Nowhere, Passes, is_byte3}
use Rattle.jpg_spec_write.specs.CommentText.{octal, printed, printed_byte, printed_from}
use Rattle.jpg_spec.specs.Markers.{is_within}
use Rattle.jpg_comments.specs.Pieces.{plain_text}

-- LINE ENDS AND BACKSLASHES

-- neither a line end nor a backslash
abbrev pub IsPlain : ℕ → Type 0
IsPlain byte = is_byte3 13 10 92 byte ≡ false

plain_parts : (byte : ℕ) → IsPlain byte → ((byte == 13) ≡ false) × ((byte == 10) ≡ false) × ((byte == 92) ≡ false)
plain_parts byte h =
    let ends = or_parts (byte == 13 || byte == 10) (byte == 92) h in
    let end = or_parts (byte == 13) (byte == 10) ends.0 in
    (end.0, end.1, ends.1)

plain_is : (byte : ℕ) → IsPlain byte → printed_byte false byte ≡ (if is_within 32 126 byte then byte ∷ [] else 92 ∷ octal byte)
plain_is byte h = let e = plain_parts byte h in rw (e.0, e.1, e.2) refl

-- such bytes are printed one by one
plain_printed : (bytes rest : List ℕ) → All IsPlain bytes → printed_from false (bytes ++ rest) ≡ plain_text bytes ++ printed_from false rest
plain_printed [] rest all = refl
plain_printed (byte ∷ bytes) rest all =
    let plain = All-head IsPlain byte bytes all in
    let shown = if is_within 32 126 byte then byte ∷ [] else 92 ∷ octal byte in
    ap (λ l. l ++ printed_from (byte == 13) (bytes ++ rest)) (plain_is byte plain)
    ∙ ap (λ b. shown ++ printed_from b (bytes ++ rest)) (plain_parts byte plain).0
    ∙ ap (λ l. shown ++ l) (plain_printed bytes rest (All-tail IsPlain byte bytes all))
    ∙ sym (append_assoc shown (plain_text bytes) (printed_from false rest))

plain_before : (bytes : List ℕ) (n : ℕ) → Nowhere (Passes (is_byte3 13 10 92) bytes) 0 n → All IsPlain (take n bytes)
plain_before bytes n nowhere = All-from_get_or IsPlain (take n bytes) 0 (λ k below.
    let small : k < n = omega (arith, length-take n bytes) in
    rw (get_or-take n bytes k 0 small) (false_from_ne_true (is_byte3 13 10 92 (get_or bytes k 0)) (nowhere k (omega arith) small)))

-- without one
pub printed_none : (bytes : List ℕ) → IsFirstByte (is_byte3 13 10 92) bytes None → printed bytes ≡ plain_text bytes ++ 10 ∷ []
printed_none bytes nowhere =
    let all : All IsPlain bytes =
    let e = take_all (length bytes) bytes (omega arith) in
    let P : List ℕ → Type 0 = λ l. All IsPlain l in subst P e (plain_before bytes (length bytes) nowhere) in
    ap (λ l. l ++ 10 ∷ []) (ap (printed_from false) (sym (append-nil bytes)) ∙ plain_printed bytes [] all ∙ append-nil (plain_text bytes))

-- up to the first one
pub printed_before : (bytes plain others : List ℕ) (i : ℕ) → IsFirstByte (is_byte3 13 10 92) bytes (Some i) → plain ≡ take i bytes → others ≡ drop i bytes
    → printed bytes ≡ plain_text plain ++ printed others
printed_before bytes plain others i first front back =
    rw (front, back)
    (ap (λ l. l ++ 10 ∷ [])
    (ap (printed_from false) (sym (take-append-drop i bytes))
    ∙ plain_printed (take i bytes) (drop i bytes) (plain_before bytes i first.0.before))
    ∙ append_assoc (plain_text (take i bytes)) (printed_from false (drop i bytes)) (10 ∷ []))

-- a text by itself, and what is after it
pub printed_text : (others text behind : List ℕ) → printed_from false others ≡ text ++ printed_from false behind → printed others ≡ text ++ printed behind
printed_text others text behind e = ap (λ l. l ++ 10 ∷ []) e ∙ append_assoc text (printed_from false behind) (10 ∷ [])

-- what a search answered
pub found : (bytes : List ℕ) (r : Option ℕ) (i : ℕ) → IsFirstByte (is_byte3 13 10 92) bytes r → r ≡ Some i → IsFirstByte (is_byte3 13 10 92) bytes (Some i)
found bytes r i first e = let P : Option ℕ → Type 0 = λ o. IsFirstByte (is_byte3 13 10 92) bytes o in subst P e first

pub found_none : (bytes : List ℕ) (r : Option ℕ) → IsFirstByte (is_byte3 13 10 92) bytes r → r ≡ None → IsFirstByte (is_byte3 13 10 92) bytes None
found_none bytes r first e = let P : Option ℕ → Type 0 = λ o. IsFirstByte (is_byte3 13 10 92) bytes o in subst P e first

-- BYTES THAT AREN'T PRINTABLE

abbrev pub unprintable : ℕ → Bool
unprintable byte = not (is_within 32 126 byte)

abbrev pub IsPrintable : ℕ → Type 0
IsPrintable byte = unprintable byte ≡ false

-- printable bytes are printed as they are
printable_text : (bytes rest : List ℕ) → All IsPrintable bytes → plain_text (bytes ++ rest) ≡ bytes ++ plain_text rest
printable_text [] rest all = refl
printable_text (byte ∷ bytes) rest all =
    rw (not-false (is_within 32 126 byte) (All-head IsPrintable byte bytes all)) (ap (λ l. byte ∷ l) (printable_text bytes rest (All-tail IsPrintable byte bytes all)))

printable_before : (bytes : List ℕ) (n : ℕ) → ((k : ℕ) → k < n → unprintable (get_or bytes k 0) ≡ false) → All IsPrintable (take n bytes)
printable_before bytes n before = All-from_get_or IsPrintable (take n bytes) 0 (λ k below.
    let small : k < n = omega (arith, length-take n bytes) in
    rw (get_or-take n bytes k 0 small) (before k small))

none_found : (n len : ℕ) (b : Bool) → cond b (Some n) None ≡ None → b ≡ false
none_found n len false h = refl
none_found n len true h = absurd (none-some n (sym h))

-- where all are printable, the text is the bytes
pub unprintable_none : (bytes : List ℕ) → position unprintable bytes ≡ None → plain_text bytes ≡ bytes
unprintable_none bytes h =
    let n = position_or_len unprintable bytes in
    let most : length bytes ≤ n = ltb-false n (length bytes) (none_found n (length bytes) (nat_lt n (length bytes)) h) in
    let all : All IsPrintable bytes =
    let e = take_all (length bytes) bytes (omega arith) in
    let P : List ℕ → Type 0 = λ l. All IsPrintable l in
    subst P e (printable_before bytes (length bytes) (λ k below. fails_before_first unprintable bytes k 0 (omega arith))) in
    ap plain_text (sym (append-nil bytes)) ∙ printable_text bytes [] all ∙ append-nil bytes

-- the bytes before the first one, its octal digits, and the text of what is after it
pub unprintable_first : (bytes run others : List ℕ) (i : ℕ) → position unprintable bytes ≡ Some i → run ≡ take i bytes → others ≡ drop i bytes
    → plain_text bytes ≡ run ++ ((92 ∷ octal (slice_index others 0)) ++ plain_text (drop 1 others))
unprintable_first bytes run others i h front back =
    let found = position-Some unprintable bytes i 0 h in
    let byte = get_or bytes i 0 in
    let more : others ≡ byte ∷ drop (i + 1) bytes = back ∙ drop_more bytes i 0 found.0 in
    let digits : plain_text (byte ∷ drop (i + 1) bytes) ≡ (92 ∷ octal byte) ++ plain_text (drop (i + 1) bytes) = rw (not-true (is_within 32 126 byte) found.1) refl in
    rw (front, more)
    (ap plain_text (sym (take-append-drop i bytes))
    ∙ printable_text (take i bytes) (drop i bytes) (printable_before bytes i found.2)
    ∙ ap (λ l. take i bytes ++ plain_text l) (drop_more bytes i 0 found.0)
    ∙ ap (λ l. take i bytes ++ l) digits)
