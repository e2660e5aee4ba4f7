-- Transforming a picture: reading it, and then writing it.
use Rattle.std.proofs.Common.{◌≡◌, ◌⊎◌, ℕ, ◌<◌, Bool, true, false, List, [], ◌∷◌, take, Option, Err, Some, None, refl, sym, ap, subst, arith, zero, suc, inl, inr}
use Rattle.std.specs.List.{All}
use Rattle.std.specs.Option.{unwrap_or}
use Rattle.jpg_base.specs.declared.names.Name.{Name}
use Rattle.jpg_base.specs.Desk.{DeskState}
use Rattle.jpg_spec.specs.Meaning.{Meaning}
use Rattle.jpg_spec_move.specs.Moved.{Choice}
use Rattle.jpg_spec_upright.specs.Upright.{fault_for, text_for}
use Rattle.jpg_spec_write.specs.declared.picture_fault.PictureFault.{PictureFault}
use Rattle.jpg_spec_write.specs.ScansAsked.{Scans}
use Rattle.jpg_spec_words.specs.TransformWords.{TransformAsked, choice_asked}
use Rattle.jpg_spec_words.specs.declared.answers.Usage.{Usage}
use Rattle.jpg_spec_words.specs.declared.answers.UsageFault.TheVariants.{NoEnd}
use Rattle.jpg_spec_words.specs.declared.answers.Why.{Why}
use Rattle.jpg_spec_words.specs.declared.answers.Why.TheVariants as why
use Rattle.jpg_desk.specs.Endings.{GoesOnAfter}
use Rattle.jpg_desk.specs.ReadPicture.{IsReadPicture, Coefficients}
use Rattle.jpg_desk.specs.Stays.{Untouched}
use Rattle.jpg_words.specs.Commands.{Command, IsCommand, IsFormatAsked, name_of, transform_picture, show_picture, encode_image, print_comments, insert_comment, do_work}
use Rattle.jpg_words.specs.Files.{name_view}
use Rattle.jpg_cli.specs.Run.{IsMissing, RanShow, Worked}
use Rattle.jpg_cli.specs.Tools.Ends.{has_format}
use Rattle.jpg_spec_words.specs.Requests.{ParsedWords, words_right, words_wrong}
use Rattle.jpg_spec_words.specs.ShowWords.{ShowAsked}
use Rattle.jpg_spec_image.specs.declared.image.EndKind.{EndKind}
use Rattle.jpg_words.specs.declared.files.WordsStop.TheVariants as words
use Rattle.jpg_desk.specs.ScriptTaken.{HasScans, StopsAtScans, names_before}
use Rattle.jpg_words.specs.TransformWords.{script_view, transform_view}
use Rattle.jpg_cli.specs.Outcome.{Converted}
use Rattle.jpg_cli.specs.Tools.Turned.{Transformed, Turned, Turning, turning_conversion}
use Rattle.jpg_words.specs.declared.jpegtran_request.TransformWords.{TransformWords}
use Rattle.jpg_desk.specs.Writing.{AfterMade, IsMeant, MeansUpright, as_early, why_wrote}
use Rattle.jpg_desk.specs.declared.moved.Wrote.{Wrote}
use Rattle.jpg_desk.specs.declared.moved.Wrote.TheVariants as wrote
use Rattle.jpg_cli.proofs.Comments.CommentInserted.{none_noted}
use Rattle.jpg_cli.proofs.Comments.InsertedThen.{same_name}
use Rattle.jpg_cli.proofs.Outcomes.Outcome.{HasValueRead, after_names, converted_after, converted_made}

-- WHAT IS READ is what the file means

front_small : (xs : List ℕ) (n : ℕ) → All (λ b. b < 256) xs → All (λ b. b < 256) (take n xs)
front_small [] zero h k d l = let f : ⊥ = omega arith in absurd f
front_small [] (suc n) h k d l = let f : ⊥ = omega arith in absurd f
front_small (x ∷ xs) zero h k d l = let f : ⊥ = omega arith in absurd f
front_small (x ∷ xs) (suc n) h zero d l = h 0 d (omega arith)
front_small (x ∷ xs) (suc n) h (suc k) d l = front_small xs n (λ i e m. h (suc i) e (omega arith)) k d (omega arith)

meant : (M : Meaning) (early : Option ℕ) (bytes : List ℕ) → IsReadPicture Coefficients M early bytes → IsMeant M
meant M None bytes h = (take h.count bytes, front_small bytes h.count h.small, inl h.whole.0)
meant M (Some n) bytes h = (bytes, h.small, inr h.early)

-- A PICTURE that was read, written

pub turned_made : (t : Turning) (M : Meaning) (early : Option ℕ) (s0 s1 s2 : DeskState) (w : Wrote) → HasValueRead Meaning (turning_conversion t) M early s0 s1 s2
    → AfterMade (fault_for t.upright t.choice M) (text_for t.upright t.choice M) (IsMeant M → MeansUpright t.upright t.choice M) t.output s1 (why_wrote w) s2
    → Converted (after_names Meaning [] (turning_conversion t)) s0 (as_early early (why_wrote w)) s2
turned_made t M early s0 s1 s2 w h k = converted_made Meaning (turning_conversion t) M early s0 s1 s2 h (why_wrote w) (by w k)
  where
    F : Option PictureFault
    F = fault_for t.upright t.choice M

    T : List ℕ
    T = text_for t.upright t.choice M

    by : (v : Wrote) → AfterMade F T (IsMeant M → MeansUpright t.upright t.choice M) t.output s1 (why_wrote v) s2 → AfterMade F T (MeansUpright t.upright t.choice M) t.output s1 (why_wrote v) s2
    by wrote.Done (none, out, means) = (none, out, means (meant M early (h.read).bytes (h.read).is))
    by other r = r

-- AS THE WORDS ASK FOR IT

pub transformed_in : (w : TransformWords) (scans : Scans) (choice : Choice) (upright : Bool) (s0 s1 s2 : DeskState) (ended : Why) → choice ≡ choice_asked (transform_view w) scans → upright ≡ w.upright
    → GoesOnAfter (names_before (script_view w.script)) s0 s1 → HasScans (script_view w.script) s0 scans
    → Turned (record { before = []; input = w.files.input; output = w.files.output; choice = choice; upright = upright }) s1 ended s2 → Transformed (transform_view w) s0 ended s2
transformed_in w scans choice upright s0 s1 s2 ended same is behind has turned =
    let of : Name → Name → Choice → Bool → Turning = λ i o c u. record { before = names_before (script_view w.script); input = i; output = o; choice = c; upright = u } in
    let asked = choice_asked (transform_view w) scans in
    let there = converted_after Meaning (turning_conversion (of w.files.input w.files.output choice upright)) (names_before (script_view w.script)) s0 s1 s2 behind ended turned in
    inr (inl (
      scans,
      has,
      subst (λ i. Turned (of i (name_of (name_view w.files.output)) asked w.upright) s0 ended s2) (sym (same_name w.files.input))
          (subst (λ o. Turned (of w.files.input o asked w.upright) s0 ended s2) (sym (same_name w.files.output))
          (subst (λ (u : Bool). Turned (of w.files.input w.files.output asked u) s0 ended s2) is
          (subst (λ (c : Choice). Turned (of w.files.input w.files.output c upright) s0 ended s2) same there))),
    ))

pub transformed_stopped : (a : TransformAsked) (s0 s1 : DeskState) (ended : Why) → StopsAtScans a.scans s0 ended s1 ⊎ ((ended ≡ why.NoMemory) × Untouched s0 s1) → Transformed a s0 ended s1
transformed_stopped a s0 s1 ended (inl h) = inl h
transformed_stopped a s0 s1 ended (inr h) = inr (inr h)

-- if there is no memory for the names of its files

untouched : (s : DeskState) → Untouched s s
untouched s = record { asked = refl; outputs = refl; left = refl }

show_wanting : (b : Bool) (a : ShowAsked) (s : DeskState) → b ≡ true → RanShow b a s why.NoMemory s
show_wanting true a s e = inr (refl, untouched s)
show_wanting false a s e = absurd (let f : false ≡ true = e in cc)

pub names_wanting : (formats : List EndKind) (told : ParsedWords Command) (s : DeskState) → IsMissing formats told None → IsCommand told (Err words.NoMemory) → Worked formats told s why.NoMemory s
names_wanting formats told s there k = by k
  where
    P : ParsedWords Command → Type 0
    P t = Worked formats t s why.NoMemory s

    by : IsCommand told (Err words.NoMemory) → Worked formats told s why.NoMemory s
    by (inl (a, e)) = subst P (sym e) (inr (inr (refl, untouched s)))
    by (inr (inl (a, e))) = subst P (sym e) (show_wanting (has_format a.kind formats) a s (subst (λ (t : ParsedWords Command). IsMissing formats t None) e there))
    by (inr (inr (inl (a, e)))) = subst P (sym e) (inr (inr (refl, untouched s)))
    by (inr (inr (inr (inl (files, e))))) = subst P (sym e) (inr (refl, untouched s))
    by (inr (inr (inr (inr (asked, e))))) = subst P (sym e) (inl (record { count = 0; stopped = record { asked = none_noted s.asked s.asked refl; outputs = refl }; read = inl refl }))

-- WITHOUT AN IMAGE WRITER of the format

pub missing_none : (formats : List EndKind) (told : ParsedWords Command) → IsFormatAsked told None → IsMissing formats told None
missing_none formats (words_right (show_picture a)) h = absurd (let e : None ≡ Some (a.kind, a.kind_word) = h in cc)
missing_none formats (words_right (transform_picture a)) h = tt
missing_none formats (words_right (encode_image a)) h = tt
missing_none formats (words_right (print_comments a)) h = tt
missing_none formats (words_right (insert_comment a)) h = tt
missing_none formats (words_right (do_work a)) h = tt
missing_none formats (words_wrong u) h = tt

kind_of : (f : EndKind × ℕ) (a : ShowAsked) → Some f ≡ Some (a.kind, a.kind_word) → (f.0 ≡ a.kind) × (f.1 ≡ a.kind_word)
kind_of f a e = (ap (λ (p : EndKind × ℕ). p.0) (inside f (a.kind, a.kind_word) e), ap (λ (p : EndKind × ℕ). p.1) (inside f (a.kind, a.kind_word) e))
  where
    inside : (x y : EndKind × ℕ) → Some x ≡ Some y → x ≡ y
    inside x y e = ap (λ (o : Option (EndKind × ℕ)). unwrap_or o x) e

pub missing_has : (formats : List EndKind) (told : ParsedWords Command) (f : EndKind × ℕ) → IsFormatAsked told (Some f) → has_format f.0 formats ≡ true → IsMissing formats told None
missing_has formats (words_right (show_picture a)) f h e = subst (λ (k : EndKind). has_format k formats ≡ true) (kind_of f a h).0 e
missing_has formats (words_right (transform_picture a)) f h e = tt
missing_has formats (words_right (encode_image a)) f h e = tt
missing_has formats (words_right (print_comments a)) f h e = tt
missing_has formats (words_right (insert_comment a)) f h e = tt
missing_has formats (words_right (do_work a)) f h e = tt
missing_has formats (words_wrong u) f h e = tt

no_such : (f : EndKind × ℕ) → Some f ≡ None → ⊥
no_such f e = cc

pub missing_some : (formats : List EndKind) (told : ParsedWords Command) (f : EndKind × ℕ) → IsFormatAsked told (Some f) → has_format f.0 formats ≡ false → IsMissing formats told (Some (record { fault = NoEnd; word = f.1 }))
missing_some formats (words_right (show_picture a)) f h e = (
  subst (λ (k : EndKind). has_format k formats ≡ false) (kind_of f a h).0 e,
  ap (λ (w : ℕ). (let u : Usage = record { fault = NoEnd; word = w } in u)) (kind_of f a h).1,
)
missing_some formats (words_right (transform_picture a)) f h e = no_such f h
missing_some formats (words_right (encode_image a)) f h e = no_such f h
missing_some formats (words_right (print_comments a)) f h e = no_such f h
missing_some formats (words_right (insert_comment a)) f h e = no_such f h
missing_some formats (words_right (do_work a)) f h e = no_such f h
missing_some formats (words_wrong u) f h e = no_such f h

show_missing : (b : Bool) (a : ShowAsked) (s : DeskState) (u : Usage) → b ≡ false → u ≡ record { fault = NoEnd; word = a.kind_word } → RanShow b a s (why.Usage u) s
show_missing true a s u e is = absurd (let f : true ≡ false = e in cc)
show_missing false a s u e is = (ap (λ (v : Usage). why.Usage v) is, untouched s)

pub worked_missing : (formats : List EndKind) (told : ParsedWords Command) (s : DeskState) (u : Usage) → IsMissing formats told (Some u) → Worked formats told s (why.Usage u) s
worked_missing formats (words_right (show_picture a)) s u h = show_missing (has_format a.kind formats) a s u h.0 h.1
worked_missing formats (words_right (transform_picture a)) s u h = absurd h
worked_missing formats (words_right (encode_image a)) s u h = absurd h
worked_missing formats (words_right (print_comments a)) s u h = absurd h
worked_missing formats (words_right (insert_comment a)) s u h = absurd h
worked_missing formats (words_right (do_work a)) s u h = absurd h
worked_missing formats (words_wrong v) s u h = absurd h
