-- A run is its work, and then its message.
use Rattle.std.proofs.Common.{◌≡◌, ℕ, Bool, true, false, List, take, Option, ◌∙◌, subst, arith, inl, inr, None, Some}
use Rattle.std.specs.Io.KnownBytes.{Appends}
use Rattle.jpg_base.specs.Desk.{DeskState, NoneFell}
use Rattle.jpg_base.specs.Laws.{NoneFell-then}
use Rattle.jpg_spec_words.specs.declared.answers.Why.{Why}
use Rattle.jpg_spec_words.specs.ShowWords.{ShowAsked}
use Rattle.jpg_spec_image.specs.declared.image.EndKind.{EndKind}
use Rattle.jpg_spec_image.specs.declared.image.EndKind.TheVariants.{Pnm}
use Rattle.jpg_spec_words.specs.Words.{tool_of}
use Rattle.jpg_spec_words.specs.Requests.{ParsedWords, words_right, words_wrong}
use Rattle.jpg_words.specs.Commands.{encode_image, Command, transform_picture, show_picture, print_comments, insert_comment, do_work, command_asked, name_of}
use Rattle.jpg_cli.proofs.Comments.CommentsPrinted.{printed_then}
use Rattle.jpg_cli.proofs.Comments.InsertedThen.{inserted_then}
use Rattle.jpg_spec_words.specs.TransformWords.{TransformAsked}
use Rattle.jpg_cli.specs.Tools.Turned.{Transformed, turning_conversion, turning_of}
use Rattle.jpg_desk.proofs.ScriptTaken.{stopped_scans_then}
use Rattle.jpg_spec.specs.Meaning.{Meaning}
use Rattle.jpg_spec_words.specs.Messages.{message, status_of}
use Rattle.jpg_desk.proofs.Endings.{untouched_then}
use Rattle.jpg_cli.specs.Run.{SaysText, task_of, showing_of, RanShow, Worked, Works, Ran}
use Rattle.jpg_cli.specs.Tools.Ends.{has_format}
use Rattle.jpg_cli.specs.Tools.Worked.{DidWork, work_conversion}
use Rattle.jpg_cli.specs.Tools.Showing.{showing_conversion, Showing}
use Rattle.jpg_cli.specs.Tools.FrontShown.{ShownAs, front_conversion}
use Rattle.jpg_cli.proofs.Encoding.ImageEncoded.{encoding_then}
use Rattle.jpg_cli.proofs.Outcomes.Outcome.{converted_then}
use Rattle.jpg_desk.specs.Stays.{OnlySays}

-- a message doesn't change what was done

transformed_then : (a : TransformAsked) (s0 s1 s2 : DeskState) (w : Why) → OnlySays s1 s2 → Transformed a s0 w s1 → Transformed a s0 w s2
transformed_then a s0 s1 s2 w k (inl h) = inl (stopped_scans_then a.scans s0 s1 s2 w k h)
transformed_then a s0 s1 s2 w k (inr (inl (scans, has, turned))) = inr (inl (scans, has, converted_then Meaning (turning_conversion (turning_of a scans)) s0 s1 s2 k w turned))
transformed_then a s0 s1 s2 w k (inr (inr t)) = inr (inr (t.0, untouched_then s0 s1 s2 k t.1))

shown_then : (preview : Option ℕ) (s : Showing) (s0 s1 s2 : DeskState) (w : Why) → OnlySays s1 s2 → ShownAs preview s s0 w s1 → ShownAs preview s s0 w s2
shown_then None s s0 s1 s2 w k h = converted_then Meaning (showing_conversion s) s0 s1 s2 k w h
shown_then (Some scans) s s0 s1 s2 w k h = converted_then Meaning (front_conversion scans s) s0 s1 s2 k w h

show_then : (b : Bool) (a : ShowAsked) (s0 s1 s2 : DeskState) (w : Why) → OnlySays s1 s2 → RanShow b a s0 w s1 → RanShow b a s0 w s2
show_then true a s0 s1 s2 w k (inl t) = inl (shown_then a.preview (showing_of a) s0 s1 s2 w k t)
show_then true a s0 s1 s2 w k (inr t) = inr (t.0, untouched_then s0 s1 s2 k t.1)
show_then false a s0 s1 s2 w k t = (t.0, untouched_then s0 s1 s2 k t.1)

work_then : (has : Bool) (n : ℕ) (s0 s1 s2 : DeskState) (w : Why) → OnlySays s1 s2 → DidWork has n s0 w s1 → DidWork has n s0 w s2
work_then true n s0 s1 s2 w k (inl t) = inl (converted_then ℕ (work_conversion n) s0 s1 s2 k w t)
work_then true n s0 s1 s2 w k (inr t) = inr (t.0, untouched_then s0 s1 s2 k t.1)
work_then false n s0 s1 s2 w k t = (t.0, untouched_then s0 s1 s2 k t.1)

worked_then : (formats : List EndKind) (a : ParsedWords Command) (s0 s1 s2 : DeskState) (w : Why) → OnlySays s1 s2 → Worked formats a s0 w s1 → Worked formats a s0 w s2
worked_then formats (words_wrong u) s0 s1 s2 w k t = (t.0, untouched_then s0 s1 s2 k t.1)
worked_then formats (words_right (transform_picture asked)) s0 s1 s2 w k t = transformed_then asked s0 s1 s2 w k t
worked_then formats (words_right (show_picture asked)) s0 s1 s2 w k t = show_then (has_format asked.kind formats) asked s0 s1 s2 w k t
worked_then formats (words_right (encode_image asked)) s0 s1 s2 w k t = encoding_then asked s0 s1 s2 w k t
worked_then formats (words_right (print_comments files)) s0 s1 s2 w k (inl t) = inl (printed_then s0 s1 s2 (name_of files.input) (name_of files.output) w k t)
worked_then formats (words_right (print_comments files)) s0 s1 s2 w k (inr t) = inr (t.0, untouched_then s0 s1 s2 k t.1)
worked_then formats (words_right (insert_comment asked)) s0 s1 s2 w k t = inserted_then s0 s1 s2 (task_of asked) w k t
worked_then formats (words_right (do_work n)) s0 s1 s2 w k t = work_then (has_format Pnm formats) n s0 s1 s2 w k t

said_still : (a : Option (List ℕ)) (b c : Option (List ℕ)) (t : List ℕ) → b ≡ a → Appends b c t → Appends a c t
said_still a b c t e h = let P : Option (List ℕ) → Type 0 = λ m. Appends m c t in subst P e h

says_still : (s0 s1 s2 : DeskState) (text : List ℕ) → s1.said ≡ s0.said → NoneFell s0.counts s1.counts → SaysText s1 text s2 → SaysText s0 text s2
says_still s0 s1 s2 text e f (inl h) = inl (said_still s0.said s1.said s2.said text e h)
says_still s0 s1 s2 text e f (inr h) = inr ((let r = h.0 in let g = f.says in omega arith), (h.1.0, said_still s0.said s1.said s2.said (take h.1.0 text) e h.1.1))

-- the work and then the message
pub ran : (formats : List EndKind) (words : List (List ℕ)) (s0 s1 s2 : DeskState) (code : ℕ) (w : Why) → Works formats words s0 w s1 → OnlySays s1 s2 → SaysText s1 (message (tool_of words) w) s2 → code ≡ status_of w
    → Ran formats words s0 (record { code = code; why = w }) s2
ran formats words s0 s1 s2 code w h k m e = record {
  worked = worked_then formats (command_asked words) s0 s1 s2 w k h.worked;
  said = says_still s0 s1 s2 (message (tool_of words) w) h.kept.said h.kept.stays.counts m;
  code = e;
  stays = record { counts = NoneFell-then s0.counts s1.counts s2.counts h.kept.stays.counts k.stays.counts; files = k.stays.files ∙ h.kept.stays.files };
}
