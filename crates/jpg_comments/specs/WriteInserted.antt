-- A file that is fed piece by piece and written with one more comment (T.81, B.2.4.5, the manual of wrjpgcom in release
-- 6b).
use Rattle.std.specs.Prelude.{◌≡◌, ℕ, ◌<◌, ◌≤◌, Bool, List, [], ◌++◌, length, Option, Some, None, Result, Ok, Err, ◌+◌}
use Rattle.std.specs.Option.{unwrap_or}
use Rattle.jpg_spec_write.specs.CommentText.{IsHeadFault, IsInserted, comment_segment, longest_comment}
use Rattle.jpg_spec.specs.declared.fault.Fault.TheVariants.{CommentTooLong}
use Rattle.jpg_spec.specs.declared.frame.Limits.{Limits}
use Rattle.jpg_base.specs.declared.stop.Fed.{Fed}
use Rattle.jpg_base.specs.declared.stop.Fed.TheVariants as fed
use Rattle.jpg_base.specs.declared.stop.Stop.{Stop}
use Rattle.jpg_base.specs.declared.stop.Stop.TheVariants as stop
use Rattle.jpg_markers.specs.Reading.{Reading, reading_of}
use Rattle.jpg_comments.specs.SegmentsSoFar.{Appends}
use Rattle.jpg_comments.specs.Inserting.{HasKept, InsertsUpTo}
use Rattle.jpg_comments.specs.declared.insert.Insert.{Insert}

-- its limits
abbrev pub insert_limits : Insert → Limits
insert_limits c = c.limits

-- whether the comment replaces those before the frame header
abbrev pub is_replacing : Insert → Bool
is_replacing c = c.replace

-- how many bytes were taken
abbrev pub insert_taken : Insert → ℕ
insert_taken c = unwrap_or c.taken (reading_of c.reader).taken

-- why it stopped, if it did
abbrev pub insert_stop : Insert → Option Stop
insert_stop c = c.stop

-- Before the frame header's marker the head is kept, and nothing is written; after it all bytes are written as they
-- are.
abbrev pub StandsAt : Limits → List ℕ → Bool → List ℕ → List ℕ → Option ℕ → List ℕ → Reading → Type 0
StandsAt limits comment replace bytes text None head r = HasKept limits replace bytes head r × (text ≡ [])
StandsAt limits comment replace bytes text (Some taken) head r = (taken ≡ length bytes) × IsInserted limits bytes comment replace text

-- The bytes were fed, and the text was written for them, with this comment inserted. They have no fault before the
-- frame header, and more may follow.
abbrev pub HasInserted : List ℕ → List ℕ → List ℕ → Insert → Type 0
HasInserted comment bytes text c =
    (c.stop ≡ None) × (length bytes < c.limits.input) × (c.segment ≡ comment_segment comment)
    × StandsAt c.limits comment c.replace bytes text c.taken c.head (reading_of c.reader)

-- A comment has at most 65,000 bytes.
abbrev pub IsNewInsert : Limits → List ℕ → Bool → Result Insert Stop → Type 0
IsNewInsert limits comment replace (Ok c) = (length comment ≤ longest_comment) × HasInserted comment [] [] c × (c.limits ≡ limits) × (c.replace ≡ replace)
IsNewInsert limits comment replace (Err (stop.Fault f)) = (f.fault ≡ CommentTooLong) × (f.at ≡ longest_comment + 1) × (longest_comment < length comment)
IsNewInsert limits comment replace (Err stop.NoMemory) = length comment ≤ longest_comment

-- THE RESULTS, by all bytes so far and by the complete text that was written for them

abbrev pub AfterTake : List ℕ → List ℕ → List ℕ → List ℕ → Result (Unit {0}) Stop → Insert → Type 0
AfterTake comment bytes piece text (Ok u) c = HasInserted comment (bytes ++ piece) text c
AfterTake comment bytes piece text (Err s) c = InsertsUpTo c.limits comment c.replace bytes piece text s

-- to a piece
abbrev pub AfterInsert : List ℕ → List ℕ → List ℕ → List ℕ → Result Fed Stop → Insert → Type 0
AfterInsert comment bytes piece text (Ok fed.More) c = HasInserted comment (bytes ++ piece) text c
AfterInsert comment bytes piece text (Ok (fed.Done used)) c = ⊥
AfterInsert comment bytes piece text (Err s) c = InsertsUpTo c.limits comment c.replace bytes piece text s

-- at the end: the complete file with the comment, or a fault before the frame header's marker
abbrev pub EndsInsert : Limits → List ℕ → Bool → List ℕ → List ℕ → Result (Unit {0}) Stop → Type 0
EndsInsert limits comment replace bytes text (Ok u) = IsInserted limits bytes comment replace text × (length bytes < limits.input)
EndsInsert limits comment replace bytes text (Err (stop.Fault f)) = IsHeadFault limits bytes f.fault f.at × (text ≡ [])
EndsInsert limits comment replace bytes text (Err stop.NoMemory) = ⊥

-- FOR ALL BYTES that were fed before, with any comment, and the text that was written for them

abbrev pub TakesBytes : Insert → List ℕ → List ℕ → Result (Unit {0}) Stop → List ℕ → Insert → Type 0
TakesBytes old piece had answer out new =
    (comment bytes text : List ℕ) → HasInserted comment bytes text old → Appends (λ all. AfterTake comment bytes piece all answer new) text had out

abbrev pub Inserts : Insert → List ℕ → List ℕ → Result Fed Stop → List ℕ → Insert → Type 0
Inserts old piece had answer out new =
    (comment bytes text : List ℕ) → HasInserted comment bytes text old → Appends (λ all. AfterInsert comment bytes piece all answer new) text had out

abbrev pub EndsText : Insert → Result (Unit {0}) Stop → Type 0
EndsText old answer = (comment bytes text : List ℕ) → HasInserted comment bytes text old → EndsInsert old.limits comment old.replace bytes text answer
