-- The comments of a file that is fed piece by piece (T.81, B.2.4.5, the manual of rdjpgcom in release 6b).
use Rattle.std.specs.Prelude.{◌≡◌, ◌⊎◌, ℕ, ◌<◌, ◌≤◌, Bool, true, false, List, [], ◌++◌, length, take, Option, Result, Ok, Err, None}
use Rattle.jpg_spec_write.specs.CommentText.{IsReadFault}
use Rattle.jpg_spec.specs.declared.frame.Limits.{Limits}
use Rattle.jpg_base.specs.declared.stop.Fed.{Fed}
use Rattle.jpg_base.specs.declared.stop.Fed.TheVariants as fed
use Rattle.jpg_base.specs.declared.stop.Stop.{Stop}
use Rattle.jpg_base.specs.declared.stop.Stop.TheVariants as stop
use Rattle.jpg_markers.specs.Reading.{reading_of}
use Rattle.jpg_comments.specs.SegmentsSoFar.{Appends}
use Rattle.jpg_comments.specs.Printing.{HasPrinted, PrintsPart, PrintsWhole, StopsPrinting}
use Rattle.jpg_comments.specs.declared.comments.Comments.{Comments}

-- its limits
abbrev pub comments_limits : Comments → Limits
comments_limits c = c.limits

-- how many bytes were taken
abbrev pub comments_taken : Comments → ℕ
comments_taken c = (reading_of c.reader).taken

-- why it stopped, if it did
abbrev pub comments_stop : Comments → Option Stop
comments_stop c = c.stop

-- It has the memory to read any segment: then only the text that is appended takes more.
abbrev pub is_ready : Comments → Bool
is_ready c = c.ready

-- The file is complete: neither `feed` nor `end` may be called any more.
abbrev pub is_done : Comments → Bool
is_done c = c.done

-- The bytes were fed, and the text was appended for them. No prefix of them is complete or has a fault, and more may
-- follow. Before it has its memory, they are none.
abbrev pub HasRead : List ℕ → List ℕ → Comments → Type 0
HasRead bytes text c =
    (c.stop ≡ None) × (c.done ≡ false) × (length bytes < c.limits.input) × HasPrinted c.limits bytes text (reading_of c.reader)
    × (c.ready ≡ false → (bytes ≡ []) × (text ≡ []))

-- THE RESULT of a piece that is fed, by all bytes so far and by the complete text that was appended for them. A fault
-- remains whatever follows. There is no memory to read the first piece, or for the text of a comment.
abbrev pub AfterFeed : List ℕ → List ℕ → List ℕ → Result Fed Stop → Comments → Type 0
AfterFeed bytes piece text (Ok fed.More) c = HasRead (bytes ++ piece) text c
AfterFeed bytes piece text (Ok (fed.Done used)) c = PrintsWhole c.limits (bytes ++ take used piece) text × (1 ≤ used) × (used ≤ length piece)
AfterFeed bytes piece text (Err (stop.Fault f)) c = StopsPrinting c.limits (bytes ++ piece) text (stop.Fault f)
AfterFeed bytes piece text (Err stop.NoMemory) c =
    ((c.ready ≡ false) × (bytes ≡ []) × (text ≡ [])) ⊎ PrintsPart c.limits (bytes ++ piece) text

-- for all bytes that were fed before, and the text that was appended for them
abbrev pub Feeds : Comments → List ℕ → List ℕ → Result Fed Stop → List ℕ → Comments → Type 0
Feeds old piece had answer out new = (bytes text : List ℕ) → HasRead bytes text old → Appends (λ all. AfterFeed bytes piece all answer new) text had out

-- a fault of bytes where the input ends
abbrev pub StopsAt : Limits → List ℕ → Stop → Type 0
StopsAt limits bytes (stop.Fault f) = IsReadFault limits bytes f.fault f.at
StopsAt limits bytes stop.NoMemory = ⊥

-- the word that keeps `done`
abbrev pub EndsDone : Result Fed Stop → Comments → Type 0
EndsDone (Ok fed.More) c = c.done ≡ false
EndsDone (Ok (fed.Done used)) c = c.done ≡ true
EndsDone (Err e) c = c.done ≡ false
