-- Of each command that converts, if nothing failed, the answer is the one that is due.
use Rattle.std.proofs.Common.{◌≡◌, ℕ, List, ◌++◌, Option, inl, inr}
use Rattle.jpg_base.specs.Desk.{DeskState}
use Rattle.jpg_spec.specs.Meaning.{Meaning}
use Rattle.jpg_spec.specs.Segments.{QuantTable}
use Rattle.jpg_spec.specs.declared.fault.FaultAt.{FaultAt}
use Rattle.jpg_spec_image.specs.Images.{Image as Picture}
use Rattle.jpg_spec_words.specs.EncodeWords.{EncodeAsked}
use Rattle.jpg_spec_words.specs.TransformWords.{TransformAsked}
use Rattle.jpg_spec_words.specs.declared.answers.Why.{Why}
use Rattle.jpg_spec_write.specs.ScansAsked.{Scans}
use Rattle.jpg_cli.specs.Certain.{IsOrNoMemory}
use Rattle.jpg_desk.specs.ScriptTaken.{HasScans, HasScansFault, names_before}
use Rattle.jpg_desk.specs.TablesTaken.{HasTables, HasTablesFault, tables_names}
use Rattle.jpg_cli.specs.Due.{IsAnswerDue, IsDueFor, IsDueAfter, IsDueOrNoMemory, IsEncodeDue, IsEncodeDueIn, IsFrontDue, IsShowDue, IsTurnDue, NoneRose, OrNoMemory, TellsFiles}
use Rattle.jpg_cli.specs.Tools.ImageEncoded.{EncodedAsAsked, EncodedBy, encoding_conversion, task_after}
use Rattle.jpg_cli.specs.Tools.FrontShown.{FrontShown, front_conversion}
use Rattle.jpg_cli.specs.Tools.Showing.{Showing, Shown, showing_conversion}
use Rattle.jpg_cli.specs.Tools.Turned.{Transformed, turning_conversion, turning_of}
use Rattle.jpg_cli.proofs.Outcomes.Due.{after_once, converted_due, due_once, due_taken, only_answer}
use Rattle.jpg_desk.proofs.FrontJudged.{front_judged}
use Rattle.jpg_desk.proofs.Judged.{image_judged, picture_judged}
use Rattle.jpg_cli.proofs.Outcomes.TextOnce.{FaultOrNoMemory}
use Rattle.jpg_cli.proofs.Outcomes.TakenOnce.{one_scans, one_tables, scans_fault, scans_or_fault, scans_stop, tables_fault, tables_or_fault, tables_stop}
use Rattle.jpg_desk.specs.ReadPicture.{Coefficients, Image}

-- at the fault of what is taken before
stop_due : (A : Type 0) (Faulty : DeskState → FaultAt → Type 0) (Has : DeskState → A → Type 0) (Next : A → DeskState → Why → Type 0) (s : DeskState) (w : Why) → FaultOrNoMemory Faulty s w → OrNoMemory (IsDueAfter Faulty Has Next) s w
stop_due A Faulty Has Next s w (inl h) = inl (inl h)
stop_due A Faulty Has Next s w (inr e) = inr e

-- JPEGTRAN

abbrev pub due_in : TransformAsked → Scans → DeskState → Why → Type 0
due_in a scans = IsDueFor (turning_conversion (turning_of a scans))

pub answer_due : (a : TransformAsked) (s0 s1 : DeskState) (w : Why) → NoneRose s0.counts s1.counts → Transformed a s0 w s1 → IsAnswerDue a s0 w
answer_due a s0 s1 w n (inl h) = stop_due Scans (HasScansFault a.scans) (HasScans a.scans) (due_in a) s0 w (scans_stop a.scans s0 s1 w n h)
answer_due a s0 s1 w n (inr (inl (scans, has, h))) =
    due_taken Scans (HasScansFault a.scans) (HasScans a.scans) (due_in a) s0 w scans has (converted_due Meaning (turning_conversion (turning_of a scans)) (picture_judged Coefficients) s0 s1 w n h)
answer_due a s0 s1 w n (inr (inr (wanting, same))) = inr wanting

pub turn_answered : (a : TransformAsked) (due w : Why) (s0 s1 : DeskState) → TellsFiles s0 → IsTurnDue a s0 due → NoneRose s0.counts s1.counts → Transformed a s0 w s1 → IsOrNoMemory due w
turn_answered a due w s0 s1 t h n k =
    only_answer (IsTurnDue a) s0 due w
    (λ v is now. after_once Scans (HasScansFault a.scans) (HasScans a.scans) (due_in a) s0 due v (one_scans s0 a.scans t) (scans_fault s0 a.scans t) (scans_or_fault s0 a.scans t)
    (λ scans. due_once Meaning (turning_conversion (turning_of a scans)) (picture_judged Coefficients) s0 due v t) is now)
    h (answer_due a s0 s1 w n k)

-- DJPEG

pub show_due : (s : Showing) (s0 s1 : DeskState) (w : Why) → NoneRose s0.counts s1.counts → Shown s s0 w s1 → IsShowDue s s0 w
show_due s s0 s1 w n h = converted_due Meaning (showing_conversion s) (picture_judged (Image s.gray)) s0 s1 w n h

pub show_answered : (s : Showing) (due w : Why) (s0 s1 : DeskState) → TellsFiles s0 → IsDueFor (showing_conversion s) s0 due → NoneRose s0.counts s1.counts → Shown s s0 w s1 → IsOrNoMemory due w
show_answered s due w s0 s1 t h n k =
    only_answer (IsDueFor (showing_conversion s)) s0 due w (λ v. due_once Meaning (showing_conversion s) (picture_judged (Image s.gray)) s0 due v t) h (show_due s s0 s1 w n k)

-- of a front

pub front_due : (scans : ℕ) (s : Showing) (s0 s1 : DeskState) (w : Why) → NoneRose s0.counts s1.counts → FrontShown scans s s0 w s1 → IsFrontDue scans s s0 w
front_due scans s s0 s1 w n h = converted_due Meaning (front_conversion scans s) (front_judged scans s.gray) s0 s1 w n h

pub front_answered : (scans : ℕ) (s : Showing) (due w : Why) (s0 s1 : DeskState) → TellsFiles s0 → IsDueFor (front_conversion scans s) s0 due → NoneRose s0.counts s1.counts → FrontShown scans s s0 w s1 → IsOrNoMemory due w
front_answered scans s due w s0 s1 t h n k =
    only_answer (IsDueFor (front_conversion scans s)) s0 due w (λ v. due_once Meaning (front_conversion scans s) (front_judged scans s.gray) s0 due v t) h (front_due scans s s0 s1 w n k)

-- CJPEG

abbrev due_by : EncodeAsked → Scans → Option (List QuantTable) → DeskState → Why → Type 0
due_by a scans tables = IsDueFor (encoding_conversion (task_after (names_before a.scans ++ tables_names a.tables) a scans tables))

by_due : (a : EncodeAsked) (scans : Scans) (s0 s1 : DeskState) (w : Why) → NoneRose s0.counts s1.counts → EncodedBy (names_before a.scans) a scans s0 w s1 → OrNoMemory (IsEncodeDueIn a scans) s0 w
by_due a scans s0 s1 w n (inl h) = stop_due (Option (List QuantTable)) (HasTablesFault a.tables) (HasTables a.tables) (due_by a scans) s0 w (tables_stop (names_before a.scans) a.tables s0 s1 w n h)
by_due a scans s0 s1 w n (inr (tables, has, h)) =
    due_taken (Option (List QuantTable)) (HasTablesFault a.tables) (HasTables a.tables) (due_by a scans) s0 w tables has
    (converted_due Picture (encoding_conversion (task_after (names_before a.scans ++ tables_names a.tables) a scans tables)) (image_judged a.targa) s0 s1 w n h)

pub encode_due : (a : EncodeAsked) (s0 s1 : DeskState) (w : Why) → NoneRose s0.counts s1.counts → EncodedAsAsked a s0 w s1 → IsDueOrNoMemory a s0 w
encode_due a s0 s1 w n (inl h) = stop_due Scans (HasScansFault a.scans) (HasScans a.scans) (IsEncodeDueIn a) s0 w (scans_stop a.scans s0 s1 w n h)
encode_due a s0 s1 w n (inr (inl (scans, has, h))) = due_taken Scans (HasScansFault a.scans) (HasScans a.scans) (IsEncodeDueIn a) s0 w scans has (by_due a scans s0 s1 w n h)
encode_due a s0 s1 w n (inr (inr (wanting, same))) = inr wanting

in_once : (a : EncodeAsked) (s : DeskState) (v w : Why) (scans : Scans) → TellsFiles s → IsEncodeDueIn a scans s v → IsEncodeDueIn a scans s w → w ≡ v
in_once a s v w scans t h k =
    after_once (Option (List QuantTable)) (HasTablesFault a.tables) (HasTables a.tables) (due_by a scans) s v w (one_tables s a.tables t) (tables_fault s a.tables t) (tables_or_fault s a.tables t)
    (λ tables. due_once Picture (encoding_conversion (task_after (names_before a.scans ++ tables_names a.tables) a scans tables)) (image_judged a.targa) s v w t) h k

pub encode_answered : (a : EncodeAsked) (due w : Why) (s0 s1 : DeskState) → TellsFiles s0 → IsEncodeDue a s0 due → NoneRose s0.counts s1.counts → EncodedAsAsked a s0 w s1 → IsOrNoMemory due w
encode_answered a due w s0 s1 t h n k =
    only_answer (IsEncodeDue a) s0 due w
    (λ v is now. after_once Scans (HasScansFault a.scans) (HasScans a.scans) (IsEncodeDueIn a) s0 due v (one_scans s0 a.scans t) (scans_fault s0 a.scans t) (scans_or_fault s0 a.scans t)
    (λ scans. in_once a s0 due v scans t) is now)
    h (encode_due a s0 s1 w n k)
