-- The file of a transformed picture means it, in any scans without a fault.
use Rattle.std.proofs.Common.{◌≡◌, ◌≤◌, Bool, true, false, cond, List, [], length, refl, arith, None}
use Rattle.jpg_spec.specs.Geometry.{Frame, is_progressive}
use Rattle.jpg_spec.specs.FrameHeader.{IsFrame}
use Rattle.jpg_spec.specs.Meaning.{Meaning, colour_of}
use Rattle.jpg_spec.specs.FileMeaning.{Means}
use Rattle.jpg_spec_write.specs.declared.huffman.Huffman.{Huffman}
use Rattle.jpg_spec_write.specs.FileText.{Restart, file_text, frame_of_meaning}
use Rattle.jpg_spec_write.specs.Laws.{AreOwn}
use Rattle.jpg_spec_write.specs.ScansAsked.{Scans, sequential, standard, given, asks_progressive, script_due}
use Rattle.jpg_spec_write.specs.Script.{Entry, is_progressive_script}
use Rattle.jpg_spec_write.specs.ScriptFaults.{script_fault}
use Rattle.jpg_spec_write.specs.ScriptLaws.{HasStandardScript}
use Rattle.jpg_spec.specs.Segments.{standard_limits}
use Rattle.jpg_spec_write.specs.WrittenFile.{IsHeaded, IsRestart, is_progressive_after, is_script_after}
use Rattle.jpg_spec.specs.declared.frame.Colour.{Colour}
use Rattle.jpg_spec_write.proofs.FaultlessScripts.{sequential_without_fault, progressive_without_fault}
use Rattle.jpg_spec_write.proofs.FileLength.{sequential_short}
use Rattle.jpg_spec_write.proofs.ProgressiveFile.{progressive_means}
use Rattle.jpg_spec_write.proofs.ProgressiveLength.{progressive_short}
use Rattle.jpg_spec_write.proofs.StandardScripts.{meaning_has, sequential_has_none, standard_begins, standard_passes}
use Rattle.jpg_spec.proofs.Writing.WrittenFront.{frame_is, standard_are_limits}
use Rattle.jpg_spec_write.proofs.WrittenMeans.{count_is, sequential_means}

-- THE FRAME of what is written

pub headed_frame : (H : Meaning) → IsHeaded standard_limits H → IsFrame (frame_of_meaning H)
headed_frame H headed = frame_is standard_limits (frame_of_meaning H) (frame_of_meaning H) standard_are_limits headed.frame

pub has_standard : (H : Meaning) → IsHeaded standard_limits H → HasStandardScript (frame_of_meaning H) (colour_of H)
has_standard H headed =
    let is = headed_frame H headed in
    let count = count_is H in
    meaning_has H (record { some = (let low = is.count_low in omega (arith, low, count)); few = (let high = is.count_high in omega (arith, high, count)) })

-- THE DEFAULT SCANS have no fault

pub own_by : (s : Scans) (f : Frame) (colour : Colour) → IsFrame f → HasStandardScript f colour → AreOwn s → script_fault f (script_due s f colour) ≡ None
own_by sequential f colour is has own = (sequential_has_none f is).faultless
own_by standard f colour is has own = standard_passes f colour has
own_by (given script) f colour is has own = absurd own

pub same_kind : (s : Scans) (f : Frame) (colour : Colour) → IsFrame f → HasStandardScript f colour → is_progressive_script (script_due s f colour) ≡ asks_progressive s
same_kind sequential f colour is has = (sequential_has_none f is).sequential
same_kind standard f colour is has = standard_begins f colour has
same_kind (given script) f colour is has = refl

-- the checks that it passes then
abbrev pub does_pass_as : Bool → Meaning → List Entry → Bool
does_pass_as is_prog H script = cond is_prog (is_progressive_after H [] script) (is_script_after (frame_of_meaning H) [] script)

pub passes_by : (H : Meaning) (script : List Entry) (b : Bool) → length (frame_of_meaning H).components ≤ 4 → is_progressive H.process ≡ b → is_progressive_script script ≡ b → script_fault (frame_of_meaning H) script ≡ None
    → does_pass_as b H script ≡ true
passes_by H script true few process kind none = progressive_without_fault H script (record { few = few; process = process; progressive = kind; faultless = none })
passes_by H script false few process kind none = sequential_without_fault (frame_of_meaning H) script (record { few = few; sequential = kind; faultless = none })

-- WHAT IS WRITTEN means the transformed picture

pub means_by : (huffman : Huffman) (H : Meaning) (script : List Entry) (restart : Restart) (b : Bool) → is_progressive H.process ≡ b → IsHeaded standard_limits H → does_pass_as b H script ≡ true → IsRestart restart
    → Means standard_limits (file_text huffman H script restart) H
means_by huffman H script restart true process headed passes small =
    let short = progressive_short huffman standard_limits H script restart standard_are_limits headed process passes small in
    progressive_means huffman standard_limits H script restart standard_are_limits headed process passes small (omega (arith, short))
means_by huffman H script restart false process headed passes small =
    let short = sequential_short huffman standard_limits H script restart standard_are_limits headed process passes in
    sequential_means huffman standard_limits H script restart standard_are_limits headed process passes small (omega (arith, short))
