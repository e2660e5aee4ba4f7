-- The file of a transformed picture means it, in any scans without a fault.
use Rattle.std.proofs.Common.{◌≡◌, Bool, true, false, refl, sym, ◌∙◌, None}
use Rattle.jpg_spec.specs.Geometry.{is_progressive}
use Rattle.jpg_spec.specs.Meaning.{Meaning, colour_of}
use Rattle.jpg_spec.specs.FileMeaning.{Means}
use Rattle.jpg_spec_write.specs.FileText.{frame_of_meaning}
use Rattle.jpg_spec_write.specs.Laws.{AreOwn}
use Rattle.jpg_spec_move.specs.Cropped.{cropped_by}
use Rattle.jpg_spec_move.specs.Moved.{Choice, moved, moved_script, moved_script_fault, moved_text, uncropped}
use Rattle.jpg_spec_write.specs.ScansAsked.{asks_progressive, process_due}
use Rattle.jpg_spec.specs.Segments.{standard_limits}
use Rattle.jpg_spec_write.specs.WrittenFile.{IsHeaded, IsRestart}
use Rattle.jpg_spec_write.proofs.MovedText.{headed_frame, has_standard, own_by, same_kind, does_pass_as, passes_by, means_by}
use Rattle.jpg_spec_write.proofs.FrameCodes.{either_sequential}

pub own_fault : (choice : Choice) (M : Meaning) → IsHeaded standard_limits (moved choice M) → AreOwn choice.scans → moved_script_fault choice M ≡ None
own_fault choice M headed own =
    let H = moved choice M in
    own_by choice.scans (frame_of_meaning H) (colour_of H) (headed_frame H headed) (has_standard H headed) own

-- THE SCRIPT IS OF THE FILE'S KIND

moved_kind : (choice : Choice) (M : Meaning) → is_progressive (moved choice M).process ≡ asks_progressive choice.scans
moved_kind choice M = by (asks_progressive choice.scans)
  where
    N : Meaning
    N = cropped_by choice.crop (uncropped choice M)

    by : (b : Bool) → is_progressive (process_due b N) ≡ b
    by true = refl
    by false = either_sequential _

pub moved_passes : (choice : Choice) (M : Meaning) → IsHeaded standard_limits (moved choice M) → moved_script_fault choice M ≡ None → does_pass_as (is_progressive (moved choice M).process) (moved choice M) (moved_script choice M) ≡ true
moved_passes choice M headed none =
    let H = moved choice M in
    let f = frame_of_meaning H in
    let kind = same_kind choice.scans f (colour_of H) (headed_frame H headed) (has_standard H headed) ∙ sym (moved_kind choice M) in
    passes_by H (moved_script choice M) (is_progressive H.process) (headed_frame H headed).count_high refl kind none

pub moved_means : (choice : Choice) (M : Meaning) → IsHeaded standard_limits (moved choice M) → moved_script_fault choice M ≡ None → IsRestart choice.restart → Means standard_limits (moved_text choice M) (moved choice M)
moved_means choice M headed none small =
    means_by choice.huffman (moved choice M) (moved_script choice M) choice.restart (is_progressive (moved choice M).process) refl headed (moved_passes choice M headed none) small
