-- WHAT THE CALLERS PROMISE about a file that they have in memory.
use Rattle.std.specs.Prelude.{◌≡◌, ◌⊎◌, ℕ, List, [], ◌∷◌, length, take, Result, Ok, Err, Some}
use Rattle.jpg_spec_write.specs.CommentText.{IsReadFault}
use Rattle.jpg_spec.specs.Early.{MeansEarly}
use Rattle.jpg_spec.specs.UnfinishedFile.{IsWholeFile}
use Rattle.jpg_spec.specs.Meaning.{Meaning}
use Rattle.jpg_spec_move.specs.Moved.{Choice, moved, moved_text, picture_fault}
use Rattle.jpg_spec.specs.Segments.{standard_limits}
use Rattle.jpg_base.specs.Memory.{memory_outputs}
use Rattle.jpg_base.specs.declared.memory.MemoryDesk.{MemoryDesk}
use Rattle.jpg_base.specs.declared.names.Name.TheVariants.{Out}
use Rattle.jpg_base.specs.declared.stop.Stop.{Stop}
use Rattle.jpg_base.specs.declared.stop.Stop.TheVariants as stop
use Rattle.jpg_comments.specs.Printing.{PrintsWhole}
use Rattle.jpg_coefs.specs.Picture.{Picture as Coefs, map_of}
use Rattle.jpg_file.specs.Read.PictureRead.{picture_meaning}
use Rattle.jpg_file.specs.Read.ReadFile.{IsRefusal}
use Rattle.jpg_file.specs.declared.read.picture.Picture.{Picture}
use Rattle.jpg_transform.specs.Places.{IsSeenAs}
use Rattle.example_callers.specs.declared.pictures.NotTurned.{NotTurned}
use Rattle.example_callers.specs.declared.pictures.NotTurned.TheVariants as unturned

-- the text of the comments of a prefix that is complete, or the file's fault
abbrev pub IsCommentsOf : List ℕ → Result (List ℕ) Stop → Type 0
IsCommentsOf file (Ok text) = (n : ℕ) × PrintsWhole standard_limits (take n file) text
IsCommentsOf file (Err (stop.Fault f)) = IsReadFault standard_limits file f.fault f.at
IsCommentsOf file (Err stop.NoMemory) = Unit {0}

-- This many first bytes of the file are complete and mean this picture, or all of them end early and mean it.
abbrev pub IsReadAs : List ℕ → ℕ → Meaning → Type 0
IsReadAs file n M = IsWholeFile standard_limits (take n file) M ⊎ (MeansEarly standard_limits file M × (n ≡ length file))

abbrev pub BeginsWith : List ℕ → Meaning → Type 0
BeginsWith file M = (n : ℕ) × IsReadAs file n M

-- the picture that it means, or what the file is refused with
abbrev pub IsPictureOf : List ℕ → Result Picture Stop → Type 0
IsPictureOf file (Ok p) = BeginsWith file (picture_meaning p)
IsPictureOf file (Err (stop.Fault f)) = IsRefusal standard_limits file f
IsPictureOf file (Err stop.NoMemory) = Unit {0}

-- the desk has one output, which has the text of the transformed picture
abbrev pub HoldsTurned : Choice → Meaning → Result MemoryDesk NotTurned → Type 0
HoldsTurned choice M (Ok desk) = memory_outputs desk ≡ (Out, moved_text choice M) ∷ []
HoldsTurned choice M (Err (unturned.Picture fault)) = ⊥
HoldsTurned choice M (Err (unturned.Stop (stop.Fault f))) = ⊥
HoldsTurned choice M (Err (unturned.Stop stop.NoMemory)) = Unit {0}

-- why there is nothing: the file is refused, or it means a picture with a fault
abbrev pub IsNotTurned : List ℕ → Choice → NotTurned → Type 0
IsNotTurned file choice (unturned.Picture fault) = (M : Meaning) × BeginsWith file M × (picture_fault choice M ≡ Some fault)
IsNotTurned file choice (unturned.Stop (stop.Fault f)) = IsRefusal standard_limits file f
IsNotTurned file choice (unturned.Stop stop.NoMemory) = Unit {0}

abbrev pub IsTurned : List ℕ → Choice → Result MemoryDesk NotTurned → Type 0
IsTurned file choice (Ok desk) = (M : Meaning) × BeginsWith file M × (memory_outputs desk ≡ (Out, moved_text choice M) ∷ [])
IsTurned file choice (Err why) = IsNotTurned file choice why

abbrev pub IsTurnedCoefs : List ℕ → Choice → Result Coefs NotTurned → Type 0
IsTurnedCoefs file choice (Ok coefs) = (M : Meaning) × BeginsWith file M × IsSeenAs (moved choice M) coefs.frame (map_of coefs)
IsTurnedCoefs file choice (Err why) = IsNotTurned file choice why
