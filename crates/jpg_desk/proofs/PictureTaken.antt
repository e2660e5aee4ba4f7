-- What reading pieces of a picture's file does, over the states of a desk.
use Rattle.std.proofs.Common.{◌≡◌, ℕ, Bool, true, false, List, [], ◌∷◌, take, Option, Some, None, Result, Ok, Err, refl, ◌∙◌, subst, arith}
use Rattle.jpg_base.specs.declared.names.Name.{Name}
use Rattle.jpg_base.specs.declared.names.Put.TheVariants as put
use Rattle.jpg_base.specs.Desk.{DeskState, Opens}
use Rattle.jpg_spec.specs.Segments.{standard_limits}
use Rattle.jpg_spec.specs.UnfinishedFile.{IsWholeFile}
use Rattle.jpg_spec.specs.Early.{MeansEarly}
use Rattle.jpg_spec.specs.InForce.{frame_of}
use Rattle.jpg_spec.specs.Meaning.{Meaning}
use Rattle.jpg_spec.specs.FileMeaning.{meaning_of}
use Rattle.jpg_spec_words.specs.declared.answers.Why.{Why}
use Rattle.jpg_spec_words.specs.declared.answers.Why.TheVariants as why
use Rattle.jpg_spec_words.specs.declared.answers.Which.TheVariants as which
use Rattle.jpg_spec.specs.declared.frame.Copying.{Copying}
use Rattle.jpg_spec.specs.declared.frame.Limits.{Limits}
use Rattle.jpg_file.specs.Read.File.{keeping_of}
use Rattle.jpg_file.specs.Read.PictureRead.{MeansFor, TakesEarly, TakesPicture}
use Rattle.jpg_file.specs.Read.ReadFile.{HasRead, ReaderState, IsPlain}
use Rattle.jpg_file.specs.declared.read.picture.Picture.{Picture}
use Rattle.jpg_desk.specs.Endings.{Stopped}
use Rattle.jpg_desk.specs.Reading.{rest_of}
use Rattle.jpg_desk.specs.Judging.{IsAllRead, Judging, NoValueRead, NoValueTaken, ReadsFrom, TakesPieces}
use Rattle.jpg_desk.specs.Pump.{AfterInput, AfterTaking, IsFed, Pumps, ReadsInput, of_reader}
use Rattle.jpg_desk.specs.ReadPicture.{AfterPictureEnd, AfterTakingPiece, EndDone, EndsMeaning, EndsReading, HoldsPicture, HoldsEarly, HoldsFile, IsEarlyRead, IsWholeRead, MeaningRead, StepDone, Wanted, picture_reader, Coefficients}
use Rattle.jpg_desk.specs.Stays.{OnlyReads}
use Rattle.jpg_desk.proofs.Pumped.{all_read, fed_none}
use Rattle.jpg_desk.proofs.Input.{file_read, noted}
use Rattle.jpg_desk.proofs.PictureBytes.{fed_none as none_fed, open_so_far}

-- A PIECE of the input, and its end

pub picture_piece : (from r : ReaderState) (bytes : List ℕ) (answer : Result Bool Why) → r.limits ≡ standard_limits → keeping_of r.file ≡ keeping_of from.file → IsPlain r → StepDone answer r → AfterTakingPiece Coefficients bytes answer r
    → AfterTaking picture_reader from bytes answer r
picture_piece from r bytes (Ok false) e k p d h = (record { fed = h; limits = e; keeping = k; plain = p }, h.short)
picture_piece from r bytes (Ok true) e k p d h = λ rest. record { done = d; limits = e; keeping = k; plain = p; holds = h }
picture_piece from r bytes (Err (why.Refused f)) e k p d h = h
picture_piece from r bytes (Err why.NoMemory) e k p d h = h
picture_piece from r bytes (Err other) e k p d h = absurd h

pub picture_end : (from r : ReaderState) (bytes : List ℕ) (answer : Result (Option ℕ) Why) → r.limits ≡ standard_limits → keeping_of r.file ≡ keeping_of from.file → IsPlain r → EndDone answer r → AfterPictureEnd Coefficients bytes answer r → AfterInput picture_reader from bytes answer r
picture_end from r bytes (Ok (Some n)) e k p d h = record { done = d; limits = e; keeping = k; plain = p; holds = h }
picture_end from r bytes (Ok None) e k p d h = absurd h
picture_end from r bytes (Err (why.Refused f)) e k p d h = h
picture_end from r bytes (Err other) e k p d h = absurd h

-- ALL OF IT

pub picture_fed : (r : ReaderState) (s : DeskState) → HasRead [] r → r.limits ≡ standard_limits → IsPlain r → IsFed ReaderState (of_reader picture_reader) (r, s) [] (r, s)
picture_fed r s h e p = fed_none ReaderState Meaning picture_reader r s (record { fed = none_fed Coefficients r e h; limits = e; keeping = refl; plain = p })

pub picture_pumped : (r : ReaderState) (s : DeskState) (answer : Result (Option ℕ) Why) (now : ReaderState × DeskState) → HasRead [] r → r.limits ≡ standard_limits → IsPlain r → Pumps (of_reader picture_reader) 0 (r, s) answer now
    → ReadsInput ReaderState Meaning picture_reader (r, s) answer now
picture_pumped r s answer now h e p ends =
    all_read ReaderState Meaning picture_reader (r, s) now answer (λ bytes f short. open_so_far Coefficients bytes now.0 f.limits f.fed) (ends (r, s) [] refl (picture_fed r s h e p))

-- THE PICTURE of the reader's file

-- the bytes are the complete file that the reader has
pub file_taken : (w : Wanted) (bytes : List ℕ) (r : ReaderState) → r.limits ≡ standard_limits → (h : HoldsFile w r bytes) → IsWholeRead w h.done.meaning bytes
file_taken w bytes r e h = record {
  count = h.count;
  within = h.within;
  last = h.last;
  small = h.small;
  whole = subst (λ (l : Limits). IsWholeFile l (take h.count bytes) h.done.meaning) e h.done.whole;
  wanted = h.wanted;
}

-- what a file that ended early means, as the reader has it
abbrev pub early_meaning : {w : Wanted} {r : ReaderState} {n : ℕ} {bytes : List ℕ} → HoldsEarly w r n bytes → Meaning
early_meaning {r} h = (let k = h.ended in meaning_of (frame_of r.limits k.segments) k.segments k.blocks)

pub early_taken : (w : Wanted) (bytes : List ℕ) (n : ℕ) (r : ReaderState) → r.limits ≡ standard_limits → (h : HoldsEarly w r n bytes) → IsEarlyRead w (early_meaning h) n bytes
early_taken w bytes n r e h =
    let M = early_meaning h in record { early = subst (λ (l : Limits). MeansEarly l bytes M) e h.ended.early; count = h.count; small = h.small; wanted = h.wanted }

pub picture_taken : (w : Wanted) (keeping : Copying) (s0 s1 : DeskState) (r : ReaderState) (p : Picture) (early : Option ℕ) → r.limits ≡ standard_limits → keeping_of r.file ≡ keeping → TakesPicture r p → TakesEarly r p
    → TakesPieces (HoldsPicture w r early) s0 s1 → IsAllRead early s1 → EndsReading w keeping s0 (Ok (p, early)) s1
picture_taken w keeping s0 s1 r p None e same whole cut (bytes, read, most, h) all =
    ((h.done.meaning, subst (λ (k : Copying). MeansFor k p h.done.meaning) same (whole (take h.count bytes) h.done), (bytes, read, most, file_taken w bytes r e h)), all)
picture_taken w keeping s0 s1 r p (Some n) e same whole cut (bytes, read, most, h) all =
    ((early_meaning h, subst (λ (k : Copying). MeansFor k p (early_meaning h)) same (cut bytes h.ended), (bytes, read, most, early_taken w bytes n r e h)), all)

-- FROM THE NAME

pub reads_from : (s0 s1 s2 : DeskState) (file : Name) (Is : List ℕ → Type 0) → Opens s0 file put.Done s1 → TakesPieces Is s1 s2 → ReadsFrom (Some file) Is s0 s2
reads_from s0 s1 s2 file Is h (bytes, read, most, is) = record { bytes = bytes; read = file_read s0.files file s1.left s2.left bytes h.after.2 read; most = most; is = is }

pub stopped_there : (s0 s1 s2 : DeskState) (file : Name) → Opens s0 file put.Done s1 → OnlyReads s1 s2 → Stopped (file ∷ []) put.Done s0 s2
stopped_there s0 s1 s2 file h k = record { asked = noted s0 s1 s2 file h k; outputs = k.outputs ∙ h.outputs }

pub none_taken : (V : Type 0) (j : Judging V) (s0 s1 s2 : DeskState) (file : Name) (ended : Why) → Opens s0 file put.Done s1 → OnlyReads s1 s2 → NoValueTaken j s1 ended s2 → NoValueRead j file s0 ended s2
none_taken V j s0 s1 s2 file (why.Refused f) h k e = (stopped_there s0 s1 s2 file h k, reads_from s0 s1 s2 file (j.refused f (rest_of s2.left)) h e)
none_taken V j s0 s1 s2 file (why.ReadFault which.Input) h k e = (
  record { stopped = stopped_there s0 s1 s2 file h k; reads = (let r = e.1 in let f = h.counts.reads in omega arith) },
  reads_from s0 s1 s2 file j.unfinished h e.0,
)
none_taken V j s0 s1 s2 file why.NoMemory h k e = (stopped_there s0 s1 s2 file h k, reads_from s0 s1 s2 file j.short h e)
none_taken V j s0 s1 s2 file other h k e = absurd e

pub meaning_read : (j : Judging Meaning) (keeping : Copying) (s0 s1 s2 : DeskState) (file : Name) (answer : Result (Picture × Option ℕ) Why) → Opens s0 file put.Done s1 → OnlyReads s1 s2 → EndsMeaning j keeping s1 answer s2 → MeaningRead j keeping file s0 answer s2
meaning_read j keeping s0 s1 s2 file (Ok found) h k ((M, means, e), all) = (noted s0 s1 s2 file h k, (M, means, reads_from s0 s1 s2 file (j.has M found.1 (rest_of s2.left)) h e), all)
meaning_read j keeping s0 s1 s2 file (Err ended) h k e = none_taken Meaning j s0 s1 s2 file ended h k e
