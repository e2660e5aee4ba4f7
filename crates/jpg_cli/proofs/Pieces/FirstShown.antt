-- An input that ends before a scan of all components, or is complete without one, over the states of a desk.
use Rattle.std.proofs.Common.{◌≡◌, ℕ, ◌≤◌, List, [], length, take, ap, ◌∙◌, subst, arith, inl, Option, None, Some}
use Rattle.std.specs.Io.KnownBytes.{Consumes}
use Rattle.jpg_base.specs.declared.names.Name.{Name}
use Rattle.jpg_base.specs.declared.names.Put.TheVariants as put
use Rattle.jpg_base.specs.Desk.{DeskState, Opens, Rose}
use Rattle.jpg_spec_image.specs.ImageText.{end_text}
use Rattle.jpg_spec.specs.Meaning.{Meaning}
use Rattle.jpg_spec_image.specs.Pixels.{info, out_fault, pixels}
use Rattle.jpg_spec.specs.Segments.{standard_limits}
use Rattle.jpg_spec.specs.declared.fault.FaultAt.{FaultAt}
use Rattle.jpg_spec_words.specs.declared.answers.Why.{Why}
use Rattle.jpg_spec_words.specs.declared.answers.Why.TheVariants as why
use Rattle.jpg_spec_words.specs.declared.answers.Which.TheVariants as which
use Rattle.jpg_file.specs.Read.File.{keeping_of}
use Rattle.jpg_file.specs.Read.PictureRead.{MeansFor, TakesEarly, TakesPicture, picture_meaning}
use Rattle.jpg_file.specs.Read.ReadFile.{ReaderState}
use Rattle.jpg_desk.proofs.KeepingLaws.{out_same}
use Rattle.jpg_file.specs.Read.Strips.{HasNoRows}
use Rattle.jpg_file.specs.declared.read.picture.Picture.{Picture}
use Rattle.jpg_desk.specs.Reading.{rest_of}
use Rattle.jpg_desk.specs.Judging.{IsAllRead, ReadsFrom, TakesPieces}
use Rattle.jpg_desk.specs.ReadPicture.{IsOpenRead, IsReadPicture, IsRefusedRead, IsShortRead, unwanted_for, Wanted, Image}
use Rattle.jpg_cli.specs.Outcome.{all_bytes, bytes_before}
use Rattle.jpg_cli.specs.Tools.Showing.{AfterImage, IsPlain, IsShownByRows, Shown, Showing, shown_text}
use Rattle.jpg_cli.specs.Tools.ShowingRows.{HasOpened, HoldsEarlyPlainly, HoldsPlainly}
use Rattle.jpg_desk.specs.Stays.{Keeps, OnlyReads}
use Rattle.jpg_desk.proofs.PiecesRead.{works_then}
use Rattle.jpg_cli.proofs.ByRow.ImageShown.{shown_written, text_shown}
use Rattle.jpg_desk.proofs.Input.{file_read, noted}
use Rattle.jpg_desk.proofs.PictureTaken.{early_meaning, early_taken, file_taken, reads_from, stopped_there}

-- IT ENDS

module _ {s : Showing} {old start : DeskState} {all : List ℕ} {now : DeskState} (h : HasOpened s old start all now) (most : length all ≤ standard_limits.input) where
  pub plain_refused : (f : FaultAt) → IsRefusedRead (Image s.gray) f (rest_of now.left) all → (IsShownByRows s.gray (take f.at all) → ⊥) → Shown s old (why.Refused f) now
  plain_refused f refused plain =
      inl (stopped_there old start now s.input h.opened h.reads, reads_from old start now s.input (IsPlain s.gray (bytes_before f) (IsRefusedRead (Image s.gray) f (rest_of now.left))) h.opened (all, h.left, most, (refused, plain)))

  pub plain_unread : IsOpenRead (Image s.gray) all → (IsShownByRows s.gray all → ⊥) → Rose start.counts.reads now.counts.reads → Shown s old (why.ReadFault which.Input) now
  plain_unread is plain rose = (
    (let f = h.opened.counts.reads in omega (arith, rose, f)),
    inl (stopped_there old start now s.input h.opened h.reads, reads_from old start now s.input (IsPlain s.gray all_bytes (IsOpenRead (Image s.gray))) h.opened (all, h.left, most, (is, plain))),
  )

  pub plain_short : IsShortRead (Image s.gray) all → Shown s old why.NoMemory now
  plain_short is = inl (stopped_there old start now s.input h.opened h.reads, reads_from old start now s.input (IsShortRead (Image s.gray)) h.opened (all, h.left, most, is))

-- IT IS COMPLETE

-- the picture that was taken of it means what the file means, except for markers that weren't kept
pub record IsTaken (s : Showing) (early : Option ℕ) (start now : DeskState) (r : ReaderState) (p : Picture) : Type 0 where
  pub meaning : Meaning
  pub means : MeansFor (keeping_of r.file) p meaning
  pub bytes : List ℕ
  pub read : Consumes start.left now.left bytes
  pub most : length bytes ≤ standard_limits.input
  pub is : IsReadPicture (Image s.gray) meaning early bytes
  pub all : IsAllRead early now
  pub plain : HasNoRows standard_limits bytes

pub whole_taken : (s : Showing) (start now : DeskState) (r : ReaderState) (p : Picture) → r.limits ≡ standard_limits → TakesPicture r p → TakesPieces (HoldsPlainly s.gray r) start now → IsTaken s None start now r p
whole_taken s start now r p e takes (bytes, read, most, h) =
    let done = (h.holds).done in
    record {
      meaning = done.meaning;
      means = takes (take (h.holds).count bytes) done;
      bytes = bytes;
      read = read;
      most = most;
      is = file_taken (Image s.gray) bytes r e h.holds;
      all = tt;
      plain = h.plain;
    }

-- and so does what was taken of one that ended early
pub cut_taken : (s : Showing) (n : ℕ) (start now : DeskState) (r : ReaderState) (p : Picture) → r.limits ≡ standard_limits → TakesEarly r p → TakesPieces (HoldsEarlyPlainly s.gray r n) start now → rest_of now.left ≡ [] → IsTaken s (Some n) start now r p
cut_taken s n start now r p e takes (bytes, read, most, h) all = record {
  meaning = early_meaning h.holds;
  means = takes bytes (h.holds).ended;
  bytes = bytes;
  read = read;
  most = most;
  is = early_taken (Image s.gray) bytes n r e h.holds;
  all = all;
  plain = h.plain;
}

read_wanted : (w : Wanted) (M : Meaning) (early : Option ℕ) (bytes : List ℕ) → IsReadPicture w M early bytes → unwanted_for w M ≡ None
read_wanted w M None bytes h = h.wanted
read_wanted w M (Some n) bytes h = h.wanted

pub taken_admitted : (s : Showing) (early : Option ℕ) (start now : DeskState) (r : ReaderState) (p : Picture) → IsTaken s early start now r p → out_fault s.gray (picture_meaning p) ≡ None
taken_admitted s early start now r p h = ap (out_fault s.gray) h.means ∙ out_same (keeping_of r.file) s.gray h.meaning ∙ read_wanted (Image s.gray) h.meaning early h.bytes h.is

pub keeps_after : (old start now : DeskState) (file : Name) → Opens old file put.Done start → OnlyReads start now → Keeps old now
keeps_after old start now file h k = record { works = works_then (record { stays = record { counts = h.counts; files = h.files }; said = h.said }) k.copies.works; outputs = k.outputs ∙ h.outputs }

module _ (s : Showing) (early : Option ℕ) (old start now new : DeskState) where
  -- and its image was written
  pub taken_shown : (r : ReaderState) (p : Picture) (ended : Why) → Opens old s.input put.Done start → OnlyReads start now → IsTaken s early start now r p → new.left ≡ now.left
      → AfterImage s.output early now (end_text s.kind (info (picture_meaning p) s.gray) (pixels (picture_meaning p) s.gray s.smooth)) ended new → Shown s old ended new
  taken_shown r p ended h k t left wrote =
      let read : ReadsFrom (Some s.input) (IsReadPicture (Image s.gray) t.meaning early) old now = record { bytes = t.bytes; read = file_read old.files s.input start.left now.left t.bytes h.after.2 t.read; most = t.most; is = t.is } in
      shown_written s t.meaning early old now new ended
      (record { value = record { kept = keeps_after old start now s.input h k; asked = noted old start now s.input h k; read = read; all = t.all; left = left }; plain = t.plain })
      (subst (λ (due : List ℕ). AfterImage s.output early now due ended new) (ap (shown_text s) t.means ∙ text_shown s (keeping_of r.file) t.meaning) wrote)
