-- The case that rows begin and the output isn't created, over the states of a desk.
use Rattle.std.proofs.Common.{ℕ, List, [], ◌∷◌, ◌∙◌, arith, inl, inr, Result, Some}
use Rattle.jpg_base.specs.declared.names.Put.TheVariants as put
use Rattle.jpg_base.specs.declared.stop.Stop.{Stop}
use Rattle.jpg_base.specs.Desk.{Creates, DeskState}
use Rattle.jpg_spec_words.specs.declared.answers.Why.TheVariants as why
use Rattle.jpg_spec_words.specs.declared.answers.Which.TheVariants as which
use Rattle.jpg_file.specs.Read.ReadFile.{ReaderState}
use Rattle.jpg_file.specs.declared.read.pieces.FedRow.{FedRow}
use Rattle.jpg_desk.specs.Judging.{ReadsFrom}
use Rattle.jpg_desk.specs.ReadPicture.{IsShortRead, Image}
use Rattle.jpg_cli.specs.Tools.Showing.{IsShownByRows, Showing, Shown}
use Rattle.jpg_cli.specs.Tools.ShowingRows.{BeginsShownRows, HasOpened}
use Rattle.jpg_desk.proofs.Endings.{asks_next}
use Rattle.jpg_desk.proofs.Input.{file_read, noted}
use Rattle.jpg_desk.proofs.PictureTaken.{stopped_there}
use Rattle.jpg_cli.proofs.ByRow.RowsEnd.{shown_head}
use Rattle.jpg_cli.proofs.Outcomes.Outcome.{reads_still}

-- what was read
abbrev opened_read : {s : Showing} {old start : DeskState} {all : List ℕ} {piece : List ℕ} {answer : Result FedRow Stop} {r : ReaderState} {now : DeskState} (Is : List ℕ → Type 0) → BeginsShownRows s.gray all piece answer r → HasOpened s old start all now → Is all
    → ReadsFrom (Some s.input) Is old now
opened_read {s} {old} {start} {all} {now} Is k h is = record { bytes = all; read = file_read old.files s.input start.left now.left all (h.opened).after.2 h.left; most = (k.rows).most; is = is }

-- NO MEMORY for an image
pub no_image : {s : Showing} {old start : DeskState} {all : List ℕ} {piece : List ℕ} {answer : Result FedRow Stop} {r : ReaderState} {now : DeskState} → BeginsShownRows s.gray all piece answer r → HasOpened s old start all now → Shown s old why.NoMemory now
no_image {s} {old} {start} {now} k h = inl (stopped_there old start now s.input h.opened h.reads, opened_read (IsShortRead (Image s.gray)) k h (k.rows).short)

module _ {s : Showing} {old start : DeskState} {all : List ℕ} {piece : List ℕ} {answer : Result FedRow Stop} {r : ReaderState} where
  -- NO OUTPUT
  pub no_output : {now new : DeskState} → BeginsShownRows s.gray all piece answer r → HasOpened s old start all now → Creates now s.output put.Failed new
      → Shown s old (why.OpenFault which.Output) new
  no_output {now} {new} k h made = (
    record {
      stopped = record {
        asked = asks_next old now new (s.input ∷ []) s.output put.Failed (noted old start now s.input h.opened h.reads) made.asked;
        outputs = made.after.1 ∙ (h.reads).outputs ∙ (h.opened).outputs;
      };
      opens = (let rose = made.after.0 in let a = (h.opened).counts.opens in let b = ((h.reads).copies).works.stays.counts.opens in omega (arith, rose, a, b));
    },
    inr (reads_still old now new (Some s.input) (λ rest bytes. IsShortRead (Image s.gray) bytes × IsShownByRows s.gray bytes) made.left
        (opened_read (λ bytes. IsShortRead (Image s.gray) bytes × IsShownByRows s.gray bytes) k h ((k.rows).short, shown_head (k.rows).head))),
  )
