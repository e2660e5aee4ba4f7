-- The case that the pending rows weren't all written.
use Rattle.std.proofs.Common.{◌≡◌, ℕ, ◌+◌, ◌≤◌, List, [], ◌∷◌, ◌++◌, length, take, sym, ap, ◌∙◌, subst, arith, inr, Err}
use Rattle.std.proofs.lemmas.List.{length-append, length-take-le}
use Rattle.std.proofs.Math.Seq.{take-append-add}
use Rattle.jpg_base.specs.Desk.{AppendsLast, DeskState, Rose}
use Rattle.jpg_base.specs.Laws.{AppendsPart}
use Rattle.jpg_huff.specs.Out.{OnlyWrites}
use Rattle.jpg_spec.specs.Meaning.{Meaning}
use Rattle.jpg_spec.specs.Segments.{standard_limits}
use Rattle.jpg_spec_words.specs.declared.answers.Why.TheVariants as why
use Rattle.jpg_color.specs.DecodeRows.{AppendsLess, SendsImage}
use Rattle.jpg_color.specs.declared.decode.DecodeStop.{DecodeStop}
use Rattle.jpg_color.specs.declared.decode.DecodeStop.TheVariants as stop
use Rattle.jpg_desk.specs.Endings.{Added}
use Rattle.jpg_desk.specs.ReadPicture.{IsShortRead, IsWholeRead, Image}
use Rattle.jpg_cli.specs.Outcome.{WritesRowsInPart}
use Rattle.jpg_cli.specs.Tools.Showing.{IsInTime, IsToldText, Showing, Shown, row_texts, showing_conversion, shown_text}
use Rattle.jpg_cli.specs.Tools.ShowingRows.{HasCreated, why_of}
use Rattle.jpg_cli.proofs.ByRow.RowsDesk.{created_added, created_more, created_read}

-- a text of the decoded MCU rows, of which this was written and this is pending
pub record IsDueText (s : Showing) (all written due text : List ℕ) : Type 0 where
  pub most : length all ≤ standard_limits.input
  pub short : IsShortRead (Image s.gray) all
  pub told : IsToldText s all text
  pub same : written ++ due ≡ text
  pub early : IsInTime s all written

-- It is no longer than that of a complete file.
abbrev pub FitsWhole : Showing → List ℕ → List ℕ → Type 0
FitsWhole s all text = (M : Meaning) → IsWholeRead (Image s.gray) M all → length text ≤ length (shown_text s M)

pub first_part : (written due text : List ℕ) (n : ℕ) → written ++ due ≡ text → written ++ take n due ≡ take (length written + n) text
first_part written due text n same = sym (take-append-add written due n) ∙ ap (take (length written + n)) same

abbrev in_part : {s : Showing} {old start : DeskState} {all written due text : List ℕ} (n : ℕ) {s0 s1 : DeskState} → IsDueText s all written due text → HasCreated s old start all written s0 → OnlyWrites s0 s1 → AppendsLast s0.outputs (take n due) s1.outputs
    → WritesRowsInPart Meaning (showing_conversion s) (row_texts s) old s1
in_part {s} {old} {written} {due} {text} n {s1} h desk only gone =
    let new = created_more (take n due) desk only gone in
    record {
      text = text;
      count = length written + n;
      read = created_read (λ bytes. IsShortRead (Image s.gray) bytes × IsToldText s bytes text) new h.most (h.short, h.told);
      wrote = subst (λ t. Added (s.input ∷ []) s.output t old s1) (first_part written due text n h.same) (created_added new);
    }

pub rose_since : {s : Showing} {old start : DeskState} {all written : List ℕ} {s0 : DeskState} (s1 : DeskState) → HasCreated s old start all written s0 → Rose s0.counts.writes s1.counts.writes → Rose old.counts.writes s1.counts.writes
rose_since s1 h rose = let a = (h.opened).counts.writes in let b = ((h.works).stays).counts.writes in omega (arith, rose, a, b)

module _ {s : Showing} {old start : DeskState} {all written : List ℕ} where
  pub rows_failed : {due text : List ℕ} {s0 s1 : DeskState} → IsDueText s all written due text → HasCreated s old start all written s0 → OnlyWrites s0 s1 → AppendsPart s0.outputs due s1.outputs
      → Rose s0.counts.writes s1.counts.writes → Shown s old why.WriteFault s1
  rows_failed {due} {text} {s1} h desk only (n, gone) rose = (
    rose_since s1 desk rose,
    inr (record {
      part = in_part n h desk only gone;
      early = λ front rest other cut many k.
          (let l = h.early front rest other cut many k in
          let size = ap length (first_part written due text n h.same) in omega (arith, l, size, length-append written (take n due)));
    }),
  )

module _ {s : Showing} {old start : DeskState} {all written : List ℕ} where
  pub rows_wanting : {due text : List ℕ} {s0 s1 : DeskState} → IsDueText s all written due text → FitsWhole s all text → HasCreated s old start all written s0 → OnlyWrites s0 s1
      → AppendsLess s0.outputs due s1.outputs → Shown s old why.NoMemory s1
  rows_wanting {due} {text} h fits desk only (n, less, gone) =
      inr (inr (record {
        part = in_part n h desk only gone;
        left = λ M whole.
            (let l = fits M whole in
            let size = ap length (first_part written due text n h.same) in
            let all = ap length h.same in
            omega (arith, l, size, all, less, length-append written (take n due), length-append written due, length-take-le n due (omega (arith, less))));
      }))

module _ {s : Showing} {old start : DeskState} {all written : List ℕ} where
  pub rows_stopped : {out due text new : List ℕ} (ended : DecodeStop) {s0 s1 : DeskState} → IsDueText s all written (out ++ due) text → FitsWhole s all text → HasCreated s old start all written s0
      → SendsImage s0 out due (Err ended) new s1 → Shown s old (why_of (Err ended)) s1
  rows_stopped stop.NoMemory h fits desk sent = rows_wanting h fits desk sent.only sent.bytes
  rows_stopped stop.WriteFault h fits desk sent = rows_failed h desk sent.only (sent.bytes).0 (sent.bytes).1
