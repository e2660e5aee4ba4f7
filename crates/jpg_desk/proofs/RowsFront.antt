-- The pieces up to the one in which MCU rows begin.
use Rattle.std.proofs.Common.{◌≡◌, ℕ, ◌+◌, ◌<◌, ◌≤◌, true, List, [], ◌++◌, length, take, drop, Option, None, Some, Result, Ok, Err, refl, sym, ap, ◌∙◌, subst, arith, inl, inr}
use Rattle.std.specs.List.{All}
use Rattle.std.proofs.lemmas.List.{append-nil, append_assoc, length-append, take-append-drop}
use Rattle.std.proofs.Math.Seq.{take-append-add}
use Rattle.jpg_base.specs.declared.stop.Stop.{Stop}
use Rattle.jpg_base.specs.declared.stop.Stop.TheVariants as stop
use Rattle.jpg_spec.specs.RowsParsed.{BeginsScanOfAll}
use Rattle.jpg_spec.specs.Segments.{standard_limits}
use Rattle.jpg_spec.specs.UnfinishedFile.{UnfinishedFile}
use Rattle.jpg_spec.specs.declared.frame.Limits.{Limits}
use Rattle.jpg_spec_words.specs.declared.answers.Why.{Why}
use Rattle.jpg_file.specs.Read.File.{keeping_of}
use Rattle.jpg_file.specs.Read.ReadFile.{AfterEnd, EndsWith, IsDone, IsRefusal, IsStopOf, ReaderState, AfterFeedKeeping, EndsDoneRow, FeedsKeeping, HasBegunRows, HasReadPlainly}
use Rattle.jpg_file.specs.declared.read.ends.End.{End}
use Rattle.jpg_file.specs.declared.read.ends.End.TheVariants as ends
use Rattle.jpg_file.specs.declared.read.pieces.FedRow.{FedRow}
use Rattle.jpg_file.specs.declared.read.pieces.FedRow.TheVariants as fed
use Rattle.jpg_desk.specs.Pump.{AfterInput, AfterTaking, why_stopped}
use Rattle.jpg_desk.specs.ReadPicture.{IsOpenRead, IsShortRead, Coefficients}
use Rattle.jpg_desk.specs.RowsRead.{AnsweredRows, HasFront, HoldsRows, IsFrontFed, KeepsReading, is_complete, rows_front}
use Rattle.jpg_desk.specs.declared.rows_read.RowsFront.{RowsFront}
use Rattle.jpg_desk.proofs.RowsEnd.{refused_end}
use Rattle.jpg_desk.proofs.RowsRead.{IsFedOn, begins_in, refused_in}

pub front_open : {from s : RowsFront} {bytes : List ℕ} → IsFrontFed from bytes s → IsOpenRead Coefficients bytes
front_open {bytes = bytes} h = record {
  short = subst (λ (l : Limits). length bytes < l.input) h.keeps.limits h.read.read.short;
  stands = subst (λ (l : Limits). UnfinishedFile l bytes) h.keeps.limits h.read.read.stands;
  wanted = λ f k. k;
}

-- A PIECE

pub piece_short : {from s : RowsFront} {bytes : List ℕ} (piece : List ℕ) → IsFrontFed from bytes s → length piece ≤ 16384 → IsShortRead Coefficients (bytes ++ piece)
piece_short {bytes = bytes} piece h few = record { front = bytes; piece = piece; cut = refl; few = omega (arith, few); before = front_open h }

pub fed_on : (old new : ReaderState) → new.limits ≡ old.limits → new.in_rows ≡ true → keeping_of new.file ≡ keeping_of old.file → IsFedOn old new
fed_on old new limits in_rows keeping = record { limits = limits; in_rows = in_rows; keeping = keeping }

-- what stays where the input ends
pub front_keeps : {from s : RowsFront} {bytes : List ℕ} (old new : ReaderState) → IsFrontFed from bytes s → old ≡ (s.reader).value → new.limits ≡ old.limits → new.in_rows ≡ old.in_rows → keeping_of new.file ≡ keeping_of old.file → KeepsReading (from.reader).value new
front_keeps old new h is limits in_rows keeping = record {
  limits = limits ∙ ap (λ (r : ReaderState). r.limits) is ∙ h.keeps.limits;
  in_rows = in_rows ∙ ap (λ (r : ReaderState). r.in_rows) is ∙ h.keeps.in_rows;
  keeping = keeping ∙ ap (λ (r : ReaderState). keeping_of r.file) is ∙ h.keeps.keeping;
}

module _ {from s : RowsFront} {bytes : List ℕ} (piece : List ℕ) {old new : ReaderState} (h : IsFrontFed from bytes s) (few : length piece ≤ 16384) (small : All (λ b. b < 256) (bytes ++ piece)) (is : old ≡ (s.reader).value) (on : IsFedOn old new) where
  limits_on : new.limits ≡ standard_limits
  limits_on = on.limits ∙ ap (λ (r : ReaderState). r.limits) is ∙ h.keeps.limits

  keeps_on : KeepsReading (from.reader).value new
  keeps_on = record { limits = limits_on; in_rows = on.in_rows; keeping = on.keeping ∙ ap (λ (r : ReaderState). keeping_of r.file) is ∙ h.keeps.keeping }

  -- what the reader answers
  pub after_piece : (answer : Result FedRow Stop) → FeedsKeeping old piece answer new → AfterFeedKeeping bytes 0 piece answer new
  after_piece answer feeds = feeds bytes 0 (inl (subst (λ (r : ReaderState). HasReadPlainly bytes r) (sym is) h.read, refl))

  pub front_stopped : (e : Stop) (t : RowsFront) → AfterFeedKeeping bytes 0 piece (Err e) new → AfterTaking rows_front from (bytes ++ piece) (Err (why_stopped e)) t
  front_stopped (stop.Fault f) t a = λ rest. refused_in bytes piece f few (subst (λ (l : Limits). IsStopOf l (bytes ++ piece) f) limits_on a.0) a.1 rest
  front_stopped stop.NoMemory t a = piece_short piece h few

  module _ (t : RowsFront) (here : (t.reader).value ≡ new) where
    kept : KeepsReading (from.reader).value (t.reader).value
    kept = subst (λ (r : ReaderState). KeepsReading (from.reader).value r) (sym here) keeps_on

    -- where no rows are read
    pub front_plain : (f : FedRow) → t.piece ≡ [] → ((all : List ℕ) → HasBegunRows all new → ⊥) → EndsDoneRow (Ok f) new → AfterFeedKeeping bytes 0 piece (Ok f) new → AfterTaking rows_front from (bytes ++ piece) (Ok (is_complete f)) t
    front_plain fed.More none never done (inl p) = (
      record { keeps = kept; read = subst (λ (r : ReaderState). HasReadPlainly (bytes ++ piece) r) (sym here) p.0; small = small; none = none },
      subst (λ (l : Limits). length (bytes ++ piece) < l.input) limits_on p.0.read.short,
    )
    front_plain fed.More none never done (inr p) = absurd (never (bytes ++ piece) p.begun)
    front_plain (fed.Row used) none never done a = absurd (never (bytes ++ take used piece) (a.0).begun)
    front_plain (fed.Done used) none never done (inl p, some, within) = λ rest. record {
      keeps = kept;
      at = inl (record {
        none = ap (λ (r : ReaderState). r.rows) here ∙ p.none;
        done = ap (λ (r : ReaderState). r.done) here ∙ done;
        holds = record {
          count = length bytes + used;
          within = omega (arith, within, length-append bytes piece);
          last = omega (arith, some, few, length-append bytes piece);
          done = subst (λ (r : ReaderState). IsDone (take (length bytes + used) (bytes ++ piece)) r) (sym here) (subst (λ (l : List ℕ). IsDone l new) (sym (take-append-add bytes piece used)) p.done);
          small = small;
          wanted = refl;
        };
      });
    }
    front_plain (fed.Done used) none never done (inr p, some, within) = absurd (never (bytes ++ take used piece) p.begun)

    -- where they are
    rows_in : {answer : Result FedRow Stop} (f : FedRow) (front rest : List ℕ) → answer ≡ Ok f → t.answer ≡ answer → t.piece ≡ piece → front ++ rest ≡ bytes ++ piece → (b : HasBegunRows front new) → AnsweredRows bytes 0 piece answer new → EndsDoneRow answer new → HoldsRows None (bytes ++ piece) t
    rows_in {answer} f front rest e same held cut b after done =
        let begins = begins_in standard_limits rest cut (subst (λ (l : Limits). BeginsScanOfAll l front b.before b.contents) limits_on b.begins) in
        record {
          whole = refl;
          head = record { before = b.before; contents = b.contents };
          at = record {
            fed = bytes;
            cut = ap (λ l. bytes ++ l) (sym held);
            few = subst (λ (l : List ℕ). length l ≤ 16384) (sym held) few;
            begins = begins;
            after = subst (λ (l : List ℕ). AnsweredRows bytes 0 l t.answer (t.reader).value) (sym held) (subst (λ (a : Result FedRow Stop). AnsweredRows bytes 0 piece a (t.reader).value) (sym same) (subst (λ (r : ReaderState). AnsweredRows bytes 0 piece answer r) (sym here) after));
            done = subst (λ (a : Result FedRow Stop). EndsDoneRow a (t.reader).value) (sym same) (subst (λ (r : ReaderState). EndsDoneRow answer r) (sym here) done);
            small = small;
            short = piece_short piece h few;
          };
          some = (f, same ∙ e);
        }

    pub front_rows : (f : FedRow) → t.answer ≡ Ok f → t.piece ≡ piece → (new.rows ≡ None → ⊥) → EndsDoneRow (Ok f) new → AfterFeedKeeping bytes 0 piece (Ok f) new → HasFront from None (bytes ++ piece) t
    front_rows f same held some done a = record { keeps = kept; at = inr (by f same done a) }
      where
        joined : (used : ℕ) → (bytes ++ take used piece) ++ drop used piece ≡ bytes ++ piece
        joined used = append_assoc bytes (take used piece) (drop used piece) ∙ ap (λ l. bytes ++ l) (take-append-drop used piece)

        by : (f : FedRow) → t.answer ≡ Ok f → EndsDoneRow (Ok f) new → AfterFeedKeeping bytes 0 piece (Ok f) new → HoldsRows None (bytes ++ piece) t
        by fed.More same done (inl p) = absurd (some p.0.none)
        by fed.More same done (inr p) = rows_in fed.More (bytes ++ piece) [] refl same held (append-nil (bytes ++ piece)) p.begun p done
        by (fed.Row used) same done p = rows_in (fed.Row used) (bytes ++ take used piece) (drop used piece) refl same held (joined used) (p.0).begun (p.0, p.1) done
        by (fed.Done used) same done (inl p, more, within) = absurd (some p.none)
        by (fed.Done used) same done (inr p, more, within) = rows_in (fed.Done used) (bytes ++ take used piece) (drop used piece) refl same held (joined used) p.begun (p, within) done

-- THE END of the input, where none were read

abbrev pub end_as : End → Result (Option ℕ) Why
end_as (ends.Early n) = Ok (Some n)
end_as (ends.Stop e) = Err (why_stopped e)

pub front_ends : {from s : RowsFront} {bytes : List ℕ} (new : RowsFront) (answer : End) → IsFrontFed from bytes s → KeepsReading (from.reader).value (new.reader).value → ((new.reader).value).rows ≡ None → EndsWith answer (new.reader).value → AfterEnd bytes answer (new.reader).value
    → AfterInput rows_front from bytes (end_as answer) new
front_ends {bytes = bytes} new (ends.Early n) h keeps none done a = record { keeps = keeps; at = inl (record { none = none; done = done; holds = record { count = a.0; ended = a.1; small = h.small; wanted = refl } }) }
front_ends {bytes = bytes} new (ends.Stop (stop.Fault f)) h keeps none done a = refused_end bytes f (front_open h) (subst (λ (l : Limits). IsRefusal l bytes f) keeps.limits a)
front_ends new (ends.Stop stop.NoMemory) h keeps none done a = absurd a

pub some_not_none : {A : Type 0} {x : A} → (let o : Option A = Some x in o) ≡ None → ⊥
some_not_none e = cc
