-- What reading pieces and writing the text of their comments does, over the states of a desk.
use Rattle.std.proofs.Common.{◌≡◌, ℕ, Bool, true, false, ◌<◌, ◌≤◌, List, [], ◌++◌, length, take, Option, None, Some, Result, Ok, Err, refl, sym, ap, ◌∙◌, subst, arith, inl, inr}
use Rattle.std.specs.Io.KnownBytes.{Consumes, IsAtEnd}
use Rattle.jpg_base.specs.declared.names.Name.{Name}
use Rattle.jpg_base.specs.declared.names.Put.TheVariants as put
use Rattle.jpg_base.specs.Desk.{DeskState, NoneFell, Rose, AppendsLast, AfterWrite}
use Rattle.jpg_base.specs.Laws.{Consumes-then, AppendsLast-then, AppendsPart-then}
use Rattle.jpg_huff.specs.Out.{OnlyWrites}
use Rattle.jpg_spec.specs.Segments.{standard_limits}
use Rattle.jpg_spec.specs.declared.frame.Limits.{Limits}
use Rattle.jpg_spec_words.specs.declared.answers.Why.{Why}
use Rattle.jpg_spec_words.specs.declared.answers.Why.TheVariants as why
use Rattle.jpg_spec_words.specs.declared.answers.Which.TheVariants as which
use Rattle.jpg_comments.specs.SegmentsSoFar.{Appends}
use Rattle.jpg_comments.specs.ReadComments.{HasRead}
use Rattle.jpg_comments.specs.declared.comments.Comments.{Comments}
use Rattle.jpg_desk.specs.Pump.{AfterFeed, BeforeEnd, BeforePiece, EndsAll, IsFed}
use Rattle.jpg_desk.specs.Reading.{rest_of}
use Rattle.jpg_cli.specs.Tools.ReadComments.{AfterEnd, AfterTaking, EndsCopying, EndsPrinting, IsFaultText, IsPrinting, TakesPiece, print_kind}
use Rattle.jpg_cli.specs.declared.tools.rdjpgcom.PrintSink.{PrintSink}
use Rattle.jpg_cli.specs.Copies.{HasCopied}
use Rattle.jpg_desk.specs.Stays.{OnlyCopies}
use Rattle.jpg_desk.proofs.Input.{none_left}
use Rattle.jpg_desk.proofs.PiecesRead.{copies_none, copies_then, left_still, none_read, outputs_still}
use Rattle.jpg_cli.proofs.Comments.CommentsRead.{part_of_part, taken_part, text_so_far}
use Rattle.jpg_huff.proofs.Emitted.{append_last-nil}

-- NOTHING WRITTEN

pub none_written : (outputs : Option (List (Name × List ℕ))) → AppendsLast outputs [] outputs
none_written None = tt
none_written (Some outputs) = sym (append_last-nil outputs)

-- A PIECE, read and then written

-- a piece was read, and the text that was added is written
pub copied : {start s0 s1 s2 : DeskState} {bytes text : List ℕ} (piece more : List ℕ) → length (bytes ++ piece) ≤ standard_limits.input → HasCopied start bytes text s0 → Consumes s0.left s1.left piece → s1.outputs ≡ s0.outputs → OnlyWrites s1 s2 → AppendsLast s1.outputs more s2.outputs
    → HasCopied start (bytes ++ piece) (text ++ more) s2
copied {start} {s0} {s1} {s2} {bytes} {text} piece more most h read same k w = record {
  most = most;
  read = left_still s1 s2 (bytes ++ piece) start k.left (Consumes-then start.left s0.left s1.left bytes piece h.read read);
  written = AppendsLast-then start.outputs s1.outputs s2.outputs text more (outputs_still s0 s1 text start same h.written) w;
}

-- Nothing was read or written.
pub copied_still : (start s0 s1 : DeskState) (bytes text : List ℕ) → HasCopied start bytes text s0 → s1.left ≡ s0.left → s1.outputs ≡ s0.outputs → HasCopied start bytes text s1
copied_still start s0 s1 bytes text h left outputs = record { most = h.most; read = left_still s0 s1 bytes start left h.read; written = outputs_still s0 s1 text start outputs h.written }

module _ {start s0 s1 s2 : DeskState} {bytes text : List ℕ} where
  -- only a part was written
  pub next_unwritten : (piece more : List ℕ) (due : Result Bool Why) (c : Comments) → length (bytes ++ piece) ≤ standard_limits.input → c.limits ≡ standard_limits → OnlyCopies start s0 → NoneFell s0.counts s1.counts → AfterTaking (bytes ++ piece) (text ++ more) due c
      → HasCopied start bytes text s0 → Consumes s0.left s1.left piece → s1.outputs ≡ s0.outputs → OnlyWrites s1 s2 → AfterWrite s1 more put.Failed s2 → EndsCopying start why.WriteFault s2
  next_unwritten piece more due c most e still fell h had read same k w =
      let written = AppendsPart-then start.outputs s1.outputs s2.outputs text more (outputs_still s0 s1 text start same had.written) w.1 in
      let part = part_of_part (bytes ++ piece) (text ++ more) written.0 (taken_part (bytes ++ piece) (text ++ more) due c e h) in (
        (bytes ++ piece, take written.0 (text ++ more), record { most = most; read = left_still s1 s2 (bytes ++ piece) start k.left (Consumes-then start.left s0.left s1.left bytes piece had.read read); written = written.1 }, part),
        (let r = w.0 in let f = still.works.stays.counts.writes in let g = fell.writes in omega arith),
      )

-- AT THE END

pub next_end : {start s0 : DeskState} (s1 : DeskState) {bytes text : List ℕ} (w : Why) → HasCopied start bytes text s0 → IsAtEnd s0.left → s1.left ≡ s0.left → s1.outputs ≡ s0.outputs → AfterEnd bytes text w → EndsCopying start w s1
next_end {start} {s0} s1 {bytes} {text} (why.Refused f) had end left outputs h =
    let none : rest_of s1.left ≡ [] = ap rest_of left ∙ none_left s0.left end in
    (bytes, text, copied_still start s0 s1 bytes text had left outputs, subst (λ (rest : List ℕ). IsFaultText f rest bytes text) (sym none) h)
next_end s1 other had end left outputs h = absurd h

-- A READ that failed
pub next_unread : {start s0 : DeskState} (s1 : DeskState) {bytes text : List ℕ} (c : Comments) → c.limits ≡ standard_limits → HasRead bytes text c → OnlyCopies start s0 → HasCopied start bytes text s0 → Rose s0.counts.reads s1.counts.reads → s1.left ≡ s0.left → s1.outputs ≡ s0.outputs
    → EndsCopying start (why.ReadFault which.Input) s1
next_unread {start} {s0} s1 {bytes} {text} c e h still had rose left outputs = (
  (bytes, text, copied_still start s0 s1 bytes text had left outputs, text_so_far bytes text c e h),
  (let f = still.works.stays.counts.reads in omega (arith, rose, f)),
)

-- A PIECE, as it was taken

pub text_added : (old out more : List ℕ) → old ≡ [] → out ≡ old ++ more → more ≡ out
text_added old out more empty e = sym (e ∙ ap (λ (l : List ℕ). l ++ more) empty)

pub writes_copy : {a b : DeskState} → OnlyWrites a b → OnlyCopies a b
writes_copy h = record { works = record { stays = record { counts = h.counts; files = h.files }; said = h.said }; asked = h.asked; output_created = h.output_created }

module _ {from : PrintSink × DeskState} {bytes piece : List ℕ} {old : PrintSink} {s1 : DeskState} (b : BeforePiece PrintSink print_kind from bytes piece (old, s1)) (due : Result Bool Why) (out : List ℕ) (c : Comments) (limits : c.limits ≡ standard_limits)
    (takes : TakesPiece old.comments piece old.out due out c) where
  abbrev was : IsPrinting from bytes (old, b.desk)
  was = b.fed.fed

  abbrev taken : Appends (λ all. AfterTaking (bytes ++ piece) all due c) was.text old.out out
  taken = takes bytes was.text was.read

  module _ {s2 : DeskState} (k : OnlyWrites s1 s2) where
    kept : OnlyCopies from.1 s2
    kept = copies_then (copies_then was.kept b.reads.kept.copies) (writes_copy k)

    pub piece_printed : c.ready ≡ true → AfterWrite s1 out put.Done s2 → AfterFeed print_kind from (bytes ++ piece) due (record { comments = c; out = [] }, s2)
    piece_printed ready w = by due taken.2
      where
        all : List ℕ
        all = was.text ++ taken.0

        has : HasCopied from.1 (bytes ++ piece) all s2
        has = copied piece taken.0 b.most was.copied b.reads.read b.reads.kept.outputs k (subst (λ (m : List ℕ). AppendsLast s1.outputs m s2.outputs) (sym (text_added old.out out taken.0 was.empty taken.1)) w)

        by : (due : Result Bool Why) → AfterTaking (bytes ++ piece) all due c → AfterFeed print_kind from (bytes ++ piece) due (record { comments = c; out = [] }, s2)
        by (Ok false) h = (
          record {
            short = subst (λ (l : Limits). length (bytes ++ piece) < l.input) limits h.2;
            fed = record { text = all; read = h; limits = limits; ready = ready; empty = refl; kept = kept; copied = has; created = k.output_created ∙ b.reads.kept.copies.output_created ∙ was.created };
          },
          k.input_open ∙ b.reads.opened,
        )
        by (Ok true) h = (kept, (bytes ++ piece, all, has, h))
        by (Err (why.Refused f)) h = (kept, (bytes ++ piece, all, has, h (rest_of s2.left)))
        by (Err why.NoMemory) h = (kept, (bytes ++ piece, all, has, h))
        by (Err other) h = absurd h

    pub piece_unprinted : AfterWrite s1 out put.Failed s2 → (now : PrintSink) → EndsPrinting from (Err why.WriteFault) (now, s2)
    piece_unprinted w now =
        let fell = b.reads.kept.copies.works.stays.counts in
        (kept, next_unwritten piece taken.0 due c b.most limits was.kept fell taken.2 was.copied b.reads.read b.reads.kept.outputs k (subst (λ (m : List ℕ). AfterWrite s1 m put.Failed s2) (sym (text_added old.out out taken.0 was.empty taken.1)) w))

-- where the input ends
pub printing_ends : {from : PrintSink × DeskState} {bytes : List ℕ} {old : PrintSink} {s1 : DeskState} (new : PrintSink) (w : Why) → BeforeEnd PrintSink print_kind from bytes (old, s1) → ((bytes text : List ℕ) → HasRead bytes text old.comments → AfterEnd bytes text w) → EndsPrinting from (Err w) (new, s1)
printing_ends {from} {bytes} {s1 = s1} new w b ends =
    let h = b.fed.fed in
    (copies_then h.kept b.ended.kept.copies, next_end s1 w h.copied b.ended.ended b.ended.left b.ended.kept.outputs (ends bytes h.text h.read))

-- all of it
pub printing_begun : (c : Comments) (out : List ℕ) (s : DeskState) → HasRead [] [] c → c.limits ≡ standard_limits → c.ready ≡ true → out ≡ [] → s.output_created ≡ true → (let sink : PrintSink = record { comments = c; out = out } in IsFed PrintSink print_kind (sink, s) [] (sink, s))
printing_begun c out s h limits ready empty created = record {
  short = omega arith;
  fed = record { text = []; read = h; limits = limits; ready = ready; empty = empty; kept = copies_none s; copied = record { most = omega arith; read = none_read s.left; written = none_written s.outputs }; created = created };
}

pub all_printed : (from now : PrintSink × DeskState) (answer : Result (Option ℕ) Why) → EndsAll print_kind from answer now → EndsPrinting from answer now
all_printed from now answer (inl h) = h
all_printed from now answer (inr h) = subst (λ (a : Result (Option ℕ) Why). EndsPrinting from a now) (sym h.is) (
  copies_then h.fed.fed.kept h.failed.kept.copies,
  next_unread now.1 (now.0).comments h.fed.fed.limits h.fed.fed.read h.fed.fed.kept h.fed.fed.copied h.failed.rose h.failed.left h.failed.kept.outputs,
)
