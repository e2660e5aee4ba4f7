-- Bytes of an image that are sent one after another.
use Rattle.std.proofs.Common.{◌≡◌, ℕ, ◌+◌, ◌<◌, List, [], ◌++◌, length, take, Option, Result, Ok, Err, sym, ap, ◌∙◌, subst, arith}
use Rattle.std.proofs.lemmas.List.{append_assoc, append-nil, length-append, take-append-le}
use Rattle.std.proofs.Math.Seq.{take-append-add}
use Rattle.jpg_base.specs.declared.names.Name.{Name}
use Rattle.jpg_base.specs.Desk.{DeskState, AppendsLast}
use Rattle.jpg_base.specs.Laws.{AppendsPart, AppendsPart-more, AppendsPart-then, AppendsLast-then}
use Rattle.jpg_huff.proofs.Emitted.{AppendsLast-nil, OnlyWrites-then, OnlyWrites-same}
use Rattle.jpg_pnm_bmp.specs.EndState.{EndState}
use Rattle.jpg_pnm_bmp.specs.declared.write.end.Finish.{Finish}
use Rattle.jpg_color.specs.DecodeRows.{AppendsLess, SendsImage, SendsPart, SendsRow, SendsRows}
use Rattle.jpg_color.specs.declared.decode.DecodeStop.{DecodeStop}
use Rattle.jpg_color.specs.declared.decode.DecodeStop.TheVariants as stop

-- an output, and the bytes that wait to be written to it
pub record Output : Type 0 where
  pub desk : DeskState
  pub waits : List ℕ

-- an output and an image writer
pub record Writing : Type 0 where
  pub out : Output
  pub end : EndState

abbrev pub writing : DeskState → List ℕ → EndState → Writing
writing desk waits end = record { out = record { desk = desk; waits = waits }; end = end }

-- what bytes, a row, all rows, and a part of what follows the rows make of them
abbrev pub Sends : Output → List ℕ → Result (Unit {0}) DecodeStop → Output → Type 0
Sends a due r b = SendsImage a.desk a.waits due r b.waits b.desk

abbrev pub PassesRow : Writing → List ℕ → Result (Unit {0}) DecodeStop → Writing → Type 0
PassesRow v row r w = SendsRow v.out.desk v.end v.out.waits row r w.end w.out.waits w.out.desk

abbrev pub PassesRows : Writing → List (List ℕ) → Result (Unit {0}) DecodeStop → Writing → Type 0
PassesRows v rows r w = SendsRows v.out.desk v.end v.out.waits rows r w.end w.out.waits w.out.desk

abbrev pub TakesPart : Writing → Result Finish DecodeStop → Writing → Type 0
TakesPart v r w = SendsPart v.out.desk v.end v.out.waits r w.end w.out.waits w.out.desk

-- nothing is pending
pub sends_nothing : {a : Output} → Sends a [] (Ok tt) a
sends_nothing {a} = record { only = OnlyWrites-same a.desk; bytes = ([], AppendsLast-nil a.desk.outputs, append-nil a.waits) }

-- a piece waits after what waited
pub sends_piece : {s : DeskState} (old piece : List ℕ) {new : List ℕ} → new ≡ old ++ piece → SendsImage s old piece (Ok tt) new s
sends_piece {s} old piece e = record { only = OnlyWrites-same s; bytes = ([], AppendsLast-nil s.outputs, sym e) }

-- the same bytes in another way
pub sends_same : {a b : Output} {xs ys : List ℕ} {r : Result (Unit {0}) DecodeStop} → xs ≡ ys → Sends a xs r b → Sends a ys r b
sends_same {a} {b} {r = r} e h = subst (λ x. Sends a x r b) e h

-- less than all of some bytes is less than all of more, and of those after others
AppendsLess-more : (a b : Option (List (Name × List ℕ))) (xs ys : List ℕ) → AppendsLess a xs b → AppendsLess a (xs ++ ys) b
AppendsLess-more a b xs ys (n, less, h) = (
  n,
  omega (arith, less, length-append xs ys),
  (let P : List ℕ → Type 0 = λ t. AppendsLast a t b in subst P (sym (take-append-le n xs ys (omega (arith, less)))) h),
)

AppendsLess-then : (a b c : Option (List (Name × List ℕ))) (xs ys : List ℕ) → AppendsLast a xs b → AppendsLess b ys c → AppendsLess a (xs ++ ys) c
AppendsLess-then a b c xs ys h (n, less, k) = (
  length xs + n,
  omega (arith, less, length-append xs ys),
  (let P : List ℕ → Type 0 = λ t. AppendsLast a t c in subst P (sym (take-append-add xs ys n)) (AppendsLast-then a b c xs (take n ys) h k)),
)

-- a stop leaves a first part of more
pub sends_stop : {a b : Output} {due : List ℕ} {f : DecodeStop} (more : List ℕ) → Sends a due (Err f) b → Sends a (due ++ more) (Err f) b
sends_stop {a} {b} {due} {f = stop.NoMemory} more h =
    let P : List ℕ → Type 0 = λ x. AppendsLess a.desk.outputs x b.desk.outputs in
    record { only = h.only; bytes = subst P (append_assoc a.waits due more) (AppendsLess-more a.desk.outputs b.desk.outputs (a.waits ++ due) more h.bytes) }
sends_stop {a} {b} {due} {f = stop.WriteFault} more h =
    let P : List ℕ → Type 0 = λ x. AppendsPart a.desk.outputs x b.desk.outputs in
    record {
      only = h.only;
      bytes = (
        subst P (append_assoc a.waits due more) (AppendsPart-more a.desk.outputs b.desk.outputs (a.waits ++ due) more h.bytes.0),
        h.bytes.1,
      );
    }

-- bytes, and then more
both_due : {a b : Output} {due : List ℕ} (more : List ℕ) (h : Sends a due (Ok tt) b)
    → h.bytes.0 ++ (b.waits ++ more) ≡ a.waits ++ (due ++ more)
both_due {a} {b} {due} more h =
    sym (append_assoc h.bytes.0 b.waits more) ∙ ap (λ x. x ++ more) (sym h.bytes.2) ∙ append_assoc a.waits due more

pub sends_then : {a b c : Output} {due more : List ℕ} {r : Result (Unit {0}) DecodeStop} → Sends a due (Ok tt) b → Sends b more r c → Sends a (due ++ more) r c
sends_then {a} {b} {c} {due} {more} {r = Ok u} h k =
    let g = h.bytes.0 in
    record {
      only = OnlyWrites-then a.desk b.desk c.desk h.only k.only;
      bytes = (
        g ++ k.bytes.0,
        AppendsLast-then a.desk.outputs b.desk.outputs c.desk.outputs g k.bytes.0 h.bytes.1 k.bytes.1,
        sym (both_due more h) ∙ ap (λ x. g ++ x) k.bytes.2 ∙ sym (append_assoc g k.bytes.0 c.waits),
      );
    }
sends_then {a} {b} {c} {due} {more} {r = Err stop.NoMemory} h k =
    let P : List ℕ → Type 0 = λ x. AppendsLess a.desk.outputs x c.desk.outputs in
    record {
      only = OnlyWrites-then a.desk b.desk c.desk h.only k.only;
      bytes = subst P (both_due more h) (AppendsLess-then a.desk.outputs b.desk.outputs c.desk.outputs h.bytes.0 (b.waits ++ more) h.bytes.1 k.bytes);
    }
sends_then {a} {b} {c} {due} {more} {r = Err stop.WriteFault} h k =
    let P : List ℕ → Type 0 = λ x. AppendsPart a.desk.outputs x c.desk.outputs in
    record {
      only = OnlyWrites-then a.desk b.desk c.desk h.only k.only;
      bytes = (
        subst P (both_due more h) (AppendsPart-then a.desk.outputs b.desk.outputs c.desk.outputs h.bytes.0 (b.waits ++ more) h.bytes.1 k.bytes.0),
        (let f = h.only.counts.writes in let g = k.bytes.1 in omega arith),
      );
    }

-- bytes, and then what waits
pub sends_rest : {a b c : Output} {due : List ℕ} {r : Result (Unit {0}) DecodeStop} → Sends a due (Ok tt) b → Sends b [] r c → Sends a due r c
sends_rest {due = due} h k = sends_same (append-nil due) (sends_then h k)

-- nothing is sent if there is no memory for something
pub sends_none : {s : DeskState} {old due new : List ℕ} → 0 < length due → SendsImage s old due (Err stop.NoMemory) new s
sends_none {s} {old} {due} some = record { only = OnlyWrites-same s; bytes = (0, omega (arith, some, length-append old due), AppendsLast-nil s.outputs) }
