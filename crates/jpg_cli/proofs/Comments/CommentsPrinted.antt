-- What printing the comments of an input does, over the states of a desk.
use Rattle.std.proofs.Common.{◌≡◌, ℕ, List, [], ◌∷◌, ◌++◌, take, Option, sym, subst, arith}
use Rattle.std.specs.Io.KnownBytes.{Consumes}
use Rattle.std.proofs.lemmas.List.{length-append, take-append-le}
use Rattle.jpg_base.specs.declared.names.Name.{Name}
use Rattle.jpg_base.specs.declared.names.Put.{Put}
use Rattle.jpg_base.specs.declared.names.Put.TheVariants as put
use Rattle.jpg_base.specs.Desk.{DeskState, Creates, NoneFell, Opens}
use Rattle.jpg_base.specs.Laws.{Grows, Grows-from, NoneFell-then}
use Rattle.jpg_spec_words.specs.declared.answers.Why.{Why}
use Rattle.jpg_spec_words.specs.declared.answers.Why.TheVariants as why
use Rattle.jpg_spec_words.specs.declared.answers.Which.TheVariants as which
use Rattle.jpg_desk.specs.Reading.{rest_of}
use Rattle.jpg_spec.specs.Segments.{standard_limits}
use Rattle.jpg_spec_write.specs.CommentText.{IsReadWhole}
use Rattle.jpg_desk.specs.Stays.{OnlyCopies, OnlySays}
use Rattle.jpg_cli.specs.Due.{NoneRose}
use Rattle.jpg_cli.specs.Tools.ReadComments.{EndsCopying, IsPrintDue, IsWholeText, Printed, printed_texts}
use Rattle.jpg_cli.specs.Copies.{Copies, CopiesText}
use Rattle.jpg_desk.specs.Endings.{Asks, Copied}
use Rattle.jpg_cli.proofs.Outcomes.Copies.{texts_from, texts_then}
use Rattle.jpg_desk.proofs.Endings.{copied_then, asks_next, asks_still, unopened_then}
use Rattle.jpg_desk.proofs.Input.{file_read, notes_one}

-- AN INPUT OPENED, AND AN OUTPUT CREATED

both_names : (s0 s1 s2 : DeskState) (input output : Name) (answer : Put) → Opens s0 input put.Done s1 → Creates s1 output answer s2 → Asks (input ∷ output ∷ []) answer s0 s2
both_names s0 s1 s2 input output answer h k = asks_next s0 s1 s2 (input ∷ []) output answer (notes_one s0.asked s1.asked (input, put.Done) h.asked) k.asked

prints_from : (s0 s1 s2 s3 : DeskState) (input output : Name) (Is : List ℕ → List ℕ → Type 0) → Opens s0 input put.Done s1 → Creates s1 output put.Done s2 → OnlyCopies s2 s3 → CopiesText Is s2 s3 → Copied [] input output Is s0 s3
prints_from s0 s1 s2 s3 input output Is h k w c =
    let bytes = c.0 in let text = c.1 in
    let L : Option (List ℕ) → Type 0 = λ l. Consumes l s3.left bytes in
    let G : Option (List (Name × List ℕ)) → Type 0 = λ a. Grows a (output, text) s3.outputs in
    record {
      bytes = bytes;
      text = text;
      read = (c.2.most, file_read s0.files input s1.left s3.left bytes h.after.2 (subst L k.left c.2.read));
      wrote = record {
        asked = asks_still s0 s2 s3 (input ∷ output ∷ []) put.Done w.asked (both_names s0 s1 s2 input output put.Done h k);
        outputs = subst G h.outputs (Grows-from s1.outputs s2.outputs s3.outputs output text k.after.1 c.2.written);
      };
      is = c.3;
    }

pub printed_from : (s0 s1 s2 s3 : DeskState) (input output : Name) (w : Why) → Opens s0 input put.Done s1 → Creates s1 output put.Done s2 → OnlyCopies s2 s3 → EndsCopying s2 w s3 → Printed input output s0 w s3
printed_from s0 s1 s2 s3 input output w h k c e = by w (texts_from printed_texts CopiesText (Copied [] input output) s0 s2 s3 fell (λ Is. prints_from s0 s1 s2 s3 input output Is h k c) w e)
  where
    fell : NoneFell s0.counts s2.counts
    fell = NoneFell-then s0.counts s1.counts s2.counts h.counts k.counts

    by : (w : Why) → Copies printed_texts (Copied [] input output) s0 w s3 → Printed input output s0 w s3
    by (why.OpenFault which) t = absurd t
    by other t = t

-- A MESSAGE THEN

pub printed_then : (s0 s1 s2 : DeskState) (input output : Name) (w : Why) → OnlySays s1 s2 → Printed input output s0 w s1 → Printed input output s0 w s2
printed_then s0 s1 s2 input output (why.OpenFault which.Input) k h = unopened_then s0 s1 s2 (input ∷ []) k h
printed_then s0 s1 s2 input output (why.OpenFault which.Output) k h = unopened_then s0 s1 s2 (input ∷ output ∷ []) k h
printed_then s0 s1 s2 input output w k h = texts_then printed_texts (Copied [] input output) s0 s1 s2 k (λ Is. copied_then s0 s1 s2 [] input output Is k) w h

-- WHERE NOTHING FAILED

whole_due : (s0 s1 : DeskState) (input output : Name) → Copied [] input output IsWholeText s0 s1 → IsPrintDue input s0 why.Done
whole_due s0 s1 input output h =
    let rest = rest_of s1.left in
    let is = h.is in
    let front : take is.count (h.bytes ++ rest) ≡ take is.count h.bytes = take-append-le is.count h.bytes rest is.within in
    let within = is.within in let most = h.read.0 in (
      h.bytes ++ rest,
      is.count,
      is.before,
      h.read.1,
      omega (arith, within, length-append h.bytes rest),
      omega (arith, within, most),
      subst (λ (b : List ℕ). IsReadWhole standard_limits b is.before) (sym front) is.whole,
    )

pub print_due : (s0 s1 : DeskState) (input output : Name) (w : Why) → NoneRose s0.counts s1.counts → Printed input output s0 w s1 → IsPrintDue input s0 w
print_due s0 s1 input output why.Done n h = whole_due s0 s1 input output h
print_due s0 s1 input output (why.Refused f) n h = (h.bytes ++ rest_of s1.left, h.read.1, h.is.fault)
print_due s0 s1 input output (why.OpenFault which.Input) n h = absurd (n.0 h.opens)
print_due s0 s1 input output (why.OpenFault which.Output) n h = absurd (n.0 h.opens)
print_due s0 s1 input output (why.ReadFault which.Input) n h = absurd (n.1 h.1)
print_due s0 s1 input output why.WriteFault n h = absurd (n.2 h.1)
print_due s0 s1 input output why.NoMemory n h = tt
print_due s0 s1 input output other n h = absurd h
