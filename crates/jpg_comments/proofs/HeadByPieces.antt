-- The head of a file that gets a comment, piece by piece, and what is written after it.
use Rattle.std.proofs.Common.{◌≡◌, ℕ, ◌+◌, ◌-◌, ◌<◌, ◌≤◌, Bool, List, [], ◌∷◌, ◌++◌, length, take, drop, Ok, Err, refl, sym, ap, ◌∙◌, subst, arith, inr, Result}
use Rattle.std.proofs.lemmas.List.{append_assoc, append-nil, length-append, length-take-le, take_all, take-append-drop, take-append-le}
use Rattle.std.proofs.Math.Seq.{take-append-add}
use Rattle.jpg_spec_write.specs.CommentText.{IsInsertFault, IsInserted, inserted_head, comment_segment, IsFileFront}
use Rattle.jpg_spec.specs.declared.frame.Limits.{Limits}
use Rattle.jpg_spec.specs.declared.fault.FaultAt.{FaultAt}
use Rattle.jpg_spec.specs.declared.fault.Fault.TheVariants.{InputTooLong}
use Rattle.jpg_base.specs.declared.names.NoMemory.{NoMemory}
use Rattle.jpg_base.specs.declared.stop.Stop.{Stop}
use Rattle.jpg_base.specs.declared.stop.Stop.TheVariants as stop
use Rattle.jpg_markers.specs.Reading.{Reading}
use Rattle.jpg_comments.specs.Appending.{AppendsText}
use Rattle.jpg_comments.specs.SegmentsSoFar.{Appends}
use Rattle.jpg_comments.specs.Inserting.{copied_head, IsAtFrame, CopiesRest, InsertsLess, InsertsToFault}
use Rattle.jpg_spec.proofs.Basics.Common.{whole_front}

-- AFTER IT

-- why it stops, of all bytes
abbrev pub CopiesUpTo : Limits → List ℕ → Bool → List ℕ → List ℕ → Stop → Type 0
CopiesUpTo limits comment replace bytes text (stop.Fault f) = InsertsToFault limits comment replace bytes text f
CopiesUpTo limits comment replace bytes text stop.NoMemory = InsertsLess limits comment replace bytes text

-- what an answer of `copy` says of them
abbrev pub AfterCopy : Limits → List ℕ → Bool → List ℕ → List ℕ → Result ℕ Stop → Type 0
AfterCopy limits comment replace bytes text (Ok n) = (n ≡ length bytes) × (length bytes < limits.input) × IsInserted limits bytes comment replace text
AfterCopy limits comment replace bytes text (Err s) = CopiesUpTo limits comment replace bytes text s

abbrev pub whole_head : List ℕ → List ℕ → ℕ → List ℕ
whole_head head segment code = head ++ segment ++ 255 ∷ code ∷ []

module _ (limits : Limits) (comment : List ℕ) (replace : Bool) where
  -- more bytes are written as they arrive
  pub inserted_more : (bytes text more : List ℕ) → IsInserted limits bytes comment replace text
      → IsInserted limits (bytes ++ more) comment replace (text ++ more)
  inserted_more bytes text more h = (
    h.0,
    h.1,
    h.2,
    h.3 ++ more,
    ap (λ l. l ++ more) h.4 ∙ append_assoc h.2 h.3 more,
    h.5,
    ap (λ l. l ++ more) h.6 ∙ append_assoc (inserted_head comment replace h.0 h.1) h.3 more,
  )

  -- as many bytes as may be taken, and a head among them
  long_inserted : (bytes text : List ℕ) → limits.input ≤ length bytes → IsInserted limits (take (limits.input) bytes) comment replace text
      → IsInsertFault limits bytes InputTooLong (limits.input)
  long_inserted bytes text long h =
      let e = ap length h.4 in
      let n = length h.2 in
      let fits : n ≤ limits.input = omega (arith, e, long, length-append h.2 h.3, length-take-le (limits.input) bytes long) in
      let is : take n bytes ≡ h.2 =
      ap (take n) (sym (take-append-drop (limits.input) bytes)) ∙ ap (λ l. take n (l ++ drop (limits.input) bytes)) h.4
      ∙ ap (take n) (append_assoc h.2 h.3 (drop (limits.input) bytes)) ∙ whole_front h.2 (h.3 ++ drop (limits.input) bytes) in
      inr (refl, refl, long, (h.1, h.0, n, fits, subst (λ l. IsFileFront limits l h.0 h.1) (sym is) h.5))

  -- and more bytes after them
  long_anyhow : (bytes text : List ℕ) (f : FaultAt) → f.fault ≡ InputTooLong → f.at ≡ limits.input → limits.input ≤ length bytes
      → IsInserted limits (take (limits.input) bytes) comment replace text → (more : List ℕ) → IsInsertFault limits (bytes ++ more) f.fault (f.at)
  long_anyhow bytes text f is at long h = λ more.
      let same = sym (take-append-le (limits.input) bytes more long) in
      let fault = long_inserted (bytes ++ more) text (omega (arith, long, length-append bytes more)) (subst (λ l. IsInserted limits l comment replace text) same h) in
      subst (λ x. IsInsertFault limits (bytes ++ more) x (f.at)) (sym is) (subst (λ k. IsInsertFault limits (bytes ++ more) InputTooLong k) (sym at) fault)

  pub copied : (bytes text rest old new : List ℕ) (taken most : ℕ) (result : Result ℕ Stop) → limits.input ≡ most → taken ≡ length bytes
      → length bytes ≤ limits.input → IsInserted limits bytes comment replace text → CopiesRest taken most rest result old new
      → Appends (λ all. AfterCopy limits comment replace (bytes ++ rest) all result) text old new
  copied bytes text rest old new taken most (Ok n) same is least h copies =
      let count = copies.0 in let short = copies.1 in
      (rest, copies.2, (omega (arith, count, is, length-append bytes rest), omega (arith, count, is, short, same, length-append bytes rest), inserted_more bytes text rest h))
  copied bytes text rest old new taken most (Err (stop.Fault f)) same is least h copies =
      let n = most - taken in
      let at : f.at ≡ limits.input = copies.1 ∙ sym same in
      let many = copies.2 in
      let all : length bytes + n ≡ limits.input = omega (arith, is, least, same) in
      let long : limits.input ≤ length (bytes ++ rest) = omega (arith, many, is, same, length-append bytes rest) in
      let front : bytes ++ take n rest ≡ take (limits.input) (bytes ++ rest) = sym (take-append-add bytes rest n) ∙ ap (λ k. take k (bytes ++ rest)) all in
      let written = subst (λ l. IsInserted limits l comment replace (text ++ take n rest)) front (inserted_more bytes text (take n rest) h) in
      let fault = long_anyhow (bytes ++ rest) (text ++ take n rest) f copies.0 at long written in
      (take n rest, copies.3, (fault, inr (copies.0, subst (λ k. IsInserted limits (take k (bytes ++ rest)) comment replace (text ++ take n rest)) (sym at) written)))
  copied bytes text rest old new taken most (Err stop.NoMemory) same is least h copies =
      let all = bytes ++ rest in
      let some = copies.1 in (
        [],
        copies.0 ∙ sym (append-nil old),
        (
          length text,
          length all,
          text ++ rest,
          subst (λ l. IsInserted limits l comment replace (text ++ rest)) (sym (take_all (length all) all (omega arith))) (inserted_more bytes text rest h),
          append-nil text ∙ sym (whole_front text rest),
          omega (arith, some, length-append text rest),
        ),
      )

  -- THE HEAD, where its marker is there

  pub head_inserted : (bytes head segment : List ℕ) (r : Reading) → segment ≡ comment_segment comment → IsAtFrame limits replace bytes head r
      → IsInserted limits bytes comment replace (whole_head head segment r.code)
  head_inserted bytes head segment r same h = (
    h.0,
    r.code,
    bytes,
    [],
    sym (append-nil bytes),
    h.1,
    ap (λ l. l ++ segment ++ 255 ∷ r.code ∷ []) h.2 ∙ ap (λ l. copied_head replace h.0 ++ l ++ 255 ∷ r.code ∷ []) same ∙ sym (append-nil (inserted_head comment replace h.0 r.code)),
  )

  -- if there is no memory, a first part of it was written
  pub head_part : (bytes rest whole old new : List ℕ) (e : NoMemory) → IsInserted limits bytes comment replace whole → AppendsText whole (Err e) old new
      → Appends (λ all. InsertsLess limits comment replace (bytes ++ rest) all) [] old new
  head_part bytes rest whole old new e h part =
      (take part.0 whole, part.1, (part.0, length bytes, whole, subst (λ l. IsInserted limits l comment replace whole) (sym (whole_front bytes rest)) h, refl, part.2))
