-- The result of the pieces of a file up to the marker of its frame header, where a comment is inserted.
use Rattle.std.proofs.Common.{◌⊎◌, ◌≡◌, ℕ, ◌<◌, ◌≤◌, Bool, false, List, [], ◌++◌, length, take, Option, None, Some, Result, Ok, Err, refl, sym, ap, ◌∙◌, subst, arith, inl, inr}
use Rattle.std.proofs.lemmas.List.{append-nil, length-append, length-take, take_all, take-append-le}
use Rattle.std.specs.Io.KnownBytes.{Consumes, IsAtEnd}
use Rattle.jpg_base.specs.Desk.{DeskState, Rose}
use Rattle.jpg_spec.specs.Segments.{standard_limits}
use Rattle.jpg_spec_write.specs.CommentText.{IsHeadFault, IsInserted, RevealsNothing}
use Rattle.jpg_spec_words.specs.declared.answers.Why.{Why}
use Rattle.jpg_spec_words.specs.declared.answers.Why.TheVariants as why
use Rattle.jpg_spec_words.specs.declared.answers.Which.TheVariants as which
use Rattle.jpg_spec.specs.declared.frame.Limits.{Limits}
use Rattle.jpg_markers.specs.Reading.{reading_of}
use Rattle.jpg_comments.specs.SegmentsSoFar.{Appends}
use Rattle.jpg_comments.specs.Inserting.{HoldsHead}
use Rattle.jpg_comments.specs.WriteInserted.{HasInserted, StandsAt}
use Rattle.jpg_comments.specs.declared.insert.Insert.{Insert}
use Rattle.jpg_desk.specs.Reading.{rest_of}
use Rattle.jpg_cli.specs.Tools.InsertComment.{AfterAll, AfterFed, EndsBefore, IsAtHead}
use Rattle.jpg_cli.proofs.Comments.CommentsRead.{fault_last, fault_within, no_fault_shown}
use Rattle.jpg_cli.proofs.Comments.CommentsCopied.{text_added}
use Rattle.jpg_desk.proofs.PiecesRead.{none_read}
use Rattle.jpg_desk.proofs.Input.{none_left}
use Rattle.jpg_cli.proofs.Comments.InsertedCopied.{inserted_so_far, not_none, stands}
use Rattle.jpg_spec.proofs.Basics.Common.{take_shorter}
use Rattle.jpg_comments.proofs.Taken.{upto}

-- A file with a comment inserted is never empty.
pub text_is_some : (bytes comment text : List ℕ) (replace : Bool) → IsInserted standard_limits bytes comment replace text → 0 < length text
text_is_some bytes comment text replace (before, code, front, rest, cut, head, is) = subst (λ (t : List ℕ). 0 < length t) (sym is) (omega arith)

-- BEFORE THE MARKER

-- what is known of bytes for which nothing was written
pub record Nothing (bytes : List ℕ) (c : Insert) : Type 0 where
  pub shows : RevealsNothing standard_limits (HoldsHead standard_limits) bytes
  pub short : length bytes < standard_limits.input
  pub taken : (reading_of c.reader).taken ≡ length bytes

pub nothing_there : (comment bytes : List ℕ) (c : Insert) → c.limits ≡ standard_limits → HasInserted comment bytes [] c → Nothing bytes c
nothing_there comment bytes c e h = by c.taken (stands comment bytes [] c e h)
  where
    by : (taken : Option ℕ) → StandsAt standard_limits comment c.replace bytes [] taken c.head (reading_of c.reader) → Nothing bytes c
    by None s = record { shows = s.0.1.nothing; short = subst (λ (l : Limits). length bytes < l.input) e h.1; taken = s.0.1.taken }
    by (Some taken) s = absurd (not_none [] refl (text_is_some bytes comment [] c.replace s.1))

pub head_unread : (comment bytes : List ℕ) (s0 s1 : DeskState) (c : Insert) → c.limits ≡ standard_limits → HasInserted comment bytes [] c → Rose s0.counts.reads s1.counts.reads → s1.left ≡ s0.left → EndsBefore bytes s0 (why.ReadFault which.Input) s1
head_unread comment bytes s0 s1 c e h rose left = (let nothing = nothing_there comment bytes c e h in (left, (nothing.shows, nothing.short), rose))

-- AT THE MARKER

-- If bytes before the last piece have neither a fault nor the marker, a file with a comment inserted has the marker in
-- the last piece.
head_in_piece : (bytes piece comment text : List ℕ) (replace : Bool) (k : ℕ) → RevealsNothing standard_limits (HoldsHead standard_limits) bytes → length piece ≤ 65536
    → IsInserted standard_limits (take k (bytes ++ piece)) comment replace text → IsAtHead (bytes ++ piece)
head_in_piece bytes piece comment text replace k nothing short (before, code, front, rest, cut, head, is) = by (upto (length front) (length bytes))
  where
    all : List ℕ
    all = bytes ++ piece

    long : length front ≤ length (take k all)
    long = omega (arith, ap length cut, length-append front rest)

    front_is : take (length front) all ≡ front
    front_is =
        sym (take_shorter (length front) k all (omega (arith, long, length-take k all))) ∙ ap (take (length front)) cut
        ∙ take-append-le (length front) front rest (omega arith) ∙ take_all (length front) front (omega arith)

    holds : HoldsHead standard_limits (take (length front) all)
    holds = subst (λ (b : List ℕ). HoldsHead standard_limits b) (sym front_is) (code, (before, head))

    by : (length front ≤ length bytes) ⊎ (length bytes < length front) → IsAtHead (bytes ++ piece)
    by (inl l) = absurd ((nothing (length front) l).1 (subst (λ (b : List ℕ). HoldsHead standard_limits b) (take-append-le (length front) bytes piece l) holds))
    by (inr l) = (length front, omega (arith, long, length-take k all), omega (arith, l, short, length-append bytes piece), holds)

pub fed_at_head : (bytes piece comment text : List ℕ) (replace : Bool) (due : Result Bool Why) (c : Insert) → c.limits ≡ standard_limits → 0 < length text → RevealsNothing standard_limits (HoldsHead standard_limits) bytes → length piece ≤ 65536
    → AfterFed comment replace (bytes ++ piece) text due c → IsAtHead (bytes ++ piece)
fed_at_head bytes piece comment text replace (Ok false) c e some nothing short h =
    let all = bytes ++ piece in
    let is = inserted_so_far comment all text c e some h in
    head_in_piece bytes piece comment text c.replace (length all) nothing short (subst (λ (b : List ℕ). IsInserted standard_limits b comment c.replace text) (sym (take_all (length all) all (omega arith))) is)
fed_at_head bytes piece comment text replace (Err (why.Refused f)) c e some nothing short (of, inl (none, faults)) = absurd (not_none text none some)
fed_at_head bytes piece comment text replace (Err (why.Refused f)) c e some nothing short (of, inr (long, is)) = head_in_piece bytes piece comment text replace f.at nothing short is
fed_at_head bytes piece comment text replace (Err why.NoMemory) c e some nothing short (inl none) = absurd (not_none text none some)
fed_at_head bytes piece comment text replace (Err why.NoMemory) c e some nothing short (inr (n, front, whole, is, part, less)) = head_in_piece bytes piece comment whole replace front nothing short is
fed_at_head bytes piece comment text replace other c e some nothing short h = absurd h

-- what a piece appended is all of the pending text
pub fed_text : (comment all old out : List ℕ) (replace : Bool) (due : Result Bool Why) (c : Insert) → old ≡ [] → Appends (λ text. AfterFed comment replace all text due c) [] old out → AfterFed comment replace all out due c
fed_text comment all old out replace due c empty h = subst (λ (text : List ℕ). AfterFed comment replace all text due c) (text_added old out h.0 empty h.1) h.2

-- WHERE NOTHING IS WRITTEN

module _ (s0 s1 : DeskState) (piece comment bytes text : List ℕ) where
  pub ended : (replace : Bool) (w : Why) (was c : Insert) → length (bytes ++ piece) ≤ standard_limits.input → was.limits ≡ standard_limits → length piece ≤ 65536 → HasInserted comment bytes [] was → Consumes s0.left s1.left piece
      → AfterFed comment replace (bytes ++ piece) text (Err w) c → text ≡ [] → EndsBefore bytes s0 w s1
  ended replace (why.Refused f) was c most e short h read (of, inl (empty, faults)) none =
      let nothing = nothing_there comment bytes was e h in
      let within = fault_within (HoldsHead standard_limits) ((bytes ++ piece) ++ []) f.fault f.at (faults []) in
      let last = fault_last (HoldsHead standard_limits) bytes piece f nothing.shows nothing.short short (faults []) in
      (piece, read, most, (faults (rest_of s1.left), omega (arith, within, length-append (bytes ++ piece) []), last))
  ended replace (why.Refused f) was c most e short h read (of, inr (long, is)) none = absurd (not_none text none (text_is_some (take f.at (bytes ++ piece)) comment text replace is))
  ended replace why.NoMemory was c most e short h read fed none =
      let nothing = nothing_there comment bytes was e h in
      let at = length bytes in (
        piece,
        read,
        most,
        (
          at,
          omega (arith, length-append bytes piece),
          omega (arith, short, length-append bytes piece),
          subst (λ (b : List ℕ). RevealsNothing standard_limits (HoldsHead standard_limits) b) (sym (take-append-le at bytes piece (omega arith) ∙ take_all at bytes (omega arith))) nothing.shows,
        ),
      )
  ended replace other was c most e short h read fed none = absurd fed

pub head_whole : (comment bytes : List ℕ) (replace : Bool) → AfterAll comment replace bytes [] (Ok None) → ⊥
head_whole comment bytes replace a = not_none [] refl (text_is_some bytes comment [] replace a.0)

pub head_ends : (s0 s1 : DeskState) (comment bytes : List ℕ) (replace : Bool) (w : Why) (was : Insert) → was.limits ≡ standard_limits → HasInserted comment bytes [] was → IsAtEnd s0.left → s1.left ≡ s0.left → AfterAll comment replace bytes [] (Err w) → EndsBefore bytes s0 w s1
head_ends s0 s1 comment bytes replace (why.Refused f) was e h end left a =
    let nothing = nothing_there comment bytes was e h in
    let none : rest_of s1.left ≡ [] = ap rest_of left ∙ none_left s0.left end in
    let same : (bytes ++ []) ++ rest_of s1.left ≡ bytes = ap (λ (r : List ℕ). (bytes ++ []) ++ r) none ∙ append-nil (bytes ++ []) ∙ append-nil bytes in
    let at = no_fault_shown (HoldsHead standard_limits) bytes f nothing.shows nothing.short a.0 in (
      [],
      (let P : Option (List ℕ) → Type 0 = λ l. Consumes s0.left l [] in subst P (sym left) (none_read s0.left)),
      (let short = nothing.short in omega (arith, short, ap length (append-nil bytes))),
      (subst (λ (b : List ℕ). IsHeadFault standard_limits b f.fault f.at) (sym same) a.0, omega (arith, at, ap length (append-nil bytes)), omega (arith, at, ap length (append-nil bytes))),
    )
head_ends s0 s1 comment bytes replace other was e h end left a = absurd a
