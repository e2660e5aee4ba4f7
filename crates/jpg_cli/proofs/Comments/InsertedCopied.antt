-- The text of a file with a comment inserted, so far, in part and where it ends.
use Rattle.std.proofs.Common.{◌⊎◌, ◌≡◌, ℕ, ◌<◌, ◌≤◌, Bool, true, false, List, [], ◌++◌, length, take, Option, None, Some, Result, Ok, Err, sym, ap, ◌∙◌, subst, arith, inl, inr}
use Rattle.std.proofs.lemmas.List.{length-append, take_all, take-append-le}
use Rattle.jpg_base.specs.declared.stop.Stop.{Stop}
use Rattle.jpg_base.specs.declared.stop.Stop.TheVariants as stop
use Rattle.jpg_spec.specs.Segments.{standard_limits}
use Rattle.jpg_spec_write.specs.CommentText.{IsInserted, IsInsertFault}
use Rattle.jpg_spec.specs.declared.fault.Fault.TheVariants.{InputTooLong}
use Rattle.jpg_spec.specs.declared.fault.FaultAt.{FaultAt}
use Rattle.jpg_spec_words.specs.declared.answers.Why.{Why}
use Rattle.jpg_spec_words.specs.declared.answers.Why.TheVariants as why
use Rattle.jpg_spec.specs.declared.frame.Limits.{Limits}
use Rattle.jpg_markers.specs.Reading.{Reading, reading_of}
use Rattle.jpg_comments.specs.Inserting.{HoldsHead, InsertsLess, InsertsToFault}
use Rattle.jpg_comments.specs.WriteInserted.{AfterInsert, EndsInsert, HasInserted, StandsAt}
use Rattle.jpg_comments.specs.declared.insert.Insert.{Insert}
use Rattle.jpg_desk.specs.Pump.{why_stopped}
use Rattle.jpg_cli.specs.Tools.InsertComment.{AfterAll, AfterFed, IsFileLess, IsFilePart, IsLongFile}
use Rattle.jpg_cli.proofs.Comments.CommentsRead.{fault_within, take_again}

-- THE TEXT

pub not_none : (text : List ℕ) → text ≡ [] → 0 < length text → ⊥
not_none text e l = (let n : length text ≡ 0 = ap length e in omega (arith, n, l))

-- no text, or a first part of one
abbrev pub IsPart : List ℕ → Bool → List ℕ → List ℕ → Type 0
IsPart comment replace bytes text = (text ≡ []) ⊎ IsFilePart comment replace bytes text

stands_part : (comment bytes text head : List ℕ) (replace : Bool) (taken : Option ℕ) (r : Reading) → StandsAt standard_limits comment replace bytes text taken head r → IsPart comment replace bytes text
stands_part comment bytes text head replace None r h = inl h.1
stands_part comment bytes text head replace (Some taken) r h =
    inr (length text, length bytes, text, subst (λ (b : List ℕ). IsInserted standard_limits b comment replace text) (sym (take_all (length bytes) bytes (omega arith))) h.1, sym (take_all (length text) text (omega arith)))

stands_whole : (comment bytes text head : List ℕ) (replace : Bool) (taken : Option ℕ) (r : Reading) → 0 < length text → StandsAt standard_limits comment replace bytes text taken head r → IsInserted standard_limits bytes comment replace text
stands_whole comment bytes text head replace None r some h = absurd (not_none text h.1 some)
stands_whole comment bytes text head replace (Some taken) r some h = h.1

pub stands : (comment bytes text : List ℕ) (c : Insert) → c.limits ≡ standard_limits → HasInserted comment bytes text c → StandsAt standard_limits comment c.replace bytes text c.taken c.head (reading_of c.reader)
stands comment bytes text c e h = subst (λ (l : Limits). StandsAt l comment c.replace bytes text c.taken c.head (reading_of c.reader)) e h.3

pub inserted_so_far : (comment bytes text : List ℕ) (c : Insert) → c.limits ≡ standard_limits → 0 < length text → HasInserted comment bytes text c → IsInserted standard_limits bytes comment c.replace text
inserted_so_far comment bytes text c e some h = stands_whole comment bytes text c.head c.replace c.taken (reading_of c.reader) some (stands comment bytes text c e h)

pub fed_part : (comment bytes text : List ℕ) (replace : Bool) (due : Result Bool Why) (c : Insert) → c.limits ≡ standard_limits → c.replace ≡ replace → AfterFed comment replace bytes text due c → IsPart comment replace bytes text
fed_part comment bytes text replace (Ok false) c e same h =
    subst (λ (b : Bool). IsPart comment b bytes text) same (stands_part comment bytes text c.head c.replace c.taken (reading_of c.reader) (stands comment bytes text c e h))
fed_part comment bytes text replace (Ok true) c e same h = absurd h
fed_part comment bytes text replace (Err (why.Refused f)) c e same (of, inl (none, faults)) = inl none
fed_part comment bytes text replace (Err (why.Refused f)) c e same (of, inr (long, is)) = inr (length text, f.at, text, is, sym (take_all (length text) text (omega arith)))
fed_part comment bytes text replace (Err why.NoMemory) c e same (inl none) = inl none
fed_part comment bytes text replace (Err why.NoMemory) c e same (inr (n, front, whole, is, part, less)) = inr (n, front, whole, is, part)
fed_part comment bytes text replace (Err other) c e same h = absurd h

-- where there is no memory
not_all : (comment bytes piece text : List ℕ) (replace : Bool) (c : Insert) → c.limits ≡ standard_limits → c.replace ≡ replace → AfterInsert comment bytes piece text (Err stop.NoMemory) c
    → (text ≡ []) ⊎ IsFileLess comment replace (bytes ++ piece) text
not_all comment bytes piece text replace c e same (inl h) = inl h.0
not_all comment bytes piece text replace c e same (inr h) =
    inr (subst (λ (b : Bool). InsertsLess standard_limits comment b (bytes ++ piece) text) same (subst (λ (l : Limits). InsertsLess l comment c.replace (bytes ++ piece) text) e h))

-- where it stops
pub stop_fed : (comment bytes piece text : List ℕ) (replace : Bool) (end : Stop) (c : Insert) → c.limits ≡ standard_limits → c.replace ≡ replace → AfterInsert comment bytes piece text (Err end) c → AfterFed comment replace (bytes ++ piece) text (Err (why_stopped end)) c
stop_fed comment bytes piece text replace (stop.Fault f) c e same h =
    subst (λ (b : Bool). InsertsToFault standard_limits comment b (bytes ++ piece) text f) same (subst (λ (l : Limits). InsertsToFault l comment c.replace (bytes ++ piece) text f) e h)
stop_fed comment bytes piece text replace stop.NoMemory c e same h = not_all comment bytes piece text replace c e same h

pub stop_ended : (comment bytes text : List ℕ) (replace : Bool) (end : Stop) → EndsInsert standard_limits comment replace bytes text (Err end) → AfterAll comment replace bytes text (Err (why_stopped end))
stop_ended comment bytes text replace (stop.Fault f) h = h
stop_ended comment bytes text replace stop.NoMemory h = absurd h

-- if there is a text, the marker is in the bytes
pub file_part : (comment bytes text : List ℕ) (replace : Bool) → 0 < length text → IsPart comment replace bytes text → IsFilePart comment replace bytes text
file_part comment bytes text replace some (inl none) = absurd (not_none text none some)
file_part comment bytes text replace some (inr h) = h

pub file_less : (comment bytes text : List ℕ) (replace : Bool) → 0 < length text → (text ≡ []) ⊎ IsFileLess comment replace bytes text → IsFileLess comment replace bytes text
file_less comment bytes text replace some (inl none) = absurd (not_none text none some)
file_less comment bytes text replace some (inr h) = h

pub part_of_part : (comment bytes text : List ℕ) (replace : Bool) (k : ℕ) → IsFilePart comment replace bytes text → IsFilePart comment replace bytes (take k text)
part_of_part comment bytes text replace k (n, front, whole, is, e) = (let again = take_again k n whole in (again.0, front, whole, is, ap (take k) e ∙ again.1))

-- fewer bytes than may be taken
pub fed_short : (comment bytes text : List ℕ) (c : Insert) → c.limits ≡ standard_limits → HasInserted comment bytes text c → length bytes < standard_limits.input
fed_short comment bytes text c e h = subst (λ (l : Limits). length bytes < l.input) e h.1

-- as many bytes as may be taken are there
long_within : (bytes : List ℕ) (f : FaultAt) → IsInsertFault standard_limits (bytes ++ []) f.fault f.at → f.at ≤ length bytes
long_within bytes f (inl h) = omega (arith, fault_within (HoldsHead standard_limits) (bytes ++ []) f.fault f.at h, length-append bytes [])
long_within bytes f (inr (is, at, most, there)) = omega (arith, at, most, length-append bytes [])

pub long_file : (comment bytes text rest : List ℕ) (replace : Bool) (f : FaultAt) → ((rest : List ℕ) → IsInsertFault standard_limits (bytes ++ rest) f.fault f.at) → f.fault ≡ InputTooLong
    → IsInserted standard_limits (take f.at bytes) comment replace text → IsLongFile comment replace f rest bytes text
long_file comment bytes text rest replace f of long is =
    (of rest, long, subst (λ (b : List ℕ). IsInserted standard_limits b comment replace text) (sym (take-append-le f.at bytes rest (long_within bytes f (of [])))) is)
