-- The scan of all components that began in the first bytes of a file: longer bytes have the same one, and no other.
use Rattle.std.proofs.Common.{◌≡◌, ℕ, ◌+◌, ◌-◌, ◌≤◌, Bool, List, ◌++◌, length, take, drop, sym, ap, ◌∙◌, subst, arith}
use Rattle.std.proofs.lemmas.List.{append_assoc, take-append-drop}
use Rattle.std.proofs.Math.Seq.{take-append-add}
use Rattle.jpg_spec.specs.Markers.{Segment}
use Rattle.jpg_spec.specs.RowsParsed.{BeginsScanOfAll}
use Rattle.jpg_spec.specs.Segments.{standard_limits}
use Rattle.jpg_spec.specs.UnfinishedFile.{IsWholeFile}
use Rattle.jpg_spec.specs.Header.{IsHeader}
use Rattle.jpg_spec.specs.Items.{segments_of}
use Rattle.jpg_spec.specs.Meaning.{Meaning}
use Rattle.jpg_spec.proofs.Headers.FileHeader.{file_header}
use Rattle.jpg_spec.proofs.Headers.OneHeader.{whole_once}
use Rattle.jpg_cli.specs.Tools.Showing.{IsShownByRows}

abbrev pub begins_more : (bytes more : List ℕ) (before : List Segment) (contents : List ℕ) → BeginsScanOfAll standard_limits bytes before contents → BeginsScanOfAll standard_limits (bytes ++ more) before contents
begins_more bytes more before contents h = record {
  front = h.front;
  rest = h.rest ++ more;
  cut = ap (λ l. l ++ more) h.cut ∙ append_assoc h.front h.rest more;
  header = h.header;
  unbroken = h.unbroken;
  of_all = h.of_all;
}

pub begins_still : (front rest bytes : List ℕ) (before : List Segment) (contents : List ℕ) → bytes ≡ front ++ rest → BeginsScanOfAll standard_limits front before contents → BeginsScanOfAll standard_limits bytes before contents
begins_still front rest bytes before contents cut h = record {
  front = h.front;
  rest = h.rest ++ rest;
  cut = cut ∙ ap (λ l. l ++ rest) h.cut ∙ append_assoc h.front h.rest rest;
  header = h.header;
  unbroken = h.unbroken;
  of_all = h.of_all;
}

-- two lists of bytes that are continued to the same ones
pub one_head : (a b x y : List ℕ) (before later : List Segment) (contents others : List ℕ) → a ++ x ≡ b ++ y → BeginsScanOfAll standard_limits a before contents → BeginsScanOfAll standard_limits b later others
    → (before ≡ later) × (contents ≡ others)
one_head a b x y before later contents others e h k =
    let cut : h.front ++ (h.rest ++ x) ≡ k.front ++ (k.rest ++ y) =
    sym (append_assoc h.front h.rest x) ∙ ap (λ l. l ++ x) (sym h.cut) ∙ e ∙ ap (λ l. l ++ y) k.cut ∙ append_assoc k.front k.rest y in
    let one = whole_once standard_limits h.front k.front (h.rest ++ x) (k.rest ++ y) before later contents others h.header k.header cut in (one.1, one.2)

-- up to a place that isn't before the end of the bytes
pub begins_upto : (bytes piece : List ℕ) (n : ℕ) (before : List Segment) (contents : List ℕ) → length bytes ≤ n → BeginsScanOfAll standard_limits bytes before contents → BeginsScanOfAll standard_limits (take n (bytes ++ piece)) before contents
begins_upto bytes piece n before contents late h =
    let d = n - length bytes in
    let at : n ≡ length bytes + d = omega (arith, late) in
    begins_still bytes (take d piece) (take n (bytes ++ piece)) before contents (ap (λ k. take k (bytes ++ piece)) at ∙ take-append-add bytes piece d) h

-- one that a prefix of the bytes has
pub shown_before : (gray : Bool) (bytes : List ℕ) (n : ℕ) → IsShownByRows gray (take n bytes) → IsShownByRows gray bytes
shown_before gray bytes n h = record {
  before = h.before;
  contents = h.contents;
  begins = begins_still (take n bytes) (drop n bytes) bytes h.before h.contents (sym (take-append-drop n bytes)) h.begins;
  shown = h.shown;
}

-- one that begins in a complete file and what follows it begins in the file
pub begins_whole : (front rest : List ℕ) (M : Meaning) → IsWholeFile standard_limits front M → (before : List Segment) (contents : List ℕ) → BeginsScanOfAll standard_limits (front ++ rest) before contents
    → BeginsScanOfAll standard_limits front before contents
begins_whole front rest M (w, e) before contents h =
    let k = file_header standard_limits front M w in
    let tail : List ℕ = k.rest ++ (w.marker ++ w.rest) in
    let cut : front ≡ k.head ++ tail = w.cut ∙ append_assoc w.front w.marker w.rest ∙ ap (λ l. l ++ (w.marker ++ w.rest)) k.cut ∙ append_assoc k.head k.rest (w.marker ++ w.rest) in
    let one =
    whole_once standard_limits h.front k.head h.rest (tail ++ rest) before (segments_of k.before) contents k.contents h.header k.header
    (sym h.cut ∙ ap (λ l. l ++ rest) cut ∙ append_assoc k.head tail rest) in
    record { front = k.head; rest = tail; cut = cut; header = subst (λ l. IsHeader standard_limits l before contents) one.0 h.header; unbroken = h.unbroken; of_all = h.of_all }
