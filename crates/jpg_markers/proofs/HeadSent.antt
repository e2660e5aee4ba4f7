-- A head that is sent part by part.
use Rattle.std.proofs.Common.{◌≡◌, ℕ, List, [], ◌++◌, length, Result, Ok, Err, refl, subst}
use Rattle.jpg_base.specs.Desk.{DeskState}
use Rattle.jpg_base.specs.declared.stop.WriteFault.{WriteFault}
use Rattle.jpg_huff.specs.BitOut.{Sends}
use Rattle.jpg_huff.specs.Waiting.{Waiting}
use Rattle.jpg_huff.proofs.InParts.{DoneButFor, of_bytes, part_start, part_then, part_last, part_fault}
use Rattle.jpg_huff.proofs.Together.{sends_nothing}
use Rattle.jpg_spec_write.specs.FileText.{distinct_after, front_text}
use Rattle.jpg_spec.specs.Segments.{QuantTable}
use Rattle.jpg_markers.specs.OutHead.{head_meaning}
use Rattle.jpg_markers.specs.declared.writing.head.OutHead.{OutHead}
use Rattle.jpg_markers.proofs.HeadText.{head_text, header_of, markers_of, start, tables_text}

abbrev distinct_in : OutHead → List QuantTable
distinct_in head = distinct_after [] head.quants.items

-- what is left before the start, after it, and after the markers
abbrev left_0 : OutHead → List (ℕ × List ℕ) → List ℕ
left_0 head kept = start ++ (markers_of head kept ++ (tables_text (distinct_in head) ++ header_of head (distinct_in head)))

abbrev left_1 : OutHead → List (ℕ × List ℕ) → List ℕ
left_1 head kept = markers_of head kept ++ (tables_text (distinct_in head) ++ header_of head (distinct_in head))

abbrev left_2 : OutHead → List ℕ
left_2 head = tables_text (distinct_in head) ++ header_of head (distinct_in head)

module _ (s0 : DeskState) (old : Waiting) (head : OutHead) (kept : List (ℕ × List ℕ)) (none : old.bits ≡ [])
    (l : length head.quants.items ≡ length head.frame.components) where
  abbrev all : List ℕ
  all = front_text (head_meaning head kept)

  before : DoneButFor Sends s0 old all (left_0 head kept) old s0
  before = part_start Sends s0 old all (left_0 head kept) (sends_nothing s0 old none) (head_text head kept l)

  pub no_start : (s1 : DeskState) (new : Waiting) (fault : WriteFault) → Sends s0 old start (Err fault) new s1 → Sends s0 old all (Err fault) new s1
  no_start s1 new fault k = part_fault Sends of_bytes s0 s0 s1 old old new all (left_0 head kept) start (left_1 head kept) fault refl before k

  started : (s1 : DeskState) (mid : Waiting) → Sends s0 old start (Ok tt) mid s1 → DoneButFor Sends s0 old all (left_1 head kept) mid s1
  started s1 mid k = part_then Sends of_bytes s0 s0 s1 old old mid all (left_0 head kept) start (left_1 head kept) refl before k

  module _ (s1 : DeskState) (first : Waiting) (h : Sends s0 old start (Ok tt) first s1) where
    pub no_markers : (s2 : DeskState) (new : Waiting) (fault : WriteFault) → Sends s1 first (markers_of head kept) (Err fault) new s2 → Sends s0 old all (Err fault) new s2
    no_markers s2 new fault k = part_fault Sends of_bytes s0 s1 s2 old first new all (left_1 head kept) (markers_of head kept) (left_2 head) fault refl (started s1 first h) k

    module _ (s2 : DeskState) (second : Waiting) (i : Sends s1 first (markers_of head kept) (Ok tt) second s2) where
      marked : DoneButFor Sends s0 old all (left_2 head) second s2
      marked = part_then Sends of_bytes s0 s1 s2 old first second all (left_1 head kept) (markers_of head kept) (left_2 head) refl (started s1 first h) i

      pub no_tables : (s3 : DeskState) (new : Waiting) (fault : WriteFault) (distinct : List QuantTable) → distinct ≡ distinct_in head → Sends s2 second (tables_text distinct) (Err fault) new s3 → Sends s0 old all (Err fault) new s3
      no_tables s3 new fault distinct e k =
          part_fault Sends of_bytes s0 s2 s3 old second new all (left_2 head) (tables_text (distinct_in head)) (header_of head (distinct_in head)) fault refl marked
          (subst (λ d. Sends s2 second (tables_text d) (Err fault) new s3) e k)

      pub whole_head : (s3 s4 : DeskState) (third new : Waiting) (r : Result (Unit {0}) WriteFault) (distinct also : List QuantTable) → distinct ≡ distinct_in head → also ≡ distinct_in head
          → Sends s2 second (tables_text distinct) (Ok tt) third s3 → Sends s3 third (header_of head also) r new s4 → Sends s0 old all r new s4
      whole_head s3 s4 third new r distinct also e f j k =
          part_last Sends of_bytes s0 s3 s4 old third new all (header_of head (distinct_in head)) (header_of head (distinct_in head)) r refl
          (part_then Sends of_bytes s0 s2 s3 old second third all (left_2 head) (tables_text (distinct_in head)) (header_of head (distinct_in head)) refl marked (subst (λ d. Sends s2 second (tables_text d) (Ok tt) third s3) e j))
          (subst (λ d. Sends s3 third (header_of head d) r new s4) f k)
