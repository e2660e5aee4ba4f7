-- WHAT A READER ANSWERS to the bytes up to the next marker after a scan, and to all of them if there is none.
use Rattle.std.proofs.Common.{◌≡◌, ℕ, suc, ◌+◌, ◌<◌, ◌≤◌, List, ◌++◌, length, take, drop, sym, ap, ◌∙◌, subst, arith, inl, inr, Ok, Err}
use Rattle.std.specs.Prelude.{◌⊎◌}
use Rattle.std.proofs.Math.Seq.{take_all}
use Rattle.std.proofs.lemmas.List.{append_assoc, length-append, length-take-le, take-append-drop}
use Rattle.std.proofs.lemmas.Bool.{cases_lt}
use Rattle.jpg_spec_image.specs.Front.{EndsNotBefore, EndsScan}
use Rattle.jpg_spec.specs.FirstFault.{HaveBegun}
use Rattle.jpg_base.specs.declared.stop.Fed.TheVariants as fed
use Rattle.jpg_base.specs.declared.stop.Stop.{Stop}
use Rattle.jpg_base.specs.declared.stop.Stop.TheVariants as stop
use Rattle.jpg_file.specs.Read.ReadFile.{HasRead, IsEarlyEnd, ReaderState}
use Rattle.jpg_file.specs.Read.ScanPieces.{AfterFeedScan, NoScanEnds, ScanEnds}
use Rattle.jpg_file.specs.declared.read.pieces.FedScan.TheVariants as came
use Rattle.jpg_preview.specs.Viewing.{AfterPiece, HasScans, IsShown, LacksScans, Views}
use Rattle.jpg_preview.proofs.ScansCounted.{none_on, unwanted, wanted_end}
use Rattle.jpg_preview.proofs.ViewSteps.{fewer_none, none_of_part, stops_front}

length_used : (bytes next : List ℕ) (k : ℕ) → k ≤ length next → length (bytes ++ take k next) ≡ length bytes + k
length_used bytes next k few = length-append bytes (take k next) ∙ ap (λ n. length bytes + n) (length-take-le k next few)

module _ (scans : ℕ) (old new : ReaderState) (next : List ℕ) (same : new.limits ≡ old.limits) (bytes : List ℕ) (v : Views scans bytes old) where
  none_all : (early : ℕ) → NoScanEnds new.limits bytes next early → EndsNotBefore new.limits scans (bytes ++ next) (suc (length bytes + early))
  none_all early k = none_on new.limits scans early bytes next k (subst (λ l. EndsNotBefore l scans bytes (suc (length bytes))) (sym same) v.none)

  -- of those that were used
  used_none : (used n : ℕ) → used ≤ length next → n ≤ suc (length bytes + used) → EndsNotBefore new.limits scans (bytes ++ next) n → EndsNotBefore new.limits scans (bytes ++ take used next) n
  used_none used n few low none =
      let long = length_used bytes next used few in
      let split : bytes ++ next ≡ (bytes ++ take used next) ++ drop used next = ap (λ l. bytes ++ l) (sym (take-append-drop used next)) ∙ sym (append_assoc bytes (take used next) (drop used next)) in
      none_of_part new.limits scans (bytes ++ take used next) (drop used next) n (omega (arith, low, long)) (subst (λ l. EndsNotBefore new.limits scans l n) split none)

  -- none ends before the last of them
  before_last : (used early : ℕ) → used ≤ length next → used ≡ early + 1 → NoScanEnds new.limits bytes next early → EndsNotBefore new.limits scans (bytes ++ take used next) (length (bytes ++ take used next))
  before_last used early few count k =
      let long = length_used bytes next used few in
      let all = none_all early k in
      let n = length bytes + used in
      let z : suc (length bytes + early) ≡ n = omega (arith, count) in
      subst (EndsNotBefore new.limits scans (bytes ++ take used next)) (sym long) (used_none used n few (omega arith) (subst (EndsNotBefore new.limits scans (bytes ++ next)) z all))

  pub part_more : AfterFeedScan bytes next (Ok came.More) new → AfterPiece scans bytes next (Ok fed.More) new
  part_more k = record { read = k.0; none = subst (λ m. EndsNotBefore new.limits scans (bytes ++ next) m) (ap suc (sym (length-append bytes next))) (none_all (length next) k.1) }

  pub part_done : (used : ℕ) → AfterFeedScan bytes next (Ok (came.Done used)) new → AfterPiece scans bytes next (Ok (fed.Done used)) new
  part_done used k =
      let last = k.2 in
      let count = last.1 in
      (record { meaning = inl k.0; first = before_last used last.0 k.1 last.1 last.2 }, omega (arith, count), k.1)

  pub part_stop : (s : Stop) → AfterFeedScan bytes next (Err s) new → AfterPiece scans bytes next (Err s) new
  part_stop (stop.Fault f) k =
      let fault = k.0 in
      let none = k.1 in
      let low = none.1 in
      (stops_front new.limits scans (bytes ++ next) f fault.0 (fewer_none new.limits scans (bytes ++ next) f.at (suc (length bytes + none.0)) (omega (arith, low)) (none_all none.0 none.2)), fault.1, fault.2)
  part_stop stop.NoMemory k = k

  -- where the data of a scan ended
  module _ (used : ℕ) (k : ScanEnds new.limits bytes next used) where
    first : EndsNotBefore new.limits scans (bytes ++ take used next) (length (bytes ++ take used next))
    first = before_last used k.early k.within k.count k.none

    -- it isn't wanted
    pub scan_goes : HasRead (bytes ++ take used next) new → LacksScans scans new.limits (bytes ++ take used next) ⊎ (HaveBegun new.limits (bytes ++ take used next) → ⊥) → Views scans (bytes ++ take used next) new
    scan_goes read why = record { read = read; none = λ m less e. by m less e (cases_lt m (length (bytes ++ take used next))) }
      where
        by : (m : ℕ) → m < suc (length (bytes ++ take used next)) → EndsScan new.limits scans (take m (bytes ++ take used next)) → (m < length (bytes ++ take used next)) ⊎ (length (bytes ++ take used next) ≤ m) → ⊥
        by m less e (inl few) = first m few e
        by m less e (inr all) = unwanted new.limits scans (bytes ++ take used next) why (subst (EndsScan new.limits scans) (take_all m (bytes ++ take used next) all) e)

    -- the front ends there
    pub scan_shown : IsEarlyEnd (bytes ++ take used next) new → HasScans scans new.limits (bytes ++ take used next) × HaveBegun new.limits (bytes ++ take used next) → IsShown scans (bytes ++ take used next) new
    scan_shown early w = record { meaning = inr (early, wanted_end new.limits scans bytes next used k w.0 w.1); first = first }
