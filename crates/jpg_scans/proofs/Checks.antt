-- The check of a script, entry by entry.
use Rattle.std.proofs.Common.{◌≡◌, ℕ, ◌+◌, ◌<◌, ◌≤◌, Bool, true, false, cond, not, ◌&&◌, ◌==◌, List, [], ◌∷◌, length, map, drop, refl, sym, ap, ◌∙◌, subst, arith, Option, None, Some}
use Rattle.std.specs.Prelude.{◌||◌, nat_lt, is_none, is_some}
use Rattle.std.specs.List.{All}
use Rattle.std.proofs.lemmas.List.{length-map}
use Rattle.std.proofs.lemmas.List.Elements.{All-nil, All-cons}
use Rattle.jpg_spec.specs.Lists.{any_of, all_of, is_empty}
use Rattle.jpg_spec.specs.Geometry.{Frame}
use Rattle.jpg_spec.specs.FrameHeader.{is_precision}
use Rattle.jpg_spec.specs.Segments.{ScanHead, head_components}
use Rattle.jpg_spec.specs.ScanContents.{are_parameters}
use Rattle.jpg_spec.specs.InForce.{first_some}
use Rattle.jpg_spec.specs.History.{has_begun, is_next, order_fault}
use Rattle.jpg_spec_write.specs.Script.{Entry}
use Rattle.jpg_spec_write.specs.ScriptFaults.{ascend, entry_head, has_wrong_component, has_large_mcu, is_whole_scan, is_due_scan, entry_fault, fault_after}
use Rattle.jpg_spec.specs.declared.fault.Fault.{Fault}
use Rattle.jpg_spec.specs.declared.fault.Fault.TheVariants.{RepeatedScan, Progression}
use Rattle.jpg_spec.specs.declared.frame.Process.{Process}
use Rattle.jpg_spec.specs.declared.frame.ScanPart.{ScanPart}
use Rattle.jpg_spec_write.specs.declared.picture_fault.PictureFault.{PictureFault}
use Rattle.jpg_spec_write.specs.declared.picture_fault.PictureFault.TheVariants.{ScriptComponent, ScriptMcu, ScriptBand}
use Rattle.jpg_spec.proofs.Basics.Common.{both, neither, lt_of}
use Rattle.jpg_scans.specs.declared.progress.Progress.{Progress}
use Rattle.jpg_scans.specs.Judged.{script_process, script_frame, has_numbers, IsEntryTaken}
use Rattle.jpg_scans.specs.Progress.{RepresentsScans}
use Rattle.jpg_spec_write.proofs.WrittenHeading.{wider}

-- COMPONENTS of an entry

abbrev part_of : ℕ → ScanPart
part_of i = record { component = i; dc = 0; ac = 0 }

named : (xs : List ℕ) → map (λ (p : ScanPart). p.component) (map part_of xs) ≡ xs
named [] = refl
named (i ∷ xs) = ap (λ l. i ∷ l) (named xs)

low : (n : ℕ) (xs : List ℕ) → n ≤ 4 → all_of (λ i. nat_lt i n) xs ≡ true → All (λ (p : ScanPart). p.component < 4) (map part_of xs)
low n [] l e = All-nil (λ (p : ScanPart). p.component < 4)
low n (i ∷ xs) l e =
    let s = both (nat_lt i n) (all_of (λ i. nat_lt i n) xs) e in
    let h = lt_of i n s.0 in
    All-cons (λ (p : ScanPart). p.component < 4) (part_of i) (map part_of xs) (omega (arith, h, l)) (low n xs l s.1)

known_components : (f : Frame) (e : Entry) → has_wrong_component f e ≡ false → all_of (λ i. nat_lt i (length f.components)) e.components ≡ true
known_components f e h =
    let s = neither (is_empty e.components) (not (all_of (λ i. nat_lt i (length f.components)) e.components) || not (ascend e.components)) h in
    let t = neither (not (all_of (λ i. nat_lt i (length f.components)) e.components)) (not (ascend e.components)) s.1 in
    by (all_of (λ i. nat_lt i (length f.components)) e.components) t.0
  where
    by : (b : Bool) → not b ≡ false → b ≡ true
    by true e = refl
    by false e = cc

pub components_low : (f : Frame) (e : Entry) (head : ScanHead) → head ≡ entry_head e → length f.components ≤ 4 → has_wrong_component f e ≡ false → All (λ (p : ScanPart). p.component < 4) head.parts
components_low f e head same l h =
    subst (λ (g : ScanHead). All (λ (p : ScanPart). p.component < 4) g.parts) (sym same) (low (length f.components) e.components l (known_components f e h))

-- A PROCESS of the script's kind

-- allows all precisions
pub script_precision : (is_prog : Bool) (process : Process) (precision : ℕ) → is_precision process precision ≡ true → is_precision (script_process is_prog) precision ≡ true
script_precision true process precision e = wider process precision e
script_precision false process precision e = wider process precision e

-- ITS BAND AND ITS PLACE in the history

progressive_order : (t : Bool) → is_none (cond (not t) (Some Progression) None) ≡ t
progressive_order true = refl
progressive_order false = refl

sequential_order : (t : Bool) → is_none (cond t (Some RepeatedScan) None) ≡ not t
sequential_order true = refl
sequential_order false = refl

due_is : (is_prog : Bool) (f : Frame) (heads : List ScanHead) (e : Entry)
    → cond is_prog (is_due_scan f heads e) (is_whole_scan heads e) ≡ (has_numbers is_prog f (entry_head e) && is_none (order_fault (script_frame is_prog f) heads (entry_head e)))
due_is true f heads e =
    ap (λ n. are_parameters f n (entry_head e) && all_of (is_next heads (entry_head e)) e.components) (sym (length-map e.components part_of))
    ∙ ap (λ xs. are_parameters f (length (entry_head e).parts) (entry_head e) && all_of (is_next heads (entry_head e)) xs) (sym (named e.components))
    ∙ ap (λ b. are_parameters f (length (entry_head e).parts) (entry_head e) && b) (sym (progressive_order (all_of (is_next heads (entry_head e)) (head_components (entry_head e)))))
due_is false f heads e =
    ap (λ xs. (e.ss == 0 && (e.se == 63 && (e.ah == 0 && e.al == 0))) && not (any_of (has_begun heads) xs)) (sym (named e.components))
    ∙ ap (λ b. (e.ss == 0 && (e.se == 63 && (e.ah == 0 && e.al == 0))) && b) (sym (sequential_order (any_of (has_begun heads) (head_components (entry_head e)))))

-- the fault of an entry whose components are right
entry_is : (is_prog : Bool) (f : Frame) (heads : List ScanHead) (n : ℕ) (e : Entry) → has_wrong_component f e ≡ false → has_large_mcu f e ≡ false
    → entry_fault is_prog f heads n e ≡ cond (has_numbers is_prog f (entry_head e) && is_none (order_fault (script_frame is_prog f) heads (entry_head e))) None (Some (ScriptBand n))
entry_is is_prog f heads n e w l =
    ap (λ b. cond b (Some (ScriptComponent n)) (cond (has_large_mcu f e) (Some (ScriptMcu n)) (cond (cond is_prog (is_due_scan f heads e) (is_whole_scan heads e)) None (Some (ScriptBand n))))) w
    ∙ ap (λ b. cond b (Some (ScriptMcu n)) (cond (cond is_prog (is_due_scan f heads e) (is_whole_scan heads e)) None (Some (ScriptBand n)))) l
    ∙ ap (λ b. cond b None (Some (ScriptBand n))) (due_is is_prog f heads e)

pub entry_taken : (is_prog : Bool) (f : Frame) (heads : List ScanHead) (n : ℕ) (e : Entry) (head : ScanHead) → head ≡ entry_head e → has_wrong_component f e ≡ false → has_large_mcu f e ≡ false
    → has_numbers is_prog f head ≡ true → order_fault (script_frame is_prog f) heads head ≡ None → entry_fault is_prog f heads n e ≡ None
entry_taken is_prog f heads n e head same w l numbers order =
    entry_is is_prog f heads n e w l
    ∙ ap (λ (g : ScanHead). cond (has_numbers is_prog f g && is_none (order_fault (script_frame is_prog f) heads g)) None (Some (ScriptBand n))) (sym same)
    ∙ ap (λ b. cond (b && is_none (order_fault (script_frame is_prog f) heads head)) None (Some (ScriptBand n))) numbers
    ∙ ap (λ o. cond (is_none o) None (Some (ScriptBand n))) order

pub entry_out_of_order : (is_prog : Bool) (f : Frame) (heads : List ScanHead) (n : ℕ) (e : Entry) (head : ScanHead) (fault : Fault) → head ≡ entry_head e → has_wrong_component f e ≡ false → has_large_mcu f e ≡ false
    → has_numbers is_prog f head ≡ true → order_fault (script_frame is_prog f) heads head ≡ Some fault → entry_fault is_prog f heads n e ≡ Some (ScriptBand n)
entry_out_of_order is_prog f heads n e head fault same w l numbers order =
    entry_is is_prog f heads n e w l
    ∙ ap (λ (g : ScanHead). cond (has_numbers is_prog f g && is_none (order_fault (script_frame is_prog f) heads g)) None (Some (ScriptBand n))) (sym same)
    ∙ ap (λ b. cond (b && is_none (order_fault (script_frame is_prog f) heads head)) None (Some (ScriptBand n))) numbers
    ∙ ap (λ o. cond (is_none o) None (Some (ScriptBand n))) order

-- ALL ENTRIES: the first n are taken, and the fault is that of the remaining ones after them

pub record HasTaken (is_prog : Bool) (f : Frame) (script : List Entry) (n : ℕ) (p : Progress) : Type 0 where
  pub heads : List ScanHead
  pub stands : RepresentsScans p (script_frame is_prog f) heads
  pub same : fault_after is_prog f [] 0 script ≡ fault_after is_prog f heads n (drop n script)

module _ (is_prog : Bool) (f : Frame) (script : List Entry) (n : ℕ) where
  -- entry n has a fault, which is the script's
  pub fault_shown : (e : Entry) (old new : Progress) (answer : Option PictureFault) → (h : HasTaken is_prog f script n old)
      → drop n script ≡ e ∷ drop (n + 1) script → IsEntryTaken is_prog f h.heads n e answer new → is_some answer ≡ true
      → answer ≡ fault_after is_prog f [] 0 script
  fault_shown e old new None h cut taken some = cc
  fault_shown e old new (Some fault) h cut taken some =
      sym (h.same ∙ ap (fault_after is_prog f h.heads n) cut ∙ ap (λ o. first_some o (fault_after is_prog f (entry_head e ∷ h.heads) (n + 1) (drop (n + 1) script))) taken)

  -- it has none and is taken
  pub one_taken : (e : Entry) (old new : Progress) (answer : Option PictureFault) → (h : HasTaken is_prog f script n old)
      → drop n script ≡ e ∷ drop (n + 1) script → IsEntryTaken is_prog f h.heads n e answer new → is_some answer ≡ false → HasTaken is_prog f script (n + 1) new
  one_taken e old new (Some fault) h cut taken none = cc
  one_taken e old new None h cut taken none = record {
    heads = entry_head e ∷ h.heads;
    stands = taken.1;
    same = h.same ∙ ap (fault_after is_prog f h.heads n) cut ∙ ap (λ o. first_some o (fault_after is_prog f (entry_head e ∷ h.heads) (n + 1) (drop (n + 1) script))) taken.0;
  }
