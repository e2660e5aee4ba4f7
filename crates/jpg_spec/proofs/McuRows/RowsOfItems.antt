-- Items after a scan of all components encode its MCU rows, of the blocks that they lead to.
use Rattle.std.proofs.Common.{◌≡◌, ℕ, true, List, ◌∷◌, ◌++◌, sym, ap, ◌∙◌, subst}
use Rattle.std.proofs.lemmas.List.{append_assoc}
use Rattle.jpg_spec.specs.Scan.{Blocks}
use Rattle.jpg_spec.specs.Markers.{Segment, has_scan}
use Rattle.jpg_spec.specs.InForce.{frame_of}
use Rattle.jpg_spec.specs.Items.{Item, scan, segments_of, SpellsFront}
use Rattle.jpg_spec.specs.FileMeaning.{Leads, scan_after}
use Rattle.jpg_spec.specs.RowsParsed.{BeginsScanOfAll, TellsRows, blocks_in, row_places}
use Rattle.jpg_spec.specs.declared.frame.Limits.{Limits}
use Rattle.jpg_spec.proofs.Headers.ColoursKept.{same_frame_after}
use Rattle.jpg_spec.proofs.EndsEarly.EarlySoFar.{items_scan}
use Rattle.jpg_spec.proofs.Headers.FileHeader.{HasFirstScan, first_scan}
use Rattle.jpg_spec.proofs.McuRows.RowsLater.{blocks_stay, front_cut}
use Rattle.jpg_spec.proofs.McuRows.RowsWhole.{scan_rows}

pub record HoldsRows (limits : Limits) (bytes : List ℕ) (before : List Segment) (contents : List ℕ) (items : List Item) (blocks : Blocks) (rows : ℕ) : Type 0 where
  pub framed : frame_of limits (segments_of items) ≡ frame_of limits before
  pub told : TellsRows limits bytes rows (blocks_in (row_places limits before contents rows) blocks)

module _ (limits : Limits) (bytes : List ℕ) (before : List Segment) (contents : List ℕ) (items : List Item) (blocks : Blocks) (front tail : List ℕ) where
  pub rows_of_first : (rows : ℕ) → HasFirstScan limits items front → BeginsScanOfAll limits bytes before contents → bytes ≡ front ++ tail
      → SpellsFront items front → Leads limits items blocks → (scan_after limits before contents).places ≡ row_places limits before contents rows → HoldsRows limits bytes before contents items blocks rows
  rows_of_first rows first begins cut spelled leads all =
      let at = items_scan limits bytes before contents items blocks front tail first begins cut spelled leads in
      let there = segments_of first.before in
      let k = front_cut first.more (scan first.contents first.intervals ∷ first.before) front (subst (λ (z : List Item). SpellsFront z front) first.joined spelled) in
      let alone = blocks_stay limits first.more (scan first.contents first.intervals ∷ first.before) blocks at.none at.leads in
      let places : (scan_after limits there first.contents).places ≡ row_places limits there first.contents rows =
      subst (λ (c : List ℕ). (scan_after limits there c).places ≡ row_places limits there c rows) (sym at.of) (subst (λ (b : List Segment). (scan_after limits b contents).places ≡ row_places limits b contents rows) (sym at.same) all) in
      let told = scan_rows limits first.before first.contents first.intervals blocks k.front (k.rest ++ tail) rows (record { of_all = at.of_all; spelled = k.spelled; leads = alone }) places in
      let same : k.front ++ (k.rest ++ tail) ≡ bytes = sym (cut ∙ ap (λ l. l ++ tail) k.cut ∙ append_assoc k.front k.rest tail) in
      let framed : frame_of limits (segments_of items) ≡ frame_of limits there =
      ap (λ (z : List Item). frame_of limits (segments_of z)) first.joined ∙ same_frame_after limits first.more first.contents first.intervals first.before blocks at.leads in
      record {
        framed = framed ∙ ap (frame_of limits) at.same;
        told =
            subst (λ l. TellsRows limits l rows (blocks_in (row_places limits before contents rows) blocks)) same
            (subst (λ (c : List ℕ). TellsRows limits (k.front ++ (k.rest ++ tail)) rows (blocks_in (row_places limits before c rows) blocks)) at.of
            (subst (λ (b : List Segment). TellsRows limits (k.front ++ (k.rest ++ tail)) rows (blocks_in (row_places limits b first.contents rows) blocks)) at.same told));
      }

  pub rows_of_items : (rows : ℕ) → BeginsScanOfAll limits bytes before contents → bytes ≡ front ++ tail
      → SpellsFront items front → Leads limits items blocks → has_scan (segments_of items) ≡ true → (scan_after limits before contents).places ≡ row_places limits before contents rows → HoldsRows limits bytes before contents items blocks rows
  rows_of_items rows begins cut spelled leads some all =
      rows_of_first rows (first_scan limits items blocks front spelled leads some) begins cut spelled leads all
