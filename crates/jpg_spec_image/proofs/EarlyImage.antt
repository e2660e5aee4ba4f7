-- THE LAW: the image of a file that ends early in a scan of all components, or after it, is that of its blocks at the
-- end of the scan header.
use Rattle.std.proofs.Common.{◌≡◌, ℕ, Bool, true, List, ◌∷◌, sym, ap, ◌∙◌, subst, inl, inr}
use Rattle.std.specs.Prelude.{◌⊎◌, reverse}
use Rattle.jpg_spec.specs.Scan.{Blocks}
use Rattle.jpg_spec.specs.Meaning.{Meaning, colour_of}
use Rattle.jpg_spec.specs.Items.{Item, segments_of}
use Rattle.jpg_spec.specs.Jfif.{jfif_of}
use Rattle.jpg_spec.specs.Markers.{Segment, kept_after}
use Rattle.jpg_spec.specs.InForce.{colours_after}
use Rattle.jpg_spec_image.specs.Pixels.{info, pixels}
use Rattle.jpg_spec_image.specs.ImageText.{end_text}
use Rattle.jpg_spec_image.specs.Strips.{mcu_rows}
use Rattle.jpg_spec.specs.FirstFault.{AfterItems, HaveBegun}
use Rattle.jpg_spec.specs.Early.{EndsAfter, EndsInside, segments_with}
use Rattle.jpg_spec.specs.RowsParsed.{BeginsScanOfAll, picture_so_far}
use Rattle.jpg_spec_image.specs.RowsShown.{rows_text}
use Rattle.jpg_spec.specs.RowLaws.{EndsEarlyByRows, early_so_far}
use Rattle.jpg_spec_image.specs.RowLaws.{early_text, is_by_rows, text_in}
use Rattle.jpg_spec.specs.declared.frame.Limits.{Limits}
use Rattle.jpg_spec_image.specs.declared.image.EndKind.{EndKind}
use Rattle.jpg_spec.proofs.Headers.ColoursKept.{picture_colours, same_colours_after, same_jfif_after}
use Rattle.jpg_spec.proofs.EndsEarly.EarlyBegun.{AllNamed, begun_behind}
use Rattle.jpg_spec.proofs.EndsEarly.EarlySoFar.{IsItemsScan, inside_scan, items_scan, so_far_early}
use Rattle.jpg_spec.proofs.Headers.FileHeader.{HasFirstScan, items_header}
use Rattle.jpg_spec_image.proofs.RowsAlike.{colours_stay}
use Rattle.jpg_spec_image.proofs.RowsImage.{same_info, same_pixels, same_text}

-- the same colours and the same JFIF header
record SameShown (limits : Limits) (before : List Segment) (contents : List ℕ) (M : Meaning) : Type 0 where
  pub colours : (blocks : Blocks) → colour_of (picture_so_far limits before contents blocks) ≡ colour_of M
  pub jfif : jfif_of (reverse (kept_after ((0xda, contents) ∷ before))) ≡ jfif_of M.kept

after_shown : (limits : Limits) (bytes : List ℕ) (M : Meaning) (before : List Segment) (contents : List ℕ) → BeginsScanOfAll limits bytes before contents → HaveBegun limits bytes → EndsAfter limits bytes M → SameShown limits before contents M
after_shown limits bytes M before contents begins begun p = record {
  colours = λ blocks.
      (picture_colours limits ((0xda, contents) ∷ before) blocks ∙ colours_stay limits bytes before contents begins ∙ ap (colours_after limits) (sym at.same)
      ∙ sym (ap colour_of p.meaning ∙ picture_colours limits (segments_of p.items) b.blocks ∙ ap (λ (z : List Item). colours_after limits (segments_of z)) first.joined
      ∙ same_colours_after limits first.more first.contents first.intervals first.before b.blocks at.leads));
  jfif =
      ap (λ (s : List Segment). jfif_of (reverse (kept_after s))) (sym at.same)
      ∙ sym (ap (λ (N : Meaning). jfif_of N.kept) p.meaning ∙ ap (λ (z : List Item). jfif_of (reverse (kept_after (segments_of z)))) first.joined ∙ same_jfif_after first.more first.contents first.intervals first.before);
}
  where
    b : AfterItems limits bytes p.items p.tail
    b = p.behind

    named : AllNamed limits (segments_of p.items)
    named = begun_behind limits bytes p.items p.tail p.behind p.part begun

    first : HasFirstScan limits p.items (p.behind).front
    first = items_header limits p.items b.blocks b.front b.spelled b.leads named.found named.complete

    at : IsItemsScan limits before contents p.items (p.behind).blocks (p.behind).front first
    at = items_scan limits bytes before contents p.items b.blocks b.front p.tail first begins b.cut b.spelled b.leads

inside_shown : (limits : Limits) (bytes : List ℕ) (M : Meaning) (before : List Segment) (contents : List ℕ) → BeginsScanOfAll limits bytes before contents → EndsInside limits bytes M → SameShown limits before contents M
inside_shown limits bytes M before contents begins p =
    let i = p.at in
    let one = inside_scan limits bytes p.tail before contents begins i in
    let segments = segments_with i.items i.contents in
    let here : SameShown limits (segments_of i.items) i.contents M = record {
      colours = λ blocks. picture_colours limits segments blocks ∙ sym (ap colour_of p.meaning ∙ picture_colours limits segments p.after);
      jfif = sym (ap (λ (N : Meaning). jfif_of N.kept) p.meaning);
    } in
    subst (λ c. SameShown limits before c M) one.1 (subst (λ b. SameShown limits b i.contents M) one.0 here)

same_shown : (limits : Limits) (bytes : List ℕ) (M : Meaning) → (w : EndsEarlyByRows limits bytes M) → SameShown limits w.before w.contents M
same_shown limits bytes M w = by w.early.1
  where
    by : EndsAfter limits bytes M ⊎ EndsInside limits bytes M → SameShown limits w.before w.contents M
    by (inl p) = after_shown limits bytes M w.before w.contents w.begins w.early.0.begun p
    by (inr p) = inside_shown limits bytes M w.before w.contents w.begins p

-- of all MCU rows, and in any format
pub early_rows_text : (limits : Limits) (bytes : List ℕ) (M : Meaning) (w : EndsEarlyByRows limits bytes M) (kind : EndKind) (gray smooth : Bool) → is_by_rows kind ≡ true
    → early_text kind limits bytes M w gray smooth ≡ text_in kind M gray smooth
early_rows_text limits bytes M w kind gray smooth by =
    let R = early_so_far limits bytes M w in
    let same = so_far_early limits bytes M w in
    ap (λ (N : Meaning). rows_text kind N gray smooth (mcu_rows M)) same ∙ same_text M R.kept kind gray smooth by (ap colour_of (sym same) ∙ (same_shown limits bytes M w).colours M.blocks)

pub early_text_in : (limits : Limits) (bytes : List ℕ) (M : Meaning) (w : EndsEarlyByRows limits bytes M) (kind : EndKind) (gray smooth : Bool) → text_in kind (early_so_far limits bytes M w) gray smooth ≡ text_in kind M gray smooth
early_text_in limits bytes M w kind gray smooth =
    let R = early_so_far limits bytes M w in
    let same = so_far_early limits bytes M w in
    let shown = same_shown limits bytes M w in
    let colours : colour_of (record M { kept = R.kept }) ≡ colour_of M = ap colour_of (sym same) ∙ shown.colours M.blocks in
    ap (λ (N : Meaning). text_in kind N gray smooth) same
    ∙ ap (λ i. end_text kind i (pixels (record M { kept = R.kept }) gray smooth)) (same_info M R.kept gray colours shown.jfif)
    ∙ ap (end_text kind (info M gray)) (same_pixels M R.kept gray smooth colours)
