-- The image of a file that ends early in a scan of all components, or after it, is that of its blocks at the end of the
-- scan header.
use Rattle.std.proofs.Common.{◌≡◌, ℕ, Bool, true, false, cond, List, ◌∷◌, ◌++◌, refl, sym, ap, ◌∙◌, subst, inl, inr, None}
use Rattle.std.specs.Prelude.{◌⊎◌, reverse}
use Rattle.std.proofs.lemmas.List.{append_assoc}
use Rattle.jpg_spec.specs.Early.{EndsAfter, EndsInside, segments_with}
use Rattle.jpg_spec.specs.FirstFault.{HaveBegun, InsideScan}
use Rattle.jpg_spec_image.specs.ImageText.{end_text}
use Rattle.jpg_spec.specs.Items.{Item, contents_rule, segments_of}
use Rattle.jpg_spec.specs.Jfif.{jfif_of}
use Rattle.jpg_spec.specs.Markers.{Segment, has_scan, kept_after}
use Rattle.jpg_spec.specs.Meaning.{Meaning, colour_of}
use Rattle.jpg_spec.specs.InForce.{colours_after}
use Rattle.jpg_spec_image.specs.Pixels.{info, metre, pixels, shows_gray}
use Rattle.jpg_spec.specs.RowLaws.{EndsEarlyByRows, early_so_far}
use Rattle.jpg_spec_image.specs.RowLaws.{text_in}
use Rattle.jpg_spec.specs.RowsParsed.{BeginsScanOfAll}
use Rattle.jpg_spec.specs.declared.frame.Colour.{Colour}
use Rattle.jpg_spec.specs.declared.frame.Limits.{Limits}
use Rattle.jpg_spec_image.specs.declared.image.EndKind.{EndKind}
use Rattle.jpg_spec_image.specs.declared.image.ImageInfo.{ImageInfo}
use Rattle.jpg_spec_image.specs.declared.image.ImageKind.TheVariants as kind
use Rattle.jpg_spec.specs.declared.jfif.Jfif.{Jfif}
use Rattle.jpg_spec.proofs.Headers.ColoursKept.{picture_colours, same_colours_after, same_jfif_after}
use Rattle.jpg_spec.proofs.EndsEarly.EarlyBegun.{AllNamed, begun_behind}
use Rattle.jpg_spec.proofs.EndsEarly.EarlySoFar.{IsItemsScan, items_scan, so_far_early}
use Rattle.jpg_spec.proofs.Headers.FileHeader.{HasFirstScan, first_scan, items_header, no_scan_spelled}
use Rattle.jpg_spec.proofs.Headers.FrameAfter.{leads_pass}
use Rattle.jpg_spec.proofs.Headers.HeaderFirst.{AreOfHeader, scan_passed, with_scan}
use Rattle.jpg_spec.proofs.Headers.OneHeader.{whole_once}
use Rattle.jpg_spec_image.proofs.RowsAlike.{colours_stay}
use Rattle.jpg_spec.proofs.McuRows.RowsLater.{second_refused}
use Rattle.jpg_spec_image.proofs.RowsImage.{same_info, same_pixels}

-- WHAT IS KNOWN AT THE SCAN HEADER doesn't change to the end: the colours, and the JFIF header
pub record StaysToEnd (limits : Limits) (M : Meaning) (before : List Segment) : Type 0 where
  pub colours : colour_of M ≡ colours_after limits before
  pub jfif : jfif_of M.kept ≡ jfif_of (reverse (kept_after before))

after_stays : (limits : Limits) (bytes : List ℕ) (M : Meaning) (before : List Segment) (contents : List ℕ) → BeginsScanOfAll limits bytes before contents → HaveBegun limits bytes → EndsAfter limits bytes M → StaysToEnd limits M before
after_stays limits bytes M before contents begins begun p = record {
  colours =
      ap colour_of p.meaning ∙ picture_colours limits (segments_of p.items) p.behind.blocks ∙ ap (λ (z : List Item). colours_after limits (segments_of z)) first.joined
      ∙ same_colours_after limits first.more first.contents first.intervals first.before p.behind.blocks at.leads ∙ ap (colours_after limits) at.same;
  jfif =
      ap (λ (N : Meaning). jfif_of N.kept) p.meaning ∙ ap (λ (z : List Item). jfif_of (reverse (kept_after (segments_of z)))) first.joined
      ∙ same_jfif_after first.more first.contents first.intervals first.before ∙ ap (λ (s : List Segment). jfif_of (reverse (kept_after s))) at.same;
}
  where
    named : AllNamed limits (segments_of p.items)
    named = begun_behind limits bytes p.items p.tail p.behind p.part begun

    first : HasFirstScan limits p.items p.behind.front
    first = items_header limits p.items p.behind.blocks p.behind.front p.behind.spelled p.behind.leads named.found named.complete

    at : IsItemsScan limits before contents p.items p.behind.blocks p.behind.front first
    at = items_scan limits bytes before contents p.items p.behind.blocks p.behind.front p.tail first begins p.behind.cut p.behind.spelled p.behind.leads

inside_stays : (limits : Limits) (bytes : List ℕ) (M : Meaning) (before : List Segment) (contents : List ℕ) → BeginsScanOfAll limits bytes before contents → EndsInside limits bytes M → StaysToEnd limits M before
inside_stays limits bytes M before contents begins p = by (has_scan (segments_of i.items)) refl
  where
    i : InsideScan limits bytes p.tail
    i = p.at

    here : (segments_of i.items ≡ before) → (i.contents ≡ contents) → StaysToEnd limits M before
    here same of = record {
      colours =
          ap colour_of p.meaning ∙ picture_colours limits (segments_with i.items i.contents) p.after ∙ ap (λ (b : List Segment). colours_after limits ((0xda, i.contents) ∷ b)) same
          ∙ ap (λ (c : List ℕ). colours_after limits ((0xda, c) ∷ before)) of ∙ colours_stay limits bytes before contents begins;
      jfif = ap (λ (N : Meaning). jfif_of N.kept) p.meaning ∙ ap (λ (s : List Segment). jfif_of (reverse (kept_after s))) same;
    }

    by : (b : Bool) → has_scan (segments_of i.items) ≡ b → StaysToEnd limits M before
    by true some =
        let first = first_scan limits i.items i.blocks i.front i.spelled i.leads some in
        let cut : bytes ≡ i.front ++ (i.head ++ (i.text ++ p.tail)) = i.cut ∙ append_assoc (i.front ++ i.head) i.text p.tail ∙ append_assoc i.front i.head (i.text ++ p.tail) in
        let at = items_scan limits bytes before contents i.items i.blocks i.front (i.head ++ (i.text ++ p.tail)) first begins cut i.spelled i.leads in
        absurd (second_refused limits first.more first.contents first.intervals first.before i.blocks i.contents at.leads at.all
        (subst (λ (z : List Item). contents_rule limits (segments_of z) 0xda i.contents ≡ None) first.joined i.allowed.1))
    by false none =
        let are : AreOfHeader limits (segments_of i.items) i.front = (no_scan_spelled i.items i.front i.spelled none, leads_pass limits i.items i.blocks i.leads, none) in
        let header = with_scan limits (segments_of i.items) i.front i.head i.contents are i.header i.allowed.0 (scan_passed limits (segments_of i.items) i.contents i.allowed.1) in
        let one = whole_once limits (i.front ++ i.head) begins.front (i.text ++ p.tail) begins.rest (segments_of i.items) before i.contents contents header begins.header (sym (i.cut ∙ append_assoc (i.front ++ i.head) i.text p.tail) ∙ begins.cut) in
        here one.1 one.2

stays_to_end : (limits : Limits) (bytes : List ℕ) (M : Meaning) → (w : EndsEarlyByRows limits bytes M) → StaysToEnd limits M w.before
stays_to_end limits bytes M w = by w.early.1
  where
    by : EndsAfter limits bytes M ⊎ EndsInside limits bytes M → StaysToEnd limits M w.before
    by (inl p) = after_stays limits bytes M w.before w.contents w.begins w.early.0.begun p
    by (inr p) = inside_stays limits bytes M w.before w.contents w.begins p

-- A PICTURE with other markers, and the same colours and density
abbrev kept_as : Meaning → List (ℕ × List ℕ) → Meaning
kept_as M kept = record M { kept = kept }

abbrev info_of : Meaning → Colour → Jfif → Bool → ImageInfo
info_of M colour jfif gray = record { width = M.width; height = M.height; kind = cond (shows_gray colour gray) kind.Gray kind.Rgb; x_metre = metre jfif jfif.x; y_metre = metre jfif jfif.y }

-- its colours are those of the file
early_colours : (limits : Limits) (bytes : List ℕ) (M : Meaning) → (w : EndsEarlyByRows limits bytes M) → colour_of (early_so_far limits bytes M w) ≡ colour_of M
early_colours limits bytes M w =
    picture_colours limits ((0xda, w.contents) ∷ w.before) M.blocks ∙ colours_stay limits bytes w.before w.contents w.begins ∙ sym (stays_to_end limits bytes M w).colours

-- so is its image
pub early_image : (limits : Limits) (bytes : List ℕ) (M : Meaning) (kind : EndKind) (gray smooth : Bool) → (w : EndsEarlyByRows limits bytes M) → text_in kind (early_so_far limits bytes M w) gray smooth ≡ text_in kind M gray smooth
early_image limits bytes M kind gray smooth w =
    let R = early_so_far limits bytes M w in
    let same = so_far_early limits bytes M w in
    let colours : colour_of (kept_as M R.kept) ≡ colour_of M = ap colour_of (sym same) ∙ early_colours limits bytes M w in
    let jfif : jfif_of R.kept ≡ jfif_of M.kept = sym (stays_to_end limits bytes M w).jfif in
    ap (λ N. text_in kind N gray smooth) same
    ∙ ap (λ i. end_text kind i (pixels (kept_as M R.kept) gray smooth)) (same_info M R.kept gray colours jfif)
    ∙ ap (end_text kind (info M gray)) (same_pixels M R.kept gray smooth colours)
