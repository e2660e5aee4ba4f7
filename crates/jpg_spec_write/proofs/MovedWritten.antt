-- A picture that may be written may be written transformed, as a choice asks for it.
use Rattle.std.proofs.Common.{◌≡◌, ℕ, suc, ◌+◌, ◌<◌, ◌≤◌, Bool, true, false, cond, ◌&&◌, List, [], ◌∷◌, length, get_or, map, refl, sym, ap, ◌∙◌, subst, arith}
use Rattle.std.specs.Prelude.{◌||◌, nat_lt, reverse}
use Rattle.std.specs.List.{All}
use Rattle.std.proofs.lemmas.List.{get_or-map, length-map}
use Rattle.jpg_spec.specs.Lists.{any_of, are_equal}
use Rattle.jpg_spec.specs.Segments.{QuantTable, standard_limits}
use Rattle.jpg_spec.specs.Geometry.{bounds, is_real}
use Rattle.jpg_spec.specs.FrameHeader.{IsFrame}
use Rattle.jpg_spec.specs.Elements.{zeros, IsBlockIn}
use Rattle.jpg_spec.specs.Markers.{kept_count}
use Rattle.jpg_spec.specs.Meaning.{Meaning, PictureComponent, picture_frame}
use Rattle.jpg_spec_write.specs.FileText.{frame_of_meaning, distinct_after, distinct_quants, slot_in}
use Rattle.jpg_spec_write.specs.WrittenFile.{HasQuants, IsKeptMarker, IsHeaded}
use Rattle.jpg_spec.specs.declared.frame.Component.{Component}
use Rattle.jpg_spec.proofs.Basics.Rows.{map_map}
use Rattle.jpg_spec.proofs.Writing.WrittenQuants.{is_in}
use Rattle.jpg_spec_write.proofs.WrittenQuants.{equal_swap, distinct_has}
use Rattle.jpg_spec_write.proofs.WrittenFront.{frame_component}
use Rattle.jpg_spec.proofs.Places.OutsideZeros.{HasRealBlocks}
use Rattle.jpg_spec.proofs.Headers.SameNumbers.{numbers_of, SameNumbers, same_frame, frame_passes, is_place, same_places}
use Rattle.jpg_spec.proofs.Writing.MovedWritten.{each_among, count_of}

-- what a picture has that may be written, whatever its head
pub record IsPicture (M : Meaning) : Type 0 where
  pub frame : IsFrame (picture_frame M)
  pub quants : All HasQuants M.components
  pub markers : All IsKeptMarker M.kept
  pub count : kept_count (reverse M.kept) ≤ 268435456
  pub blocks : (i x y : ℕ) → IsBlockIn (bounds (picture_frame M)) (M.blocks i x y)
  pub others : HasRealBlocks M

-- THE SLOTS of distinct tables

few_distinct : (seen tables : List QuantTable) → length (distinct_after seen tables) ≤ length tables
few_distinct seen [] = omega arith
few_distinct seen (t ∷ tables) = by (any_of (are_equal t) seen) (few_distinct seen tables) (few_distinct (t ∷ seen) tables)
  where
    by : (b : Bool) → length (distinct_after seen tables) ≤ length tables → length (distinct_after (t ∷ seen) tables) ≤ length tables
        → length (cond b (distinct_after seen tables) (t ∷ distinct_after (t ∷ seen) tables)) ≤ suc (length tables)
    by true old new = omega (arith, old)
    by false old new = omega (arith, new)

slot_low : (tables : List QuantTable) (q : QuantTable) → is_in q tables ≡ true → slot_in tables q < length tables
slot_low [] q e = cc
slot_low (t ∷ tables) q e = by (are_equal t q) (are_equal q t) refl refl e (λ k. slot_low tables q k)
  where
    by : (a b : Bool) → are_equal t q ≡ a → are_equal q t ≡ b → (b || is_in q tables) ≡ true → (is_in q tables ≡ true → slot_in tables q < length tables)
        → cond a 0 (1 + slot_in tables q) < suc (length tables)
    by true b s r k later = omega arith
    by false true s r k later = let z : true ≡ false = sym (equal_swap q t r) ∙ s in cc
    by false false s r k later = (let h = later k in omega (arith, h))

slots_low : (M : Meaning) → length M.components ≤ 4 → All (λ c. c.quant ≤ 3) (map (frame_component M) M.components)
slots_low M few =
    let tables : List QuantTable = map (λ c. c.quants) M.components in
    let distinct = distinct_quants M in
    let one : (q : QuantTable) → is_in q tables ≡ true → slot_in distinct q ≤ 3 = λ q e.
    (let a = slot_low distinct q (distinct_has [] tables q e) in
    let b = few_distinct [] tables in
    let c = length-map M.components (λ c. c.quants) in
    omega (arith, a, b, c, few)) in
    let all = each_among tables tables (λ q e. e) in
    λ k d h.
    (let j : k < length M.components = (let l = length-map M.components (frame_component M) in omega (arith, h, l)) in
    let c = get_or M.components k (record { id = 0; h = 1; v = 1; quants = [] }) in
    let q = one c.quants (subst (λ (t : QuantTable). is_in t tables ≡ true) (get_or-map (λ (c : PictureComponent). c.quants) M.components k (record { id = 0; h = 1; v = 1; quants = [] }) [] j)
    (all k [] (let l = length-map M.components (λ c. c.quants) in omega (arith, j, l)))) in
    subst (λ (c : Component). c.quant ≤ 3) (sym (get_or-map (frame_component M) M.components k (record { id = 0; h = 1; v = 1; quants = [] }) d j)) q)

-- IT MAY BE WRITTEN

same_slots : (M : Meaning) → SameNumbers (picture_frame M) (frame_of_meaning M)
same_slots M = record {
  process = refl;
  width = refl;
  height = refl;
  precision = refl;
  components = map_map numbers_of _ M.components ∙ sym (map_map numbers_of (frame_component M) M.components);
}

pub may_be_written : (M : Meaning) → IsPicture M → IsHeaded standard_limits M
may_be_written M is = record {
  frame = frame_passes (frame_of_meaning M) (same_frame (picture_frame M) (frame_of_meaning M) (same_slots M) (slots_low M (subst (λ n. n ≤ 4) (count_of M) is.frame.count_high)) is.frame);
  quants = is.quants;
  markers = is.markers;
  count = is.count;
  blocks = λ i x y h r. is.blocks i x y;
  others = λ i x y e. is.others i x y ∙ ap (λ b. cond b (M.blocks i x y) (zeros 64)) (places i x y e);
}
  where
    places : (i x y : ℕ) → (nat_lt i (length M.components) && is_real (frame_of_meaning M) i x y) ≡ false → is_place (picture_frame M) i x y ≡ false
    places i x y e =
        same_places (picture_frame M) (frame_of_meaning M) i x y (same_slots M) ∙ ap (λ n. nat_lt i n && is_real (frame_of_meaning M) i x y) (length-map M.components (frame_component M)) ∙ e
