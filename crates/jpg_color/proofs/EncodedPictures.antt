-- The parts that the code assembles for an image mean the picture of the definitions.
use Rattle.std.proofs.Common.{◌≡◌, ℕ, ◌<◌, ◌≤◌, Bool, true, false, cond, ◌||◌, ◌==◌, List, [], ◌∷◌, length, map, slice_index_or, refl, sym, ap, ◌∙◌, subst, arith, None}
use Rattle.std.specs.List.{All}
use Rattle.std.proofs.lemmas.Bool.Decides.{nat_tests}
use Rattle.std.proofs.lemmas.List.{get_or-map, length-map}
use Rattle.std.proofs.lemmas.List.Elements.{All-head, All-tail}
use Rattle.jpg_spec.specs.Lists.{any_of, below}
use Rattle.jpg_spec_encode.specs.Encoded.{Encoding, components_due, density_of, encoded, sampling_fault}
use Rattle.jpg_spec.specs.FrameHeader.{IsFrame}
use Rattle.jpg_spec.specs.Geometry.{Frame}
use Rattle.jpg_spec.specs.Jfif.{jfif_of}
use Rattle.jpg_spec.specs.Meaning.{Meaning, PictureComponent, colour_of, real_blocks}
use Rattle.jpg_spec_write.specs.ScansAsked.{asks_progressive}
use Rattle.jpg_spec.specs.Meaning.{component_of}
use Rattle.jpg_spec.specs.QuantContents.{is_zero_quant}
use Rattle.jpg_spec.specs.Scan.{Blocks}
use Rattle.jpg_spec.specs.Segments.{QuantTable}
use Rattle.jpg_spec.specs.Segments.{AreQuantisers, IsQuantiser}
use Rattle.jpg_spec.specs.declared.frame.Component.{Component}
use Rattle.jpg_spec.proofs.Basics.Common.{length_below}
use Rattle.jpg_spec.proofs.Basics.Rows.{at_below, by_items}
use Rattle.jpg_file.specs.Read.PictureKept.{IsQuantTable, component_view}
use Rattle.jpg_spec_image.specs.Images.{Image}
use Rattle.jpg_spec_image.specs.declared.image.ImageInfo.{ImageInfo}
use Rattle.jpg_spec_write.specs.WrittenFile.{HasBlocksIn}
use Rattle.jpg_color.specs.EncodedParts.{AreViewParts, ViewParts, viewed_meaning}
use Rattle.jpg_color.specs.Encode.{AsksFor, CanSample, fault_due, encoded_frame, encoded_parts, image_of, picture_due, encoding_request, scans_asked}
use Rattle.jpg_color.specs.EncodeHead.{colour_asked, table_asked, tables_asked}
use Rattle.jpg_color.specs.ImageHead.{IsHeadOf, head_parts}
use Rattle.jpg_color.specs.declared.encode.Encoding.{Encoding as Asked}
use Rattle.jpg_color.specs.declared.encode.image_head.ImageHead.{ImageHead}
use Rattle.jpg_color.proofs.EncodedHead.{colour_is, density_again, frame_component, header, same_encoded}
use Rattle.jpg_color.proofs.EncodeSources.{component_there, count_due}

-- WHAT WAS ASSEMBLED of the numbers of an image and what is asked, all but the blocks

pub record IsPutTogether (info : ImageInfo) (a : Asked) (p : ViewParts) : Type 0 where
  pub can : CanSample info a
  pub none : fault_due info a ≡ None
  pub frame : p.frame ≡ encoded_frame info a
  pub checked : IsFrame p.frame
  pub colour : p.colour ≡ colour_asked a
  pub quants : p.quants ≡ tables_asked a
  pub kept : p.kept ≡ header info
  pub jfif : p.jfif ≡ density_of info

-- by the head of its file
pub put_together : (info : ImageInfo) (a : Asked) (h : ImageHead) (blocks : Blocks) → CanSample info a → fault_due info a ≡ None → IsFrame (encoded_frame info a) → IsHeadOf info a h → IsPutTogether info a (head_parts h blocks)
put_together info a h blocks can none is head = record {
  can = can;
  none = none;
  frame = head.frame;
  checked = subst IsFrame (sym head.frame) is;
  colour = head.colour;
  quants = head.quants;
  kept = head.kept;
  jfif = head.jfif;
}

-- TABLES

table_at : (a : Asked) (k : ℕ) → k < length a.factors.items → slice_index_or (tables_asked a) k [] ≡ table_asked a k
table_at a k h =
    get_or-map (table_asked a) (below (length a.factors.items)) k 0 [] (subst (λ n. k < n) (sym (length_below (length a.factors.items))) h) ∙ ap (table_asked a) (at_below (length a.factors.items) k h)

no_zero : (qs : List ℕ) → All IsQuantiser qs → any_of is_zero_quant qs ≡ false
no_zero [] all = refl
no_zero (q ∷ qs) all = (let low = (All-head IsQuantiser q qs all).0 in ap (λ b. b || any_of is_zero_quant qs) (not_zero q low) ∙ no_zero qs (All-tail IsQuantiser q qs all))
  where
    not_zero : (q : ℕ) → 1 ≤ q → (q == 0) ≡ false
    not_zero q low = grind (arith, nat_tests, low)

is_table : (t : QuantTable) → AreQuantisers t → IsQuantTable t
is_table t q = record { long = q.0; some = no_zero t q.1 }

table_by : (a : Asked) (b : Bool) → AreQuantisers (slice_index_or a.tables 0 []) → AreQuantisers (slice_index_or a.tables 1 []) → IsQuantTable (cond b (slice_index_or a.tables 0 []) (slice_index_or a.tables 1 []))
table_by a true first others = is_table _ first
table_by a false first others = is_table _ others

-- COMPONENTS

count_asked : (info : ImageInfo) (a : Asked) → CanSample info a → length a.factors.items ≡ length (encoded_frame info a).components
count_asked info a can = can.pairs ∙ sym (count_due (encoding_request a) (image_of info []))

abbrev told_by : ℕ → ℕ → ℕ → QuantTable → PictureComponent
told_by id h v quants = record { id = id; h = h; v = v; quants = quants }

component_same : (info : ImageInfo) (a : Asked) (k : ℕ) → CanSample info a → k < length (encoded_frame info a).components → component_view (encoded_frame info a) (tables_asked a) k ≡ component_of (encoded_parts info a) k
component_same info a k can h =
    let there : k < components_due (encoding_request a) (image_of info []) = subst (λ n. k < n) (count_due (encoding_request a) (image_of info [])) h in
    let c = component_of (encoded_parts info a) k in
    ap (λ (d : Component). told_by d.id d.h d.v (slice_index_or (tables_asked a) k [])) (frame_component (encoded_parts info a) k)
    ∙ ap (told_by c.id c.h c.v) (table_at a k (subst (λ n. k < n) (sym (count_asked info a can)) h) ∙ sym (ap (λ (d : PictureComponent). d.quants) (component_there (encoding_request a) (image_of info []) k there)))

components_same : (info : ImageInfo) (a : Asked) → CanSample info a → map (component_view (encoded_frame info a) (tables_asked a)) (below (length (encoded_frame info a).components)) ≡ (encoded_parts info a).components
components_same info a can =
    by_items (length (encoded_frame info a).components) (component_view (encoded_frame info a) (tables_asked a)) (encoded_parts info a).components (told_by 0 1 1 [])
    (sym (length-map (encoded_parts info a).components (λ c. (let d : Component = record { id = c.id; h = c.h; v = c.v; quant = 0 } in d)))) (λ k h. component_same info a k can h)

-- ITS MEANING

abbrev meaning_by : Frame → List PictureComponent → Blocks → List (ℕ × List ℕ) → Meaning
meaning_by f components blocks kept = record {
  process = f.process;
  precision = f.precision;
  width = f.width;
  height = f.height;
  components = components;
  blocks = blocks;
  kept = kept;
}

abbrev pub meaning_due : ImageInfo → Asked → Blocks → Meaning
meaning_due info a blocks = record (encoded_parts info a) { blocks = real_blocks (encoded_frame info a) blocks }

pub means_due : (info : ImageInfo) (a : Asked) (p : ViewParts) → IsPutTogether info a p → viewed_meaning p ≡ meaning_due info a p.blocks
means_due info a p is =
    let due = encoded_frame info a in
    ap (λ (f : Frame). meaning_by f (map (component_view f p.quants) (below (length f.components))) (real_blocks f p.blocks) p.kept) is.frame
    ∙ ap (λ (t : List QuantTable). meaning_by due (map (component_view due t) (below (length due.components))) (real_blocks due p.blocks) p.kept) is.quants
    ∙ ap (λ (cs : List PictureComponent). meaning_by due cs (real_blocks due p.blocks) p.kept) (components_same info a is.can)
    ∙ ap (λ (k : List (ℕ × List ℕ)). meaning_by due (encoded_parts info a).components (real_blocks due p.blocks) k) is.kept

pub parts_due : (info : ImageInfo) (a : Asked) (p : ViewParts) → IsPutTogether info a p → HasBlocksIn p.frame p.blocks → AreViewParts p
parts_due info a p is range = record {
  frame = is.checked;
  tables = ap length is.quants ∙ length-map (below (length a.factors.items)) (table_asked a) ∙ length_below (length a.factors.items) ∙ count_asked info a is.can ∙ sym (ap (λ (f : Frame). length f.components) is.frame);
  quants = λ k h.
      (let given : k < length a.factors.items = subst (λ n. k < n) (ap (λ (f : Frame). length f.components) is.frame ∙ sym (count_asked info a is.can)) h in
      subst IsQuantTable (sym (ap (λ (t : List QuantTable). slice_index_or t k []) is.quants ∙ table_at a k given)) (table_by a (k == 0) is.can.first is.can.others));
  range = range;
  colour = is.colour ∙ colour_is (encoding_request a) (image_of info []) (length a.factors.items) is.can.pairs ∙ ap colour_of (sym (means_due info a p is));
  jfif = is.jfif ∙ sym (density_again info) ∙ sym (ap jfif_of is.kept);
}

-- FOR ALL WORDS that ask for the same

kind_asked : (b : Bool) → b ≡ asks_progressive (scans_asked b)
kind_asked true = refl
kind_asked false = refl

pub means_all : (image : Image) (a : Asked) (e : Encoding) → AsksFor a e → encoded e image ≡ picture_due image a
means_all image a e asks = (same_encoded e (encoding_request a) image (asks.scans ∙ kind_asked a.progressive) asks.gray asks.factors asks.first asks.others).0

pub faults_all : (image : Image) (a : Asked) (e : Encoding) → AsksFor a e → sampling_fault e image ≡ fault_due image.info a
faults_all image a e asks = (same_encoded e (encoding_request a) image (asks.scans ∙ kind_asked a.progressive) asks.gray asks.factors asks.first asks.others).1
