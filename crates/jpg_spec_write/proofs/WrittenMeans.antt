-- The file that is written in a sequential script means its picture.
use Rattle.std.proofs.Common.{◌≡◌, ℕ, ◌<◌, ◌≤◌, Bool, true, false, cond, List, [], ◌∷◌, ◌++◌, length, refl, sym, ap, ◌∙◌, arith, Some, None, ◌&&◌}
use Rattle.std.specs.Prelude.{map, reverse, nat_lt, unwrap_or}
use Rattle.std.proofs.Math.Path.{fun_ext}
use Rattle.std.proofs.lemmas.List.{append-nil, reverse-reverse, length-map}
use Rattle.jpg_spec.specs.Bits.{IsMarkerCode}
use Rattle.jpg_spec.specs.Lists.{all_of, is_among, below}
use Rattle.jpg_spec.specs.Geometry.{is_progressive, is_real}
use Rattle.jpg_spec.specs.FrameHeader.{AreLimits}
use Rattle.jpg_spec.specs.Segments.{ScanHead}
use Rattle.jpg_spec.specs.Elements.{zeros}
use Rattle.jpg_spec.specs.Scan.{Blocks}
use Rattle.jpg_spec.specs.Meaning.{Meaning, PictureComponent, real_blocks, component_of}
use Rattle.jpg_spec_write.specs.declared.huffman.Huffman.{Huffman}
use Rattle.jpg_spec_write.specs.Script.{Entry}
use Rattle.jpg_spec.specs.Markers.{Segment, code_fault_if, kept_after, eoi}
use Rattle.jpg_spec.specs.History.{has_begun, quant_of, is_complete}
use Rattle.jpg_spec.specs.Items.{segments_of}
use Rattle.jpg_spec.specs.FileMeaning.{picture_component, meaning_of, Means}
use Rattle.jpg_spec_write.specs.FileText.{Written, nothing_written, Restart, front_text, frame_of_meaning, scans_text, file_text}
use Rattle.jpg_spec_write.specs.WrittenFile.{IsHeaded, is_script_after, IsRestart}
use Rattle.jpg_spec.specs.declared.frame.Component.{Component}
use Rattle.jpg_spec.specs.declared.frame.Limits.{Limits}
use Rattle.jpg_spec.proofs.Basics.Rows.{by_items}
use Rattle.jpg_spec.proofs.Writing.WrittenFront.{frame_is}
use Rattle.jpg_spec_write.proofs.WrittenFront.{frame_component}
use Rattle.jpg_spec_write.proofs.WrittenStart.{component_at_is, starts}
use Rattle.jpg_spec_write.proofs.WrittenState.{Sends, quants_due}
use Rattle.jpg_spec_write.proofs.WrittenScript.{IsFit, IsShown, script_step}
use Rattle.jpg_spec.proofs.Bits.FirstPasses.{all_below}
use Rattle.jpg_spec.proofs.Basics.Common.{both, lt_of}

-- WHAT IS MEANT at the end: every component has its table, and every real block is that of the picture

pub record IsWhole (H : Meaning) (segments : List Segment) (blocks : Blocks) : Type 0 where
  pub kept : kept_after segments ≡ reverse H.kept
  pub first : (i : ℕ) → i < length H.components → quant_of (frame_of_meaning H) segments i ≡ Some (quants_due H i)
  pub shown : (i x y : ℕ) → i < length H.components → is_real (frame_of_meaning H) i x y ≡ true → blocks i x y ≡ H.blocks i x y

pub count_is : (H : Meaning) → length (frame_of_meaning H).components ≡ length H.components
count_is H = length-map H.components (frame_component H)

component_again : (H : Meaning) (segments : List Segment) (i : ℕ) → i < length H.components → quant_of (frame_of_meaning H) segments i ≡ Some (quants_due H i) → picture_component (frame_of_meaning H) segments i ≡ component_of H i
component_again H segments i h e =
    ap (λ (c : Component). (let p : PictureComponent = record { id = c.id; h = c.h; v = c.v; quants = unwrap_or (quant_of (frame_of_meaning H) segments i) [] } in p)) (component_at_is H i h)
    ∙ ap (λ o. (let p : PictureComponent = record { id = (component_of H i).id; h = (component_of H i).h; v = (component_of H i).v; quants = unwrap_or o [] } in p)) e

components_again : (H : Meaning) (segments : List Segment) (blocks : Blocks) → IsWhole H segments blocks → map (picture_component (frame_of_meaning H) segments) (below (length (frame_of_meaning H).components)) ≡ H.components
components_again H segments blocks is =
    ap (λ n. map (picture_component (frame_of_meaning H) segments) (below n)) (count_is H)
    ∙ by_items (length H.components) (picture_component (frame_of_meaning H) segments) H.components (record { id = 0; h = 1; v = 1; quants = [] }) refl (λ i h. component_again H segments i h (is.first i h))

blocks_again : (limits : Limits) (H : Meaning) (segments : List Segment) (blocks : Blocks) → IsHeaded limits H → IsWhole H segments blocks → real_blocks (frame_of_meaning H) blocks ≡ H.blocks
blocks_again limits H segments blocks headed is = fun_ext (λ i. fun_ext (λ x. fun_ext (λ y. one i x y)))
  where
    inside : (i x y : ℕ) → (nat_lt i (length H.components) && is_real (frame_of_meaning H) i x y) ≡ true → blocks i x y ≡ H.blocks i x y
    inside i x y e = let b = both (nat_lt i (length H.components)) (is_real (frame_of_meaning H) i x y) e in is.shown i x y (lt_of i (length H.components) b.0) b.1

    by : (i x y : ℕ) (b : Bool) → (nat_lt i (length H.components) && is_real (frame_of_meaning H) i x y) ≡ b → cond b (blocks i x y) (zeros 64) ≡ H.blocks i x y
    by i x y true e = inside i x y e
    by i x y false e = sym (headed.others i x y e)

    one : (i x y : ℕ) → real_blocks (frame_of_meaning H) blocks i x y ≡ H.blocks i x y
    one i x y =
        ap (λ n. cond (nat_lt i n && is_real (frame_of_meaning H) i x y) (blocks i x y) (zeros 64)) (count_is H)
        ∙ ap (λ b. cond b (blocks i x y) (zeros 64)) (refl_of (nat_lt i (length H.components) && is_real (frame_of_meaning H) i x y))
        ∙ by i x y (nat_lt i (length H.components) && is_real (frame_of_meaning H) i x y) refl
      where
        refl_of : (b : Bool) → b ≡ b
        refl_of b = refl

pub meaning_again : (limits : Limits) (H : Meaning) (segments : List Segment) (blocks : Blocks) → IsHeaded limits H → IsWhole H segments blocks → H ≡ meaning_of (frame_of_meaning H) segments blocks
meaning_again limits H segments blocks headed is =
    let of : List PictureComponent → Blocks → List Segment → Meaning = λ components blocks kept.
    record { process = H.process; precision = H.precision; width = H.width; height = H.height; components = components; blocks = blocks; kept = kept } in
    let f = frame_of_meaning H in
    let kept : reverse (kept_after segments) ≡ H.kept = ap reverse is.kept ∙ reverse-reverse H.kept in
    sym (ap (λ cs. of cs (real_blocks f blocks) (reverse (kept_after segments))) (components_again H segments blocks is)
    ∙ ap (λ bs. of H.components bs (reverse (kept_after segments))) (blocks_again limits H segments blocks headed is) ∙ ap (of H.components H.blocks) kept)

-- THE END: items that result in a complete picture, and EOI

end_is_marker : IsMarkerCode 0xd9
end_is_marker = (λ e. omega (arith, e), λ e. omega (arith, e))

same_tests : (a b : ℕ → Bool) (xs : List ℕ) → ((i : ℕ) → a i ≡ b i) → all_of a xs ≡ all_of b xs
same_tests a b [] h = refl
same_tests a b (x ∷ xs) h = ap (λ t. t && all_of a xs) (h x) ∙ ap (λ t. b x && t) (same_tests a b xs h)

pub ends : (limits : Limits) (H : Meaning) (heads : List ScanHead) (P : Blocks → Type 0) (w : Written) (text : List ℕ) → IsHeaded limits H → Sends limits H heads P w text
    → all_of (has_begun heads) (below (length H.components)) ≡ true
    → ((blocks : Blocks) → P blocks → (i x y : ℕ) → i < length H.components → is_real (frame_of_meaning H) i x y ≡ true → blocks i x y ≡ H.blocks i x y)
    → length (text ++ eoi) ≤ limits.input → Means limits (text ++ eoi) H
ends limits H heads P w text headed (items, s) begun shown long =
    let f = frame_of_meaning H in
    let segments = segments_of items in
    let whole : IsWhole H segments s.blocks = record {
      kept = s.kept;
      first = λ i h. s.first i h ∙ ap (λ b. cond b (Some (quants_due H i)) None) (all_below (has_begun heads) (length H.components) i begun h);
      shown = shown s.blocks s.picture;
    } in
    record {
      items = items;
      blocks = s.blocks;
      front = text;
      marker = eoi;
      rest = [];
      cut = sym (append-nil (text ++ eoi));
      spelled = s.spelled;
      ended = (0, refl, end_is_marker);
      long = long;
      leads = s.leads;
      framed = ap (λ b. code_fault_if b 0xd9) s.framed;
      complete = ap (λ g. is_complete g segments) s.frame ∙ ap (λ hs. all_of (has_begun hs) (below (length f.components))) s.sent_heads ∙ ap (λ n. all_of (has_begun heads) (below n)) (count_is H) ∙ begun;
      meaning = meaning_again limits H segments s.blocks headed whole ∙ ap (λ g. meaning_of g segments s.blocks) (sym s.frame);
    }

-- THE LAW
pub sequential_means : (huffman : Huffman) (limits : Limits) (H : Meaning) (script : List Entry) (restart : Restart) → AreLimits limits → IsHeaded limits H → is_progressive H.process ≡ false → is_script_after (frame_of_meaning H) [] script ≡ true → IsRestart restart
    → length (file_text huffman H script restart) ≤ limits.input → Means limits (file_text huffman H script restart) H
unfolding file_text
sequential_means huffman limits H script restart limited headed sequential passes small long =
    let f = frame_of_meaning H in
    let fit : IsFit H = record { frame = frame_is limits f f limited headed.frame; sequential = sequential; blocks = headed.blocks; count = count_is H } in
    let start = starts limits H (IsShown H []) limited headed (λ i x y h e r. none e) in
    let k = script_step huffman limits H restart [] [] nothing_written (front_text H) script fit small passes (λ i. refl) start in
    let begun : all_of (has_begun k.heads) (below (length H.components)) ≡ true =
    same_tests (has_begun k.heads) (λ i. is_among i k.done) (below (length H.components)) k.begun ∙ ap (λ n. all_of (λ i. is_among i k.done) (below n)) (sym (count_is H)) ∙ k.complete in
    ends limits H k.heads (IsShown H k.done) k.w (front_text H ++ scans_text huffman H restart nothing_written script) headed k.sends begun
    (λ blocks s i x y h r. s i x y h (all_below (λ i. is_among i k.done) (length H.components) i (ap (λ n. all_of (λ i. is_among i k.done) (below n)) (sym (count_is H)) ∙ k.complete) h) r)
    long
  where
    none : {A : Type 0} → false ≡ true → A
    none e = cc
