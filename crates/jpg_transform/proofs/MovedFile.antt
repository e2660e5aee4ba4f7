-- The file of a transformed picture: what is written of it means the transformed picture.
use Rattle.std.proofs.Common.{◌≡◌, ℕ, Bool, true, false, cond, not, ◌==◌, List, [], ◌∷◌, length, map, refl, sym, ap, ◌∙◌, subst, arith, None}
use Rattle.std.proofs.Math.Path.{fun_ext}
use Rattle.std.proofs.Math.ListN as listn
use Rattle.std.specs.Prelude.{◌||◌, nat_lt, zip}
use Rattle.std.proofs.lemmas.List.{length-map}
use Rattle.std.proofs.lemmas.Slice.Zip.{get_or-zip, length-zip}
use Rattle.jpg_spec.specs.Lists.{any_of, below}
use Rattle.jpg_spec.specs.Geometry.{Frame, bounds, IsReal, is_progressive, blocks_across, blocks_down, component_at, is_real, no_component, bounds_of}
use Rattle.jpg_spec.specs.Elements.{zeros, IsBlockIn}
use Rattle.jpg_spec_write.specs.FileText.{file_text, frame_of_meaning}
use Rattle.jpg_spec_write.specs.declared.huffman.Huffman.{Huffman}
use Rattle.jpg_spec.specs.FrameHeader.{IsFrame}
use Rattle.jpg_spec.specs.Jfif.{jfif_of}
use Rattle.jpg_spec.specs.Meaning.{Meaning, PictureComponent, colour_of, picture_frame, real_blocks}
use Rattle.jpg_spec_move.specs.Moved.{Choice, moved, moved_frame, moved_script, moved_script_fault, moved_text}
use Rattle.jpg_spec.specs.Grids.{Grids}
use Rattle.jpg_spec_write.specs.ScansAsked.{asks_progressive, process_due, script_due}
use Rattle.jpg_spec_write.specs.Headed.{copied, headed_kept, is_wide, sequential_process}
use Rattle.jpg_spec.specs.Scan.{Blocks}
use Rattle.jpg_spec_write.specs.Script.{Entry, is_progressive_script}
use Rattle.jpg_spec_write.specs.ScriptFaults.{script_fault}
use Rattle.jpg_spec_write.specs.ScriptLaws.{HasStandardScript}
use Rattle.jpg_spec.specs.Segments.{QuantTable}
use Rattle.jpg_spec_write.specs.WrittenFile.{HasBlocksIn}
use Rattle.jpg_spec.specs.declared.frame.Colour.{Colour}
use Rattle.jpg_spec.specs.declared.frame.Copying.{Copying}
use Rattle.jpg_spec.specs.declared.frame.Component.{Component}
use Rattle.jpg_spec.specs.declared.frame.Process.{Process}
use Rattle.jpg_spec.specs.declared.frame.Process.TheVariants.{Baseline, Extended, Progressive}
use Rattle.jpg_spec.specs.declared.jfif.Jfif.{Jfif}
use Rattle.jpg_spec.proofs.Basics.Common.{both, lt_of}
use Rattle.jpg_spec_move.proofs.MeaningLeft.{read_moved}
use Rattle.jpg_spec.proofs.Basics.Rows.{by_items, map_map}
use Rattle.jpg_spec.proofs.Headers.SameNumbers.{SameNumbers, is_place, numbers_of, same_places}
use Rattle.jpg_spec_move.proofs.MovedText.{moved_means}
use Rattle.jpg_spec_write.proofs.MovedText.{passes_by, same_kind}
use Rattle.jpg_spec.proofs.Places.OutsideZeros.{HasRealBlocks}
use Rattle.jpg_spec_write.proofs.StandardScripts.{meaning_has}
use Rattle.jpg_markers.specs.OutHead.{with_tables}
use Rattle.jpg_markers.specs.declared.writing.head.OutHead.{OutHead}
use Rattle.jpg_file.specs.Read.PictureKept.{component_view}
use Rattle.jpg_file.specs.Read.PictureRead.{picture_meaning}
use Rattle.jpg_file.specs.declared.read.picture.Picture.{Picture}
use Rattle.jpg_transform.specs.MovedBlocks.{IsWrittenAs}
use Rattle.jpg_transform.specs.Places.{IsSeenAs}
use Rattle.jpg_transform.specs.Planned.{IsOutHeadOf, IsPlanFor, process_in, process_of}
use Rattle.jpg_transform.proofs.MovedBlocks.{moved_bounded, moved_real}
use Rattle.jpg_transform.proofs.MovedHead.{unheaded, numbers_with, moved_components, moved_count, meaning_numbers, precision_stays, kept_stays, frame_precision_stays}
use Rattle.jpg_transform.proofs.MovedScript.{moved_colour_is, out_colour, script_none, script_same, out_precision}
use Rattle.jpg_scans.specs.Restarts.{restart_of}
use Rattle.jpg_file.specs.Write.WriteFile.{CanWriteFile, does_pass, file_bytes, file_meaning}
use Rattle.jpg_file.specs.declared.write.Plan.{Plan}
use Rattle.jpg_spec_write.proofs.FrameCodes.{either_sequential}
use Rattle.jpg_markers.proofs.HeadText.{tables_of}

-- COMPONENTS

any_map : {A B : Type 0} (t : B → Bool) (f : A → B) (xs : List A) → any_of (λ x. t (f x)) xs ≡ any_of t (map f xs)
any_map t f [] = refl
any_map t f (x ∷ xs) = ap (λ b. t (f x) || b) (any_map t f xs)

abbrev with_table : Component × QuantTable → PictureComponent
with_table c = record { id = c.0.id; h = c.0.h; v = c.0.v; quants = c.1 }

pub tables_are : (f : Frame) (q : List QuantTable) → length q ≡ length f.components → with_tables f.components q ≡ map (component_view f q) (below (length f.components))
tables_are f q l =
    let both_long : length (zip f.components q) ≡ length f.components = (let z = length-zip f.components q in omega (arith, z, l)) in
    sym (by_items (length f.components) (component_view f q) (with_tables f.components q) (with_table (no_component, [])) (length-map (zip f.components q) with_table ∙ both_long)
    (λ i h. sym (listn.get_or-map with_table (zip f.components q) i (no_component, []) ∙ ap with_table (get_or-zip f.components q i (no_component, []) h (omega (arith, h, l))))))

-- THE TRANSFORMED PICTURE

abbrev out_meaning : Picture → Choice → Meaning
out_meaning p c = moved c (picture_meaning p)

-- what is written of it
pub record IsWritten (p : Picture) (c : Choice) (out : OutHead) (blocks : Blocks) : Type 0 where
  pub head : IsOutHeadOf c p out
  pub framed : IsFrame out.frame
  pub seen : IsSeenAs (out_meaning p c) out.frame blocks

out_components : (p : Picture) (c : Choice) (out : OutHead) → IsOutHeadOf c p out → with_tables out.frame.components out.quants.items ≡ (out_meaning p c).components
out_components p c out h =
    ap (λ (g : Frame). with_tables g.components out.quants.items) h.frame
    ∙ ap (λ (q : List QuantTable). with_tables (moved_frame c p.frame).components q) h.tables
    ∙ moved_components c p.frame p.quants.items (picture_meaning p) (sym (tables_are p.frame p.quants.items p.keeps.tables)) p.keeps.tables p.keeps.frame.count_low

out_count : (p : Picture) (c : Choice) (out : OutHead) → IsOutHeadOf c p out → length out.quants.items ≡ length out.frame.components
out_count p c out h =
    ap length h.tables ∙ moved_count c p.frame p.quants.items p.keeps.tables p.keeps.frame.count_low ∙ sym (ap (λ (g : Frame). length g.components) h.frame)

kind_is : (b : Bool) (n : ℕ) (tables : List QuantTable) (N : Meaning) → process_of n tables ≡ sequential_process N → cond b Progressive (process_of n tables) ≡ process_due b N
kind_is true n tables N e = refl
kind_is false n tables N e = e

process_is : (p : Picture) (c : Choice) (out : OutHead) → IsOutHeadOf c p out → process_in c.scans p.frame.precision out.quants.items ≡ process_due (asks_progressive c.scans) (unheaded c (picture_meaning p))
process_is p c out h =
    let N = unheaded c (picture_meaning p) in
    let n = p.frame.precision in
    let tables : map (λ (d : PictureComponent). d.quants) N.components ≡ out.quants.items = ap (map (λ (d : PictureComponent). d.quants)) (sym (out_components p c out h)) ∙ tables_of out.frame.components out.quants.items (out_count p c out h) in
    let stays : N.precision ≡ n = precision_stays c (picture_meaning p) in
    kind_is (asks_progressive c.scans) n out.quants.items N
    (ap (process_of n) (sym tables) ∙ ap (λ b. cond (not (n == 8) || b) Extended Baseline) (sym (any_map is_wide (λ (d : PictureComponent). d.quants) N.components))
    ∙ ap (λ m. cond (not (m == 8) || any_of (λ (d : PictureComponent). is_wide d.quants) N.components) Extended Baseline) (sym stays))

out_process : (p : Picture) (c : Choice) (out : OutHead) → IsOutHeadOf c p out → out.frame.process ≡ (out_meaning p c).process
out_process p c out h = ap (λ (g : Frame). g.process) h.frame ∙ process_is p c out h

same_numbers : (p : Picture) (c : Choice) (out : OutHead) (blocks : Blocks) → IsWritten p c out blocks → SameNumbers out.frame (frame_of_meaning (out_meaning p c))
same_numbers p c out blocks w = record {
  process = out_process p c out w.head;
  width = sym (ap (λ (g : Grids). g.width) w.seen.grids);
  height = sym (ap (λ (g : Grids). g.height) w.seen.grids);
  precision = out_precision p c out w.head;
  components = meaning_numbers out.frame.components out.quants.items (out_meaning p c) (out_components p c out w.head) (out_count p c out w.head);
}

pub place_real : (f : Frame) (i x y : ℕ) → is_place f i x y ≡ true → IsReal f i x y
place_real f i x y e =
    let a = both (nat_lt i (length f.components)) (is_real f i x y) e in
    let b = both (nat_lt x (blocks_across f (component_at f i))) (nat_lt y (blocks_down f (component_at f i))) a.1 in
    record { component = lt_of i (length f.components) a.0; across = lt_of x (blocks_across f (component_at f i)) b.0; down = lt_of y (blocks_down f (component_at f i)) b.1 }

-- the numbers of the frame and of the meaning
own_numbers : (p : Picture) → SameNumbers p.frame (picture_frame (picture_meaning p))
own_numbers p =
    let N = picture_meaning p in
    let q = p.quants.items in
    record {
      process = refl;
      width = refl;
      height = refl;
      precision = refl;
      components =
          sym (numbers_with p.frame.components q p.keeps.tables) ∙ ap (map (λ (d : PictureComponent). (d.id, d.h, d.v))) (tables_are p.frame q p.keeps.tables) ∙ sym (map_map numbers_of _ N.components);
    }

picture_numbers : (p : Picture) (c : Choice) (out : OutHead) (blocks : Blocks) → IsWritten p c out blocks → SameNumbers out.frame (picture_frame (out_meaning p c))
picture_numbers p c out blocks w =
    let N = out_meaning p c in
    let s = same_numbers p c out blocks w in
    record {
      process = s.process;
      width = s.width;
      height = s.height;
      precision = s.precision;
      components = s.components ∙ map_map numbers_of _ N.components ∙ sym (map_map numbers_of _ N.components);
    }

blocks_are : (p : Picture) (c : Choice) (out : OutHead) (blocks : Blocks) → IsWritten p c out blocks → real_blocks out.frame blocks ≡ (out_meaning p c).blocks
blocks_are p c out blocks w = fun_ext (λ i. fun_ext (λ x. fun_ext (λ y. by i x y (is_place out.frame i x y) refl)))
  where
    N : Meaning
    N = out_meaning p c

    real : HasRealBlocks N
    real = moved_real p c out.frame (own_numbers p) w.framed w.seen.grids

    by : (i x y : ℕ) (b : Bool) → is_place out.frame i x y ≡ b → cond b (blocks i x y) (zeros 64) ≡ N.blocks i x y
    by i x y true e = sym (w.seen.same i x y (place_real out.frame i x y e))
    by i x y false e =
        sym (real i x y ∙ ap (λ b. cond b (N.blocks i x y) (zeros 64)) (sym (same_places out.frame (picture_frame N) i x y (picture_numbers p c out blocks w)) ∙ e))

in_bounds : (p : Picture) (c : Choice) (out : OutHead) (blocks : Blocks) → IsWritten p c out blocks → HasBlocksIn out.frame blocks
in_bounds p c out blocks w i x y r =
    let h = w.head in
    let same : out.frame.precision ≡ p.frame.precision = ap (λ (g : Frame). g.precision) h.frame ∙ frame_precision_stays c p.frame in
    subst (λ n. IsBlockIn (bounds_of n) (blocks i x y)) (sym same) (subst (IsBlockIn (bounds p.frame)) (w.seen.same i x y r) (moved_bounded p c i x y))

kept_are : (p : Picture) (c : Choice) (out : OutHead) → IsOutHeadOf c p out → headed_kept out.colour out.jfif (copied out.copying p.kept) ≡ (out_meaning p c).kept
kept_are p c out h =
    let N = unheaded c (picture_meaning p) in
    let k = kept_stays c (picture_meaning p) in
    ap (λ (d : Copying). headed_kept out.colour out.jfif (copied d p.kept)) h.copying
    ∙ ap (λ (d : Colour). headed_kept d out.jfif (copied c.copying p.kept)) (out_colour p c out h)
    ∙ ap (λ (j : Jfif). headed_kept (colour_of N) j (copied c.copying p.kept)) (h.jfif ∙ p.keeps.jfif)
    ∙ ap (λ kept. headed_kept (colour_of N) (jfif_of kept) (copied c.copying kept)) (sym k)

pub meaning_is : (p : Picture) (c : Choice) (plan : Plan) (blocks : Blocks) → IsWritten p c plan.out blocks → file_meaning plan p.kept blocks ≡ out_meaning p c
meaning_is p c plan blocks w =
    let H = file_meaning plan p.kept blocks in
    let N = out_meaning p c in
    let h = w.head in
    ap (λ (v : Process). let m : Meaning = record H { process = v } in m) (out_process p c plan.out h)
    ∙ ap (λ v. let m : Meaning = record H { process = N.process; precision = v } in m) (out_precision p c plan.out h)
    ∙ ap (λ v. let m : Meaning = record H { process = N.process; precision = N.precision; width = v } in m) (sym (ap (λ (g : Grids). g.width) w.seen.grids))
    ∙ ap (λ v. let m : Meaning = record H { process = N.process; precision = N.precision; width = N.width; height = v } in m) (sym (ap (λ (g : Grids). g.height) w.seen.grids))
    ∙ ap (λ v. let m : Meaning = record N { components = v; blocks = H.blocks; kept = H.kept } in m) (out_components p c plan.out h)
    ∙ ap (λ v. let m : Meaning = record N { blocks = v; kept = H.kept } in m) (blocks_are p c plan.out blocks w)
    ∙ ap (λ v. let m : Meaning = record N { kept = v } in m) (kept_are p c plan.out h)

-- THE PLAN can be written, and this is its text

-- what the plan is
record IsPlanned (p : Picture) (c : Choice) (plan : Plan) (blocks : Blocks) : Type 0 where
  pub written : IsWritten p c plan.out blocks
  pub script : plan.script ≡ script_due c.scans plan.out.frame plan.out.colour
  pub faultless : moved_script_fault c (picture_meaning p) ≡ None
  pub huffman : plan.huffman ≡ c.huffman
  pub restart : restart_of plan.restart ≡ c.restart

script_is : (p : Picture) (c : Choice) (plan : Plan) (blocks : Blocks) → IsPlanned p c plan blocks → plan.script ≡ moved_script c (picture_meaning p)
script_is p c plan blocks k = (let w = k.written in k.script ∙ script_same p c plan.out w.head)

kind_due : (b : Bool) (N : Meaning) → is_progressive (process_due b N) ≡ b
kind_due true N = refl
kind_due false N = either_sequential _

script_passes : (p : Picture) (c : Choice) (plan : Plan) (blocks : Blocks) → IsPlanned p c plan blocks → does_pass (out_meaning p c) plan.script ≡ true
script_passes p c plan blocks k =
    let w = k.written in
    let H = out_meaning p c in
    let f = frame_of_meaning H in
    let is = w.framed in
    let numbers = (same_numbers p c plan.out blocks w).components in
    let count : length plan.out.frame.components ≡ length f.components =
    sym (length-map plan.out.frame.components numbers_of) ∙ ap length numbers ∙ length-map f.components numbers_of in
    let told : length f.components ≡ length H.components = length-map H.components _ in
    let colours = meaning_has H (record { some = (let low = is.count_low in omega (arith, low, count, told)); few = (let high = is.count_high in omega (arith, high, count, told)) }) in
    let has : HasStandardScript plan.out.frame plan.out.colour =
    record { some = is.count_low; few = is.count_high; three = λ e. count ∙ colours.three (sym (moved_colour_is p c plan.out w.head) ∙ e) } in
    let kind : is_progressive_script plan.script ≡ is_progressive H.process =
    ap is_progressive_script k.script ∙ same_kind c.scans plan.out.frame plan.out.colour is has ∙ sym (kind_due (asks_progressive c.scans) (unheaded c (picture_meaning p))) in
    passes_by H plan.script (is_progressive H.process) (let high = is.count_high in omega (arith, high, count)) refl kind (ap (script_fault f) (script_is p c plan blocks k) ∙ k.faultless)

can_write : (p : Picture) (c : Choice) (plan : Plan) (blocks : Blocks) → IsPlanned p c plan blocks → CanWriteFile plan p.kept plan.out.frame blocks
can_write p c plan blocks k =
    let w = k.written in
    let h = w.head in
    let m = meaning_is p c plan blocks w in
    record {
      precision = refl;
      tables = out_count p c plan.out h;
      colour = moved_colour_is p c plan.out h ∙ sym (ap colour_of m);
      passes = ap (λ (H : Meaning). does_pass H plan.script) m ∙ script_passes p c plan blocks k;
      seen = refl;
      grids = refl;
      writable = in_bounds p c plan.out blocks w;
    }

text_is : (p : Picture) (c : Choice) (plan : Plan) (blocks : Blocks) → IsPlanned p c plan blocks → file_bytes plan p.kept blocks ≡ moved_text c (picture_meaning p)
text_is p c plan blocks k =
    ap (file_text plan.huffman (file_meaning plan p.kept blocks) plan.script) k.restart
    ∙ ap (λ (h : Huffman). file_text h (file_meaning plan p.kept blocks) plan.script c.restart) k.huffman
    ∙ ap (λ (H : Meaning). file_text c.huffman H plan.script c.restart) (meaning_is p c plan blocks k.written)
    ∙ ap (λ (s : List Entry). file_text c.huffman (out_meaning p c) s c.restart) (script_is p c plan blocks k)

-- on a frame that is the output's
pub writes_plan : (p : Picture) (c : Choice) (plan : Plan) (f : Frame) (blocks : Blocks) → f ≡ plan.out.frame → IsFrame plan.out.frame → IsPlanFor p c plan → IsSeenAs (out_meaning p c) plan.out.frame blocks
    → IsWrittenAs p c plan f blocks
writes_plan p c plan f blocks same is h shows =
    let k : IsPlanned p c plan blocks = record {
      written = record { head = h.head; framed = is; seen = shows };
      script = h.script;
      faultless = script_none c (picture_meaning p) h.admitted;
      huffman = h.huffman;
      restart = h.restart;
    } in
    record {
      can = subst (λ (g : Frame). CanWriteFile plan p.kept g blocks) (sym same) (can_write p c plan blocks k);
      text = text_is p c plan blocks k;
      means = λ movable. moved_means c (picture_meaning p) (read_moved (picture_meaning p) c movable) k.faultless h.counted;
    }
