-- The head of the output: its components, tables, sides, kept markers and colours are those of the transformed picture.
use Rattle.std.proofs.Common.{◌≡◌, ◌≤◌, Bool, true, false, cond, List, [], ◌∷◌, length, get_or, map, refl, sym, ap, ◌∙◌, arith, ℕ, not, ◌==◌, ◌||◌, Option, None, Some}
use Rattle.std.proofs.lemmas.List.{length-map}
use Rattle.jpg_spec.specs.Colours.{colours_of}
use Rattle.jpg_spec_write.specs.FileText.{frame_of_meaning}
use Rattle.jpg_spec.specs.Geometry.{Frame, component_at, no_component}
use Rattle.jpg_spec.specs.Jfif.{adobe_transform, jfif_of}
use Rattle.jpg_spec.specs.Meaning.{Meaning, PictureComponent, colour_of}
use Rattle.jpg_spec_move.specs.Cropped.{cropped_by, cropped_frame_by}
use Rattle.jpg_spec_move.specs.Moved.{Choice, exchanged_factors, grayed, grayed_frame, moved, moved_frame, trimmed, uncropped, uncropped_frame}
use Rattle.jpg_spec.specs.Meaning.{component_of}
use Rattle.jpg_spec.specs.Segments.{QuantTable}
use Rattle.jpg_spec_move.specs.Transforms.{exchanged_axes, transformed, transposes}
use Rattle.jpg_spec.specs.Transposed.{transposed}
use Rattle.jpg_spec.specs.declared.frame.Component.{Component}
use Rattle.jpg_spec_move.specs.declared.area.Area.{Area}
use Rattle.jpg_spec_move.specs.declared.transform.Transform.{Transform}
use Rattle.jpg_spec_move.specs.declared.transform.Transform.TheVariants.{Keep, FlipH, FlipV, Transpose, Transverse, Rotate90, Rotate180, Rotate270}
use Rattle.jpg_spec.proofs.Basics.Rows.{map_map}
use Rattle.jpg_spec.proofs.Headers.SameNumbers.{numbers_of}
use Rattle.jpg_markers.specs.OutHead.{with_tables}
use Rattle.jpg_transform.specs.Planned.{grayed_tables, moved_colour, moved_tables, turned_tables, process_in, process_of}
use Rattle.jpg_spec_write.specs.ScansAsked.{Scans, asks_progressive}
use Rattle.jpg_spec.specs.FrameHeader.{is_precision}
use Rattle.jpg_spec.specs.declared.frame.Process.TheVariants.{Baseline, Extended, Progressive}
use Rattle.jpg_spec.specs.Lists.{any_of}
use Rattle.jpg_spec_write.specs.Headed.{is_wide}

-- THE PICTURE before it gets its head
abbrev pub unheaded : Choice → Meaning → Meaning
unheaded choice M = cropped_by choice.crop (uncropped choice M)

-- COMPONENTS with their tables

abbrev first_gray : Meaning → List PictureComponent
first_gray M = record (component_of M 0) { h = 1; v = 1 } ∷ []

grayed_components : (gray : Bool) (M : Meaning) → (grayed gray M).components ≡ cond gray (first_gray M) M.components
grayed_components true M = refl
grayed_components false M = refl

transformed_components : (t : Transform) (M : Meaning) → (transformed t M).components ≡ cond (transposes t) (map exchanged_axes M.components) M.components
transformed_components Keep M = refl
transformed_components FlipH M = refl
transformed_components FlipV M = refl
transformed_components Transpose M = refl
transformed_components Transverse M = refl
transformed_components Rotate90 M = refl
transformed_components Rotate180 M = refl
transformed_components Rotate270 M = refl

trimmed_components : (trim : Bool) (t : Transform) (M : Meaning) → (trimmed trim t M).components ≡ M.components
trimmed_components true t M = refl
trimmed_components false t M = refl

cropped_components : (crop : Option Area) (M : Meaning) → (cropped_by crop M).components ≡ M.components
cropped_components None M = refl
cropped_components (Some area) M = refl

-- of the frame
cropped_frame_components : (crop : Option Area) (f : Frame) → (cropped_frame_by crop f).components ≡ f.components
cropped_frame_components None f = refl
cropped_frame_components (Some area) f = refl

frame_components : (b : Bool) (f : Frame) → (cond b (record f { width = f.height; height = f.width; components = map exchanged_factors f.components }) f).components ≡ cond b (map exchanged_factors f.components) f.components
frame_components true f = refl
frame_components false f = refl

gray_components : (gray : Bool) (f : Frame) → (grayed_frame gray f).components ≡ cond gray (record (component_at f 0) { h = 1; v = 1 } ∷ []) f.components
gray_components true f = refl
gray_components false f = refl

over_tables : (cs : List Component) (q : List QuantTable) → with_tables (map exchanged_factors cs) (map (transposed 0) q) ≡ map exchanged_axes (with_tables cs q)
over_tables [] q = refl
over_tables (c ∷ cs) [] = refl
over_tables (c ∷ cs) (t ∷ q) = ap (λ l. record { id = c.id; h = c.v; v = c.h; quants = transposed 0 t } ∷ l) (over_tables cs q)

turned_with : (b : Bool) (cs : List Component) (q : List QuantTable) → with_tables (cond b (map exchanged_factors cs) cs) (turned_tables b q) ≡ cond b (map exchanged_axes (with_tables cs q)) (with_tables cs q)
turned_with true cs q = over_tables cs q
turned_with false cs q = refl

gray_with : (gray : Bool) (cs : List Component) (q : List QuantTable) (of : List PictureComponent) → of ≡ with_tables cs q → length q ≡ length cs → 1 ≤ length cs
    → with_tables (cond gray (record (get_or cs 0 no_component) { h = 1; v = 1 } ∷ []) cs) (grayed_tables gray q)
    ≡ cond gray (record (get_or of 0 (record { id = 0; h = 1; v = 1; quants = [] })) { h = 1; v = 1 } ∷ []) of
gray_with false cs q of e l some = sym e
gray_with true [] q of e l some = absurd (omega (arith, some))
gray_with true (c ∷ cs) [] of e l some = absurd (omega (arith, l))
gray_with true (c ∷ cs) (t ∷ q) of e l some = ap (λ (of : List PictureComponent). record (get_or of 0 (record { id = 0; h = 1; v = 1; quants = [] })) { h = 1; v = 1 } ∷ []) (sym e)

-- the components of the transformed picture
pub moved_components : (choice : Choice) (f : Frame) (q : List QuantTable) (M : Meaning) → M.components ≡ with_tables f.components q → length q ≡ length f.components → 1 ≤ length f.components
    → with_tables (moved_frame choice f).components (moved_tables choice q) ≡ (moved choice M).components
moved_components choice f q M e l some =
    let t = choice.transform in
    let g = grayed_frame choice.gray f in
    let grays : with_tables g.components (grayed_tables choice.gray q) ≡ (grayed choice.gray M).components =
    ap (λ (cs : List Component). with_tables cs (grayed_tables choice.gray q)) (gray_components choice.gray f) ∙ gray_with choice.gray f.components q M.components e l some ∙ sym (grayed_components choice.gray M) in
    ap (λ (cs : List Component). with_tables cs (moved_tables choice q)) (cropped_frame_components choice.crop (uncropped_frame choice f) ∙ frame_components (transposes t) g)
    ∙ turned_with (transposes t) g.components (grayed_tables choice.gray q)
    ∙ ap (λ (cs : List PictureComponent). cond (transposes t) (map exchanged_axes cs) cs) grays
    ∙ sym (transformed_components t (grayed choice.gray M)) ∙ sym (trimmed_components choice.trim t (transformed t (grayed choice.gray M)))
    ∙ sym (cropped_components choice.crop (uncropped choice M))

-- how many tables there are
counts : (b gray : Bool) (cs : List Component) (q : List QuantTable) → length q ≡ length cs → 1 ≤ length cs
    → length (turned_tables b (grayed_tables gray q)) ≡ length (cond b (map exchanged_factors (cond gray (record (get_or cs 0 no_component) { h = 1; v = 1 } ∷ []) cs)) (cond gray (record (get_or cs 0 no_component) { h = 1; v = 1 } ∷ []) cs))
counts true false cs q l some = length-map q (transposed 0) ∙ l ∙ sym (length-map cs exchanged_factors)
counts false false cs q l some = l
counts b true [] q l some = absurd (omega (arith, some))
counts b true (c ∷ cs) [] l some = absurd (omega (arith, l))
counts true true (c ∷ cs) (t ∷ q) l some = refl
counts false true (c ∷ cs) (t ∷ q) l some = refl

pub moved_count : (choice : Choice) (f : Frame) (q : List QuantTable) → length q ≡ length f.components → 1 ≤ length f.components → length (moved_tables choice q) ≡ length (moved_frame choice f).components
moved_count choice f q l some =
    counts (transposes choice.transform) choice.gray f.components q l some
    ∙ ap (λ (cs : List Component). length (cond (transposes choice.transform) (map exchanged_factors cs) cs)) (sym (gray_components choice.gray f))
    ∙ ap length (sym (cropped_frame_components choice.crop (uncropped_frame choice f) ∙ frame_components (transposes choice.transform) (grayed_frame choice.gray f)))

-- NUMBERS

pub numbers_with : (cs : List Component) (q : List QuantTable) → length q ≡ length cs → map (λ (c : PictureComponent). (c.id, c.h, c.v)) (with_tables cs q) ≡ map numbers_of cs
numbers_with [] q l = refl
numbers_with (c ∷ cs) [] l = absurd (omega (arith, l))
numbers_with (c ∷ cs) (t ∷ q) l = ap (λ ns. (c.id, c.h, c.v) ∷ ns) (numbers_with cs q (omega (arith, l)))

pub meaning_numbers : (cs : List Component) (q : List QuantTable) (N : Meaning) → with_tables cs q ≡ N.components → length q ≡ length cs → map numbers_of cs ≡ map numbers_of (frame_of_meaning N).components
meaning_numbers cs q N e l = sym (numbers_with cs q l) ∙ ap (map (λ (c : PictureComponent). (c.id, c.h, c.v))) e ∙ sym (map_map numbers_of _ N.components)

-- WHAT DOESN'T CHANGE

gray_precision : (gray : Bool) (M : Meaning) → (grayed gray M).precision ≡ M.precision
gray_precision true M = refl
gray_precision false M = refl

turned_precision : (t : Transform) (M : Meaning) → (transformed t M).precision ≡ M.precision
turned_precision Keep M = refl
turned_precision FlipH M = refl
turned_precision FlipV M = refl
turned_precision Transpose M = refl
turned_precision Transverse M = refl
turned_precision Rotate90 M = refl
turned_precision Rotate180 M = refl
turned_precision Rotate270 M = refl

trimmed_precision : (trim : Bool) (t : Transform) (M : Meaning) → (trimmed trim t M).precision ≡ M.precision
trimmed_precision true t M = refl
trimmed_precision false t M = refl

cropped_precision : (crop : Option Area) (M : Meaning) → (cropped_by crop M).precision ≡ M.precision
cropped_precision None M = refl
cropped_precision (Some area) M = refl

pub precision_stays : (choice : Choice) (M : Meaning) → (unheaded choice M).precision ≡ M.precision
precision_stays choice M =
    cropped_precision choice.crop (uncropped choice M)
    ∙ trimmed_precision choice.trim choice.transform (transformed choice.transform (grayed choice.gray M)) ∙ turned_precision choice.transform (grayed choice.gray M) ∙ gray_precision choice.gray M

frame_precision : (b : Bool) (f : Frame) → (cond b (record f { width = f.height; height = f.width; components = map exchanged_factors f.components }) f).precision ≡ f.precision
frame_precision true f = refl
frame_precision false f = refl

gray_frame_precision : (gray : Bool) (f : Frame) → (grayed_frame gray f).precision ≡ f.precision
gray_frame_precision true f = refl
gray_frame_precision false f = refl

cropped_frame_precision : (crop : Option Area) (f : Frame) → (cropped_frame_by crop f).precision ≡ f.precision
cropped_frame_precision None f = refl
cropped_frame_precision (Some area) f = refl

pub frame_precision_stays : (choice : Choice) (f : Frame) → (moved_frame choice f).precision ≡ f.precision
frame_precision_stays choice f =
    cropped_frame_precision choice.crop (uncropped_frame choice f) ∙ frame_precision (transposes choice.transform) (grayed_frame choice.gray f) ∙ gray_frame_precision choice.gray f

gray_kept : (gray : Bool) (M : Meaning) → (grayed gray M).kept ≡ M.kept
gray_kept true M = refl
gray_kept false M = refl

turned_kept : (t : Transform) (M : Meaning) → (transformed t M).kept ≡ M.kept
turned_kept Keep M = refl
turned_kept FlipH M = refl
turned_kept FlipV M = refl
turned_kept Transpose M = refl
turned_kept Transverse M = refl
turned_kept Rotate90 M = refl
turned_kept Rotate180 M = refl
turned_kept Rotate270 M = refl

trimmed_kept : (trim : Bool) (t : Transform) (M : Meaning) → (trimmed trim t M).kept ≡ M.kept
trimmed_kept true t M = refl
trimmed_kept false t M = refl

cropped_kept : (crop : Option Area) (M : Meaning) → (cropped_by crop M).kept ≡ M.kept
cropped_kept None M = refl
cropped_kept (Some area) M = refl

pub kept_stays : (choice : Choice) (M : Meaning) → (unheaded choice M).kept ≡ M.kept
kept_stays choice M =
    cropped_kept choice.crop (uncropped choice M) ∙ trimmed_kept choice.trim choice.transform (transformed choice.transform (grayed choice.gray M)) ∙ turned_kept choice.transform (grayed choice.gray M) ∙ gray_kept choice.gray M

-- COLOURS

turned_ids : (t : Transform) (M : Meaning) → map (λ c. c.id) (transformed t M).components ≡ map (λ c. c.id) M.components
turned_ids t M = ap (map (λ (c : PictureComponent). c.id)) (transformed_components t M) ∙ by (transposes t)
  where
    by : (b : Bool) → map (λ (c : PictureComponent). c.id) (cond b (map exchanged_axes M.components) M.components) ≡ map (λ c. c.id) M.components
    by true = map_map (λ (c : PictureComponent). c.id) exchanged_axes M.components
    by false = refl

same_colour : (M N : Meaning) → map (λ c. c.id) M.components ≡ map (λ c. c.id) N.components → M.kept ≡ N.kept → colour_of M ≡ colour_of N
same_colour M N ids kept =
    let count : length M.components ≡ length N.components = sym (length-map M.components (λ c. c.id)) ∙ ap length ids ∙ length-map N.components (λ c. c.id) in
    ap (λ n. colours_of n (map (λ c. c.id) M.components) (jfif_of M.kept).seen (adobe_transform M.kept)) count
    ∙ ap (λ is. colours_of (length N.components) is (jfif_of M.kept).seen (adobe_transform M.kept)) ids
    ∙ ap (λ k. colours_of (length N.components) (map (λ c. c.id) N.components) (jfif_of k).seen (adobe_transform k)) kept

gray_colour : (gray : Bool) (M : Meaning) → colour_of (grayed gray M) ≡ moved_colour gray (colour_of M)
gray_colour true M = refl
gray_colour false M = refl

pub colour_moves : (choice : Choice) (M : Meaning) → colour_of (unheaded choice M) ≡ moved_colour choice.gray (colour_of M)
colour_moves choice M =
    let G = grayed choice.gray M in
    let T = transformed choice.transform G in
    let U = uncropped choice M in
    same_colour (cropped_by choice.crop U) G
    (ap (map (λ (c : PictureComponent). c.id)) (cropped_components choice.crop U ∙ trimmed_components choice.trim choice.transform T) ∙ turned_ids choice.transform G)
    (cropped_kept choice.crop U ∙ trimmed_kept choice.trim choice.transform T ∙ turned_kept choice.transform G)
    ∙ gray_colour choice.gray M

-- THE PROCESS of the output has the precision

pub process_allows : (s : Scans) (n : ℕ) (tables : List QuantTable) → is_precision Progressive n ≡ true → is_precision (process_in s n tables) n ≡ true
process_allows s n tables e = kind (asks_progressive s)
  where
    sequential : (b : Bool) → (n == 8) ≡ b → (w : Bool) → is_precision (cond (not b || w) Extended Baseline) n ≡ true
    sequential true h true = e
    sequential true h false = h
    sequential false h w = e

    kind : (b : Bool) → is_precision (cond b Progressive (process_of n tables)) n ≡ true
    kind true = e
    kind false = sequential (n == 8) refl (any_of is_wide tables)
