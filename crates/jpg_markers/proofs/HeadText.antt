-- The text of a head in its parts, as it is written.
use Rattle.std.proofs.Common.{◌≡◌, ℕ, suc, ◌+◌, ◌<◌, ◌≤◌, Bool, true, false, List, [], ◌∷◌, ◌++◌, length, map, take, drop, get_or, refl, sym, ap, ◌∙◌, cond, inl, inr, ◌⊎◌, arith}
use Rattle.std.specs.Prelude.{zip, filter, flat_map, ◌&&◌, ◌==◌, not}
use Rattle.std.specs.Int.{to_be_bytes, w16}
use Rattle.std.proofs.lemmas.List.{append-nil, take_more, take_all, append_assoc}
use Rattle.std.proofs.lemmas.List.Concat.{flat_map-append}
use Rattle.std.proofs.lemmas.List.Elements.{filter-append}
use Rattle.std.proofs.lemmas.List.Folds.{flat_map-map}
use Rattle.std.proofs.lemmas.Slice.Zip.{get_or-zip, length-zip}
use Rattle.jpg_spec_write.specs.FileText.{kept_text, segment_text, quant_text, slot_in, distinct_after, distinct_quants, component_bytes, front_text, sof_code}
use Rattle.jpg_spec.specs.Geometry.{Frame, component_at, no_component}
use Rattle.jpg_spec.specs.Meaning.{Meaning, PictureComponent}
use Rattle.jpg_spec_write.specs.Headed.{headed_kept, copied, jfif_contents}
use Rattle.jpg_spec.specs.Segments.{QuantTable}
use Rattle.jpg_spec.specs.declared.frame.Component.{Component}
use Rattle.jpg_spec.specs.declared.frame.Copying.{Copying}
use Rattle.jpg_spec.specs.declared.frame.Copying.TheVariants as copying
use Rattle.jpg_spec.specs.declared.frame.Colour.{Colour}
use Rattle.jpg_spec.specs.declared.frame.Colour.TheVariants.{Gray, YCbCr, Rgb, Cmyk, Ycck, Unknown}
use Rattle.jpg_spec.specs.declared.jfif.Jfif.{Jfif}
use Rattle.jpg_markers.specs.OutHead.{component_text, component_texts, frame_contents, front_contents, head_meaning, with_tables}
use Rattle.jpg_markers.specs.Passed.{is_passed, is_replaced, own_header}
use Rattle.jpg_markers.specs.declared.writing.head.OutHead.{OutHead}
use Rattle.jpg_markers.proofs.Distinct.{left_at}

-- MARKERS

pub one_kept : (code : ℕ) (contents : List ℕ) → segment_text code contents ≡ kept_text ((code, contents) ∷ [])
one_kept code contents = sym (append-nil (segment_text code contents))

pub jfif_own : (colour : Colour) (j : Jfif) (contents : List ℕ) → (colour ≡ Gray) ⊎ (colour ≡ YCbCr) → contents ≡ jfif_contents j → segment_text 0xe0 contents ≡ kept_text (own_header colour j)
jfif_own colour j contents (inl e) is = ap (segment_text 0xe0) is ∙ one_kept 0xe0 (jfif_contents j) ∙ ap (λ c. kept_text (own_header c j)) (sym e)
jfif_own colour j contents (inr e) is = ap (segment_text 0xe0) is ∙ one_kept 0xe0 (jfif_contents j) ∙ ap (λ c. kept_text (own_header c j)) (sym e)

pub no_own : (colour : Colour) (j : Jfif) → colour ≡ Unknown → [] ≡ kept_text (own_header colour j)
no_own colour j e = ap (λ c. kept_text (own_header c j)) (sym e)

module _ {X : Type 0} (p q : X → Bool) where
  filter_by : (b : Bool) (x : X) (xs : List X) → filter p (cond b (x ∷ xs) xs) ≡ cond (b && p x) (x ∷ filter p xs) (filter p xs)
  filter_by true x xs = refl
  filter_by false x xs = refl

  filter_twice : (xs : List X) → filter p (filter q xs) ≡ filter (λ x. q x && p x) xs
  filter_twice [] = refl
  filter_twice (x ∷ xs) = filter_by (q x) x (filter q xs) ∙ ap (λ l. cond (q x && p x) (x ∷ l) l) (filter_twice xs)

filter_none : {X : Type 0} (xs : List X) → filter (λ x. false) xs ≡ []
filter_none [] = refl
filter_none (x ∷ xs) = filter_none xs

filter_all : {X : Type 0} (xs : List X) → filter (λ x. true) xs ≡ xs
filter_all [] = refl
filter_all (x ∷ xs) = ap (λ l. x ∷ l) (filter_all xs)

passed_is : (copying : Copying) (colour : Colour) (kept : List (ℕ × List ℕ)) → filter (λ s. not (is_replaced colour s.0 s.1)) (copied copying kept) ≡ filter (is_passed copying colour) kept
passed_is copying.None colour kept = sym (filter_none kept)
passed_is copying.Comments colour kept = filter_twice (λ s. not (is_replaced colour s.0 s.1)) (λ s. s.0 == 0xfe) kept
passed_is copying.All colour kept = refl

headed_is : (colour : Colour) (j : Jfif) (copying : Copying) (kept : List (ℕ × List ℕ)) → own_header colour j ++ filter (is_passed copying colour) kept ≡ headed_kept colour j (copied copying kept)
headed_is Gray j copying kept = ap (λ l. own_header Gray j ++ l) (sym (passed_is copying Gray kept))
headed_is YCbCr j copying kept = ap (λ l. own_header YCbCr j ++ l) (sym (passed_is copying YCbCr kept))
headed_is Rgb j copying kept = ap (λ l. own_header Rgb j ++ l) (sym (passed_is copying Rgb kept))
headed_is Cmyk j copying kept = ap (λ l. own_header Cmyk j ++ l) (sym (passed_is copying Cmyk kept))
headed_is Ycck j copying kept = ap (λ l. own_header Ycck j ++ l) (sym (passed_is copying Ycck kept))
headed_is Unknown j copying kept = sym (passed_is copying Unknown kept) ∙ filter_all (copied copying kept)

-- the default header, and then those that are passed on
pub headed_text : (colour : Colour) (j : Jfif) (copying : Copying) (kept : List (ℕ × List ℕ))
    → kept_text (own_header colour j) ++ kept_text (filter (is_passed copying colour) kept) ≡ kept_text (headed_kept colour j (copied copying kept))
headed_text colour j copying kept =
    sym (flat_map-append (λ (s : ℕ × List ℕ). segment_text s.0 s.1) (own_header colour j) (filter (is_passed copying colour) kept)) ∙ ap kept_text (headed_is colour j copying kept)

-- one marker that is left, and the remaining ones
pub passed_step : (p : ℕ × List ℕ → Bool) (old new : List (ℕ × List ℕ)) (s : ℕ × List ℕ) → old ≡ s ∷ new
    → kept_text (filter p old) ≡ kept_text (filter p (s ∷ [])) ++ kept_text (filter p new)
passed_step p old new s e =
    ap (λ l. kept_text (filter p l)) e
    ∙ ap kept_text (filter-append p (s ∷ []) new)
    ∙ flat_map-append (λ (t : ℕ × List ℕ). segment_text t.0 t.1) (filter p (s ∷ [])) (filter p new)

pub not_passed : (p : ℕ × List ℕ → Bool) (s : ℕ × List ℕ) → p s ≡ false → [] ≡ kept_text (filter p (s ∷ []))
not_passed p s e = ap (λ (b : Bool). kept_text (cond b (s ∷ []) [])) (sym e)

-- TABLES

-- one table that is left, and the remaining ones
pub tables_step : (f : QuantTable → List ℕ) (tables : List QuantTable) (i : ℕ) (t : QuantTable) → i < length tables → t ≡ get_or tables i t
    → flat_map f (drop i tables) ≡ f t ++ flat_map f (drop (i + 1) tables)
tables_step f tables i t h at = ap (flat_map f) (left_at tables i t h at)

-- THE FRAME HEADER

module _ (distinct : List QuantTable) (f : Frame) (tables : List QuantTable) (i : ℕ) where
  -- a further component
  pub components_step : (slot : ℕ) (c : Component) (t : QuantTable) (text : List ℕ) (front : List ℕ) → i < length f.components → i < length tables
      → c ≡ component_at f i → t ≡ get_or tables i t → slot ≡ slot_in distinct t
      → front ≡ front_contents f ++ component_texts distinct (take i (zip f.components tables)) → text ≡ front ++ component_text c slot
      → text ≡ front_contents f ++ component_texts distinct (take (i + 1) (zip f.components tables))
  components_step slot c t text front in_frame in_tables is at place so_far e =
      let parts : List (Component × QuantTable) = zip f.components tables in
      let d : Component × QuantTable = (no_component, t) in
      let long : i < length parts = rw (length-zip f.components tables) (omega (arith, in_frame, in_tables)) in
      let here : get_or parts i d ≡ (component_at f i, get_or tables i t) = get_or-zip f.components tables i d in_frame in_tables in
      let g : Component × QuantTable → List ℕ = λ p. component_text p.0 (slot_in distinct p.1) in
      let last : g (get_or parts i d) ≡ component_text c slot =
      ap g here ∙ ap (λ (x : Component). component_text x (slot_in distinct (get_or tables i t))) (sym is)
      ∙ ap (λ (x : QuantTable). component_text c (slot_in distinct x)) (sym at) ∙ ap (λ (n : ℕ). component_text c n) (sym place) in
      let more : component_texts distinct (take (i + 1) parts) ≡ component_texts distinct (take i parts) ++ component_text c slot =
      ap (flat_map g) (take_more parts i d long) ∙ flat_map-append g (take i parts) (get_or parts i d ∷ []) ∙ ap (λ l. component_texts distinct (take i parts) ++ l) (append-nil (g (get_or parts i d)) ∙ last) in
      e ∙ ap (λ l. l ++ component_text c slot) so_far ∙ append_assoc (front_contents f) (component_texts distinct (take i parts)) (component_text c slot) ∙ ap (λ l. front_contents f ++ l) (sym more)

  -- all of them
  pub components_end : (text : List ℕ) → length f.components ≤ i → text ≡ front_contents f ++ component_texts distinct (take i (zip f.components tables))
      → text ≡ frame_contents distinct f tables
  components_end text h e =
      let parts : List (Component × QuantTable) = zip f.components tables in
      e ∙ ap (λ ps. front_contents f ++ component_texts distinct ps) (take_all i parts (omega (arith, h, length-zip f.components tables)))

-- THE COMPLETE HEAD

pub tables_of : (components : List Component) (tables : List QuantTable) → length tables ≡ length components → map (λ c. c.quants) (with_tables components tables) ≡ tables
tables_of [] [] l = refl
tables_of [] (t ∷ tables) l = absurd (omega (arith, l))
tables_of (c ∷ components) [] l = absurd (omega (arith, l))
tables_of (c ∷ components) (t ∷ tables) l = ap (λ ts. t ∷ ts) (tables_of components tables (omega (arith, l)))

counted : (components : List Component) (tables : List QuantTable) → length tables ≡ length components → length (with_tables components tables) ≡ length components
counted [] [] l = refl
counted [] (t ∷ tables) l = absurd (omega (arith, l))
counted (c ∷ components) [] l = absurd (omega (arith, l))
counted (c ∷ components) (t ∷ tables) l = ap suc (counted components tables (omega (arith, l)))

-- the parts, in the order of writing
abbrev pub start : List ℕ
start = 255 ∷ 0xd8 ∷ []

abbrev pub markers_of : OutHead → List (ℕ × List ℕ) → List ℕ
markers_of head kept = kept_text (headed_kept head.colour head.jfif (copied head.copying kept))

abbrev pub tables_text : List QuantTable → List ℕ
tables_text distinct = flat_map (λ t. quant_text (slot_in distinct t) t) distinct

abbrev pub header_of : OutHead → List QuantTable → List ℕ
header_of head distinct = segment_text (sof_code head.frame.process) (frame_contents distinct head.frame head.quants.items)

abbrev pub head_parts : OutHead → List (ℕ × List ℕ) → List QuantTable → List ℕ
head_parts head kept distinct = start ++ (markers_of head kept ++ (tables_text distinct ++ header_of head distinct))

pub head_text : (head : OutHead) (kept : List (ℕ × List ℕ)) → length head.quants.items ≡ length head.frame.components
    → head_parts head kept (distinct_after [] head.quants.items) ≡ front_text (head_meaning head kept)
head_text head kept l =
    let H : Meaning = head_meaning head kept in
    let f : Frame = head.frame in
    let distinct : List QuantTable = distinct_after [] head.quants.items in
    let parts : List (Component × QuantTable) = zip f.components head.quants.items in
    let made : Component × QuantTable → PictureComponent = λ p. record { id = p.0.id; h = p.0.h; v = p.0.v; quants = p.1 } in
    let text : List QuantTable → ℕ → List ℕ → List ℕ = λ d n cs.
    (start ++ markers_of head kept ++ tables_text d) ++ segment_text (sof_code f.process) (f.precision ∷ to_be_bytes w16 f.height ++ to_be_bytes w16 f.width ++ n ∷ cs) in
    let nested : head_parts head kept distinct ≡ text distinct (length f.components) (component_texts distinct parts) =
    ap (λ x. start ++ x) (sym (append_assoc (markers_of head kept) (tables_text distinct) (header_of head distinct))) in
    let same : distinct_quants H ≡ distinct = ap (distinct_after []) (tables_of f.components head.quants.items l) in
    let each : flat_map (component_bytes H) H.components ≡ component_texts (distinct_quants H) parts = flat_map-map (component_bytes H) made parts in
    nested
    ∙ ap (λ d. text d (length f.components) (component_texts d parts)) (sym same)
    ∙ ap (λ n. text (distinct_quants H) n (component_texts (distinct_quants H) parts)) (sym (counted f.components head.quants.items l))
    ∙ ap (λ cs. text (distinct_quants H) (length H.components) cs) (sym each)
