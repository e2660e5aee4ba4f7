-- A view of a transformed picture is that of the transformed meaning.
use Rattle.std.proofs.Common.{◌≡◌, ℕ, ◌+◌, ◌-◌, ◌*◌, ◌/◌, ◌<◌, Bool, true, false, cond, List, [], ◌∷◌, length, get_or, map, refl, sym, ap, ◌∙◌, subst, arith, ℤ, Option}
use Rattle.std.specs.Prelude.{nat_lt}
use Rattle.std.proofs.lemmas.List.{length-map}
use Rattle.std.proofs.lemmas.List.Elements.{All-head, All-nil, All-cons}
use Rattle.std.proofs.lemmas.Nat.{div-mul-add}
use Rattle.std.specs.List.{All}
use Rattle.jpg_spec.specs.Geometry.{Frame, IsReal, div_up, greatest, h_max, v_max, component_at}
use Rattle.jpg_spec.specs.FrameHeader.{IsFrame}
use Rattle.jpg_spec.specs.Meaning.{Meaning, PictureComponent, picture_frame}
use Rattle.jpg_spec.specs.Meaning.{most_across, most_down, component_of}
use Rattle.jpg_spec_move.specs.Transforms.{transformed, transposes, mirrors_across, mirrors_down, opposite, changed_columns, changed_rows, placed, signed, turned_over}
use Rattle.jpg_spec.specs.Grids.{Grids, frame_grids, picture_grids}
use Rattle.jpg_spec_move.specs.Cropped.{cropped_by, cropped_frame_by}
use Rattle.jpg_spec_move.specs.Moved.{trimmed, whole_side, trimmed_frame, transformed_frame, grayed, grayed_frame, Choice, moved, headed_as, columns_in, rows_in, uncropped, uncropped_frame}
use Rattle.jpg_spec.specs.WholeBlocks.{HasWholeBlocks}
use Rattle.jpg_spec_move.specs.declared.area.Area.{Area}
use Rattle.jpg_spec_move.specs.declared.transform.Transform.{Transform}
use Rattle.jpg_spec_move.proofs.Transforming.{by_formula}
use Rattle.jpg_spec.specs.Scan.{Blocks}
use Rattle.jpg_transform.specs.Places.{IsOutput, IsSeenAs, ComesFrom}
use Rattle.jpg_spec.proofs.Headers.FrameFound.{real_side}
use Rattle.jpg_spec_move.proofs.MovedGrids.{over_grids, trim_grids, columns_by, rows_by, turned_frame, turned_picture, cut_picture, framed_picture, columns_picture, rows_picture, columns_frame, rows_frame, columns_cut, rows_cut, IsIn, to_grids, from_grids, untrimmed, opposite_in}
use Rattle.jpg_spec_move.proofs.OutsideZeros.{real_true}
use Rattle.jpg_spec.proofs.Basics.Common.{clash}
use Rattle.jpg_spec.proofs.Files.WholeFiles.{shown_whole}
use Rattle.jpg_spec.proofs.Places.PlacesSome.{h_max_some, v_max_some}

-- THE ARGUMENTS OF `new`: the frame of the output, and the columns and rows that change places
pub record Arguments : Type 0 where
  pub frame : Frame
  pub transform : Transform
  pub over : Bool
  pub columns : ℕ → ℕ
  pub rows : ℕ → ℕ

pub record AreGiven (a : Arguments) : Type 0 where
  pub frame : IsFrame a.frame
  pub over : a.over ≡ transposes a.transform
  pub columns : (i : ℕ) → i < length a.frame.components → a.columns i ≡ columns_in a.transform a.frame i
  pub rows : (i : ℕ) → i < length a.frame.components → a.rows i ≡ rows_in a.transform a.frame i

-- where the block at column x and row y of component i is, and the blocks put there
abbrev pub Reaches : Arguments → Frame → ℕ → ℕ → ℕ → Type 0
Reaches a f i x y = ComesFrom a.over f i (opposite (a.columns i) x) (opposite (a.rows i) y)

abbrev pub placed_by : Arguments → Blocks → Blocks
placed_by a blocks i x y = placed a.over (a.columns i) (a.rows i) (blocks i) x y

abbrev pub IsMade : Bool → Transform → Frame → Frame → Type 0
IsMade trim t f g = frame_grids g ≡ frame_grids (trimmed_frame trim t (transformed_frame t f))

made : (trim : Bool) (t : Transform) (f g : Frame) → IsMade trim t f g → frame_grids g ≡ trim_grids trim t (over_grids (transposes t) (frame_grids f))
made trim t f g m = m ∙ ap (trim_grids trim t) (turned_frame t f)

-- REAL PLACES

comes : (over : Bool) (f : Frame) (i x y : ℕ) → IsIn (over_grids over (frame_grids f)) i x y → ComesFrom over f i x y
comes true f i x y r =
    let n : i < length (map (λ c. c.h) f.components) =
    (let l = length-map f.components (λ c. c.h) in let m = length-map f.components (λ c. c.v) in omega (arith, l, m, r.component)) in
    record { turned = λ e. from_grids f i y x (record { component = n; across = r.down; down = r.across }); plain = λ e. absurd (clash true refl e) }
comes false f i x y r = record { turned = λ e. absurd (clash false e refl); plain = λ e. from_grids f i x y r }

place_before : (f g : Frame) (t : Transform) (trim : Bool) (i x y : ℕ) → IsFrame g → IsMade trim t f g → IsReal g i x y → ComesFrom (transposes t) f i (opposite (columns_in t g i) x) (opposite (rows_in t g i) y)
place_before f g t trim i x y is m r =
    let G = frame_grids g in
    let N = over_grids (transposes t) (frame_grids f) in
    let e = made trim t f g m in
    let h : 0 < greatest N.across = subst (λ (K : Grids). 0 < greatest K.across) e (h_max_some g is) in
    let v : 0 < greatest N.down = subst (λ (K : Grids). 0 < greatest K.down) e (v_max_some g is) in
    let here : IsIn G i (opposite (columns_by t G i) x) (opposite (rows_by t G i) y) = opposite_in t G i x y (h_max_some g is) (v_max_some g is) (to_grids g i x y r) in
    let named : IsIn G i (opposite (columns_in t g i) x) (opposite (rows_in t g i) y) =
    subst (λ c. IsIn G i (opposite c x) (opposite (rows_in t g i) y)) (sym (columns_frame t g i)) (subst (λ c. IsIn G i (opposite (columns_by t G i) x) (opposite c y)) (sym (rows_frame t g i)) here) in
    comes (transposes t) f i (opposite (columns_in t g i) x) (opposite (rows_in t g i) y)
    (untrimmed trim t N i (opposite (columns_in t g i) x) (opposite (rows_in t g i) y) h v (subst (λ (K : Grids). IsIn K i (opposite (columns_in t g i) x) (opposite (rows_in t g i) y)) e named))

reached : {a : Arguments} (f : Frame) (trim : Bool) (i x y : ℕ) → AreGiven a → IsMade trim a.transform f a.frame → IsReal a.frame i x y → Reaches a f i x y
reached {a} f trim i x y given m r =
    let t = a.transform in
    let g = a.frame in
    subst (λ (b : Bool). ComesFrom b f i (opposite (a.columns i) x) (opposite (a.rows i) y)) (sym given.over)
    (subst (λ (c : ℕ). ComesFrom (transposes t) f i (opposite c x) (opposite (a.rows i) y)) (sym (given.columns i r.component))
    (subst (λ (c : ℕ). ComesFrom (transposes t) f i (opposite (columns_in t g i) x) (opposite c y)) (sym (given.rows i r.component))
    (place_before f g t trim i x y given.frame m r)))

-- BLOCKS

cut_block : (trim : Bool) (t : Transform) (M : Meaning) (i x y : ℕ) → IsIn (picture_grids (trimmed trim t M)) i x y → (trimmed trim t M).blocks i x y ≡ M.blocks i x y
cut_block false t M i x y r = refl
cut_block true t M i x y r =
    let N : Meaning = record M {
      width = cond (mirrors_across t) (whole_side M.width (8 * most_across M)) M.width;
      height = cond (mirrors_down t) (whole_side M.height (8 * most_down M)) M.height;
    } in
    real_true (picture_frame N) M.blocks i x y (from_grids (picture_frame N) i x y (subst (λ (K : Grids). IsIn K i x y) (sym (framed_picture N)) r))

placed_same : (over : Bool) (c r : ℕ) (A B : ℕ → ℕ → List ℤ) (x y : ℕ)
    → (over ≡ true → A (opposite r y) (opposite c x) ≡ B (opposite r y) (opposite c x)) → (over ≡ false → A (opposite c x) (opposite r y) ≡ B (opposite c x) (opposite r y)) → placed over c r A x y ≡ placed over c r B x y
placed_same true c r A B x y e f = ap (λ b. signed (nat_lt x c) (nat_lt y r) (turned_over true b)) (e refl)
placed_same false c r A B x y e f = ap (λ b. signed (nat_lt x c) (nat_lt y r) b) (f refl)

shown : {a : Arguments} {f : Frame} {blocks : Blocks} (M : Meaning) (trim : Bool) → AreGiven a → HasWholeBlocks M → IsSeenAs M f blocks → IsMade trim a.transform f a.frame
    → IsSeenAs (trimmed trim a.transform (transformed a.transform M)) a.frame (placed_by a blocks)
shown {a} {f} {blocks} M trim given w s m = record { grids = grids; same = same }
  where
    turned : picture_grids (transformed a.transform M) ≡ over_grids (transposes a.transform) (frame_grids f)
    turned = turned_picture a.transform M ∙ ap (over_grids (transposes a.transform)) s.grids

    grids : picture_grids (trimmed trim a.transform (transformed a.transform M)) ≡ frame_grids a.frame
    grids = cut_picture trim a.transform (transformed a.transform M) ∙ ap (trim_grids trim a.transform) turned ∙ sym (made trim a.transform f a.frame m)

    columns_same : (i : ℕ) → i < length a.frame.components → changed_columns a.transform (transformed a.transform M) i ≡ a.columns i
    columns_same i n =
        let e = made trim a.transform f a.frame m in
        let K = over_grids (transposes a.transform) (frame_grids f) in
        let h : 0 < greatest K.across = subst (λ (L : Grids). 0 < greatest L.across) e (h_max_some a.frame given.frame) in
        columns_picture a.transform (transformed a.transform M) i ∙ ap (λ (L : Grids). columns_by a.transform L i) turned ∙ sym (columns_cut trim a.transform K i h) ∙ ap (λ (L : Grids). columns_by a.transform L i) (sym e) ∙ sym (columns_frame a.transform a.frame i) ∙ sym (given.columns i n)

    rows_same : (i : ℕ) → i < length a.frame.components → changed_rows a.transform (transformed a.transform M) i ≡ a.rows i
    rows_same i n =
        let e = made trim a.transform f a.frame m in
        let K = over_grids (transposes a.transform) (frame_grids f) in
        let v : 0 < greatest K.down = subst (λ (L : Grids). 0 < greatest L.down) e (v_max_some a.frame given.frame) in
        rows_picture a.transform (transformed a.transform M) i ∙ ap (λ (L : Grids). rows_by a.transform L i) turned ∙ sym (rows_cut trim a.transform K i v) ∙ ap (λ (L : Grids). rows_by a.transform L i) (sym e) ∙ sym (rows_frame a.transform a.frame i) ∙ sym (given.rows i n)

    same : (i x y : ℕ) → IsReal a.frame i x y → (trimmed trim a.transform (transformed a.transform M)).blocks i x y ≡ placed_by a blocks i x y
    same i x y r =
        let from = reached f trim i x y given m r in
        cut_block trim a.transform (transformed a.transform M) i x y (subst (λ (K : Grids). IsIn K i x y) (sym grids) (to_grids a.frame i x y r))
        ∙ by_formula M a.transform w i x y
        ∙ ap (λ c. placed (transposes a.transform) c (changed_rows a.transform (transformed a.transform M) i) (M.blocks i) x y) (columns_same i r.component)
        ∙ ap (λ c. placed (transposes a.transform) (a.columns i) c (M.blocks i) x y) (rows_same i r.component)
        ∙ ap (λ b. placed b (a.columns i) (a.rows i) (M.blocks i) x y) (sym given.over)
        ∙ placed_same a.over (a.columns i) (a.rows i) (M.blocks i) (blocks i) x y (λ e. s.same i _ _ (from.turned e)) (λ e. s.same i _ _ (from.plain e))

-- GRAYSCALE: the first component, with all its blocks

whole_up : (w h : ℕ) → 0 < h → div_up (w * h) h ≡ w
whole_up w h some =
    let e : w * h + h - 1 ≡ w * h + (h - 1) = omega (arith, some) in
    ap (λ n. n / h) e ∙ div-mul-add w h (h - 1) (omega (arith, some))

first_side : (w k h : ℕ) → 0 < h → k ≡ h → real_side w 1 1 ≡ real_side w k h
first_side w k h some e = ap (λ n. div_up n 8) (whole_up w 1 (omega arith) ∙ sym (whole_up w h some) ∙ ap (λ n. div_up (w * n) h) (sym e))

-- the facts of a source that may be converted to grayscale
pub record MayGray (gray : Bool) (f : Frame) : Type 0 where
  pub across : gray ≡ true → (component_at f 0).h ≡ h_max f
  pub down : gray ≡ true → (component_at f 0).v ≡ v_max f

gray_real : (gray : Bool) (f : Frame) (i x y : ℕ) → IsFrame f → MayGray gray f → IsReal (grayed_frame gray f) i x y → IsReal f i x y
gray_real false f i x y is may r = r
gray_real true f i x y is may r =
    let z : i ≡ 0 = omega (arith, r.component) in
    let k : IsReal (grayed_frame true f) 0 x y = subst (λ j. IsReal (grayed_frame true f) j x y) z r in
    let some : 0 < length f.components = omega (arith, is.count_low) in
    let here : IsReal f 0 x y = record {
      component = some;
      across = subst (λ n. x < n) (first_side f.width (component_at f 0).h (h_max f) (h_max_some f is) (may.across refl)) k.across;
      down = subst (λ n. y < n) (first_side f.height (component_at f 0).v (v_max f) (v_max_some f is) (may.down refl)) k.down;
    } in
    subst (λ j. IsReal f j x y) (sym z) here

gray_comes : (gray over : Bool) (f : Frame) (i x y : ℕ) → IsFrame f → MayGray gray f → ComesFrom over (grayed_frame gray f) i x y → ComesFrom over f i x y
gray_comes gray over f i x y is may c = record {
  turned = λ e. gray_real gray f i y x is may (c.turned e);
  plain = λ e. gray_real gray f i x y is may (c.plain e);
}

gray_shown : (gray : Bool) (f : Frame) (M : Meaning) (blocks : Blocks) → IsFrame f → MayGray gray f → IsSeenAs M f blocks → IsSeenAs (grayed gray M) (grayed_frame gray f) blocks
gray_shown false f M blocks is may s = s
gray_shown true f M blocks is may s = record {
  grids = ap (λ (K : Grids). (let G : Grids = record { width = K.width; height = K.height; across = 1 ∷ []; down = 1 ∷ [] } in G)) s.grids;
  same = λ i x y r. (let N : Meaning = record M { components = record (component_of M 0) { h = 1; v = 1 } ∷ [] } in
      let w : (frame_grids (grayed_frame true f)) ≡ frame_grids (picture_frame N) = sym (framed_picture N ∙ ap (λ (K : Grids). (let G : Grids = record { width = K.width; height = K.height; across = 1 ∷ []; down = 1 ∷ [] } in G)) s.grids) in
      real_true (picture_frame N) M.blocks i x y (from_grids (picture_frame N) i x y (subst (λ (K : Grids). IsIn K i x y) w (to_grids (grayed_frame true f) i x y r)))
      ∙ s.same i x y (gray_real true f i x y is may r));
}

first_quants : (cs : List PictureComponent) → All (λ c. length c.quants ≡ 64) cs → 0 < length cs → length (get_or cs 0 (record { id = 0; h = 1; v = 1; quants = [] })).quants ≡ 64
first_quants [] all some = absurd (omega (arith, some))
first_quants (c ∷ cs) all some = All-head (λ c. length c.quants ≡ 64) c cs all

pub gray_whole : (gray : Bool) (M : Meaning) → 0 < length M.components → HasWholeBlocks M → HasWholeBlocks (grayed gray M)
gray_whole false M some w = w
gray_whole true M some w = record {
  blocks = λ i x y. shown_whole _ (M.blocks i x y) (w.blocks i x y);
  quants = All-cons (λ c. length c.quants ≡ 64) _ [] (first_quants M.components w.quants some) (All-nil (λ c. length c.quants ≡ 64));
}

-- THE COMPLETE CHOICE

may_gray : (choice : Choice) (t : Transform) (f g : Frame) → IsOutput choice t f g → MayGray choice.gray f
may_gray choice t f g o = record { across = o.gray_across; down = o.gray_down }

pub made_by : (choice : Choice) (t : Transform) (f g : Frame) → IsOutput choice t f g → IsMade choice.trim t (grayed_frame choice.gray f) g
made_by choice t f g o =
    o.grids ∙ ap (λ (crop : Option Area). frame_grids (cropped_frame_by crop (uncropped_frame choice f))) o.whole
    ∙ ap (λ (u : Transform). frame_grids (trimmed_frame choice.trim u (transformed_frame u (grayed_frame choice.gray f)))) o.transform_is

pub reached_by : {choice : Choice} {f : Frame} {a : Arguments} (i x y : ℕ) → IsFrame f → AreGiven a → IsOutput choice a.transform f a.frame → IsReal a.frame i x y
    → Reaches a f i x y
reached_by {choice} {f} {a} i x y is given o r =
    gray_comes choice.gray a.over f i (opposite (a.columns i) x) (opposite (a.rows i) y) is (may_gray choice a.transform f a.frame o)
    (reached (grayed_frame choice.gray f) choice.trim i x y given (made_by choice a.transform f a.frame o) r)

pub shown_by : {choice : Choice} {f : Frame} {a : Arguments} {blocks : Blocks} (M : Meaning) → IsFrame f → AreGiven a → HasWholeBlocks M → IsSeenAs M f blocks
    → IsOutput choice a.transform f a.frame → IsSeenAs (moved choice M) a.frame (placed_by a blocks)
shown_by {choice} {f} {a} {blocks} M is given w s o =
    let t = a.transform in
    let may = may_gray choice t f a.frame o in
    let some : 0 < length M.components =
    (let e : length (map (λ c. c.h) M.components) ≡ length (map (λ c. c.h) f.components) = ap (λ (K : Grids). length K.across) s.grids in
    let l = length-map M.components (λ c. c.h) in let k = length-map f.components (λ c. c.h) in omega (arith, e, l, k, is.count_low)) in
    subst (λ (crop : Option Area). IsSeenAs (headed_as choice (cropped_by crop (uncropped choice M))) a.frame (placed_by a blocks)) (sym o.whole)
    (subst (λ (u : Transform). IsSeenAs (headed_as choice (trimmed choice.trim u (transformed u (grayed choice.gray M)))) a.frame (placed_by a blocks)) (sym o.transform_is)
    (headed (trimmed choice.trim t (transformed t (grayed choice.gray M)))
    (shown (grayed choice.gray M) choice.trim given (gray_whole choice.gray M some w) (gray_shown choice.gray f M blocks is may s) (made_by choice t f a.frame o))))
  where
    headed : (N : Meaning) → IsSeenAs N a.frame (placed_by a blocks) → IsSeenAs (headed_as choice N) a.frame (placed_by a blocks)
    headed N h = record { grids = h.grids; same = h.same }
