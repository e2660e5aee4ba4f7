-- Frames with the same numbers, whatever their process and the slots of their tables: one passes its checks if the
-- other does, and their real grids are the same.
use Rattle.std.proofs.Common.{◌≡◌, ℕ, ◌+◌, ◌*◌, ◌≤◌, Bool, false, not, ◌&&◌, ◌==◌, List, [], ◌∷◌, length, get_or, map, refl, sym, ap, ◌∙◌, subst, arith}
use Rattle.std.specs.Prelude.{◌||◌, nat_lt, sum_by, Ok}
use Rattle.std.specs.List.{All}
use Rattle.std.proofs.lemmas.Bool.Decides.{nat_tests}
use Rattle.std.proofs.lemmas.List.{length-map, get_or-map}
use Rattle.std.proofs.lemmas.List.Sums.{sum_by-cons}
use Rattle.std.proofs.lemmas.List.Elements.{All-head, All-tail, All-nil, All-cons}
use Rattle.jpg_spec.specs.Lists.{any_of, is_distinct, below}
use Rattle.jpg_spec.specs.Segments.{standard_limits}
use Rattle.jpg_spec.specs.Geometry.{Frame, greatest, div_up, mcus_across, mcus_down, padded_blocks, component_at, is_real, no_component}
use Rattle.jpg_spec.specs.FrameHeader.{is_precision, checked_frame, IsFrame, HasFactors, identifiers, has_bad_factor, has_bad_slot}
use Rattle.jpg_spec.specs.Grids.{Grids, frame_grids}
use Rattle.jpg_spec.specs.declared.fault.Fault.TheVariants.{EmptyImage, TooLarge, Precision, ComponentCount, Sampling, DuplicateComponent, QuantSlot, TooManyBlocks}
use Rattle.jpg_spec.specs.declared.frame.Component.{Component}
use Rattle.jpg_spec.proofs.Basics.Rows.{map_map, by_items}
use Rattle.jpg_spec.proofs.Basics.Common.{lt_no, not_refused}
use Rattle.jpg_spec.proofs.Headers.FrameFound.{real_side, factor_across, factor_down}
use Rattle.jpg_spec.specs.Markers.{Segment}
use Rattle.jpg_spec.specs.Scan.{Blocks}
use Rattle.jpg_spec.specs.Meaning.{picture_frame}
use Rattle.jpg_spec.specs.FileMeaning.{picture_component, meaning_of}

-- what a component is, except for its slot
abbrev pub numbers_of : Component → ℕ × ℕ × ℕ
numbers_of c = (c.id, c.h, c.v)

pub record SameNumbers (f g : Frame) : Type 0 where
  pub process : f.process ≡ g.process
  pub width : f.width ≡ g.width
  pub height : f.height ≡ g.height
  pub precision : f.precision ≡ g.precision
  pub components : map numbers_of f.components ≡ map numbers_of g.components

-- WHAT DEPENDS ON THE NUMBERS

pub by_numbers : {A : Type 0} (f : ℕ × ℕ × ℕ → A) (a b : List Component) → map numbers_of a ≡ map numbers_of b → map (λ c. f (numbers_of c)) a ≡ map (λ c. f (numbers_of c)) b
by_numbers f a b e = sym (map_map f numbers_of a) ∙ ap (map f) e ∙ map_map f numbers_of b

pub same_count : (a b : List Component) → map numbers_of a ≡ map numbers_of b → length a ≡ length b
same_count a b e = sym (length-map a numbers_of) ∙ ap length e ∙ length-map b numbers_of

abbrev FactorsOf : ℕ × ℕ × ℕ → Type 0
FactorsOf n = HasFactors (record { id = n.0; h = n.1; v = n.2; quant = 0 })

of_component : (c : Component) → HasFactors c → FactorsOf (numbers_of c)
of_component c f = record { h_low = f.h_low; h_high = f.h_high; v_low = f.v_low; v_high = f.v_high }

to_component : (c : Component) → FactorsOf (numbers_of c) → HasFactors c
to_component c f = record { h_low = f.h_low; h_high = f.h_high; v_low = f.v_low; v_high = f.v_high }

of_all : (cs : List Component) → All HasFactors cs → All FactorsOf (map numbers_of cs)
of_all [] all = All-nil FactorsOf
of_all (c ∷ cs) all = All-cons FactorsOf (numbers_of c) (map numbers_of cs) (of_component c (All-head HasFactors c cs all)) (of_all cs (All-tail HasFactors c cs all))

to_all : (cs : List Component) → All FactorsOf (map numbers_of cs) → All HasFactors cs
to_all [] all = All-nil HasFactors
to_all (c ∷ cs) all =
    All-cons HasFactors c cs (to_component c (All-head FactorsOf (numbers_of c) (map numbers_of cs) all)) (to_all cs (All-tail FactorsOf (numbers_of c) (map numbers_of cs) all))

abbrev blocks_of : ℕ → ℕ → ℕ × ℕ × ℕ → ℕ
blocks_of a b n = (a * n.1) * (b * n.2)

sum_of : (a b : ℕ) (cs : List Component) → sum_by (λ c. (a * c.h) * (b * c.v)) cs ≡ sum_by (blocks_of a b) (map numbers_of cs)
sum_of a b [] = refl
sum_of a b (c ∷ cs) =
    sum_by-cons (λ c. (a * c.h) * (b * c.v)) c cs ∙ ap (λ n. (a * c.h) * (b * c.v) + n) (sum_of a b cs) ∙ sym (sum_by-cons (blocks_of a b) (numbers_of c) (map numbers_of cs))

same_h : (f g : Frame) → SameNumbers f g → map (λ c. c.h) f.components ≡ map (λ c. c.h) g.components
same_h f g s = by_numbers (λ n. n.1) f.components g.components s.components

same_v : (f g : Frame) → SameNumbers f g → map (λ c. c.v) f.components ≡ map (λ c. c.v) g.components
same_v f g s = by_numbers (λ n. n.2) f.components g.components s.components

same_padded : (f g : Frame) → SameNumbers f g → padded_blocks f ≡ padded_blocks g
same_padded f g s =
    let across : mcus_across f ≡ mcus_across g = ap (λ n. div_up n (8 * greatest (map (λ c. c.h) f.components))) s.width ∙ ap (λ hs. div_up g.width (8 * greatest hs)) (same_h f g s) in
    let down : mcus_down f ≡ mcus_down g = ap (λ n. div_up n (8 * greatest (map (λ c. c.v) f.components))) s.height ∙ ap (λ vs. div_up g.height (8 * greatest vs)) (same_v f g s) in
    sum_of (mcus_across f) (mcus_down f) f.components ∙ ap (λ n. sum_by (blocks_of n (mcus_down f)) (map numbers_of f.components)) across
    ∙ ap (λ n. sum_by (blocks_of (mcus_across g) n) (map numbers_of f.components)) down ∙ ap (λ ns. sum_by (blocks_of (mcus_across g) (mcus_down g)) ns) s.components
    ∙ sym (sum_of (mcus_across g) (mcus_down g) g.components)

-- THE CHECKS

pub same_frame : (f g : Frame) → SameNumbers f g → All (λ c. c.quant ≤ 3) g.components → IsFrame f → IsFrame g
same_frame f g s slots is =
    let l = same_count f.components g.components s.components in
    record {
      width_low = subst (λ n. 1 ≤ n) s.width is.width_low;
      width_high = subst (λ n. n ≤ 65500) s.width is.width_high;
      height_low = subst (λ n. 1 ≤ n) s.height is.height_low;
      height_high = subst (λ n. n ≤ 65500) s.height is.height_high;
      precision = sym (ap (λ p. is_precision p f.precision) s.process ∙ ap (is_precision g.process) s.precision) ∙ is.precision;
      count_low = subst (λ n. 1 ≤ n) l is.count_low;
      count_high = subst (λ n. n ≤ 4) l is.count_high;
      factors = to_all g.components (subst (λ ns. All FactorsOf ns) s.components (of_all f.components is.factors));
      distinct = ap is_distinct (sym (by_numbers (λ n. n.0) f.components g.components s.components)) ∙ is.distinct;
      slots = slots;
      blocks = subst (λ n. n ≤ 8388608) (same_padded f g s) is.blocks;
    }

pub some_not_zero : (n : ℕ) → 1 ≤ n → (n == 0) ≡ false
some_not_zero n h = grind (arith, nat_tests, h)

no_bad_factor : (cs : List Component) → All HasFactors cs → any_of has_bad_factor cs ≡ false
no_bad_factor [] all = refl
no_bad_factor (c ∷ cs) all =
    let f = All-head HasFactors c cs all in
    ap (λ b. (b || (nat_lt 4 c.h || (c.v == 0 || nat_lt 4 c.v))) || any_of has_bad_factor cs) (some_not_zero c.h f.h_low)
    ∙ ap (λ b. (b || (c.v == 0 || nat_lt 4 c.v)) || any_of has_bad_factor cs) (lt_no 4 c.h f.h_high)
    ∙ ap (λ b. (b || nat_lt 4 c.v) || any_of has_bad_factor cs) (some_not_zero c.v f.v_low)
    ∙ ap (λ b. b || any_of has_bad_factor cs) (lt_no 4 c.v f.v_high) ∙ no_bad_factor cs (All-tail HasFactors c cs all)

no_bad_slot : (cs : List Component) → All (λ c. c.quant ≤ 3) cs → any_of has_bad_slot cs ≡ false
no_bad_slot [] all = refl
no_bad_slot (c ∷ cs) all =
    ap (λ b. b || any_of has_bad_slot cs) (lt_no 3 c.quant (All-head (λ c. c.quant ≤ 3) c cs all)) ∙ no_bad_slot cs (All-tail (λ c. c.quant ≤ 3) c cs all)

either_false : (a b : Bool) → a ≡ false → b ≡ false → (a || b) ≡ false
either_false a b e h = ap (λ t. t || b) e ∙ h

-- a frame that has the properties of the checks passes them
pub frame_passes : (f : Frame) → IsFrame f → checked_frame standard_limits f ≡ Ok f
unfolding checked_frame
frame_passes f is =
    not_refused EmptyImage (f.width == 0 || f.height == 0) _ (either_false _ _ (some_not_zero f.width is.width_low) (some_not_zero f.height is.height_low))
    ∙ not_refused TooLarge (nat_lt 65500 f.width || nat_lt 65500 f.height) _ (either_false _ _ (lt_no 65500 f.width is.width_high) (lt_no 65500 f.height is.height_high))
    ∙ not_refused Precision (not (is_precision f.process f.precision)) _ (ap not is.precision)
    ∙ not_refused ComponentCount (length f.components == 0 || nat_lt 4 (length f.components)) _ (either_false _ _ (some_not_zero (length f.components) is.count_low) (lt_no 4 (length f.components) is.count_high))
    ∙ not_refused Sampling (any_of has_bad_factor f.components) _ (no_bad_factor f.components is.factors)
    ∙ not_refused DuplicateComponent (not (is_distinct (identifiers f.components))) _ (ap not is.distinct)
    ∙ not_refused QuantSlot (any_of has_bad_slot f.components) _ (no_bad_slot f.components is.slots)
    ∙ not_refused TooManyBlocks (nat_lt 8388608 (padded_blocks f)) _ (lt_no 8388608 (padded_blocks f) is.blocks)

-- REAL PLACES, by the grids

abbrev pub is_place : Frame → ℕ → ℕ → ℕ → Bool
is_place f i x y = nat_lt i (length f.components) && is_real f i x y

abbrev place_in : Grids → ℕ → ℕ → ℕ → Bool
place_in G i x y =
    nat_lt i (length G.across)
    && (nat_lt x (real_side G.width (get_or G.across i 1) (greatest G.across)) && nat_lt y (real_side G.height (get_or G.down i 1) (greatest G.down)))

place_by : (f : Frame) (i x y : ℕ) → is_place f i x y ≡ place_in (frame_grids f) i x y
place_by f i x y =
    let G = frame_grids f in
    ap (λ n. nat_lt i n && is_real f i x y) (sym (length-map f.components (λ c. c.h)))
    ∙ ap (λ h. nat_lt i (length G.across) && (nat_lt x (real_side f.width h (greatest G.across)) && nat_lt y (real_side f.height (component_at f i).v (greatest G.down)))) (factor_across f i)
    ∙ ap (λ v. nat_lt i (length G.across) && (nat_lt x (real_side f.width (get_or G.across i 1) (greatest G.across)) && nat_lt y (real_side f.height v (greatest G.down)))) (factor_down f i)

same_grids : (f g : Frame) → SameNumbers f g → frame_grids f ≡ frame_grids g
same_grids f g s =
    let of : ℕ → ℕ → List ℕ → List ℕ → Grids = λ w h a d. record { width = w; height = h; across = a; down = d } in
    ap (λ w. of w f.height (map (λ c. c.h) f.components) (map (λ c. c.v) f.components)) s.width ∙ ap (λ h. of g.width h (map (λ c. c.h) f.components) (map (λ c. c.v) f.components)) s.height
    ∙ ap (λ a. of g.width g.height a (map (λ c. c.v) f.components)) (same_h f g s) ∙ ap (λ d. of g.width g.height (map (λ c. c.h) g.components) d) (same_v f g s)

pub same_places : (f g : Frame) (i x y : ℕ) → SameNumbers f g → is_place f i x y ≡ is_place g i x y
same_places f g i x y s = place_by f i x y ∙ ap (λ G. place_in G i x y) (same_grids f g s) ∙ sym (place_by g i x y)

pub file_numbers : (f : Frame) (before : List Segment) (blocks : Blocks) → SameNumbers f (picture_frame (meaning_of f before blocks))
file_numbers f before blocks = record {
  process = refl;
  width = refl;
  height = refl;
  precision = refl;
  components =
      sym (by_items (length f.components) (λ i. numbers_of (component_at f i)) (map numbers_of f.components) (0, 1, 1) (length-map f.components numbers_of)
      (λ i h. sym (get_or-map numbers_of f.components i no_component (0, 1, 1) h)))
      ∙ sym (map_map numbers_of _ (map (picture_component f before) (below (length f.components))) ∙ map_map _ (picture_component f before) (below (length f.components)));
}
