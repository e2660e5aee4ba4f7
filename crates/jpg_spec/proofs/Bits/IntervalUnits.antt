-- The units of the current interval: new ones in a sequential scan, and with zero bands in a first pass.
use Rattle.std.proofs.Common.{◌≡◌, ℕ, ◌+◌, ◌-◌, ◌*◌, ◌≤◌, true, false, ◌==◌, List, [], ◌∷◌, ◌++◌, refl, sym, ap, ◌∙◌, subst, arith}
use Rattle.std.specs.Prelude.{◌||◌, map, flat_map}
use Rattle.std.proofs.lemmas.Bool.Decides.{nat_tests}
use Rattle.jpg_spec.specs.Lists.{is_among, below, chunks, joined}
use Rattle.jpg_spec.specs.Geometry.{Frame, is_progressive, component_at, blocks_across, blocks_down, mcus_across, mcus_down, place, mcu_part, units}
use Rattle.jpg_spec.specs.Segments.{ScanHead, head_components}
use Rattle.jpg_spec.specs.Elements.{UnitLeft, zeros, new_unit}
use Rattle.jpg_spec.specs.Scan.{Blocks, Scan, unit_at}
use Rattle.jpg_spec.specs.InForce.{frame_of, head_in}
use Rattle.jpg_spec.specs.Items.{segments_of}
use Rattle.jpg_spec.specs.FirstFault.{HoldsAll}
use Rattle.jpg_spec.specs.ScanReading.{ScanPlace, scan_at, ScanAt}
use Rattle.jpg_spec.specs.declared.frame.Limits.{Limits}
use Rattle.jpg_spec.specs.declared.frame.Place.{Place}
use Rattle.jpg_spec.proofs.Files.BlocksOnce.{joined_chunks}
use Rattle.jpg_spec.proofs.Places.PictureInWork.{joined_join}
use Rattle.jpg_spec.proofs.Bits.FirstPasses.{sequential_unit, first_band}
use Rattle.jpg_spec.proofs.Bits.Excludes.{or_true}

-- PLACES of these components
abbrev pub AllAmong : List ℕ → List Place → Type 0
AllAmong parts [] = Unit {0}
AllAmong parts (p ∷ places) = (is_among p.component parts ≡ true) × AllAmong parts places

among_join : (parts : List ℕ) (a b : List Place) → AllAmong parts a → AllAmong parts b → AllAmong parts (a ++ b)
among_join parts [] b s t = t
among_join parts (p ∷ a) b s t = (s.0, among_join parts a b s.1 t)

among_front : (parts : List ℕ) (a b : List Place) → AllAmong parts (a ++ b) → AllAmong parts a
among_front parts [] b s = tt
among_front parts (p ∷ a) b s = (s.0, among_front parts a b s.1)

among_after : (parts : List ℕ) (a b : List Place) → AllAmong parts (a ++ b) → AllAmong parts b
among_after parts [] b s = s
among_after parts (p ∷ a) b s = among_after parts a b s.1

among_flat : (parts : List ℕ) (f : ℕ → List Place) (xs : List ℕ) → ((x : ℕ) → AllAmong parts (f x)) → AllAmong parts (flat_map f xs)
among_flat parts f [] h = tt
among_flat parts f (x ∷ xs) h = among_join parts (f x) (flat_map f xs) (h x) (among_flat parts f xs h)

among_map : (parts : List ℕ) (g : ℕ → Place) (xs : List ℕ) → ((x : ℕ) → is_among (g x).component parts ≡ true) → AllAmong parts (map g xs)
among_map parts g [] h = tt
among_map parts g (x ∷ xs) h = (h x, among_map parts g xs h)

among_parts : (all : List ℕ) (f : Frame) (mx my : ℕ) (parts : List ℕ) → ((i : ℕ) → is_among i parts ≡ true → is_among i all ≡ true) → AllAmong all (flat_map (mcu_part f mx my) parts)
among_parts all f mx my [] h = tt
among_parts all f mx my (i ∷ parts) h =
    let same : (i == i) ≡ true = grind (arith, nat_tests) in
    let here : is_among i all ≡ true = h i (ap (λ b. b || is_among i parts) same) in
    let c = component_at f i in
    among_join all (mcu_part f mx my i) (flat_map (mcu_part f mx my) parts)
    (among_flat all (λ v. map (λ h. place f i (mx * c.h + h) (my * c.v + v)) (below c.h)) (below c.v) (λ v. among_map all (λ h. place f i (mx * c.h + h) (my * c.v + v)) (below c.h) (λ h. here)))
    (among_parts all f mx my parts (λ j e. h j (ap (λ b. (i == j) || b) e ∙ or_true (i == j))))

pub units_among : (f : Frame) (parts : List ℕ) → AllAmong parts (units f parts)
unfolding units
units_among f [] = tt
units_among f (i ∷ []) =
    let same : (i == i) ≡ true = grind (arith, nat_tests) in
    let here : is_among i (i ∷ []) ≡ true = ap (λ b. b || false) same in
    among_flat (i ∷ []) (λ y. map (λ x. place f i x y) (below (blocks_across f (component_at f i)))) (below (blocks_down f (component_at f i)))
    (λ y. among_map (i ∷ []) (λ x. place f i x y) (below (blocks_across f (component_at f i))) (λ x. here))
units_among f (i ∷ j ∷ parts) =
    among_flat (i ∷ j ∷ parts) (λ my. flat_map (λ mx. flat_map (mcu_part f mx my) (i ∷ j ∷ parts)) (below (mcus_across f))) (below (mcus_down f))
    (λ my. among_flat (i ∷ j ∷ parts) (λ mx. flat_map (mcu_part f mx my) (i ∷ j ∷ parts)) (below (mcus_across f)) (λ mx. among_parts (i ∷ j ∷ parts) f mx my (i ∷ j ∷ parts) (λ k e. e)))

-- THE INTERVALS that are left are the last ones
due_split : (s : Scan) (before : Blocks) (all : List (List Place)) (done : List (List ℕ)) (due : List (List Place)) → HoldsAll s before all done due → (front : List (List Place)) × (all ≡ front ++ due)
due_split s before all [] due h = ([], h)
due_split s before [] (c ∷ done) due h = absurd h
due_split s before (p ∷ all) (c ∷ done) due h = let r = due_split s before all done due h.2 in (p ∷ r.0, ap (λ l. p ∷ l) r.1)

places_cut : (limits : Limits) (bytes : List ℕ) (p : ScanPlace) (tail : List ℕ) → ScanAt limits bytes p tail → (front : List Place) × (rest : List Place) × ((scan_at limits p).places ≡ front ++ (p.places ++ rest))
places_cut limits bytes p tail w =
    let s = scan_at limits p in
    let d = due_split s p.blocks (chunks s.interval s.places) p.done (p.places ∷ p.later) w.due in
    (joined d.0, joined p.later, sym (joined_chunks s.interval s.places) ∙ ap joined d.1 ∙ joined_join d.0 (p.places ∷ p.later))

abbrev pub head_of : Limits → ScanPlace → ScanHead
head_of limits p = head_in (frame_of limits (segments_of p.items)) p.contents

pub places_among : (limits : Limits) (bytes : List ℕ) (p : ScanPlace) (tail : List ℕ) → ScanAt limits bytes p tail → AllAmong (head_components (head_of limits p)) p.places
places_among limits bytes p tail w =
    let parts = head_components (head_of limits p) in
    let cut = places_cut limits bytes p tail w in
    among_front parts p.places cut.1 (among_after parts cut.0 (p.places ++ cut.1) (subst (λ l. AllAmong parts l) cut.2 (units_among (frame_of limits (segments_of p.items)) parts)))

-- THE LAWS

map_same : (parts : List ℕ) (f g : Place → UnitLeft) (places : List Place) → AllAmong parts places → ((q : Place) → is_among q.component parts ≡ true → f q ≡ g q) → map f places ≡ map g places
map_same parts f g [] a h = refl
map_same parts f g (q ∷ places) a h = ap (λ u. u ∷ map f places) (h q a.0) ∙ ap (λ l. g q ∷ l) (map_same parts f g places a.1 h)

-- the units of a sequential scan are new
pub sequential_units : (limits : Limits) (bytes : List ℕ) (p : ScanPlace) (tail : List ℕ) → ScanAt limits bytes p tail → is_progressive (frame_of limits (segments_of p.items)).process ≡ false
    → map (unit_at (scan_at limits p) p.blocks) p.places ≡ map (λ q. new_unit q.component) p.places
sequential_units limits bytes p tail w plain =
    map_same (head_components (head_of limits p)) (unit_at (scan_at limits p) p.blocks) (λ q. new_unit q.component) p.places (places_among limits bytes p tail w)
    (λ q e. sequential_unit limits p.items p.blocks p.contents q w.leads w.allowed.1 plain e)

-- those of a first pass have only zeros
abbrev pub first_unit : Scan → ℕ → UnitLeft
first_unit s i = record { component = i; has_dc = s.ss == 0; old = zeros (s.se + 1 - s.ss) }

pub first_units : (limits : Limits) (bytes : List ℕ) (p : ScanPlace) (tail : List ℕ) → ScanAt limits bytes p tail → is_progressive (frame_of limits (segments_of p.items)).process ≡ true
    → (head_of limits p).ah ≡ 0 → (head_of limits p).se ≤ 63 → map (unit_at (scan_at limits p) p.blocks) p.places ≡ map (λ q. first_unit (scan_at limits p) q.component) p.places
first_units limits bytes p tail w prog first high =
    map_same (head_components (head_of limits p)) (unit_at (scan_at limits p) p.blocks) (λ q. first_unit (scan_at limits p) q.component) p.places (places_among limits bytes p tail w)
    (λ q e. ap (λ old. (let u : UnitLeft = record { component = q.component; has_dc = (scan_at limits p).ss == 0; old = old } in u)) (first_band limits p.items p.blocks p.contents q w.leads w.allowed.1 prog e first high))
