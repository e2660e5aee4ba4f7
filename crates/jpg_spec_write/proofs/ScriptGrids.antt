-- Scripts depend only on the number of components, their factors and the precision.
use Rattle.std.proofs.Common.{◌≡◌, ℕ, zero, suc, ◌*◌, cond, List, [], ◌∷◌, ◌++◌, length, refl, sym, ap, ◌∙◌, ◌&&◌, ◌==◌}
use Rattle.std.specs.Prelude.{map, nat_lt, slice_index_or, sum_by}
use Rattle.std.proofs.lemmas.List.{length-map}
use Rattle.std.proofs.Math.Path.{fun_ext}
use Rattle.jpg_spec.specs.Lists.{below}
use Rattle.jpg_spec.specs.Geometry.{Frame, component_at, no_component, factor_sum}
use Rattle.jpg_spec.specs.Grids.{Grids, frame_grids}
use Rattle.jpg_spec_write.specs.Script.{Entry, of_all, sequential_script, is_progressive_script}
use Rattle.jpg_spec_write.specs.ScriptFaults.{of_one, of_each, script_fault, three_colours_script, any_colours_script, standard_script}
use Rattle.jpg_spec.specs.declared.frame.Colour.{Colour}
use Rattle.jpg_spec.specs.declared.frame.Colour.TheVariants.{YCbCr}
use Rattle.jpg_spec.specs.declared.frame.Component.{Component}
use Rattle.jpg_spec_write.proofs.StandardScripts.{same_fault, after_by}

at_map : (g : Component → ℕ) (cs : List Component) (i : ℕ) (d : Component) → g (slice_index_or cs i d) ≡ slice_index_or (map g cs) i (g d)
at_map g [] i d = refl
at_map g (c ∷ cs) zero d = refl
at_map g (c ∷ cs) (suc i) d = at_map g cs i d

-- the number, and the sums of factors

pub same_count : (f g : Frame) → frame_grids f ≡ frame_grids g → length f.components ≡ length g.components
same_count f g e = sym (length-map f.components (λ c. c.h)) ∙ ap (λ (G : Grids). length G.across) e ∙ length-map g.components (λ c. c.h)

same_product : (f g : Frame) (i : ℕ) → frame_grids f ≡ frame_grids g → (component_at f i).h * (component_at f i).v ≡ (component_at g i).h * (component_at g i).v
same_product f g i e =
    ap (λ n. n * (component_at f i).v) (at_map (λ (c : Component). c.h) f.components i no_component ∙ ap (λ (G : Grids). slice_index_or G.across i 1) e ∙ sym (at_map (λ (c : Component). c.h) g.components i no_component))
    ∙ ap (λ n. (component_at g i).h * n) (at_map (λ (c : Component). c.v) f.components i no_component ∙ ap (λ (G : Grids). slice_index_or G.down i 1) e ∙ sym (at_map (λ (c : Component). c.v) g.components i no_component))

same_sum : (f g : Frame) → frame_grids f ≡ frame_grids g → factor_sum f ≡ factor_sum g
same_sum f g e = fun_ext (λ parts. ap (λ (p : ℕ → ℕ). sum_by p parts) (fun_ext (λ i. same_product f g i e)))

-- SCRIPTS by these

abbrev all_by : ℕ → (List ℕ → ℕ) → ℕ → ℕ → ℕ → ℕ → List Entry
all_by n sum ss se ah al =
    cond (nat_lt 1 n && nat_lt 10 (sum (below n))) (map (λ i. of_one i ss se ah al) (below n)) (record { components = below n; ss = ss; se = se; ah = ah; al = al } ∷ [])

same_all : (f g : Frame) (ss se ah al : ℕ) → frame_grids f ≡ frame_grids g → of_all f ss se ah al ≡ of_all g ss se ah al
same_all f g ss se ah al e =
    ap (λ n. all_by n (factor_sum f) ss se ah al) (same_count f g e) ∙ ap (λ (sum : List ℕ → ℕ). all_by (length g.components) sum ss se ah al) (same_sum f g e)

same_each : (f g : Frame) (ss se ah al : ℕ) → frame_grids f ≡ frame_grids g → of_each f ss se ah al ≡ of_each g ss se ah al
same_each f g ss se ah al e = ap (λ n. map (λ i. of_one i ss se ah al) (below n)) (same_count f g e)

pub same_sequential : (f g : Frame) → frame_grids f ≡ frame_grids g → sequential_script f ≡ sequential_script g
same_sequential f g e = same_all f g 0 63 0 0 e

abbrev any_of_parts : List Entry → List Entry → List Entry → List Entry → List Entry → List Entry → List Entry
any_of_parts a b c d e f = a ++ b ++ c ++ d ++ e ++ f

same_any : (f g : Frame) → frame_grids f ≡ frame_grids g → any_colours_script f ≡ any_colours_script g
same_any f g e =
    ap (λ x. any_of_parts x (of_each f 1 5 0 2) (of_each f 6 63 0 2) (of_each f 1 63 2 1) (of_all f 0 0 1 0) (of_each f 1 63 1 0)) (same_all f g 0 0 0 1 e)
    ∙ ap (λ x. any_of_parts (of_all g 0 0 0 1) x (of_each f 6 63 0 2) (of_each f 1 63 2 1) (of_all f 0 0 1 0) (of_each f 1 63 1 0)) (same_each f g 1 5 0 2 e)
    ∙ ap (λ x. any_of_parts (of_all g 0 0 0 1) (of_each g 1 5 0 2) x (of_each f 1 63 2 1) (of_all f 0 0 1 0) (of_each f 1 63 1 0)) (same_each f g 6 63 0 2 e)
    ∙ ap (λ x. any_of_parts (of_all g 0 0 0 1) (of_each g 1 5 0 2) (of_each g 6 63 0 2) x (of_all f 0 0 1 0) (of_each f 1 63 1 0)) (same_each f g 1 63 2 1 e)
    ∙ ap (λ x. any_of_parts (of_all g 0 0 0 1) (of_each g 1 5 0 2) (of_each g 6 63 0 2) (of_each g 1 63 2 1) x (of_each f 1 63 1 0)) (same_all f g 0 0 1 0 e)
    ∙ ap (λ x. any_of_parts (of_all g 0 0 0 1) (of_each g 1 5 0 2) (of_each g 6 63 0 2) (of_each g 1 63 2 1) (of_all g 0 0 1 0) x) (same_each f g 1 63 1 0 e)

abbrev three_of_parts : List Entry → List Entry → List Entry
three_of_parts a b =
    a
    ++ of_one 0 1 5 0 2 ∷ of_one 2 1 63 0 1 ∷ of_one 1 1 63 0 1 ∷ of_one 0 6 63 0 2 ∷ of_one 0 1 63 2 1 ∷ []
    ++ b
    ++ of_one 2 1 63 1 0 ∷ of_one 1 1 63 1 0 ∷ of_one 0 1 63 1 0 ∷ []

same_three : (f g : Frame) → frame_grids f ≡ frame_grids g → three_colours_script f ≡ three_colours_script g
same_three f g e = ap (λ x. three_of_parts x (of_all f 0 0 1 0)) (same_all f g 0 0 0 1 e) ∙ ap (three_of_parts (of_all g 0 0 0 1)) (same_all f g 0 0 1 0 e)

pub same_standard : (f g : Frame) (colour : Colour) → frame_grids f ≡ frame_grids g → standard_script f colour ≡ standard_script g colour
same_standard f g YCbCr e = same_three f g e
same_standard f g colour e = same_any f g e

pub same_script_fault : (f g : Frame) (script : List Entry) → frame_grids f ≡ frame_grids g → f.precision ≡ g.precision → script_fault f script ≡ script_fault g script
unfolding script_fault
same_script_fault f g script e p =
    let is_prog = is_progressive_script script in
    same_fault is_prog f [] 0 script
    ∙ ap (λ n. after_by is_prog (n == 12) (length f.components) (factor_sum f) [] 0 script) p
    ∙ ap (λ n. after_by is_prog (g.precision == 12) n (factor_sum f) [] 0 script) (same_count f g e)
    ∙ ap (λ (sum : List ℕ → ℕ). after_by is_prog (g.precision == 12) (length g.components) sum [] 0 script) (same_sum f g e)
    ∙ sym (same_fault is_prog g [] 0 script)
