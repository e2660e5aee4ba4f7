-- Which factors of components are refused, component by component, and the answer for all of them.
use Rattle.std.proofs.Common.{◌≡◌, ℕ, zero, suc, ◌+◌, ◌<◌, ◌≤◌, map, Bool, ◌||◌, List, [], ◌∷◌, length, get_or, take, drop, add-one, subst, refl, sym, ap, ◌∙◌, arith, Option}
use Rattle.std.proofs.lemmas.List.{get_or-take, length-take-le, length-map}
use Rattle.jpg_spec.specs.Lists.{any_of}
use Rattle.jpg_spec.specs.Geometry.{Frame, greatest, component_at, h_max, v_max}
use Rattle.jpg_spec_image.specs.Pixels.{is_colour_out, is_fractional, shows_gray}
use Rattle.jpg_spec.specs.declared.fault.Fault.{Fault}
use Rattle.jpg_spec.specs.declared.frame.Colour.{Colour}
use Rattle.jpg_color.specs.Admits.{admitted_kind, first_fault, is_deep, kind_of, kind_or, needed_factors}
use Rattle.jpg_color.specs.Shown.{factors_of}
use Rattle.jpg_color.proofs.Coverage.{factor_at, most_first, most_second}

any_next : (t : ℕ × ℕ → Bool) (xs : List (ℕ × ℕ)) (i : ℕ) (default : ℕ × ℕ) → i < length xs → any_of t (drop i xs) ≡ (t (get_or xs i default) || any_of t (drop (suc i) xs))
any_next t [] i default h = absurd (omega (arith, h))
any_next t (x ∷ xs) zero default h = refl
any_next t (x ∷ xs) (suc i) default h = any_next t xs i default (omega (arith, h))

pub next_factors : (f : Frame) (i count : ℕ) (bad : Bool) → i < count → count ≤ length f.components
    → bad ≡ is_fractional (h_max f) (v_max f) ((component_at f i).h, (component_at f i).v)
    → any_of (is_fractional (h_max f) (v_max f)) (drop i (take count (factors_of f))) ≡ (bad || any_of (is_fractional (h_max f) (v_max f)) (drop (i + 1) (take count (factors_of f))))
next_factors f i count bad h le e =
    let t : ℕ × ℕ → Bool = is_fractional (h_max f) (v_max f) in
    let all : length (factors_of f) ≡ length f.components = length-map f.components (λ c. (c.h, c.v)) in
    let long : length (take count (factors_of f)) ≡ count = length-take-le count (factors_of f) (subst (λ n. count ≤ n) (sym all) le) in
    let at : get_or (take count (factors_of f)) i (1, 1) ≡ ((component_at f i).h, (component_at f i).v) =
    get_or-take count (factors_of f) i (1, 1) h ∙ factor_at f i (omega (arith, h, le)) in
    any_next t (take count (factors_of f)) i (1, 1) (subst (λ n. i < n) (sym long) h)
    ∙ ap (λ b. b || any_of t (drop (suc i) (take count (factors_of f)))) (ap t at ∙ sym e)
    ∙ ap (λ n. bad || any_of t (drop n (take count (factors_of f)))) (sym (add-one i))

admitted_is : (colour : Colour) (gray : Bool) (f : Frame) (deep out bad : Bool) → deep ≡ is_deep f.precision → out ≡ is_colour_out colour gray
    → bad ≡ any_of (is_fractional (h_max f) (v_max f)) (needed_factors (shows_gray colour gray) (factors_of f))
    → kind_or (first_fault deep out bad) (kind_of colour gray) ≡ admitted_kind f.precision colour gray (factors_of f)
admitted_is colour gray f deep out bad d o b =
    let shown = kind_of colour gray in
    let needed = needed_factors (shows_gray colour gray) (factors_of f) in
    let told : Bool → Option Fault = first_fault (is_deep f.precision) (is_colour_out colour gray) in
    ap (λ (x : Bool). kind_or (first_fault x out bad) shown) d
    ∙ ap (λ (x : Bool). kind_or (first_fault (is_deep f.precision) x bad) shown) o
    ∙ ap (λ (x : Bool). kind_or (told x) shown) b
    ∙ ap (λ (n : ℕ). kind_or (told (any_of (is_fractional n (v_max f)) needed)) shown) (sym (most_first f.components))
    ∙ ap (λ (n : ℕ). kind_or (told (any_of (is_fractional (greatest (map (λ (p : ℕ × ℕ). p.0) (factors_of f))) n) needed)) shown) (sym (most_second f.components))

-- the same from the fault and the colours as a caller has them
pub told_admitted : (colour : Colour) (gray alone : Bool) (f : Frame) (deep out bad : Bool) (o : Option Fault) → alone ≡ shows_gray colour gray → deep ≡ is_deep f.precision
    → out ≡ is_colour_out colour gray → bad ≡ any_of (is_fractional (h_max f) (v_max f)) (needed_factors alone (factors_of f)) → o ≡ first_fault deep out bad
    → kind_or o (kind_of colour gray) ≡ admitted_kind f.precision colour gray (factors_of f)
told_admitted colour gray alone f deep out bad o a d e b is =
    ap (λ (x : Option Fault). kind_or x (kind_of colour gray)) is
    ∙ admitted_is colour gray f deep out bad d e (b ∙ ap (λ (x : Bool). any_of (is_fractional (h_max f) (v_max f)) (needed_factors x (factors_of f))) a)
