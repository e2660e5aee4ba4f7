-- Tables made of numbers: their numbers in zigzag order, and one table after another.
use Rattle.std.proofs.Common.{◌≡◌, ℕ, ◌+◌, ◌-◌, ◌*◌, ◌/◌, ◌<◌, ◌≤◌, true, List, [], ◌∷◌, ◌++◌, length, take, drop, set, get_or, slice_index, map, nat_lt, add-one, refl, sym, ap, ◌∙◌, arith, rules, Fits, w64}
use Rattle.std.proofs.lemmas.Bool.{ltb-true}
use Rattle.std.proofs.lemmas.List.{length-map, map-append, take_all, take_more, take_more_set}
use Rattle.std.proofs.lemmas.List.Elements.{All-get_or}
use Rattle.std.proofs.lemmas.List.Sums.{AllPass-from_list_all}
use Rattle.jpg_spec.specs.Lists.{below}
use Rattle.jpg_spec.specs.Zigzag.{zigzag}
use Rattle.jpg_spec.specs.Segments.{QuantTable}
use Rattle.jpg_spec_image.specs.Quality.{in_zigzag}
use Rattle.jpg_spec_image.specs.TableText.{table_at}
use Rattle.jpg_spec.proofs.Basics.Common.{length_below}

-- IN ZIGZAG ORDER

natural_low : (k : ℕ) → k < 64 → get_or zigzag k 0 < 64
natural_low k lt = ltb-true (get_or zigzag k 0) 64 (All-get_or (λ x. nat_lt x 64 ≡ true) zigzag k 0 lt (AllPass-from_list_all (λ x. nat_lt x 64) zigzag refl))

pub natural_below : (rows : List ℕ) (k : ℕ) → length rows ≡ 64 → k < 64 → get_or zigzag k 0 < length rows
natural_below rows k long lt = let low = natural_low k lt in omega (arith, long, low)

pub natural_fits : (k : ℕ) → k < 64 → Fits w64 (get_or zigzag k 0 * 2)
natural_fits k lt = let low = natural_low k lt in search (rules, low, arith)

pub number_more : (rows values : List ℕ) (k v : ℕ) → length values ≡ 64 → k < 64 → take k values ≡ map (slice_index rows) (take k zigzag) → v ≡ slice_index rows (get_or zigzag k 0)
    → take (k + 1) (set values k v) ≡ map (slice_index rows) (take (k + 1) zigzag)
number_more rows values k v long lt e is =
    take_more_set values k v (omega (arith, long, lt))
    ∙ ap (λ ys. ys ++ v ∷ []) e
    ∙ ap (λ y. map (slice_index rows) (take k zigzag) ++ y ∷ []) is
    ∙ sym (map-append (slice_index rows) (take k zigzag) (get_or zigzag k 0 ∷ []))
    ∙ ap (map (slice_index rows)) (sym (take_more zigzag k 0 lt))

pub numbers_done : (rows values : List ℕ) (k : ℕ) → length values ≡ 64 → k ≡ 64 → take k values ≡ map (slice_index rows) (take k zigzag) → values ≡ in_zigzag rows
numbers_done rows values k long is e = sym (take_all k values (omega (arith, long, is))) ∙ e ∙ ap (λ m. map (slice_index rows) (take m zigzag)) is

-- ONE AFTER ANOTHER

pub table_more : (numbers : List ℕ) (tables : List QuantTable) (t : QuantTable) (i : ℕ) → tables ≡ map (table_at numbers) (below i) → t ≡ in_zigzag (take (64 * i + 64 - 64 * i) (drop (64 * i) numbers))
    → tables ++ t ∷ [] ≡ map (table_at numbers) (below (i + 1))
table_more numbers tables t i e is =
    let sixty_four : 64 * i + 64 - 64 * i ≡ 64 = omega arith in
    ap (λ (l : List QuantTable). l ++ t ∷ []) e
    ∙ ap (λ (x : QuantTable). map (table_at numbers) (below i) ++ x ∷ []) (is ∙ ap (λ m. in_zigzag (take m (drop (64 * i) numbers))) sixty_four)
    ∙ sym (map-append (table_at numbers) (below i) (i ∷ []))
    ∙ ap (λ m. map (table_at numbers) (below m)) (sym (add-one i))

pub few_tables : (numbers : List ℕ) (tables : List QuantTable) (i : ℕ) → length numbers ≤ 256 → tables ≡ map (table_at numbers) (below i) → i < length numbers / 64 → length tables < 4
few_tables numbers tables i few e lt =
    let long : length tables ≡ i = ap length e ∙ length-map (below i) (table_at numbers) ∙ length_below i in
    omega (arith, few, long, lt)
