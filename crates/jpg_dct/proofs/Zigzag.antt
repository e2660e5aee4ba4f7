-- Blocks in natural order and in zigzag order.
use Rattle.std.proofs.Common.{◌≡◌, ℕ, ◌+◌, ◌*◌, ◌/◌, ◌%◌, ◌^◌, ◌<◌, ◌≤◌, true, List, [], ◌∷◌, ◌++◌, length, take, set, get_or, slice_index, map, add-one, refl, sym, ap, ◌∙◌, subst, arith, ⊎_elim, ◌≢◌, All, ℤ, pos, nat_lt, nat_abs, negsuc, neg_ℤ}
use Rattle.std.specs.Prelude.{zip}
use Rattle.std.proofs.lemmas.Bool.{ltb-true, cases_lt}
use Rattle.std.proofs.lemmas.List.{get_or-map, take_more_set, take_all, map-append, get_or-set_same, get_or-set_other}
use Rattle.std.proofs.lemmas.List.Elements.{All-get_or}
use Rattle.std.proofs.lemmas.List.Sums.{AllPass-from_list_all}
use Rattle.jpg_spec.specs.Lists.{below, index_of}
use Rattle.jpg_spec.specs.Zigzag.{zigzag}
use Rattle.jpg_spec_image.specs.Dct.{number_at}
use Rattle.jpg_spec_image.specs.ForwardDct.{multiples, quantised, quantised_block, forward_dct}
use Rattle.jpg_spec.proofs.Basics.Rows.{at_below, map_alike, by_items}
use Rattle.jpg_dct.specs.Natural.{natural_table}
use Rattle.jpg_dct.specs.Division.{with_sign, divided, Divides, AreDivisors, AreFewer}
use Rattle.jpg_dct.specs.declared.forward.lanes.Eight.{Eight}
use Rattle.jpg_dct.specs.Eights.{IsEight, AreQuotients, vector, quotient_at}

-- THE PLACES of natural indices

abbrev pub places : List ℕ
places = map (λ n. index_of n zigzag) (below 64)

pub place_is : (n : ℕ) → n < 64 → get_or places n 0 ≡ index_of n zigzag
place_is n lt = get_or-map (λ m. index_of m zigzag) (below 64) n 0 0 lt ∙ ap (λ m. index_of m zigzag) (at_below 64 n lt)

pub place_low : (n : ℕ) → n < 64 → get_or places n 0 < 64
place_low n lt = ltb-true (get_or places n 0) 64 (All-get_or (λ x. nat_lt x 64 ≡ true) places n 0 lt (AllPass-from_list_all (λ x. nat_lt x 64) places refl))

pub pair_fits : (k : ℕ) → k < 64 → k * 2 < 2 ^ 64
pair_fits k lt = omega (arith, lt)

abbrev pub value_of : List ℕ → ℕ → ℕ
value_of table n = slice_index table (index_of n zigzag)

pub place_step : (table values : List ℕ) (n v : ℕ) → length values ≡ 64 → n < 64 → take n values ≡ map (value_of table) (below n) → v ≡ slice_index table (get_or places n 0)
    → take (n + 1) (set values n v) ≡ map (value_of table) (below (n + 1))
place_step table values n v long lt e is =
    take_more_set values n v (omega (arith, long, lt))
    ∙ ap (λ ys. ys ++ v ∷ []) e
    ∙ ap (λ y. map (value_of table) (below n) ++ y ∷ []) (is ∙ ap (slice_index table) (place_is n lt))
    ∙ sym (map-append (value_of table) (below n) (n ∷ []))
    ∙ ap (λ m. map (value_of table) (below m)) (sym (add-one n))

pub places_done : (table values : List ℕ) (n : ℕ) → length values ≡ 64 → n ≡ 64 → take n values ≡ map (value_of table) (below n) → values ≡ natural_table table
places_done table values n long is e = sym (take_all n values (omega (arith, long, is))) ∙ e ∙ ap (λ m. map (value_of table) (below m)) is

-- back again
pub back : (table : List ℕ) → length table ≡ 64 → map (slice_index (natural_table table)) zigzag ≡ table
back table long = (let e : map (slice_index (natural_table table)) zigzag ≡ map (slice_index table) (below 64) = refl in e ∙ by_items 64 (slice_index table) table 0 long (λ i h. refl))

-- DIVIDED BLOCKS

quantised_is : (t : ℤ) (q : ℕ) → quantised t q ≡ with_sign t (multiples (nat_abs t) q)
quantised_is (pos n) q = refl
quantised_is (negsuc n) q = ap (λ m. neg_ℤ (pos (multiples m q))) (omega arith)

pub divided_is : (t : ℤ) (q half factor scale : ℕ) → Divides q half factor scale → nat_abs t ≤ 8192 → with_sign t (divided (nat_abs t) half factor scale) ≡ quantised t q
divided_is t q half factor scale d small = ap (with_sign t) (d.all (nat_abs t) small) ∙ sym (quantised_is t q)

zipped : (f : ℕ → ℕ → ℤ) (g : ℕ → ℕ) (ns : List ℕ) → map (λ n. f n (g n)) ns ≡ map (λ p. f p.0 p.1) (zip ns (map g ns))
zipped f g [] = refl
zipped f g (n ∷ ns) = ap (λ (xs : List ℤ). (let l : List ℤ = f n (g n) ∷ xs in l)) (zipped f g ns)

pub coded_block : (values : List ℤ) (coded : ℕ → ℤ) (quants halves factors scales : List ℕ) → AreDivisors quants halves factors scales
    → ((n : ℕ) → n < 64 → nat_abs (number_at values n) ≤ 8192)
    → ((n : ℕ) → n < 64 → coded n ≡ quotient_at (number_at values n) halves factors scales n)
    → map coded zigzag ≡ quantised_block (map (slice_index quants) zigzag) values
coded_block values coded quants halves factors scales d small all =
    map_alike (λ n. nat_lt n 64 ≡ true) coded (λ n. quantised (number_at values n) (slice_index quants n)) zigzag one (AllPass-from_list_all (λ x. nat_lt x 64) zigzag refl)
    ∙ zipped (λ n q. quantised (number_at values n) q) (slice_index quants) zigzag
  where
    one : (n : ℕ) → nat_lt n 64 ≡ true → coded n ≡ quantised (number_at values n) (slice_index quants n)
    one n h =
        let lt : n < 64 = ltb-true n 64 h in
        all n lt ∙ divided_is (number_at values n) (slice_index quants n) (slice_index halves n) (slice_index factors n) (slice_index scales n) (d.at n lt) (small n lt)

-- rows of frequencies, divided
pub coded_rows : (samples : List ℕ) (rows done : Eight) (quants halves factors scales : List ℕ) → AreDivisors quants halves factors scales
    → ((v : ℕ) → v < 8 → IsEight 8192 (vector rows v))
    → ((u v : ℕ) → u < 8 → v < 8 → number_at (vector rows v) u ≡ number_at (forward_dct samples) (8 * v + u))
    → AreQuotients rows done halves factors scales
    → map (λ n. number_at (vector done (n / 8)) (n % 8)) zigzag ≡ quantised_block (map (slice_index quants) zigzag) (forward_dct samples)
coded_rows samples rows done quants halves factors scales d small is all =
    coded_block (forward_dct samples) (λ n. number_at (vector done (n / 8)) (n % 8)) quants halves factors scales d
    (λ n lt. (let lv : n / 8 < 8 = omega (arith, lt) in
    subst (λ x. nat_abs x ≤ 8192) (here n lt) ((small (n / 8) lv).small (n % 8) (omega arith))))
    (λ n lt. (let lv : n / 8 < 8 = omega (arith, lt) in
    let e : 8 * (n / 8) + n % 8 ≡ n = omega arith in
    all (n % 8) (n / 8) (omega arith) lv ∙ ap (λ x. quotient_at x halves factors scales (8 * (n / 8) + n % 8)) (here n lt)
    ∙ ap (λ m. quotient_at (number_at (forward_dct samples) n) halves factors scales m) e))
  where
    here : (n : ℕ) → n < 64 → number_at (vector rows (n / 8)) (n % 8) ≡ number_at (forward_dct samples) n
    here n lt =
        let lv : n / 8 < 8 = omega (arith, lt) in
        let e : 8 * (n / 8) + n % 8 ≡ n = omega arith in
        is (n % 8) (n / 8) (omega arith) lv ∙ ap (number_at (forward_dct samples)) e

pub are_fewer : (quants halves factors scales : List ℕ) → AreDivisors quants halves factors scales → AreFewer halves scales
are_fewer quants halves factors scales d = record { half = λ n lt. (d.at n lt).small; scale = λ n lt. (d.at n lt).few }

-- MADE READY, one after another

pub natural_some : (table : List ℕ) (n : ℕ) → length table ≡ 64 → All (λ q. 1 ≤ q) table → n < 64 → 1 ≤ slice_index (natural_table table) n
natural_some table n long all lt =
    let low : index_of n zigzag < 64 = subst (λ k. k < 64) (place_is n lt) (place_low n lt) in
    let e : slice_index (natural_table table) n ≡ slice_index table (index_of n zigzag) =
    get_or-map (value_of table) (below 64) n 0 0 lt ∙ ap (value_of table) (at_below 64 n lt)
    in
    subst (λ q. 1 ≤ q) (sym e) (All-get_or (λ q. 1 ≤ q) table (index_of n zigzag) 0 (omega (arith, long, low)) all)

-- three tables of numbers that divide, and three such numbers
pub record Tables : Type 0 where
  pub halves : List ℕ
  pub factors : List ℕ
  pub scales : List ℕ

pub record Divisor : Type 0 where
  pub half : ℕ
  pub factor : ℕ
  pub scale : ℕ

abbrev pub divisor_at : Tables → ℕ → Divisor
divisor_at t k = record { half = slice_index t.halves k; factor = slice_index t.factors k; scale = slice_index t.scales k }

abbrev pub with_divisor : Tables → ℕ → Divisor → Tables
with_divisor t n d = record { halves = set t.halves n d.half; factors = set t.factors n d.factor; scales = set t.scales n d.scale }

abbrev pub DividesBy : ℕ → Divisor → Type 0
DividesBy q d = Divides q d.half d.factor d.scale

pub divides_more : (quants : List ℕ) (t : Tables) (n : ℕ) (d : Divisor) → n < 64 → length t.halves ≡ 64 → length t.factors ≡ 64 → length t.scales ≡ 64
    → ((k : ℕ) → k < n → DividesBy (slice_index quants k) (divisor_at t k)) → DividesBy (slice_index quants n) d
    → (k : ℕ) → k < n + 1 → DividesBy (slice_index quants k) (divisor_at (with_divisor t n d) k)
divides_more quants t n d lt lh lf ls old now k lk =
    ⊎_elim
    (λ (a : k < n). (let differ : k ≢ n = (λ e. omega (arith, a, e)) in
    same (slice_index quants k) (divisor_at t k) (divisor_at (with_divisor t n d) k)
    (sym (get_or-set_other t.halves n k d.half 0 differ)) (sym (get_or-set_other t.factors n k d.factor 0 differ)) (sym (get_or-set_other t.scales n k d.scale 0 differ)) (old k a)))
    (λ (b : n ≤ k). (let e : n ≡ k = omega (arith, b, lk) in
    subst (λ j. DividesBy (slice_index quants j) (divisor_at (with_divisor t n d) j)) e
    (same (slice_index quants n) d (divisor_at (with_divisor t n d) n)
    (sym (get_or-set_same t.halves n d.half 0 (omega (arith, lh, lt)))) (sym (get_or-set_same t.factors n d.factor 0 (omega (arith, lf, lt))))
    (sym (get_or-set_same t.scales n d.scale 0 (omega (arith, ls, lt)))) now)))
    (cases_lt k n)
  where
    same : (q : ℕ) (d e : Divisor) → d.half ≡ e.half → d.factor ≡ e.factor → d.scale ≡ e.scale → DividesBy q d → DividesBy q e
    same q d e eh ef es h =
        subst (λ x. Divides q x e.factor e.scale) eh (subst (λ x. Divides q d.half x e.scale) ef (subst (λ x. Divides q d.half d.factor x) es h))
