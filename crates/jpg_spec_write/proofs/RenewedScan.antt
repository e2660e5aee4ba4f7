-- Scans that renew a band of each of their blocks, and leave the rest of it.
use Rattle.std.proofs.Common.{◌≡◌, ℕ, ◌+◌, ◌-◌, ◌<◌, ◌≤◌, Bool, true, false, cond, List, [], ◌∷◌, length, drop, get_or, refl, sym, ap, ◌∙◌, subst, arith, ⊎_elim, ℤ, pos, ◌==◌, ◌&&◌}
use Rattle.std.specs.Prelude.{◌||◌, map, nat_le}
use Rattle.std.proofs.lemmas.Bool.{cases_lt}
use Rattle.std.proofs.lemmas.Bool.Decides.{nat_tests}
use Rattle.std.proofs.lemmas.List.{get_or-map, ext_get_or, get_or-take, get_or-drop, get_or_past, length-map, length-drop, length-take-le}
use Rattle.jpg_spec.specs.Lists.{any_of, chunks, below}
use Rattle.jpg_spec.specs.Scan.{Blocks, Scan, band, block_at, SpellsIntervals, coefficient, is_named, ScanMeans}
use Rattle.jpg_spec.specs.PictureInWork.{is_at, AreDistinct}
use Rattle.jpg_spec.specs.declared.frame.Place.{Place}
use Rattle.jpg_spec.proofs.Basics.Rows.{at_below}
use Rattle.jpg_spec.proofs.Files.BlocksOnce.{joined_chunks}
use Rattle.jpg_spec.proofs.Basics.Each.{Each}
use Rattle.jpg_spec_write.proofs.PlacedBlocks.{Placed, all_placed, all_places, blocks_after, found_at, found_none, IsFound, found_each}
use Rattle.jpg_spec.proofs.Basics.Common.{both, same_of, and_intro, length_below}

-- A BLOCK RENEWED in a band: what a coefficient was and what is encoded give what it is

abbrev pub renewed_at : ℕ → ℕ → (ℤ → ℤ → ℤ) → List ℤ → List ℤ → ℕ → ℤ
renewed_at ss se new old due k = cond (nat_le ss k && nat_le k se) (new (get_or old k (pos 0)) (get_or due k (pos 0))) (get_or old k (pos 0))

abbrev pub renewed : ℕ → ℕ → (ℤ → ℤ → ℤ) → List ℤ → List ℤ → List ℤ
renewed ss se new old due = map (renewed_at ss se new old due) (below 64)

pub renewed_size : (ss se : ℕ) (new : ℤ → ℤ → ℤ) (old due : List ℤ) → length (renewed ss se new old due) ≡ 64
renewed_size ss se new old due = length-map (below 64) (renewed_at ss se new old due) ∙ length_below 64

pub renewed_get : (ss se : ℕ) (new : ℤ → ℤ → ℤ) (old due : List ℤ) (k : ℕ) → k < 64 → get_or (renewed ss se new old due) k (pos 0) ≡ renewed_at ss se new old due k
renewed_get ss se new old due k h =
    get_or-map (renewed_at ss se new old due) (below 64) k 0 (pos 0) (subst (λ n. k < n) (sym (length_below 64)) h) ∙ ap (renewed_at ss se new old due) (at_below 64 k h)

-- the band of it
pub renewed_band : (s : Scan) (new : ℤ → ℤ → ℤ) (f : ℤ → ℤ) (old due : List ℤ) → s.ss ≤ s.se → s.se ≤ 63 → length due ≡ 64 → ((k : ℕ) → s.ss ≤ k → k ≤ s.se → new (get_or old k (pos 0)) (get_or due k (pos 0)) ≡ f (get_or due k (pos 0)))
    → band s (renewed s.ss s.se new old due) ≡ map f (band s due)
renewed_band s new f old due low high size step =
    let n = s.se + 1 - s.ss in
    let block = renewed s.ss s.se new old due in
    let d1 = length-drop s.ss block in
    let d2 = length-drop s.ss due in
    let z = renewed_size s.ss s.se new old due in
    let l1 = length-take-le n (drop s.ss block) (omega (arith, d1, z, high, low)) in
    let l2 = length-take-le n (drop s.ss due) (omega (arith, d2, size, high, low)) in
    let l3 = length-map (band s due) f in
    ext_get_or (pos 0) (band s block) (map f (band s due)) (l1 ∙ sym (l3 ∙ l2)) (λ k h.
    (let few : k < n = omega (arith, h, l1) in
    let a : s.ss ≤ s.ss + k = omega arith in
    let b : s.ss + k ≤ s.se = omega (arith, few, low) in
    let c : s.ss + k < 64 = omega (arith, b, high) in
    let here : (nat_le s.ss (s.ss + k) && nat_le (s.ss + k) s.se) ≡ true = and_intro (nat_le s.ss (s.ss + k)) (nat_le (s.ss + k) s.se) (yes s.ss (s.ss + k) a) (yes (s.ss + k) s.se b) in
    get_or-take n (drop s.ss block) k (pos 0) few ∙ get_or-drop s.ss block k (pos 0) ∙ renewed_get s.ss s.se new old due (s.ss + k) c
    ∙ ap (λ x. cond x (new (get_or old (s.ss + k) (pos 0)) (get_or due (s.ss + k) (pos 0))) (get_or old (s.ss + k) (pos 0))) here ∙ step (s.ss + k) a b
    ∙ sym (get_or-map f (band s due) k (pos 0) (pos 0) (subst (λ m. k < m) (sym l2) few) ∙ ap f (get_or-take n (drop s.ss due) k (pos 0) few ∙ get_or-drop s.ss due k (pos 0)))))
  where
    yes : (m n : ℕ) → m ≤ n → nat_le m n ≡ true
    yes m n h = grind (arith, nat_tests, h)

-- BLOCKS with their places, renewed

abbrev pub all_renewed : (Placed → List ℤ) → List Placed → List Placed
all_renewed renew [] = []
all_renewed renew (q ∷ placed) = (q.0, renew q) ∷ all_renewed renew placed

pub renewed_places : (renew : Placed → List ℤ) (placed : List Placed) → map (λ (q : Placed). q.0) (all_renewed renew placed) ≡ map (λ (q : Placed). q.0) placed
renewed_places renew [] = refl
renewed_places renew (q ∷ placed) = ap (λ ps. q.0 ∷ ps) (renewed_places renew placed)

pub renewed_found : (renew : Placed → List ℤ) (after : Blocks) (placed : List Placed) → Each (IsFound after) (all_renewed renew placed) → Each (λ (q : Placed). block_at after q.0 ≡ renew q) placed
renewed_found renew after [] h = tt
renewed_found renew after (q ∷ placed) h = (h.0, renewed_found renew after placed h.1)

pub each_renewed : (P : Placed → Type 0) (renew : Placed → List ℤ) (placed : List Placed) → ((q : Placed) → P (q.0, renew q)) → Each P (all_renewed renew placed)
each_renewed P renew [] h = tt
each_renewed P renew (q ∷ placed) h = (h q, each_renewed P renew placed h)

pub found_by : (P : List ℤ → Type 0) (placed : List Placed) (old : List ℤ) (i x y : ℕ) → Each (λ (q : Placed). is_at i x y q.0 ≡ true → P q.1) placed → P old → P (found_at placed old i x y)
found_by P [] old i x y h o = o
found_by P (q ∷ placed) old i x y h o = by (is_at i x y q.0) refl (found_by P placed old i x y h.1 o)
  where
    by : (b : Bool) → is_at i x y q.0 ≡ b → P (found_at placed old i x y) → P (cond b q.1 (found_at placed old i x y))
    by true e later = h.0 e
    by false e later = later

-- a place is named by its numbers
pub at_numbers : (A : Type 0) (f : ℕ → ℕ → ℕ → A) (i x y : ℕ) (p : Place) → is_at i x y p ≡ true → f p.component p.x p.y ≡ f i x y
at_numbers A f i x y p e =
    let u = both (p.component == i && p.x == x) (p.y == y) e in
    let v = both (p.component == i) (p.x == x) u.0 in
    ap (λ n. f n p.x p.y) (same_of p.component i v.0) ∙ ap (λ n. f i n p.y) (same_of p.x x v.1) ∙ ap (λ n. f i x n) (same_of p.y y u.1)

-- THE SCAN

abbrev pub rows_of : Scan → List (List Place)
rows_of s = chunks s.interval s.places

abbrev pub renew_block : Scan → (ℤ → ℤ → ℤ) → Blocks → Placed → List ℤ
renew_block s new before q = renewed s.ss s.se new (block_at before q.0) q.1

abbrev pub after_renewed : Scan → (ℤ → ℤ → ℤ) → Blocks → Blocks → Blocks
after_renewed s new blocks before = blocks_after (all_renewed (renew_block s new before) (all_placed blocks (rows_of s))) before

module _ (s : Scan) (new : ℤ → ℤ → ℤ) (blocks before : Blocks) where
  places_are : map (λ (q : Placed). q.0) (all_renewed (renew_block s new before) (all_placed blocks (rows_of s))) ≡ s.places
  places_are = renewed_places (renew_block s new before) (all_placed blocks (rows_of s)) ∙ all_places blocks (rows_of s) ∙ joined_chunks s.interval s.places

  pub after_found : AreDistinct s.places → Each (λ (q : Placed). block_at (after_renewed s new blocks before) q.0 ≡ renew_block s new before q) (all_placed blocks (rows_of s))
  after_found d =
      renewed_found (renew_block s new before) (after_renewed s new blocks before) (all_placed blocks (rows_of s))
      (found_each before (all_renewed (renew_block s new before) (all_placed blocks (rows_of s))) (subst AreDistinct (sym (places_are)) d))

  pub after_elsewhere : (i x y : ℕ) → any_of (is_at i x y) s.places ≡ false → after_renewed s new blocks before i x y ≡ before i x y
  after_elsewhere i x y e =
      found_none (all_renewed (renew_block s new before) (all_placed blocks (rows_of s))) (before i x y) i x y (ap (any_of (is_at i x y)) (places_are) ∙ e)

  pub after_size : (i x y : ℕ) → length (before i x y) ≡ 64 → length (after_renewed s new blocks before i x y) ≡ 64
  after_size i x y l =
      found_by (λ b. length b ≡ 64) (all_renewed (renew_block s new before) (all_placed blocks (rows_of s))) (before i x y) i x y
      (each_renewed (λ (q : Placed). is_at i x y q.0 ≡ true → length q.1 ≡ 64) (renew_block s new before) (all_placed blocks (rows_of s)) (λ q e. renewed_size s.ss s.se new (block_at before q.0) q.1)) l

  -- what isn't in the band doesn't change
  pub after_outside : (i x y k : ℕ) → length (before i x y) ≡ 64 → (nat_le s.ss k && nat_le k s.se) ≡ false → coefficient (after_renewed s new blocks before) i x y k ≡ coefficient before i x y k
  after_outside i x y k l e =
      ⊎_elim
      (λ (m : k < 64). found_by (λ b. get_or b k (pos 0) ≡ coefficient before i x y k) (all_renewed (renew_block s new before) (all_placed blocks (rows_of s))) (before i x y) i x y
      (each_renewed (λ (q : Placed). is_at i x y q.0 ≡ true → get_or q.1 k (pos 0) ≡ coefficient before i x y k) (renew_block s new before) (all_placed blocks (rows_of s))
      (λ q a. renewed_get s.ss s.se new (block_at before q.0) q.1 k m
      ∙ ap (λ b. cond b (new (get_or (block_at before q.0) k (pos 0)) (get_or q.1 k (pos 0))) (get_or (block_at before q.0) k (pos 0))) e
      ∙ at_numbers ℤ (λ i x y. coefficient before i x y k) i x y q.0 a)) refl)
      (λ (m : 64 ≤ k). get_or_past (after_renewed s new blocks before i x y) k (pos 0) (omega (arith, after_size i x y l, m)) ∙ sym (get_or_past (before i x y) k (pos 0) (omega (arith, l, m))))
      (cases_lt k 64)

  pub renew_means : (intervals : List (List ℕ)) → ((i x y : ℕ) → length (before i x y) ≡ 64)
      → SpellsIntervals s before (after_renewed s new blocks before) (rows_of s) intervals → ScanMeans s intervals before (after_renewed s new blocks before)
  renew_means intervals sizes spelled = record {
    spelled = spelled;
    rest = λ i x y k h. stays i x y k h;
    sizes = λ i x y. after_size i x y (sizes i x y);
  }
    where
      stays : (i x y k : ℕ) → is_named s i x y k ≡ false → coefficient (after_renewed s new blocks before) i x y k ≡ coefficient before i x y k
      stays i x y k h = by (any_of (is_at i x y) s.places) refl h
        where
          assoc : (a b c : Bool) → ((a && b) && c) ≡ false → a ≡ true → (b && c) ≡ false
          assoc true b c e h = e
          assoc false b c e h = cc

          by : (b : Bool) → any_of (is_at i x y) s.places ≡ b → is_named s i x y k ≡ false → coefficient (after_renewed s new blocks before) i x y k ≡ coefficient before i x y k
          by true z h = after_outside i x y k (sizes i x y) (assoc (any_of (is_at i x y) s.places) (nat_le s.ss k) (nat_le k s.se) h z)
          by false z h = ap (λ b. get_or b k (pos 0)) (after_elsewhere i x y z)

  -- a coefficient of the band, at a place of the scan
  pub after_inside : (P : ℤ → Type 0) (i x y k : ℕ) → k < 64 → (nat_le s.ss k && nat_le k s.se) ≡ true → any_of (is_at i x y) s.places ≡ true
      → Each (λ (q : Placed). is_at i x y q.0 ≡ true → P (new (coefficient before i x y k) (get_or q.1 k (pos 0)))) (all_placed blocks (rows_of s)) → P (coefficient (after_renewed s new blocks before) i x y k)
  after_inside P i x y k m e named h =
      inner (all_placed blocks (rows_of s)) h (sym (ap (any_of (is_at i x y)) (renewed_places (renew_block s new before) (all_placed blocks (rows_of s)))) ∙ ap (any_of (is_at i x y)) (places_are) ∙ named)
    where
      inner : (placed : List Placed) → Each (λ (q : Placed). is_at i x y q.0 ≡ true → P (new (coefficient before i x y k) (get_or q.1 k (pos 0)))) placed → any_of (is_at i x y) (map (λ (q : Placed). q.0) placed) ≡ true
          → P (get_or (found_at (all_renewed (renew_block s new before) placed) (before i x y) i x y) k (pos 0))
      inner [] h z = cc
      inner (q ∷ placed) h z = by (is_at i x y q.0) refl z (λ w. inner placed h.1 w)
        where
          by : (b : Bool) → is_at i x y q.0 ≡ b → (b || any_of (is_at i x y) (map (λ (q : Placed). q.0) placed)) ≡ true
              → (any_of (is_at i x y) (map (λ (q : Placed). q.0) placed) ≡ true → P (get_or (found_at (all_renewed (renew_block s new before) placed) (before i x y) i x y) k (pos 0)))
              → P (get_or (cond b (renew_block s new before q) (found_at (all_renewed (renew_block s new before) placed) (before i x y) i x y)) k (pos 0))
          by true a z later =
              let there : get_or (renew_block s new before q) k (pos 0) ≡ new (coefficient before i x y k) (get_or q.1 k (pos 0)) =
              renewed_get s.ss s.se new (block_at before q.0) q.1 k m
              ∙ ap (λ b. cond b (new (get_or (block_at before q.0) k (pos 0)) (get_or q.1 k (pos 0))) (get_or (block_at before q.0) k (pos 0))) e
              ∙ at_numbers ℤ (λ i x y. new (coefficient before i x y k) (get_or q.1 k (pos 0))) i x y q.0 a in
              subst P (sym there) (h.0 a)
          by false a z later = later z
