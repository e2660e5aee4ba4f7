-- A progressive scan of a band of AC leads from what was known to what is known.
use Rattle.std.proofs.Common.{◌≡◌, ℕ, zero, suc, ◌+◌, ◌-◌, ◌<◌, ◌≤◌, Bool, true, false, cond, List, [], ◌∷◌, length, take, drop, get_or, refl, sym, ap, ◌∙◌, subst, arith, ℤ, pos, ◌&&◌}
use Rattle.std.specs.Prelude.{map, flat_map, nat_le, nat_lt, nat_abs, int_le}
use Rattle.std.proofs.lemmas.List.{get_or-map, ext_get_or, get_or-take, get_or-drop, length-map, length-drop, length-take-le}
use Rattle.jpg_spec.specs.Lists.{any_of, is_among, below}
use Rattle.jpg_spec.specs.Geometry.{Frame, bounds_of, bounds, is_real, component_at, blocks_across, blocks_down, place, units}
use Rattle.jpg_spec.specs.FrameHeader.{IsFrame}
use Rattle.jpg_spec.specs.Segments.{ScanHead, head_components}
use Rattle.jpg_spec.specs.Elements.{are_in_bounds, IsBlockIn, scaled, zeros}
use Rattle.jpg_spec_write.specs.Sending.{divided}
use Rattle.jpg_spec.specs.Scan.{Blocks, Scan, band, block_at, coefficient}
use Rattle.jpg_spec.specs.Meaning.{Meaning}
use Rattle.jpg_spec_write.specs.ScanText.{last_dc}
use Rattle.jpg_spec.specs.History.{names, has_coefficient}
use Rattle.jpg_spec_write.specs.FileText.{frame_of_meaning}
use Rattle.jpg_spec.specs.PictureInWork.{is_at, AreDistinct}
use Rattle.jpg_spec.specs.declared.frame.Place.{Place}
use Rattle.jpg_spec.proofs.Places.PlacesDistinct.{units_distinct, map_is_flat}
use Rattle.jpg_spec.proofs.Basics.Each.{Each, each_map, each_join, each_flat}
use Rattle.jpg_spec.specs.declared.frame.Bounds.{Bounds}
use Rattle.jpg_spec.proofs.Basics.Small.{IsAcValue}
use Rattle.jpg_spec_write.proofs.PlacedBlocks.{Placed, block_due, placed_due, all_placed, each_both}
use Rattle.jpg_spec.proofs.Places.PlacesFound.{flat_below, each_units, real_found}
use Rattle.jpg_spec_write.proofs.WrittenScan.{IsPlaceOf, IsPicture, all_real, none_other}
use Rattle.jpg_spec_write.proofs.RenewedScan.{renew_block, renewed_band, rows_of, after_renewed, after_found, after_elsewhere, after_outside, after_inside}
use Rattle.jpg_spec_write.proofs.ProgressiveRows.{IsBandDue}
use Rattle.jpg_spec_write.proofs.ProgressiveKnown.{ac_known, IsRenewed}
use Rattle.jpg_spec.proofs.Places.Known.{was_known}
use Rattle.jpg_spec_write.proofs.ProgressiveScan.{IsProgressiveScan, each_place, rows_each}
use Rattle.jpg_spec.proofs.Basics.Common.{both, le_of, and_intro, lt_yes}

-- BANDS

-- a band by its coefficients
band_by : (s : Scan) (f : ℤ → ℤ) (a b : List ℤ) → s.ss ≤ s.se → s.se ≤ 63 → length a ≡ 64 → length b ≡ 64 → ((k : ℕ) → s.ss ≤ k → k ≤ s.se → get_or a k (pos 0) ≡ f (get_or b k (pos 0))) → band s a ≡ map f (band s b)
band_by s f a b low high la lb step =
    let n = s.se + 1 - s.ss in
    let d1 = length-drop s.ss a in
    let d2 = length-drop s.ss b in
    let l1 = length-take-le n (drop s.ss a) (omega (arith, d1, la, high, low)) in
    let l2 = length-take-le n (drop s.ss b) (omega (arith, d2, lb, high, low)) in
    let l3 = length-map (band s b) f in
    ext_get_or (pos 0) (band s a) (map f (band s b)) (l1 ∙ sym (l3 ∙ l2)) (λ k h.
    (let few : k < n = omega (arith, h, l1) in
    get_or-take n (drop s.ss a) k (pos 0) few ∙ get_or-drop s.ss a k (pos 0) ∙ step (s.ss + k) (omega arith) (omega (arith, few, low))
    ∙ sym (get_or-map f (band s b) k (pos 0) (pos 0) (subst (λ m. k < m) (sym l2) few) ∙ ap f (get_or-take n (drop s.ss b) k (pos 0) few ∙ get_or-drop s.ss b k (pos 0)))))

acs_small : (b : Bounds) (vs : List ℤ) → are_in_bounds b false vs ≡ true → Each (IsAcValue b) vs
acs_small b [] e = tt
acs_small b (v ∷ vs) e = let k = both (int_le (pos (nat_abs v)) b.ac) (are_in_bounds b false vs) e in (k.0, acs_small b vs k.1)

each_take : {A : Type 0} (P : A → Type 0) (n : ℕ) (xs : List A) → Each P xs → Each P (take n xs)
each_take P zero xs h = tt
each_take P (suc n) [] h = tt
each_take P (suc n) (x ∷ xs) h = (h.0, each_take P n xs h.1)

each_drop : {A : Type 0} (P : A → Type 0) (n : ℕ) (xs : List A) → Each P xs → Each P (drop n xs)
each_drop P zero xs h = h
each_drop P (suc n) [] h = tt
each_drop P (suc n) (x ∷ xs) h = each_drop P n xs h.1

behind_first : (b : Bounds) (n : ℕ) (block : List ℤ) → 1 ≤ n → are_in_bounds b true block ≡ true → Each (IsAcValue b) (drop n block)
behind_first b zero block l e = absurd (omega (arith, l))
behind_first b (suc n) [] l e = tt
behind_first b (suc n) (v ∷ block) l e = each_drop (IsAcValue b) n block (acs_small b block (both (int_le b.dc_low v && int_le v b.dc_high) (are_in_bounds b false block) e).1)

-- PLACES of a scan of one component are real

abbrev pub IsAcPlace : Frame → ℕ → Place → Type 0
IsAcPlace f i p = (p.component ≡ i) × (is_real f p.component p.x p.y ≡ true) × (p.real ≡ true)

each_within : {A : Type 0} (P : A → Type 0) (g : ℕ → List A) (n : ℕ) → ((k : ℕ) → k < n → Each P (g k)) → Each P (flat_map g (below n))
each_within P g zero h = tt
each_within P g (suc n) h = subst (λ l. Each P l) (sym (flat_below g n)) (each_join P (flat_map g (below n)) (g n) (each_within P g n (λ k l. h k (omega (arith, l)))) (h n (omega arith)))

each_row : (P : Place → Type 0) (g : ℕ → Place) (n : ℕ) → ((k : ℕ) → k < n → P (g k)) → Each P (map g (below n))
each_row P g n h = subst (λ l. Each P l) (sym (map_is_flat g (below n))) (each_within P (λ x. g x ∷ []) n (λ k l. (h k l, tt)))

single_real : (f : Frame) (i : ℕ) → Each (IsAcPlace f i) (units f (i ∷ []))
unfolding units
single_real f i =
    let w = blocks_across f (component_at f i) in
    let h = blocks_down f (component_at f i) in
    each_within (IsAcPlace f i) (λ y. map (λ x. place f i x y) (below w)) h
    (λ y b. each_row (IsAcPlace f i) (λ x. place f i x y) w (λ x a. (let r : is_real f i x y ≡ true = and_intro (nat_lt x w) (nat_lt y h) (lt_yes x w a) (lt_yes y h b) in (refl, r, r))))

-- THE SCAN

abbrev pub band_renews : Scan → ℤ → ℤ → ℤ
band_renews s o v = scaled s.coding.al (divided s.coding.al v)

pub record IsBandScan (H : Meaning) (heads : List ScanHead) (s : Scan) (head : ScanHead) (i : ℕ) (before : Blocks) : Type 0 where
  pub scan : IsProgressiveScan s head
  pub one : head_components head ≡ i ∷ []
  pub places : s.places ≡ units (frame_of_meaning H) (head_components head)
  pub some : 1 ≤ head.ss
  pub low : head.ss ≤ head.se
  pub high : head.se ≤ 63
  pub frame : IsFrame (frame_of_meaning H)
  pub count : length (frame_of_meaning H).components ≡ length H.components
  pub known : i < length H.components
  pub bounded : s.coding.bounds ≡ bounds_of H.precision
  pub blocks : (i x y : ℕ) → i < length H.components → is_real (frame_of_meaning H) i x y ≡ true → IsBlockIn (bounds (frame_of_meaning H)) (H.blocks i x y)
  pub sizes : (i x y : ℕ) → length (before i x y) ≡ 64
  pub old : (x y k : ℕ) → is_real (frame_of_meaning H) i x y ≡ true → head.ss ≤ k → k ≤ head.se → coefficient before i x y k ≡ ac_known (was_known head) (coefficient H.blocks i x y k)

due_is : (blocks : Blocks) (last : ℕ → ℤ) (places : List Place) → Each (λ (p : Place). p.real ≡ true) places → Each (λ (q : Placed). q.1 ≡ block_at blocks q.0) (placed_due blocks last places)
due_is blocks last [] h = tt
due_is blocks last (p ∷ places) h = (ap (λ b. cond b (block_at blocks p) (last p.component ∷ zeros 63)) h.0, due_is blocks (last_dc last p.component (block_due blocks last p)) places h.1)

pub band_due : (H : Meaning) (heads : List ScanHead) (s : Scan) (head : ScanHead) (i : ℕ) (before : Blocks) → IsBandScan H heads s head i before
    → Each (λ row. Each (IsBandDue s i (ac_known (was_known head)) (λ v. scaled s.coding.al (divided s.coding.al v)) before (after_renewed s (band_renews s) H.blocks before)) (placed_due H.blocks (λ i. pos 0) row)) (rows_of s)
band_due H heads s head i before is =
    let f = frame_of_meaning H in
    let after = after_renewed s (band_renews s) H.blocks before in
    let first : ℕ → ℤ = λ i. pos 0 in
    let units_are : s.places ≡ units f (i ∷ []) = is.places ∙ ap (units f) is.one in
    let places = rows_each (IsAcPlace f i) s (i ∷ []) f units_are (single_real f i) in
    let found = each_flat (λ (q : Placed). block_at after q.0 ≡ renew_block s (band_renews s) before q) (λ row. placed_due H.blocks first row) (rows_of s)
    (after_found s (band_renews s) H.blocks before (subst (λ l. AreDistinct l) (sym units_are) (units_distinct f (i ∷ []) refl))) in
    each_both (λ row. Each (IsAcPlace f i) row) (λ row. Each (λ (q : Placed). block_at after q.0 ≡ renew_block s (band_renews s) before q) (placed_due H.blocks first row))
    (λ row. Each (IsBandDue s i (ac_known (was_known head)) (λ v. scaled s.coding.al (divided s.coding.al v)) before after) (placed_due H.blocks first row)) (rows_of s)
    (λ row a k. each_both (λ (q : Placed). IsAcPlace f i q.0 × (q.1 ≡ block_at H.blocks q.0)) (λ (q : Placed). block_at after q.0 ≡ renew_block s (band_renews s) before q)
    (IsBandDue s i (ac_known (was_known head)) (λ v. scaled s.coding.al (divided s.coding.al v)) before after) (placed_due H.blocks first row) (λ q m w. one q (m.0).0 (m.0).1 m.1 w)
    (each_both (λ (q : Placed). IsAcPlace f i q.0) (λ (q : Placed). q.1 ≡ block_at H.blocks q.0) (λ (q : Placed). IsAcPlace f i q.0 × (q.1 ≡ block_at H.blocks q.0)) (placed_due H.blocks first row) (λ q x y. (x, y))
    (each_place (IsAcPlace f i) H.blocks first row a) (due_is H.blocks first row (each_map (IsAcPlace f i) (λ (p : Place). p.real ≡ true) row (λ p h. h.2) a))) k)
    places found
  where
    low : s.ss ≤ s.se
    low = subst (λ n. n ≤ s.se) (sym is.scan.ss) (subst (λ n. head.ss ≤ n) (sym is.scan.se) is.low)

    high : s.se ≤ 63
    high = subst (λ n. n ≤ 63) (sym is.scan.se) is.high

    some : 1 ≤ s.ss
    some = subst (λ n. 1 ≤ n) (sym is.scan.ss) is.some

    one : (q : Placed) → (q.0).component ≡ i → is_real (frame_of_meaning H) (q.0).component (q.0).x (q.0).y ≡ true → q.1 ≡ block_at H.blocks q.0
        → block_at (after_renewed s (band_renews s) H.blocks before) q.0 ≡ renew_block s (band_renews s) before q
        → IsBandDue s i (ac_known (was_known head)) (λ v. scaled s.coding.al (divided s.coding.al v)) before (after_renewed s (band_renews s) H.blocks before) q
    one q c real due found =
        let p = q.0 in
        let f = frame_of_meaning H in
        let real_i : is_real f i p.x p.y ≡ true = subst (λ n. is_real f n p.x p.y ≡ true) c real in
        let there : q.1 ≡ H.blocks i p.x p.y = due ∙ ap (λ n. H.blocks n p.x p.y) c in
        let fine : IsBlockIn (bounds f) q.1 = subst (IsBlockIn (bounds f)) (sym there) (is.blocks i p.x p.y is.known real_i) in
        let g : ℤ → ℤ = λ v. scaled s.coding.al (divided s.coding.al v) in
        let d = length-drop s.ss q.1 in
        let l = length-take-le (s.se + 1 - s.ss) (drop s.ss q.1) (omega (arith, d, fine.0, low, high)) in
        record {
          component = c;
          was = band_by s (ac_known (was_known head)) (block_at before p) q.1 low high (is.sizes p.component p.x p.y) fine.0
              (λ k a b. ap (λ n. coefficient before n p.x p.y k) c ∙ is.old p.x p.y k real_i (subst (λ n. n ≤ k) is.scan.ss a) (subst (λ n. k ≤ n) is.scan.se b) ∙ ap (λ t. ac_known (was_known head) (get_or t k (pos 0))) (sym there));
          is = ap (band s) found ∙ renewed_band s (band_renews s) g (block_at before p) q.1 low high fine.0 (λ k a b. refl);
          small = (omega (arith, l, low), each_take (IsAcValue s.coding.bounds) (s.se + 1 - s.ss) (drop s.ss q.1) (subst (λ (b : Bounds). Each (IsAcValue b) (drop s.ss q.1)) (sym is.bounded) (behind_first (bounds f) s.ss q.1 some fine.1)));
        }

pub band_renewed : (H : Meaning) (heads : List ScanHead) (s : Scan) (head : ScanHead) (i : ℕ) (before : Blocks) → IsBandScan H heads s head i before → IsRenewed H heads head before (after_renewed s (band_renews s) H.blocks before)
band_renewed H heads s head i before is = record {
  stays = λ j x y k e. stays j x y k e (is_among j (head_components head)) refl;
  ac = λ j x y k l real a b e. after_inside s (band_renews s) H.blocks before (λ w. w ≡ scaled head.al (divided head.al (coefficient H.blocks j x y k))) j x y k b (inside j k e) (named j x y l real (begins j k e))
      (each_map (IsPicture H.blocks j x y) (λ (q : Placed). is_at j x y q.0 ≡ true → scaled s.coding.al (divided s.coding.al (get_or q.1 k (pos 0))) ≡ scaled head.al (divided head.al (coefficient H.blocks j x y k))) (all_placed H.blocks (rows_of s))
      (λ q h z. ap (λ b. scaled s.coding.al (divided s.coding.al (get_or b k (pos 0)))) (h z) ∙ ap (λ n. scaled n (divided n (coefficient H.blocks j x y k))) is.scan.al)
      (all_real f H.blocks (rows_of s) j x y real (rows_each (IsPlaceOf f) s parts f is.places (each_units (IsPlaceOf f) f parts (λ i x y h. refl)))));
  dc = λ j x y l real e. absurd (no_dc j e);
  pad = λ j x y l e. absurd (no_dc j e);
}
  where
    f : Frame
    f = frame_of_meaning H

    parts : List ℕ
    parts = head_components head

    begins : (j k : ℕ) → has_coefficient head j k ≡ true → is_among j (head_components head) ≡ true
    begins j k e = (both (names head j) (nat_le head.ss k && nat_le k head.se) e).0

    inside : (j k : ℕ) → has_coefficient head j k ≡ true → (nat_le s.ss k && nat_le k s.se) ≡ true
    inside j k e = ap (λ n. nat_le n k && nat_le k s.se) is.scan.ss ∙ ap (λ n. nat_le head.ss k && nat_le k n) is.scan.se ∙ (both (names head j) (nat_le head.ss k && nat_le k head.se) e).1

    no_dc : (j : ℕ) → has_coefficient head j 0 ≡ true → ⊥
    no_dc j e =
        let b = both (names head j) (nat_le head.ss 0 && nat_le 0 head.se) e in
        let h = le_of head.ss 0 (both (nat_le head.ss 0) (nat_le 0 head.se) b.1).0 in
        omega (arith, h, is.some)

    named : (j x y : ℕ) → j < length H.components → is_real f j x y ≡ true → is_among j parts ≡ true → any_of (is_at j x y) s.places ≡ true
    named j x y l real e = ap (any_of (is_at j x y)) is.places ∙ real_found f parts j x y is.frame (subst (λ n. j < n) (sym is.count) l) e real

    none : (j x y : ℕ) → is_among j parts ≡ false → any_of (is_at j x y) s.places ≡ false
    none j x y e = ap (any_of (is_at j x y)) is.places ∙ none_other j x y parts (units f parts) (each_units (λ (p : Place). is_among p.component parts ≡ true) f parts (λ i x y h. h)) e

    stays : (j x y k : ℕ) → has_coefficient head j k ≡ false → (b : Bool) → is_among j (head_components head) ≡ b → coefficient (after_renewed s (band_renews s) H.blocks before) j x y k ≡ coefficient before j x y k
    stays j x y k e true h =
        after_outside s (band_renews s) H.blocks before j x y k (is.sizes j x y)
        (ap (λ n. nat_le n k && nat_le k s.se) is.scan.ss ∙ ap (λ n. nat_le head.ss k && nat_le k n) is.scan.se ∙ sym (ap (λ b. b && (nat_le head.ss k && nat_le k head.se)) h) ∙ e)
    stays j x y k e false h = ap (λ b. get_or b k (pos 0)) (after_elsewhere s (band_renews s) H.blocks before j x y (none j x y h))
