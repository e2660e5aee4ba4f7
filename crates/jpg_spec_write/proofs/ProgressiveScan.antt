-- A progressive scan that is written leads from what was known to what is known.
use Rattle.std.proofs.Common.{◌≡◌, ℕ, ◌+◌, ◌%◌, ◌<◌, ◌≤◌, Bool, true, false, cond, List, [], ◌∷◌, length, get_or, refl, sym, ap, ◌∙◌, subst, arith, Some, ℤ, pos, ◌==◌, ◌&&◌}
use Rattle.std.specs.Prelude.{flat_map, nat_le, nat_lt, nat_abs, int_le, slice_index_or, ◌+ℤ◌}
use Rattle.std.proofs.lemmas.Bool.Decides.{nat_tests}
use Rattle.std.proofs.lemmas.Int.{ints}
use Rattle.jpg_spec.specs.Lists.{any_of, is_among, is_distinct}
use Rattle.jpg_spec.specs.Geometry.{Frame, bounds, bounds_of, is_progressive, is_real, units}
use Rattle.jpg_spec.specs.FrameHeader.{IsFrame}
use Rattle.jpg_spec.specs.Segments.{ScanHead, head_components}
use Rattle.jpg_spec.specs.Elements.{Coding, scaled, IsBlockIn}
use Rattle.jpg_spec_write.specs.Sending.{shifted}
use Rattle.jpg_spec.specs.Scan.{Blocks, Scan, TablesInForce, scan_of, block_at, coefficient}
use Rattle.jpg_spec_write.specs.ScanText.{last_dc}
use Rattle.jpg_spec.specs.Meaning.{Meaning}
use Rattle.jpg_spec.specs.History.{names, has_coefficient}
use Rattle.jpg_spec_write.specs.FileText.{frame_of_meaning}
use Rattle.jpg_spec.specs.PictureInWork.{is_at, AreDistinct}
use Rattle.jpg_spec.specs.declared.frame.Place.{Place}
use Rattle.jpg_spec.specs.declared.frame.Bounds.{Bounds}
use Rattle.jpg_spec.proofs.Headers.Precisions.{zero_ac, zero_dc}
use Rattle.jpg_spec.proofs.Basics.Small.{IsDc, dc_small, are_bounds}
use Rattle.jpg_spec_write.proofs.Writing.{zero_scaled}
use Rattle.jpg_spec.proofs.Places.PlacesDistinct.{units_distinct}
use Rattle.jpg_spec.proofs.Basics.Each.{Each, each_map, each_join, each_flat, each_rows}
use Rattle.jpg_spec_write.proofs.PlacedBlocks.{Placed, block_due, placed_due, all_placed, IsRealSendable, IsPlacedWritable, placed_writable, first_last, each_both}
use Rattle.jpg_spec.proofs.Places.PlacesFound.{each_units, real_found}
use Rattle.jpg_spec_write.proofs.WrittenScan.{IsPlaceOf, IsPicture, all_real, none_other}
use Rattle.jpg_spec_write.proofs.RenewedScan.{renew_block, rows_of, after_renewed, after_found, after_elsewhere, after_outside, after_inside}
use Rattle.jpg_spec_write.proofs.Shifts.{dc_known, dc_padded}
use Rattle.jpg_spec_write.proofs.ProgressiveSpelled.{dc_new}
use Rattle.jpg_spec_write.proofs.ProgressiveRows.{IsDcDue}
use Rattle.jpg_spec_write.proofs.ProgressiveKnown.{IsPad, IsRenewed}
use Rattle.jpg_spec.proofs.Basics.Common.{both, le_of, and_intro}

-- THE SCAN of a progressive frame

pub record IsProgressiveScan (s : Scan) (head : ScanHead) : Type 0 where
  pub ss : s.ss ≡ head.ss
  pub se : s.se ≡ head.se
  pub al : s.coding.al ≡ head.al
  pub refines : s.coding.refines ≡ nat_lt 0 head.ah
  pub precision : ℕ
  pub bounds : s.coding.bounds ≡ bounds_of precision
  pub most : s.coding.most_category ≡ cond (nat_lt 0 head.ah) 1 s.coding.bounds.ac_cat
  pub run : s.coding.most_run ≡ 14

pub progressive_scan : (f : Frame) (tables : TablesInForce) (restart : ℕ) (head : ScanHead) → is_progressive f.process ≡ true → IsProgressiveScan (scan_of f tables restart head) head
progressive_scan f tables restart head e = record {
  ss = ap (λ b. cond b head.ss 0) e;
  se = ap (λ b. cond b head.se 63) e;
  al = ap (λ b. cond b head.al 0) e;
  refines = ap (λ b. b && nat_lt 0 head.ah) e;
  precision = f.precision;
  bounds = refl;
  most = ap (λ b. cond (b && nat_lt 0 head.ah) 1 (bounds f).ac_cat) e;
  run = ap (λ b. cond b 14 0) e;
}

-- LISTS

pub each_unflat : {A B : Type 0} (P : B → Type 0) (g : A → List B) (xs : List A) → Each (λ x. Each P (g x)) xs → Each P (flat_map g xs)
each_unflat P g [] h = tt
each_unflat P g (x ∷ xs) h = each_join P (g x) (flat_map g xs) h.0 (each_unflat P g xs h.1)

pub each_place : (P : Place → Type 0) (blocks : Blocks) (last : ℕ → ℤ) (places : List Place) → Each P places → Each (λ (q : Placed). P q.0) (placed_due blocks last places)
each_place P blocks last [] h = tt
each_place P blocks last (p ∷ places) h = (h.0, each_place P blocks (last_dc last p.component (block_due blocks last p)) places h.1)

-- DC: THE UNITS

abbrev in_bounds : ℕ → Coding
in_bounds precision = record { bounds = bounds_of precision; al = 0; refines = false; most_category = 0; most_run = 0; dc = λ i. []; ac = λ i. [] }

due_dc : (precision : ℕ) (q : Placed) → IsPlacedWritable (in_bounds precision) q → IsDc (bounds_of precision) (slice_index_or q.1 0 (pos 0))
due_dc precision q w =
    let v = slice_index_or q.1 0 (pos 0) in
    let b = bounds_of precision in
    let k = both (int_le b.dc_low v) (int_le v b.dc_high) (first_last (in_bounds precision) (q.0).component q.1 w) in
    dc_small b v k.0 k.1

-- what the scan encodes of DC at a place of its components, whatever its units
abbrev pub TellsPad : Meaning → ScanHead → Bool → ℕ → Blocks → Type 0
TellsPad H head r al before = (i x y : ℕ) (v : ℤ) → is_among i (head_components head) ≡ true → IsDc (bounds_of H.precision) v → IsPad H.precision (Some al) (dc_new r al (coefficient before i x y 0) v)

module _ (precision : ℕ) where
  pub first_pad : (al : ℕ) (o v : ℤ) → al ≤ (bounds_of precision).al → IsDc (bounds_of precision) v → IsPad precision (Some al) (dc_new false al o v)
  first_pad al o v l d = (dc_known precision al v l d, (shifted al v, refl))

  pub refined_pad : (al : ℕ) (o v : ℤ) → al + 1 ≤ (bounds_of precision).al → IsPad precision (Some (al + 1)) o → IsPad precision (Some al) (dc_new true al o v)
  refined_pad al o v l (d, (q, e)) =
      let b = nat_abs (shifted al v) % 2 == 1 in
      let k = dc_padded precision al q b l (subst (IsDc (bounds_of precision)) e d) in
      (subst (λ w. IsDc (bounds_of precision) (w +ℤ scaled al (cond b (pos 1) (pos 0)))) (sym e) k.1, (k.0, ap (λ w. w +ℤ scaled al (cond b (pos 1) (pos 0))) e ∙ k.2))

  -- a padding block that the scan doesn't name
  pub zero_pad : (al : ℕ) → IsPad precision (Some al) (pos 0)
  zero_pad al = ((are_bounds precision).zero_dc, (pos 0, sym (zero_scaled al)))

  pub less_pad : (al : ℕ) (w : ℤ) → al + 1 ≤ (bounds_of precision).al → IsPad precision (Some (al + 1)) w → IsPad precision (Some al) w
  less_pad al w l (d, (q, e)) =
      let k = dc_padded precision al q false l (subst (IsDc (bounds_of precision)) e d) in
      let none : w +ℤ scaled al (pos 0) ≡ w = ap (λ z. w +ℤ z) (zero_scaled al) ∙ omega (arith, ints) in
      (d, (k.0, sym none ∙ ap (λ z. z +ℤ scaled al (pos 0)) e ∙ k.2))

-- DC: THE SCAN

pub record IsDcScan (H : Meaning) (heads : List ScanHead) (s : Scan) (head : ScanHead) (before : Blocks) : Type 0 where
  pub scan : IsProgressiveScan s head
  pub places : s.places ≡ units (frame_of_meaning H) (head_components head)
  pub ss : head.ss ≡ 0
  pub se : head.se ≡ 0
  pub low : head.al ≤ (bounds_of H.precision).al
  pub bounded : s.coding.bounds ≡ bounds_of H.precision
  pub frame : IsFrame (frame_of_meaning H)
  pub count : length (frame_of_meaning H).components ≡ length H.components
  pub distinct : is_distinct (head_components head) ≡ true
  pub known : (i : ℕ) → is_among i (head_components head) ≡ true → i < length H.components
  pub blocks : (i x y : ℕ) → i < length H.components → is_real (frame_of_meaning H) i x y ≡ true → IsBlockIn (bounds (frame_of_meaning H)) (H.blocks i x y)
  pub sizes : (i x y : ℕ) → length (before i x y) ≡ 64
  pub tells : TellsPad H head (nat_lt 0 head.ah) s.coding.al before
  pub real : (i x y : ℕ) → is_among i (head_components head) ≡ true → is_real (frame_of_meaning H) i x y ≡ true
      → dc_new (nat_lt 0 head.ah) s.coding.al (coefficient before i x y 0) (coefficient H.blocks i x y 0) ≡ scaled head.al (shifted head.al (coefficient H.blocks i x y 0))
  pub old : (i x y : ℕ) → is_among i (head_components head) ≡ true → IsPad H.precision (Some head.al) (coefficient before i x y 0)

abbrev pub dc_renews : Scan → ScanHead → ℤ → ℤ → ℤ
dc_renews s head = dc_new (nat_lt 0 head.ah) s.coding.al

pub rows_each : (P : Place → Type 0) (s : Scan) (parts : List ℕ) (f : Frame) → s.places ≡ units f parts → Each P (units f parts) → Each (λ row. Each P row) (rows_of s)
rows_each P s parts f e h = each_rows P s.interval s.places (subst (λ l. Each P l) (sym e) h)

dc_writable : (H : Meaning) (heads : List ScanHead) (s : Scan) (head : ScanHead) (before : Blocks) → IsDcScan H heads s head before → Each (λ row. Each (IsPlacedWritable (in_bounds H.precision)) (placed_due H.blocks (λ i. pos 0) row)) (rows_of s)
dc_writable H heads s head before is =
    let f = frame_of_meaning H in
    each_map (λ row. Each (IsRealSendable (in_bounds H.precision) H.blocks) row) (λ row. Each (IsPlacedWritable (in_bounds H.precision)) (placed_due H.blocks (λ i. pos 0) row)) (rows_of s)
    (λ row h. placed_writable (in_bounds H.precision) H.blocks (λ i. pos 0) row (zero_ac H.precision) (λ i. zero_dc H.precision) h)
    (rows_each (IsRealSendable (in_bounds H.precision) H.blocks) s (head_components head) f is.places (each_units (IsRealSendable (in_bounds H.precision) H.blocks) f (head_components head) (λ i x y e r. is.blocks i x y (is.known i e) r)))

pub dc_due : (H : Meaning) (heads : List ScanHead) (s : Scan) (head : ScanHead) (before : Blocks) → IsDcScan H heads s head before
    → Each (λ row. Each (IsDcDue s (nat_lt 0 head.ah) before (after_renewed s (dc_renews s head) H.blocks before)) (placed_due H.blocks (λ i. pos 0) row)) (rows_of s)
dc_due H heads s head before is =
    let f = frame_of_meaning H in
    let parts = head_components head in
    let r = nat_lt 0 head.ah in
    let new = dc_renews s head in
    let after = after_renewed s new H.blocks before in
    let first : ℕ → ℤ = λ i. pos 0 in
    let among = rows_each (λ (p : Place). is_among p.component parts ≡ true) s parts f is.places (each_units (λ (p : Place). is_among p.component parts ≡ true) f parts (λ i x y h. h)) in
    let found = each_flat (λ (q : Placed). block_at after q.0 ≡ renew_block s new before q) (λ row. placed_due H.blocks first row) (rows_of s)
    (after_found s new H.blocks before (subst (λ l. AreDistinct l) (sym is.places) (units_distinct f parts is.distinct))) in
    each_both (λ row. Each (λ (p : Place). is_among p.component parts ≡ true) row) (λ row. Each (λ (q : Placed). IsPlacedWritable (in_bounds H.precision) q × (block_at after q.0 ≡ renew_block s new before q)) (placed_due H.blocks first row))
    (λ row. Each (IsDcDue s r before after) (placed_due H.blocks first row)) (rows_of s)
    (λ row a w. each_both (λ (q : Placed). is_among (q.0).component parts ≡ true) (λ (q : Placed). IsPlacedWritable (in_bounds H.precision) q × (block_at after q.0 ≡ renew_block s new before q)) (IsDcDue s r before after) (placed_due H.blocks first row)
    (λ q m k. record {
      size = is.sizes (q.0).component (q.0).x (q.0).y;
      due = subst (λ (b : Bounds). IsDc b (slice_index_or q.1 0 (pos 0))) (sym is.bounded) (due_dc H.precision q k.0);
      told = subst (λ (b : Bounds). IsDc b (new (get_or (block_at before q.0) 0 (pos 0)) (slice_index_or q.1 0 (pos 0)))) (sym is.bounded) (is.tells (q.0).component (q.0).x (q.0).y (slice_index_or q.1 0 (pos 0)) m (due_dc H.precision q k.0)).0;
      found = k.1;
    }) (each_place (λ (p : Place). is_among p.component parts ≡ true) H.blocks first row a) w)
    among
    (each_both (λ row. Each (IsPlacedWritable (in_bounds H.precision)) (placed_due H.blocks first row)) (λ row. Each (λ (q : Placed). block_at after q.0 ≡ renew_block s new before q) (placed_due H.blocks first row))
    (λ row. Each (λ (q : Placed). IsPlacedWritable (in_bounds H.precision) q × (block_at after q.0 ≡ renew_block s new before q)) (placed_due H.blocks first row)) (rows_of s)
    (λ row a b. each_both (IsPlacedWritable (in_bounds H.precision)) (λ (q : Placed). block_at after q.0 ≡ renew_block s new before q) (λ (q : Placed). IsPlacedWritable (in_bounds H.precision) q × (block_at after q.0 ≡ renew_block s new before q)) (placed_due H.blocks first row) (λ q x y. (x, y)) a b)
    (dc_writable H heads s head before is) found)

-- what it makes of the picture
pub dc_renewed : (H : Meaning) (heads : List ScanHead) (s : Scan) (head : ScanHead) (before : Blocks) → IsDcScan H heads s head before → IsRenewed H heads head before (after_renewed s (dc_renews s head) H.blocks before)
dc_renewed H heads s head before is = record {
  stays = λ i x y k e. stays i x y k e (is_among i (head_components head)) refl;
  ac = λ i x y k l real a b e. absurd (no_ac i k a e);
  dc = λ i x y l real e. after_inside s new H.blocks before (λ w. w ≡ scaled head.al (shifted head.al (coefficient H.blocks i x y 0))) i x y 0 (omega arith) inside (named i x y l real (begins i e))
      (each_map (IsPicture H.blocks i x y) (λ (q : Placed). is_at i x y q.0 ≡ true → new (coefficient before i x y 0) (get_or q.1 0 (pos 0)) ≡ scaled head.al (shifted head.al (coefficient H.blocks i x y 0))) (all_placed H.blocks (rows_of s))
      (λ q h a. ap (λ b. new (coefficient before i x y 0) (get_or b 0 (pos 0))) (h a) ∙ is.real i x y (begins i e) real)
      (all_real f H.blocks (rows_of s) i x y real (rows_each (IsPlaceOf f) s parts f is.places (each_units (IsPlaceOf f) f parts (λ i x y h. refl)))));
  pad = λ i x y l e. pad i x y (begins i e) (any_of (is_at i x y) s.places) refl;
}
  where
    f : Frame
    f = frame_of_meaning H

    parts : List ℕ
    parts = head_components head

    new : ℤ → ℤ → ℤ
    new = dc_renews s head

    begins : (i : ℕ) → has_coefficient head i 0 ≡ true → is_among i (head_components head) ≡ true
    begins i e = (both (names head i) (nat_le head.ss 0 && nat_le 0 head.se) e).0

    inside : (nat_le s.ss 0 && nat_le 0 s.se) ≡ true
    inside =
        let a : nat_le s.ss 0 ≡ true = (let z : s.ss ≡ 0 = is.scan.ss ∙ is.ss in grind (arith, nat_tests, z)) in
        let b : nat_le 0 s.se ≡ true = grind (arith, nat_tests) in
        and_intro (nat_le s.ss 0) (nat_le 0 s.se) a b

    no_ac : (i k : ℕ) → 1 ≤ k → has_coefficient head i k ≡ true → ⊥
    no_ac i k l e =
        let b = both (names head i) (nat_le head.ss k && nat_le k head.se) e in
        let h = le_of k head.se (both (nat_le head.ss k) (nat_le k head.se) b.1).1 in
        omega (arith, h, is.se, l)

    named : (i x y : ℕ) → i < length H.components → is_real f i x y ≡ true → is_among i parts ≡ true → any_of (is_at i x y) s.places ≡ true
    named i x y l real e = ap (any_of (is_at i x y)) is.places ∙ real_found f parts i x y is.frame (subst (λ n. i < n) (sym is.count) l) e real

    none : (i x y : ℕ) → is_among i parts ≡ false → any_of (is_at i x y) s.places ≡ false
    none i x y e = ap (any_of (is_at i x y)) is.places ∙ none_other i x y parts (units f parts) (each_units (λ (p : Place). is_among p.component parts ≡ true) f parts (λ i x y h. h)) e

    stays : (i x y k : ℕ) → has_coefficient head i k ≡ false → (b : Bool) → is_among i (head_components head) ≡ b → coefficient (after_renewed s new H.blocks before) i x y k ≡ coefficient before i x y k
    stays i x y k e true h =
        after_outside s new H.blocks before i x y k (is.sizes i x y)
        (ap (λ n. nat_le n k && nat_le k s.se) is.scan.ss ∙ ap (λ n. nat_le head.ss k && nat_le k n) is.scan.se ∙ sym (ap (λ b. b && (nat_le head.ss k && nat_le k head.se)) h) ∙ e)
    stays i x y k e false h = ap (λ b. get_or b k (pos 0)) (after_elsewhere s new H.blocks before i x y (none i x y h))

    pad : (i x y : ℕ) → is_among i parts ≡ true → (b : Bool) → any_of (is_at i x y) s.places ≡ b → IsPad H.precision (Some head.al) (coefficient (after_renewed s new H.blocks before) i x y 0)
    pad i x y e true h =
        after_inside s new H.blocks before (IsPad H.precision (Some head.al)) i x y 0 (omega arith) inside h
        (each_map (IsPlacedWritable (in_bounds H.precision)) (λ (q : Placed). is_at i x y q.0 ≡ true → IsPad H.precision (Some head.al) (new (coefficient before i x y 0) (get_or q.1 0 (pos 0)))) (all_placed H.blocks (rows_of s))
        (λ q w a. subst (λ n. IsPad H.precision (Some n) (new (coefficient before i x y 0) (get_or q.1 0 (pos 0)))) is.scan.al (is.tells i x y (get_or q.1 0 (pos 0)) e (due_dc H.precision q w)))
        (each_unflat (IsPlacedWritable (in_bounds H.precision)) (λ row. placed_due H.blocks (λ i. pos 0) row) (rows_of s) (dc_writable H heads s head before is)))
    pad i x y e false h = subst (IsPad H.precision (Some head.al)) (sym (ap (λ b. get_or b 0 (pos 0)) (after_elsewhere s new H.blocks before i x y h))) (is.old i x y e)
