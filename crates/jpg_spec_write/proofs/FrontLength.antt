-- The number of bytes before the scans of a file that is written.
use Rattle.std.proofs.Common.{◌≡◌, ℕ, ◌+◌, ◌*◌, ◌≤◌, Bool, true, false, cond, not, List, [], ◌∷◌, ◌++◌, length, refl, ap, ◌∙◌, arith, ◌==◌, ◌&&◌}
use Rattle.std.specs.Prelude.{◌||◌, map, flat_map, reverse}
use Rattle.std.specs.Int.{to_be_bytes, w16}
use Rattle.std.proofs.lemmas.List.{length-append, length-map, reverse-append, reverse-reverse}
use Rattle.std.proofs.lemmas.List.Concat.{flat_map-append}
use Rattle.jpg_spec.specs.Lists.{any_of, are_equal}
use Rattle.jpg_spec.specs.Segments.{QuantTable}
use Rattle.jpg_spec.specs.Meaning.{Meaning, PictureComponent}
use Rattle.jpg_spec_write.specs.Headed.{is_wide}
use Rattle.jpg_spec.specs.Jfif.{is_jfif, is_adobe}
use Rattle.jpg_spec.specs.Markers.{Segment, is_plain_jfif, is_plain_adobe, kept_count}
use Rattle.jpg_spec_write.specs.FileText.{segment_text, kept_text, distinct_after, distinct_quants, slot_in, quant_text, quants_text, sof_code, component_bytes, frame_text, front_text}
use Rattle.jpg_spec.proofs.Basics.Each.{Each}
use Rattle.jpg_spec_write.proofs.WrittenFront.{length_components}
use Rattle.jpg_spec.proofs.Basics.Common.{both, same_of}

pub length_segment : (code : ℕ) (contents : List ℕ) → length (segment_text code contents) ≡ 4 + length contents
length_segment code contents = omega arith

-- KEPT MARKERS take four bytes and their contents each: at most 34 more than they count

one_kept : (p q j a : Bool) (n k rest : ℕ) → (p ≡ true → n ≡ 14) → (q ≡ true → n ≡ 12) → rest ≤ k + cond j 18 0 + cond a 16 0
    → 4 + n + rest ≤ cond (p && not j || q && not a) 0 (n + 4) + k + cond (p || j) 18 0 + cond (q || a) 16 0
one_kept true true true true n k rest h i l = omega (arith, l)
one_kept true true true false n k rest h i l = let m = i refl in omega (arith, l, m)
one_kept true true false true n k rest h i l = let m = h refl in omega (arith, l, m)
one_kept true true false false n k rest h i l = let m = h refl in omega (arith, l, m)
one_kept true false true true n k rest h i l = omega (arith, l)
one_kept true false true false n k rest h i l = omega (arith, l)
one_kept true false false true n k rest h i l = let m = h refl in omega (arith, l, m)
one_kept true false false false n k rest h i l = let m = h refl in omega (arith, l, m)
one_kept false true true true n k rest h i l = omega (arith, l)
one_kept false true true false n k rest h i l = let m = i refl in omega (arith, l, m)
one_kept false true false true n k rest h i l = omega (arith, l)
one_kept false true false false n k rest h i l = let m = i refl in omega (arith, l, m)
one_kept false false true true n k rest h i l = omega (arith, l)
one_kept false false true false n k rest h i l = omega (arith, l)
one_kept false false false true n k rest h i l = omega (arith, l)
one_kept false false false false n k rest h i l = omega (arith, l)

kept_counted : (xs : List Segment) → length (kept_text xs) ≤ kept_count xs + cond (any_of is_plain_jfif xs) 18 0 + cond (any_of is_plain_adobe xs) 16 0
kept_counted [] = omega arith
kept_counted (s ∷ xs) =
    let k = one_kept (is_plain_jfif s) (is_plain_adobe s) (any_of is_plain_jfif xs) (any_of is_plain_adobe xs) (length s.1) (kept_count xs) (length (kept_text xs))
    (λ e. same_of (length s.1) 14 (both (is_jfif s) (length s.1 == 14) e).1) (λ e. same_of (length s.1) 12 (both (is_adobe s) (length s.1 == 12) e).1) (kept_counted xs) in
    omega (arith, k, length-append (segment_text s.0 s.1) (kept_text xs), length_segment s.0 s.1)

kept_reversed : (xs : List Segment) → length (kept_text (reverse xs)) ≡ length (kept_text xs)
kept_reversed [] = refl
kept_reversed (s ∷ xs) =
    let text : Segment → List ℕ = λ s. segment_text s.0 s.1 in
    let cut : kept_text (reverse (s ∷ xs)) ≡ kept_text (reverse xs) ++ kept_text (s ∷ []) = ap kept_text (reverse-append (s ∷ []) xs) ∙ flat_map-append text (reverse xs) (s ∷ []) in
    omega (arith, ap length cut, length-append (kept_text (reverse xs)) (kept_text (s ∷ [])), length-append (text s) [], length-append (text s) (kept_text xs), kept_reversed xs)

pub kept_few : (kept : List Segment) → length (kept_text kept) ≤ kept_count (reverse kept) + 34
kept_few kept =
    let e = ap (λ l. length (kept_text l)) (reverse-reverse kept) in
    let r = kept_reversed (reverse kept) in
    let k = kept_counted (reverse kept) in
    let a = most (any_of is_plain_jfif (reverse kept)) 18 in
    let b = most (any_of is_plain_adobe (reverse kept)) 16 in
    omega (arith, e, r, k, a, b)
  where
    most : (b : Bool) (n : ℕ) → cond b n 0 ≤ n
    most true n = omega arith
    most false n = omega arith

-- QUANTISATION TABLES of 64 numbers take at most 133 bytes each

two_each : (table : List ℕ) → length (flat_map (to_be_bytes w16) table) ≡ 2 * length table
two_each [] = refl
two_each (q ∷ table) = let h = two_each table in omega (arith, h, length-append (to_be_bytes w16 q) (flat_map (to_be_bytes w16) table))

quant_few : (slot : ℕ) (table : QuantTable) → length table ≡ 64 → length (quant_text slot table) ≤ 133
quant_few slot table l = by (is_wide table) (cond (is_wide table) 16 0 + slot)
  where
    by : (wide : Bool) (first : ℕ) → length (segment_text 0xdb (first ∷ cond wide (flat_map (to_be_bytes w16) table) table)) ≤ 133
    by true first = let h = two_each table in omega (arith, h, l, length_segment 0xdb (first ∷ flat_map (to_be_bytes w16) table))
    by false first = omega (arith, l, length_segment 0xdb (first ∷ table))

abbrev pub HasLength : QuantTable → Type 0
HasLength table = length table ≡ 64

quants_few : (H : Meaning) (seen tables : List QuantTable) → Each HasLength tables → length (flat_map (λ table. quant_text (slot_in (distinct_quants H) table) table) (distinct_after seen tables)) ≤ 133 * length tables
quants_few H seen [] all = omega arith
quants_few H seen (table ∷ tables) all = by (any_of (are_equal table) seen) (quants_few H seen tables all.1) (quants_few H (table ∷ seen) tables all.1)
  where
    text : QuantTable → List ℕ
    text table = quant_text (slot_in (distinct_quants H) table) table

    by : (b : Bool) → length (flat_map text (distinct_after seen tables)) ≤ 133 * length tables → length (flat_map text (distinct_after (table ∷ seen) tables)) ≤ 133 * length tables
        → length (flat_map text (cond b (distinct_after seen tables) (table ∷ distinct_after (table ∷ seen) tables))) ≤ 133 * length (table ∷ tables)
    by true h k = omega (arith, h)
    by false h k = omega (arith, k, quant_few (slot_in (distinct_quants H) table) table all.0, length-append (text table) (flat_map text (distinct_after (table ∷ seen) tables)))

-- THE FRAME HEADER

frame_few : (H : Meaning) → length H.components ≤ 4 → length (frame_text H) ≤ 22
frame_few H few =
    let bytes = flat_map (component_bytes H) H.components in
    let contents = H.precision ∷ to_be_bytes w16 H.height ++ to_be_bytes w16 H.width ++ length H.components ∷ bytes in
    omega (arith, few, length_components H H.components, length_segment (sof_code H.process) contents)

-- ALL BEFORE THE SCANS

pub front_few : (H : Meaning) → length H.components ≤ 4 → Each HasLength (map (λ (c : PictureComponent). c.quants) H.components) → length (front_text H) ≤ kept_count (reverse H.kept) + 590
front_few H few all =
    let k = kept_few H.kept in
    let q = quants_few H [] (map (λ (c : PictureComponent). c.quants) H.components) all in
    let m = length-map H.components (λ (c : PictureComponent). c.quants) in
    let f = frame_few H few in
    let a = length-append (kept_text H.kept ++ quants_text H) (frame_text H) in
    let b = length-append (kept_text H.kept) (quants_text H) in
    omega (arith, k, q, m, f, few, a, b)
