-- A picture with the head of the output may be written if it may be written with its own.
use Rattle.std.proofs.Common.{◌≡◌, ℕ, ◌+◌, ◌≤◌, Bool, true, false, cond, not, List, [], ◌∷◌, ◌++◌, length, refl, sym, ap, ◌∙◌, subst, arith, lit<, ◌==◌, ◌&&◌}
use Rattle.std.specs.Prelude.{◌||◌, filter, reverse, nat_lt, nat_le, Ok}
use Rattle.std.specs.List.{All}
use Rattle.std.proofs.lemmas.List.{append-nil, reverse-append}
use Rattle.std.proofs.lemmas.List.Elements.{filter-append, All-head, All-tail, All-nil, All-cons}
use Rattle.jpg_spec.specs.Lists.{any_of, is_distinct}
use Rattle.jpg_spec.specs.Geometry.{Frame, padded_blocks}
use Rattle.jpg_spec.specs.FrameHeader.{has_bad_factor, has_bad_slot, identifiers, checked_frame, is_precision}
use Rattle.jpg_spec.specs.Jfif.{jfif_of, begins_jfif, begins_adobe}
use Rattle.jpg_spec.specs.Meaning.{Meaning, colour_of, PictureComponent}
use Rattle.jpg_spec_write.specs.Headed.{jfif_contents, adobe_contents, headed_kept, copied, sequential_process, headed_by, is_wide}
use Rattle.jpg_spec.specs.Markers.{Segment, is_plain_jfif, is_plain_adobe, counts_nothing, kept_count}
use Rattle.jpg_spec_write.specs.FileText.{frame_of_meaning}
use Rattle.jpg_spec_write.specs.WrittenFile.{IsHeaded, IsKeptMarker}
use Rattle.jpg_spec.specs.declared.fault.Fault.TheVariants.{EmptyImage, TooLarge, Precision, ComponentCount, Sampling, DuplicateComponent, QuantSlot, TooManyBlocks}
use Rattle.jpg_spec.specs.declared.frame.Process.{Process}
use Rattle.jpg_spec.specs.declared.frame.Copying.{Copying}
use Rattle.jpg_spec.specs.declared.frame.Copying.TheVariants as copying
use Rattle.jpg_spec.specs.declared.frame.Colour.{Colour}
use Rattle.jpg_spec.specs.declared.frame.Colour.TheVariants.{Gray, YCbCr, Rgb, Cmyk, Ycck, Unknown}
use Rattle.jpg_spec.specs.declared.frame.Limits.{Limits}
use Rattle.jpg_spec.specs.declared.jfif.Jfif.{Jfif}
use Rattle.jpg_spec.proofs.Basics.Common.{both, negated, neither, not_refused, and_none}
use Rattle.jpg_spec.proofs.Headers.FrameFound.{checks}
use Rattle.jpg_spec.specs.declared.frame.Process.TheVariants.{Baseline, Extended, Progressive}

-- THE PROCESS of a frame isn't checked

abbrev pub with_process : Process → Frame → Frame
with_process p f = record f { process = p }

pub other_process : (limits : Limits) (f g : Frame) (p : Process) → is_precision p f.precision ≡ true → checked_frame limits f ≡ Ok g → checked_frame limits (with_process p f) ≡ Ok (with_process p f)
unfolding checked_frame
other_process limits f g p allowed e =
    let is = (checks limits f g e).0 in
    not_refused EmptyImage (f.width == 0 || f.height == 0) _ is.some ∙ not_refused TooLarge (nat_lt limits.side f.width || nat_lt limits.side f.height) _ is.sides
    ∙ not_refused Precision (not (is_precision p f.precision)) _ (ap not allowed) ∙ not_refused ComponentCount (length f.components == 0 || nat_lt 4 (length f.components)) _ is.count
    ∙ not_refused Sampling (any_of has_bad_factor f.components) _ is.factors ∙ not_refused DuplicateComponent (not (is_distinct (identifiers f.components))) _ (ap not is.distinct)
    ∙ not_refused QuantSlot (any_of has_bad_slot f.components) _ is.slots ∙ not_refused TooManyBlocks (nat_lt limits.blocks (padded_blocks f)) _ is.blocks

-- a process that has the precision
pub wider : (p : Process) (n : ℕ) → is_precision p n ≡ true → (n == 8 || n == 12) ≡ true
wider Baseline n e = ap (λ b. b || n == 12) e
wider Extended n e = e
wider Progressive n e = e

pub sequential_precision : (M : Meaning) → is_precision M.process M.precision ≡ true → is_precision (sequential_process M) M.precision ≡ true
sequential_precision M e = by (M.precision == 8) refl (wider M.process M.precision e)
  where
    wide : Bool
    wide = any_of (λ (c : PictureComponent). is_wide c.quants) M.components

    other : (t : Bool) → (M.precision == 8) ≡ true → is_precision (cond t Extended Baseline) M.precision ≡ true
    other true h = ap (λ b. b || M.precision == 12) h
    other false h = h

    by : (b : Bool) → (M.precision == 8) ≡ b → (M.precision == 8 || M.precision == 12) ≡ true → is_precision (cond (not (M.precision == 8) || wide) Extended Baseline) M.precision ≡ true
    by true h e = subst (λ b. is_precision (cond (not b || wide) Extended Baseline) M.precision ≡ true) (sym h) (other wide h)
    by false h e = subst (λ b. is_precision (cond (not b || wide) Extended Baseline) M.precision ≡ true) (sym h) e

pub progressive_precision : (M : Meaning) → is_precision M.process M.precision ≡ true → is_precision Progressive M.precision ≡ true
progressive_precision M e = wider M.process M.precision e

-- MARKERS that are left out

filter_one : (test : Segment → Bool) (s : Segment) → reverse (filter test (s ∷ [])) ≡ filter test (s ∷ [])
filter_one test s = by (test s)
  where
    by : (b : Bool) → reverse (cond b (s ∷ []) []) ≡ cond b (s ∷ []) []
    by true = refl
    by false = refl

filter_reverse : (test : Segment → Bool) (xs : List Segment) → reverse (filter test xs) ≡ filter test (reverse xs)
filter_reverse test [] = refl
filter_reverse test (s ∷ xs) =
    ap reverse (filter-append test (s ∷ []) xs) ∙ reverse-append (filter test (s ∷ [])) (filter test xs) ∙ ap (λ l. reverse (filter test xs) ++ l) (filter_one test s)
    ∙ ap (λ l. l ++ filter test (s ∷ [])) (filter_reverse test xs) ∙ sym (filter-append test (reverse xs) (s ∷ [])) ∙ ap (filter test) (sym (reverse-append (s ∷ []) xs))

filter_all : (P : Segment → Type 0) (test : Segment → Bool) (xs : List Segment) → All P xs → All P (filter test xs)
filter_all P test [] all = all
filter_all P test (s ∷ xs) all = by (test s) (filter_all P test xs (All-tail P s xs all))
  where
    by : (b : Bool) → All P (filter test xs) → All P (cond b (s ∷ filter test xs) (filter test xs))
    by true later = All-cons P s (filter test xs) (All-head P s xs all) later
    by false later = later

-- none among all, none among those that are left, with others after them
none_left : (plain test : Segment → Bool) (xs own : List Segment) → any_of plain xs ≡ false → any_of plain own ≡ false → any_of plain (filter test xs ++ own) ≡ false
none_left plain test [] own e h = h
none_left plain test (s ∷ xs) own e h = let n = neither (plain s) (any_of plain xs) e in by (test s) n.0 (none_left plain test xs own n.1 h)
  where
    by : (b : Bool) → plain s ≡ false → any_of plain (filter test xs ++ own) ≡ false → any_of plain (cond b (s ∷ filter test xs) (filter test xs) ++ own) ≡ false
    by true n later = ap (λ t. t || any_of plain (filter test xs ++ own)) n ∙ later
    by false n later = later

-- what counts nothing counts nothing if fewer are before it
abbrev pub Spares : (Segment → Bool) → (Segment → Bool) → List Segment → Type 0
Spares plain test own = (s : Segment) → test s ≡ true → (plain s && any_of plain own) ≡ false

first_left : (plain test : Segment → Bool) (xs own : List Segment) (s : Segment) → Spares plain test own → test s ≡ true → (plain s && not (any_of plain xs)) ≡ true → (plain s && not (any_of plain (filter test xs ++ own))) ≡ true
first_left plain test xs own s spares t e =
    let b = both (plain s) (not (any_of plain xs)) e in
    let mine : any_of plain own ≡ false = sym (ap (λ x. x && any_of plain own) b.0) ∙ spares s t in
    ap (λ x. x && not (any_of plain (filter test xs ++ own))) b.0 ∙ ap not (none_left plain test xs own (negated (any_of plain xs) b.1) mine)

size_less : (a b : Bool) (n : ℕ) → (a ≡ true → b ≡ true) → cond b 0 n ≤ cond a 0 n
size_less true true n h = omega arith
size_less true false n h = let z : false ≡ true = h refl in cc
size_less false true n h = omega arith
size_less false false n h = omega arith

either_left : (a b c d : Bool) → (a ≡ true → c ≡ true) → (b ≡ true → d ≡ true) → (a || b) ≡ true → (c || d) ≡ true
either_left true b c d h k e = ap (λ t. t || d) (h refl)
either_left false true c d h k e = ap (λ t. c || t) (k refl) ∙ or_true c
  where
    or_true : (c : Bool) → (c || true) ≡ true
    or_true true = refl
    or_true false = refl
either_left false false c d h k e = cc

pub count_left : (test : Segment → Bool) (own xs : List Segment) → kept_count own ≡ 0 → Spares is_plain_jfif test own → Spares is_plain_adobe test own → kept_count (filter test xs ++ own) ≤ kept_count xs
count_left test own [] none jfif adobe = omega (arith, none)
count_left test own (s ∷ xs) none jfif adobe = by (test s) refl (count_left test own xs none jfif adobe)
  where
    by : (b : Bool) → test s ≡ b → kept_count (filter test xs ++ own) ≤ kept_count xs → kept_count (cond b (s ∷ filter test xs) (filter test xs) ++ own) ≤ kept_count (s ∷ xs)
    by true t later =
        let left = filter test xs ++ own in
        let h = size_less (counts_nothing (any_of is_plain_jfif xs) (any_of is_plain_adobe xs) s) (counts_nothing (any_of is_plain_jfif left) (any_of is_plain_adobe left) s) (length s.1 + 4)
        (either_left (is_plain_jfif s && not (any_of is_plain_jfif xs)) (is_plain_adobe s && not (any_of is_plain_adobe xs)) (is_plain_jfif s && not (any_of is_plain_jfif left)) (is_plain_adobe s && not (any_of is_plain_adobe left))
        (first_left is_plain_jfif test xs own s jfif t) (first_left is_plain_adobe test xs own s adobe t)) in
        omega (arith, h, later)
    by false t later = omega (arith, later)

-- THE MARKERS of a headed meaning

AreFit : Limits → List Segment → Type 0
AreFit limits kept = All IsKeptMarker kept × (kept_count (reverse kept) ≤ limits.kept)

no_own : (plain test : Segment → Bool) → Spares plain test []
no_own plain test = λ s t. and_false (plain s)
  where
    and_false : (b : Bool) → (b && false) ≡ false
    and_false true = refl
    and_false false = refl

left_fit : (limits : Limits) (test : Segment → Bool) (kept : List Segment) → AreFit limits kept → AreFit limits (filter test kept)
unfolding AreFit
left_fit limits test kept fit =
    let h = count_left test [] (reverse kept) refl (no_own is_plain_jfif test) (no_own is_plain_adobe test) in
    let e : filter test (reverse kept) ++ [] ≡ reverse (filter test kept) = append-nil (filter test (reverse kept)) ∙ sym (filter_reverse test kept) in
    let k = subst (λ l. kept_count l ≤ kept_count (reverse kept)) e h in
    (filter_all IsKeptMarker test kept fit.0, omega (arith, k, fit.1))

copied_fit : (limits : Limits) (copying : Copying) (kept : List Segment) → AreFit limits kept → AreFit limits (copied copying kept)
unfolding AreFit
copied_fit limits copying.None kept fit = (All-nil IsKeptMarker, omega arith)
copied_fit limits copying.Comments kept fit = left_fit limits (λ s. s.0 == 0xfe) kept fit
copied_fit limits copying.All kept fit = fit

own_fit : (limits : Limits) (own : Segment) (test : Segment → Bool) (kept : List Segment) → IsKeptMarker own → kept_count (own ∷ []) ≡ 0 → Spares is_plain_jfif test (own ∷ []) → Spares is_plain_adobe test (own ∷ []) → AreFit limits kept
    → AreFit limits (own ∷ filter test kept)
unfolding AreFit
own_fit limits own test kept marker none jfif adobe fit =
    let h = count_left test (own ∷ []) (reverse kept) none jfif adobe in
    let e : filter test (reverse kept) ++ own ∷ [] ≡ reverse (own ∷ filter test kept) = ap (λ l. l ++ own ∷ []) (sym (filter_reverse test kept)) ∙ sym (reverse-append (own ∷ []) (filter test kept)) in
    let k = subst (λ l. kept_count l ≤ kept_count (reverse kept)) e h in
    (All-cons IsKeptMarker own (filter test kept) marker (filter_all IsKeptMarker test kept fit.0), omega (arith, k, fit.1))

-- a segment that doesn't begin so is none of the plain ones
not_jfif : (s : Segment) (own : Bool) → not (begins_jfif s.0 s.1) ≡ true → (is_plain_jfif s && own) ≡ false
not_jfif s own e = ap (λ b. ((b && nat_le 14 (length s.1)) && length s.1 == 14) && own) (negated (begins_jfif s.0 s.1) e)

not_adobe : (s : Segment) (own : Bool) → not (begins_adobe s.0 s.1) ≡ true → (is_plain_adobe s && own) ≡ false
not_adobe s own e = ap (λ b. ((b && nat_le 12 (length s.1)) && length s.1 == 12) && own) (negated (begins_adobe s.0 s.1) e)

jfif_fit : (limits : Limits) (j : Jfif) (kept : List Segment) → AreFit limits kept → AreFit limits ((0xe0, jfif_contents j) ∷ filter (λ s. not (begins_jfif s.0 s.1)) kept)
jfif_fit limits j kept fit =
    own_fit limits (0xe0, jfif_contents j) (λ s. not (begins_jfif s.0 s.1)) kept (refl, lit< tt) refl (λ s t. not_jfif s _ t) (λ s t. and_none (is_plain_adobe s)) fit

adobe_fit : (limits : Limits) (n : ℕ) (kept : List Segment) → AreFit limits kept → AreFit limits ((0xee, adobe_contents n) ∷ filter (λ s. not (begins_adobe s.0 s.1)) kept)
adobe_fit limits n kept fit =
    own_fit limits (0xee, adobe_contents n) (λ s. not (begins_adobe s.0 s.1)) kept (refl, lit< tt) refl (λ s t. and_none (is_plain_jfif s)) (λ s t. not_adobe s _ t) fit

heading_fit : (limits : Limits) (colour : Colour) (j : Jfif) (kept : List Segment) → AreFit limits kept → AreFit limits (headed_kept colour j kept)
heading_fit limits Gray j kept fit = jfif_fit limits j kept fit
heading_fit limits YCbCr j kept fit = jfif_fit limits j kept fit
heading_fit limits Rgb j kept fit = adobe_fit limits 0 kept fit
heading_fit limits Cmyk j kept fit = adobe_fit limits 0 kept fit
heading_fit limits Ycck j kept fit = adobe_fit limits 2 kept fit
heading_fit limits Unknown j kept fit = fit

-- THE LAW
pub heading : (limits : Limits) (copying : Copying) (M : Meaning) → IsHeaded limits M → IsHeaded limits (headed_by copying M)
unfolding AreFit
heading limits copying M is =
    let fit = heading_fit limits (colour_of M) (jfif_of M.kept) (copied copying M.kept) (copied_fit limits copying M.kept (is.markers, is.count)) in
    record {
      frame = other_process limits (frame_of_meaning M) (frame_of_meaning M) (sequential_process M) (sequential_precision M (checks limits (frame_of_meaning M) (frame_of_meaning M) is.frame).0.precision) is.frame;
      quants = is.quants;
      markers = fit.0;
      count = fit.1;
      blocks = is.blocks;
      others = is.others;
    }
