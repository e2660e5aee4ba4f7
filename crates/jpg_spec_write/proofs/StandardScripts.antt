-- The default scripts have no fault.
use Rattle.std.proofs.Common.{◌≡◌, ℕ, zero, suc, ◌+◌, ◌≤◌, Bool, true, false, cond, not, List, [], ◌∷◌, ◌++◌, length, refl, ap, ◌∙◌, arith, Option, Some, None, ◌==◌, ◌&&◌}
use Rattle.std.specs.Prelude.{◌||◌, map, nat_lt, nat_le, find, option_map}
use Rattle.jpg_spec.specs.Lists.{all_of, is_empty, below}
use Rattle.jpg_spec.specs.Geometry.{Frame, factor_sum, bounds_12, bounds_8}
use Rattle.jpg_spec.specs.FrameHeader.{IsFrame}
use Rattle.jpg_spec.specs.Segments.{ScanHead}
use Rattle.jpg_spec.specs.ScanContents.{is_band}
use Rattle.jpg_spec.specs.InForce.{first_some}
use Rattle.jpg_spec.specs.History.{known_to, is_known_to, is_next}
use Rattle.jpg_spec_write.specs.Script.{Entry, sequential_script, is_progressive_script}
use Rattle.jpg_spec_write.specs.ScriptFaults.{entry_head, ascend, is_whole_scan, entry_fault, coefficients, fault_after, script_fault, of_one, three_colours_script, any_colours_script, standard_script}
use Rattle.jpg_spec_write.specs.ScriptLaws.{PassesSequential, HasFewComponents, HasStandardScript}
use Rattle.jpg_spec.specs.Colours.{three_colours, four_colours, colours_of}
use Rattle.jpg_spec.specs.Jfif.{jfif_of, adobe_transform}
use Rattle.jpg_spec.specs.Meaning.{Meaning, PictureComponent, colour_of}
use Rattle.jpg_spec_write.specs.FileText.{frame_of_meaning}
use Rattle.jpg_spec.proofs.Basics.Common.{same_of}
use Rattle.std.proofs.lemmas.List.{length-map}
use Rattle.jpg_spec.specs.declared.frame.Colour.{Colour}
use Rattle.jpg_spec.specs.declared.frame.Colour.TheVariants.{Gray, YCbCr, Cmyk, Ycck, Unknown}
use Rattle.jpg_spec_write.specs.declared.picture_fault.PictureFault.{PictureFault}
use Rattle.jpg_spec_write.specs.declared.picture_fault.PictureFault.TheVariants.{ScriptComponent, ScriptMcu, ScriptBand, ScriptIncomplete}

-- THE SAME CHECK, of a number of components and the sums of their factors

abbrev pub is_due : Bool → List ScanHead → Entry → Bool
is_due wide heads e =
    (is_band (length e.components) (entry_head e) && ((e.ah == 0 || e.ah == e.al + 1) && nat_le e.al (cond wide bounds_12 bounds_8).al)) && all_of (is_next heads (entry_head e)) e.components

abbrev pub entry_by : Bool → Bool → ℕ → (List ℕ → ℕ) → List ScanHead → ℕ → Entry → Option PictureFault
entry_by is_prog wide count sum heads n e =
    cond (is_empty e.components || (not (all_of (λ i. nat_lt i count) e.components) || not (ascend e.components))) (Some (ScriptComponent n))
    (cond (nat_lt 1 (length e.components) && nat_lt 10 (sum e.components)) (Some (ScriptMcu n))
    (cond (cond is_prog (is_due wide heads e) (is_whole_scan heads e)) None (Some (ScriptBand n))))

abbrev pub incomplete_by : ℕ → List ScanHead → Option PictureFault
incomplete_by count heads =
    option_map (λ (c : ℕ × ℕ). ScriptIncomplete c.0 c.1 (known_to heads c.0 c.1)) (find (λ (c : ℕ × ℕ). not (is_known_to (known_to heads c.0 c.1) 0)) (coefficients count))

abbrev pub after_by : Bool → Bool → ℕ → (List ℕ → ℕ) → List ScanHead → ℕ → List Entry → Option PictureFault
after_by is_prog wide count sum heads n [] = incomplete_by count heads
after_by is_prog wide count sum heads n (e ∷ script) = first_some (entry_by is_prog wide count sum heads n e) (after_by is_prog wide count sum (entry_head e ∷ heads) (n + 1) script)

pub same_fault : (is_prog : Bool) (f : Frame) (heads : List ScanHead) (n : ℕ) (script : List Entry) → fault_after is_prog f heads n script ≡ after_by is_prog (f.precision == 12) (length f.components) (factor_sum f) heads n script
same_fault is_prog f heads n [] = refl
same_fault is_prog f heads n (e ∷ script) = ap (first_some (entry_fault is_prog f heads n e)) (same_fault is_prog f (entry_head e ∷ heads) (n + 1) script)

-- THE SAME SCRIPTS

abbrev all_of_by : Bool → ℕ → ℕ → ℕ → ℕ → ℕ → List Entry
all_of_by large n ss se ah al =
    cond (nat_lt 1 n && large) (map (λ i. of_one i ss se ah al) (below n)) (record { components = below n; ss = ss; se = se; ah = ah; al = al } ∷ [])

abbrev each_by : ℕ → ℕ → ℕ → ℕ → ℕ → List Entry
each_by n ss se ah al = map (λ i. of_one i ss se ah al) (below n)

abbrev any_by : Bool → ℕ → List Entry
any_by large n = all_of_by large n 0 0 0 1 ++ each_by n 1 5 0 2 ++ each_by n 6 63 0 2 ++ each_by n 1 63 2 1 ++ all_of_by large n 0 0 1 0 ++ each_by n 1 63 1 0

abbrev three_by : Bool → ℕ → List Entry
three_by large n =
    all_of_by large n 0 0 0 1
    ++ of_one 0 1 5 0 2 ∷ of_one 2 1 63 0 1 ∷ of_one 1 1 63 0 1 ∷ of_one 0 6 63 0 2 ∷ of_one 0 1 63 2 1 ∷ []
    ++ all_of_by large n 0 0 1 0
    ++ of_one 2 1 63 1 0 ∷ of_one 1 1 63 1 0 ∷ of_one 0 1 63 1 0 ∷ []

-- the fault of a script with two scans of all components, by their MCUs
abbrev by_mcu : Bool → ℕ → Option PictureFault
by_mcu large n = first_some (cond large (Some (ScriptMcu 0)) None) (first_some (cond large (Some (ScriptMcu n)) None) None)

Passes : Bool → ℕ → Type 0
Passes wide n = (sum : List ℕ → ℕ) → after_by true wide n sum [] 0 (any_by (nat_lt 10 (sum (below n))) n) ≡ None

passes_one : (wide : Bool) → Passes wide 1
unfolding Passes
passes_one true sum = refl
passes_one false sum = refl

passes_two : (wide : Bool) → Passes wide 2
unfolding Passes
passes_two wide sum = by wide (nat_lt 10 (sum (below 2))) refl
  where
    by : (wide b : Bool) → nat_lt 10 (sum (below 2)) ≡ b → after_by true wide 2 sum [] 0 (any_by b 2) ≡ None
    by true true e = refl
    by false true e = refl
    by true false e = ap (λ b. by_mcu b 7) e
    by false false e = ap (λ b. by_mcu b 7) e

passes_three : (wide : Bool) → Passes wide 3
unfolding Passes
passes_three wide sum = by wide (nat_lt 10 (sum (below 3))) refl
  where
    by : (wide b : Bool) → nat_lt 10 (sum (below 3)) ≡ b → after_by true wide 3 sum [] 0 (any_by b 3) ≡ None
    by true true e = refl
    by false true e = refl
    by true false e = ap (λ b. by_mcu b 10) e
    by false false e = ap (λ b. by_mcu b 10) e

passes_four : (wide : Bool) → Passes wide 4
unfolding Passes
passes_four wide sum = by wide (nat_lt 10 (sum (below 4))) refl
  where
    by : (wide b : Bool) → nat_lt 10 (sum (below 4)) ≡ b → after_by true wide 4 sum [] 0 (any_by b 4) ≡ None
    by true true e = refl
    by false true e = refl
    by true false e = ap (λ b. by_mcu b 13) e
    by false false e = ap (λ b. by_mcu b 13) e

colours_pass : (wide : Bool) (sum : List ℕ → ℕ) → after_by true wide 3 sum [] 0 (three_by (nat_lt 10 (sum (below 3))) 3) ≡ None
colours_pass wide sum = by wide (nat_lt 10 (sum (below 3))) refl
  where
    by : (wide b : Bool) → nat_lt 10 (sum (below 3)) ≡ b → after_by true wide 3 sum [] 0 (three_by b 3) ≡ None
    by true true e = refl
    by false true e = refl
    by true false e = ap (λ b. by_mcu b 6) e
    by false false e = ap (λ b. by_mcu b 6) e

all_pass : (wide : Bool) (n : ℕ) → 1 ≤ n → n ≤ 4 → Passes wide n
all_pass wide zero l h = absurd (omega (arith, l))
all_pass wide (suc zero) l h = passes_one wide
all_pass wide (suc (suc zero)) l h = passes_two wide
all_pass wide (suc (suc (suc zero))) l h = passes_three wide
all_pass wide (suc (suc (suc (suc zero)))) l h = passes_four wide
all_pass wide (suc (suc (suc (suc (suc n))))) l h = absurd (omega (arith, h))

-- both scripts begin with DC, in one scan or in more
begins_any : (large : Bool) (n : ℕ) → 1 ≤ n → n ≤ 4 → is_progressive_script (any_by large n) ≡ true
begins_any large zero l h = absurd (omega (arith, l))
begins_any large (suc (suc (suc (suc (suc n))))) l h = absurd (omega (arith, h))
begins_any large (suc zero) l h = refl
begins_any true n l h = refl
begins_any false n l h = refl

any_passes : (f : Frame) → 1 ≤ length f.components → length f.components ≤ 4 → script_fault f (any_colours_script f) ≡ None
unfolding script_fault Passes
any_passes f l h =
    let n = length f.components in
    ap (λ b. fault_after b f [] 0 (any_colours_script f)) (begins_any (nat_lt 10 (factor_sum f (below n))) n l h)
    ∙ same_fault true f [] 0 (any_colours_script f) ∙ all_pass (f.precision == 12) n l h (factor_sum f)

begins_three : (large : Bool) → is_progressive_script (three_by large 3) ≡ true
begins_three true = refl
begins_three false = refl

three_passes : (f : Frame) → length f.components ≡ 3 → script_fault f (three_colours_script f) ≡ None
unfolding script_fault
three_passes f e =
    let sum = factor_sum f in
    let n = length f.components in
    ap (λ b. fault_after b f [] 0 (three_colours_script f))
    (ap (λ m. is_progressive_script (three_by (nat_lt 10 (sum (below m))) m)) e ∙ begins_three (nat_lt 10 (sum (below 3))))
    ∙ same_fault true f [] 0 (three_colours_script f)
    ∙ ap (λ m. after_by true (f.precision == 12) m sum [] 0 (three_by (nat_lt 10 (sum (below m))) m)) e
    ∙ colours_pass (f.precision == 12) sum

pub standard_passes : (f : Frame) (colour : Colour) → HasStandardScript f colour → script_fault f (standard_script f colour) ≡ None
standard_passes f YCbCr is = three_passes f (is.three refl)
standard_passes f colour is = any_passes f is.some is.few

any_begins : (f : Frame) → 1 ≤ length f.components → length f.components ≤ 4 → is_progressive_script (any_colours_script f) ≡ true
any_begins f l h = begins_any (nat_lt 10 (factor_sum f (below (length f.components)))) (length f.components) l h

three_begins : (f : Frame) → length f.components ≡ 3 → is_progressive_script (three_colours_script f) ≡ true
three_begins f e =
    let sum = factor_sum f in
    ap (λ m. is_progressive_script (three_by (nat_lt 10 (sum (below m))) m)) e ∙ begins_three (nat_lt 10 (sum (below 3)))

pub standard_begins : (f : Frame) (colour : Colour) → HasStandardScript f colour → is_progressive_script (standard_script f colour) ≡ true
standard_begins f YCbCr is = three_begins f (is.three refl)
standard_begins f colour is = any_begins f is.some is.few

-- only three components are YCbCr
four_not : (adobe : Option ℕ) → four_colours adobe ≡ YCbCr → ⊥
four_not None e = cc
four_not (Some n) e = by (n == 0) e
  where
    by : (b : Bool) → cond b Cmyk (cond true Ycck Cmyk) ≡ YCbCr → ⊥
    by true e = cc
    by false e = cc

three_of_colours : (count : ℕ) (ids : List ℕ) (seen : Bool) (adobe : Option ℕ) → colours_of count ids seen adobe ≡ YCbCr → count ≡ 3
three_of_colours count ids seen adobe e = by (count == 1) (count == 3) (count == 4) refl e
  where
    by : (x y z : Bool) → (count == 3) ≡ y → cond x Gray (cond y (three_colours ids seen adobe) (cond z (four_colours adobe) Unknown)) ≡ YCbCr → count ≡ 3
    by true y z a e = cc
    by false true z a e = same_of count 3 a
    by false false true a e = absurd (four_not adobe e)
    by false false false a e = cc

pub meaning_has : (H : Meaning) → HasFewComponents H → HasStandardScript (frame_of_meaning H) (colour_of H)
meaning_has H is =
    let same : length (frame_of_meaning H).components ≡ length H.components = length-map H.components _ in
    let some = is.some in
    let few = is.few in
    record {
      some = omega (arith, same, some);
      few = omega (arith, same, few);
      three = λ e. same ∙ three_of_colours (length H.components) (map (λ (c : PictureComponent). c.id) H.components) (jfif_of H.kept).seen (adobe_transform H.kept) e;
    }

-- THE SEQUENTIAL SCRIPT

SequentialPasses : ℕ → Type 0
SequentialPasses n = (wide : Bool) (sum : List ℕ → ℕ) → after_by false wide n sum [] 0 (all_of_by (nat_lt 10 (sum (below n))) n 0 63 0 0) ≡ None

sequential_one : SequentialPasses 1
unfolding SequentialPasses
sequential_one wide sum = refl

sequential_two : SequentialPasses 2
unfolding SequentialPasses
sequential_two wide sum = by (nat_lt 10 (sum (below 2))) refl
  where
    by : (b : Bool) → nat_lt 10 (sum (below 2)) ≡ b → after_by false wide 2 sum [] 0 (all_of_by b 2 0 63 0 0) ≡ None
    by true e = refl
    by false e = ap (λ b. first_some (cond b (Some (ScriptMcu 0)) None) None) e

sequential_three : SequentialPasses 3
unfolding SequentialPasses
sequential_three wide sum = by (nat_lt 10 (sum (below 3))) refl
  where
    by : (b : Bool) → nat_lt 10 (sum (below 3)) ≡ b → after_by false wide 3 sum [] 0 (all_of_by b 3 0 63 0 0) ≡ None
    by true e = refl
    by false e = ap (λ b. first_some (cond b (Some (ScriptMcu 0)) None) None) e

sequential_four : SequentialPasses 4
unfolding SequentialPasses
sequential_four wide sum = by (nat_lt 10 (sum (below 4))) refl
  where
    by : (b : Bool) → nat_lt 10 (sum (below 4)) ≡ b → after_by false wide 4 sum [] 0 (all_of_by b 4 0 63 0 0) ≡ None
    by true e = refl
    by false e = ap (λ b. first_some (cond b (Some (ScriptMcu 0)) None) None) e

all_sequential : (n : ℕ) → 1 ≤ n → n ≤ 4 → SequentialPasses n
all_sequential zero l h = absurd (omega (arith, l))
all_sequential (suc zero) l h = sequential_one
all_sequential (suc (suc zero)) l h = sequential_two
all_sequential (suc (suc (suc zero))) l h = sequential_three
all_sequential (suc (suc (suc (suc zero)))) l h = sequential_four
all_sequential (suc (suc (suc (suc (suc n))))) l h = absurd (omega (arith, h))

begins_sequential : (large : Bool) (n : ℕ) → 1 ≤ n → n ≤ 4 → is_progressive_script (all_of_by large n 0 63 0 0) ≡ false
begins_sequential large zero l h = absurd (omega (arith, l))
begins_sequential large (suc (suc (suc (suc (suc n))))) l h = absurd (omega (arith, h))
begins_sequential large (suc zero) l h = refl
begins_sequential true n l h = refl
begins_sequential false n l h = refl

pub sequential_has_none : (f : Frame) → IsFrame f → PassesSequential f (sequential_script f)
unfolding script_fault SequentialPasses
sequential_has_none f is =
    let n = length f.components in
    let kind = begins_sequential (nat_lt 10 (factor_sum f (below n))) n is.count_low is.count_high in
    record {
      few = is.count_high;
      sequential = kind;
      faultless = ap (λ b. fault_after b f [] 0 (sequential_script f)) kind ∙ same_fault false f [] 0 (sequential_script f) ∙ all_sequential n is.count_low is.count_high (f.precision == 12) (factor_sum f);
    }
