-- Strips of which nothing was decoded: their parts have the picture's numbers, and they represent any picture of these.
use Rattle.std.proofs.Common.{◌≡◌, ℕ, zero, suc, ◌*◌, ◌<◌, ◌≤◌, Bool, ◌==◌, ◌||◌, if◌then◌else◌, List, [], ◌∷◌, length, map, slice_index_or, subst, refl, sym, ap, ◌∙◌, arith, None}
use Rattle.std.proofs.Math.Nat.{mul-le-mul}
use Rattle.jpg_spec.specs.Lists.{below, any_of}
use Rattle.jpg_spec.specs.Geometry.{Frame, div_up, h_max, v_max, component_at}
use Rattle.jpg_spec.specs.FileMeaning.{no_blocks}
use Rattle.jpg_spec.specs.Segments.{QuantTable}
use Rattle.jpg_spec.specs.Scan.{Blocks}
use Rattle.jpg_spec_image.specs.Upsampling.{Stretch, has_far_rows}
use Rattle.jpg_spec_image.specs.Pixels.{stretch_of}
use Rattle.jpg_spec_image.specs.Strips.{block_rows, lines, needed}
use Rattle.jpg_spec.proofs.Basics.Common.{any_append}
use Rattle.jpg_file.specs.Read.PictureKept.{IsStripHead, bare_picture}
use Rattle.jpg_file.specs.declared.read.strip_head.StripHead.{StripHead}
use Rattle.jpg_color.specs.PartState.{PartState, AreSizes, head_picture, no_rows}
use Rattle.jpg_color.specs.Shown.{Display, IsShowable, IsFreshRows, display_of, display_fault, picture_of, parts, rows_in, row_length, held_rows}
use Rattle.jpg_color.specs.StripsState.{AreNewParts, AreStrips, display_for, part_at, shown_of}
use Rattle.jpg_color.proofs.Coverage.{whole_ratios, in_frame, factors_at, parts_fit, samples_across_is, samples_down_is, lines_is, lines_some, up_covers, up_least}
use Rattle.jpg_color.proofs.Windows.{rows_in_some, rows_in_few}
use Rattle.jpg_color.proofs.HeldRows.{fresh_stands}
use Rattle.jpg_color.proofs.PartsShown.{held_at}

pub showable : (h : StripHead) (gray smooth : Bool) → IsStripHead h → display_fault (display_of h gray smooth) ≡ None → IsShowable (display_of h gray smooth)
showable h gray smooth is admitted = record { frame = is.frame; tables = is.tables; colour = is.colour; admitted = admitted }

pub parts_there : (h : StripHead) (gray smooth : Bool) (n : ℕ) → IsShowable (display_of h gray smooth) → n ≡ needed h.colour gray → n ≤ length h.frame.components
parts_there h gray smooth n s e = subst (λ k. k ≤ length h.frame.components) (sym e) (parts_fit (display_of h gray smooth) s)

-- a side of a component, whose factor is at most the greatest
side_in : (side factor most ratio : ℕ) → 1 ≤ side → side ≤ 65500 → 1 ≤ factor → 1 ≤ ratio → ratio * factor ≡ most → (1 ≤ div_up (side * factor) most) × (div_up (side * factor) most ≤ 65500)
side_in side factor most ratio low high some whole e =
    let least : 1 * factor ≤ ratio * factor = mul-le-mul whole (same factor) in
    let more : factor ≤ most = omega (arith, least, e) in
    let most_some : 1 ≤ most = omega (arith, more, some) in
    let product : 1 * 1 ≤ side * factor = mul-le-mul low some in
    let up : side * factor ≤ div_up (side * factor) most * most = up_covers (side * factor) most most_some in
    let wide : side * factor ≤ side * most = mul-le-mul (same side) more in
    let few : div_up (side * factor) most ≤ side = up_least (side * factor) most side most_some wide in
    (not_none (div_up (side * factor) most) most (side * factor) product up, omega (arith, few, high))
  where
    same : (n : ℕ) → n ≤ n
    same n = omega arith

    not_none : (n most product : ℕ) → 1 * 1 ≤ product → product ≤ n * most → 1 ≤ n
    not_none zero most product some le = (let z : zero * most ≡ 0 = grind arith in omega (arith, some, le, z))
    not_none (suc n) most product some le = omega arith

pub sizes : (d : Display) (i : ℕ) → IsShowable d → i < parts d → AreSizes (stretch_of (picture_of d no_blocks) d.smooth i) (block_rows (picture_of d no_blocks) i)
sizes d i s h =
    let there = in_frame d i s h in
    let c = factors_at d i s there in
    let r = whole_ratios d no_blocks i s h in
    let wide = side_in d.frame.width (component_at d.frame i).h (h_max d.frame) (stretch_of (picture_of d no_blocks) d.smooth i).across s.frame.width_low s.frame.width_high c.h_low r.across_low r.across in
    let high = side_in d.frame.height (component_at d.frame i).v (v_max d.frame) (stretch_of (picture_of d no_blocks) d.smooth i).down s.frame.height_low s.frame.height_high c.v_low r.down_low r.down in
    let few = rows_in_few d i s h in
    record {
      wide_low = subst (λ n. 1 ≤ n) (sym (samples_across_is d no_blocks i there)) wide.0;
      wide_high = subst (λ n. n ≤ 65500) (sym (samples_across_is d no_blocks i there)) wide.1;
      high_low = subst (λ n. 1 ≤ n) (sym (samples_down_is d no_blocks i there)) high.0;
      high_high = subst (λ n. n ≤ 65500) (sym (samples_down_is d no_blocks i there)) high.1;
      across_high = r.across_high;
      down_low = r.down_low;
      down_high = r.down_high;
      rows_low = rows_in_some d i s h;
      rows_high = through (rows_in d i) (component_at d.frame i).v few c.v_high;
    }
  where
    through : (a b : ℕ) → a ≤ b → b ≤ 4 → a ≤ 4
    through a b h l = omega (arith, h, l)

pub sizes_told : (h : StripHead) (gray smooth : Bool) (n i : ℕ) → IsShowable (display_of h gray smooth) → n ≡ needed h.colour gray → i < n
    → AreSizes (stretch_of (bare_picture h.frame h.quants.items no_blocks) smooth i) (block_rows (bare_picture h.frame h.quants.items no_blocks) i)
sizes_told h gray smooth n i s e lt = sizes (display_of h gray smooth) i s (subst (λ k. i < k) e lt)

same_any : (t u : ℕ → Bool) (n : ℕ) → ((i : ℕ) → i < n → t i ≡ u i) → any_of t (below n) ≡ any_of u (below n)
same_any t u zero e = refl
same_any t u (suc n) e =
    any_append t (below n) (n ∷ [])
    ∙ ap (λ b. b || any_of t (n ∷ [])) (same_any t u n (λ (i : ℕ) (h : i < n). e i (omega (arith, h))))
    ∙ ap (λ b. any_of u (below n) || (b || any_of t [])) (e n (omega arith))
    ∙ sym (any_append u (below n) (n ∷ []))

few_rows : (height count : ℕ) → 1 ≤ count → height ≤ 65500 → div_up height count ≤ 65500
few_rows height count some few =
    let m : height * 1 ≤ height * count = mul-le-mul (let l : height ≤ height = omega arith in l) some in
    let l : div_up height count ≤ height = up_least height count height some (omega (arith, m)) in
    omega (arith, l, few)

pub display_is : (h : StripHead) {gray smooth : Bool} {f : Frame} {quants : List QuantTable} → f ≡ h.frame → quants ≡ h.quants.items
    → display_for f h.colour quants gray smooth ≡ display_of h gray smooth
display_is h {gray} {smooth} {quants = quants} ef eq =
    ap (λ (k : Frame). display_for k h.colour quants gray smooth) ef
    ∙ ap (λ (ts : List QuantTable). display_for h.frame h.colour ts gray smooth) eq

-- It can be displayed, and these are its parts, of which none has a row.
pub record AreNew (d : Display) (ps : List PartState) : Type 0 where
  pub showable : IsShowable d
  pub new : AreNewParts (picture_of d no_blocks) d.smooth (parts d) ps

pub are_new : (h : StripHead) {gray smooth : Bool} {d : Display} {ps : List PartState} {n : ℕ} → d ≡ display_of h gray smooth → IsShowable (display_of h gray smooth)
    → n ≡ needed h.colour gray → AreNewParts (head_picture h) smooth n ps → AreNew d ps
are_new h {gray} {smooth} {ps = ps} same s en are =
    subst (λ x. AreNew x ps) (sym same) (record { showable = s; new = subst (λ k. AreNewParts (head_picture h) smooth k ps) en are })

none_held : {d : Display} {ps : List PartState} (i : ℕ) → AreNew d ps → i < parts d → (slice_index_or (map (λ p. p.kept) ps) i no_rows).rows ≡ []
none_held {ps = ps} i n h = (let part = n.new.new i h in held_at ps i ∙ part.none)

pub fresh : {d : Display} {ps : List PartState} {row : List ℕ} {all count : ℕ} {waits : Bool} → AreNew d ps → length row ≡ row_length d
    → count ≡ (if length d.frame.components == 1 then 8 else 8 * v_max d.frame) → count ≤ 32 → all ≡ div_up d.frame.height count
    → waits ≡ any_of (λ i. has_far_rows (part_at ps i).stretch) (below (length ps)) → AreStrips d 0 0 ps row all count waits
fresh {d} {ps} {row} {count = count} n long is short rows waiting =
    let s = n.showable in
    let are = n.new in
    let lines_told : count ≡ lines (picture_of d no_blocks) = is ∙ sym (lines_is d no_blocks) in
    let some : 1 ≤ count = subst (λ k. 1 ≤ k) (sym lines_told) (lines_some d no_blocks s) in
    record {
      showable = s;
      all = rows ∙ ap (div_up d.frame.height) lines_told;
      few = subst (λ k. k ≤ 65500) (sym rows) (few_rows d.frame.height count some s.frame.height_high);
      lines = lines_told;
      short = short;
      waits = waiting
          ∙ ap (λ k. any_of (λ i. has_far_rows (part_at ps i).stretch) (below k)) are.count
          ∙ same_any (λ i. has_far_rows (part_at ps i).stretch) (λ i. has_far_rows (stretch_of (picture_of d no_blocks) d.smooth i)) (parts d)
          (λ (i : ℕ) (h : i < parts d). (let new = are.new i h in ap (λ (t : Stretch). has_far_rows t) new.part.stretch));
      count = are.count;
      parts = λ (i : ℕ) (h : i < parts d). (let new = are.new i h in new.part);
      last = long;
      stands = (no_blocks, fresh_stands d no_blocks (held_rows (shown_of d 0 0 ps row)) s (λ (i : ℕ) (h : i < parts d). none_held i n h));
    }

pub is_fresh : {h : StripHead} {gray smooth : Bool} {d : Display} {ps : List PartState} (row : List ℕ) → d ≡ display_of h gray smooth → AreNew d ps
    → IsFreshRows h gray smooth (shown_of d 0 0 ps row)
is_fresh {d = d} {ps} row same n =
    record {
      display = same;
      pushed = refl;
      given = refl;
      stands = λ (blocks : Blocks). fresh_stands d blocks (held_rows (shown_of d 0 0 ps row)) n.showable (λ (i : ℕ) (h : i < parts d). none_held i n h);
    }
