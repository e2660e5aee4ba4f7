-- MCU rows of a complete picture are decoded until a row of the image is ready.
use Rattle.std.proofs.Common.{◌≡◌, ℕ, ◌+◌, ◌<◌, ◌≤◌, ◌*◌, Bool, true, false, ◌==◌, ◌&&◌, nat_lt, if◌then◌else◌, None, sym, ap, ◌∙◌, subst, arith, length}
use Rattle.std.proofs.lemmas.Bool.Decides.{nat_tests}
use Rattle.jpg_spec.specs.Elements.{zeros}
use Rattle.jpg_spec.specs.Geometry.{Frame, bounds, blocks_across, blocks_down, component_at, is_real}
use Rattle.jpg_spec.specs.Ranges.{AreInRange}
use Rattle.jpg_spec.specs.declared.frame.Colour.{Colour}
use Rattle.jpg_spec_image.specs.Pixels.{out_fault, out_fault_of}
use Rattle.jpg_coefs.specs.Picture.{Picture as Coefs, map_of}
use Rattle.jpg_file.specs.Read.PictureRead.{picture_meaning}
use Rattle.jpg_file.specs.declared.read.picture.Picture.{Picture}
use Rattle.jpg_file.specs.declared.read.strip_head.StripHead.{StripHead}
use Rattle.jpg_color.specs.Shown.{ShownState, Display, IsFreshRows, RepresentsPicture, IsNextRowDue, IsGiven, IsPushed, IsShowable, Advances, all_rows, at_due, display_fault, display_of, factors_of, parts, rows_made_ready, rows_in, row_length, row_of_blocks}
use Rattle.jpg_color.specs.PictureRows.{ArePictureRows, RowGoesOn, shown_blocks}
use Rattle.jpg_color.proofs.Coverage.{in_frame}
use Rattle.jpg_color.proofs.Decoded.{admits_display}
use Rattle.jpg_color.proofs.Windows.{ready_high}

-- the same rows were written, and what was decoded still holds
pub record IsLooking (s0 : ShownState) (q0 : Coefs) (s : ShownState) (q : Coefs) : Type 0 where
  pub shown : IsShowable s0.display
  pub display : s.display ≡ s0.display
  pub given : s.given ≡ s0.given
  pub coefs : q ≡ q0
  pub rows : ArePictureRows s q

-- MCU rows are missing, if not all were decoded
pub missing : (s0 s s1 : ShownState) (q0 q : Coefs) → IsLooking s0 q0 s q → Advances s false s1 → (s1.pushed == all_rows s1.display) ≡ false → IsNextRowDue s1
missing s0 s s1 q0 q h a unfinished =
    let same : s1 ≡ s = a.1 in
    let le : s.pushed ≤ all_rows s.display = h.rows.stands.some in
    let few : s.pushed < all_rows s.display =
    (let n : (s.pushed == all_rows s.display) ≡ false = subst (λ (x : ShownState). (x.pushed == all_rows x.display) ≡ false) same unfinished in grind (arith, nat_tests, n, le))
    in
    subst IsNextRowDue (sym same) (record { given = a.0; missing = few })

-- what an MCU row of the complete picture adds
real_same : (d : Display) (q : Coefs) (i x y : ℕ) → IsShowable d → i < parts d → x < blocks_across d.frame (component_at d.frame i) → y < blocks_down d.frame (component_at d.frame i)
    → map_of q i x y ≡ shown_blocks d q i x y
real_same d q i x y shown a b c =
    let there : (nat_lt i (length d.frame.components) && is_real d.frame i x y) ≡ true = (let n = in_frame d i shown a in grind (arith, nat_tests, n, b, c)) in
    sym (ap (λ t. if t then map_of q i x y else zeros 64) there)

rows_pushed : (s s1 : ShownState) (q : Coefs) → IsShowable s.display → ArePictureRows s q → IsPushed s (at_due s) q s1 → ArePictureRows s1 q
rows_pushed s s1 q shown h p =
    record {
      frame = subst (λ (d : Display). q.frame ≡ d.frame) (sym p.display) h.frame;
      range = subst (λ (d : Display). AreInRange (bounds d.frame) (map_of q)) (sym p.display) h.range;
      stands = subst (λ (d : Display). RepresentsPicture s1 (shown_blocks d q)) (sym p.display)
          (p.stands (shown_blocks s.display q) h.stands (record { same = λ (i x y : ℕ) a b c e. real_same s.display q i x (s.pushed * rows_in s.display i + y) shown a b e }));
    }

pub goes_looking : (s0 s s1 s2 : ShownState) (q0 q : Coefs) → IsLooking s0 q0 s q → Advances s false s1 → IsPushed s1 (at_due s1) q s2 → IsLooking s0 q0 s2 q
goes_looking s0 s s1 s2 q0 q h a p =
    let rows : ArePictureRows s1 q = subst (λ (x : ShownState). ArePictureRows x q) (sym a.1) h.rows in
    record {
      shown = h.shown;
      display = p.display ∙ ap (λ (x : ShownState). x.display) a.1 ∙ h.display;
      given = p.given ∙ ap (λ (x : ShownState). x.given) a.1 ∙ h.given;
      coefs = h.coefs;
      rows = rows_pushed s1 s2 q (subst IsShowable (sym (ap (λ (x : ShownState). x.display) a.1 ∙ h.display)) h.shown) rows p;
    }

pub goes_on : (s0 s s1 : ShownState) (q0 q : Coefs) → IsLooking s0 q0 s q → IsGiven s s1.last s1 → RowGoesOn (record { strips = s0; coefs = q0 }) (record { strips = s1; coefs = q })
goes_on s0 s s1 q0 q h g =
    let high : rows_made_ready s.display s.pushed ≤ s.display.frame.height = ready_high s.display s.pushed (subst IsShowable (sym h.display) h.shown) h.rows.stands.some in
    let same : s.display.frame.height ≡ s0.display.frame.height = ap (λ (d : Display). d.frame.height) h.display in
    record {
      early = omega (arith, high, same, g.early, h.given);
      display = g.display ∙ h.display;
      coefs = h.coefs;
      given = g.given ∙ ap (λ n. n + 1) h.given;
      long = g.long ∙ ap row_length h.display;
      value = g.value (shown_blocks s.display q) h.rows.stands
          ∙ ap (λ (d : Display). row_of_blocks d (shown_blocks d q) s.given) h.display ∙ ap (λ (c : Coefs). row_of_blocks s0.display (shown_blocks s0.display c) s.given) h.coefs
          ∙ ap (λ n. row_of_blocks s0.display (shown_blocks s0.display q0) n) h.given;
    }

-- what the rows of a picture are made from can be displayed, if the picture can
pub head_admitted : (p : Picture) (h : StripHead) (gray smooth : Bool) → h.frame ≡ p.frame → h.colour ≡ p.colour → out_fault gray (picture_meaning p) ≡ None → display_fault (display_of h gray smooth) ≡ None
head_admitted p h gray smooth frame colour none =
    ap (λ (f : Frame). out_fault_of f.precision h.colour gray (factors_of f)) frame
    ∙ ap (λ (c : Colour). out_fault_of p.frame.precision c gray (factors_of p.frame)) colour ∙ admits_display p gray smooth none

-- before the first MCU row of a picture that was read
pub first_rows : (p : Picture) (h : StripHead) (gray smooth : Bool) (s : ShownState) → h.frame ≡ p.frame → IsFreshRows h gray smooth s → ArePictureRows s p.coefs
first_rows p h gray smooth s same fresh =
    let is = p.keeps in
    let f : s.display.frame ≡ p.frame = ap (λ (d : Display). d.frame) fresh.display ∙ same in
    record {
      frame = is.grids ∙ sym f;
      range = subst (λ g. AreInRange (bounds g) (map_of p.coefs)) (sym f) is.range;
      stands = fresh.stands (shown_blocks s.display p.coefs);
    }
