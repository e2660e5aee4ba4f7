-- An image is written while its picture is decoded: the rows that were decoded and written, for one picture and for
-- any.
use Rattle.std.proofs.Common.{◌≡◌, ℕ, ◌+◌, ◌-◌, ◌*◌, ◌<◌, ◌≤◌, Bool, false, if◌then◌else◌, List, [], ◌++◌, length, take, flat_map, Some, None, Result, Ok, Err, refl, sym, ap, ◌∙◌, subst, arith}
use Rattle.std.proofs.lemmas.List.{length-append}
use Rattle.std.specs.Prelude.{IfOk}
use Rattle.jpg_base.specs.Desk.{DeskState}
use Rattle.jpg_base.specs.declared.names.NoMemory.{NoMemory}
use Rattle.jpg_spec.specs.Lists.{any_of, below}
use Rattle.jpg_spec_image.specs.ImageText.{first_piece, row_piece}
use Rattle.jpg_spec.specs.Meaning.{Meaning, colour_of}
use Rattle.jpg_spec_image.specs.Pixels.{info, pixel_row, pixels, shown_row, shows_gray, stretch_of}
use Rattle.jpg_spec_image.specs.Upsampling.{has_far_rows}
use Rattle.jpg_spec_image.specs.Strips.{lines, mcu_rows, needed, ready, rows_from}
use Rattle.jpg_spec.specs.declared.frame.Colour.{Colour}
use Rattle.jpg_spec_image.specs.declared.image.EndKind.{EndKind}
use Rattle.jpg_spec_image.specs.declared.image.EndKind.TheVariants.{Pnm, Bmp, Targa}
use Rattle.jpg_spec_image.specs.declared.image.ImageInfo.{ImageInfo}
use Rattle.jpg_spec.proofs.Basics.Common.{same_itself}
use Rattle.jpg_spec_image.specs.RowsShown.{ready_rows as rows_ready}
use Rattle.jpg_coefs.specs.Picture.{Picture as Coefs}
use Rattle.jpg_file.specs.Read.PictureKept.{IsStripHead}
use Rattle.jpg_file.specs.declared.read.strip_head.StripHead.{StripHead}
use Rattle.jpg_pnm_bmp.specs.EndState.{EndState, Starts, held_of, info_of, new_end}
use Rattle.jpg_color.specs.Shown.{AreMcuRow, Display, IsNextRowDue, IsFreshRows, IsPushed, IsShowable, ShownState, RepresentsPicture, all_rows, at_top, display_fault, display_of, picture_of, rows_made_ready, row_of_blocks}
use Rattle.jpg_color.specs.DecodeRows.{end_at, end_parts, finished, row_pieces, info_for}
use Rattle.jpg_color.specs.StripImage.{AreGiven, BeginsDrawing, Drawing, DrawsImage, DrawsRow, EndsDrawing, GoesOnDrawing, IsDrawnTo, IsEndOf, IsNewDrawing, IsToldOf, SendsReady, StaysDrawn}
use Rattle.jpg_color.specs.StripImage.{first_image_rows, next_rows, next_text, rest_text, rows_due, with_rows}
use Rattle.jpg_color.specs.declared.decode.DecodeStop.{DecodeStop}
use Rattle.jpg_color.proofs.Decoded.{if_ok_then, long_by, started_end}
use Rattle.jpg_color.proofs.Products.{pixels_few}
use Rattle.jpg_color.proofs.RowRanges.{all_below, no_row, rows_cut, take_and_drop, take_rows, take_whole}
use Rattle.jpg_color.proofs.Sent.{Output, Sends, sends_same}
use Rattle.jpg_color.proofs.StripsFresh.{showable}
use Rattle.jpg_color.proofs.Windows.{all_some, ready_high, ready_more, ready_none}
use Rattle.jpg_spec.proofs.McuRows.RowsWhole.{map_below}
use Rattle.jpg_pnm_bmp.proofs.Written.{due_held}

abbrev pub drawing : ShownState → ImageInfo → List ℕ → Drawing
drawing strips i out = record { strips = strips; info = i; out = out }

-- A NEW ONE

pub told_of_head : (h : StripHead) (gray smooth : Bool) (s : ShownState) (i : ImageInfo) → IsStripHead h → display_fault (display_of h gray smooth) ≡ None → IsFreshRows h gray smooth s → i ≡ info_for h.frame h.colour h.jfif gray → IsToldOf s.display i
told_of_head h gray smooth s i head admitted fresh is =
    let d : Display = display_of h gray smooth in
    let shown : IsShowable d = showable h gray smooth head admitted in
    let j : ImageInfo = info_for h.frame h.colour h.jfif gray in
    let told : IsToldOf d j = record {
      valid = record {
        width_low = head.frame.width_low;
        width_high = head.frame.width_high;
        height_low = head.frame.height_low;
        height_high = head.frame.height_high;
        pixels = pixels_few d shown;
      };
      wide = refl;
      high = refl;
      long = long_by (shows_gray h.colour gray) h.frame.width j refl refl;
    }
    in
    subst (λ (x : Display). IsToldOf x i) (sym fresh.display) (subst (λ (x : ImageInfo). IsToldOf d x) (sym is) told)

-- THE ROWS OF A PICTURE

pub row_same : {d : Drawing} {M : Meaning} {gray smooth : Bool} → DrawsImage d M gray smooth → (y : ℕ)
    → row_of_blocks d.strips.display M.blocks y ≡ pixel_row M gray smooth y
row_same {d} {M} {gray} {smooth} h y =
    let x = d.strips.display in
    ap (λ (N : Meaning). shown_row x.colour N x.gray x.smooth y) (sym h.picture) ∙ ap (λ (c : Colour). shown_row c M x.gray x.smooth y) h.colour
    ∙ ap (λ g. shown_row (colour_of M) M g x.smooth y) h.as_gray ∙ ap (λ s. shown_row (colour_of M) M gray s y) h.as_smooth

pub ready_same : {d : Drawing} {M : Meaning} {gray smooth : Bool} → DrawsImage d M gray smooth → (m : ℕ)
    → rows_made_ready d.strips.display m ≡ rows_ready M gray smooth m
ready_same {d} {M} {gray} {smooth} h m =
    let x = d.strips.display in
    ap (λ (N : Meaning). ready N (needed x.colour x.gray) x.smooth (mcu_rows N) m) (sym h.picture) ∙ ap (λ (c : Colour). ready M (needed c x.gray) x.smooth (mcu_rows M) m) h.colour
    ∙ ap (λ g. ready M (needed (colour_of M) g) x.smooth (mcu_rows M) m) h.as_gray ∙ ap (λ s. ready M (needed (colour_of M) gray) s (mcu_rows M) m) h.as_smooth

pub all_same : (d : Drawing) (M : Meaning) (gray smooth : Bool) → DrawsImage d M gray smooth → all_rows d.strips.display ≡ mcu_rows M
all_same d M gray smooth h = ap (λ (N : Meaning). mcu_rows N) (sym h.picture)

pub high_same : {d : Drawing} {M : Meaning} {gray smooth : Bool} → DrawsImage d M gray smooth → d.strips.display.frame.height ≡ M.height
high_same h = ap (λ (N : Meaning). N.height) (sym h.picture)

-- one more MCU row makes more rows ready, and no more than all
pub record GoesUp (M : Meaning) (gray smooth : Bool) (m : ℕ) : Type 0 where
  pub more : rows_ready M gray smooth m ≤ rows_ready M gray smooth (m + 1)
  pub most : rows_ready M gray smooth (m + 1) ≤ M.height

pub goes_up : {d : Drawing} {M : Meaning} {gray smooth : Bool} (m : ℕ) → DrawsImage d M gray smooth → m < all_rows d.strips.display → GoesUp M gray smooth m
goes_up {d} {M} {gray} {smooth} m h lt =
    let x = d.strips.display in
    let here = ready_same h m in
    let above = ready_same h (m + 1) in
    record {
      more = both_sides (rows_made_ready x m) (rows_made_ready x (m + 1)) (rows_ready M gray smooth m) (rows_ready M gray smooth (m + 1))
          (ready_more x m h.showable lt) here above;
      most = both_sides (rows_made_ready x (m + 1)) x.frame.height (rows_ready M gray smooth (m + 1)) M.height
          (ready_high x (m + 1) h.showable (next m (all_rows x) lt)) above (high_same h);
    }
  where
    next : (a b : ℕ) → a < b → a + 1 ≤ b
    next a b l = omega (arith, l)

    both_sides : (a b c d : ℕ) → a ≤ b → a ≡ c → b ≡ d → c ≤ d
    both_sides a b c d l e f = omega (arith, l, e, f)

pub next_is : {M : Meaning} {gray smooth : Bool} {m : ℕ} → GoesUp M gray smooth m
    → next_rows M gray smooth m ≡ rows_from (pixel_row M gray smooth) (rows_ready M gray smooth m) (rows_ready M gray smooth (m + 1) - rows_ready M gray smooth m)
next_is {M} {gray} {smooth} {m} up = rows_cut (pixel_row M gray smooth) (rows_ready M gray smooth m) (rows_ready M gray smooth (m + 1)) M.height up.more up.most

pub rows_join : {M : Meaning} {gray smooth : Bool} {m : ℕ} → GoesUp M gray smooth m
    → first_image_rows M gray smooth m ++ next_rows M gray smooth m ≡ first_image_rows M gray smooth (m + 1)
rows_join {M} {gray} {smooth} {m} up =
    let f = pixel_row M gray smooth in
    let a = rows_ready M gray smooth m in
    let b = rows_ready M gray smooth (m + 1) in
    let first : first_image_rows M gray smooth m ≡ take a (first_image_rows M gray smooth (m + 1)) =
    take_rows f a M.height (through a b M.height up.more up.most) ∙ sym (take_rows f a b up.more) ∙ ap (take a) (sym (take_rows f b M.height up.most)) in
    ap (λ xs. xs ++ next_rows M gray smooth m) first ∙ take_and_drop (first_image_rows M gray smooth (m + 1)) a
  where
    through : (a b c : ℕ) → a ≤ b → b ≤ c → a ≤ c
    through a b c h l = omega (arith, h, l)

-- what is drawn still is it, whatever was taken and given of it
draws_still : {d new : Drawing} {M : Meaning} {gray smooth : Bool} → new.strips.display ≡ d.strips.display → new.info ≡ d.info
    → DrawsImage d M gray smooth → DrawsImage new M gray smooth
draws_still {d} {new} {M} same i h =
    record {
      showable = subst IsShowable (sym same) h.showable;
      picture = subst (λ (x : Display). M ≡ record (picture_of x M.blocks) { kept = M.kept }) (sym same) h.picture;
      colour = ap (λ (x : Display). x.colour) same ∙ h.colour;
      as_gray = ap (λ (x : Display). x.gray) same ∙ h.as_gray;
      as_smooth = ap (λ (x : Display). x.smooth) same ∙ h.as_smooth;
      info = i ∙ h.info;
    }

-- ITS BEGINNING

begun : {strips : ShownState} {i : ImageInfo} {out0 out : List ℕ} (e e2 : EndState) → IsShowable strips.display → IsNewDrawing (drawing strips i out0)
    → e2 ≡ end_at e.kind i [] → out ≡ out0 ++ first_piece e.kind i → BeginsDrawing (drawing strips i out0) e (drawing strips i out) e2
begun {strips} {i} {out0} {out} e e2 shown new at grown =
    let d = strips.display in
    let kinds : e2.kind ≡ e.kind = ap (λ (x : EndState). x.kind) at in
    record {
      strips = refl;
      info = refl;
      out = grown;
      due = record {
        given = new.given ∙ sym (ready_none d shown) ∙ ap (rows_made_ready d) (sym new.pushed);
        missing = subst (λ n. n < all_rows d) (sym new.pushed) (all_some d shown);
      };
      kind = kinds;
      end = record {
        told = ap (λ (x : EndState). x.info) at;
        taken = ap (λ (x : EndState). x.taken) at ∙ sym new.given;
        parts = ap (λ (x : EndState). x.parts) at;
        unfinished = ap (λ (x : EndState). x.done) at;
      };
      drawn = λ (M : Meaning) (gray smooth : Bool) (h : DrawsImage (drawing strips i out0) M gray smooth).
          (let none : rows_ready M gray smooth 0 ≡ 0 = sym (ready_same h 0) ∙ ready_none d shown in
          record {
            image = draws_still refl refl h;
            pushed = new.pushed;
            given = new.given ∙ sym none;
            stands = new.stands M.blocks;
            end = at ∙ ap (λ k. end_at k i []) (sym kinds) ∙ ap (λ (j : ImageInfo). end_at e2.kind j []) h.info
                ∙ ap (λ rows. end_at e2.kind (info M gray) rows) (sym (no_row (pixels M gray smooth) (rows_ready M gray smooth 0) none));
          });
    }

pub begins : {strips : ShownState} {i : ImageInfo} {out0 : List ℕ} (out : List ℕ) {old : Drawing} {e : EndState} (e2 : EndState) (result : Result (Unit {0}) NoMemory)
    → drawing strips i out0 ≡ old → IsShowable strips.display → IsNewDrawing old → e ≡ new_end e.kind → Starts e out0 i result e2 out
    → IfOk result (λ u. BeginsDrawing old e (drawing strips i out) e2)
begins out e2 (Err f) is shown new first h = tt
begins {strips} {i} out {e = e} e2 (Ok u) is shown new first h =
    subst (λ (x : Drawing). BeginsDrawing x e (drawing strips i out) e2) is
    (begun e e2 shown (subst IsNewDrawing (sym is) new) (h.0 ∙ started_end e i first) h.1)

-- ONE MORE MCU ROW

held_join : (kind : EndKind) (rows more : List (List ℕ)) → held_of kind rows ++ held_of kind more ≡ held_of kind (rows ++ more)
held_join Pnm rows more = refl
held_join Bmp rows more = refl
held_join Targa rows more = refl

end_with : (kind : EndKind) (i : ImageInfo) (rows more : List (List ℕ)) → with_rows (end_at kind i rows) more ≡ end_at kind i (rows ++ more)
end_with kind i rows more =
    ap (λ (h : List (List ℕ)). (let e : EndState = record { kind = kind; info = Some i; taken = length rows + length more; held = h; parts = 0; done = false } in e)) (held_join kind rows more)
    ∙ ap (λ (n : ℕ). (let e : EndState = record { kind = kind; info = Some i; taken = n; held = held_of kind (rows ++ more); parts = 0; done = false } in e)) (sym (length-append rows more))

-- a drawing and its image writer
pub record Canvas : Type 0 where
  pub drawing : Drawing
  pub end : EndState

goes_on : (a b : Canvas) {p : ShownState} {row : Coefs} → a.end.info ≡ Some a.drawing.info → IsPushed a.drawing.strips at_top row p
    → b.drawing.strips.display ≡ p.display → b.drawing.info ≡ a.drawing.info → AreGiven p a.end b.drawing.strips b.end
    → GoesOnDrawing a.drawing a.end b.drawing b.end
goes_on a b {p} told h d i g =
    let s = b.drawing.strips in
    record {
      pushed = g.pushed ∙ h.pushed;
      given = g.given ∙ ap (λ (x : Display). rows_made_ready x p.pushed) (sym d) ∙ ap (rows_made_ready s.display) (sym g.pushed);
      kind = g.kind;
      end = record { told = g.told ∙ told ∙ ap Some (sym i); taken = g.can.taken; parts = g.can.parts; unfinished = g.can.unfinished };
    }

pub stays : {s : ShownState} {i : ImageInfo} {out0 out : List ℕ} {old : Drawing} → drawing s i out0 ≡ old → StaysDrawn old (drawing s i out)
stays {s} {i} {out0} {out} is =
    subst (λ (x : Drawing). StaysDrawn x (drawing s i out)) is
    (record {
      strips = refl;
      info = refl;
      end = λ (e : EndState) (h : IsEndOf (drawing s i out0) e). record { told = h.told; taken = h.taken; parts = h.parts; unfinished = h.unfinished };
      drawn = λ (e : EndState) (M : Meaning) (gray smooth : Bool) (m : ℕ) (h : IsDrawnTo (drawing s i out0) e M gray smooth m).
          record { image = draws_still refl refl h.image; pushed = h.pushed; given = h.given; stands = h.stands; end = h.end };
    })

-- the rows that are pending are those that the MCU row adds
due_rows : {d : Drawing} {e : EndState} (p : ShownState) {M : Meaning} {gray smooth : Bool} {m : ℕ} → IsDrawnTo d e M gray smooth m
    → p.display ≡ d.strips.display → p.given ≡ d.strips.given → GoesUp M gray smooth m
    → rows_due p M.blocks (rows_ready M gray smooth (m + 1)) ≡ next_rows M gray smooth m
due_rows {d} p {M} {gray} {smooth} {m} h same given up =
    let a = rows_ready M gray smooth m in
    let b = rows_ready M gray smooth (m + 1) in
    let rows = row_of_blocks d.strips.display M.blocks in
    ap (λ (x : Display). rows_from (row_of_blocks x M.blocks) p.given (b - p.given)) same
    ∙ ap (λ g. rows_from rows g (b - g)) (given ∙ h.given)
    ∙ map_below (λ (y : ℕ). rows (a + y)) (λ (y : ℕ). pixel_row M gray smooth (a + y)) (b - a) (λ (y : ℕ) (lt : y < b - a). row_same h.image (a + y))
    ∙ sym (next_is up)

-- what the next MCU row is to one picture
record AddsRow (a : Canvas) (p : ShownState) (M : Meaning) (gray smooth : Bool) (m : ℕ) : Type 0 where
  drawn : IsDrawnTo a.drawing a.end M gray smooth m
  up : GoesUp M gray smooth m
  stands : RepresentsPicture p M.blocks
  ready : rows_made_ready p.display p.pushed ≡ rows_ready M gray smooth (m + 1)
  due : rows_due p M.blocks (rows_made_ready p.display p.pushed) ≡ next_rows M gray smooth m

adds_row : {a : Canvas} {p : ShownState} {row : Coefs} {M : Meaning} {gray smooth : Bool} {m : ℕ} → IsPushed a.drawing.strips at_top row p
    → a.drawing.strips.pushed < all_rows a.drawing.strips.display → IsDrawnTo a.drawing a.end M gray smooth m
    → AreMcuRow a.drawing.strips.display m at_top row M.blocks → AddsRow a p M gray smooth m
adds_row {a} {p} {row} {M} {gray} {smooth} {m} k missing h mcu =
    let s = a.drawing.strips in
    let up : GoesUp M gray smooth m = goes_up m h.image (subst (λ n. n < all_rows s.display) h.pushed missing) in
    let ready : rows_made_ready p.display p.pushed ≡ rows_ready M gray smooth (m + 1) =
    ap (λ (d : Display). rows_made_ready d p.pushed) k.display ∙ ap (rows_made_ready s.display) (k.pushed ∙ ap (λ t. t + 1) h.pushed) ∙ ready_same h.image (m + 1)
    in
    record {
      drawn = h;
      up = up;
      stands = k.stands M.blocks h.stands (subst (λ n. AreMcuRow s.display n at_top row M.blocks) (sym h.pushed) mcu);
      ready = ready;
      due = ap (rows_due p M.blocks) ready ∙ due_rows p h k.display k.given up;
    }

drawn_more : (a b : Canvas) {p : ShownState} {row : Coefs} {M : Meaning} {gray smooth : Bool} {m : ℕ} → AddsRow a p M gray smooth m
    → IsPushed a.drawing.strips at_top row p → b.drawing.strips.display ≡ p.display → b.drawing.info ≡ a.drawing.info
    → AreGiven p a.end b.drawing.strips b.end → IsDrawnTo b.drawing b.end M gray smooth (m + 1)
drawn_more a b {p} {M = M} {gray} {smooth} {m} x k d i g =
    let h = x.drawn in
    let next = next_rows M gray smooth m in
    record {
      image = draws_still (d ∙ k.display) i h.image;
      pushed = g.pushed ∙ k.pushed ∙ ap (λ t. t + 1) h.pushed;
      given = g.given ∙ x.ready;
      stands = g.stands M.blocks x.stands;
      end = g.rows M.blocks x.stands ∙ ap (with_rows a.end) (ap (rows_due p M.blocks) g.given ∙ x.due)
          ∙ ap (λ (y : EndState). with_rows y next) h.end ∙ end_with a.end.kind (info M gray) (first_image_rows M gray smooth m) next
          ∙ ap (λ rows. end_at a.end.kind (info M gray) rows) (rows_join x.up)
          ∙ ap (λ k. end_at k (info M gray) (first_image_rows M gray smooth (m + 1))) (sym g.kind);
    }

pub draws_row : {s0 s1 : DeskState} {a b : Canvas} {old : Drawing} {p : ShownState} {row : Coefs} {result : Result (Unit {0}) DecodeStop} → a.drawing ≡ old
    → IsNextRowDue old.strips → IsEndOf old a.end → IsPushed a.drawing.strips at_top row p
    → SendsReady s0 p a.end a.drawing.out result b.drawing.strips b.end b.drawing.out s1 → b.drawing.info ≡ a.drawing.info
    → DrawsRow s0 old a.end row result b.drawing b.end s1
draws_row {s0} {s1} {a} {b} {old} {p} {row} {result} is due end k g i =
    let s = a.drawing.strips in
    let told : a.end.info ≡ Some a.drawing.info = end.told ∙ ap (λ (x : Drawing). Some x.info) (sym is) in
    let missing : s.pushed < all_rows s.display = subst (λ (x : Drawing). x.strips.pushed < all_rows x.strips.display) (sym is) due.missing in
    subst (λ (x : Drawing). DrawsRow s0 x a.end row result b.drawing b.end s1) is
    (record {
      only = g.only;
      display = g.display ∙ k.display;
      info = i;
      goes_on = if_ok_then result (goes_on a b told k g.display i) g.given;
      drawn = λ (M : Meaning) (gray smooth : Bool) (m : ℕ) (h : IsDrawnTo a.drawing a.end M gray smooth m) (mcu : AreMcuRow s.display m at_top row M.blocks).
          (let x : AddsRow a p M gray smooth m = adds_row k missing h mcu in
          let next : row_pieces a.end (rows_due p M.blocks (rows_made_ready p.display p.pushed)) ≡ next_text a.end.kind M gray smooth m =
          ap (row_pieces a.end) x.due ∙ ap (λ (j : ImageInfo). flat_map (row_piece a.end.kind j) (next_rows M gray smooth m)) (ap info_of h.end)
          in
          record { sent = sends_same next (g.sent M.blocks x.stands); drawn = if_ok_then result (drawn_more a b x k g.display i) g.given });
    })

-- ITS END

pub all_ready : (M : Meaning) (gray smooth : Bool) → rows_ready M gray smooth (mcu_rows M) ≡ M.height
all_ready M gray smooth =
    ap (λ b. if b then M.height else if any_of (λ i. has_far_rows (stretch_of M smooth i)) (below (needed (colour_of M) gray)) then lines M * mcu_rows M - 1 else lines M * mcu_rows M)
    (same_itself (mcu_rows M))

pub all_drawn : (M : Meaning) (gray smooth : Bool) → first_image_rows M gray smooth (mcu_rows M) ≡ pixels M gray smooth
all_drawn M gray smooth = ap (λ n. take n (pixels M gray smooth)) (all_ready M gray smooth) ∙ take_whole (pixels M gray smooth) M.height (all_below (pixel_row M gray smooth) M.height)

rest_is : {d : Drawing} {e : EndState} {M : Meaning} {gray smooth : Bool} → IsDrawnTo d e M gray smooth (mcu_rows M)
    → end_parts e ≡ rest_text e.kind M gray smooth
rest_is {e = e} {M} {gray} {smooth} h =
    ap end_parts (h.end ∙ ap (λ rows. end_at e.kind (info M gray) rows) (all_drawn M gray smooth)) ∙ ap (λ parts. flat_map (λ part. part) parts) (due_held e.kind (info M gray) (pixels M gray smooth))

pub ends : {a b : Output} {s : ShownState} {i : ImageInfo} {old : Drawing} {e e2 : EndState} {result : Result (Unit {0}) DecodeStop}
    → drawing s i a.waits ≡ old → Sends a (end_parts e) result b → IfOk result (λ u. b.waits ≡ []) → IfOk result (λ u. e2 ≡ finished e)
    → EndsDrawing a.desk old e result (drawing s i b.waits) e2 b.desk
ends {a} {b} {s} {i} {e = e} {e2} {result} is sent none done =
    subst (λ (x : Drawing). EndsDrawing a.desk x e result (drawing s i b.waits) e2 b.desk) is
    (record {
      strips = refl;
      info = refl;
      sent = sent;
      out = none;
      end = done;
      drawn = λ (M : Meaning) (gray smooth : Bool) (h : IsDrawnTo (drawing s i a.waits) e M gray smooth (mcu_rows M)). sends_same (rest_is h) sent;
    })
