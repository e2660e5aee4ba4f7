-- A complete picture is written as an image file.
use Rattle.std.proofs.Common.{◌≡◌, ℕ, ◌*◌, Bool, true, false, if◌then◌else◌, List, [], ◌++◌, length, map, flat_map, Some, None, Result, Ok, Err, refl, sym, ap, ◌∙◌, subst}
use Rattle.std.proofs.lemmas.List.{append-nil, length-map}
use Rattle.std.specs.Prelude.{IfOk}
use Rattle.jpg_base.specs.Desk.{DeskState, AppendsLast}
use Rattle.jpg_spec.specs.Lists.{below}
use Rattle.jpg_spec_image.specs.ImageText.{row_bytes, row_piece, first_piece, rest, end_text}
use Rattle.jpg_spec.specs.Meaning.{PictureComponent, colour_of}
use Rattle.jpg_spec_image.specs.Pixels.{info, out_fault, out_fault_of, pixel_row, pixels, shown_row}
use Rattle.jpg_spec.specs.declared.frame.Colour.{Colour}
use Rattle.jpg_spec.specs.declared.frame.Component.{Component}
use Rattle.jpg_spec_image.specs.declared.image.EndKind.{EndKind}
use Rattle.jpg_spec_image.specs.declared.image.ImageInfo.{ImageInfo}
use Rattle.jpg_spec_image.specs.declared.image.ImageKind.TheVariants as kind
use Rattle.jpg_spec.specs.declared.jfif.Jfif.{Jfif}
use Rattle.jpg_spec.proofs.Basics.Common.{length_below}
use Rattle.jpg_coefs.specs.Picture.{Picture as Coefs}
use Rattle.jpg_file.specs.Read.PictureKept.{component_view}
use Rattle.jpg_file.specs.Read.PictureRead.{picture_meaning}
use Rattle.jpg_file.specs.declared.read.picture.Picture.{Picture}
use Rattle.jpg_file.proofs.ByRow.StripBegin.{colours_of_picture}
use Rattle.jpg_pnm_bmp.specs.EndState.{EndState, CanFinish, IsImageInfo, info_of, new_end, started}
use Rattle.jpg_pnm_bmp.proofs.SomeBytes.{text_some}
use Rattle.jpg_color.specs.Shown.{Display, IsShowable, display_fault, factors_of, row_of_blocks}
use Rattle.jpg_color.specs.PictureRows.{RowsLeft, IsFirstRow, display_in, shown_blocks}
use Rattle.jpg_color.specs.DecodeRows.{AreRowsOf, Decodes, end_at, end_parts, finished, finished_end, row_pieces, rows_in_all, info_for}
use Rattle.jpg_color.specs.declared.decode.DecodeStop.{DecodeStop}
use Rattle.jpg_color.specs.declared.decode.DecodeStop.TheVariants as stop
use Rattle.jpg_spec.proofs.Basics.Rows.{map_map}
use Rattle.jpg_color.proofs.Coverage.{parsed_numbers}
use Rattle.jpg_color.proofs.Products.{pixels_few}
use Rattle.jpg_color.proofs.Sent.{Output, PassesRows, Sends, Writing, sends_none, sends_piece, sends_rest, sends_same, sends_stop, sends_then}
use Rattle.jpg_spec.proofs.McuRows.RowsWhole.{map_below}
use Rattle.jpg_pnm_bmp.proofs.Written.{none_held, due_held}

-- WHAT IS DISPLAYED

pub factors_same : (p : Picture) → map (λ c. (c.h, c.v)) (picture_meaning p).components ≡ factors_of p.frame
factors_same p =
    map_map (λ (c : PictureComponent). (c.h, c.v)) (component_view p.frame p.quants.items) (below (length p.frame.components)) ∙ parsed_numbers p.frame (λ (c : Component). (c.h, c.v))

pub admits_display : (p : Picture) (gray smooth : Bool) → out_fault gray (picture_meaning p) ≡ None → display_fault (display_in p gray smooth) ≡ None
admits_display p gray smooth none =
    ap (λ f. out_fault_of p.frame.precision p.colour gray f) (sym (factors_same p))
    ∙ ap (λ c. out_fault_of p.frame.precision c gray (map (λ c. (c.h, c.v)) (picture_meaning p).components)) p.keeps.colour ∙ none

pub is_showable : (p : Picture) (gray smooth : Bool) → out_fault gray (picture_meaning p) ≡ None → IsShowable (display_in p gray smooth)
is_showable p gray smooth none = record { frame = p.keeps.frame; tables = p.keeps.tables; colour = colours_of_picture p; admitted = admits_display p gray smooth none }

pub image_info : (p : Picture) (gray : Bool) → out_fault gray (picture_meaning p) ≡ None → IsImageInfo (info (picture_meaning p) gray)
image_info p gray none =
    let is = p.keeps in
    record {
      width_low = is.frame.width_low;
      width_high = is.frame.width_high;
      height_low = is.frame.height_low;
      height_high = is.frame.height_high;
      pixels = pixels_few (display_in p gray true) (is_showable p gray true none);
    }

pub told_of : (p : Picture) (gray : Bool) → info_for p.frame p.colour p.jfif gray ≡ info (picture_meaning p) gray
told_of p gray =
    ap (λ (c : Colour). info_for p.frame c p.jfif gray) p.keeps.colour ∙ ap (λ (j : Jfif). info_for p.frame (colour_of (picture_meaning p)) j gray) p.keeps.jfif

-- AN IMAGE WRITER THAT WAS STARTED

pub started_end : (e : EndState) (info : ImageInfo) → e ≡ new_end e.kind → started e info ≡ end_at e.kind info []
started_end e info new =
    ap (λ (x : EndState). started x info) new
    ∙ ap (λ (h : List (List ℕ)). (let x : EndState = record { kind = e.kind; info = Some info; taken = 0; held = h; parts = 0; done = false } in x)) (none_held e.kind)

pub long_by : (b : Bool) (width : ℕ) (i : ImageInfo) → i.width ≡ width → i.kind ≡ (if b then kind.Gray else kind.Rgb) → row_bytes i ≡ (if b then width else 3 * width)
long_by true width i w k = ap (λ n. row_bytes (record i { kind = n })) k ∙ w
long_by false width i w k = ap (λ n. row_bytes (record i { kind = n })) k ∙ ap (λ n. 3 * n) w

-- THE TEXT

same_row : (p : Picture) (gray smooth : Bool) (y : ℕ) → row_of_blocks (display_in p gray smooth) (shown_blocks (display_in p gray smooth) p.coefs) y ≡ pixel_row (picture_meaning p) gray smooth y
same_row p gray smooth y = ap (λ c. shown_row c (picture_meaning p) gray smooth y) p.keeps.colour

pub all_pixels : (p : Picture) (gray smooth : Bool) (r : RowsLeft) → IsFirstRow p gray smooth r → rows_in_all r ≡ pixels (picture_meaning p) gray smooth
all_pixels p gray smooth r first =
    let d = display_in p gray smooth in
    let all : (x : Display) (q : Coefs) → List (List ℕ) = λ (x : Display) (q : Coefs). map (row_of_blocks x (shown_blocks x q)) (below x.frame.height) in
    ap (λ (x : Display). all x r.coefs) first.display ∙ ap (λ (q : Coefs). all d q) first.coefs
    ∙ map_below (row_of_blocks d (shown_blocks d p.coefs)) (pixel_row (picture_meaning p) gray smooth) p.frame.height (λ y lt. same_row p gray smooth y)

long_rows : (r : RowsLeft) → length (rows_in_all r) ≡ r.strips.display.frame.height
long_rows r =
    let d = r.strips.display in
    length-map (below d.frame.height) (row_of_blocks d (shown_blocks d r.coefs)) ∙ length_below d.frame.height

pub can_finish : {i : ImageInfo} (e : EndState) {e1 e2 : EndState} {r : RowsLeft} → AreRowsOf i r → e1 ≡ started e i → e2 ≡ end_at e1.kind (info_of e1) (rows_in_all r)
    → CanFinish e2
can_finish e {r = r} rows now at =
    subst CanFinish (sym at) (record { started = refl; all = long_rows r ∙ sym rows.high ∙ sym (ap (λ (x : EndState). (info_of x).height) now); before = refl })

-- one for an output for which nothing waited
pub record IsBegun (i : ImageInfo) (e : EndState) (v : Writing) : Type 0 where
  pub end : v.end ≡ started e i
  pub waits : v.out.waits ≡ [] ++ first_piece e.kind i

pub is_begun : {i : ImageInfo} (e : EndState) {v : Writing} {old : List ℕ} → old ≡ [] → (v.end ≡ started e i) × (v.out.waits ≡ old ++ first_piece e.kind i)
    → IsBegun i e v
is_begun {i} e none h = record { end = h.0; waits = h.1 ∙ ap (λ o. o ++ first_piece e.kind i) none }

-- the parts after the rows are those of the image
parts_same : {i : ImageInfo} {e : EndState} {v : Writing} {e2 : EndState} (rows : List (List ℕ)) → IsBegun i e v → e2 ≡ end_at v.end.kind (info_of v.end) rows
    → end_parts e2 ≡ flat_map (λ part. part) (rest e.kind i rows)
parts_same {i} {e} rows b at =
    ap end_parts at ∙ ap (λ (x : EndState). end_parts (end_at x.kind (info_of x) rows)) b.end ∙ ap (λ parts. flat_map (λ part. part) parts) (due_held e.kind i rows)

-- WHAT WAS WRITTEN

abbrev none_waits : DeskState → Output
none_waits s = record { desk = s; waits = [] }

-- nothing, if there is no memory before that
pub decodes_none : {s : DeskState} (kind : EndKind) (i : ImageInfo) (rows : List (List ℕ)) → Decodes s (end_text kind i rows) (Err stop.NoMemory) s
decodes_none {s} kind i rows =
    let h : Sends (none_waits s) (end_text kind i rows) (Err stop.NoMemory) (none_waits s) = sends_none (text_some kind i rows) in
    record { only = h.only; bytes = h.bytes }

decodes_stop : {s : DeskState} {b : Output} {due : List ℕ} {f : DecodeStop} → Sends (none_waits s) due (Err f) b → Decodes s due (Err f) b.desk
decodes_stop {f = stop.NoMemory} h = record { only = h.only; bytes = h.bytes }
decodes_stop {f = stop.WriteFault} h = record { only = h.only; bytes = h.bytes }

by_result : {s : DeskState} {b : Output} {due : List ℕ} {r : Result (Unit {0}) DecodeStop} → Sends (none_waits s) due r b → IfOk r (λ u. b.waits ≡ []) → Decodes s due r b.desk
by_result {s} {b} {r = Ok u} h none =
    let all = h.bytes.2 ∙ ap (λ n. h.bytes.0 ++ n) none ∙ append-nil h.bytes.0 in
    record { only = h.only; bytes = subst (λ x. AppendsLast s.outputs x b.desk.outputs) (sym all) h.bytes.1 }
by_result {r = Err f} h none = decodes_stop h

-- the first piece of the file and those of its rows
rows_so_far : {i : ImageInfo} {e : EndState} {v w : Writing} {rows : List (List ℕ)} {r : Result (Unit {0}) DecodeStop} → IsBegun i e v → PassesRows v rows r w
    → Sends (none_waits v.out.desk) (first_piece e.kind i ++ flat_map (row_piece e.kind i) rows) r w.out
rows_so_far {i} {e} {v} {rows = rows} b h =
    let first : Sends (none_waits v.out.desk) (first_piece e.kind i) (Ok tt) v.out = sends_piece [] (first_piece e.kind i) b.waits in
    sends_then first (sends_same (ap (λ (x : EndState). row_pieces x rows) b.end) h.sent)

pub rows_stop : {i : ImageInfo} {e : EndState} {v w : Writing} {rows : List (List ℕ)} {f : DecodeStop} → IsBegun i e v → PassesRows v rows (Err f) w
    → Decodes v.out.desk (end_text e.kind i rows) (Err f) w.out.desk
rows_stop {i} {e} {rows = rows} b h = decodes_stop (sends_stop (flat_map (λ part. part) (rest e.kind i rows)) (rows_so_far b h))

-- the complete file
text_so_far : {i : ImageInfo} {e : EndState} {v w : Writing} {o : Output} {rows : List (List ℕ)} {r : Result (Unit {0}) DecodeStop} → IsBegun i e v
    → PassesRows v rows (Ok tt) w → Sends w.out (end_parts w.end) r o → Sends (none_waits v.out.desk) (end_text e.kind i rows) r o
text_so_far {rows = rows} b h k = sends_then (rows_so_far b h) (sends_same (parts_same rows b h.end) k)

pub end_stop : {i : ImageInfo} {e : EndState} {v w : Writing} {o : Output} {rows : List (List ℕ)} {f : DecodeStop} → IsBegun i e v
    → PassesRows v rows (Ok tt) w → Sends w.out (end_parts w.end) (Err f) o → Decodes v.out.desk (end_text e.kind i rows) (Err f) o.desk
end_stop b h k = decodes_stop (text_so_far b h k)

pub image_sent : {i : ImageInfo} {e : EndState} {v w : Writing} {o p : Output} {rows : List (List ℕ)} {r : Result (Unit {0}) DecodeStop} → IsBegun i e v
    → PassesRows v rows (Ok tt) w → Sends w.out (end_parts w.end) (Ok tt) o → Sends o [] r p → IfOk r (λ u. p.waits ≡ [])
    → Decodes v.out.desk (end_text e.kind i rows) r p.desk
image_sent b h k l none = by_result (sends_rest (text_so_far b h k) l) none

-- It is that of the picture's image.
pub of_picture : {X : Type 0} (of : ImageInfo → List (List ℕ) → X) {p : Picture} {gray smooth : Bool} {i : ImageInfo} {r : RowsLeft} → i ≡ info (picture_meaning p) gray
    → IsFirstRow p gray smooth r → of i (rows_in_all r) ≡ of (info (picture_meaning p) gray) (pixels (picture_meaning p) gray smooth)
of_picture of {p} {gray} {smooth} {r = r} said first =
    ap (λ (j : ImageInfo). of j (rows_in_all r)) said ∙ ap (λ (rows : List (List ℕ)). of (info (picture_meaning p) gray) rows) (all_pixels p gray smooth r first)

-- THE IMAGE WRITER, if all was written

pub if_ok : {E P : Type 0} (r : Result (Unit {0}) E) → P → IfOk r (λ u. P)
if_ok (Ok u) h = h
if_ok (Err e) h = tt

pub if_ok_then : {E P Q : Type 0} (r : Result (Unit {0}) E) → (P → Q) → IfOk r (λ u. P) → IfOk r (λ u. Q)
if_ok_then (Ok u) f h = f h
if_ok_then (Err e) f h = tt

pub image_finished : {i : ImageInfo} (e : EndState) {e1 e2 e3 : EndState} (rows : List (List ℕ)) (r : Result (Unit {0}) DecodeStop) → e1 ≡ started e i
    → e2 ≡ end_at e1.kind (info_of e1) rows → e3 ≡ finished e2 → IfOk r (λ u. e3 ≡ finished_end e.kind i rows)
image_finished e rows r now taken done = if_ok r (done ∙ ap finished (taken ∙ ap (λ (x : EndState). end_at x.kind (info_of x) rows) now))
