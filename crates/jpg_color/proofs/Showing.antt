-- The rows of a picture are passed to an image writer one after another.
use Rattle.std.proofs.Common.{◌≡◌, ℕ, zero, suc, ◌+◌, ◌-◌, ◌<◌, ◌≤◌, true, false, List, [], ◌∷◌, ◌++◌, length, Some, Result, Ok, Err, refl, sym, ap, ◌∙◌, subst, arith}
use Rattle.std.proofs.lemmas.List.{append-nil, append_assoc, length-append, length-map, map-append}
use Rattle.std.proofs.lemmas.Grind.{flat_map-append}
use Rattle.jpg_spec.specs.Lists.{below}
use Rattle.jpg_spec_image.specs.ImageText.{row_piece}
use Rattle.jpg_spec_image.specs.declared.image.EndKind.{EndKind}
use Rattle.jpg_spec_image.specs.declared.image.ImageInfo.{ImageInfo}
use Rattle.jpg_spec.proofs.Basics.Common.{length_below}
use Rattle.jpg_coefs.specs.Picture.{Picture as Coefs}
use Rattle.jpg_pnm_bmp.specs.EndState.{EndState, CanTakeRow, held_of, info_of, with_row}
use Rattle.jpg_color.specs.Shown.{Display, row_length, row_of_blocks}
use Rattle.jpg_color.specs.PictureRows.{RowsLeft, RowGoesOn, IsAfter, shown_blocks}
use Rattle.jpg_color.specs.DecodeRows.{IsEndFor, end_at, row_pieces, rows_until, rows_in_all}
use Rattle.jpg_color.specs.declared.decode.DecodeStop.{DecodeStop}
use Rattle.jpg_color.proofs.Sent.{PassesRow, PassesRows, Sends, Writing, sends_nothing, sends_then, sends_stop, sends_same}
use Rattle.jpg_pnm_bmp.proofs.Written.{more_held}

-- the first n rows were passed
pub record IsShowing (v0 : Writing) (r0 : RowsLeft) (v : Writing) (r : RowsLeft) : Type 0 where
  pub for_end : IsEndFor v0.end r0
  pub display : r.strips.display ≡ r0.strips.display
  pub coefs : r.coefs ≡ r0.coefs
  pub few : r.strips.given ≤ r0.strips.display.frame.height
  pub end_is : v.end ≡ end_at v0.end.kind (info_of v0.end) (rows_until r0 r.strips.given)
  pub created : v.out.desk.output_created ≡ true
  pub sent : Sends v0.out (row_pieces v0.end (rows_until r0 r.strips.given)) (Ok tt) v.out

pub shows_none : {v : Writing} {r : RowsLeft} → IsEndFor v.end r → v.out.desk.output_created ≡ true → IsShowing v r v r
shows_none {v} {r} fits created =
    let none : 0 ≡ r.strips.given = sym fits.rows.first in
    record {
      for_end = fits;
      display = refl;
      coefs = refl;
      few = omega (arith, fits.rows.first);
      end_is = fits.started ∙ ap (λ n. end_at v.end.kind (info_of v.end) (rows_until r n)) none;
      created = created;
      sent = subst (λ n. Sends v.out (row_pieces v.end (rows_until r n)) (Ok tt) v.out) none sends_nothing;
    }

-- ONE MORE ROW

long_rows : (r : RowsLeft) (n : ℕ) → length (rows_until r n) ≡ n
long_rows r n = length-map (below n) (row_of_blocks r.strips.display (shown_blocks r.strips.display r.coefs)) ∙ length_below n

more_rows : (r : RowsLeft) (n : ℕ) → rows_until r (n + 1) ≡ rows_until r n ++ row_of_blocks r.strips.display (shown_blocks r.strips.display r.coefs) n ∷ []
more_rows r n =
    let one : n + 1 ≡ suc n = omega arith in
    ap (λ m. rows_until r m) one ∙ map-append (row_of_blocks r.strips.display (shown_blocks r.strips.display r.coefs)) (below n) (n ∷ [])

taken_more : (kind : EndKind) (info : ImageInfo) (rows : List (List ℕ)) (row : List ℕ) → with_row (end_at kind info rows) row ≡ end_at kind info (rows ++ row ∷ [])
taken_more kind info rows row =
    ap (λ (h : List (List ℕ)). (let e : EndState = record { kind = kind; info = Some info; taken = length rows + 1; held = h; parts = 0; done = false } in e)) (more_held kind rows row)
    ∙ ap (λ (n : ℕ). (let e : EndState = record { kind = kind; info = Some info; taken = n; held = held_of kind (rows ++ row ∷ []); parts = 0; done = false } in e)) (sym (length-append rows (row ∷ [])))

-- the row that is passed
row_is : {v0 v : Writing} {r0 r r1 : RowsLeft} → IsShowing v0 r0 v r → RowGoesOn r r1
    → r1.strips.last ≡ row_of_blocks r0.strips.display (shown_blocks r0.strips.display r0.coefs) r.strips.given
row_is {r0 = r0} {r = r} h g =
    g.value ∙ ap (λ (x : Display). row_of_blocks x (shown_blocks x r.coefs) r.strips.given) h.display
    ∙ ap (λ (x : Coefs). row_of_blocks r0.strips.display (shown_blocks r0.strips.display x) r.strips.given) h.coefs

high_same : {v0 v : Writing} {r0 r : RowsLeft} → IsShowing v0 r0 v r → r.strips.display.frame.height ≡ r0.strips.display.frame.height
high_same h = ap (λ (d : Display). d.frame.height) h.display

pub row_fits : {v0 v : Writing} {r0 r r1 : RowsLeft} → IsShowing v0 r0 v r → RowGoesOn r r1 → CanTakeRow v.end r1.strips.last
row_fits {r0 = r0} {r = r} {r1 = r1} h g =
    subst (λ (x : EndState). CanTakeRow x r1.strips.last) (sym h.end_is)
    (record {
      started = refl;
      missing = omega (arith, long_rows r0 r.strips.given, g.early, high_same h, h.for_end.rows.high);
      long = g.long ∙ ap row_length h.display ∙ sym h.for_end.rows.long;
      unfinished = refl;
      before = refl;
    })

pub pieces_more : (e : EndState) (rows : List (List ℕ)) (row : List ℕ) → row_pieces e rows ++ row_piece e.kind (info_of e) row ≡ row_pieces e (rows ++ row ∷ [])
pieces_more e rows row =
    sym (flat_map-append (row_piece e.kind (info_of e)) rows (row ∷ []) ∙ ap (λ x. row_pieces e rows ++ x) (append-nil (row_piece e.kind (info_of e) row)))

rows_with : {v0 v : Writing} {r0 r r1 : RowsLeft} → IsShowing v0 r0 v r → RowGoesOn r r1
    → rows_until r0 r.strips.given ++ r1.strips.last ∷ [] ≡ rows_until r0 r1.strips.given
rows_with {r0 = r0} {r = r} h g =
    ap (λ (x : List ℕ). rows_until r0 r.strips.given ++ x ∷ []) (row_is h g) ∙ sym (more_rows r0 r.strips.given) ∙ ap (rows_until r0) (sym g.given)

-- and it was sent, or sending stopped
one_more : {v0 v v2 : Writing} {r0 r r1 : RowsLeft} {result : Result (Unit {0}) DecodeStop} → IsShowing v0 r0 v r → RowGoesOn r r1
    → PassesRow v r1.strips.last result v2 → Sends v0.out (row_pieces v0.end (rows_until r0 r1.strips.given)) result v2.out
one_more {v0} {r0 = r0} {r = r} {r1 = r1} h g k =
    sends_same (pieces_more v0.end (rows_until r0 r.strips.given) r1.strips.last ∙ ap (row_pieces v0.end) (rows_with h g))
    (sends_then h.sent (sends_same (ap (λ (x : EndState). row_piece x.kind (info_of x) r1.strips.last) h.end_is) k.sent))

pub row_sent : {v0 v v2 : Writing} {r0 r r1 : RowsLeft} → IsShowing v0 r0 v r → RowGoesOn r r1 → PassesRow v r1.strips.last (Ok tt) v2 → IsShowing v0 r0 v2 r1
row_sent {v0} {r0 = r0} {r = r} {r1 = r1} h g k =
    record {
      for_end = h.for_end;
      display = g.display ∙ h.display;
      coefs = g.coefs ∙ h.coefs;
      few = omega (arith, g.early, g.given, high_same h);
      end_is = k.end ∙ ap (λ (x : EndState). with_row x r1.strips.last) h.end_is
          ∙ taken_more v0.end.kind (info_of v0.end) (rows_until r0 r.strips.given) r1.strips.last
          ∙ ap (λ x. end_at v0.end.kind (info_of v0.end) x) (rows_with h g);
      created = k.sent.only.output_created ∙ h.created;
      sent = one_more h g k;
    }

-- THE LAST ROW, AND A STOP

pub rows_sent : {v0 v : Writing} {r0 r r1 : RowsLeft} → IsShowing v0 r0 v r → IsAfter r r1 → PassesRows v0 (rows_in_all r0) (Ok tt) v
rows_sent {v0} {v} {r0} {r} h b =
    let all : r.strips.given ≡ r0.strips.display.frame.height = b.all ∙ high_same h in
    record {
      sent = subst (λ n. Sends v0.out (row_pieces v0.end (rows_until r0 n)) (Ok tt) v.out) all h.sent;
      end = h.end_is ∙ ap (λ n. end_at v0.end.kind (info_of v0.end) (rows_until r0 n)) all;
    }

rows_split : (r : RowsLeft) (n k : ℕ) → (more : List (List ℕ)) × (rows_until r (n + k) ≡ rows_until r n ++ more)
rows_split r n zero = ([], ap (λ m. rows_until r m) (let e : n + 0 ≡ n = omega arith in e) ∙ sym (append-nil (rows_until r n)))
rows_split r n (suc k) =
    let less = rows_split r n k in
    let row : List ℕ = row_of_blocks r.strips.display (shown_blocks r.strips.display r.coefs) (n + k) in
    (less.0 ++ row ∷ [], ap (λ m. rows_until r m) (let e : n + suc k ≡ n + k + 1 = omega arith in e) ∙ more_rows r (n + k) ∙ ap (λ x. x ++ row ∷ []) less.1 ∙ append_assoc (rows_until r n) less.0 (row ∷ []))

pub rows_stopped : {v0 v v2 : Writing} {r0 r r1 : RowsLeft} {f : DecodeStop} → IsShowing v0 r0 v r → RowGoesOn r r1
    → PassesRow v r1.strips.last (Err f) v2 → PassesRows v0 (rows_in_all r0) (Err f) v2
rows_stopped {v0} {r0 = r0} {r = r} {r1 = r1} h g k =
    let n = r1.strips.given in
    let high = r0.strips.display.frame.height in
    let count : n + (high - n) ≡ high = omega (arith, g.early, g.given, high_same h) in
    let split = rows_split r0 n (high - n) in
    let pieces : row_pieces v0.end (rows_until r0 n) ++ row_pieces v0.end split.0 ≡ row_pieces v0.end (rows_in_all r0) =
    sym (flat_map-append (row_piece v0.end.kind (info_of v0.end)) (rows_until r0 n) split.0)
    ∙ ap (row_pieces v0.end) (sym split.1 ∙ ap (rows_until r0) count)
    in
    record { sent = sends_same pieces (sends_stop (row_pieces v0.end split.0) (one_more h g k)); end = tt }

-- the same row in another way
pub sent_so : {v w : Writing} {row other : List ℕ} {r : Result (Unit {0}) DecodeStop} → row ≡ other → PassesRow v row r w → PassesRow v other r w
sent_so {v} {w} {r = r} is h = subst (λ (x : List ℕ). PassesRow v x r w) is h

pub fits_so : {e : EndState} {row other : List ℕ} → row ≡ other → CanTakeRow e other → CanTakeRow e row
fits_so {e} is h = subst (λ (x : List ℕ). CanTakeRow e x) (sym is) h

pub fewer_rows : {r r1 : RowsLeft} → RowGoesOn r r1 → r1.strips.display.frame.height - r1.strips.given < r.strips.display.frame.height - r.strips.given
fewer_rows {r} {r1} g =
    let same : r1.strips.display.frame.height ≡ r.strips.display.frame.height = ap (λ (d : Display). d.frame.height) g.display in
    omega (arith, same, g.early, g.given)
