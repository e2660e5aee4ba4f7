-- All rows that are ready are passed to an image writer one after another.
use Rattle.std.proofs.Common.{◌≡◌, ℕ, ◌+◌, ◌<◌, ◌≤◌, true, false, List, [], ◌∷◌, ◌++◌, length, is_some, Option, Result, Ok, Err, refl, sym, ap, ◌∙◌, subst, arith}
use Rattle.std.proofs.lemmas.List.{append-nil, append_assoc, length-append}
use Rattle.std.proofs.lemmas.Grind.{flat_map-append}
use Rattle.jpg_huff.specs.Out.{OnlyWrites}
use Rattle.jpg_huff.proofs.Emitted.{OnlyWrites-then, OnlyWrites-same}
use Rattle.jpg_spec_image.specs.ImageText.{row_bytes, row_piece}
use Rattle.jpg_spec.specs.Scan.{Blocks}
use Rattle.jpg_spec_image.specs.declared.image.EndKind.{EndKind}
use Rattle.jpg_spec_image.specs.declared.image.ImageInfo.{ImageInfo}
use Rattle.jpg_pnm_bmp.specs.EndState.{EndState, CanTakeRow, held_of, info_of, info_given, with_row}
use Rattle.jpg_color.specs.Shown.{Advances, Display, IsGiven, IsShowable, ShownState, RepresentsPicture, all_rows, rows_made_ready, row_length, row_of_blocks}
use Rattle.jpg_color.specs.DecodeRows.{row_pieces}
use Rattle.jpg_color.specs.StripImage.{CanTakeNext, SendsReady, rows_due, with_rows}
use Rattle.jpg_color.specs.declared.decode.DecodeStop.{DecodeStop}
use Rattle.jpg_color.proofs.RowRanges.{more_rows_from, no_rows_from, others_from}
use Rattle.jpg_color.proofs.Sent.{PassesRow, Sends, Writing, sends_nothing, sends_then, sends_stop, sends_same}
use Rattle.jpg_color.proofs.Showing.{pieces_more}
use Rattle.jpg_color.proofs.Windows.{ready_high}
use Rattle.jpg_pnm_bmp.proofs.Written.{none_held, more_held}

-- rows up to the one that was passed last were taken
pub record IsSending (v0 : Writing) (r0 : ShownState) (v : Writing) (r : ShownState) : Type 0 where
  pub showable : IsShowable r0.display
  pub some : r0.pushed ≤ all_rows r0.display
  pub display : r.display ≡ r0.display
  pub pushed : r.pushed ≡ r0.pushed
  pub late : r0.given ≤ r.given
  pub can : CanTakeNext r v.end
  pub kind : v.end.kind ≡ v0.end.kind
  pub told : v.end.info ≡ v0.end.info
  pub created : v.out.desk.output_created ≡ true
  pub only : OnlyWrites v0.out.desk v.out.desk
  pub stands : (blocks : Blocks) → RepresentsPicture r0 blocks → RepresentsPicture r blocks
  pub end_is : (blocks : Blocks) → RepresentsPicture r0 blocks → v.end ≡ with_rows v0.end (rows_due r0 blocks r.given)
  pub sent : (blocks : Blocks) → RepresentsPicture r0 blocks → Sends v0.out (row_pieces v0.end (rows_due r0 blocks r.given)) (Ok tt) v.out

with_none : (e : EndState) → e ≡ with_rows e []
with_none e =
    ap (λ (n : ℕ). (let x : EndState = record e { taken = n } in x)) (let t : e.taken ≡ e.taken + 0 = omega arith in t)
    ∙ ap (λ (h : List (List ℕ)). (let x : EndState = record e { taken = e.taken + 0; held = h } in x)) (sym (append-nil e.held) ∙ ap (λ h. e.held ++ h) (none_held e.kind))

pub sends_none_yet : {v : Writing} {r : ShownState} → IsShowable r.display → r.pushed ≤ all_rows r.display → CanTakeNext r v.end
    → v.out.desk.output_created ≡ true → IsSending v r v r
sends_none_yet {v} {r} shown some can created =
    let none : (blocks : Blocks) → [] ≡ rows_due r blocks r.given = λ (blocks : Blocks). sym (no_rows_from (row_of_blocks r.display blocks) r.given) in
    record {
      showable = shown;
      some = some;
      display = refl;
      pushed = refl;
      late = (let l : r.given ≤ r.given = omega arith in l);
      can = can;
      kind = refl;
      told = refl;
      created = created;
      only = OnlyWrites-same v.out.desk;
      stands = λ (blocks : Blocks) (b : RepresentsPicture r blocks). b;
      end_is = λ (blocks : Blocks) (b : RepresentsPicture r blocks). with_none v.end ∙ ap (with_rows v.end) (none blocks);
      sent = λ (blocks : Blocks) (b : RepresentsPicture r blocks). sends_same (ap (row_pieces v.end) (none blocks)) sends_nothing;
    }

-- ONE MORE ROW

high_same : {v0 v : Writing} {r0 r : ShownState} → IsSending v0 r0 v r → rows_made_ready r.display r.pushed ≡ rows_made_ready r0.display r0.pushed
high_same {r0 = r0} {r = r} h = ap (λ (d : Display). rows_made_ready d r.pushed) h.display ∙ ap (λ n. rows_made_ready r0.display n) h.pushed

pub takes_row : {v0 v : Writing} {r0 r r1 : ShownState} → IsSending v0 r0 v r → IsGiven r r1.last r1 → CanTakeRow v.end r1.last
takes_row {v0} {v} {r0} {r} {r1} h g =
    let most : rows_made_ready r0.display r0.pushed ≤ r0.display.frame.height = ready_high r0.display r0.pushed h.showable h.some in
    let same : r.display.frame.height ≡ r0.display.frame.height = ap (λ (d : Display). d.frame.height) h.display in
    record {
      started = h.can.started;
      missing = less v.end.taken r.given (rows_made_ready r.display r.pushed) (rows_made_ready r0.display r0.pushed)
          r0.display.frame.height r.display.frame.height (info_of v.end).height h.can.taken g.early (high_same h) most same h.can.high;
      long = g.long ∙ sym h.can.long;
      unfinished = h.can.parts;
      before = h.can.unfinished;
    }
  where
    less : (t g n n0 h0 h i : ℕ) → t ≡ g → g < n → n ≡ n0 → n0 ≤ h0 → h ≡ h0 → i ≡ h → t < i
    less t g n n0 h0 h i a b c d e f = omega (arith, a, b, c, d, e, f)

can_go_on : {r r1 : ShownState} {e e2 : EndState} → CanTakeNext r e → IsGiven r r1.last r1 → e2 ≡ with_row e r1.last → CanTakeNext r1 e2
can_go_on can g is =
    record {
      started = ap (λ (x : EndState). is_some x.info) is ∙ can.started;
      high = ap (λ (x : EndState). (info_of x).height) is ∙ can.high ∙ sym (ap (λ (d : Display). d.frame.height) g.display);
      long = ap (λ (x : EndState). row_bytes (info_of x)) is ∙ can.long ∙ sym (ap row_length g.display);
      taken = ap (λ (x : EndState). x.taken) is ∙ ap (λ n. n + 1) can.taken ∙ sym g.given;
      parts = ap (λ (x : EndState). x.parts) is ∙ can.parts;
      unfinished = ap (λ (x : EndState). x.done) is ∙ can.unfinished;
    }

with_more : (e : EndState) (rows : List (List ℕ)) (row : List ℕ) → with_row (with_rows e rows) row ≡ with_rows e (rows ++ row ∷ [])
with_more e rows row =
    ap (λ (h : List (List ℕ)). (let x : EndState = record e { taken = e.taken + length rows + 1; held = h } in x))
    (append_assoc e.held (held_of e.kind rows) (held_of e.kind (row ∷ [])) ∙ ap (λ h. e.held ++ h) (more_held e.kind rows row))
    ∙ ap (λ (n : ℕ). (let x : EndState = record e { taken = n; held = e.held ++ held_of e.kind (rows ++ row ∷ []) } in x)) (count rows row)
  where
    count : (rows : List (List ℕ)) (row : List ℕ) → e.taken + length rows + 1 ≡ e.taken + length (rows ++ row ∷ [])
    count rows row = let l = length-append rows (row ∷ []) in omega (arith, l)

-- the rows with the one that is passed
rows_more : (r0 : ShownState) {r r1 : ShownState} (blocks : Blocks) → r.display ≡ r0.display → r0.given ≤ r.given → RepresentsPicture r blocks
    → IsGiven r r1.last r1 → rows_due r0 blocks r.given ++ r1.last ∷ [] ≡ rows_due r0 blocks r1.given
rows_more r0 {r} {r1} blocks d late stands g =
    ap (λ (x : List ℕ). rows_due r0 blocks r.given ++ x ∷ []) (g.value blocks stands ∙ ap (λ (x : Display). row_of_blocks x blocks r.given) d)
    ∙ sym (more_rows_from (row_of_blocks r0.display blocks) r0.given r.given late) ∙ ap (rows_due r0 blocks) (sym g.given)

piece_same : (e0 e : EndState) (row : List ℕ) → e.kind ≡ e0.kind → e.info ≡ e0.info → row_piece e.kind (info_of e) row ≡ row_piece e0.kind (info_of e0) row
piece_same e0 e row k i = ap (λ (x : EndKind). row_piece x (info_of e) row) k ∙ ap (λ (x : Option ImageInfo). row_piece e0.kind (info_given x) row) i

-- and it was sent, or sending stopped
one_more : {v0 v v2 : Writing} {r0 r r1 : ShownState} {result : Result (Unit {0}) DecodeStop} (blocks : Blocks) → IsSending v0 r0 v r → IsGiven r r1.last r1
    → PassesRow v r1.last result v2 → RepresentsPicture r0 blocks → Sends v0.out (row_pieces v0.end (rows_due r0 blocks r1.given)) result v2.out
one_more {v0} {v} {r0 = r0} {r = r} {r1 = r1} blocks h g k b =
    let rows = rows_due r0 blocks r.given in
    sends_same (pieces_more v0.end rows r1.last ∙ ap (row_pieces v0.end) (rows_more r0 blocks h.display h.late (h.stands blocks b) g))
    (sends_then (h.sent blocks b) (sends_same (piece_same v0.end v.end r1.last h.kind h.told) k.sent))

pub row_goes : {v0 v v2 : Writing} {r0 r r1 : ShownState} → IsSending v0 r0 v r → IsGiven r r1.last r1 → PassesRow v r1.last (Ok tt) v2 → IsSending v0 r0 v2 r1
row_goes {v0} {v} {v2} {r0} {r} {r1} h g k =
    record {
      showable = h.showable;
      some = h.some;
      display = g.display ∙ h.display;
      pushed = g.pushed ∙ h.pushed;
      late = later r0.given r.given r1.given h.late g.given;
      can = can_go_on h.can g k.end;
      kind = ap (λ (x : EndState). x.kind) k.end ∙ h.kind;
      told = ap (λ (x : EndState). x.info) k.end ∙ h.told;
      created = k.sent.only.output_created ∙ h.created;
      only = OnlyWrites-then v0.out.desk v.out.desk v2.out.desk h.only k.sent.only;
      stands = λ (blocks : Blocks) (b : RepresentsPicture r0 blocks). g.stands blocks (h.stands blocks b);
      end_is = λ (blocks : Blocks) (b : RepresentsPicture r0 blocks).
          k.end ∙ ap (λ (x : EndState). with_row x r1.last) (h.end_is blocks b) ∙ with_more v0.end (rows_due r0 blocks r.given) r1.last
          ∙ ap (with_rows v0.end) (rows_more r0 blocks h.display h.late (h.stands blocks b) g);
      sent = λ (blocks : Blocks) (b : RepresentsPicture r0 blocks). one_more blocks h g k b;
    }
  where
    later : (a b c : ℕ) → a ≤ b → c ≡ b + 1 → a ≤ c
    later a b c l e = omega (arith, l, e)

-- THE LAST ROW, AND A STOP

abbrev pub PassesReady : Writing → ShownState → Result (Unit {0}) DecodeStop → ShownState → Writing → Type 0
PassesReady v r result r1 w = SendsReady v.out.desk r v.end v.out.waits result r1 w.end w.out.waits w.out.desk

pub ready_sent : {v0 v : Writing} {r0 r r1 : ShownState} → IsSending v0 r0 v r → Advances r false r1 → PassesReady v0 r0 (Ok tt) r1 v
ready_sent {v0} {v} {r0} {r} h a =
    let all : r.given ≡ rows_made_ready r0.display r0.pushed = a.0 ∙ high_same h in
    subst (λ (x : ShownState). PassesReady v0 r0 (Ok tt) x v) (sym a.1)
    (record {
      only = h.only;
      display = h.display;
      given = record { pushed = h.pushed; given = all; kind = h.kind; told = h.told; can = h.can; stands = h.stands; rows = h.end_is };
      sent = λ (blocks : Blocks) (b : RepresentsPicture r0 blocks).
          subst (λ n. Sends v0.out (row_pieces v0.end (rows_due r0 blocks n)) (Ok tt) v.out) all (h.sent blocks b);
    })

pub ready_stopped : {v0 v v2 : Writing} {r0 r r1 : ShownState} {f : DecodeStop} → IsSending v0 r0 v r → IsGiven r r1.last r1
    → PassesRow v r1.last (Err f) v2 → PassesReady v0 r0 (Err f) r1 v2
ready_stopped {v0} {v} {v2} {r0} {r} {r1} h g k =
    let end = rows_made_ready r0.display r0.pushed in
    let low : r0.given ≤ r1.given = omega (arith, h.late, g.given) in
    let high : r1.given ≤ end = within r.given r1.given (rows_made_ready r.display r.pushed) end g.early g.given (high_same h) in
    record {
      only = OnlyWrites-then v0.out.desk v.out.desk v2.out.desk h.only k.sent.only;
      display = g.display ∙ h.display;
      given = tt;
      sent = λ (blocks : Blocks) (b : RepresentsPicture r0 blocks).
          (let more = others_from (row_of_blocks r0.display blocks) r0.given r1.given end low high in
          let rows = rows_due r0 blocks r1.given in
          sends_same (sym (flat_map-append (row_piece v0.end.kind (info_of v0.end)) rows more.0) ∙ ap (row_pieces v0.end) (sym more.1))
          (sends_stop (row_pieces v0.end more.0) (one_more blocks h g k b)));
    }
  where
    within : (g g1 n end : ℕ) → g < n → g1 ≡ g + 1 → n ≡ end → g1 ≤ end
    within g g1 n end l e f = omega (arith, l, e, f)
