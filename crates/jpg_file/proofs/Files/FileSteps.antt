-- The effect of a byte on a file that is being read.
use Rattle.std.proofs.Common.{take, cond, ◌+◌, ◌-◌, ◌≡◌, ℕ, ◌≤◌, Bool, true, false, ◌==◌, List, [], ◌∷◌, ◌++◌, length, refl, sym, ap, ◌∙◌, subst, arith, Option, Some, None, Ok, Err, inl, inr, length-append, length-take-le, ◌||◌, nat_lt, unwrap_or, slice_index, is_some, is_err, Result, zero, suc, replicate, ◌<◌, drop, get_or, append-nil, take-take, get_or-take, append_assoc, length-drop, take_all, take-append-drop, take-add}
use Rattle.jpg_spec.specs.Geometry.{Frame}
use Rattle.jpg_spec.specs.Scan.{Blocks}
use Rattle.jpg_spec.specs.Markers.{Pass, Segment, is_frame_code, has_frame, has_scan, code_fault, kept_rule, SpellsSegment}
use Rattle.jpg_spec.specs.Header.{header_rule}
use Rattle.jpg_spec.specs.InForce.{frame_after, frame_of, heads_of, no_frame}
use Rattle.jpg_spec.specs.History.{has_begun, is_complete}
use Rattle.jpg_spec.specs.Items.{Item, segment, scan, segments_of, contents_rule}
use Rattle.jpg_spec.specs.FileMeaning.{Leads, meaning_of}
use Rattle.jpg_spec.specs.Laws.{frame_of_items}
use Rattle.jpg_spec.specs.declared.frame.Limits.{Limits}
use Rattle.jpg_spec.proofs.Headers.FrameAfter.{leads_pass}
use Rattle.jpg_spec.proofs.Headers.FrameFound.{frame_found, framed, framed_end}
use Rattle.jpg_spec.proofs.Bits.FirstPasses.{all_below}
use Rattle.jpg_spec.proofs.Basics.Common.{clash, neither, not_same, or_right, joined, whole_front}
use Rattle.jpg_spec.proofs.Headers.BeforeScans.{no_heads}
use Rattle.jpg_spec.proofs.Places.Untouched.{frame_stays}
use Rattle.jpg_coefs.specs.Picture.{Picture, map_of}
use Rattle.jpg_markers.specs.Reading.{reading_of, HasNoSegment, MayFollow, PassesDue}
use Rattle.jpg_base.specs.declared.names.NoMemory.{NoMemory as Wanting}
use Rattle.jpg_spec.specs.declared.fault.FaultAt.{FaultAt}
use Rattle.jpg_base.specs.declared.stop.Stop.{Stop}
use Rattle.jpg_base.specs.declared.stop.Stop.TheVariants as stop
use Rattle.jpg_markers.specs.declared.segments.SegStep.{SegStep}
use Rattle.jpg_markers.specs.declared.segments.SegStep.TheVariants as step
use Rattle.jpg_file.specs.Read.SegmentState.{IsComplete, segments_view}
use Rattle.jpg_file.specs.Read.FirstHeader.{HasHead, HasNoHead, IsFirstHeaderOf}
use Rattle.jpg_file.specs.declared.read.first_header.Head.{Head}
use Rattle.jpg_file.specs.Read.Items.{AddsNoScan, AfterItem, AfterScan, AtPlace, BetweenItems, IsOfMarker, BehindEnd, PassesItems}
use Rattle.jpg_file.specs.Read.InData.{InData, AfterBytes, TakesRun}
use Rattle.jpg_file.specs.Read.Step.{IfStops, IfWants}
use Rattle.jpg_file.specs.Read.File.{AfterHead, HeadWhole, Scanning, TakesHead, waiting_bytes, NeedsNoMemory, AfterFileByte, AfterFileStep, BesideItems, KeepsBytes, TakesSome, EndsFile, EndStands, HasRoom, NotesHead, RoomMade, limits_of, HasCompleteHeader, PictureMade, PictureSoFar, RepresentsFile, IsBetweenFileItems, IsInsideScanOfFile, IsStop, with_picture, settings_of, ScanHeld}
use Rattle.jpg_file.specs.declared.read.items.Items.{Items}
use Rattle.jpg_spec.specs.declared.fault.Fault.{Fault}
use Rattle.jpg_file.proofs.Scans.ScanBytes.{data_of, few_wait, data_stands, ff_bytes}
use Rattle.jpg_file.specs.declared.read.scan.InScan.{InScan}
use Rattle.jpg_file.specs.declared.read.step.Step.{Step}
use Rattle.jpg_file.specs.declared.read.step.Step.TheVariants as came
use Rattle.jpg_file.specs.declared.read.file.FileState.{FileState}
use Rattle.jpg_file.proofs.Headers.InForce.{begun_goes_on, between_header, has_longer, has_more, no_head, noted}
use Rattle.jpg_spec.proofs.Headers.FirstScan.{not_none}
use Rattle.std.proofs.lemmas.List.{length-replicate, take_more}
use Rattle.jpg_spec.specs.UnfinishedFile.{IsWholeFile, UnfinishedFile}
use Rattle.jpg_spec.specs.FirstFault.{Reveals, IsFirstFault}
use Rattle.jpg_spec.specs.declared.fault.Fault.TheVariants.{MissingComponent, InputTooLong}
use Rattle.jpg_spec.proofs.Files.ItemSteps.{fill_marker, missing_shown}
use Rattle.jpg_spec.proofs.Files.FileLaws.{next_shown, stands_too_long}
use Rattle.jpg_file.specs.Read.ReadFile.{IsRefusal, IsStopOf, KeepsHeadAt}
use Rattle.jpg_file.specs.Read.Going.{GoesOn, has_waiting, CanGoOn, file_with}
use Rattle.jpg_file.proofs.Files.ItemBytes.{between_stands}
use Rattle.jpg_base.proofs.FedPiece.{take_both}
use Rattle.jpg_spec.proofs.Segments.MarkersOnce.{segment_once}
use Rattle.jpg_file.specs.Read.Passing.{HasNoneToPass, IsLeft, PassesAll, PassesFront, PassesMost, before_last}
use Rattle.jpg_file.specs.declared.read.window.Window.{Window}
use Rattle.jpg_file.specs.declared.read.window.Window.TheVariants as window
use Rattle.jpg_file.specs.Read.Window.{coefs_in, rows_in}

-- WHAT IS KEPT WITH THE ITEMS is extended by one more

picture_more : (limits : Limits) (items : List Item) (blocks : Blocks) (code : ℕ) (contents : List ℕ) (q : Option Picture) → (code ≡ 0xda → ⊥) → code_fault (segments_of items) code ≡ None → PictureSoFar limits items blocks q → PictureSoFar limits (segment code contents ∷ items) blocks q
picture_more limits items blocks code contents None other allowed (unscanned, are_zero) = (ap (λ b. b || has_scan (segments_of items)) (not_same code 0xda other) ∙ unscanned, are_zero)
picture_more limits items blocks code contents (Some q) other allowed (found, is, as_map) =
    (or_right (is_frame_code code) (has_frame (segments_of items)) found, is ∙ sym (frame_stays limits (segments_of items) code contents found allowed), as_map)

beside_more : (limits : Limits) (bytes : List ℕ) (items : List Item) (blocks : Blocks) (w : FileState) (code : ℕ) (contents : List ℕ) → (code ≡ 0xda → ⊥) → Leads limits (segment code contents ∷ items) blocks
    → BesideItems limits bytes items blocks w → BesideItems limits bytes (segment code contents ∷ items) blocks w
beside_more limits bytes items blocks w code contents other leads k = record {
  picture = picture_more limits items blocks code contents (coefs_in w.window) other leads.0 k.picture;
  begun = begun_goes_on limits w.begun items blocks code contents leads.2 leads.0 other k.begun;
  none = k.none;
  count = k.count;
  same = k.same;
  within = k.within;
  head = has_more limits bytes (segments_of items) code contents w.head other k.head;
}

some_item : (item : Item) (items : List Item) → item ∷ items ≡ [] → ⊥
some_item item items e = cc

leads_at : (limits : Limits) (bytes sent : List ℕ) (items : List Item) (blocks : Blocks) (item : Item) → AtPlace limits bytes sent (item ∷ items) blocks → Leads limits (item ∷ items) blocks
leads_at limits bytes sent items blocks item (inl s) = absurd (some_item item items s.no_items)
leads_at limits bytes sent items blocks item (inr (tail, k)) = k.leads

goes_along : (limits : Limits) (bytes : List ℕ) (items more : List Item) (blocks : Blocks) (w : FileState) → AddsNoScan items more → BetweenItems limits bytes more blocks w.items → BesideItems limits bytes items blocks w → BesideItems limits bytes more blocks w
goes_along limits bytes items more blocks w (inl e) at k = subst (λ (l : List Item). BesideItems limits bytes l blocks w) (sym e) k
goes_along limits bytes items more blocks w (inr (code, contents, e, other)) at k =
    let place = subst (λ (l : List Item). AtPlace limits bytes at.sent l blocks) e at.at in
    subst (λ (l : List Item). BesideItems limits bytes l blocks w) (sym e) (beside_more _ _ _ _ _ _ _ other (leads_at _ _ _ _ _ _ place) k)

-- A BYTE BETWEEN ITEMS, or the marker after a scan's data
pub after_item : (limits : Limits) (bytes : List ℕ) (items : List Item) (blocks : Blocks) (answer : Result SegStep Stop) (w : FileState) → BesideItems limits bytes items blocks w → AfterItem limits bytes items blocks answer w.items → AfterFileStep None limits bytes answer w
after_item limits bytes items blocks (Ok step.Whole) w k (at, code) = (record { items = items; blocks = blocks; at = at; code = code; beside = k }, refl)
after_item limits bytes items blocks (Ok step.Eoi) w k at = record { items = items; blocks = blocks; at = at; beside = k }
after_item limits bytes items blocks (Ok goes) w k a = inl (record { items = a.0; blocks = blocks; at = a.2; beside = goes_along limits bytes items a.0 blocks w a.1 a.2 k })
after_item limits bytes items blocks (Err (stop.Fault f)) w k (shown, at) = (at ∙ k.same ∙ k.count, shown)
after_item limits bytes items blocks (Err stop.NoMemory) w k none = refl

-- with the state of the items after it
pub after_between : (limits : Limits) (bytes more : List ℕ) (answer : Result SegStep Stop) (w : FileState) (held : Items) (n : ℕ) → (s : IsBetweenFileItems limits bytes w) → AfterItem limits (bytes ++ more) s.items s.blocks answer held
    → (reading_of held.segments).taken ≡ n → n ≡ w.taken + length more → n ≤ limits.input → AfterFileStep w.scan limits (bytes ++ more) answer (record w { items = held; taken = n })
after_between limits bytes more answer w held n s a same all few =
    let k = s.beside in
    let count : n ≡ length (bytes ++ more) = omega (arith, all, k.count, length-append bytes more) in
    subst (λ (o : Option InScan). AfterFileStep o limits (bytes ++ more) answer (record w { items = held; taken = n })) (sym k.none)
    (after_item limits (bytes ++ more) s.items s.blocks answer (record w { items = held; taken = n })
    (record {
      picture = k.picture;
      begun = k.begun;
      none = k.none;
      count = count;
      same = same;
      within = omega (arith, count, few);
      head = has_longer limits bytes more (bytes ++ more) (segments_of s.items) w.head refl k.head;
    })
    a)

-- the marker after a scan's data
after_scan : (before : Option InScan) (limits : Limits) (bytes : List ℕ) (answer : Result SegStep Stop) (w : FileState) → AfterFileStep None limits bytes answer w → IsOfMarker answer → AfterFileStep before limits bytes answer w
after_scan before limits bytes (Ok step.Whole) w a m = absurd m
after_scan before limits bytes (Err stop.NoMemory) w a m = absurd m
after_scan before limits bytes other w a m = a

-- INSIDE THE DATA of a scan, after more bytes, or none
module _ {limits : Limits} {items : List Item} {contents bytes : List ℕ} (w : FileState) (o : Window) (scan : Option InScan) {gate now : Bool} where
  pub held_at : (more : List ℕ) (n : ℕ) → n ≡ w.taken + length more → n ≤ limits.input → waiting_bytes now ≤ waiting_bytes gate + length more → ScanHeld limits items contents bytes w gate
      → ScanHeld limits items contents (bytes ++ more) (record w { window = o; scan = scan; taken = n }) now
  held_at more n all few waits h =
      let count : n ≡ length (bytes ++ more) = omega (arith, all, h.count, length-append bytes more) in
      record {
        head = h.head;
        count = count;
        behind = omega (arith, h.behind, all, waits);
        begun = h.begun;
        within = omega (arith, count, few);
        first_head = has_longer limits bytes more (bytes ++ more) ((0xda, contents) ∷ segments_of items) w.head refl h.first_head;
      }

  pub held_as : now ≡ gate → ScanHeld limits items contents bytes w gate → ScanHeld limits items contents bytes (record w { window = o; scan = scan }) now
  held_as e h = record { head = h.head; count = h.count; behind = omega (arith, h.behind, ap waiting_bytes e); begun = h.begun; within = h.within; first_head = h.first_head }

module _ {limits : Limits} {bytes : List ℕ} {w : FileState} (s : IsInsideScanOfFile limits bytes w) (more : List ℕ) (n : ℕ)
    (all : n ≡ w.taken + length more) (few : n ≤ limits.input) where
  pub inside_more : (now : Picture) (next : InScan) (q : Window) (o : Option InScan) → q ≡ window.All now → o ≡ Some next
      → InData limits s.items s.contents (bytes ++ more) next now → waiting_bytes next.gate ≤ length more
      → IsInsideScanOfFile limits (bytes ++ more) (record w { window = q; scan = o; taken = n })
  inside_more now next q o has is coded waits =
      record { items = s.items; contents = s.contents; coefs = now; has = has; scan = next; inside = is; coded = coded; held = held_at w q o more n all few (omega (arith, waits)) s.held }

-- the file as it is read in one go
abbrev pub held_inside : {limits : Limits} {items : List Item} {contents bytes : List ℕ} (w : FileState) (s : InScan) (now : Picture) → w.scan ≡ Some s → InData limits items contents bytes s now → ScanHeld limits items contents bytes w s.gate
    → IsInsideScanOfFile limits bytes (with_picture w now)
held_inside {limits} {items} {contents} {bytes} w s now is coded h =
    record { items = items; contents = contents; coefs = now; has = refl; scan = s; inside = is; coded = coded; held = held_as w (window.All now) w.scan refl h }

module _ {limits : Limits} {bytes : List ℕ} {w : FileState} (s : IsInsideScanOfFile limits bytes w) (more : List ℕ) (n : ℕ)
    (all : n ≡ w.taken + length more) (few : n ≤ limits.input) where
  -- the marker after them
  pub inside_done : (now : Picture) (held : Items) (answer : Result SegStep Stop) → now.frame ≡ frame_of limits (segments_of s.items)
      → AfterScan limits s.items s.contents (bytes ++ more) (map_of now) answer held → (reading_of held.segments).taken ≡ n
      → AfterFileStep w.scan limits (bytes ++ more) answer (record w { items = held; window = window.All now; scan = None; taken = n })
  inside_done now held answer is after same =
      let counted_on : n ≡ length (bytes ++ more) = omega (arith, all, (s.held).count, length-append bytes more) in
      let all : List Item = scan s.contents after.0 ∷ s.items in
      let place = s.coded in
      let allowed : code_fault (segments_of s.items) 0xda ≡ None = subst (λ (l : List Item). code_fault (segments_of l) 0xda ≡ None) (place.of).0 ((place.at).allowed).0 in
      let new : FileState = record w { items = held; window = window.All now; scan = None; taken = n } in
      after_scan _ _ _ _ _ (after_item _ _ _ _ _ _ (record {
        picture = (framed (segments_of s.items) allowed, is, refl);
        begun = (s.held).begun;
        none = refl;
        count = counted_on;
        same = same;
        within = omega (arith, counted_on, few);
        head = has_longer limits bytes more (bytes ++ more) (segments_of all) w.head refl (s.held).first_head;
      })
      after.1)
      after.2

-- A SCAN HEADER, with room for the picture

-- the frame in force is kept, and has components
pub record FrameFor (limits : Limits) (segments : List Segment) (held : Option Frame) : Type 0 where
  pub frame : Frame
  pub has : held ≡ Some frame
  pub is : frame_of limits segments ≡ frame
  pub some : 1 ≤ length frame.components

pub frame_for : (limits : Limits) (segments : List Segment) (held : Option Frame) → held ≡ frame_after limits segments → Pass (header_rule limits) segments → has_frame segments ≡ true → FrameFor limits segments held
frame_for limits segments held same pass found =
    let f = frame_found limits segments pass found in
    record {
      frame = f.0;
      has = same ∙ f.1;
      is = ap (λ (o : Option Frame). unwrap_or o no_frame) f.1;
      some = not_none (length (f.0).components) (neither (length (f.0).components == 0) (nat_lt 4 (length (f.0).components)) (f.2).count).0;
    }

pub frame_held : (limits : Limits) (items : List Item) (blocks : Blocks) (held : Option Frame) → Leads limits items blocks → held ≡ frame_after limits (segments_of items) → has_frame (segments_of items) ≡ true → FrameFor limits (segments_of items) held
frame_held limits items blocks held leads same found = frame_for limits (segments_of items) held same (leads_pass limits items blocks leads) found

-- the picture there is, of this frame
record PictureThere (limits : Limits) (items : List Item) (blocks : Blocks) (f : Frame) (q : Window) : Type 0 where
  pub coefs : Picture
  pub has : q ≡ window.All coefs
  pub pictured : coefs.frame ≡ f
  pub as_map : blocks ≡ map_of coefs

picture_there : (limits : Limits) (items : List Item) (blocks : Blocks) (f : Frame) (old new : Window) → rows_in old ≡ None → frame_of_items limits items ≡ f → PictureSoFar limits items blocks (coefs_in old) → PictureMade f old new → PictureThere limits items blocks f new
picture_there limits items blocks f window.None new none is k made = record { coefs = made.picture; has = made.has; pictured = made.framed; as_map = k.1 ∙ sym made.zero }
picture_there limits items blocks f (window.All q) new none is (found, framed, as_map) made = record { coefs = q; has = made; pictured = framed ∙ is; as_map = as_map }
picture_there limits items blocks f (window.Row rows) new none is k made = absurd cc

pub head_whole : (limits : Limits) (bytes : List ℕ) (old new : FileState) → (h : HasCompleteHeader limits bytes old) → rows_in old.window ≡ None → HasRoom old new → HeadWhole limits bytes h.items h.blocks new
head_whole limits bytes old new h none room =
    let k = h.beside in
    let allowed = subst (λ n. code_fault (segments_of h.items) n ≡ None) h.code (h.at).allowed in
    let f = frame_held limits h.items h.blocks old.items.held.frame ((h.at).at).leads ((h.at).holds).frame (framed (segments_of h.items) allowed) in
    let made = room.picture f.frame f.has in
    let p = picture_there limits h.items h.blocks f.frame old.window new.window none f.is k.picture made.1 in
    subst (λ (w : FileState). HeadWhole limits bytes h.items h.blocks w) (sym room.is)
    (record {
      segment = h.at;
      code = h.code;
      frame = f.frame;
      framed = f.has;
      is_frame = made.0;
      begun = k.begun;
      coefs = p.coefs;
      has = p.has;
      pictured = p.pictured;
      as_map = p.as_map;
      count = k.count;
      same = k.same;
    })

-- the header is taken with the room that was made
pub head_after : (limits : Limits) (bytes : List ℕ) (old room : FileState) (answer : Result (Unit {0}) FaultAt) (w : FileState) → (h : HasCompleteHeader limits bytes old) → rows_in old.window ≡ None → HasRoom old room → TakesHead room answer w
    → AfterHead limits bytes h.items room.items answer w
head_after limits bytes old room answer w h none made takes =
    let same : limits_of room ≡ limits = ap (λ (x : FileState). limits_of x) made.is ∙ (h.at).bounded in
    subst (λ l. AfterHead l bytes h.items room.items answer w) same (takes bytes h.items h.blocks (subst (λ l. HeadWhole l bytes h.items h.blocks room) (sym same) (head_whole limits bytes old room h none made)))

-- the contents of its segment break no rule
pub unbroken : (limits : Limits) (items : List Item) (contents bytes : List ℕ) (r : FileState) → (s : Scanning limits items contents bytes r) → contents_rule limits (segments_of items) 0xda contents ≡ None
unbroken limits items contents bytes r s =
    let place = (s.at).place in
    let of = (s.at).of in
    let rule = (((s.at).at).allowed).1 in
    subst (λ c. contents_rule limits (segments_of items) 0xda c ≡ None) of.1 (subst (λ (l : List Item). contents_rule limits (segments_of l) 0xda place.contents ≡ None) of.0 rule)

-- with the picture that is kept
pub head_taken : (w new : FileState) (q : Picture) (answer : Result (Unit {0}) FaultAt) → w.window ≡ window.All q → new.window ≡ w.window → TakesHead (with_picture w q) answer (with_picture new q) → TakesHead w answer new
head_taken w new q answer has same t = λ bytes items blocks k.
    subst (λ (p : Window). AfterHead (limits_of w) bytes items w.items answer (record new { window = p })) (sym (same ∙ has))
    (t bytes items blocks (subst (λ (p : Window). HeadWhole (limits_of w) bytes items blocks (record w { window = p })) has k))

pub head_goes : (limits : Limits) (bytes : List ℕ) (old room taken new : FileState) → (h : HasCompleteHeader limits bytes old) → rows_in old.window ≡ None → HasRoom old room → TakesHead room (Ok tt) taken → taken.head ≡ room.head → NotesHead taken new
    → RepresentsFile limits bytes new
head_goes limits bytes old room taken new h none made takes kept notes =
    let a = head_after limits bytes old room (Ok tt) taken h none made takes in
    let contents = (reading_of room.items.segments).contents in
    let same : (reading_of old.items.segments).contents ≡ contents = ap (λ (x : FileState). (reading_of x.items.segments).contents) (sym made.is) in
    let s = a.0 in
    let holds = (s.head).holds in
    let allowed = subst (λ n. code_fault (segments_of h.items) n ≡ None) h.code (h.at).allowed in
    let f = frame_held limits h.items h.blocks taken.items.held.frame ((h.at).at).leads holds.frame (framed (segments_of h.items) allowed) in
    let had = subst (λ o. HasHead limits bytes (segments_of h.items) o) (sym (kept ∙ ap (λ (x : FileState). x.head) made.is)) (h.beside).head in
    subst (λ (w : FileState). RepresentsFile limits bytes w) (sym notes)
    (inr (record {
      items = h.items;
      contents = contents;
      coefs = s.coefs;
      has = s.has;
      scan = s.scan;
      inside = s.inside;
      coded = s.at;
      held = record {
        head = s.head;
        count = s.count;
        behind = s.behind;
        begun = a.1;
        within = (h.beside).within;
        first_head = noted limits bytes h.items h.blocks old.items contents (segments_view taken.items.held) f.frame taken.taken taken.head h.at h.code same (unbroken limits h.items contents bytes taken s) holds f.has s.count had;
      };
    }))

pub room_made : (old new : FileState) (answer : Result (Unit {0}) Wanting) → RoomMade old answer new → is_err answer ≡ false → HasRoom old new
room_made old new (Ok done) made e = made
room_made old new (Err w) made e = cc

-- if more is known of what needs memory
pub asked : (a b : Type 0) → (a → b) → (limits : Limits) (bytes : List ℕ) (answer : Step) (w : FileState) → AfterFileByte a limits bytes answer w → AfterFileByte b limits bytes answer w
asked a b f limits bytes (came.Ended stop.NoMemory) w k = f k
asked a b f limits bytes other w k = k

-- if a scan is being read, and if none is
pub inside_of : (limits : Limits) (bytes : List ℕ) (w : FileState) → RepresentsFile limits bytes w → is_some w.scan ≡ true → IsInsideScanOfFile limits bytes w
inside_of limits bytes w (inr s) e = s
inside_of limits bytes w (inl s) e = absurd (clash (is_some w.scan) e (ap is_some (s.beside).none))

pub between_of : (limits : Limits) (bytes : List ℕ) (w : FileState) → RepresentsFile limits bytes w → is_some w.scan ≡ false → IsBetweenFileItems limits bytes w
between_of limits bytes w (inl s) e = s
between_of limits bytes w (inr s) e = absurd (clash (is_some w.scan) (ap is_some s.inside) e)

-- EOI
frame_there : (limits : Limits) (bytes : List ℕ) (w : FileState) → (k : EndStands limits bytes w) → FrameFor limits (segments_of k.items) w.items.held.frame
frame_there limits bytes w k = frame_held limits k.items k.blocks w.items.held.frame ((k.at).at).leads ((k.at).holds).frame (framed_end (segments_of k.items) (k.at).allowed)

-- whether each component was in a scan, by the history
pub end_complete : (limits : Limits) (bytes : List ℕ) (w : FileState) (all : Bool) → (k : EndStands limits bytes w)
    → IsComplete w.begun.progress all → is_complete (frame_of_items limits k.items) (segments_of k.items) ≡ all
end_complete limits bytes w all k told =
    let f = frame_of_items limits k.items in
    let there = frame_there limits bytes w k in
    sym (told f (heads_of f (segments_of k.items)) (subst (λ (g : Frame). 1 ≤ length g.components) (sym there.is) there.some) ((k.beside).begun).scans)

pub frame_left : (limits : Limits) (bytes : List ℕ) (w : FileState) → (e : EndsFile limits bytes w) → FrameFor limits (segments_of (e.ends).items) w.items.held.frame
frame_left limits bytes w e = frame_there limits bytes w e.ends

-- component 0 was in a scan
pub one_begun : (limits : Limits) (bytes : List ℕ) (w : FileState) → (e : EndsFile limits bytes w) → has_scan (segments_of (e.ends).items) ≡ false → ⊥
one_begun limits bytes w e none =
    let f = frame_of_items limits (e.ends).items in
    let before = segments_of (e.ends).items in
    let left = frame_left limits bytes w e in
    let some : 1 ≤ length f.components = subst (λ (g : Frame). 1 ≤ length g.components) (sym left.is) left.some in
    clash (has_begun (heads_of f before) 0) (all_below (has_begun (heads_of f before)) (length f.components) 0 e.complete (omega (arith, some))) (ap (λ heads. has_begun heads 0) (no_heads f before none))

-- THE FIRST SCAN HEADER, by the state
pub head_by : (limits : Limits) (bytes : List ℕ) (before : List Segment) (o : Option Head) → (has_scan before ≡ false → HasNoHead limits bytes) → HasHead limits bytes before o → IsFirstHeaderOf limits bytes o
head_by limits bytes before None none k = none k
head_by limits bytes before (Some h) none k = k

pub head_is : (limits : Limits) (bytes : List ℕ) (w : FileState) → RepresentsFile limits bytes w → IsFirstHeaderOf limits bytes w.head
head_is limits bytes w (inl s) =
    head_by limits bytes (segments_of s.items) w.head (λ none. no_head limits bytes (between_header limits bytes s.items s.blocks w.items s.at none)) (s.beside).head
head_is limits bytes w (inr s) = head_by limits bytes ((0xda, s.contents) ∷ segments_of s.items) w.head (λ none. absurd (clash true refl none)) (s.held).first_head

pub head_left : (limits : Limits) (bytes : List ℕ) (w : FileState) → EndsFile limits bytes w → IsFirstHeaderOf limits bytes w.head
head_left limits bytes w e = head_by limits bytes (segments_of (e.ends).items) w.head (λ none. absurd (one_begun limits bytes w e none)) ((e.ends).beside).head

-- SOME PLAIN BYTES of a scan one after another
module _ (w : FileState) {coefs : Picture} {current : InScan} (has : w.window ≡ window.All coefs) (is : w.scan ≡ Some current) (run : List ℕ) (room : w.taken + length run ≤ (limits_of w).input)
    {n : ℕ} {given : Result Bool Fault} {new : InScan} {now : Picture} (t : TakesRun current coefs run n given [] new now) where
  -- the state before the last of them
  abbrev mid : FileState
  mid = record w { window = window.All t.between; scan = Some t.mid; taken = w.taken + t.early }

  input : (limits : Limits) → limits_of w ≡ limits → w.taken + length run ≤ limits.input
  input limits same = subst (λ (l : Limits). w.taken + length run ≤ l.input) same room

  before : (limits : Limits) (front : List ℕ) → RepresentsFile limits front w → limits_of w ≡ limits → RepresentsFile limits (front ++ take t.early run) mid
  before limits front k same =
      let s = inside_of limits front w k (ap is_some is) in
      let size = length-take-le t.early run (omega (arith, t.within)) in
      inr (inside_more s (take t.early run) (w.taken + t.early) (omega (arith, size)) (omega (arith, input limits same, t.within)) t.between t.mid (window.All t.between) (Some t.mid) refl refl
      (t.before limits s.items s.contents front (data_of has is s)) (omega (arith, ap waiting_bytes t.open)))

  -- what the last one leads to
  last_data : (limits : Limits) (front : List ℕ) (k : RepresentsFile limits front mid) → (let s = inside_of limits front mid k refl in AfterBytes limits s.items s.contents (front ++ slice_index run t.early ∷ []) given [] new now)
  last_data limits front k = (let s = inside_of limits front mid k refl in t.last limits s.items s.contents front (data_of {w = mid} refl refl s))

  taken_by : (answer : Step) → IfStops answer (w.head ≡ w.head) → IfWants answer (mid.scan ≡ w.scan)
      → ((limits : Limits) (front : List ℕ) → RepresentsFile limits front mid → limits_of w ≡ limits → AfterFileByte (KeepsBytes w) limits (front ++ slice_index run t.early ∷ []) answer (record w { window = window.All now; scan = Some new; taken = w.taken + n }))
      → TakesSome w run n answer (record w { window = window.All now; scan = Some new; taken = w.taken + n })
  taken_by answer head wants last = record {
    mid = mid;
    early = t.early;
    count = t.count;
    within = t.within;
    head = head;
    scan = wants;
    ended = ap (λ (o : Option InScan). w.begun.scans - cond (is_some o) 1 0) (sym is);
    room = λ limits front k same. omega (arith, input limits same, t.within);
    before = before;
    last = last;
  }

  pub run_goes : {over : Bool} → given ≡ Ok over → TakesSome w run n came.More (record w { window = window.All now; scan = Some new; taken = w.taken + n })
  run_goes e = taken_by came.More tt tt (λ limits front k same.
      (let s = inside_of limits front mid k refl in
      let one = slice_index run t.early ∷ [] in
      inr (inside_more s one (w.taken + n) (omega (arith, t.count)) (omega (arith, input limits same, t.within, t.count)) now new (window.All now) (Some new) refl refl
      (subst (λ (a : Result Bool Fault). AfterBytes limits s.items s.contents (front ++ one) a [] new now) e (last_data limits front k)) (few_wait new.gate))))

  pub run_stops : {fault : Fault} {result : Step} → given ≡ Err fault → result ≡ came.Ended (stop.Fault (record { fault = fault; at = w.taken + n }))
      → TakesSome w run n result (record w { window = window.All now; scan = Some new; taken = w.taken + n })
  run_stops {fault} e ends =
      let f : FaultAt = record { fault = fault; at = w.taken + n } in
      subst (λ (a : Step). TakesSome w run n a (record w { window = window.All now; scan = Some new; taken = w.taken + n })) (sym ends)
      (taken_by (came.Ended (stop.Fault f)) refl tt (λ limits front k same.
      (let s = inside_of limits front mid k refl in
      let one = slice_index run t.early ∷ [] in
      (omega (arith, (s.held).count, t.count, length-append front one), subst (λ (a : Result Bool Fault). AfterBytes limits s.items s.contents (front ++ one) a [] new now) e (last_data limits front k)))))

-- Bytes of a piece, one after another and together.

-- EOI: the file is complete, or a component is missing.

pub file_ends : (limits : Limits) (bytes : List ℕ) (items : List Item) (blocks : Blocks) (w : Items) → BehindEnd limits bytes items blocks w → is_complete (frame_of limits (segments_of items)) (segments_of items) ≡ true → length bytes ≤ limits.input
    → IsWholeFile limits bytes (meaning_of (frame_of limits (segments_of items)) (segments_of items) blocks)
file_ends limits bytes items blocks w k whole long =
    let b = (k.at).beside in
    let front = (b.behind).front in (
      record {
        items = items;
        blocks = blocks;
        front = front;
        marker = replicate b.fill 255 ++ k.tail;
        rest = [];
        cut = (b.behind).cut ∙ sym (append-nil (front ++ (replicate b.fill 255 ++ k.tail)));
        spelled = (b.behind).spelled;
        ended = fill_marker b.fill 0xd9 k.tail k.ended;
        long = subst (λ l. length l ≤ limits.input) (b.behind).cut long;
        leads = (k.at).leads;
        framed = k.allowed;
        complete = whole;
        meaning = refl;
      },
      refl,
    )

pub file_lacks : (limits : Limits) (bytes : List ℕ) (items : List Item) (blocks : Blocks) (w : Items) → BehindEnd limits bytes items blocks w → is_complete (frame_of limits (segments_of items)) (segments_of items) ≡ false → Reveals limits MissingComponent bytes
file_lacks limits bytes items blocks w k missing = missing_shown limits (kept_rule limits) k.sent bytes items k.tail (k.at).beside k.ended k.allowed missing

-- A file that is being read, piece by piece.

-- WHAT A STATE ENCODES

pub stands_file : (limits : Limits) (bytes : List ℕ) (w : FileState) → RepresentsFile limits bytes w → UnfinishedFile limits bytes
stands_file limits bytes w (inl s) = between_stands limits bytes s.items s.blocks w.items s.at
stands_file limits bytes w (inr s) = data_stands limits s.items s.contents bytes s.scan s.coefs s.coded

pub limits_are : (limits : Limits) (bytes : List ℕ) (w : FileState) → RepresentsFile limits bytes w → limits_of w ≡ limits
limits_are limits bytes w (inl s) = (s.at).bounded
limits_are limits bytes w (inr s) = ((s.held).head).bounded

pub counted : (limits : Limits) (bytes : List ℕ) (w : FileState) → RepresentsFile limits bytes w → w.taken ≡ length bytes
counted limits bytes w (inl s) = (s.beside).count
counted limits bytes w (inr s) = (s.held).count

pub within : (limits : Limits) (bytes : List ℕ) (w : FileState) → RepresentsFile limits bytes w → length bytes ≤ limits.input
within limits bytes w (inl s) = (s.beside).within
within limits bytes w (inr s) = (s.held).within

-- A PIECE, and a prefix of it

pub one_more : (bytes piece : List ℕ) (i : ℕ) → i < length piece → bytes ++ take (i + 1) piece ≡ (bytes ++ take i piece) ++ get_or piece i 0 ∷ []
one_more bytes piece i h = ap (λ l. bytes ++ l) (take_more piece i 0 h) ∙ sym (append_assoc bytes (take i piece) (get_or piece i 0 ∷ []))

-- THE ANSWERS

pub stop_longer : (limits : Limits) (front rest all : List ℕ) (b : ℕ) (f : FaultAt) → all ≡ (front ++ b ∷ []) ++ rest → UnfinishedFile limits front → length front < limits.input → IsStop limits (front ++ b ∷ []) f → IsStopOf limits all f
stop_longer limits front rest all b f cut stands short (at, shown) more =
    let whole = front ++ b ∷ [] in
    subst (λ l. IsRefusal limits l f) (sym (ap (λ l. l ++ more) cut ∙ append_assoc whole rest more))
    (subst (λ n. IsFirstFault limits (whole ++ (rest ++ more)) f.fault n) (sym at) (next_shown limits front (rest ++ more) b f.fault stands shown short))

-- the first current header of a prefix remains
pub head_kept : (limits : Limits) (bytes piece : List ℕ) (i : ℕ) (old next : FileState) → RepresentsFile limits (bytes ++ take i piece) old → next.head ≡ old.head → IsFirstHeaderOf limits (take (length (bytes ++ take i piece)) (bytes ++ piece)) next.head
head_kept limits bytes piece i old next stands same =
    let front = bytes ++ take i piece in
    let is : take (length front) (bytes ++ piece) ≡ front = ap (take (length front)) (joined bytes piece i) ∙ whole_front front (drop i piece) in
    subst (λ o. IsFirstHeaderOf limits (take (length front) (bytes ++ piece)) o) (sym same) (subst (λ l. IsFirstHeaderOf limits l old.head) (sym is) (head_is limits front old stands))

pub front_of : (front rest all : List ℕ) (n : ℕ) → n ≡ length front → all ≡ front ++ rest → take n all ≡ front
front_of front rest all n long cut = ap (λ m. take m all) long ∙ ap (take (length front)) cut ∙ whole_front front rest

-- as many bytes as may be taken
pub piece_long : (limits : Limits) (bytes piece : List ℕ) (i : ℕ) (w : FileState) → limits.input ≤ w.taken → RepresentsFile limits (bytes ++ take i piece) w
    → IsStopOf limits (bytes ++ piece) (record { fault = InputTooLong; at = limits.input }) × KeepsHeadAt limits (bytes ++ piece) (record { fault = InputTooLong; at = limits.input }) w.head
piece_long limits bytes piece i w many h =
    let front = bytes ++ take i piece in
    let rest = drop i piece in
    let few = counted limits front w h in
    let most = within limits front w h in
    let long : length front ≡ limits.input = omega (arith, few, most, many) in (
      λ more.
          (let all = (bytes ++ piece) ++ more in
          let cut : all ≡ front ++ (rest ++ more) = ap (λ l. l ++ more) (joined bytes piece i) ∙ append_assoc front rest more in
          let is : take limits.input all ≡ front = ap (λ n. take n all) (sym long) ∙ ap (take (length front)) cut ∙ whole_front front (rest ++ more) in
          let size : limits.input ≤ length all = omega (arith, long, ap length cut, length-append front (rest ++ more)) in
          stands_too_long limits all (subst (λ l. UnfinishedFile limits l) (sym is) (stands_file limits front w h)) size),
      inl (subst (λ n. IsFirstHeaderOf limits (take n (bytes ++ piece)) w.head) long (head_kept limits bytes piece i w w h refl)),
    )

-- THE COMPLETE FILE means something
pub file_means : (limits : Limits) (bytes : List ℕ) (w : FileState) → (e : EndsFile limits bytes w) → IsWholeFile limits bytes (meaning_of (frame_of_items limits (e.ends).items) (segments_of (e.ends).items) (e.ends).blocks)
file_means limits bytes w e =
    let k = e.ends in
    file_ends limits bytes k.items k.blocks w.items k.at e.complete (k.beside).within

-- SOME BYTES of the rest of a piece

pub front_is : (bytes piece : List ℕ) (done n : ℕ) → (bytes ++ take done piece) ++ take n (drop done piece) ≡ bytes ++ take (done + n) piece
front_is bytes piece done n = append_assoc bytes (take done piece) (take n (drop done piece)) ∙ ap (λ l. bytes ++ l) (sym (take-add done n piece))

-- FILL BYTES inside the data of a scan
pub waiting_scan : (current : Option InScan) (one : InScan) → has_waiting current ≡ true → current ≡ Some one → one.gate ≡ true
waiting_scan None one waits is = cc
waiting_scan (Some current) one waits is = subst (λ (o : Option InScan). has_waiting o ≡ true) is waits

-- none of the bytes are taken
nothing_taken : (limits : Limits) (front bytes : List ℕ) (w : FileState) → RepresentsFile limits front w → RepresentsFile limits (front ++ take 0 bytes) w
nothing_taken limits front bytes w k = subst (λ l. RepresentsFile limits l w) (sym (append-nil front)) k

fills_stand : (w : FileState) (bytes : List ℕ) (n : ℕ) (limits : Limits) (front : List ℕ) → is_some w.scan ≡ true → take n bytes ≡ replicate n 255 → ((n ≡ 0 → ⊥) → has_waiting w.scan ≡ true) → w.taken + n ≤ limits.input
    → RepresentsFile limits front w → RepresentsFile limits (front ++ take n bytes) (record w { taken = w.taken + n })
fills_stand w bytes zero limits front some fill waits room k =
    let same : w.taken + 0 ≡ w.taken = omega arith in
    subst (λ (t : ℕ). RepresentsFile limits (front ++ take 0 bytes) (record w { taken = t })) (sym same) (nothing_taken limits front bytes w k)
fills_stand w bytes (suc m) limits front some fill waits room k =
    let n = suc m in
    let s = inside_of limits front w k some in
    let at = s in
    let size : length (replicate {A = ℕ} n 255) ≡ n = length-replicate {A = ℕ} n 255 in
    let coded = ff_bytes limits s.items s.contents front n at.scan at.coefs at.coded (waiting_scan w.scan at.scan (waits (λ e. omega (arith, e))) at.inside) in
    subst (λ (l : List ℕ). RepresentsFile limits (front ++ l) (record w { taken = w.taken + n })) (sym fill)
    (inr (inside_more s (replicate n 255) (w.taken + n) (omega (arith, size)) room at.coefs at.scan w.window w.scan at.has at.inside coded (omega (arith, few_wait at.scan.gate, size))))

-- THE PREFIX of some bytes, which causes no event, and the byte after it
pub front_fills : (w : FileState) (bytes : List ℕ) (most n : ℕ) → most < length bytes → w.taken + most < (limits_of w).input → is_some w.scan ≡ true → n ≤ length (take most bytes) → take n (take most bytes) ≡ replicate n 255 → ((n ≡ 0 → ⊥) → has_waiting w.scan ≡ true)
    → PassesFront w bytes n (record w { taken = w.taken + n })
front_fills w bytes most n less room some few fill waits =
    let size = length-take-le most bytes (omega (arith, less)) in
    let all : take n bytes ≡ replicate n 255 = sym (take-take n most bytes (omega (arith, few, size))) ∙ fill in
    record {
      within = omega (arith, few, size, less);
      is = refl;
      limits = refl;
      room = omega (arith, few, size, room);
      keeping = refl;
      sparing = λ s. record { keeping = s.keeping; scanned = s.scanned; room = s.room };
      fills = λ e. record { is = refl; fill = all; waits = waits };
      stands = λ q limits front k. (let input : (limits_of w).input ≡ limits.input = ap (λ (l : Limits). l.input) (limits_are _ _ _ k) in
          fills_stand (file_with w q) bytes n limits front some all waits (omega (arith, room, few, size, input)) k);
    }

pub front_passes : (w new : FileState) (bytes : List ℕ) (most n : ℕ) → most < length bytes → w.taken + most < (limits_of w).input → is_some w.scan ≡ false → GoesOn w (take most bytes) n new → settings_of new ≡ settings_of w → (NeedsNoMemory w → NeedsNoMemory new) → PassesFront w bytes n new
front_passes w new bytes most n less room none p keeping sparing =
    let size = length-take-le most bytes (omega (arith, less)) in
    let few = p.within in
    let taken : new.taken ≡ w.taken + n = ap (λ (x : FileState). x.taken) p.is in
    record {
      within = omega (arith, few, size, less);
      is = p.is;
      limits = p.limits;
      room = omega (arith, few, size, room, taken);
      keeping = keeping;
      sparing = sparing;
      fills = λ some. absurd (clash (is_some w.scan) some none);
      stands = λ q limits front k. subst (λ (l : List ℕ). RepresentsFile limits (front ++ l) (file_with new q)) (take-take n most bytes (omega (arith, few, size))) (p.stands q limits front k);
    }

-- with the picture that there is
pub front_stands : {w mid : FileState} {bytes : List ℕ} {n : ℕ} → PassesFront w bytes n mid → (limits : Limits) (front : List ℕ) → RepresentsFile limits front w → RepresentsFile limits (front ++ take n bytes) mid
front_stands {w} {mid} {bytes} {n} p limits front k =
    subst (λ (q : Window). RepresentsFile limits (front ++ take n bytes) (file_with mid q)) (sym (ap (λ (x : FileState). x.window) p.is)) (p.stands w.window limits front k)

pub one_taken : (w mid : FileState) (bytes : List ℕ) (n : ℕ) (answer : Step) (new : FileState) → PassesFront w bytes n mid → ((before : List ℕ) → RepresentsFile (limits_of mid) before mid → AfterFileByte (KeepsBytes mid) (limits_of mid) (before ++ get_or bytes n 0 ∷ []) answer new) → IfStops answer (new.head ≡ mid.head)
    → TakesSome w bytes (n + 1) answer new
one_taken w mid bytes n answer new front took head = record {
  mid = mid;
  early = n;
  count = refl;
  within = front.within;
  head = head;
  scan = by answer;
  ended = ap (λ (x : FileState). x.begun.scans - cond (is_some x.scan) 1 0) front.is;
  room = λ limits before k same. subst (λ (l : Limits). mid.taken < l.input) same front.room;
  before = λ limits before k same. front_stands front limits before k;
  last = λ limits before k same.
      (let is = front.limits ∙ same in
      asked (KeepsBytes mid) (KeepsBytes w) (λ none. sym current ∙ none) limits (before ++ get_or bytes n 0 ∷ []) answer new
      (subst (λ l. AfterFileByte (KeepsBytes mid) l (before ++ get_or bytes n 0 ∷ []) answer new) is (took before (subst (λ l. RepresentsFile l before mid) (sym is) k))));
}
  where
    current : mid.scan ≡ w.scan
    current = ap (λ (x : FileState). x.scan) front.is

    by : (answer : Step) → IfWants answer (mid.scan ≡ w.scan)
    by (came.Ended stop.NoMemory) = current
    by other = tt

pub front_taken : (w : FileState) (bytes : List ℕ) (size n : ℕ) (answer : Step) (new : FileState) → size ≤ length bytes → TakesSome w (take size bytes) n answer new → TakesSome w bytes n answer new
front_taken w bytes size n answer new few t =
    let low = t.within in
    let long = length-take-le size bytes few in
    let same : take t.early (take size bytes) ≡ take t.early bytes = take-take t.early size bytes (omega (arith, low, long)) in
    record {
      mid = t.mid;
      early = t.early;
      count = t.count;
      within = omega (arith, low, long, few);
      head = t.head;
      scan = t.scan;
      ended = t.ended;
      room = t.room;
      before = λ limits front k e. subst (λ l. RepresentsFile limits (front ++ l) t.mid) same (t.before limits front k e);
      last = λ limits front k e. subst (λ b. AfterFileByte (KeepsBytes w) limits (front ++ b ∷ []) answer new) (get_or-take size bytes t.early 0 (omega (arith, low, long))) (t.last limits front k e);
    }

-- Bytes between items, or inside a segment, that are taken together.

-- by what the items pass
pub goes : (w : FileState) (items : Items) (bytes : List ℕ) (n : ℕ) → CanGoOn w bytes → PassesItems w.items bytes n items → GoesOn w bytes n (record w { items = items; taken = w.taken + n })
goes w items bytes n g p = record {
  within = p.within;
  is = refl;
  limits = p.limits;
  count = p.taken;
  stands = λ q limits front k.
      (let old = file_with w q in
      let s = between_of limits front old k (ap is_some g.none) in
      let long = length-take-le n bytes p.within in
      let input : (limits_of w).input ≡ limits.input = ap (λ (l : Limits). l.input) (limits_are limits front old k) in
      after_between limits front (take n bytes) (Ok step.More) old items (w.taken + n) s (p.stands limits front s.items s.blocks s.at) (p.taken ∙ ap (λ (m : ℕ). m + n) g.count) (omega (arith, long)) (omega (arith, g.room, p.within, input)));
}

-- at the start of a piece
pub can_front : (w : FileState) (q : Window) (front bytes : List ℕ) (most : ℕ) → RepresentsFile (limits_of w) front (file_with w q) → w.scan ≡ None → most < length bytes → w.taken + most < (limits_of w).input → CanGoOn w (take most bytes)
can_front w q front bytes most k none less room =
    let s = between_of (limits_of w) front (file_with w q) k (ap is_some none) in
    record { none = none; count = s.beside.same; room = omega (arith, room, length-take-le most bytes (omega (arith, less))) }

pub rest_is : (n : ℕ) (bytes : List ℕ) → take (length bytes - n) (drop n bytes) ≡ drop n bytes
rest_is n bytes = let size = length-drop n bytes in take_all (length bytes - n) (drop n bytes) (omega (arith, size))

pub goes_then : (a b c : FileState) (bytes : List ℕ) (n m : ℕ) → GoesOn a bytes n b → GoesOn b (take (length bytes - n) (drop n bytes)) m c → GoesOn a bytes (n + m) c
goes_then a b c bytes n m p q =
    let taken : (a.taken + n) + m ≡ a.taken + (n + m) = omega arith in record {
      within = omega (arith, p.within, length-drop n bytes, q.within, ap length (rest_is n bytes));
      is = q.is ∙ ap (λ (x : FileState). let y : FileState = record x { items = c.items; taken = x.taken + m } in y) p.is ∙ ap (λ (t : ℕ). record a { items = c.items; taken = t }) taken;
      limits = q.limits ∙ p.limits;
      count = omega (arith, p.count, q.count);
      stands = λ o limits front k.
          subst (λ l. RepresentsFile limits l (file_with c o))
          (append_assoc front (take n bytes) (take m (take (length bytes - n) (drop n bytes))) ∙ ap (λ l. front ++ l) (ap (λ l. take n bytes ++ take m l) (rest_is n bytes) ∙ sym (take_both n m bytes p.within)))
          (q.stands o limits (front ++ take n bytes) (p.stands o limits front k));
    }

-- and after some of them it may go on with the rest
pub can_after : (a b : FileState) (bytes : List ℕ) (n : ℕ) → CanGoOn a bytes → GoesOn a bytes n b → CanGoOn b (take (length bytes - n) (drop n bytes))
can_after a b bytes n g p =
    let taken : b.taken ≡ a.taken + n = ap (λ (x : FileState). x.taken) p.is in
    let left = ap length (rest_is n bytes) in
    record {
      none = ap (λ (x : FileState). x.scan) p.is ∙ g.none;
      count = p.count ∙ ap (λ (m : ℕ). m + n) g.count ∙ sym taken;
      room = subst (λ (l : Limits). b.taken + length (take (length bytes - n) (drop n bytes)) ≤ l.input) (sym p.limits) (omega (arith, p.within, g.room, taken, length-drop n bytes, left));
    }

-- and one more segment of them
pub goes_segment : (w mid : FileState) (items : Items) (bytes : List ℕ) (done n : ℕ) → CanGoOn w bytes → GoesOn w bytes done mid → PassesItems mid.items (take (length bytes - done) (drop done bytes)) n items
    → GoesOn w bytes (done + n) (record mid { items = items; taken = mid.taken + n })
goes_segment w mid items bytes done n can went p = goes_then w mid _ bytes done n went (goes mid items (take (length bytes - done) (drop done bytes)) n (can_after w mid bytes done can went) p)

-- As many bytes as can be taken at once.

-- The bytes begin with this segment alone.
pub one_left : (w : Items) (bytes : List ℕ) (code : ℕ) (contents : List ℕ) (n : ℕ) → SpellsSegment code contents (take n bytes)
    → ((reading_of w.segments).stop ≡ None → MayFollow (reading_of w.segments) code contents → IsLeft w code contents) → HasNoneToPass w bytes
one_left w bytes code contents n spelled left = λ c xs m going may few other.
    let once = segment_once code c contents xs (take n bytes) (take m bytes) (drop n bytes) (drop m bytes) spelled other (take-append-drop n bytes ∙ sym (take-append-drop m bytes)) in
    let first = subst (λ k. MayFollow (reading_of w.segments) k xs) (sym once.0) may in
    let here = left going (subst (λ l. MayFollow (reading_of w.segments) code l) (sym once.1) first) in
    subst (λ k. IsLeft w k xs) once.0 (subst (λ l. IsLeft w code l) once.1 here)

-- No segment is complete there.
pub none_there : (w : Items) (bytes : List ℕ) → HasNoSegment bytes → HasNoneToPass w bytes
none_there w bytes none = λ c xs m going may few other. absurd (none c xs m other)

-- in the rest of some bytes
pub none_in_rest : (w : Items) (bytes : List ℕ) (n : ℕ) → HasNoneToPass w (take (length bytes - n) (drop n bytes)) → HasNoneToPass w (drop n bytes)
none_in_rest w bytes n none = subst (λ l. HasNoneToPass w l) (rest_is n bytes) none

-- segments and what is due
pub passes_most : (old mid : FileState) (bytes : List ℕ) (n m : ℕ) → GoesOn old bytes n mid → HasNoneToPass mid.items (drop n bytes) → PassesDue (mid.items).segments (take (length bytes - n) (drop n bytes)) m
    → PassesMost old bytes (n + m)
passes_most old mid bytes n m segments none due = record {
  mid = mid;
  early = n;
  late = m;
  count = refl;
  segments = segments;
  none = none;
  due = subst (λ l. PassesDue (mid.items).segments l m) (rest_is n bytes) due;
}

pub all_between : (s : Option InScan) (w : FileState) (bytes : List ℕ) (n : ℕ) → is_some s ≡ false → PassesMost w (before_last w bytes) n → PassesAll s w bytes n
all_between None w bytes n none most = most
all_between (Some current) w bytes n none most = absurd cc
