-- What a file that is being read leaves where it ends: complete, or early.
use Rattle.std.proofs.Common.{◌≡◌, ℕ, ◌≤◌, Bool, true, false, List, [], ◌∷◌, ◌++◌, length, refl, sym, ap, ◌∙◌, subst, arith, inl, inr, Option, Some, None, ◌⊎◌, replicate, is_none, length-append}
use Rattle.jpg_spec.specs.Bits.{bits_of_bytes}
use Rattle.jpg_spec.specs.Geometry.{Frame, bounds, no_component}
use Rattle.jpg_spec.specs.Scan.{Blocks}
use Rattle.jpg_spec.specs.Markers.{has_scan, Segment, Pass, soi, has_frame}
use Rattle.jpg_spec.specs.Header.{header_rule}
use Rattle.jpg_spec.specs.InForce.{no_frame, frame_of, frame_after, heads_of}
use Rattle.jpg_spec.specs.History.{has_begun}
use Rattle.jpg_spec.specs.Items.{Item, segments_of, ends_in_scan}
use Rattle.jpg_spec.specs.FileMeaning.{meaning_of}
use Rattle.jpg_spec.specs.FirstFault.{AfterItems, HaveBegun}
use Rattle.jpg_spec.specs.UnfinishedFile.{PartOfItem}
use Rattle.jpg_spec.specs.Early.{ScanInPart, EndsAfter, EndsInside, segments_with}
use Rattle.jpg_spec.specs.Laws.{frame_of_items}
use Rattle.jpg_spec.specs.Parts.{StandsInUnits}
use Rattle.jpg_spec.specs.PictureInWork.{UnitsRead}
use Rattle.jpg_spec.specs.Ranges.{AreInRange}
use Rattle.jpg_spec.specs.ScanReading.{ScanPlace, scan_at, LeadingMarker}
use Rattle.jpg_spec.specs.declared.frame.Limits.{Limits}
use Rattle.jpg_spec.proofs.Basics.Common.{clash}
use Rattle.jpg_spec.proofs.Headers.BeforeScans.{no_heads}
use Rattle.jpg_spec.proofs.EndsEarly.EarlyBegun.{AllNamed, HasSome, begun_behind, begun_inside, after_begun, inside_begun}
use Rattle.jpg_spec.proofs.EndsEarly.EarlyRanges.{in_part_in_range}
use Rattle.jpg_spec.proofs.Files.FileLaws.{means_once, stands_early}
use Rattle.jpg_spec.proofs.Bits.FirstPasses.{all_below}
use Rattle.jpg_spec.proofs.Headers.FrameAfter.{header_too, leads_pass}
use Rattle.jpg_spec.proofs.Headers.HeadersOnce.{after_front}
use Rattle.jpg_spec.proofs.Files.ItemSteps.{after_fill, fill_begin, fill_marker, fill_part}
use Rattle.jpg_spec.proofs.Files.ScanSteps.{inside}
use Rattle.jpg_spec.proofs.Files.Ranges.{leads_in_range}
use Rattle.jpg_coefs.specs.Picture.{Picture, map_of}
use Rattle.jpg_markers.specs.Reading.{reading_of}
use Rattle.jpg_file.specs.Read.SegmentState.{HasBegun, HasBegunEach, IsComplete, Holds, segments_view, kept_for}
use Rattle.jpg_file.specs.Read.File.{EndsFile, PictureSoFar, RepresentsFile, IsBetweenFileItems, IsInsideScanOfFile, keeping_of}
use Rattle.jpg_file.specs.Read.InData.{AtInterval, InData}
use Rattle.jpg_file.specs.Read.Items.{AtPlace, IsBeside}
use Rattle.jpg_file.specs.Read.Left.{Leaves, LeavesPicture}
use Rattle.jpg_file.specs.Read.PictureRead.{MeansFor, RevealsFile}
use Rattle.jpg_file.specs.Read.ReadFile.{EndsBetweenItems, HasRead, IsDone, IsEarlyEnd, ReaderState, TellsBegun}
use Rattle.jpg_scans.specs.declared.progress.Progress.{Progress}
use Rattle.jpg_file.specs.declared.read.scan_history.ScanHistory.{ScanHistory}
use Rattle.jpg_file.specs.declared.read.file.FileState.{FileState}
use Rattle.jpg_file.specs.declared.read.picture.Picture.{Picture as Shown}
use Rattle.jpg_file.proofs.Files.FileSteps.{frame_for, frame_left, one_begun, file_means}
use Rattle.jpg_file.proofs.Files.ItemBytes.{part_after}
use Rattle.jpg_file.proofs.Scans.Machines.{scans_keep_units}
use Rattle.jpg_file.proofs.Scans.ScanBytes.{of_place}
use Rattle.jpg_file.specs.declared.read.window.Window.{Window}
use Rattle.jpg_file.specs.declared.read.window.Window.TheVariants as window
use Rattle.jpg_file.specs.Read.Window.{coefs_in}

-- A COMPLETE FILE

pub file_leaves : (limits : Limits) (bytes : List ℕ) (w : FileState) → (e : EndsFile limits bytes w) → Leaves limits (segments_of (e.ends).items) (e.ends).blocks w
file_leaves limits bytes w e = by w.window refl ((e.ends).beside).picture
  where
    by : (q : Window) → w.window ≡ q → PictureSoFar limits (e.ends).items (e.ends).blocks (coefs_in q) → Leaves limits (segments_of (e.ends).items) (e.ends).blocks w
    by window.None h (none, blank) = absurd (one_begun limits bytes w e none)
    by (window.Row rows) h (none, blank) = absurd (one_begun limits bytes w e none)
    by (window.All q) h (found, is, as_map) =
        let k = e.ends in
        let f = frame_left limits bytes w e in
        record {
          coefs = q;
          has = h;
          framed = is;
          as_map = as_map;
          frame = f.frame;
          held = f.has;
          is = f.is;
          holds = (k.at).holds;
          begun = (k.beside).begun;
          complete = e.complete;
          range = leads_in_range limits k.items k.blocks ((k.at).at).leads;
        }

pub whole_leaves : (limits : Limits) (bytes : List ℕ) (w : FileState) → EndsFile limits bytes w → LeavesPicture limits w
whole_leaves limits bytes w e = (segments_of (e.ends).items, (e.ends).blocks, file_leaves limits bytes w e)

pub takes_whole : (r : ReaderState) (bytes : List ℕ) (p : Shown) → RevealsFile r.file p → (d : IsDone bytes r) → MeansFor (keeping_of r.file) p d.meaning
takes_whole r bytes p shows d =
    let e = d.ended in
    let k = e.ends in
    let N = meaning_of (frame_of_items r.limits k.items) (segments_of k.items) k.blocks in
    shows r.limits (segments_of k.items) k.blocks (file_leaves r.limits bytes r.file e) ∙ ap (kept_for (keeping_of r.file)) (means_once r.limits bytes bytes N d.meaning (file_means r.limits bytes r.file e).0 (d.whole).0 refl).0

-- THE SCANS SO FAR name each component, or don't

none_complete : (all : Bool) → IsComplete None all → all ≡ true → ⊥
none_complete all told e = clash all e (told (record no_frame { components = no_component ∷ [] }) [] (omega arith) refl)

pub named_by : (limits : Limits) (b : ScanHistory) (before : List Segment) (all : Bool) → HasBegun limits b before → IsComplete b.progress all → (has_frame before ≡ true → HasSome limits before) → all ≡ true → AllNamed limits before
named_by limits b before all h told some e = by (is_none b.progress) refl
  where
    none_of : (o : Option Progress) → is_none o ≡ true → o ≡ None
    none_of None k = refl
    none_of (Some p) k = cc

    by : (none : Bool) → is_none b.progress ≡ none → AllNamed limits before
    by true k = absurd (none_complete all (subst (λ o. IsComplete o all) (none_of b.progress k) told) e)
    by false k =
        let found = h.framed k in
        record { found = found; complete = sym (told (frame_of limits before) (heads_of (frame_of limits before) before) (some found) h.scans) ∙ e }

not_named : (limits : Limits) (b : ScanHistory) (before : List Segment) (all : Bool) → HasBegun limits b before → IsComplete b.progress all → (has_frame before ≡ true → HasSome limits before) → all ≡ false → AllNamed limits before → ⊥
not_named limits b before all h told some e w = clash all (told (frame_of limits before) (heads_of (frame_of limits before) before) (some w.found) h.scans ∙ w.complete) e

-- WHERE IT IS

-- what it leaves there, if each component has begun
pub record EndsHere (limits : Limits) (bytes : List ℕ) (w : FileState) (segments : List Segment) (blocks : Blocks) : Type 0 where
  pub have : HaveBegun limits bytes
  pub ends : (let M = meaning_of (frame_of limits segments) segments blocks in EndsAfter limits bytes M ⊎ EndsInside limits bytes M)
  pub coefs : Picture
  pub has : w.window ≡ window.All coefs
  pub framed : coefs.frame ≡ frame_of limits segments
  pub as_map : blocks ≡ map_of coefs
  pub range : AreInRange (bounds (frame_of limits segments)) blocks

-- the segments up to there
pub record AtEnd (limits : Limits) (bytes : List ℕ) (w : FileState) : Type 0 where
  pub segments : List Segment
  pub blocks : Blocks
  pub begun : HasBegun limits w.begun segments
  pub holds : Holds limits (segments_view w.items.held) segments
  pub headers : Pass (header_rule limits) segments
  pub named : HaveBegun limits bytes → AllNamed limits segments
  pub here : HasSome limits segments → AllNamed limits segments → EndsHere limits bytes w segments blocks

pub some_for : (limits : Limits) (segments : List Segment) → Pass (header_rule limits) segments → has_frame segments ≡ true → HasSome limits segments
some_for limits segments pass found =
    let f = frame_for limits segments (frame_after limits segments) refl pass found in subst (λ (g : Frame). 1 ≤ length g.components) (sym f.is) f.some

-- AFTER ITEMS

-- before SOI is complete nothing has begun
start_begun_none : (limits : Limits) (bytes : List ℕ) → (bytes ≡ []) ⊎ (bytes ≡ 255 ∷ []) → HaveBegun limits bytes → ⊥
start_begun_none limits bytes short w =
    let h = after_front w.items w.front w.spelled in
    let a = ap length w.cut in
    let b = length-append (w.front ++ w.head) w.rest in
    let c = length-append w.front w.head in
    let d = ap length h.1 ∙ length-append soi h.0 in
    let two : length soi ≡ 2 = refl in
    long short (omega (arith, a, b, c, d, two))
  where
    long : (bytes ≡ []) ⊎ (bytes ≡ 255 ∷ []) → 2 ≤ length bytes → ⊥
    long (inl e) n = let k = ap length e in omega (arith, k, n)
    long (inr e) n = let k = ap length e in omega (arith, k, n)

start_not_named : (limits : Limits) (items : List Item) → items ≡ [] → AllNamed limits (segments_of items) → ⊥
start_not_named limits items e w = clash (has_frame (segments_of items)) w.found (ap (λ z. has_frame (segments_of z)) e)

-- fill bytes before a marker
filled_marker : (fill : ℕ) (tail : List ℕ) → LeadingMarker tail → LeadingMarker (replicate fill 255 ++ tail)
filled_marker fill tail m = record { code = m.code; marker = replicate fill 255 ++ m.marker; rest = m.rest; spelled = fill_marker fill m.code m.marker m.spelled; cut = after_fill fill tail m.marker m.rest m.cut }

pub filled_item : (fill : ℕ) (items : List Item) (tail : List ℕ) → PartOfItem items tail → PartOfItem items (replicate fill 255 ++ tail)
filled_item fill items tail (inl k) = inl (k.0, fill_begin fill (segments_of items) k.0 tail k.1)
filled_item fill items tail (inr k) = inr (fill_part fill (segments_of items) tail k)

pub filled_begun : (fill : ℕ) (items : List Item) (tail : List ℕ) → ((fill ≡ 0) × (ends_in_scan items ≡ false)) ⊎ LeadingMarker tail → (ends_in_scan items ≡ false) ⊎ LeadingMarker (replicate fill 255 ++ tail)
filled_begun fill items tail (inl k) = inl k.1
filled_begun fill items tail (inr k) = inr (filled_marker fill tail k)

-- the picture there is
record PictureHere (limits : Limits) (segments : List Segment) (blocks : Blocks) (o : Window) : Type 0 where
  pub coefs : Picture
  pub has : o ≡ window.All coefs
  pub framed : coefs.frame ≡ frame_of limits segments
  pub as_map : blocks ≡ map_of coefs

scan_there : (limits : Limits) (items : List Item) → HasSome limits (segments_of items) → AllNamed limits (segments_of items) → has_scan (segments_of items) ≡ false → ⊥
scan_there limits items some w none =
    let f = frame_of limits (segments_of items) in
    let heads = no_heads f (segments_of items) none in
    let one = all_below (has_begun (heads_of f (segments_of items))) (length f.components) 0 w.complete some in
    clash (has_begun (heads_of f (segments_of items)) 0) one (ap (λ hs. has_begun hs 0) heads)

picture_here : (limits : Limits) (items : List Item) (blocks : Blocks) (o : Window) → HasSome limits (segments_of items) → AllNamed limits (segments_of items) → PictureSoFar limits items blocks (coefs_in o) → PictureHere limits (segments_of items) blocks o
picture_here limits items blocks (window.All q) some w (found, is, as_map) = record { coefs = q; has = refl; framed = is; as_map = as_map }
picture_here limits items blocks window.None some w (none, blank) = absurd (scan_there limits items some w none)
picture_here limits items blocks (window.Row rows) some w (none, blank) = absurd (scan_there limits items some w none)

beside_end : (limits : Limits) (bytes sent : List ℕ) (w : FileState) (s : IsBetweenFileItems limits bytes w) (tail : List ℕ) → IsBeside limits bytes sent s.items s.blocks tail → PartOfItem s.items tail → AtEnd limits bytes w
beside_end limits bytes sent w s tail k part =
    let b = (k.beside).behind in
    let all = replicate (k.beside).fill 255 ++ tail in
    let part' = filled_item (k.beside).fill s.items tail part in
    let behind : AfterItems limits bytes s.items all = record { front = b.front; blocks = s.blocks; cut = b.cut; spelled = b.spelled; leads = k.leads } in
    record {
      segments = segments_of s.items;
      blocks = s.blocks;
      begun = (s.beside).begun;
      holds = (s.at).holds;
      headers = leads_pass limits s.items s.blocks k.leads;
      named = begun_behind limits bytes s.items all behind part';
      here = λ some named. (let q = picture_here _ _ _ _ some named (s.beside).picture in
          record {
            have = after_begun limits bytes s.items all behind some named;
            ends = inl (record { items = s.items; tail = all; behind = behind; part = part'; begun = filled_begun (k.beside).fill s.items tail (k.beside).plain; meaning = refl });
            coefs = q.coefs;
            has = q.has;
            framed = q.framed;
            as_map = q.as_map;
            range = leads_in_range limits s.items s.blocks k.leads;
          });
    }

between_end : (limits : Limits) (bytes : List ℕ) (w : FileState) → IsBetweenFileItems limits bytes w → AtEnd limits bytes w
between_end limits bytes w s = by (s.at).at
  where
    by : AtPlace limits bytes (s.at).sent s.items s.blocks → AtEnd limits bytes w
    by (inl k) = record {
      segments = segments_of s.items;
      blocks = s.blocks;
      begun = (s.beside).begun;
      holds = (s.at).holds;
      headers = subst (λ z. Pass (header_rule limits) (segments_of z)) (sym k.no_items) tt;
      named = λ begun. absurd (start_begun_none limits bytes (subst (λ z. (z ≡ []) ⊎ (z ≡ 255 ∷ [])) (sym k.same) k.short) begun);
      here = λ some named. absurd (start_not_named limits s.items k.no_items named);
    }
    by (inr (tail, k)) =
        let r = reading_of (w.items).segments in
        beside_end limits bytes (s.at).sent w s tail k (part_after limits bytes (s.at).sent s.items s.blocks r tail r.phase (s.at).bounded k ((s.at).stands).1)

pub ends_between : (limits : Limits) (bytes : List ℕ) (w : FileState) → IsBetweenFileItems limits bytes w → EndsBetweenItems limits bytes
ends_between limits bytes w s = by (s.at).at
  where
    by : AtPlace limits bytes (s.at).sent s.items s.blocks → EndsBetweenItems limits bytes
    by (inl k) = inl (subst (λ z. (z ≡ []) ⊎ (z ≡ 255 ∷ [])) (sym k.same) k.short)
    by (inr (tail, k)) =
        let r = reading_of (w.items).segments in
        let part = part_after limits bytes (s.at).sent s.items s.blocks r tail r.phase (s.at).bounded k ((s.at).stands).1 in
        inr (s.items, replicate (k.beside).fill 255 ++ tail, (k.beside).behind, filled_item (k.beside).fill s.items tail part)

-- INSIDE THE DATA OF A SCAN

-- what the machine's units and the intervals so far encode is in the picture
record InPart (limits : Limits) (p : ScanPlace) (now : Picture) : Type 0 where
  pub part : ScanInPart (scan_at limits p) p.blocks p.done p.coded p.places p.later (map_of now)
  pub framed : now.frame ≡ frame_of limits (segments_of p.items)

in_part : (limits : Limits) (bytes : List ℕ) (w : FileState) (s : IsInsideScanOfFile limits bytes w) → InPart limits ((s.coded).place) s.coefs
in_part limits bytes w s = by s.scan.whole (d.work).at
  where
    d : InData limits s.items s.contents bytes s.scan s.coefs
    d = s.coded

    p : ScanPlace
    p = (s.coded).place

    now : Picture
    now = s.coefs

    by : (b : Bool) → AtInterval limits ((s.coded).place) b s.scan.machine s.coefs → InPart limits ((s.coded).place) s.coefs
    by true k = record { part = inr k.so_far; framed = k.framed }
    by false k =
        let i = k.interval in
        let u = scans_keep_units.unfinished s.scan.machine i (bits_of_bytes p.coded) now k.stands in
        let stands = of_place limits p i (λ c us. StandsInUnits c us (u.whole ++ u.part) u.left (bits_of_bytes p.coded)) (d.work).readable k.is k.so_far u.stands in
        record {
          part = inl (record {
            work = map_of i.before;
            whole = u.done;
            due = u.due;
            told = u.whole;
            part = u.part;
            left = u.left;
            so_far = k.so_far;
            all = sym (k.is).places ∙ u.all;
            count = u.left_count ∙ sym u.due_count;
            stands = stands;
            read = subst (λ sc. UnitsRead sc u.done (map_of i.before) (map_of now) u.whole) (k.is).scan u.read;
          });
          framed = u.frame ∙ k.framed;
        }

inside_end : (limits : Limits) (bytes : List ℕ) (w : FileState) → IsInsideScanOfFile limits bytes w → AtEnd limits bytes w
inside_end limits bytes w s =
    let d = s.coded in
    let p = d.place in
    let tail = replicate d.fill 255 in
    let i = inside limits bytes p tail d.at in
    let before = segments_of p.items in
    let segments = segments_with p.items p.contents in
    let same : (0xda, s.contents) ∷ segments_of s.items ≡ segments = ap (λ z. segments_with z s.contents) (sym (d.of).0) ∙ ap (segments_with p.items) (sym (d.of).1) in
    let after = map_of s.coefs in
    let part = in_part limits bytes w s in
    record {
      segments = segments;
      blocks = after;
      begun = subst (λ z. HasBegun limits w.begun z) same (s.held).begun;
      holds = subst (λ z. Holds limits (segments_view w.items.held) z) same ((s.held).head).holds;
      headers = (i.allowed.0, header_too limits before 0xda p.contents i.allowed.1, leads_pass limits p.items p.blocks i.leads);
      named = begun_inside limits bytes tail d.fill i refl;
      here = λ some named.
          (let range = in_part_in_range limits p.items p.contents p.blocks after p.done p.coded p.places p.later i.leads i.allowed.1 part.part in
          record {
            have = inside_begun limits bytes tail i named;
            ends = inr (record { tail = tail; at = i; after = after; fill = (d.fill, refl); scan = part.part; meaning = refl });
            coefs = s.coefs;
            has = s.has;
            framed = part.framed;
            as_map = refl;
            range = record { sizes = range.1; values = range.0 };
          });
    }

pub at_end : (limits : Limits) (bytes : List ℕ) (w : FileState) → RepresentsFile limits bytes w → AtEnd limits bytes w
at_end limits bytes w (inl s) = between_end limits bytes w s
at_end limits bytes w (inr s) = inside_end limits bytes w s

-- THE FILE ENDS THERE

pub some_at : (limits : Limits) (bytes : List ℕ) (w : FileState) → (a : AtEnd limits bytes w) → has_frame a.segments ≡ true → HasSome limits a.segments
some_at limits bytes w a found = some_for limits a.segments a.headers found

pub tells_begun : (limits : Limits) (bytes : List ℕ) (w : FileState) (all : Bool) → RepresentsFile limits bytes w → IsComplete w.begun.progress all → TellsBegun limits bytes all
tells_begun limits bytes w all s told = by all refl
  where
    by : (b : Bool) → all ≡ b → TellsBegun limits bytes b
    by true e =
        let a = at_end limits bytes w s in
        let named = named_by limits w.begun a.segments all a.begun told (some_at limits bytes w a) e in
        (a.here (some_at limits bytes w a named.found) named).have
    by false e = λ begun.
        (let a = at_end limits bytes w s in not_named limits w.begun a.segments all a.begun told (some_at limits bytes w a) e (a.named begun))

-- each component was in a scan
pub each_complete : (o : Option Progress) (all : Bool) → HasBegunEach o → IsComplete o all → all ≡ true
each_complete o all h told = told h.frame h.heads h.some h.scans ∙ h.each

pub ends_each : (limits : Limits) (bytes : List ℕ) (w : FileState) → EndsFile limits bytes w → HasBegunEach w.begun.progress
ends_each limits bytes w e =
    let f = frame_of_items limits (e.ends).items in
    let left = frame_left limits bytes w e in
    record {
      frame = f;
      heads = heads_of f (segments_of (e.ends).items);
      some = subst (λ (g : Frame). 1 ≤ length g.components) (sym left.is) left.some;
      scans = (((e.ends).beside).begun).scans;
      each = e.complete;
    }

pub named_each : (limits : Limits) (bytes : List ℕ) (w : FileState) (all : Bool) → RepresentsFile limits bytes w → IsComplete w.begun.progress all → all ≡ true → HasBegunEach w.begun.progress
named_each limits bytes w all s told e =
    let a = at_end limits bytes w s in
    let f = frame_of limits a.segments in
    let named = named_by limits w.begun a.segments all a.begun told (some_at limits bytes w a) e in
    record { frame = f; heads = heads_of f a.segments; some = some_at limits bytes w a named.found; scans = (a.begun).scans; each = named.complete }

leaves_at : (limits : Limits) (bytes : List ℕ) (w : FileState) → (a : AtEnd limits bytes w) → AllNamed limits a.segments → Leaves limits a.segments a.blocks w
leaves_at limits bytes w a named =
    let h = a.here (some_at limits bytes w a named.found) named in
    let f = frame_for limits a.segments w.items.held.frame (a.holds).frame a.headers named.found in
    record {
      coefs = h.coefs;
      has = h.has;
      framed = h.framed;
      as_map = h.as_map;
      frame = f.frame;
      held = f.has;
      is = f.is;
      holds = a.holds;
      begun = a.begun;
      complete = named.complete;
      range = h.range;
    }

pub early_leaves : (limits : Limits) (bytes : List ℕ) (w : FileState) (all : Bool) → RepresentsFile limits bytes w → IsComplete w.begun.progress all → all ≡ true → LeavesPicture limits w
early_leaves limits bytes w all s told e =
    let a = at_end limits bytes w s in
    (a.segments, a.blocks, leaves_at limits bytes w a (named_by limits w.begun a.segments all a.begun told (some_at limits bytes w a) e))

pub ends_early : (r : ReaderState) (bytes : List ℕ) (all : Bool) → HasRead bytes r → IsComplete r.file.begun.progress all → all ≡ true → IsEarlyEnd bytes (record r { done = true })
ends_early r bytes all h told e =
    let a = at_end r.limits bytes r.file h.open in
    let named = named_by r.limits r.file.begun a.segments all a.begun told (some_at r.limits bytes r.file a) e in
    let here = a.here (some_at r.limits bytes r.file a named.found) named in
    record {
      done = refl;
      segments = a.segments;
      blocks = a.blocks;
      early = (stands_early r.limits bytes h.stands h.short here.have, here.ends);
      left = leaves_at r.limits bytes r.file a named;
      head = h.head;
    }
