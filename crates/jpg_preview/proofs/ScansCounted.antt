-- HOW MANY SCANS' DATA have ended, where the front of a file ends.
use Rattle.std.proofs.Common.{◌≡◌, ℕ, suc, cond, ◌+◌, ◌-◌, ◌/◌, ◌%◌, ◌<◌, ◌≤◌, true, false, List, [], ◌∷◌, ◌++◌, length, take, drop, refl, sym, ap, ◌∙◌, subst, arith, inl, inr}
use Rattle.std.specs.Prelude.{◌⊎◌, replicate, slice_index}
use Rattle.std.specs.Int.{to_be_bytes, w16}
use Rattle.std.proofs.Math.Seq.{take-add, take-append-add}
use Rattle.std.proofs.lemmas.List.{append_assoc, append-nil, take_more, take-append-le}
use Rattle.std.proofs.lemmas.Bool.{cases_lt}
use Rattle.jpg_spec.specs.Scan.{Blocks}
use Rattle.jpg_spec.specs.Markers.{SpellsMarker, SpellsSegment}
use Rattle.jpg_spec.specs.Items.{Item, SpellsFront, segment, scan, segments_of, ends_in_scan}
use Rattle.jpg_spec.specs.FileMeaning.{Leads}
use Rattle.jpg_spec.specs.FirstFault.{AfterItems, HaveBegun}
use Rattle.jpg_spec.specs.ScanReading.{LeadingMarker}
use Rattle.jpg_spec.specs.declared.frame.Limits.{Limits}
use Rattle.jpg_spec.proofs.Basics.Common.{clash, not_same}
use Rattle.jpg_spec.proofs.EndsEarly.EarlyBegun.{begun_behind}
use Rattle.jpg_spec.proofs.Files.FilesOnce.{after_more, begins_more}
use Rattle.jpg_spec.proofs.Segments.MarkersOnce.{no_head}
use Rattle.jpg_spec_image.specs.Front.{EndsNotBefore, EndsScan, scans_in}
use Rattle.jpg_spec_image.proofs.Fronts.{ends_begun}
use Rattle.jpg_file.specs.Read.SegmentState.{scan_headers}
use Rattle.jpg_file.specs.Read.ScanPieces.{NoScanEnds, ScanEnds, EndedBetween, ScansEnded}
use Rattle.jpg_file.proofs.Files.ReaderFed.{complete_ended, scans_more}
use Rattle.jpg_spec.proofs.Files.ScanSteps.{inside as inside_at}
use Rattle.jpg_preview.specs.Viewing.{HasScans, LacksScans}
use Rattle.jpg_preview.proofs.LastBytes.{last_cut, last_place, no_restart, one_last}

-- THE SCANS among items are their scan headers
headers_are : (items : List Item) (front : List ℕ) → SpellsFront items front → scan_headers (segments_of items) ≡ scans_in items
headers_are [] front s = refl
headers_are (segment code contents ∷ items) front s =
    ap (λ t. cond t (suc (scan_headers (segments_of items))) (scan_headers (segments_of items))) (not_same code 0xda s.4.2) ∙ headers_are items s.0 s.3
headers_are (scan contents intervals ∷ items) front s = ap suc (headers_are items s.0 s.3)

-- WHERE A FRONT ENDS a further scan's data end

ends_leads : (limits : Limits) (scans : ℕ) (bytes : List ℕ) (e : EndsScan limits scans bytes) → LeadingMarker e.marker
ends_leads limits scans bytes e = record { code = e.code; marker = e.marker; rest = []; spelled = e.spelled; cut = sym (append-nil e.marker) }

-- no more than these
ends_few : (limits : Limits) (scans m : ℕ) (bytes : List ℕ) → EndsScan limits scans bytes → ScansEnded limits bytes m → scans ≤ m
ends_few limits scans m bytes e k =
    let few = complete_ended limits bytes e.items e.marker m (record { behind = e.behind; begun = inr (ends_leads limits scans bytes e) }) k in
    let same = headers_are e.items (e.behind).front (e.behind).spelled in
    let enough = e.enough in
    omega (arith, few, same, enough)

-- not with a byte if as many ended before the bytes as after some more
no_end_here : (limits : Limits) (scans n : ℕ) (a x c rest all : List ℕ) (b : ℕ) → a ++ x ≡ c → (c ++ b ∷ []) ++ rest ≡ all → ScansEnded limits a n → ScansEnded limits all n → EndsScan limits scans (c ++ b ∷ []) → ⊥
no_end_here limits scans n a x c rest all b e f before after k =
    let m = k.spelled in
    let w = k.behind in
    let cut = one_last c (w.front ++ replicate (suc m.0) 255) b k.code (w.cut ∙ ap (λ l. w.front ++ l) m.1 ∙ sym (append_assoc w.front (replicate (suc m.0) 255) (k.code ∷ []))) in
    let p = last_place limits c k.items (replicate (suc m.0) 255) k.last (record { front = w.front; blocks = w.blocks; cut = cut.0; spelled = w.spelled; leads = w.leads }) in
    let inside : ScansEnded limits c (scan_headers (segments_of p.place.items)) = inr (inr (record { fill = suc m.0; inside = inside_at limits c p.place (replicate (suc m.0) 255) p.at; count = refl })) in
    let low = scans_more limits a x c n (scan_headers (segments_of p.place.items)) e before inside in
    let high = complete_ended limits all k.items (k.marker ++ rest) n
    (record { behind = after_more limits (c ++ b ∷ []) rest all k.items k.marker f w; begun = inr (begins_more k.marker rest (ends_leads limits scans (c ++ b ∷ []) k)) }) after in
    let one = ap (λ l. scan_headers (segments_of l)) p.are in
    omega (arith, low, high, one)

-- THE PIECE: none ends with so many of its bytes
pub no_end_at : (limits : Limits) (scans early : ℕ) (bytes piece : List ℕ) (m : ℕ) → NoScanEnds limits bytes piece early → 1 ≤ m → m ≤ early → EndsScan limits scans (bytes ++ take m piece) → ⊥
no_end_at limits scans early bytes piece m k some low ends =
    let few = k.few in
    let i = m - 1 in
    let is : m ≡ i + 1 = omega (arith, some) in
    let b = slice_index piece i in
    let cut : bytes ++ take m piece ≡ (bytes ++ take i piece) ++ b ∷ [] =
    ap (λ n. bytes ++ take n piece) is ∙ ap (λ l. bytes ++ l) (take_more piece i 0 (omega (arith, low, few, is))) ∙ sym (append_assoc bytes (take i piece) (b ∷ [])) in
    let up : early ≡ m + (early - m) = omega (arith, low) in
    let rest = take (early - m) (drop m piece) in
    let all : ((bytes ++ take i piece) ++ b ∷ []) ++ rest ≡ bytes ++ take early piece =
    ap (λ l. l ++ rest) (sym cut) ∙ append_assoc bytes (take m piece) rest ∙ ap (λ l. bytes ++ l) (sym (take-add m (early - m) piece) ∙ ap (λ n. take n piece) (sym up)) in
    no_end_here limits scans k.n bytes (take i piece) (bytes ++ take i piece) rest (bytes ++ take early piece) b refl all k.before k.after (subst (EndsScan limits scans) cut ends)

pub none_on : (limits : Limits) (scans early : ℕ) (bytes piece : List ℕ) → NoScanEnds limits bytes piece early → EndsNotBefore limits scans bytes (suc (length bytes)) → EndsNotBefore limits scans (bytes ++ piece) (suc (length bytes + early))
none_on limits scans early bytes piece k none = λ m less e. by m less e (cases_lt (length bytes) m)
  where
    by : (m : ℕ) → m < suc (length bytes + early) → EndsScan limits scans (take m (bytes ++ piece)) → (length bytes < m) ⊎ (m ≤ length bytes) → ⊥
    by m less e (inr few) = none m (omega (arith, few)) (subst (EndsScan limits scans) (take-append-le m bytes piece few) e)
    by m less e (inl late) =
        let j = m - length bytes in
        let is : m ≡ length bytes + j = omega (arith, late) in
        no_end_at limits scans early bytes piece j k (omega (arith, late)) (omega (arith, late, less))
        (subst (EndsScan limits scans) (ap (λ n. take n (bytes ++ piece)) is ∙ take-append-add bytes piece j) e)

-- WHERE ONE MORE ENDED, the last byte is the code of the marker after its data

-- complete items before the last byte, if the marker of a further one is there
cut_ended : (limits : Limits) (c : List ℕ) (b n : ℕ) (items : List Item) (blocks : Blocks) (front all : List ℕ) → ScansEnded limits c n → c ++ b ∷ [] ≡ front ++ all → SpellsFront items front → Leads limits items blocks
    → (m : LeadingMarker all) → (m.rest ≡ [] → ⊥) → scan_headers (segments_of items) ≤ n
cut_ended limits c b n items blocks front all k cut spelled leads m more = by (last_cut c (front ++ m.marker) m.rest b (cut ∙ ap (λ l. front ++ l) m.cut ∙ sym (append_assoc front m.marker m.rest)))
  where
    by : (m.rest ≡ []) ⊎ ((t : List ℕ) × (m.rest ≡ t ++ b ∷ []) × (c ≡ (front ++ m.marker) ++ t)) → scan_headers (segments_of items) ≤ n
    by (inl none) = absurd (more none)
    by (inr t) =
        complete_ended limits c items (m.marker ++ t.0) n
        (record {
          behind = record { front = front; blocks = blocks; cut = t.2 ∙ append_assoc front m.marker t.0; spelled = spelled; leads = leads };
          begun = inr (record { code = m.code; marker = m.marker; rest = t.0; spelled = m.spelled; cut = refl });
        })
        k

-- a segment begins with a marker, and its length follows
abbrev segment_leads : (code : ℕ) (contents bytes x : List ℕ) → SpellsSegment code contents bytes → LeadingMarker (bytes ++ x)
segment_leads code contents bytes x s = record {
  code = code;
  marker = s.0;
  rest = to_be_bytes w16 (length contents + 2) ++ contents ++ x;
  spelled = s.1;
  cut = ap (λ l. l ++ x) (s.3 ∙ append_assoc s.0 (to_be_bytes w16 (length contents + 2)) contents) ∙ append_assoc s.0 (to_be_bytes w16 (length contents + 2) ++ contents) x;
}

length_some : (n : ℕ) (xs : List ℕ) → to_be_bytes w16 n ++ xs ≡ [] → ⊥
length_some n xs e = no_head (n / 256 % 256) (n % 256 ∷ xs) (sym e)

-- items whose last one is a scan, and the marker after its data
pub record MarkerEnds (limits : Limits) (bytes : List ℕ) (m : ℕ) : Type 0 where
  pub between : EndedBetween limits bytes m
  pub last : ends_in_scan between.items ≡ true
  pub code : ℕ
  pub spelled : SpellsMarker code between.tail

marker_ends : (limits : Limits) (c : List ℕ) (b n m : ℕ) → ScansEnded limits c n → n < m → ScansEnded limits (c ++ b ∷ []) m → MarkerEnds limits (c ++ b ∷ []) m
marker_ends limits c b n m k less (inl s) = (let none = s.1 in absurd (omega (arith, none, less)))
marker_ends limits c b n m k less (inr (inr l)) =
    let i = l.inside in
    let fill : List ℕ = replicate l.fill 255 in
    let few = cut_ended limits c b n i.items i.blocks i.front (i.head ++ (i.text ++ fill)) k (i.cut ∙ append_assoc (i.front ++ i.head) i.text fill ∙ append_assoc i.front i.head (i.text ++ fill)) i.spelled i.leads
    (segment_leads 0xda i.contents i.head (i.text ++ fill) i.header) (length_some (length i.contents + 2) (i.contents ++ (i.text ++ fill))) in
    let count = l.count in
    absurd (omega (arith, few, count, less))
marker_ends limits c b n m k less (inr (inl l)) = by l.items refl l.behind
  where
    few : scan_headers (segments_of l.items) ≤ n → MarkerEnds limits (c ++ b ∷ []) m
    few low = (let count = l.count in absurd (omega (arith, low, count, less)))

    with_marker : ends_in_scan l.items ≡ true → LeadingMarker l.tail → MarkerEnds limits (c ++ b ∷ []) m
    with_marker last w = of w.rest refl
      where
        of : (rest : List ℕ) → w.rest ≡ rest → MarkerEnds limits (c ++ b ∷ []) m
        of [] none = record { between = l; last = last; code = w.code; spelled = subst (SpellsMarker w.code) (sym (w.cut ∙ ap (λ r. w.marker ++ r) none ∙ append-nil w.marker)) w.spelled }
        of (r ∷ rest) some =
            few (cut_ended limits c b n l.items (l.behind).blocks (l.behind).front l.tail k (l.behind).cut (l.behind).spelled (l.behind).leads w (λ none. no_head r rest (sym none ∙ some)))

    by : (items : List Item) → l.items ≡ items → AfterItems limits (c ++ b ∷ []) items l.tail → MarkerEnds limits (c ++ b ∷ []) m
    by [] is w = few (let none = ap (λ z. scan_headers (segments_of z)) is in omega (arith, none))
    by (scan contents intervals ∷ items) is w = with_marker (ap ends_in_scan is) (begun l.begun)
      where
        begun : (ends_in_scan l.items ≡ false) ⊎ LeadingMarker l.tail → LeadingMarker l.tail
        begun (inl h) = absurd (clash (ends_in_scan l.items) (ap ends_in_scan is) h)
        begun (inr h) = h
    by (segment code contents ∷ items) is w =
        let s = w.spelled in
        let low = cut_ended limits c b n items w.blocks s.0 (s.1 ++ l.tail) k (w.cut ∙ ap (λ z. z ++ l.tail) s.2 ∙ append_assoc s.0 s.1 l.tail) s.3 (w.leads).2
        (segment_leads code contents s.1 l.tail s.4.0) (length_some (length contents + 2) (contents ++ l.tail)) in
        let same = ap (λ z. scan_headers (segments_of z)) is ∙ ap (λ t. cond t (suc (scan_headers (segments_of items))) (scan_headers (segments_of items))) (not_same code 0xda s.4.2) in
        few (omega (arith, low, same))

-- THE FRONT ENDS THERE, if so many ended and each component has begun, and else it doesn't

pub wanted_end : (limits : Limits) (scans : ℕ) (bytes piece : List ℕ) (used : ℕ) → ScanEnds limits bytes piece used → HasScans scans limits (bytes ++ take used piece) → HaveBegun limits (bytes ++ take used piece) → EndsScan limits scans (bytes ++ take used piece)
wanted_end limits scans bytes piece used k enough begun =
    let i = k.early in
    let none = k.none in
    let count = k.count in
    let within = k.within in
    let b = slice_index piece i in
    let cut : bytes ++ take used piece ≡ (bytes ++ take i piece) ++ b ∷ [] =
    ap (λ n. bytes ++ take n piece) count ∙ ap (λ l. bytes ++ l) (take_more piece i 0 (omega (arith, count, within))) ∙ sym (append_assoc bytes (take i piece) (b ∷ [])) in
    let e = marker_ends limits (bytes ++ take i piece) b none.n k.more none.after k.later (subst (λ l. ScansEnded limits l k.more) cut k.ended) in
    let l = e.between in
    let w = l.behind in
    subst (EndsScan limits scans) (sym cut)
    (record {
      items = l.items;
      code = e.code;
      marker = l.tail;
      behind = w;
      last = e.last;
      spelled = e.spelled;
      other = no_restart l.items l.tail e.code l.part e.spelled;
      enough =
          (let low = enough.2 in
          let high = scans_more limits (bytes ++ take used piece) [] ((bytes ++ take i piece) ++ b ∷ []) enough.0 k.more (append-nil (bytes ++ take used piece) ∙ cut) enough.1 (subst (λ x. ScansEnded limits x k.more) cut k.ended) in
          let all = l.count in
          let same = headers_are l.items w.front w.spelled in
          omega (arith, low, high, all, same));
      named = (begun_behind limits ((bytes ++ take i piece) ++ b ∷ []) l.items l.tail w l.part (subst (HaveBegun limits) cut begun)).complete;
    })

pub unwanted : (limits : Limits) (scans : ℕ) (bytes : List ℕ) → LacksScans scans limits bytes ⊎ (HaveBegun limits bytes → ⊥) → EndsScan limits scans bytes → ⊥
unwanted limits scans bytes (inl k) e = (let few = ends_few limits scans k.0 bytes e k.1 in let less = k.2 in omega (arith, few, less))
unwanted limits scans bytes (inr none) e = none (ends_begun limits scans bytes e)
