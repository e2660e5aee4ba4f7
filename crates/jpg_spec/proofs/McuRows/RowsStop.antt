-- THE LAW: bytes that stop in the data of a scan of all components complete the MCU rows that are decoded.
use Rattle.std.proofs.Common.{◌≡◌, ℕ, ◌+◌, ◌%◌, List, [], ◌∷◌, ◌++◌, length, refl, sym, ap, ◌∙◌, subst, arith, inl, inr}
use Rattle.std.specs.Prelude.{◌⊎◌, replicate}
use Rattle.std.proofs.lemmas.List.{append-nil, length-append}
use Rattle.jpg_spec.specs.Lists.{chunks}
use Rattle.jpg_spec.specs.Scan.{Blocks, Scan, SpellsIntervals}
use Rattle.jpg_spec.specs.Markers.{Segment}
use Rattle.jpg_spec.specs.Items.{segments_of}
use Rattle.jpg_spec.specs.FileMeaning.{no_blocks}
use Rattle.jpg_spec.specs.FirstFault.{HoldsAll, HoldsUnits, InsideScan}
use Rattle.jpg_spec.specs.ScanReading.{LeadingMarker, ScanAt, ScanPlace, scan_at}
use Rattle.jpg_spec.specs.RowsParsed.{CompletesRows, TellsRows, row_places}
use Rattle.jpg_spec.specs.RowLaws.{StopsInRows, TellsNoMore, stopped_blocks}
use Rattle.jpg_spec.specs.declared.frame.Limits.{Limits}
use Rattle.jpg_spec.specs.declared.frame.Place.{Place}
use Rattle.jpg_spec.proofs.Files.ScansOnce.{places_apart}
use Rattle.jpg_spec.proofs.Segments.TablesInForce.{scan_sound}
use Rattle.jpg_spec.proofs.McuRows.RowsLater.{blank}
use Rattle.jpg_spec.proofs.McuRows.RowsOnce.{also_told, decoded, one_first_scan, tells_at, whole_band}
use Rattle.jpg_spec.proofs.McuRows.RowsStopped.{HasWholeBands, no_more_told}
use Rattle.jpg_spec.proofs.McuRows.RowBands.{TwoDecoded, reached}

-- THE CURRENT INTERVAL is the next one
pub due_cut : (s : Scan) (before told : Blocks) (all whole : List (List Place)) (done : List (List ℕ)) (due rest : List (List Place)) → HoldsAll s before all done due → SpellsIntervals s no_blocks told whole done → all ≡ whole ++ rest
    → due ≡ rest
due_cut s before told all [] [] due rest h k e = sym h ∙ e
due_cut s before told all [] (c ∷ done) due rest h k e = absurd k
due_cut s before told all (q ∷ whole) [] due rest h k e = absurd k
due_cut s before told [] (q ∷ whole) (c ∷ done) due rest h k e = absurd h
due_cut s before told (p ∷ all) (q ∷ whole) (c ∷ done) due rest h k e = due_cut s before told all whole done due rest h.2 k.1 (places_apart p q all (whole ++ rest) e).1

-- the place, with only the bytes up to it
abbrev pub place_at : (limits : Limits) → (bytes : List ℕ) → (p : ScanPlace) → (tail : List ℕ) → (at : ScanAt limits bytes p tail) → InsideScan limits (at.front ++ at.head ++ at.text) []
place_at limits bytes p tail at = record {
  items = p.items;
  blocks = p.blocks;
  contents = p.contents;
  done = p.done;
  coded = p.coded;
  places = p.places;
  later = p.later;
  front = at.front;
  head = at.head;
  text = at.text;
  cut = sym (append-nil (at.front ++ at.head ++ at.text));
  spelled = at.spelled;
  header = at.header;
  intervals = at.intervals;
  leads = at.leads;
  allowed = at.allowed;
  due = at.due;
}

-- what stops there, of a scan that begins with no blocks, and of the interval as it is encoded
abbrev Stops : Scan → List (List ℕ) → List ℕ → List ℕ → ℕ → Blocks → List Place → List (List Place) → Type 0
Stops s done coded tail count blocks places later =
    TellsNoMore s blocks places coded count
    × (((fill : ℕ) × (tail ≡ replicate fill 255)) ⊎ ((m : LeadingMarker tail) × (HoldsUnits s blocks places coded → m.code ≡ 0xd0 + length done % 8 → later ≡ [])))

pub stop_completes : (limits : Limits) (bytes : List ℕ) (rows : ℕ) (w : StopsInRows limits bytes rows) → CompletesRows limits bytes rows (stopped_blocks limits bytes rows w)
stop_completes limits bytes rows w = (told, no_more)
  where
    p : ScanPlace
    p = w.place

    s : Scan
    s = scan_at limits w.place

    before : List Segment
    before = segments_of (w.place).items

    told : TellsRows limits bytes rows (stopped_blocks limits bytes rows w)
    told = record {
      front = (w.at).front ++ (w.at).head ++ (w.at).text;
      rest = w.tail;
      cut = (w.at).cut;
      place = place_at limits bytes w.place w.tail w.at;
      of_all = w.of_all;
      places = w.places;
      more = w.more;
      told = w.told;
      tells = w.tells;
      first = w.first;
      same = refl;
    }

    stops : Stops (scan_at limits w.place) (w.place).done (w.place).coded w.tail (length (w.tells).part) no_blocks ((w.tells).part ++ (w.tells).rest) (w.tells).later
    stops =
        let due = ((w.tells).part ++ (w.tells).rest) ∷ (w.tells).later in
        let cut = places_apart p.places ((w.tells).part ++ (w.tells).rest) p.later (w.tells).later (due_cut s p.blocks w.told (chunks s.interval s.places) (w.tells).whole p.done (p.places ∷ p.later) due (w.at).due (w.tells).spelled (w.tells).intervals) in
        let none : p.blocks ≡ no_blocks = blank limits p.items p.blocks (w.at).leads (w.of_all).first in
        let P : Blocks → List Place → List (List Place) → Type 0 = λ blocks places later. Stops s p.done p.coded w.tail (length (w.tells).part) blocks places later in
        let q : P p.blocks p.places p.later = (w.units, w.last) in
        subst (λ l. P no_blocks ((w.tells).part ++ (w.tells).rest) l) cut.1 (subst (λ ps. P no_blocks ps p.later) cut.0 (subst (λ b. P b p.places p.later) none q))

    no_more : (x : Blocks) → TellsRows limits bytes (rows + 1) x → ⊥
    no_more x v =
        let i = place_at limits bytes p w.tail w.at in
        let j = v.place in
        let one = one_first_scan limits ((w.at).front ++ (w.at).head ++ (w.at).text) v.front w.tail v.rest i j (w.of_all).first (v.of_all).first (sym (w.at).cut ∙ v.cut) in
        let also = also_told limits bytes (rows + 1) x v p.items p.contents one.items one.contents in
        let wide : HasWholeBands s = λ block long. ap length (whole_band limits before p.contents block (w.of_all).sequential long) ∙ long in
        let all = chunks s.interval s.places in
        let a = decoded w.tells w.tail in
        let b = decoded also.tells v.rest in
        let two : TwoDecoded s all 0 a b =
        record { text = (w.at).text; other = j.text; first = tells_at w.tells w.tail; second = tells_at also.tells v.rest; spelled = (w.at).intervals; other_spelled = j.intervals; same = one.stream } in
        let few = no_more_told s (scan_sound limits before p.contents) wide all 0 a b two stops.0 (last stops.1) in
        let l1 = ap length (w.tells).all in
        let l2 : length v.places ≡ length (reached b) = ap length (also.tells).all in
        let l3 = ap length also.first ∙ length-append (row_places limits before p.contents (rows + 1)) v.more in
        let l4 = w.few in
        omega (arith, few, l1, l2, l3, l4)
      where
        -- where no interval is before the first one
        last : (((fill : ℕ) × (w.tail ≡ replicate fill 255)) ⊎ ((m : LeadingMarker w.tail) × (HoldsUnits s no_blocks ((w.tells).part ++ (w.tells).rest) p.coded → m.code ≡ 0xd0 + length p.done % 8 → (w.tells).later ≡ [])))
            → ((fill : ℕ) × (w.tail ≡ replicate fill 255)) ⊎ ((m : LeadingMarker w.tail) × (HoldsUnits s no_blocks ((w.tells).part ++ (w.tells).rest) p.coded → m.code ≡ 0xd0 + (0 + length p.done) % 8 → (w.tells).later ≡ []))
        last (inl k) = inl k
        last (inr k) = let z : 0 + length p.done ≡ length p.done = omega arith in inr (k.0, λ h code. k.1 h (code ∙ ap (λ n. 0xd0 + n % 8) z))
