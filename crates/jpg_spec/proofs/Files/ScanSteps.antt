-- STEPS inside scan data: the result of a byte after bytes that have no fault there.
use Rattle.std.proofs.Common.{◌≡◌, ℕ, zero, suc, ◌+◌, ◌%◌, List, [], ◌∷◌, ◌++◌, length, refl, sym, ap, ◌∙◌, subst, arith, inl, inr, None}
use Rattle.std.specs.Prelude.{replicate}
use Rattle.std.proofs.lemmas.List.{append_assoc, append-nil}
use Rattle.jpg_spec.specs.Bits.{SpellsByte, SpellsData}
use Rattle.jpg_spec.specs.Lists.{chunks}
use Rattle.jpg_spec.specs.Scan.{Blocks, Scan, ScanMeans}
use Rattle.jpg_spec.specs.Markers.{SpellsMarker, SpellsSegment, code_fault}
use Rattle.jpg_spec.specs.Items.{Item, segments_of, SpellsIntervalsText, contents_rule}
use Rattle.jpg_spec.specs.FileMeaning.{scan_after}
use Rattle.jpg_spec.specs.FirstFault.{AfterItems, HoldsAll, InsideScan, Reveals}
use Rattle.jpg_spec.specs.declared.fault.Fault.{Fault}
use Rattle.jpg_spec.specs.declared.fault.Fault.TheVariants.{EntropyShort, ExtraData, RestartWrong}
use Rattle.jpg_spec.specs.declared.frame.Limits.{Limits}
use Rattle.jpg_spec.specs.declared.frame.Place.{Place}
use Rattle.jpg_spec.specs.UnfinishedFile.{Completes, UnfinishedFile}
use Rattle.jpg_spec.specs.ScanReading.{ScanPlace, scan_at, with_byte, with_interval, scan_item, ScanAt, HoldsAt, CompletesAt, IsDueAt, RevealsAt}
use Rattle.jpg_spec.proofs.Bits.Gate.{data_join, one_data}
use Rattle.jpg_spec.proofs.Files.ScansOnce.{cut_interval, join_interval}

-- MORE TEXT of intervals

-- data after the last interval's
text_more : (turn : ℕ) (done : List (List ℕ)) (coded more text t : List ℕ) → SpellsIntervalsText turn (done ++ coded ∷ []) text → SpellsData more t → SpellsIntervalsText turn (done ++ (coded ++ more) ∷ []) (text ++ t)
text_more turn [] coded more text t s k = data_join coded more text t s k
text_more turn (c ∷ done) coded more text t s k =
    let w = cut_interval turn c done coded text s in
    join_interval turn c done (coded ++ more) (text ++ t) (record {
      front = w.front;
      marker = w.marker;
      rest = w.rest ++ t;
      cut = ap (λ l. l ++ t) w.cut ∙ append_assoc (w.front ++ w.marker) w.rest t;
      spelled = w.spelled;
      code = w.code;
      later = text_more (turn + 1) done coded more w.rest t w.later k;
    })

-- a marker after it
text_next : (turn : ℕ) (done : List (List ℕ)) (coded text marker : List ℕ) → SpellsIntervalsText turn (done ++ coded ∷ []) text → SpellsMarker (0xd0 + (turn + length done) % 8) marker
    → SpellsIntervalsText turn ((done ++ coded ∷ []) ++ [] ∷ []) (text ++ marker)
text_next turn [] coded text marker s k =
    let z : turn + 0 ≡ turn = omega arith in
    (text, marker, [], sym (append-nil (text ++ marker)), s, subst (λ n. SpellsMarker (0xd0 + n % 8) marker) z k, refl)
text_next turn (c ∷ done) coded text marker s k =
    let w = cut_interval turn c done coded text s in
    let z : turn + length (c ∷ done) ≡ turn + 1 + length done = omega arith in
    join_interval turn c (done ++ coded ∷ []) [] (text ++ marker) (record {
      front = w.front;
      marker = w.marker;
      rest = w.rest ++ marker;
      cut = ap (λ l. l ++ marker) w.cut ∙ append_assoc (w.front ++ w.marker) w.rest marker;
      spelled = w.spelled;
      code = w.code;
      later = text_next (turn + 1) done coded w.rest marker w.later (subst (λ n. SpellsMarker (0xd0 + n % 8) marker) z k);
    })

-- one more interval is done
holds_next : (s : Scan) (before : Blocks) (all : List (List Place)) (done : List (List ℕ)) (coded : List ℕ) (places : List Place) (later : List (List Place)) → HoldsAll s before all done (places ∷ later) → Completes s before places coded
    → HoldsAll s before all (done ++ coded ∷ []) later
holds_next s before all [] coded places later h k = subst (λ q. HoldsAll s before q (coded ∷ []) later) (sym h) (k.0, k.1, refl)
holds_next s before [] (c ∷ done) coded places later h k = absurd h
holds_next s before (p ∷ all) (c ∷ done) coded places later h k = (h.0, h.1, holds_next s before all done coded places later h.2 k)

-- THE PLACE, as the definitions have it
abbrev pub inside : (limits : Limits) (bytes : List ℕ) (p : ScanPlace) (tail : List ℕ) → ScanAt limits bytes p tail → InsideScan limits bytes tail
inside limits bytes p tail w = record {
  items = p.items;
  blocks = p.blocks;
  contents = p.contents;
  done = p.done;
  coded = p.coded;
  places = p.places;
  later = p.later;
  front = w.front;
  head = w.head;
  text = w.text;
  cut = w.cut;
  spelled = w.spelled;
  header = w.header;
  intervals = w.intervals;
  leads = w.leads;
  allowed = w.allowed;
  due = w.due;
}

-- ONE MORE BYTE

-- bytes after the data bytes, whatever they are: FF, or FF and a marker's code
pub tail_more : (limits : Limits) (bytes : List ℕ) (p : ScanPlace) (tail more : List ℕ) → ScanAt limits bytes p tail → ScanAt limits (bytes ++ more) p (tail ++ more)
tail_more limits bytes p tail more w = record {
  front = w.front;
  head = w.head;
  text = w.text;
  cut = ap (λ l. l ++ more) w.cut ∙ append_assoc (w.front ++ w.head ++ w.text) tail more;
  spelled = w.spelled;
  header = w.header;
  intervals = w.intervals;
  leads = w.leads;
  allowed = w.allowed;
  due = w.due;
}

-- what follows the data bytes is a data byte
pub data_more : (limits : Limits) (bytes : List ℕ) (p : ScanPlace) (byte : ℕ) (tail : List ℕ) → ScanAt limits bytes p tail → SpellsByte byte tail → ScanAt limits bytes (with_byte p byte) []
data_more limits bytes p byte tail w s = record {
  front = w.front;
  head = w.head;
  text = w.text ++ tail;
  cut = w.cut ∙ append_assoc (w.front ++ w.head) w.text tail ∙ sym (append-nil ((w.front ++ w.head) ++ (w.text ++ tail)));
  spelled = w.spelled;
  header = w.header;
  intervals = text_more 0 p.done p.coded (byte ∷ []) w.text tail w.intervals (one_data byte tail s);
  leads = w.leads;
  allowed = w.allowed;
  due = w.due;
}

-- the right marker after a complete interval: the next one begins
pub next_interval : (limits : Limits) (bytes : List ℕ) (p : ScanPlace) (next : List Place) (others : List (List Place)) (tail : List ℕ)
    → ScanAt limits bytes p tail → CompletesAt limits p → p.later ≡ next ∷ others → SpellsMarker (0xd0 + length p.done % 8) tail
    → ScanAt limits bytes (with_interval p next others) []
next_interval limits bytes p next others tail w k due m =
    let s = scan_at limits p in
    let z : length p.done ≡ 0 + length p.done = omega arith in
    record {
      front = w.front;
      head = w.head;
      text = w.text ++ tail;
      cut = w.cut ∙ append_assoc (w.front ++ w.head) w.text tail ∙ sym (append-nil ((w.front ++ w.head) ++ (w.text ++ tail)));
      spelled = w.spelled;
      header = w.header;
      intervals = text_next 0 p.done p.coded w.text tail w.intervals (subst (λ n. SpellsMarker (0xd0 + n % 8) tail) z m);
      leads = w.leads;
      allowed = w.allowed;
      due =
          subst (λ l. HoldsAll s p.blocks (chunks s.interval s.places) (p.done ++ p.coded ∷ []) l) due
          (holds_next s p.blocks (chunks s.interval s.places) p.done p.coded p.places p.later w.due k);
    }

-- after the last interval the scan is an item, once it is known what it means
pub scan_ends : (limits : Limits) (bytes : List ℕ) (p : ScanPlace) (after : Blocks) (tail : List ℕ)
    → ScanAt limits bytes p tail → ScanMeans (scan_at limits p) (p.done ++ p.coded ∷ []) p.blocks after → AfterItems limits bytes (scan_item p ∷ p.items) tail
scan_ends limits bytes p after tail w m = record {
  front = w.front ++ (w.head ++ w.text);
  blocks = after;
  cut = w.cut ∙ ap (λ l. l ++ tail) (append_assoc w.front w.head w.text);
  spelled = (w.front, w.head ++ w.text, refl, w.spelled, (w.head, w.text, refl, w.header, w.intervals));
  leads = (p.blocks, w.allowed.0, w.allowed.1, w.leads, m);
}

-- a scan header that breaks no rule begins a scan
abbrev pub first_place : List Item → Blocks → List ℕ → List Place → List (List Place) → ScanPlace
first_place items blocks contents places later = record { items = items; blocks = blocks; contents = contents; done = []; coded = []; places = places; later = later }

pub scan_begins : (limits : Limits) (bytes : List ℕ) (items : List Item) (contents tail : List ℕ) (places : List Place) (later : List (List Place)) → (w : AfterItems limits bytes items tail)
    → SpellsSegment 0xda contents tail → code_fault (segments_of items) 0xda ≡ None → contents_rule limits (segments_of items) 0xda contents ≡ None
    → (let s = scan_after limits (segments_of items) contents in chunks s.interval s.places ≡ places ∷ later)
    → ScanAt limits bytes (first_place items w.blocks contents places later) []
scan_begins limits bytes items contents tail places later w s allowed rule some = record {
  front = w.front;
  head = tail;
  text = [];
  cut = w.cut ∙ sym (append-nil (w.front ++ tail)) ∙ sym (append-nil ((w.front ++ tail) ++ []));
  spelled = w.spelled;
  header = s;
  intervals = refl;
  leads = w.leads;
  allowed = (allowed, rule);
  due = some;
}

-- ANSWERS

pub data_shown : (limits : Limits) (bytes : List ℕ) (p : ScanPlace) (fault : Fault) → ScanAt limits bytes p [] → RevealsAt limits p fault → Reveals limits fault bytes
data_shown limits bytes p fault w d = inr (inr ([], inside limits bytes p [] w, inl (refl, d)))

pub extra_shown : (limits : Limits) (bytes : List ℕ) (p : ScanPlace) (byte : ℕ) → ScanAt limits bytes (with_byte p byte) [] → HoldsAt limits p → Reveals limits ExtraData bytes
extra_shown limits bytes p byte w h = inr (inr ([], inside limits bytes (with_byte p byte) [] w, inr (inr (inl (refl, refl, (p.coded, byte, refl, h))))))

pub short_shown : (limits : Limits) (bytes : List ℕ) (p : ScanPlace) (code : ℕ) (tail : List ℕ) → ScanAt limits bytes p tail → SpellsMarker code tail → (HoldsAt limits p → ⊥) → Reveals limits EntropyShort bytes
short_shown limits bytes p code tail w m h = inr (inr (tail, inside limits bytes p tail w, inr (inl (refl, (code, m), h))))

pub restart_shown : (limits : Limits) (bytes : List ℕ) (p : ScanPlace) (next : List Place) (others : List (List Place)) (code : ℕ) (tail : List ℕ)
    → ScanAt limits bytes p tail → HoldsAt limits p → p.later ≡ next ∷ others → SpellsMarker code tail → (code ≡ 0xd0 + length p.done % 8 → ⊥) → Reveals limits RestartWrong bytes
restart_shown limits bytes p next others code tail w h due m wrong =
    inr (inr (tail, inside limits bytes p tail w, inr (inr (inr (refl, h, (next, others, due), (code, m, wrong))))))

pub due_stands : (limits : Limits) (bytes : List ℕ) (p : ScanPlace) (fill : ℕ) → ScanAt limits bytes p (replicate fill 255) → IsDueAt limits p → UnfinishedFile limits bytes
due_stands limits bytes p fill w d = inr (inr (replicate fill 255, inside limits bytes p (replicate fill 255) w, ((fill, refl), inl d)))

pub complete_stands : (limits : Limits) (bytes : List ℕ) (p : ScanPlace) (fill : ℕ) → ScanAt limits bytes p (replicate fill 255) → CompletesAt limits p → UnfinishedFile limits bytes
complete_stands limits bytes p fill w k = inr (inr (replicate fill 255, inside limits bytes p (replicate fill 255) w, ((fill, refl), inr k)))

-- THE BYTES of scan data, one by one: another byte than FF is a data byte, and after FF bytes 00 is one and any other
-- code except FF a marker
pub plain_byte : (b : ℕ) → (b ≡ 255 → ⊥) → SpellsByte b (b ∷ [])
plain_byte b n = inl (n, refl)

pub stuffed_ff : (fill : ℕ) → SpellsByte 255 (replicate (suc fill) 255 ++ 0 ∷ [])
stuffed_ff fill = inr (refl, (fill, refl))

pub marker_code : (fill code : ℕ) → (code ≡ 0 → ⊥) → (code ≡ 255 → ⊥) → SpellsMarker code (replicate (suc fill) 255 ++ code ∷ [])
marker_code fill code z f = (fill, refl, (z, f))

pub fill_more : (fill : ℕ) → (let last : List ℕ = 255 ∷ [] in replicate fill 255 ++ last ≡ replicate (suc fill) 255)
fill_more zero = refl
fill_more (suc fill) = ap (λ l. 255 ∷ l) (fill_more fill)

-- so each byte after the data bytes, and after FF bytes, has its place
pub plain_data : (limits : Limits) (bytes : List ℕ) (p : ScanPlace) (b : ℕ) → ScanAt limits bytes p [] → (b ≡ 255 → ⊥) → ScanAt limits (bytes ++ b ∷ []) (with_byte p b) []
plain_data limits bytes p b w n = data_more limits (bytes ++ b ∷ []) p b (b ∷ []) (tail_more limits bytes p [] (b ∷ []) w) (plain_byte b n)

pub stuffed_data : (limits : Limits) (bytes : List ℕ) (p : ScanPlace) (fill : ℕ) → ScanAt limits bytes p (replicate (suc fill) 255) → ScanAt limits (bytes ++ 0 ∷ []) (with_byte p 255) []
stuffed_data limits bytes p fill w = data_more limits (bytes ++ 0 ∷ []) p 255 (replicate (suc fill) 255 ++ 0 ∷ []) (tail_more limits bytes p (replicate (suc fill) 255) (0 ∷ []) w) (stuffed_ff fill)

pub filled_data : (limits : Limits) (bytes : List ℕ) (p : ScanPlace) (fill : ℕ) → ScanAt limits bytes p (replicate fill 255) → ScanAt limits (bytes ++ 255 ∷ []) p (replicate (suc fill) 255)
filled_data limits bytes p fill w = subst (λ t. ScanAt limits (bytes ++ 255 ∷ []) p t) (fill_more fill) (tail_more limits bytes p (replicate fill 255) (255 ∷ []) w)

pub marker_data : (limits : Limits) (bytes : List ℕ) (p : ScanPlace) (fill code : ℕ) → ScanAt limits bytes p (replicate (suc fill) 255) → ScanAt limits (bytes ++ code ∷ []) p (replicate (suc fill) 255 ++ code ∷ [])
marker_data limits bytes p fill code w = tail_more limits bytes p (replicate (suc fill) 255) (code ∷ []) w
