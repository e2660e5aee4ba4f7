-- Of two places in one scan's data, if the bytes after its header are the same, one is after the other or they are one.
use Rattle.std.proofs.Common.{◌≡◌, ℕ, ◌+◌, ◌%◌, List, [], ◌∷◌, ◌++◌, length, refl, sym, ap, ◌∙◌, subst, arith, inl, inr, ⊎_elim}
use Rattle.std.specs.Prelude.{◌⊎◌}
use Rattle.std.proofs.lemmas.List.{append_assoc, append-nil}
use Rattle.jpg_spec.specs.Bits.{SpellsData}
use Rattle.jpg_spec.specs.Scan.{Blocks, Scan}
use Rattle.jpg_spec.specs.Markers.{SpellsMarker}
use Rattle.jpg_spec.specs.Items.{SpellsIntervalsText}
use Rattle.jpg_spec.specs.FirstFault.{HoldsAll}
use Rattle.jpg_spec.specs.declared.frame.Place.{Place}
use Rattle.jpg_spec.proofs.Segments.MarkersOnce.{marker_once}
use Rattle.jpg_spec.specs.UnfinishedFile.{Completes}
use Rattle.jpg_spec.proofs.Bits.Gate.{DataGoOn, data_once, data_no_marker}

pub places_apart : (p q : List Place) (l m : List (List Place)) → p ∷ l ≡ q ∷ m → (p ≡ q) × (l ≡ m)
places_apart p q l m e = (cc, cc)

pub no_places : (p : List Place) (l : List (List Place)) → [] ≡ p ∷ l → ⊥
no_places p l e = cc

-- AN INTERVAL and others after it
pub record CutInterval (turn : ℕ) (coded : List ℕ) (others : List (List ℕ)) (text : List ℕ) : Type 0 where
  pub front : List ℕ
  pub marker : List ℕ
  pub rest : List ℕ
  pub cut : text ≡ front ++ marker ++ rest
  pub spelled : SpellsData coded front
  pub code : SpellsMarker (0xd0 + turn % 8) marker
  pub later : SpellsIntervalsText (turn + 1) others rest

pub cut_interval : (turn : ℕ) (c : List ℕ) (done : List (List ℕ)) (coded text : List ℕ) → SpellsIntervalsText turn (c ∷ (done ++ coded ∷ [])) text → CutInterval turn c (done ++ coded ∷ []) text
cut_interval turn c [] coded text s = record { front = s.0; marker = s.1; rest = s.2; cut = s.3; spelled = s.4; code = s.5; later = s.6 }
cut_interval turn c (d ∷ done) coded text s = record { front = s.0; marker = s.1; rest = s.2; cut = s.3; spelled = s.4; code = s.5; later = s.6 }

pub join_interval : (turn : ℕ) (c : List ℕ) (done : List (List ℕ)) (coded text : List ℕ) → CutInterval turn c (done ++ coded ∷ []) text → SpellsIntervalsText turn (c ∷ (done ++ coded ∷ [])) text
join_interval turn c [] coded text w = (w.front, w.marker, w.rest, w.cut, w.spelled, w.code, w.later)
join_interval turn c (d ∷ done) coded text w = (w.front, w.marker, w.rest, w.cut, w.spelled, w.code, w.later)

-- after intervals that are done others are left
pub some_due : (s : Scan) (before : Blocks) (q : List (List Place)) (done : List (List ℕ)) (places : List Place) (later : List (List Place)) → HoldsAll s before q done (places ∷ later)
    → (next : List Place) × (others : List (List Place)) × (q ≡ next ∷ others)
some_due s before [] [] places later h = absurd (no_places places later h)
some_due s before (p ∷ q) [] places later h = (p, q, refl)
some_due s before [] (c ∷ done) places later h = absurd h
some_due s before (p ∷ q) (c ∷ done) places later h = (p, q, refl)

-- THE DATA OF AN INTERVAL and a marker after them, at the beginning of some bytes
pub record Marked (code : ℕ) (coded stream rest : List ℕ) : Type 0 where
  pub front : List ℕ
  pub marker : List ℕ
  pub cut : stream ≡ front ++ (marker ++ rest)
  pub spelled : SpellsData coded front
  pub marks : SpellsMarker code marker

pub marked : (turn : ℕ) (c : List ℕ) (others : List (List ℕ)) (text behind stream : List ℕ) → stream ≡ text ++ behind → (k : CutInterval turn c others text)
    → Marked (0xd0 + turn % 8) c stream (k.rest ++ behind)
marked turn c others text behind stream e k = record {
  front = k.front;
  marker = k.marker;
  cut = e ∙ ap (λ l. l ++ behind) k.cut ∙ append_assoc (k.front ++ k.marker) k.rest behind ∙ append_assoc k.front k.marker (k.rest ++ behind);
  spelled = k.spelled;
  marks = k.code;
}

-- both are determined by the bytes
pub marked_once : (code code' : ℕ) (c d stream u v : List ℕ) → Marked code c stream u → Marked code' d stream v → (c ≡ d) × (u ≡ v)
marked_once code code' c d stream u v k l = by (data_once c d k.front l.front (k.marker ++ u) (l.marker ++ v) k.spelled l.spelled (sym k.cut ∙ l.cut))
  where
    by : DataGoOn c k.front (k.marker ++ u) d l.front (l.marker ++ v) ⊎ DataGoOn d l.front (l.marker ++ v) c k.front (k.marker ++ u) → (c ≡ d) × (u ≡ v)
    by (inl g) =
        let none = data_no_marker code g.more g.text k.marker (l.marker ++ v) u g.spelled k.marks (sym g.behind) in (
          sym (g.joined ∙ ap (λ m. c ++ m) none.0 ∙ append-nil c),
          (marker_once code code' k.marker l.marker u v k.marks l.marks (g.behind ∙ ap (λ m. m ++ (l.marker ++ v)) none.1)).2,
        )
    by (inr g) =
        let none = data_no_marker code' g.more g.text l.marker (k.marker ++ u) v g.spelled l.marks (sym g.behind) in (
          g.joined ∙ ap (λ m. d ++ m) none.0 ∙ append-nil d,
          sym (marker_once code' code l.marker k.marker v u l.marks k.marks (g.behind ∙ ap (λ m. m ++ (k.marker ++ u)) none.1)).2,
        )

-- A PLACE in a scan's data: the intervals that are done, the data bytes of the next, its units, the intervals after it,
-- and the bytes behind these data
pub record DataPlace : Type 0 where
  pub done : List (List ℕ)
  pub coded : List ℕ
  pub places : List Place
  pub later : List (List Place)
  pub behind : List ℕ

abbrev pub with_done : List (List ℕ) → DataPlace → DataPlace
with_done done p = record p { done = done }

-- with one more interval done before it, and with more data bytes
abbrev pub after_one : List ℕ → DataPlace → DataPlace
after_one c p = with_done (c ∷ p.done) p

abbrev pub further : DataPlace → List ℕ → List ℕ → DataPlace
further p more behind = record p { coded = p.coded ++ more; behind = behind }

pub record At (s : Scan) (before : Blocks) (all : List (List Place)) (turn : ℕ) (p : DataPlace) (text : List ℕ) : Type 0 where
  pub spelled : SpellsIntervalsText turn (p.done ++ p.coded ∷ []) text
  pub holds : HoldsAll s before all p.done (p.places ∷ p.later)

-- TWO PLACES in the data of one scan, in the same bytes
pub record TwoPlaces (s : Scan) (before : Blocks) (all : List (List Place)) (turn : ℕ) (p q : DataPlace) : Type 0 where
  pub text : List ℕ
  pub other : List ℕ
  pub first : At s before all turn p text
  pub second : At s before all turn q other
  pub same : text ++ p.behind ≡ other ++ q.behind

pub swapped : (s : Scan) (before : Blocks) (all : List (List Place)) (turn : ℕ) (p q : DataPlace) → TwoPlaces s before all turn p q → TwoPlaces s before all turn q p
swapped s before all turn p q w = record { text = w.other; other = w.text; first = w.second; second = w.first; same = sym w.same }

-- The second place is in the interval of the first, and not before it.
pub record InSame (p q : DataPlace) : Type 0 where
  pub more : List ℕ
  pub text : List ℕ
  pub place : q ≡ further p more q.behind
  pub spelled : SpellsData more text
  pub behind : p.behind ≡ text ++ q.behind

-- It is in a later interval: the first interval is complete with some more data bytes, and the right marker follows.
pub record InLater (s : Scan) (before : Blocks) (turn : ℕ) (p : DataPlace) : Type 0 where
  pub more : List ℕ
  pub text : List ℕ
  pub marker : List ℕ
  pub rest : List ℕ
  pub spelled : SpellsData more text
  pub code : SpellsMarker (0xd0 + (turn + length p.done) % 8) marker
  pub behind : p.behind ≡ text ++ (marker ++ rest)
  pub completes : Completes s before p.places (p.coded ++ more)
  pub others : (next : List Place) × (others : List (List Place)) × (p.later ≡ next ∷ others)

-- the second place isn't before the first
abbrev pub IsAhead : Scan → Blocks → ℕ → DataPlace → DataPlace → Type 0
IsAhead s before turn p q = InSame p q ⊎ InLater s before turn p

-- places without more data between them are one
pub one_place : (p q : DataPlace) → (g : InSame p q) → g.more ≡ [] → g.text ≡ [] → q ≡ p
one_place p q g none empty =
    g.place ∙ ap (λ m. further p m q.behind) none ∙ ap (λ b. further p [] b) (sym (g.behind ∙ ap (λ t. t ++ q.behind) empty))
    ∙ ap (λ c. (let z : DataPlace = record p { coded = c } in z)) (append-nil p.coded)

data_in_same : (p q : DataPlace) (t r : List ℕ) → p.places ≡ q.places → p.later ≡ q.later → DataGoOn p.coded t p.behind q.coded r q.behind → InSame (with_done [] p) (with_done [] q)
data_in_same p q t r e f g = record {
  more = g.more;
  text = g.text;
  place = ap (λ c. first c q.places q.later) g.joined ∙ ap (λ l. first (p.coded ++ g.more) l q.later) (sym e) ∙ ap (λ l. first (p.coded ++ g.more) p.places l) (sym f);
  spelled = g.spelled;
  behind = g.behind;
}
  where
    first : List ℕ → List Place → List (List Place) → DataPlace
    first coded places later = record { done = []; coded = coded; places = places; later = later; behind = q.behind }

module _ (s : Scan) (before : Blocks) where
  -- the first place is in the first interval, the second is after it
  first_later : (all : List (List Place)) (turn : ℕ) (d : List ℕ) (done : List (List ℕ)) (p q : DataPlace) → TwoPlaces s before all turn (with_done [] p) (with_done (d ∷ done) q)
      → InLater s before turn (with_done [] p)
  first_later [] turn d done p q w = absurd (no_places p.places p.later (w.first).holds)
  first_later (here ∷ all) turn d done p q w = by (data_once p.coded d w.text k.front p.behind (k.marker ++ rest) (w.first).spelled k.spelled k.cut)
    where
      interval : CutInterval turn d (done ++ q.coded ∷ []) w.other
      interval = cut_interval turn d done q.coded w.other (w.second).spelled

      rest : List ℕ
      rest = interval.rest ++ q.behind

      k : Marked (0xd0 + turn % 8) d (w.text ++ p.behind) rest
      k = marked turn d (done ++ q.coded ∷ []) w.other q.behind (w.text ++ p.behind) w.same interval

      h : (here ≡ p.places) × (all ≡ p.later)
      h = places_apart here p.places all p.later (w.first).holds

      due : (next : List Place) × (others : List (List Place)) × (p.later ≡ next ∷ others)
      due = (let r = some_due s before all done q.places q.later (w.second).holds.2 in (r.0, r.1, sym h.1 ∙ r.2))

      whole : Completes s before p.places d
      whole = subst (λ l. Completes s before l d) h.0 ((w.second).holds.0, (w.second).holds.1)

      code : SpellsMarker (0xd0 + (turn + 0) % 8) k.marker
      code = let z : turn ≡ turn + 0 = omega arith in subst (λ n. SpellsMarker (0xd0 + n % 8) k.marker) z k.marks

      is_later : (more text : List ℕ) → SpellsData more text → p.behind ≡ text ++ (k.marker ++ rest) → d ≡ p.coded ++ more → InLater s before turn (with_done [] p)
      is_later more text spelled behind same = record {
        more = more;
        text = text;
        marker = k.marker;
        rest = rest;
        spelled = spelled;
        code = code;
        behind = behind;
        completes = subst (λ l. Completes s before p.places l) same whole;
        others = due;
      }

      by : DataGoOn p.coded w.text p.behind d k.front (k.marker ++ rest) ⊎ DataGoOn d k.front (k.marker ++ rest) p.coded w.text p.behind → InLater s before turn (with_done [] p)
      by (inl g) = is_later g.more g.text g.spelled g.behind g.joined
      by (inr g) =
          let none = data_no_marker (0xd0 + turn % 8) g.more g.text k.marker p.behind rest g.spelled k.marks (sym g.behind) in
          is_later [] [] refl (ap (λ l. l ++ p.behind) (sym none.1) ∙ sym g.behind) (sym (append-nil p.coded ∙ g.joined ∙ ap (λ l. d ++ l) none.0 ∙ append-nil d))

  -- one more interval that is done before both
  more_done : (turn : ℕ) (e f : List ℕ) (p q : DataPlace) → e ≡ f → IsAhead s before (turn + 1) p q → IsAhead s before turn (after_one e p) (after_one f q)
  more_done turn e f p q same (inl g) =
      inl (record {
        more = g.more;
        text = g.text;
        place = ap (after_one f) g.place ∙ ap (λ c. after_one c (further p g.more q.behind)) (sym same);
        spelled = g.spelled;
        behind = g.behind;
      })
  more_done turn e f p q same (inr g) =
      let z : turn + 1 + length p.done ≡ turn + length (e ∷ p.done) = omega arith in
      inr (record {
        more = g.more;
        text = g.text;
        marker = g.marker;
        rest = g.rest;
        spelled = g.spelled;
        code = subst (λ n. SpellsMarker (0xd0 + n % 8) g.marker) z g.code;
        behind = g.behind;
        completes = g.completes;
        others = g.others;
      })

  scan_from : (all : List (List Place)) (turn : ℕ) (done done' : List (List ℕ)) (p q : DataPlace) → TwoPlaces s before all turn (with_done done p) (with_done done' q)
      → IsAhead s before turn (with_done done p) (with_done done' q) ⊎ IsAhead s before turn (with_done done' q) (with_done done p)
  scan_from all turn [] [] p q w =
      let h = places_apart p.places q.places p.later q.later (sym (w.first).holds ∙ (w.second).holds) in
      ⊎_elim
      (λ (g : DataGoOn p.coded w.text p.behind q.coded w.other q.behind). inl (inl (data_in_same p q w.text w.other h.0 h.1 g)))
      (λ (g : DataGoOn q.coded w.other q.behind p.coded w.text p.behind). inr (inl (data_in_same q p w.other w.text (sym h.0) (sym h.1) g)))
      (data_once p.coded q.coded w.text w.other p.behind q.behind (w.first).spelled (w.second).spelled w.same)
  scan_from all turn [] (d ∷ done') p q w = inl (inr (first_later all turn d done' p q w))
  scan_from all turn (c ∷ done) [] p q w = inr (inr (first_later all turn c done q p (swapped s before all turn (with_done (c ∷ done) p) (with_done [] q) w)))
  scan_from [] turn (c ∷ done) (d ∷ done') p q w = absurd (w.first).holds
  scan_from (here ∷ all) turn (c ∷ done) (d ∷ done') p q w =
      let code = 0xd0 + turn % 8 in
      let k = cut_interval turn c done p.coded w.text (w.first).spelled in
      let l = cut_interval turn d done' q.coded w.other (w.second).spelled in
      let stream = w.text ++ p.behind in
      let h = marked_once code code c d stream (k.rest ++ p.behind) (l.rest ++ q.behind) (marked turn c (done ++ p.coded ∷ []) w.text p.behind stream refl k) (marked turn d (done' ++ q.coded ∷ []) w.other q.behind stream w.same l) in
      ⊎_elim
      (λ (z : IsAhead s before (turn + 1) (with_done done p) (with_done done' q)). inl (more_done turn c d (with_done done p) (with_done done' q) h.0 z))
      (λ (z : IsAhead s before (turn + 1) (with_done done' q) (with_done done p)). inr (more_done turn d c (with_done done' q) (with_done done p) (sym h.0) z))
      (scan_from all (turn + 1) done done' p q (record {
        text = k.rest;
        other = l.rest;
        first = record { spelled = k.later; holds = (w.first).holds.2 };
        second = record { spelled = l.later; holds = (w.second).holds.2 };
        same = h.1;
      }))

  -- THE LAW
  pub scan_once : (all : List (List Place)) (turn : ℕ) (p q : DataPlace) → TwoPlaces s before all turn p q → IsAhead s before turn p q ⊎ IsAhead s before turn q p
  scan_once all turn p q w = scan_from all turn p.done q.done p q w
