-- The header of a file has at most one result: it has a fault, or it is complete, or it is a faultless prefix.
use Rattle.std.proofs.Common.{◌≡◌, ℕ, Bool, true, false, cond, ◌==◌, List, [], ◌∷◌, ◌++◌, refl, sym, ap, ◌∙◌, subst, inl, inr, Some, None}
use Rattle.std.specs.Prelude.{◌⊎◌}
use Rattle.jpg_spec.specs.Markers.{Segment, Rule, SpellsMarker, code_fault, has_scan, Pass, Between, NoMarkerBytes, BeginsSegment, RevealsSegment, TailReveals, SegmentsReveal, PartOfSegment, at_part}
use Rattle.jpg_spec.specs.Header.{header_rule, InHeader, HeaderReveals, UnfinishedHeader, IsHeader}
use Rattle.jpg_spec.specs.declared.fault.Fault.{Fault}
use Rattle.jpg_spec.specs.declared.fault.Fault.TheVariants.{NotJpeg, NoMarker, MissingComponent}
use Rattle.jpg_spec.specs.declared.frame.Limits.{Limits}
use Rattle.jpg_spec.proofs.Segments.ReadBytes.{State, starts, whole, stopped, ended, behind, next, read, called, read_both, read_after, read_begin, read_segments, read_between, read_fault, read_eoi, reads}
use Rattle.jpg_spec.proofs.Basics.Common.{neither, heads}

-- HOW FAR bytes have come: more may follow, or the last byte decided, or bytes are after such a one
pub data Phase : Type 0 where
  going : Phase
  closed : Phase
  over : Phase

abbrev pub phase : State → Phase
phase (stopped fault) = closed
phase ended = closed
phase behind = over
phase s = going

closed_next : (rule : Rule) (s : State) (b : ℕ) → phase s ≡ closed → next rule s b ≡ behind
closed_next rule (stopped fault) b e = refl
closed_next rule ended b e = refl
closed_next rule s b e = cc

closed_over : (rule : Rule) (s : State) (b : ℕ) (bytes : List ℕ) → phase s ≡ closed → phase (read rule s (b ∷ bytes)) ≡ over
closed_over rule s b bytes e = ap phase (ap (λ t. read rule t bytes) (closed_next rule s b e) ∙ read_after rule bytes)

pub not_closed : (p : Phase) → p ≡ over → p ≡ closed → ⊥
not_closed p e h = let z : over ≡ closed = sym e ∙ h in cc

not_going : (p : Phase) → p ≡ over → p ≡ going → ⊥
not_going p e h = let z : over ≡ going = sym e ∙ h in cc

-- of the prefixes of some bytes at most one decides
pub closed_once : (rule : Rule) (s : State) (a b x y : List ℕ) → phase (read rule s a) ≡ closed → phase (read rule s b) ≡ closed → a ++ x ≡ b ++ y → a ≡ b
closed_once rule s [] [] x y h k e = refl
closed_once rule s [] (d ∷ b) x y h k e = absurd (not_closed (phase (read rule s (d ∷ b))) (closed_over rule s d b h) k)
closed_once rule s (c ∷ a) [] x y h k e = absurd (not_closed (phase (read rule s (c ∷ a))) (closed_over rule s c a k) h)
closed_once rule s (c ∷ a) (d ∷ b) x y h k e =
    let g = heads c d (a ++ x) (b ++ y) e in
    ap (λ n. n ∷ a) g.0 ∙ ap (λ l. d ∷ l) (closed_once rule (next rule s d) a b x y (subst (λ n. phase (read rule (next rule s n) a) ≡ closed) g.0 h) k g.1)

-- and after it no more may follow
pub going_front : (rule : Rule) (s : State) (a x : List ℕ) → phase (read rule s a) ≡ closed → phase (read rule s (a ++ x)) ≡ going → ⊥
going_front rule s a x h k = by x (sym (ap phase (read_both rule s a x)) ∙ k)
  where
    by : (x : List ℕ) → phase (read rule (read rule s a) x) ≡ going → ⊥
    by [] g = let z : closed ≡ going = sym h ∙ g in cc
    by (b ∷ x) g = not_going (phase (read rule (read rule s a) (b ∷ x))) (closed_over rule (read rule s a) b x h) g

pub part_going : (s : State) → called s ≡ Some at_part → phase s ≡ going
part_going (stopped fault) e = cc
part_going ended e = cc
part_going behind e = cc
part_going s e = refl

-- A RULE that no scan header passes
abbrev pub closing_rule : Limits → Rule
closing_rule limits before code contents = cond (code == 0xda) (Some NotJpeg) (header_rule limits before code contents)

pass_closing : (limits : Limits) (before : List Segment) → has_scan before ≡ false → Pass (header_rule limits) before → Pass (closing_rule limits) before
pass_closing limits [] none p = p
pass_closing limits (s ∷ before) none p =
    let k = neither (s.0 == 0xda) (has_scan before) none in
    (p.0, ap (λ b. cond b (Some NotJpeg) (header_rule limits before s.0 s.1)) k.0 ∙ p.1, pass_closing limits before k.1 p.2)

between_closing : (limits : Limits) (bytes : List ℕ) (before : List Segment) (tail : List ℕ) → InHeader limits bytes before tail → Between (closing_rule limits) bytes before tail
between_closing limits bytes before tail w =
    record { front = w.0.front; cut = w.0.cut; spelled = w.0.spelled; passed = pass_closing limits before w.1 w.0.passed }

segment_closing : (limits : Limits) (before : List Segment) (fault : Fault) (tail : List ℕ) → RevealsSegment (header_rule limits) before fault tail → (other : Fault) × RevealsSegment (closing_rule limits) before other tail
segment_closing limits before fault tail s = by (s.0 == 0xda) refl
  where
    at : (b : Bool) → (s.0 == 0xda) ≡ b → closing_rule limits before s.0 s.1 ≡ cond b (Some NotJpeg) (header_rule limits before s.0 s.1)
    at b h = ap (λ b. cond b (Some NotJpeg) (header_rule limits before s.0 s.1)) h

    by : (b : Bool) → (s.0 == 0xda) ≡ b → (other : Fault) × RevealsSegment (closing_rule limits) before other tail
    by true h = (NotJpeg, (s.0, s.1, s.2, s.3, s.4, at true h))
    by false h = (fault, (s.0, s.1, s.2, s.3, s.4, at false h ∙ s.5))

-- THE RESULT OF A HEADER, when it is read by this rule

fault_closed : (rule : Rule) (bytes : List ℕ) (fault : Fault) → SegmentsReveal rule fault bytes → phase (read rule starts bytes) ≡ closed
fault_closed rule bytes fault s = ap phase (read_fault rule bytes fault s)

shown_closed : (limits : Limits) (fault : Fault) (bytes : List ℕ) → HeaderReveals limits fault bytes → phase (read (closing_rule limits) starts bytes) ≡ closed
shown_closed limits fault bytes (inl s) = fault_closed (closing_rule limits) bytes fault (inl s)
shown_closed limits fault bytes (inr s) = by s.3
  where
    between : Between (closing_rule limits) bytes s.0 s.1
    between = between_closing limits bytes s.0 s.1 s.2

    by : ((fault ≡ NoMarker) × NoMarkerBytes s.1) ⊎ (TailReveals (header_rule limits) s.0 fault s.1 ⊎ ((fault ≡ MissingComponent) × SpellsMarker 0xd9 s.1 × (code_fault s.0 0xd9 ≡ None)))
        → phase (read (closing_rule limits) starts bytes) ≡ closed
    by (inl h) = fault_closed (closing_rule limits) bytes fault (inr (s.0, s.1, between, inl h))
    by (inr (inl (inl h))) = fault_closed (closing_rule limits) bytes fault (inr (s.0, s.1, between, inr (inl h)))
    by (inr (inl (inr (inl h)))) = fault_closed (closing_rule limits) bytes fault (inr (s.0, s.1, between, inr (inr (inl h))))
    by (inr (inl (inr (inr h)))) =
        let k = segment_closing limits s.0 fault s.1 h in
        fault_closed (closing_rule limits) bytes k.0 (inr (s.0, s.1, between, inr (inr (inr k.1))))
    by (inr (inr h)) = ap phase (read_eoi (closing_rule limits) bytes (s.0, s.1, between, h.1, h.2))

whole_closed : (limits : Limits) (bytes : List ℕ) (before : List Segment) (contents : List ℕ) → IsHeader limits bytes before contents → phase (read (closing_rule limits) starts bytes) ≡ closed
whole_closed limits bytes before contents is =
    let s = is.spelled in
    let between : Between (closing_rule limits) bytes before s.1 = record { front = s.0; cut = s.2; spelled = s.3; passed = pass_closing limits before is.first is.passed.2 } in
    fault_closed (closing_rule limits) bytes NotJpeg (inr (before, s.1, between, inr (inr (inr (0xda, contents, s.4, is.passed.0, s.5, refl)))))

standing_going : (limits : Limits) (bytes : List ℕ) → UnfinishedHeader limits bytes → phase (read (closing_rule limits) starts bytes) ≡ going
standing_going limits bytes (inl (inl s)) = ap (λ l. phase (read (closing_rule limits) starts l)) s
standing_going limits bytes (inl (inr s)) = ap (λ l. phase (read (closing_rule limits) starts l)) s
standing_going limits bytes (inr s) = by s.3
  where
    between : Between (closing_rule limits) bytes s.0 s.1
    between = between_closing limits bytes s.0 s.1 s.2

    part : (tail : List ℕ) → s.1 ≡ tail → PartOfSegment s.0 s.1 → phase (read (closing_rule limits) starts bytes) ≡ going
    part [] e h = ap phase (read_between (closing_rule limits) bytes s.0 s.1 between) ∙ ap (λ l. phase (read (closing_rule limits) (whole s.0) l)) e
    part (b ∷ tail) e h =
        let some : s.1 ≡ [] → ⊥ = λ n. (let z : b ∷ tail ≡ [] = sym e ∙ n in let f : ⊥ = cc in f) in
        part_going (read (closing_rule limits) starts bytes) (reads (closing_rule limits) bytes at_part (inr (s.0, s.1, between, h, some)))

    by : ((code : ℕ) × BeginsSegment s.0 code s.1) ⊎ PartOfSegment s.0 s.1 → phase (read (closing_rule limits) starts bytes) ≡ going
    by (inl h) = ap phase (read_between (closing_rule limits) bytes s.0 s.1 between ∙ read_begin (closing_rule limits) s.0 h.0 s.1 h.1)
    by (inr h) = part s.1 refl h

-- AND BY THE HEADER'S OWN RULE: with its last byte it has the fault, or is at EOI

abbrev pub Tells : Limits → Fault → List ℕ → Type 0
Tells limits fault bytes = (read (header_rule limits) starts bytes ≡ stopped fault) ⊎ ((read (header_rule limits) starts bytes ≡ ended) × (fault ≡ MissingComponent))

shown_tells : (limits : Limits) (fault : Fault) (bytes : List ℕ) → HeaderReveals limits fault bytes → Tells limits fault bytes
shown_tells limits fault bytes (inl s) = inl (read_fault (header_rule limits) bytes fault (inl s))
shown_tells limits fault bytes (inr s) = by s.3
  where
    by : ((fault ≡ NoMarker) × NoMarkerBytes s.1) ⊎ (TailReveals (header_rule limits) s.0 fault s.1 ⊎ ((fault ≡ MissingComponent) × SpellsMarker 0xd9 s.1 × (code_fault s.0 0xd9 ≡ None))) → Tells limits fault bytes
    by (inl h) = inl (read_fault (header_rule limits) bytes fault (inr (s.0, s.1, s.2.0, inl h)))
    by (inr (inl h)) = inl (read_fault (header_rule limits) bytes fault (inr (s.0, s.1, s.2.0, inr h)))
    by (inr (inr h)) = inr (read_eoi (header_rule limits) bytes (s.0, s.1, s.2.0, h.1, h.2), h.0)

tells_once : (limits : Limits) (f g : Fault) (bytes : List ℕ) → Tells limits f bytes → Tells limits g bytes → f ≡ g
tells_once limits f g bytes (inl s) (inl t) = let z : stopped f ≡ stopped g = sym s ∙ t in cc
tells_once limits f g bytes (inl s) (inr t) = let z : stopped f ≡ ended = sym s ∙ t.0 in cc
tells_once limits f g bytes (inr s) (inl t) = let z : ended ≡ stopped g = sym s.0 ∙ t in cc
tells_once limits f g bytes (inr s) (inr t) = s.1 ∙ sym t.1

tells_not_whole : (limits : Limits) (f : Fault) (bytes : List ℕ) (before : List Segment) → Tells limits f bytes → read (header_rule limits) starts bytes ≡ whole before → ⊥
tells_not_whole limits f bytes before (inl s) e = let z : stopped f ≡ whole before = sym s ∙ e in cc
tells_not_whole limits f bytes before (inr s) e = let z : ended ≡ whole before = sym s.0 ∙ e in cc

-- THE LAWS, for a prefix and what is after it

pub shown_not_standing : (limits : Limits) (front rest : List ℕ) (fault : Fault) → HeaderReveals limits fault front → UnfinishedHeader limits (front ++ rest) → ⊥
shown_not_standing limits front rest fault s t =
    going_front (closing_rule limits) starts front rest (shown_closed limits fault front s) (standing_going limits (front ++ rest) t)

pub whole_not_standing : (limits : Limits) (front rest : List ℕ) (before : List Segment) (contents : List ℕ) → IsHeader limits front before contents → UnfinishedHeader limits (front ++ rest) → ⊥
whole_not_standing limits front rest before contents s t =
    going_front (closing_rule limits) starts front rest (whole_closed limits front before contents s) (standing_going limits (front ++ rest) t)

same_whole : (xs ys : List Segment) → whole xs ≡ whole ys → xs ≡ ys
same_whole xs ys e = cc

same_newest : (xs ys : List Segment) (s t : Segment) → s ∷ xs ≡ t ∷ ys → (s ≡ t) × (xs ≡ ys)
same_newest xs ys s t e = (cc, cc)

module _ (limits : Limits) (a b x y : List ℕ) where
  pub shown_not_whole : (fault : Fault) (before : List Segment) (contents : List ℕ) → HeaderReveals limits fault a → IsHeader limits b before contents → a ++ x ≡ b ++ y → ⊥
  shown_not_whole fault before contents s t e =
      let same = closed_once (closing_rule limits) starts a b x y (shown_closed limits fault a s) (whole_closed limits b before contents t) e in
      tells_not_whole limits fault b ((0xda, contents) ∷ before) (shown_tells limits fault b (subst (λ l. HeaderReveals limits fault l) same s))
      (read_segments (header_rule limits) ((0xda, contents) ∷ before) b t.spelled t.passed)

  pub shown_once : (f g : Fault) → HeaderReveals limits f a → HeaderReveals limits g b → a ++ x ≡ b ++ y → (a ≡ b) × (f ≡ g)
  shown_once f g s t e =
      let same = closed_once (closing_rule limits) starts a b x y (shown_closed limits f a s) (shown_closed limits g b t) e in
      (same, tells_once limits f g b (shown_tells limits f b (subst (λ l. HeaderReveals limits f l) same s)) (shown_tells limits g b t))

  pub whole_once : (before later : List Segment) (contents others : List ℕ) → IsHeader limits a before contents → IsHeader limits b later others → a ++ x ≡ b ++ y
      → (a ≡ b) × (before ≡ later) × (contents ≡ others)
  whole_once before later contents others s t e =
      let same = closed_once (closing_rule limits) starts a b x y (whole_closed limits a before contents s) (whole_closed limits b later others t) e in
      let m = read_segments (header_rule limits) ((0xda, contents) ∷ before) a s.spelled s.passed in
      let n = read_segments (header_rule limits) ((0xda, others) ∷ later) b t.spelled t.passed in
      let all = same_whole ((0xda, contents) ∷ before) ((0xda, others) ∷ later) (sym m ∙ ap (λ l. read (header_rule limits) starts l) same ∙ n) in
      let k = same_newest before later (0xda, contents) (0xda, others) all in
      (same, k.1, ap (λ (s : Segment). s.1) k.0)
