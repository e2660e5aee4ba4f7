-- After items the bytes of a further one have at most one result: a fault, EOI, a complete segment, or a part of one.
use Rattle.std.proofs.Common.{◌≡◌, ℕ, Bool, true, false, List, [], ◌∷◌, ◌++◌, refl, sym, ap, ◌∙◌, inl, inr, ⊎_elim, Option, Some, None}
use Rattle.std.specs.Prelude.{◌⊎◌}
use Rattle.jpg_spec.specs.Markers.{Segment, Rule, SpellsMarker, SpellsSegment, code_fault, BeginsSegment, TailReveals, PartOfSegment}
use Rattle.jpg_spec.specs.InForce.{frame_of}
use Rattle.jpg_spec.specs.History.{is_complete}
use Rattle.jpg_spec.specs.Items.{Item, segments_of, contents_rule}
use Rattle.jpg_spec.specs.FirstFault.{ItemReveals}
use Rattle.jpg_spec.specs.declared.fault.Fault.{Fault}
use Rattle.jpg_spec.specs.declared.fault.Fault.TheVariants.{NotJpeg, MissingComponent}
use Rattle.jpg_spec.specs.declared.frame.Limits.{Limits}
use Rattle.jpg_spec.proofs.Segments.MarkersOnce.{no_head}
use Rattle.jpg_spec.proofs.Segments.ReadBytes.{State, whole, stopped, ended, judged, allowed, read, read_marker, read_begin, read_segment, read_no_marker, read_tail_fault, called_part}
use Rattle.jpg_spec.proofs.Headers.OneHeader.{phase, going, closed, closed_once, going_front, part_going}

-- a rule that no segment passes, so that only one is read
abbrev pub closes : Option Fault → Option Fault
closes None = Some NotJpeg
closes (Some fault) = Some fault

abbrev pub one_rule : Limits → Rule
one_rule limits before code contents = closes (contents_rule limits before code contents)

-- a fault, or EOI
abbrev pub Ends : Limits → List Item → List ℕ → Type 0
Ends limits items tail = ((fault : Fault) × ItemReveals limits items fault tail) ⊎ (SpellsMarker 0xd9 tail × (code_fault (segments_of items) 0xd9 ≡ None))

-- a part of a segment
abbrev pub Goes : List Item → List ℕ → Type 0
Goes items tail = ((code : ℕ) × BeginsSegment (segments_of items) code tail) ⊎ PartOfSegment (segments_of items) tail

-- The bytes begin with a complete segment that breaks no rule.
pub record HasHead (limits : Limits) (before : List Segment) (u : List ℕ) : Type 0 where
  pub code : ℕ
  pub contents : List ℕ
  pub head : List ℕ
  pub rest : List ℕ
  pub cut : u ≡ head ++ rest
  pub spelled : SpellsSegment code contents head
  pub allowed : code_fault before code ≡ None
  pub rule : contents_rule limits before code contents ≡ None
  pub other : code ≡ 0xd9 → ⊥

-- PHASES of what is there

fault_closed : (limits : Limits) (before : List Segment) (fault : Fault) (tail : List ℕ) → TailReveals (contents_rule limits) before fault tail → phase (read (one_rule limits) (whole before) tail) ≡ closed
fault_closed limits before fault tail s = ap phase (read_tail_fault (one_rule limits) before fault tail (by s))
  where
    by : TailReveals (contents_rule limits) before fault tail → TailReveals (one_rule limits) before fault tail
    by (inl k) = inl k
    by (inr (inl k)) = inr (inl k)
    by (inr (inr k)) = inr (inr (k.0, k.1, k.2, k.3, k.4, ap closes k.5))

eoi_state : (rule : Rule) (before : List Segment) (tail : List ℕ) → SpellsMarker 0xd9 tail → code_fault before 0xd9 ≡ None → read rule (whole before) tail ≡ ended
eoi_state rule before tail m e = read_marker rule before 0xd9 tail m ∙ ap (λ f. allowed before 0xd9 f) e

ends_closed : (limits : Limits) (items : List Item) (tail : List ℕ) → Ends limits items tail → phase (read (one_rule limits) (whole (segments_of items)) tail) ≡ closed
ends_closed limits items tail (inl (fault, inl k)) = ap phase (read_no_marker (one_rule limits) (segments_of items) tail k.2)
ends_closed limits items tail (inl (fault, inr (inl k))) = fault_closed limits (segments_of items) fault tail k
ends_closed limits items tail (inl (fault, inr (inr k))) = ap phase (eoi_state (one_rule limits) (segments_of items) tail k.1 k.2)
ends_closed limits items tail (inr k) = ap phase (eoi_state (one_rule limits) (segments_of items) tail k.0 k.1)

head_closed : (limits : Limits) (before : List Segment) (u : List ℕ) → (h : HasHead limits before u) → phase (read (one_rule limits) (whole before) h.head) ≡ closed
head_closed limits before u h =
    ap phase (read_segment (one_rule limits) before h.code h.contents h.head h.spelled h.allowed h.other ∙ ap (λ f. judged before h.code h.contents (closes f)) h.rule)

goes_going : (limits : Limits) (items : List Item) (tail : List ℕ) → Goes items tail → phase (read (one_rule limits) (whole (segments_of items)) tail) ≡ going
goes_going limits items tail (inl k) = ap phase (read_begin (one_rule limits) (segments_of items) k.0 tail k.1)
goes_going limits items [] (inr k) = refl
goes_going limits items (b ∷ tail) (inr k) =
    part_going (read (one_rule limits) (whole (segments_of items)) (b ∷ tail)) (called_part (one_rule limits) (segments_of items) (b ∷ tail) k (λ e. no_head b tail (sym e)))

-- STATES by the rule for contents
abbrev pub Missing : Limits → List Item → Fault → Type 0
Missing limits items fault = (fault ≡ MissingComponent) × (is_complete (frame_of limits (segments_of items)) (segments_of items) ≡ false)

shown_state : (limits : Limits) (items : List Item) (fault : Fault) (tail : List ℕ) → ItemReveals limits items fault tail
    → (read (contents_rule limits) (whole (segments_of items)) tail ≡ stopped fault) ⊎ ((read (contents_rule limits) (whole (segments_of items)) tail ≡ ended) × Missing limits items fault)
shown_state limits items fault tail (inl k) = inl (read_no_marker (contents_rule limits) (segments_of items) tail k.2 ∙ ap stopped (sym k.0))
shown_state limits items fault tail (inr (inl k)) = inl (read_tail_fault (contents_rule limits) (segments_of items) fault tail k)
shown_state limits items fault tail (inr (inr k)) = inr (eoi_state (contents_rule limits) (segments_of items) tail k.1 k.2, (k.0, k.3))

head_state : (limits : Limits) (before : List Segment) (u : List ℕ) → (h : HasHead limits before u) → read (contents_rule limits) (whole before) h.head ≡ whole ((h.code, h.contents) ∷ before)
head_state limits before u h =
    read_segment (contents_rule limits) before h.code h.contents h.head h.spelled h.allowed h.other ∙ ap (λ f. judged before h.code h.contents f) h.rule

going_not_closed : (s : State) → phase s ≡ going → phase s ≡ closed → ⊥
going_not_closed s e f = let z : going ≡ closed = sym e ∙ f in cc

-- THE LAWS

-- what ends there is no prefix of a segment, nor does it continue one
pub ends_not_head : (limits : Limits) (items : List Item) (tail x u : List ℕ) → Ends limits items tail → HasHead limits (segments_of items) u → tail ++ x ≡ u → ⊥
ends_not_head limits items tail x u k h e =
    let same = closed_once (one_rule limits) (whole (segments_of items)) tail h.head x h.rest (ends_closed limits items tail k) (head_closed limits (segments_of items) u h) (e ∙ h.cut) in
    going_not_closed (read (contents_rule limits) (whole (segments_of items)) tail)
    (ap (λ l. phase (read (contents_rule limits) (whole (segments_of items)) l)) same ∙ ap phase (head_state limits (segments_of items) u h)) (by k)
  where
    shown : (fault : Fault) → ItemReveals limits items fault tail → phase (read (contents_rule limits) (whole (segments_of items)) tail) ≡ closed
    shown fault s = ⊎_elim
        (λ (z : read (contents_rule limits) (whole (segments_of items)) tail ≡ stopped fault). ap phase z)
        (λ (z : (read (contents_rule limits) (whole (segments_of items)) tail ≡ ended) × Missing limits items fault). ap phase z.0) (shown_state limits items fault tail s)

    by : Ends limits items tail → phase (read (contents_rule limits) (whole (segments_of items)) tail) ≡ closed
    by (inl s) = shown s.0 s.1
    by (inr s) = ap phase (eoi_state (contents_rule limits) (segments_of items) tail s.0 s.1)

-- a part has no complete segment
pub goes_not_head : (limits : Limits) (items : List Item) (tail : List ℕ) → Goes items tail → HasHead limits (segments_of items) tail → ⊥
goes_not_head limits items tail k h =
    going_front (one_rule limits) (whole (segments_of items)) h.head h.rest (head_closed limits (segments_of items) tail h)
    (ap (λ l. phase (read (one_rule limits) (whole (segments_of items)) l)) (sym h.cut) ∙ goes_going limits items tail k)

-- nor what ends there
pub ends_not_goes : (limits : Limits) (items : List Item) (tail x u : List ℕ) → Ends limits items tail → Goes items u → tail ++ x ≡ u → ⊥
ends_not_goes limits items tail x u k g e =
    going_front (one_rule limits) (whole (segments_of items)) tail x (ends_closed limits items tail k)
    (ap (λ l. phase (read (one_rule limits) (whole (segments_of items)) l)) e ∙ goes_going limits items u g)

-- of the prefixes of some bytes at most one ends there
pub ends_once : (limits : Limits) (items : List Item) (tail other x y : List ℕ) → Ends limits items tail → Ends limits items other → tail ++ x ≡ other ++ y → tail ≡ other
ends_once limits items tail other x y k l e =
    closed_once (one_rule limits) (whole (segments_of items)) tail other x y (ends_closed limits items tail k) (ends_closed limits items other l) e

same_fault : (s : State) (f g : Fault) → s ≡ stopped f → s ≡ stopped g → f ≡ g
same_fault s f g a b = let z : stopped f ≡ stopped g = sym a ∙ b in cc

not_ended : (s : State) (f : Fault) → s ≡ stopped f → s ≡ ended → ⊥
not_ended s f a b = let z : stopped f ≡ ended = sym a ∙ b in cc

-- with one fault
pub item_shows_once : (limits : Limits) (items : List Item) (f g : Fault) (tail : List ℕ) → ItemReveals limits items f tail → ItemReveals limits items g tail → f ≡ g
item_shows_once limits items f g tail k l = by (shown_state limits items f tail k) (shown_state limits items g tail l)
  where
    state : State
    state = read (contents_rule limits) (whole (segments_of items)) tail

    by : (state ≡ stopped f) ⊎ ((state ≡ ended) × Missing limits items f) → (state ≡ stopped g) ⊎ ((state ≡ ended) × Missing limits items g) → f ≡ g
    by (inl a) (inl b) = same_fault state f g a b
    by (inl a) (inr b) = absurd (not_ended state f a b.0)
    by (inr a) (inl b) = absurd (not_ended state g b a.0)
    by (inr a) (inr b) = a.1.0 ∙ sym b.1.0

-- or EOI, which finds each component in a scan
pub shown_not_ended : (limits : Limits) (items : List Item) (fault : Fault) (tail : List ℕ) → ItemReveals limits items fault tail → SpellsMarker 0xd9 tail → code_fault (segments_of items) 0xd9 ≡ None
    → is_complete (frame_of limits (segments_of items)) (segments_of items) ≡ true → ⊥
shown_not_ended limits items fault tail k m e all = by (shown_state limits items fault tail k)
  where
    state : State
    state = read (contents_rule limits) (whole (segments_of items)) tail

    clash : (b : Bool) → b ≡ true → b ≡ false → ⊥
    clash b x y = cc

    by : (state ≡ stopped fault) ⊎ ((state ≡ ended) × Missing limits items fault) → ⊥
    by (inl a) = not_ended state fault a (eoi_state (contents_rule limits) (segments_of items) tail m e)
    by (inr a) = clash (is_complete (frame_of limits (segments_of items)) (segments_of items)) all a.1.1
