-- Bytes of segments, read byte by byte: their result is determined by the state after them.
use Rattle.std.proofs.Common.{◌≡◌, ℕ, zero, suc, ◌+◌, ◌-◌, ◌<◌, true, false, cond, List, [], ◌∷◌, ◌++◌, length, refl, sym, ap, ◌∙◌, arith, inl, inr, Option, Some, None}
use Rattle.std.specs.Prelude.{◌⊎◌, ◌==◌, nat_lt, replicate}
use Rattle.std.proofs.lemmas.List.{append_assoc, append-nil}
use Rattle.std.proofs.lemmas.Bool.Decides.{nat_tests}
use Rattle.jpg_spec.specs.Segments.{two_bytes}
use Rattle.jpg_spec.specs.Markers.{Segment, SpellsMarker, SpellsSegment, SpellsSegments, is_frame_code, code_fault, Rule, Pass, RevealsNoStart, Between, NoMarkerBytes, BeginsSegment, RevealsCode, RevealsLength, RevealsSegment, TailReveals, SegmentsReveal, PartOfSegment, Reached, at_soi, at_frame, at_eoi, at_segment, at_fault, at_part, Reaches}
use Rattle.jpg_spec.specs.declared.fault.Fault.{Fault}
use Rattle.jpg_spec.specs.declared.fault.Fault.TheVariants.{NotJpeg, NoMarker, BadLength}
use Rattle.jpg_spec.proofs.Segments.MarkersOnce.{length_bytes}
use Rattle.jpg_spec.proofs.Basics.Common.{not_same}

-- STATES between bytes

-- nothing; the FF of SOI; complete segments; FF bytes after them; a marker; a byte of its length; some contents, of
-- which suc k bytes are left; a fault, EOI, and what is after these
pub data State : Type 0 where
  starts : State
  starting : State
  whole : List Segment → State
  filling : List Segment → State
  marked : List Segment → ℕ → State
  half : List Segment → ℕ → ℕ → State
  inside : List Segment → ℕ → ℕ → List ℕ → State
  stopped : Fault → State
  ended : State
  behind : State

-- after a segment that is complete
abbrev pub judged : List Segment → ℕ → List ℕ → Option Fault → State
judged before code contents None = whole ((code, contents) ∷ before)
judged before code contents (Some fault) = stopped fault

-- contents, and how many of their bytes are left
abbrev pub taken : Rule → List Segment → ℕ → ℕ → List ℕ → State
taken rule before code zero contents = judged before code contents (rule before code contents)
taken rule before code (suc left) contents = inside before code left contents

-- after a code that no fault forbids, or a fault
abbrev pub allowed : List Segment → ℕ → Option Fault → State
allowed before code None = cond (code == 0xd9) ended (marked before code)
allowed before code (Some fault) = stopped fault

abbrev pub counted : Rule → List Segment → ℕ → ℕ → State
counted rule before code n = cond (nat_lt n 2) (stopped BadLength) (taken rule before code (n - 2) [])

-- the next byte
abbrev pub next : Rule → State → ℕ → State
next rule starts b = cond (b == 255) starting (stopped NotJpeg)
next rule starting b = cond (b == 0xd8) (whole []) (stopped NotJpeg)
next rule (whole before) b = cond (b == 255) (filling before) (stopped NoMarker)
next rule (filling before) b = cond (b == 255) (filling before) (cond (b == 0) (stopped NoMarker) (allowed before b (code_fault before b)))
next rule (marked before code) b = half before code b
next rule (half before code high) b = counted rule before code (two_bytes high b)
next rule (inside before code left contents) b = taken rule before code left (contents ++ b ∷ [])
next rule (stopped fault) b = behind
next rule ended b = behind
next rule behind b = behind

abbrev pub read : Rule → State → List ℕ → State
read rule s [] = s
read rule s (b ∷ bytes) = read rule (next rule s b) bytes

-- the result of a state
abbrev pub called : State → Option Reached
called (whole []) = Some at_soi
called (whole (s ∷ before)) = Some (at_segment s)
called (marked before code) = Some (cond (is_frame_code code) at_frame at_part)
called (stopped fault) = Some (at_fault fault)
called ended = Some at_eoi
called behind = None
called s = Some at_part

-- HOW THEY ARE READ

pub read_both : (rule : Rule) (s : State) (a b : List ℕ) → read rule s (a ++ b) ≡ read rule (read rule s a) b
read_both rule s [] b = refl
read_both rule s (x ∷ a) b = read_both rule (next rule s x) a b

pub read_after : (rule : Rule) (bytes : List ℕ) → read rule behind bytes ≡ behind
read_after rule [] = refl
read_after rule (b ∷ bytes) = read_after rule bytes

pub read_fills : (rule : Rule) (before : List Segment) (fill : ℕ) → read rule (filling before) (replicate fill 255) ≡ filling before
read_fills rule before zero = refl
read_fills rule before (suc fill) = read_fills rule before fill

-- FF bytes and another byte
pub read_filled : (rule : Rule) (before : List Segment) (fill b : ℕ) → (b ≡ 255 → ⊥)
    → read rule (whole before) (replicate (suc fill) 255 ++ b ∷ []) ≡ cond (b == 0) (stopped NoMarker) (allowed before b (code_fault before b))
read_filled rule before fill b n =
    read_both rule (filling before) (replicate fill 255) (b ∷ []) ∙ ap (λ s. next rule s b) (read_fills rule before fill)
    ∙ ap (λ t. cond t (filling before) (cond (b == 0) (stopped NoMarker) (allowed before b (code_fault before b)))) (not_same b 255 n)

pub read_marker : (rule : Rule) (before : List Segment) (code : ℕ) (bytes : List ℕ) → SpellsMarker code bytes → read rule (whole before) bytes ≡ allowed before code (code_fault before code)
read_marker rule before code bytes s =
    ap (λ l. read rule (whole before) l) s.1 ∙ read_filled rule before s.0 code s.2.1
    ∙ ap (λ t. cond t (stopped NoMarker) (allowed before code (code_fault before code))) (not_same code 0 s.2.0)

-- a marker that begins a segment
pub read_begin : (rule : Rule) (before : List Segment) (code : ℕ) (marker : List ℕ) → BeginsSegment before code marker → read rule (whole before) marker ≡ marked before code
read_begin rule before code marker s =
    read_marker rule before code marker s.0 ∙ ap (λ f. allowed before code f) s.1 ∙ ap (λ t. cond t ended (marked before code)) (not_same code 0xd9 s.2)

-- a marker and a length
pub read_length : (rule : Rule) (before : List Segment) (code high low : ℕ) (marker : List ℕ) → BeginsSegment before code marker
    → read rule (whole before) (marker ++ high ∷ low ∷ []) ≡ counted rule before code (two_bytes high low)
read_length rule before code high low marker s =
    read_both rule (whole before) marker (high ∷ low ∷ []) ∙ ap (λ t. read rule t (high ∷ low ∷ [])) (read_begin rule before code marker s)

-- contents, and what is left then
pub read_contents : (rule : Rule) (before : List Segment) (code left : ℕ) (done contents : List ℕ)
    → read rule (taken rule before code (length contents + left) done) contents ≡ taken rule before code left (done ++ contents)
read_contents rule before code left done [] =
    let z : 0 + left ≡ left = omega arith in
    ap (λ n. taken rule before code n done) z ∙ ap (λ l. taken rule before code left l) (sym (append-nil done))
read_contents rule before code left done (b ∷ contents) =
    let n : suc (length contents) + left ≡ suc (length contents + left) = omega arith in
    ap (λ k. read rule (taken rule before code k done) (b ∷ contents)) n ∙ read_contents rule before code left (done ++ b ∷ []) contents
    ∙ ap (λ l. taken rule before code left l) (append_assoc done (b ∷ []) contents)

-- a marker, a length, and some of the contents that it counts
pub read_some : (rule : Rule) (before : List Segment) (code high low left : ℕ) (marker contents : List ℕ) → BeginsSegment before code marker → two_bytes high low ≡ length contents + left + 2
    → read rule (whole before) (marker ++ high ∷ low ∷ contents) ≡ taken rule before code left contents
read_some rule before code high low left marker contents s n =
    let two : nat_lt (length contents + left + 2) 2 ≡ false = grind (arith, nat_tests) in
    let less : length contents + left + 2 - 2 ≡ length contents + left = omega arith in
    ap (λ l. read rule (whole before) l) (sym (append_assoc marker (high ∷ low ∷ []) contents)) ∙ read_both rule (whole before) (marker ++ high ∷ low ∷ []) contents
    ∙ ap (λ t. read rule t contents) (read_length rule before code high low marker s ∙ ap (λ k. counted rule before code k) n
    ∙ ap (λ t. cond t (stopped BadLength) (taken rule before code (length contents + left + 2 - 2) [])) two ∙ ap (λ k. taken rule before code k []) less)
    ∙ read_contents rule before code left [] contents

-- a complete segment
pub read_segment : (rule : Rule) (before : List Segment) (code : ℕ) (contents bytes : List ℕ) → SpellsSegment code contents bytes → code_fault before code ≡ None → (code ≡ 0xd9 → ⊥)
    → read rule (whole before) bytes ≡ judged before code contents (rule before code contents)
read_segment rule before code contents bytes s f n =
    let l = length_bytes (length contents + 2) s.2 in
    let z : two_bytes l.0 l.1 ≡ length contents + 0 + 2 = omega (arith, l.3) in
    let cut : bytes ≡ s.0 ++ l.0 ∷ l.1 ∷ contents = s.3 ∙ ap (λ k. s.0 ++ k ++ contents) l.2 ∙ append_assoc s.0 (l.0 ∷ l.1 ∷ []) contents in
    ap (λ k. read rule (whole before) k) cut ∙ read_some rule before code l.0 l.1 0 s.0 contents (s.1, f, n) z

-- complete segments that break no rule
pub read_segments : (rule : Rule) (before : List Segment) (bytes : List ℕ) → SpellsSegments before bytes → Pass rule before → read rule starts bytes ≡ whole before
read_segments rule [] bytes s p = ap (λ l. read rule starts l) s
read_segments rule (x ∷ before) bytes s p =
    ap (λ l. read rule starts l) s.2 ∙ read_both rule starts s.0 s.1 ∙ ap (λ t. read rule t s.1) (read_segments rule before s.0 s.3 p.2)
    ∙ read_segment rule before x.0 x.1 s.1 s.4 p.0 s.5 ∙ ap (λ f. judged before x.0 x.1 f) p.1

pub read_between : (rule : Rule) (bytes : List ℕ) (before : List Segment) (tail : List ℕ) → Between rule bytes before tail → read rule starts bytes ≡ read rule (whole before) tail
read_between rule bytes before tail w =
    ap (λ l. read rule starts l) w.cut ∙ read_both rule starts w.front tail ∙ ap (λ t. read rule t tail) (read_segments rule before w.front w.spelled w.passed)

-- WHAT HAS A FAULT is read as this fault

pub read_no_start : (rule : Rule) (bytes : List ℕ) → RevealsNoStart bytes → read rule starts bytes ≡ stopped NotJpeg
read_no_start rule bytes (inl s) = ap (λ l. read rule starts l) s.1 ∙ ap (λ t. cond t starting (stopped NotJpeg)) (not_same s.0 255 s.2)
read_no_start rule bytes (inr s) = ap (λ l. read rule starts l) s.1 ∙ ap (λ t. cond t (whole []) (stopped NotJpeg)) (not_same s.0 0xd8 s.2)

pub read_no_marker : (rule : Rule) (before : List Segment) (tail : List ℕ) → NoMarkerBytes tail → read rule (whole before) tail ≡ stopped NoMarker
read_no_marker rule before tail (inl s) = ap (λ l. read rule (whole before) l) s.1 ∙ ap (λ t. cond t (filling before) (stopped NoMarker)) (not_same s.0 255 s.2)
read_no_marker rule before tail (inr s) = ap (λ l. read rule (whole before) l) s.1 ∙ read_filled rule before s.0 0 (λ h. omega (arith, h))

pub read_code : (rule : Rule) (before : List Segment) (fault : Fault) (tail : List ℕ) → RevealsCode before fault tail → read rule (whole before) tail ≡ stopped fault
read_code rule before fault tail s = read_marker rule before s.0 tail s.1 ∙ ap (λ f. allowed before s.0 f) s.2

pub read_short : (rule : Rule) (before : List Segment) (tail : List ℕ) → RevealsLength before tail → read rule (whole before) tail ≡ stopped BadLength
read_short rule before tail s =
    let few = s.6 in
    let n = two_bytes s.2 s.3 in
    let two : nat_lt n 2 ≡ true = grind (arith, nat_tests) in
    ap (λ l. read rule (whole before) l) s.5 ∙ read_length rule before s.0 s.2 s.3 s.1 s.4 ∙ ap (λ t. cond t (stopped BadLength) (taken rule before s.0 (n - 2) [])) two

pub read_broken : (rule : Rule) (before : List Segment) (fault : Fault) (tail : List ℕ) → RevealsSegment rule before fault tail → read rule (whole before) tail ≡ stopped fault
read_broken rule before fault tail s = read_segment rule before s.0 s.1 tail s.2 s.3 s.4 ∙ ap (λ f. judged before s.0 s.1 f) s.5

pub read_tail_fault : (rule : Rule) (before : List Segment) (fault : Fault) (tail : List ℕ) → TailReveals rule before fault tail → read rule (whole before) tail ≡ stopped fault
read_tail_fault rule before fault tail (inl s) = read_code rule before fault tail s
read_tail_fault rule before fault tail (inr (inl s)) = read_short rule before tail s.1 ∙ ap stopped (sym s.0)
read_tail_fault rule before fault tail (inr (inr s)) = read_broken rule before fault tail s

pub read_fault : (rule : Rule) (bytes : List ℕ) (fault : Fault) → SegmentsReveal rule fault bytes → read rule starts bytes ≡ stopped fault
read_fault rule bytes fault (inl s) = read_no_start rule bytes s.1 ∙ ap stopped (sym s.0)
read_fault rule bytes fault (inr s) = read_between rule bytes s.0 s.1 s.2 ∙ by s.3
  where
    by : ((fault ≡ NoMarker) × NoMarkerBytes s.1) ⊎ TailReveals rule s.0 fault s.1 → read rule (whole s.0) s.1 ≡ stopped fault
    by (inl h) = read_no_marker rule s.0 s.1 h.1 ∙ ap stopped (sym h.0)
    by (inr h) = read_tail_fault rule s.0 fault s.1 h

-- WHAT OTHER RESULTS THERE ARE

pub read_eoi : (rule : Rule) (bytes : List ℕ) → Reaches rule bytes at_eoi → read rule starts bytes ≡ ended
read_eoi rule bytes s = read_between rule bytes s.0 s.1 s.2 ∙ read_marker rule s.0 0xd9 s.1 s.3 ∙ ap (λ f. allowed s.0 0xd9 f) s.4

pub called_part : (rule : Rule) (before : List Segment) (tail : List ℕ) → PartOfSegment before tail → (tail ≡ [] → ⊥) → called (read rule (whole before) tail) ≡ Some at_part
called_part rule before tail (inl s) n = by s.0 s.1
  where
    by : (fill : ℕ) → tail ≡ replicate fill 255 → called (read rule (whole before) tail) ≡ Some at_part
    by zero e = absurd (n e)
    by (suc fill) e = ap (λ l. called (read rule (whole before) l)) e ∙ ap called (read_fills rule before fill)
called_part rule before tail (inr s) n = by s.3
  where
    by : ((tail ≡ s.1) × (is_frame_code s.0 ≡ false)) ⊎ (((high : ℕ) × (tail ≡ s.1 ++ high ∷ []) × (high < 256))
        ⊎ ((high : ℕ) × (low : ℕ) × (contents : List ℕ) × (tail ≡ s.1 ++ high ∷ low ∷ contents) × (high < 256) × (low < 256) × (length contents + 2 < two_bytes high low)))
        → called (read rule (whole before) tail) ≡ Some at_part
    by (inl h) =
        ap (λ l. called (read rule (whole before) l)) h.0 ∙ ap called (read_begin rule before s.0 s.1 s.2) ∙ ap (λ t. (let r : Option Reached = Some (cond t at_frame at_part) in r)) h.1
    by (inr (inl h)) =
        ap (λ l. called (read rule (whole before) l)) h.1 ∙ ap called (read_both rule (whole before) s.1 (h.0 ∷ []) ∙ ap (λ t. read rule t (h.0 ∷ [])) (read_begin rule before s.0 s.1 s.2))
    by (inr (inr h)) =
        let less = h.6 in
        let n = two_bytes h.0 h.1 in
        let left = n - (length h.2 + 2 + 1) in
        let z : two_bytes h.0 h.1 ≡ length h.2 + suc left + 2 = omega (arith, less) in
        ap (λ l. called (read rule (whole before) l)) h.3 ∙ ap called (read_some rule before s.0 h.0 h.1 (suc left) s.1 h.2 s.2 z)

-- the result is that of the bytes, when they are read
pub reads : (rule : Rule) (bytes : List ℕ) (x : Reached) → Reaches rule bytes x → called (read rule starts bytes) ≡ Some x
reads rule bytes at_soi s = ap (λ l. called (read rule starts l)) s
reads rule bytes at_frame s =
    ap called (read_between rule bytes s.0 s.1 s.2 ∙ read_begin rule s.0 s.3.0 s.1 s.3.1) ∙ ap (λ t. (let r : Option Reached = Some (cond t at_frame at_part) in r)) s.3.2
reads rule bytes at_eoi s = ap called (read_eoi rule bytes s)
reads rule bytes (at_segment x) s = ap called (read_segments rule (x ∷ s.0) bytes s.1 s.2)
reads rule bytes (at_fault f) s = ap called (read_fault rule bytes f s)
reads rule bytes at_part (inl (inl s)) = ap (λ l. called (read rule starts l)) s
reads rule bytes at_part (inl (inr s)) = ap (λ l. called (read rule starts l)) s
reads rule bytes at_part (inr s) = ap called (read_between rule bytes s.0 s.1 s.2) ∙ called_part rule s.0 s.1 s.3 s.4
