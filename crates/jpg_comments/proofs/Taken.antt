-- The effect of each further byte on the bytes that a reader was given, and the faults of marker segments that follow.
use Rattle.std.proofs.Common.{◌≡◌, ℕ, zero, suc, ◌+◌, ◌<◌, ◌≤◌, Bool, true, false, List, [], ◌∷◌, ◌++◌, length, take, get_or, Ok, refl, sym, ap, ◌∙◌, subst, arith, inl, inr, ◌⊎◌}
use Rattle.std.proofs.lemmas.List.{append_assoc, append-nil, length-append, length-take-le, take-append-le, take-take, take_all, take_more}
use Rattle.jpg_spec.specs.Markers.{Segment, Rule, kept_rule, is_frame_code, SegmentsReveal, IsLeast, Reached, at_fault, at_part, Reaches}
use Rattle.jpg_spec_write.specs.CommentText.{RevealsNothing, IsMarkerFault}
use Rattle.jpg_spec.specs.declared.fault.Fault.{Fault}
use Rattle.jpg_spec.specs.declared.fault.FaultAt.{FaultAt}
use Rattle.jpg_spec.specs.declared.fault.Fault.TheVariants.{Truncated, InputTooLong}
use Rattle.jpg_spec.specs.declared.frame.Limits.{Limits}
use Rattle.jpg_spec.proofs.Segments.Reached.{reached_once, least}
use Rattle.jpg_spec.proofs.Basics.Common.{clash, whole_front}
use Rattle.jpg_markers.specs.declared.segments.Phase.{Phase}
use Rattle.jpg_markers.specs.declared.segments.Phase.TheVariants as phase
use Rattle.jpg_markers.specs.Reading.{Reading, AtPhase, PassesSome, RepresentsSegments}
use Rattle.jpg_comments.specs.SegmentsSoFar.{IsBegun, HasTaken, ShowsFault, Appends}

-- APPENDING

pub appends_none : (P : List ℕ → Type 0) (text old : List ℕ) → P text → Appends P text old old
appends_none P text old h = ([], sym (append-nil old), subst P (sym (append-nil text)) h)

pub appends_then : (P Q : List ℕ → Type 0) (text old mid new : List ℕ) → Appends P text old mid → ((all : List ℕ) → P all → Appends Q all mid new) → Appends Q text old new
appends_then P Q text old mid new h f =
    let k = f (text ++ h.0) h.2 in
    (h.0 ++ k.0, k.1 ∙ ap (λ l. l ++ k.0) h.1 ∙ append_assoc old h.0 k.0, subst Q (append_assoc text h.0 k.0) k.2)

pub appends_as : (P Q : List ℕ → Type 0) (text old new : List ℕ) → Appends P text old new → ((all : List ℕ) → P all → Q all) → Appends Q text old new
appends_as P Q text old new h f = (h.0, h.1, f (text ++ h.0) h.2)

-- PREFIXES

-- The result of the bytes determines whether they are complete: `goes` is false there and at faults.
pub record Tells (limits : Limits) (is_whole : List ℕ → Type 0) : Type 0 where
  pub goes : Reached → Bool
  pub faulty : (f : Fault) → goes (at_fault f) ≡ false
  pub wholes : (bytes : List ℕ) → is_whole bytes → (y : Reached) × Reaches (kept_rule limits) bytes y × (goes y ≡ false)

pub upto : (n m : ℕ) → (n ≤ m) ⊎ (m < n)
upto zero m = inl (omega arith)
upto (suc n) zero = inr (omega arith)
upto (suc n) (suc m) = next (upto n m)
  where
    next : (n ≤ m) ⊎ (m < n) → (suc n ≤ suc m) ⊎ (suc m < suc n)
    next (inl h) = inl (omega (arith, h))
    next (inr h) = inr (omega (arith, h))

-- the limit of the reader is that of the bytes
pub within : {limits : Limits} {is_whole : List ℕ → Type 0} {bytes : List ℕ} {before : List Segment} {r : Reading} → HasTaken limits is_whole bytes before r → r.taken < r.limits.input → r.taken < limits.input
within {limits} {is_whole} {bytes} {before} {r} h short = subst (λ (l : Limits). r.taken < l.input) h.limited short

-- the same bytes of longer ones, and no bytes
pub some_pass : (r next : Reading) (piece : List ℕ) (most n : ℕ) → most ≤ length piece → PassesSome r (take most piece) (Ok n) next → PassesSome r piece (Ok n) next
some_pass r next piece most n few (low, stands, parts) =
    let size = length-take-le most piece few in
    let same : (m : ℕ) → m ≤ n → take m (take most piece) ≡ take m piece = λ m less. take-take m most piece (omega (arith, size, low, less)) in (
      omega (arith, few, size, low),
      λ bytes before s. subst (λ l. RepresentsSegments (bytes ++ l) before next) (same n (omega arith)) (stands bytes before s),
      λ front before m s some less. subst (λ l. Reaches (kept_rule r.limits) (front ++ l) at_part) (same m less) (parts front before m s some less),
    )

pub none_pass : (r next : Reading) (piece : List ℕ) → next ≡ r → PassesSome r piece (Ok 0) next
none_pass r next piece same = (
  omega arith,
  λ bytes before s. subst (λ (q : Reading). RepresentsSegments (bytes ++ []) before q) (sym same) (subst (λ l. RepresentsSegments l before r) (sym (append-nil bytes)) s),
  λ front before m s some less. absurd (omega (arith, some, less)),
)

-- a reader, before and after one more byte
pub record OneMore (r next : Reading) : Type 0 where
  pub short : r.taken < r.limits.input
  pub same : next.limits ≡ r.limits
  pub one : next.taken ≡ r.taken + 1

module _ (limits : Limits) (is_whole : List ℕ → Type 0) (t : Tells limits is_whole) where
  -- bytes that can be continued are not complete and have no fault
  pub goes_on : (bytes : List ℕ) (x : Reached) → t.goes x ≡ true → Reaches (kept_rule limits) bytes x
      → ((fault : Fault) → SegmentsReveal (kept_rule limits) fault bytes → ⊥) × (is_whole bytes → ⊥)
  goes_on bytes x going reaches = (
    λ fault s. clash (t.goes x) going (ap t.goes (reached_once (kept_rule limits) bytes x (at_fault fault) reaches s) ∙ t.faulty fault),
    λ w. (let y = t.wholes bytes w in clash (t.goes x) going (ap t.goes (reached_once (kept_rule limits) bytes x y.0 reaches y.1) ∙ y.2)),
  )

  -- one more byte has no fault either
  pub nothing_more : (bytes : List ℕ) (byte : ℕ) (x : Reached) → t.goes x ≡ true → Reaches (kept_rule limits) (bytes ++ byte ∷ []) x
      → RevealsNothing limits is_whole bytes → RevealsNothing limits is_whole (bytes ++ byte ∷ [])
  nothing_more bytes byte x going reaches before = λ n long. by n (upto n (length bytes))
    where
      all : List ℕ
      all = bytes ++ byte ∷ []

      by : (n : ℕ) → (n ≤ length bytes) ⊎ (length bytes < n) → ((fault : Fault) → SegmentsReveal (kept_rule limits) fault (take n all) → ⊥) × (is_whole (take n all) → ⊥)
      by n (inl h) =
          let e = take-append-le n bytes (byte ∷ []) h in
          let old = before n h in
          (λ fault s. old.0 fault (subst (λ l. SegmentsReveal (kept_rule limits) fault l) e s), λ w. old.1 (subst is_whole e w))
      by n (inr h) =
          let e = take_all n all (omega (arith, h, length-append bytes (byte ∷ []))) in
          let new = goes_on all x going reaches in
          (λ fault s. new.0 fault (subst (λ l. SegmentsReveal (kept_rule limits) fault l) e s), λ w. new.1 (subst is_whole e w))

  -- no bytes have no fault
  pub nothing_first : t.goes at_part ≡ true → RevealsNothing limits is_whole []
  nothing_first going = λ n long.
      let e : take n [] ≡ [] = take_all n [] (omega arith) in
      let new = goes_on [] at_part going (inl (inl refl)) in
      (λ fault s. new.0 fault (subst (λ l. SegmentsReveal (kept_rule limits) fault l) e s), λ w. new.1 (subst is_whole e w))

  -- one more byte is taken
  pub taken_on : (r next : Reading) (bytes : List ℕ) (byte : ℕ) (before more : List Segment) (x : Reached) → HasTaken limits is_whole bytes before r
      → OneMore r next → t.goes x ≡ true → Reaches (kept_rule next.limits) (bytes ++ byte ∷ []) x → RepresentsSegments (bytes ++ byte ∷ []) more next
      → HasTaken limits is_whole (bytes ++ byte ∷ []) more next
  taken_on r next bytes byte before more x h m going reaches stands =
      let e : next.limits ≡ limits = m.same ∙ h.limited in
      let was = h.taken in
      let one = m.one in
      let room = within h m.short in
      record {
        stands = stands;
        limited = e;
        taken = omega (arith, one, was, length-append bytes (byte ∷ []));
        most = omega (arith, one, room);
        nothing = nothing_more bytes byte x going (subst (λ l. Reaches (kept_rule l) (bytes ++ byte ∷ []) x) e reaches) h.nothing;
      }

  -- some bytes that complete nothing
  nothing_some : (bytes piece : List ℕ) (n m : ℕ) → t.goes at_part ≡ true
      → ((m : ℕ) → 1 ≤ m → m ≤ n → Reaches (kept_rule limits) (bytes ++ take m piece) at_part) → n ≤ length piece → m ≤ n → RevealsNothing limits is_whole bytes
      → RevealsNothing limits is_whole (bytes ++ take m piece)
  nothing_some bytes piece n zero going reaches few less before = subst (λ l. RevealsNothing limits is_whole l) (sym (append-nil bytes)) before
  nothing_some bytes piece n (suc m) going reaches few less before =
      let one : suc m ≡ m + 1 = omega arith in
      let last : bytes ++ take (suc m) piece ≡ (bytes ++ take m piece) ++ get_or piece m 0 ∷ [] =
      ap (λ l. bytes ++ l) (ap (λ k. take k piece) one ∙ take_more piece m 0 (omega (arith, few, less))) ∙ sym (append_assoc bytes (take m piece) (get_or piece m 0 ∷ [])) in
      let old = nothing_some bytes piece n m going reaches few (omega (arith, less)) before in
      subst (λ l. RevealsNothing limits is_whole l) (sym last)
      (nothing_more (bytes ++ take m piece) (get_or piece m 0) at_part going (subst (λ l. Reaches (kept_rule limits) l at_part) last (reaches (suc m) (omega arith) less)) old)

  -- some bytes of which only the last one completes something
  pub nothing_to : (bytes piece : List ℕ) (n : ℕ) (x : Reached) → t.goes at_part ≡ true → t.goes x ≡ true → 1 ≤ n → n ≤ length piece
      → ((m : ℕ) → 1 ≤ m → m < n → Reaches (kept_rule limits) (bytes ++ take m piece) at_part) → Reaches (kept_rule limits) (bytes ++ take n piece) x
      → RevealsNothing limits is_whole bytes → RevealsNothing limits is_whole (bytes ++ take n piece)
  nothing_to bytes piece zero x part going some few parts reaches before = absurd (omega (arith, some))
  nothing_to bytes piece (suc m) x part going some few parts reaches before =
      let one : suc m ≡ m + 1 = omega arith in
      let last : bytes ++ take (suc m) piece ≡ (bytes ++ take m piece) ++ get_or piece m 0 ∷ [] =
      ap (λ l. bytes ++ l) (ap (λ k. take k piece) one ∙ take_more piece m 0 (omega (arith, few))) ∙ sym (append_assoc bytes (take m piece) (get_or piece m 0 ∷ [])) in
      let old = nothing_some bytes piece m m part (λ k first less. parts k first (omega (arith, less))) (omega (arith, few)) (omega arith) before in
      subst (λ l. RevealsNothing limits is_whole l) (sym last)
      (nothing_more (bytes ++ take m piece) (get_or piece m 0) x going (subst (λ l. Reaches (kept_rule limits) l x) last reaches) old)

  pub taken_some : (r next : Reading) (bytes piece : List ℕ) (n : ℕ) (before : List Segment) → t.goes at_part ≡ true → HasTaken limits is_whole bytes before r
      → r.taken + n ≤ limits.input → next.limits ≡ r.limits → next.taken ≡ r.taken + n → PassesSome r piece (Ok n) next
      → HasTaken limits is_whole (bytes ++ take n piece) before next
  taken_some r next bytes piece n before going h room same some (few, stands, parts) =
      let was = h.taken in
      let size = length-take-le n piece few in
      record {
        stands = stands bytes before h.stands;
        limited = same ∙ h.limited;
        taken = omega (arith, some, was, size, length-append bytes (take n piece));
        most = omega (arith, some, room);
        nothing = nothing_some bytes piece n n going (λ m one few. subst (λ l. Reaches (kept_rule l) (bytes ++ take m piece) at_part) h.limited (parts bytes before m h.stands one few)) few (omega arith) h.nothing;
      }

-- FAULTS

least_longer : (rule : Rule) (front rest : List ℕ) (f : Fault) → IsLeast (SegmentsReveal rule) front f (length front) → IsLeast (SegmentsReveal rule) (front ++ rest) f (length front)
least_longer rule front rest f h = (
  omega (arith, length-append front rest),
  subst (λ l. SegmentsReveal rule f l) (sym (take-append-le (length front) front rest (omega arith))) h.1,
  λ other m less s. h.2 other m less (subst (λ l. SegmentsReveal rule other l) (take-append-le m front rest (omega (arith, less))) s),
  λ other less s. h.3 other less (subst (λ l. SegmentsReveal rule other l) (take-append-le (length front) front rest (omega arith)) s),
)

-- a byte that reveals a fault, whatever follows it
pub fault_shown : (limits : Limits) (is_whole : List ℕ → Type 0) (r next : Reading) (bytes : List ℕ) (byte : ℕ) (before : List Segment) (f : FaultAt) → HasTaken limits is_whole bytes before r → OneMore r next → SegmentsReveal (kept_rule next.limits) f.fault (bytes ++ byte ∷ []) → f.at ≡ next.taken
    → (f.at ≡ length (bytes ++ byte ∷ [])) × ShowsFault limits is_whole (bytes ++ byte ∷ []) f
fault_shown limits is_whole r next bytes byte before f h m shown at =
    let all = bytes ++ byte ∷ [] in
    let was = h.taken in
    let one = m.one in
    let room = within h m.short in
    let size = length-append bytes (byte ∷ []) in
    let is : f.at ≡ length all = omega (arith, at, one, was, size) in
    let s = subst (λ l. SegmentsReveal (kept_rule l) f.fault all) (m.same ∙ h.limited) shown in (
      is,
      λ rest.
          subst (λ n. IsMarkerFault limits is_whole (all ++ rest) f.fault n) (sym is) (
            λ k less w.
                (let small : k ≤ length bytes = omega (arith, less, size) in
                (h.nothing k small).1 (subst is_whole (take-append-le k all rest (omega (arith, less)) ∙ take-append-le k bytes (byte ∷ []) small) w)),
            inl (omega (arith, room, was, size), least_longer (kept_rule limits) all rest f.fault (least (kept_rule limits) all f.fault s)),
          ),
    )

-- It remains, and its place is among the bytes.
pub fault_remains : (limits : Limits) (is_whole : List ℕ → Type 0) (bytes rest : List ℕ) (f : FaultAt) → ShowsFault limits is_whole bytes f → ShowsFault limits is_whole (bytes ++ rest) f
fault_remains limits is_whole bytes rest f h = λ more. subst (λ l. IsMarkerFault limits is_whole l f.fault f.at) (sym (append_assoc bytes rest more)) (h (rest ++ more))

pub fault_within : (limits : Limits) (is_whole : List ℕ → Type 0) (bytes : List ℕ) (f : FaultAt) → ShowsFault limits is_whole bytes f → f.at ≤ length bytes
fault_within limits is_whole bytes f h = subst (λ l. f.at ≤ length l) (append-nil bytes) (by (bytes ++ []) (h []))
  where
    by : (all : List ℕ) → IsMarkerFault limits is_whole all f.fault f.at → f.at ≤ length all
    by all (none, inl k) = k.1.0
    by all (none, inr (inl k)) = let at = k.1 in let long = k.2 in omega (arith, at, long)
    by all (none, inr (inr k)) = let at = k.1 in omega (arith, at)

-- the most bytes that may be taken
pub long_shown : (limits : Limits) (is_whole : List ℕ → Type 0) (r : Reading) (bytes : List ℕ) (before : List Segment) → HasTaken limits is_whole bytes before r → limits.input ≤ r.taken
    → (length bytes ≡ limits.input) × ShowsFault limits is_whole bytes (record { fault = InputTooLong; at = limits.input })
long_shown limits is_whole r bytes before h many =
    let taken = h.taken in let least = h.most in
    let long : length bytes ≡ limits.input = omega (arith, taken, least, many) in (
      long,
      λ rest.
          (let e : take limits.input (bytes ++ rest) ≡ bytes = ap (λ n. take n (bytes ++ rest)) (sym long) ∙ whole_front bytes rest in (
            λ m less w. (h.nothing m (omega (arith, long, less))).1 (subst is_whole (take-append-le m bytes rest (omega (arith, long, less))) w),
            inr (inl (refl, refl, omega (arith, long, length-append bytes rest), subst (λ l. RevealsNothing limits is_whole l) (sym e) h.nothing)),
          )),
    )

-- bytes that end
pub ends_fault : (limits : Limits) (is_whole : List ℕ → Type 0) (bytes : List ℕ) → length bytes < limits.input → RevealsNothing limits is_whole bytes
    → IsMarkerFault limits is_whole bytes Truncated (length bytes)
ends_fault limits is_whole bytes short nothing = (
  λ m less w. (nothing m (omega (arith, less))).1 w,
  inr (inr (refl, refl, short, nothing)),
)

-- WHAT IS BEGUN

pub frame_or_not : (b : Bool) → (b ≡ true) ⊎ (b ≡ false)
frame_or_not true = inl refl
frame_or_not false = inr refl

begun_at : (r : Reading) (p : Phase) (bytes : List ℕ) (before : List Segment) → AtPhase r p bytes before → IsBegun (kept_rule r.limits) bytes before
begun_at r phase.Empty bytes before h = inl (h.1, inl h.0)
begun_at r phase.HalfStart bytes before h = inl (h.1, inr h.0)
begun_at r phase.Between bytes before h = inr (h.0, h.1, inl (inl (0, h.3)))
begun_at r phase.Fill bytes before h = inr (h.0, h.1, inl (inl (suc h.3.0, h.3.1)))
begun_at r phase.Coded bytes before h = by (frame_or_not (is_frame_code r.code))
  where
    by : (is_frame_code r.code ≡ true) ⊎ (is_frame_code r.code ≡ false) → IsBegun (kept_rule r.limits) bytes before
    by (inl e) = inr (h.0, h.1, inr (r.code, h.3, e))
    by (inr e) = inr (h.0, h.1, inl (inr (r.code, h.0, h.3, inl (refl, e))))
begun_at r phase.HalfLength bytes before h =
    let k = h.3 in inr (h.0, h.1, inl (inr (r.code, k.0, k.1, inr (inl (r.high, k.2, k.3)))))
begun_at r phase.Contents bytes before h =
    let k = h.3 in
    let long = k.7 in let some = k.8 in
    inr (h.0, h.1, inl (inr (r.code, k.0, k.3, inr (inr (k.1, k.2, r.contents, k.4, k.5, k.6, omega (arith, long, some))))))
begun_at r phase.Ended bytes before h = absurd h

pub begun : (limits : Limits) (r : Reading) (bytes : List ℕ) (before : List Segment) → r.limits ≡ limits → RepresentsSegments bytes before r → IsBegun (kept_rule limits) bytes before
begun limits r bytes before e s = subst (λ l. IsBegun (kept_rule l) bytes before) e (begun_at r r.phase bytes before s.1)
