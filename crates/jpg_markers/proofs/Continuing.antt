-- Bytes that only continue what a reader of segments was given, and a complete segment at once.
use Rattle.std.proofs.Common.{◌≡◌, ℕ, zero, suc, ◌+◌, ◌-◌, ◌/◌, ◌%◌, ◌<◌, ◌≤◌, Bool, true, false, cond, ◌==◌, List, [], ◌∷◌, ◌++◌, length, take, drop, get_or, replicate, Option, None, Some, Result, Ok, Err, refl, sym, ap, ◌∙◌, subst, arith, ◌⊎◌, ⊎_elim}
use Rattle.std.proofs.lemmas.List.{append_assoc, append-nil, length-append, length-drop, length-take-le, replicate-append-replicate, take-append-drop, take-replicate, take_all, take_more}
use Rattle.std.proofs.lemmas.Bool.{eq-eqb, eqb-true}
use Rattle.std.proofs.Math.Dec.{eqb}
use Rattle.std.proofs.Math.Seq.{take-append_seam}
use lib.Pointwise.{pointwise}
use Rattle.std.specs.Prelude.{min, is_some}
use Rattle.jpg_spec.proofs.Basics.Common.{both, clash, heads, same_of, take_shorter}
use Rattle.jpg_spec.specs.Segments.{two_bytes}
use Rattle.jpg_spec.specs.Markers.{Segment, SpellsMarker, SpellsSegment, SpellsSegments, code_fault, code_fault_if, kept_rule, Pass, Reaches, at_part}
use Rattle.jpg_base.specs.declared.names.NoMemory.{NoMemory}
use Rattle.jpg_markers.specs.declared.seen.Seen.{Seen}
use Rattle.jpg_markers.specs.declared.segments.Phase.{Phase}
use Rattle.jpg_markers.specs.declared.segments.Phase.TheVariants as phase
use Rattle.jpg_markers.specs.Seen.{Leaves}
use Rattle.jpg_markers.specs.Reading.{Reading, AtPhase, RepresentsSegments, Continues, IsSized, MayFollow, PassesParts, PassesSegment, PassesSome, continued, due_of, filled, HasNoSegment, with_contents, with_taken}
use Rattle.jpg_markers.proofs.Taking.{at_is, content_more, contents_more, fill_again, further, spelled}
use Rattle.jpg_base.proofs.FedPiece.{take_both}

-- FILL BYTES

pub filled_within : (xs : List ℕ) → filled xs ≤ length xs
unfolding filled
filled_within [] = omega arith
filled_within (x ∷ xs) = by (x == 255) refl (filled_within xs)
  where
    by : (b : Bool) → (x == 255) ≡ b → filled xs ≤ length xs → filled (x ∷ xs) ≤ length (x ∷ xs)
    by true e h = rw e (omega (arith, h))
    by false e h = rw e (omega arith)

pub filled_front : (xs : List ℕ) → take (filled xs) xs ≡ replicate (filled xs) 255
unfolding filled
filled_front [] = refl
filled_front (x ∷ xs) = by (x == 255) refl (filled_front xs)
  where
    by : (b : Bool) → (x == 255) ≡ b → take (filled xs) xs ≡ replicate (filled xs) 255 → take (filled (x ∷ xs)) (x ∷ xs) ≡ replicate (filled (x ∷ xs)) 255
    by true e h =
        let is : x ≡ 255 = same_of x 255 e in
        rw e (ap (λ (y : ℕ). y ∷ take (filled xs) xs) is ∙ ap (λ (l : List ℕ). 255 ∷ l) h)
    by false e h = rw e refl

-- after so many of them, those of the rest
pub filled_after : (n : ℕ) (xs : List ℕ) → n ≤ length xs → take n xs ≡ replicate n 255 → filled xs ≡ n + filled (drop n xs)
unfolding filled
filled_after zero xs h e = omega arith
filled_after (suc n) [] h e = absurd (omega (arith, h))
filled_after (suc n) (x ∷ xs) h e =
    let k = heads x 255 (take n xs) (replicate n 255) e in
    let rest = filled_after n xs (omega (arith, h)) k.1 in
    let one : suc n + filled (drop n xs) ≡ suc (filled xs) = omega (arith, rest) in
    rw k.0 (sym one)

-- at a byte that isn't FF, and at the end, none
pub filled_end : (xs : List ℕ) (n : ℕ) → n ≤ length xs → (n < length xs → get_or xs n 0 ≡ 255 → ⊥) → filled (drop n xs) ≡ 0
unfolding filled
filled_end [] zero h stops = refl
filled_end [] (suc n) h stops = absurd (omega (arith, h))
filled_end (x ∷ xs) (suc n) h stops = filled_end xs n (omega (arith, h)) (λ less is. stops (omega (arith, less)) is)
filled_end (x ∷ xs) zero h stops = by (x == 255) refl
  where
    by : (b : Bool) → (x == 255) ≡ b → filled (x ∷ xs) ≡ 0
    by true e = absurd (stops (omega arith) (same_of x 255 e))
    by false e = rw e refl

pub filled_whole : (n : ℕ) (xs : List ℕ) → n ≤ length xs → take n xs ≡ replicate n 255 → (n < length xs → get_or xs n 0 ≡ 255 → ⊥) → n ≡ filled xs
filled_whole n xs h e stops =
    let rest = filled_after n xs h e in
    let none = filled_end xs n h stops in
    omega (arith, rest, none)

-- The byte after them isn't FF.
pub filled_stops : (xs : List ℕ) (b : ℕ) (rest : List ℕ) → drop (filled xs) xs ≡ b ∷ rest → b ≡ 255 → ⊥
unfolding filled
filled_stops [] b rest e is = cc
filled_stops (x ∷ xs) b rest e is = by (x == 255) refl (filled_stops xs b rest)
  where
    by : (c : Bool) → (x == 255) ≡ c → (drop (filled xs) xs ≡ b ∷ rest → b ≡ 255 → ⊥) → ⊥
    by true f more = more (sym (ap (λ (k : ℕ). drop k (x ∷ xs)) (ap (λ (c : Bool). cond c (suc (filled xs)) 0) f)) ∙ e) is
    by false f more =
        let k = heads x b xs rest (sym (ap (λ (k : ℕ). drop k (x ∷ xs)) (ap (λ (c : Bool). cond c (suc (filled xs)) 0) f)) ∙ e) in
        clash (x == 255) (eq-eqb x 255 (k.0 ∙ is)) f

fills_more : (r : Reading) (bytes : List ℕ) (before : List Segment) (n m : ℕ) → r.phase ≡ phase.Fill → RepresentsSegments bytes before r → RepresentsSegments (bytes ++ replicate n 255) before (with_taken r m)
fills_more r bytes before n m e s =
    let (tail, between, seen, (fill, is)) = at_is r phase.Fill bytes before e s in
    let next = further (kept_rule r.limits) bytes before tail (replicate n 255) between in
    let one : suc fill + n ≡ suc (fill + n) = omega arith in
    let cut : tail ++ replicate n 255 ≡ replicate (suc (fill + n)) 255 =
    ap (λ (t : List ℕ). t ++ replicate n 255) is ∙ replicate-append-replicate {A = ℕ} (suc fill) n 255 ∙ ap (λ (k : ℕ). replicate {A = ℕ} k 255) one in
    let P : Phase → Type 0 = λ p. AtPhase (with_taken r m) p (bytes ++ replicate n 255) before in
    (s.0, subst P (sym e) (tail ++ replicate n 255, next, seen, (fill + n, cut)))

-- none of them
none_more : (r : Reading) (bytes : List ℕ) (before : List Segment) (m : ℕ) → RepresentsSegments bytes before r → RepresentsSegments (bytes ++ []) before (with_taken r m)
none_more r bytes before m s = subst (λ (b : List ℕ). RepresentsSegments b before (with_taken r m)) (sym (append-nil bytes)) s

-- SOME BYTES that only continue
pub some_stands : (r : Reading) (bytes : List ℕ) (before : List Segment) (piece : List ℕ) (n : ℕ) → n ≡ due_of r.phase r.left piece → RepresentsSegments bytes before r → RepresentsSegments (bytes ++ take n piece) before (continued r.phase r (take n piece))
some_stands r bytes before piece n is s = by r.phase refl
  where
    idle : (p : Phase) → r.phase ≡ p → due_of p r.left piece ≡ 0 → RepresentsSegments (bytes ++ take n piece) before (with_taken r (length (take n piece)))
    idle p e none =
        let z : n ≡ 0 = is ∙ ap (λ q. due_of q r.left piece) e ∙ none in
        rw z (none_more r bytes before 0 s)

    by : (p : Phase) → r.phase ≡ p → RepresentsSegments (bytes ++ take n piece) before (continued p r (take n piece))
    by phase.Fill e =
        let m : n ≡ filled piece = is ∙ ap (λ q. due_of q r.left piece) e in
        let front : take n piece ≡ replicate n 255 = rw m (filled_front piece) in
        subst (λ (l : List ℕ). RepresentsSegments (bytes ++ l) before (with_taken r (length l))) (sym front) (fills_more r bytes before n (length (replicate {A = ℕ} n 255)) e s)
    by phase.Contents e =
        let (tail, between, seen, (marker, high, low, begins, cut, h, l, long, least)) = at_is r phase.Contents bytes before e s in
        let m : n ≡ min (r.left - 1) (length piece) = is ∙ ap (λ q. due_of q r.left piece) e in
        let size = length-take-le n piece (omega (arith, m)) in
        contents_more r bytes before (take n piece) e s (omega (arith, m, size, least))
    by other e = idle other e refl

pub some_within : (p : Phase) (left n : ℕ) (piece : List ℕ) → n ≡ due_of p left piece → n ≤ length piece
some_within phase.Fill left n piece is = let h = filled_within piece in omega (arith, is, h)
some_within phase.Contents left n piece is = omega (arith, is)
some_within other left n piece is = omega (arith, is)

-- A COMPLETE SEGMENT at once
pub passes_segment : (r : Reading) (code : ℕ) (contents : List ℕ) (seen : Seen) (n : ℕ) → MayFollow r code contents → Leaves r.seen code contents seen → PassesSegment r code contents n (record r { seen = seen; taken = r.taken + n })
passes_segment r code contents seen n may leaves =
    let e = may.between in
    record {
      was = e;
      between = e;
      limits = refl;
      taken = refl;
      kept = λ bytes before s. (let (none, between, has, nothing) = at_is r phase.Between bytes before e s in (leaves r.limits before has).0);
      stands = λ bytes tail before s spelled.
          (let (none, between, has, nothing) = at_is r phase.Between bytes before e s in
          let left = leaves r.limits before has in
          let next : Reading = record r { seen = seen; taken = r.taken + n } in
          let front : bytes ≡ between.front = between.cut ∙ ap (λ (t : List ℕ). between.front ++ t) nothing ∙ append-nil between.front in
          let allowed : code_fault before code ≡ None = ap (λ (b : Bool). code_fault_if b code) (sym has.framed) ∙ may.allowed in
          let all : SpellsSegments ((code, contents) ∷ before) (bytes ++ tail) = (bytes, tail, refl, subst (λ (b : List ℕ). SpellsSegments before b) (sym front) between.spelled, spelled, may.no_end) in
          let pass : Pass (kept_rule r.limits) ((code, contents) ∷ before) = (allowed, left.0, between.passed) in
          let P : Phase → Type 0 = λ p. AtPhase next p (bytes ++ tail) ((code, contents) ∷ before) in
          (s.0, subst P (sym e) ([], record { front = bytes ++ tail; cut = sym (append-nil (bytes ++ tail)); spelled = all; passed = pass }, left.1, refl)));
    }

-- GROUPS OF BYTES that are equal
pub same_bytes : (xs ys : List ℕ) → pointwise eqb xs ys ≡ true → xs ≡ ys
same_bytes [] [] e = refl
same_bytes [] (y ∷ ys) e = cc
same_bytes (x ∷ xs) [] e = cc
same_bytes (x ∷ xs) (y ∷ ys) e =
    let k = both (eqb x y) (pointwise eqb xs ys) e in
    rw (eqb-true x y k.0) (ap (λ (l : List ℕ). y ∷ l) (same_bytes xs ys k.1))

pub eight_more : (n : ℕ) (bytes group : List ℕ) → take n bytes ≡ replicate n 255 → n ≤ length bytes → group ≡ take 8 (drop n bytes) → group ≡ replicate 8 255 → take (n + 8) bytes ≡ replicate (n + 8) 255
eight_more n bytes group e h g f =
    take_both n 8 bytes h ∙ ap (λ (l : List ℕ). take n bytes ++ l) (sym g ∙ f) ∙ ap (λ (l : List ℕ). l ++ replicate 8 255) e ∙ replicate-append-replicate {A = ℕ} n 8 255

pub rest_long : (n : ℕ) (bytes rest tail : List ℕ) → n ≤ length bytes → rest ≡ drop n bytes → length tail + 8 ≡ length rest → n + 8 ≤ length bytes
rest_long n bytes rest tail few is size = let l = length-drop n bytes in let m = ap length is in omega (arith, few, size, l, m)

-- A SEGMENT at the front of some bytes
three_first : (bytes : List ℕ) → 3 ≤ length bytes → bytes ≡ get_or bytes 0 0 ∷ get_or bytes 1 0 ∷ get_or bytes 2 0 ∷ take (length bytes - 3) (drop 3 bytes)
three_first [] h = absurd (omega (arith, h))
three_first (a ∷ []) h = absurd (omega (arith, h))
three_first (a ∷ b ∷ []) h = absurd (omega (arith, h))
three_first (a ∷ b ∷ c ∷ xs) h = ap (λ (l : List ℕ). a ∷ b ∷ c ∷ l) (sym (take_all (length (a ∷ b ∷ c ∷ xs) - 3) xs (omega arith)))

pub is_sized : (bytes : List ℕ) (size : ℕ) → 3 ≤ length bytes → get_or bytes 1 0 < 256 → get_or bytes 2 0 < 256 → size ≡ two_bytes (get_or bytes 1 0) (get_or bytes 2 0) → 2 ≤ size → size - 2 ≤ length bytes - 3
    → IsSized (get_or bytes 0 0) (take (size - 2) (take (length bytes - 3) (drop 3 bytes))) bytes
is_sized bytes size long h l sized least few =
    let rest : List ℕ = take (length bytes - 3) (drop 3 bytes) in
    let left = length-drop 3 bytes in
    let all = length-take-le (length bytes - 3) (drop 3 bytes) (omega (arith, left)) in
    let count = length-take-le (size - 2) rest (omega (arith, all, few)) in (
      get_or bytes 1 0,
      get_or bytes 2 0,
      drop (size - 2) rest,
      three_first bytes long ∙ ap (λ (r : List ℕ). get_or bytes 0 0 ∷ get_or bytes 1 0 ∷ get_or bytes 2 0 ∷ r) (sym (take-append-drop (size - 2) rest)),
      h,
      l,
      omega (arith, count, sized, least),
    )

pub front_spelled : (bytes : List ℕ) (fill code : ℕ) (contents : List ℕ) → fill ≡ filled bytes → (fill ≡ 0 → ⊥) → (code ≡ 0 → ⊥) → IsSized code contents (drop fill bytes) → SpellsSegment code contents (take (fill + 3 + length contents) bytes)
front_spelled bytes fill code contents is some good (high, low, rest, cut, h, l, sized) =
    let within = filled_within bytes in
    let one : fill ≡ suc (fill - 1) = omega (arith, some) in
    let front : take fill bytes ≡ replicate {A = ℕ} (suc (fill - 1)) 255 =
    ap (λ (k : ℕ). take k bytes) is ∙ filled_front bytes ∙ ap (λ (k : ℕ). replicate {A = ℕ} k 255) (sym is ∙ one) in
    let marker : List ℕ = replicate {A = ℕ} (suc (fill - 1)) 255 ++ code ∷ [] in
    let spells : SpellsMarker code marker = (fill - 1, refl, (good, filled_stops bytes code (high ∷ low ∷ (contents ++ rest)) (ap (λ (k : ℕ). drop k bytes) (sym is) ∙ cut))) in
    let sum : fill + 3 + length contents ≡ fill + suc (suc (suc (length contents))) = omega arith in
    let last : take (suc (suc (suc (length contents)))) (drop fill bytes) ≡ code ∷ high ∷ low ∷ contents =
    ap (λ (xs : List ℕ). take (suc (suc (suc (length contents)))) xs) cut ∙ ap (λ (xs : List ℕ). code ∷ high ∷ low ∷ xs) (take-append_seam contents rest) in
    let all : take (fill + 3 + length contents) bytes ≡ marker ++ high ∷ low ∷ contents =
    ap (λ (k : ℕ). take k bytes) sum ∙ take_both fill (suc (suc (suc (length contents)))) bytes (omega (arith, is, within))
    ∙ ap (λ (xs : List ℕ). take fill bytes ++ xs) last ∙ ap (λ (xs : List ℕ). xs ++ code ∷ high ∷ low ∷ contents) front ∙ sym (append_assoc (replicate {A = ℕ} (suc (fill - 1)) 255) (code ∷ []) (high ∷ low ∷ contents)) in
    subst (λ (b : List ℕ). SpellsSegment code contents b) (sym all) (spelled code high low marker contents spells h l sized)

pub front_within : (bytes : List ℕ) (fill code : ℕ) (contents : List ℕ) → fill ≡ filled bytes → IsSized code contents (drop fill bytes) → fill + 3 + length contents ≤ length bytes
front_within bytes fill code contents is (high, low, rest, cut, h, l, sized) =
    let within = filled_within bytes in
    let left = length-drop fill bytes in
    let all = ap length cut in
    let sum = length-append contents rest in
    omega (arith, is, within, left, all, sum)

pub rest_sized : (bytes : List ℕ) (fill code : ℕ) (contents : List ℕ) → IsSized code contents (take (length bytes - fill) (drop fill bytes)) → IsSized code contents (drop fill bytes)
rest_sized bytes fill code contents is =
    let left = length-drop fill bytes in
    subst (λ (b : List ℕ). IsSized code contents b) (take_all (length bytes - fill) (drop fill bytes) (omega (arith, left))) is

-- NO SEGMENT at the front of some bytes
filled_before : (n c : ℕ) (xs : List ℕ) → (c ≡ 255 → ⊥) → filled (replicate n 255 ++ c ∷ xs) ≡ n
unfolding filled
filled_before (suc n) c xs other = ap suc (filled_before n c xs other)
filled_before zero c xs other = by (c == 255) refl
  where
    by : (b : Bool) → (c == 255) ≡ b → filled (c ∷ xs) ≡ 0
    by true e = absurd (other (same_of c 255 e))
    by false e = rw e refl

after_fill : (n b : ℕ) (xs : List ℕ) → drop n (replicate n b ++ xs) ≡ xs
after_fill zero b xs = refl
after_fill (suc n) b xs = after_fill n b xs

-- where one is complete, fill bytes are there, and its code, its length and its contents after them
pub segment_sized : (bytes : List ℕ) (code : ℕ) (contents : List ℕ) (n : ℕ) → SpellsSegment code contents (take n bytes) → (1 ≤ filled bytes) × (code ≡ 0 → ⊥) × IsSized code contents (drop (filled bytes) bytes)
segment_sized bytes code contents n (marker, (fill, is, good), short, cut) =
    let size = length contents + 2 in
    let rest = drop n bytes in
    let high = size / 256 % 256 in
    let low = size % 256 in
    let body : List ℕ = high ∷ low ∷ (contents ++ rest) in
    let all : bytes ≡ replicate {A = ℕ} (suc fill) 255 ++ code ∷ body =
    sym (take-append-drop n bytes) ∙ ap (λ (l : List ℕ). l ++ rest) cut ∙ append_assoc (marker ++ high ∷ low ∷ []) contents rest ∙ append_assoc marker (high ∷ low ∷ []) (contents ++ rest)
    ∙ ap (λ (l : List ℕ). l ++ body) is ∙ append_assoc (replicate {A = ℕ} (suc fill) 255) (code ∷ []) body in
    let count : filled bytes ≡ suc fill = ap (λ (l : List ℕ). filled l) all ∙ filled_before (suc fill) code body good.1 in
    let behind : drop (filled bytes) bytes ≡ code ∷ body =
    ap (λ (k : ℕ). drop k bytes) count ∙ ap (λ (l : List ℕ). drop (suc fill) l) all ∙ after_fill (suc fill) 255 (code ∷ body) in
    let two : size ≡ two_bytes high low = omega (arith, short) in
    let h : high < 256 = omega arith in
    let l : low < 256 = omega arith in
    (omega (arith, count), good.0, (high, low, rest, behind, h, l, two))

pub none_sized : (bytes : List ℕ) (fill : ℕ) → fill ≡ filled bytes → ((code : ℕ) (contents : List ℕ) → IsSized code contents (take (length bytes - fill) (drop fill bytes)) → ⊥) → HasNoSegment bytes
none_sized bytes fill is none code contents n s =
    let left = length-drop fill bytes in
    let same : drop (filled bytes) bytes ≡ take (length bytes - fill) (drop fill bytes) =
    ap (λ (k : ℕ). drop k bytes) (sym is) ∙ sym (take_all (length bytes - fill) (drop fill bytes) (omega (arith, left))) in
    none code contents (subst (λ (b : List ℕ). IsSized code contents b) same (segment_sized bytes code contents n s).2)

-- what is there has no FF before it, or no code of a marker
pub none_marked : (bytes : List ℕ) (fill d : ℕ) (ys : List ℕ) → fill ≡ filled bytes → IsSized d ys (drop fill bytes) → (fill ≡ 0) ⊎ (d ≡ 0) → HasNoSegment bytes
none_marked bytes fill d ys is found none code contents n s =
    let (some, good, sized) = segment_sized bytes code contents n s in
    let same : drop (filled bytes) bytes ≡ drop fill bytes = ap (λ (k : ℕ). drop k bytes) (sym is) in
    ⊎_elim (λ (a : fill ≡ 0). omega (arith, a, is, some)) (λ (b : d ≡ 0). good (code_once code d contents ys (drop fill bytes) (subst (λ (l : List ℕ). IsSized code contents l) same sized) found ∙ b)) none
  where
    code_once : (c d : ℕ) (xs ys bytes : List ℕ) → IsSized c xs bytes → IsSized d ys bytes → c ≡ d
    code_once c d xs ys bytes (high, low, rest, cut, h, l, long) (high2, low2, rest2, cut2, h2, l2, long2) =
        (heads c d (high ∷ low ∷ (xs ++ rest)) (high2 ∷ low2 ∷ (ys ++ rest2)) (sym cut ∙ cut2)).0

pub fills_continue : (r : Reading) (piece : List ℕ) (n : ℕ) → r.phase ≡ phase.Fill → n ≡ filled piece → Continues r piece (Ok n) (with_taken r n)
fills_continue r piece n e is =
    let within = filled_within piece in
    let size = length-take-le n piece (omega (arith, is, within)) in
    (is ∙ ap (λ (p : Phase). due_of p r.left piece) (sym e), ap (λ (m : ℕ). with_taken r m) (sym size) ∙ ap (λ (p : Phase). continued p r (take n piece)) (sym e))

-- each of them completes nothing
last_of_take : (m : ℕ) (xs : List ℕ) → m < length xs → take (suc m) xs ≡ take m xs ++ get_or xs m 0 ∷ []
last_of_take m xs h = let one : suc m ≡ m + 1 = omega arith in ap (λ (k : ℕ). take k xs) one ∙ take_more xs m 0 h

fill_reached : (r : Reading) (front : List ℕ) (before : List Segment) (piece : List ℕ) (m : ℕ) → r.phase ≡ phase.Fill → RepresentsSegments front before r → suc m ≤ filled piece → Reaches (kept_rule r.limits) (front ++ take (suc m) piece) at_part
fill_reached r front before piece m e s few =
    let within = filled_within piece in
    let some = take_shorter (suc m) (filled piece) piece few in
    let one : take (suc m) piece ≡ replicate {A = ℕ} (suc m) 255 =
    sym some ∙ ap (λ (l : List ℕ). take (suc m) l) (filled_front piece) ∙ take-replicate (suc m) (filled piece) 255 few in
    let before_last = fills_more r front before m r.taken e s in
    let reached = (fill_again (with_taken r r.taken) (front ++ replicate m 255) before e before_last).0 in
    let up : m + 1 ≡ suc m = omega arith in
    let joined : (front ++ replicate m 255) ++ 255 ∷ [] ≡ front ++ take (suc m) piece =
    append_assoc front (replicate m 255) (255 ∷ []) ∙ ap (λ (l : List ℕ). front ++ l) (replicate-append-replicate {A = ℕ} m 1 255 ∙ ap (λ (k : ℕ). replicate {A = ℕ} k 255) up ∙ sym one) in
    subst (λ (l : List ℕ). Reaches (kept_rule r.limits) l at_part) joined reached

content_reached : (r : Reading) (front : List ℕ) (before : List Segment) (piece : List ℕ) (m : ℕ) → r.phase ≡ phase.Contents → RepresentsSegments front before r → suc m ≤ min (r.left - 1) (length piece)
    → Reaches (kept_rule r.limits) (front ++ take (suc m) piece) at_part
content_reached r front before piece m e s few =
    let size = length-take-le m piece (omega (arith, few)) in
    let mid = with_contents r (take m piece) in
    let inside = contents_more r front before (take m piece) e s (omega (arith, few, size)) in
    let next = content_more mid (front ++ take m piece) before (get_or piece m 0) (mid.left - 1) e inside (omega (arith, few, size)) (omega (arith, few, size)) in
    subst (λ (l : List ℕ). Reaches (kept_rule r.limits) l at_part) (append_assoc front (take m piece) (get_or piece m 0 ∷ []) ∙ ap (λ (l : List ℕ). front ++ l) (sym (last_of_take m piece (omega (arith, few))))) next.0

parts_reached : (r : Reading) (piece : List ℕ) (n : ℕ) → n ≡ due_of r.phase r.left piece → PassesParts r piece n
parts_reached r piece n is front before zero s some few = absurd (omega (arith, some))
parts_reached r piece n is front before (suc m) s some few = by r.phase refl
  where
    idle : (p : Phase) → r.phase ≡ p → due_of p r.left piece ≡ 0 → Reaches (kept_rule r.limits) (front ++ take (suc m) piece) at_part
    idle p e none =
        let z : n ≡ 0 = is ∙ ap (λ q. due_of q r.left piece) e ∙ none in
        absurd (omega (arith, few, z))

    by : (p : Phase) → r.phase ≡ p → Reaches (kept_rule r.limits) (front ++ take (suc m) piece) at_part
    by phase.Fill e =
        let due : n ≡ filled piece = is ∙ ap (λ q. due_of q r.left piece) e in
        fill_reached r front before piece m e s (omega (arith, few, due))
    by phase.Contents e =
        let due : n ≡ min (r.left - 1) (length piece) = is ∙ ap (λ q. due_of q r.left piece) e in
        content_reached r front before piece m e s (omega (arith, few, due))
    by other e = idle other e refl

pub continues_stands : (old : Reading) (piece : List ℕ) (answer : Result ℕ NoMemory) (new : Reading) → Continues old piece answer new → PassesSome old piece answer new
continues_stands old piece (Err e) new is = tt
continues_stands old piece (Ok n) new is = (
  some_within old.phase old.left n piece is.0,
  λ bytes before s. subst (λ (r : Reading). RepresentsSegments (bytes ++ take n piece) before r) (sym is.1) (some_stands old bytes before piece n is.0 s),
  parts_reached old piece n is.0,
)

pub not_some : {X : Type 0} → (o : Option X) → is_some o ≡ false → o ≡ None
not_some None e = refl
not_some (Some x) e = cc
