-- Corrections of old values, one after another.
use Rattle.std.proofs.Common.{◌≡◌, ℕ, ◌+◌, ◌-◌, ◌/◌, ◌^◌, ◌<◌, ◌≤◌, Bool, false, List, [], ◌∷◌, ◌++◌, length, take, drop, drop-drop, set, get_or, refl, sym, ap, ◌∙◌, subst, arith, ℤ, pos}
use Rattle.std.specs.Prelude.{slice_index_or}
use Rattle.std.specs.Int.{trailing_zeros}
use mir.Syntax.{w64}
use Rattle.std.proofs.lemmas.List.{append_assoc, append-nil, length-append, take-take, drop-take, length-drop, length-set, length-take-le, take-set}
use Rattle.jpg_base.specs.Marks.{marks}
use Rattle.jpg_base.proofs.Marked.{marks_after}
use Rattle.jpg_spec.specs.Codes.{Code}
use Rattle.jpg_spec.specs.Elements.{is_zero, zeros, grown}
use Rattle.jpg_prog_read.specs.declared.scan.BandScan.{BandScan}
use Rattle.jpg_prog_read.specs.declared.band.BandStep.TheVariants.{More}
use Rattle.jpg_prog_read.specs.declared.band.correcting.Correcting.{Correcting}
use Rattle.jpg_prog_read.specs.BandBits.{Through, BandGoesOn, TakesBand}
use Rattle.jpg_prog_read.specs.Corrected.{left_at, CanCorrect, IsAt, moved_to, Corrects}
use Rattle.jpg_prog_read.specs.InWork.{InWork, IsOpenBand, IsPassing, AreRefinable}
use Rattle.jpg_prog_read.specs.ReaderSteps.{IsWithinBand}
use Rattle.jpg_prog_read.specs.ZerosPassed.{ZerosComeNext, after_zeros}
use Rattle.jpg_prog_read.proofs.BandBits.{HasGone, through_then, through_outside}
use Rattle.jpg_prog_read.proofs.Leaf.{rest_more, drop_after, put_done, passed_rest, passed_done}
use Rattle.jpg_prog_read.proofs.Marked.{zeros_found}
use Rattle.jpg_prog_read.proofs.Passing.{with_value, passing_same, old_opened, zero_in, fits_more}
use Rattle.jpg_prog_read.proofs.Reading.{old_read, grown_within}
use Rattle.jpg_prog_read.proofs.ZerosPassed.{zeros_passed, skipped, fits_after, old_after}

-- STATES

-- the unit continues after such bits
through_open : (b : BandScan) (ac : List Code) (left : ℕ) (old : InWork) (bits : List Bool) (new : InWork) → Through b ac left old bits new → IsOpenBand b old → IsOpenBand b new
through_open b ac left old [] new t o = subst (λ (s : InWork). IsOpenBand b s) (sym t) o
through_open b ac left old (bit ∷ bits) new t o = through_open b ac left t.0 bits new t.2 (t.1).goes_on

same_at : (end : ℕ) (c : Correcting) (values : List ℤ) (s : InWork) → IsAt end c values s → moved_to end c.at c values s ≡ s
same_at end c values s i =
    let none : s.done ++ take (c.at - c.at) (drop c.at values) ≡ s.done = (let z : c.at - c.at ≡ 0 = omega arith in ap (λ n. s.done ++ take n (drop c.at values)) z) ∙ append-nil s.done in
    ap (λ (d : List ℤ). (let m : InWork = record s { done = d; rest = left_at end c.at values; run = c.run } in m)) none
    ∙ ap (λ (r : List ℤ). (let m : InWork = record s { rest = r; run = c.run } in m)) (sym i.rest)
    ∙ ap (λ n. (let m : InWork = record s { run = n } in m)) (sym i.run)

-- the values between two places, which are before a third
between : (from at : ℕ) (xs ys : List ℤ) → from ≤ at → take at xs ≡ take at ys → take (at - from) (drop from xs) ≡ take (at - from) (drop from ys)
between from at xs ys order same =
    let a : from + (at - from) ≡ at = omega (arith, order) in
    sym (drop-take from (at - from) xs) ∙ ap (λ n. drop from (take n xs)) a ∙ ap (drop from) same ∙ sym (ap (λ n. drop from (take n ys)) a) ∙ drop-take from (at - from) ys

-- ONE AFTER ANOTHER

pub corrects_none : (b : BandScan) (end : ℕ) (c : Correcting) (values : List ℤ) (store : List Bool) → CanCorrect b end c values → Corrects b end c values store c values store
corrects_none b end c values store can = record {
  bits = [];
  split = refl;
  can = can;
  order = omega arith;
  before = refl;
  after = refl;
  through = λ ac left s i o. same_at end c values s i;
}

pub corrects_then : (b : BandScan) (end : ℕ) {from : Correcting} {old : List ℤ} {store : List Bool} {c : Correcting} {mid : List ℤ} {rest : List Bool} {to : Correcting} {new : List ℤ} {more : List Bool}
    → Corrects b end from old store c mid rest → Corrects b end c mid rest to new more → Corrects b end from old store to new more
corrects_then b end {from} {old} {store} {c} {mid} {rest} {to} {new} {more} x y = record {
  bits = x.bits ++ y.bits;
  split = x.split ∙ ap (λ (l : List Bool). x.bits ++ l) y.split ∙ sym (append_assoc x.bits y.bits more);
  can = y.can;
  order = omega (arith, x.order, y.order);
  before = sym (take-take from.at c.at new x.order) ∙ ap (take from.at) y.before ∙ take-take from.at c.at mid x.order ∙ x.before;
  after = y.after ∙ apart mid ∙ ap (drop (to.at - c.at)) x.after ∙ sym (apart old);
  through = through;
}
  where
    apart : (l : List ℤ) → drop to.at l ≡ drop (to.at - c.at) (drop c.at l)
    apart l = sym (drop-drop (to.at - c.at) c.at l ∙ ap (λ n. drop n l) (let e : c.at + (to.at - c.at) ≡ to.at = omega (arith, y.order) in e))

    done : (s : InWork) → (s.done ++ take (c.at - from.at) (drop from.at mid)) ++ take (to.at - c.at) (drop c.at new) ≡ s.done ++ take (to.at - from.at) (drop from.at new)
    done s =
        let e : c.at + (to.at - c.at) ≡ to.at = omega (arith, y.order) in
        append_assoc s.done (take (c.at - from.at) (drop from.at mid)) (take (to.at - c.at) (drop c.at new))
        ∙ ap (λ (l : List ℤ). s.done ++ l) (ap (λ (l : List ℤ). l ++ take (to.at - c.at) (drop c.at new)) (between from.at c.at mid new x.order (sym y.before))
        ∙ sym (passed_done new from.at c.at (to.at - c.at) (take (to.at - c.at) (drop c.at new)) x.order refl) ∙ ap (λ n. take (n - from.at) (drop from.at new)) e)

    through : (ac : List Code) (left : ℕ) (s : InWork) → IsAt end from old s → IsOpenBand b s → Through b ac left s (x.bits ++ y.bits) (moved_to end from.at to new s)
    through ac left s i o =
        let m = moved_to end from.at c mid s in
        let first = x.through ac left s i o in
        let here : IsAt end c mid m = record { rest = refl; run = refl; passing = passing_same s.stage s m refl i.passing } in
        let last = y.through ac left m here (through_open b ac left s x.bits m first o) in
        subst (λ (n : InWork). Through b ac left s (x.bits ++ y.bits) n) (ap (λ (d : List ℤ). (let n : InWork = record s { done = d; rest = left_at end to.at new; run = to.run } in n)) (done s))
        (through_then b ac left s x.bits m y.bits (moved_to end c.at to new m) first last)

-- ONE CORRECTION, after which this many zeros are skipped and another old value is next

module _ (b : BandScan) (end : ℕ) (c : Correcting) (values : List ℤ) (bit : Bool) (w : ℤ) (z : ℕ) (can : CanCorrect b end c values)
    (few : z + 1 < end - c.at) (run : z ≤ c.run) (word : ℕ) (found : z ≡ trailing_zeros w64 word) (marked : word ≡ marks (drop (c.at + 1) values))
    (value : (al : ℕ) → b.scale ≡ 2 ^ al → w ≡ grown al bit (get_or values c.at (pos 0))) where
  abbrev new : List ℤ
  new = set values c.at w

  rest_is : left_at end c.at values ≡ get_or values c.at (pos 0) ∷ left_at end (c.at + 1) values
  rest_is = rest_more values c.at end (omega (arith, can.whole, can.fits)) can.inside

  old_is : is_zero (get_or values c.at (pos 0)) ≡ false
  old_is = ap (λ (l : List ℤ). is_zero (slice_index_or l 0 (pos 0))) (sym rest_is) ∙ can.old

  long : length (drop (c.at + 1) values) ≡ 64 - (c.at + 1)
  long = length-drop (c.at + 1) values ∙ ap (λ n. n - (c.at + 1)) can.whole

  come : ZerosComeNext z (left_at end (c.at + 1) values)
  come = zeros_found (drop (c.at + 1) values) (end - (c.at + 1)) word z (omega (arith, long)) (omega (arith, long, can.fits, can.inside)) marked (λ h. found) (λ h. absurd (omega (arith, h, found, few)))

  left_is : left_at end (c.at + 1) new ≡ left_at end (c.at + 1) values
  left_is = ap (take (end - (c.at + 1))) (drop_after values c.at w (omega (arith, can.whole, can.fits, can.inside)))

  after_is : left_at end (c.at + 1 + z) new ≡ drop z (left_at end (c.at + 1) values)
  after_is = passed_rest new (c.at + 1) end z (omega (arith, few)) ∙ ap (drop z) left_is

  left_long : length (left_at end (c.at + 1) values) ≡ end - (c.at + 1)
  left_long = length-take-le (end - (c.at + 1)) (drop (c.at + 1) values) (omega (arith, long, can.fits, can.inside))

  some : 1 ≤ length (drop z (left_at end (c.at + 1) values))
  some = omega (arith, length-drop z (left_at end (c.at + 1) values), left_long, few)

  next : (v : ℤ) × (drop z (left_at end (c.at + 1) values) ≡ v ∷ drop 1 (drop z (left_at end (c.at + 1) values))) × (is_zero v ≡ false)
  next = old_after z (left_at end (c.at + 1) values) some (come.last (omega (arith, left_long, few)))

  abbrev to : Correcting
  to = record { at = c.at + 1 + z; olds = word / 2 ^ z; run = c.run - z }

  tail_is : drop (c.at + 1 + z) new ≡ drop (c.at + 1 + z) values
  tail_is = sym (drop-drop z (c.at + 1) new) ∙ ap (drop z) (drop_after values c.at w (omega (arith, can.whole, can.fits, can.inside))) ∙ drop-drop z (c.at + 1) values

  can_next : CanCorrect b end to new
  can_next = record {
    sane = can.sane;
    whole = length-set values c.at w ∙ can.whole;
    inside = omega (arith, few);
    fits = can.fits;
    few = omega (arith, can.few);
    marked = ap (λ m. m / 2 ^ z) marked ∙ marks_after (drop (c.at + 1) values) z ∙ ap marks (drop-drop z (c.at + 1) values ∙ sym tail_is);
    old = ap (λ (l : List ℤ). is_zero (slice_index_or l 0 (pos 0))) (after_is ∙ next.1) ∙ next.2;
    refinable = subst (λ (l : List ℤ). AreRefinable b l) (sym (after_is ∙ ap (λ (l : List ℤ). drop z (drop 1 l)) (sym rest_is))) (fits_after b z (drop 1 (left_at end c.at values)) (fits_more b (left_at end c.at values) can.refinable));
  }

  -- the values up to the next place
  done_is : take (c.at + 1 + z - c.at) (drop c.at new) ≡ w ∷ zeros z
  done_is =
      let h : take z (drop (c.at + 1) new) ≡ zeros z =
      ap (take z) (drop_after values c.at w (omega (arith, can.whole, can.fits, can.inside))) ∙ sym (take-take z (end - (c.at + 1)) (drop (c.at + 1) values) (omega (arith, few))) ∙ come.next in
      passed_done new c.at (c.at + 1) z (zeros z) (omega arith) h
      ∙ ap (λ (l : List ℤ). l ++ zeros z) (put_done values c.at c.at w (omega (arith, can.whole, can.fits, can.inside)) (omega arith)
      ∙ (let n : c.at - c.at ≡ 0 = omega arith in ap (λ n. take n (drop c.at values) ++ w ∷ []) n))

  -- the state then
  moved : (s : InWork) → IsAt end c values s → moved_to end c.at to new s ≡ after_zeros (with_value s w) z
  moved s i =
      let r : left_at end (c.at + 1 + z) new ≡ drop z (drop 1 s.rest) = after_is ∙ ap (λ (l : List ℤ). drop z (drop 1 l)) (sym rest_is ∙ sym i.rest) in
      let d : s.done ++ take (c.at + 1 + z - c.at) (drop c.at new) ≡ (s.done ++ w ∷ []) ++ zeros z = ap (λ (l : List ℤ). s.done ++ l) done_is ∙ sym (append_assoc s.done (w ∷ []) (zeros z)) in
      ap (λ (l : List ℤ). (let m : InWork = record s { done = l; rest = left_at end (c.at + 1 + z) new; run = c.run - z } in m)) d
      ∙ ap (λ (l : List ℤ). (let m : InWork = record s { done = (s.done ++ w ∷ []) ++ zeros z; rest = l; run = c.run - z } in m)) r
      ∙ ap (λ n. (let m : InWork = record s { done = (s.done ++ w ∷ []) ++ zeros z; rest = drop z (drop 1 s.rest); run = n - z } in m)) (sym i.run)

  step : (ac : List Code) (left : ℕ) (s : InWork) → IsAt end c values s → IsOpenBand b s → BandGoesOn b ac left s bit (after_zeros (with_value s w) z)
  step ac left s i o =
      let old = get_or values c.at (pos 0) in
      let s1 = with_value s w in
      let r : s.rest ≡ old ∷ drop 1 s.rest = i.rest ∙ rest_is ∙ ap (λ (l : List ℤ). old ∷ drop 1 l) (sym (i.rest ∙ rest_is)) in
      let one : drop 1 s.rest ≡ left_at end (c.at + 1) values = ap (drop 1) (i.rest ∙ rest_is) in
      let within : z ≤ length s1.rest = omega (arith, ap length one, left_long, few) in
      let zs : take z s1.rest ≡ zeros z = ap (take z) one ∙ come.next in
      let p : IsPassing s1.stage s1 = passing_same s.stage s s1 refl i.passing in
      let n : (after_zeros s1 z).rest ≡ next.0 ∷ drop 1 (after_zeros s1 z).rest = ap (drop z) one ∙ next.1 ∙ ap (λ (l : List ℤ). next.0 ∷ drop 1 (drop z l)) (sym one) in
      record {
        goes_on = old_opened b s1 (after_zeros s1 z) next.0 (skipped s1 (after_zeros s1 z) z refl) (fits_more b s.rest o.fits) p (omega (arith, ap length n)) n next.2;
        outside = (refl, refl);
        answered = λ at bits k l f.
            let g : w ≡ grown at.coding.al bit old = value at.coding.al k.scale in
            let ok : IsWithinBand at.coding w = subst (λ (x : ℤ). IsWithinBand at.coding x) (sym g) (grown_within at.coding b ac at.component s.rest old bit k r old_is o.fits) in
            zeros_passed at (bits ++ bit ∷ []) s1 z within zs (omega (arith, i.run, run)) (zero_in at.coding b.most_magnitude k.bounds) (old_read s1 old w bit i.passing r old_is f ok g refl) p;
      }

  pub one_corrected : (store rest : List Bool) → store ≡ bit ∷ rest → Corrects b end c values store to new rest
  one_corrected store rest split = record {
    bits = bit ∷ [];
    split = split;
    can = can_next;
    order = omega arith;
    before = take-set values c.at w;
    after = tail_is;
    through = λ ac left s i o. (moved_to end c.at to new s, subst (λ (m : InWork). BandGoesOn b ac left s bit m) (sym (moved s i)) (step ac left s i o), refl);
  }

-- THE READER with the values that were corrected

pub corrections_gone : (b : BandScan) (end : ℕ) (ac : List Code) (left : ℕ) {from : Correcting} {old : List ℤ} {store : List Bool} {c : Correcting} {new : List ℤ} {rest : List Bool} (s : InWork)
    → Corrects b end from old store c new rest → IsAt end from old s → IsOpenBand b s → 1 ≤ length rest → HasGone b ac left s store (moved_to end from.at c new s) rest
corrections_gone b end ac left {from} {old} {store} {c} {new} {rest} s x i o more =
    let t = x.through ac left s i o in
    record { bits = x.bits; split = x.split; more = more; goes_on = through_open b ac left s x.bits (moved_to end from.at c new s) t o; through = t }

pub corrections_taken : (b : BandScan) (end : ℕ) (ac : List Code) (left : ℕ) {from : Correcting} {old : List ℤ} {store : List Bool} {c : Correcting} {new : List ℤ} {rest : List Bool} (s : InWork)
    → Corrects b end from old store c new rest → IsAt end from old s → IsOpenBand b s → 1 ≤ length store → length rest ≡ 0 → TakesBand b ac left s store More (moved_to end from.at c new s) rest
corrections_taken b end ac left {from} {old} {store} {c} {new} {rest} s x i o some none =
    let t = x.through ac left s i o in
    record {
      bits = x.bits;
      split = x.split;
      some = omega (arith, ap length x.split, length-append x.bits rest, some, none);
      stays = through_open b ac left s x.bits (moved_to end from.at c new s) t o;
      outside = through_outside b ac left s x.bits (moved_to end from.at c new s) t;
      comes = t;
    }

-- the parts of a block up to a place that is reached from another one
pub parts_moved : (values new : List ℤ) (start at to end : ℕ) → start ≤ at → at ≤ to → to ≤ end → take at new ≡ take at values → drop to new ≡ drop to values
    → (take start new ≡ take start values) × (take (to - start) (drop start new) ≡ take (at - start) (drop start values) ++ take (to - at) (drop at new)) × (drop end new ≡ drop end values)
parts_moved values new start at to end begins order inside before after =
    let e : at + (to - at) ≡ to = omega (arith, order) in
    let apart : (l : List ℤ) → drop end l ≡ drop (end - to) (drop to l) = λ l. sym (drop-drop (end - to) to l ∙ ap (λ n. drop n l) (let f : to + (end - to) ≡ end = omega (arith, inside) in f)) in (
      sym (take-take start at new begins) ∙ ap (take start) before ∙ take-take start at values begins,
      ap (λ n. take (n - start) (drop start new)) (sym e) ∙ passed_done new start at (to - at) (take (to - at) (drop at new)) begins refl ∙ ap (λ (l : List ℤ). l ++ take (to - at) (drop at new)) (between start at new values begins before),
      apart new ∙ ap (drop (end - to)) after ∙ sym (apart values),
    )

-- the state of a reader of a block then, and where the corrections begin in it
pub state_moved : {b : BandScan} {store rest : List Bool} {v s : InWork} (start end : ℕ) (from to : Correcting) (values new : List ℤ) → v ≡ s → v.front ≡ take start values
    → v.done ≡ take (from.at - start) (drop start values) → v.behind ≡ drop end values → start ≤ from.at → Corrects b end from values store to new rest
    → record v { front = take start new; done = take (to.at - start) (drop start new); rest = left_at end to.at new; behind = drop end new; run = to.run } ≡ moved_to end from.at to new s
state_moved {b} {store} {rest} {v} {s} start end from to values new is front done behind begins x =
    let p = parts_moved values new start from.at to.at end begins x.order (omega (arith, (x.can).inside)) x.before x.after in
    let m : List ℤ → List ℤ → List ℤ → InWork = λ f d h. (let m : InWork = record v { front = f; done = d; rest = left_at end to.at new; behind = h; run = to.run } in m) in
    let d : take (to.at - start) (drop start new) ≡ v.done ++ take (to.at - from.at) (drop from.at new) = p.1 ∙ ap (λ (l : List ℤ). l ++ take (to.at - from.at) (drop from.at new)) (sym done) in
    ap (λ l. m l (take (to.at - start) (drop start new)) (drop end new)) (p.0 ∙ sym front)
    ∙ ap (λ l. m v.front l (drop end new)) d
    ∙ ap (λ l. m v.front (v.done ++ take (to.at - from.at) (drop from.at new)) l) (p.2 ∙ sym behind)
    ∙ ap (λ (n : InWork). moved_to end from.at to new n) is

pub begins_at : {v s : InWork} (end : ℕ) (from : Correcting) (values : List ℤ) → v ≡ s → v.rest ≡ left_at end from.at values → v.run ≡ from.run → IsPassing s.stage s → IsAt end from values s
begins_at end from values is rest run passing = record { rest = ap (λ (m : InWork). m.rest) (sym is) ∙ rest; run = ap (λ (m : InWork). m.run) (sym is) ∙ run; passing = passing }
