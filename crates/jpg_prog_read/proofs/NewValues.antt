-- A value of a first pass, taken with its code and its number at once.
use Rattle.std.proofs.Common.{◌≡◌, ℕ, zero, suc, ◌+◌, ◌-◌, ◌*◌, ◌/◌, ◌^◌, ◌<◌, ◌≤◌, Bool, List, [], ◌∷◌, ◌++◌, length, take, drop, drop-drop, set, refl, sym, ap, ◌∙◌, subst, arith, ℤ, pos, negsuc, ◌*ℤ◌}
use Rattle.std.specs.Prelude.{nat_abs}
use Rattle.std.proofs.lemmas.List.{append_assoc, length-drop, take-take, take-set-le}
use Rattle.jpg_base.specs.Marks.{marks}
use Rattle.jpg_base.proofs.Marked.{marks_after}
use Rattle.jpg_spec.specs.Codes.{Code}
use Rattle.jpg_spec.specs.Elements.{scaled, zeros, zeros_in}
use Rattle.jpg_spec.specs.Parts.{band_unit, InCode}
use Rattle.jpg_prog_read.specs.declared.stage.Stage.TheVariants as stage
use Rattle.jpg_prog_read.specs.declared.scan.BandScan.{BandScan}
use Rattle.jpg_prog_read.specs.declared.band.BandStep.{BandStep}
use Rattle.jpg_prog_read.specs.declared.band.BandStep.TheVariants.{More, Done, Fault}
use Rattle.jpg_prog_read.specs.declared.band.new_value.NewValue.{NewValue}
use Rattle.jpg_prog_read.specs.InWork.{InWork, IsOpenBand, AreRefinable}
use Rattle.jpg_prog_read.specs.ReaderSteps.{AfterValue}
use Rattle.jpg_prog_read.specs.Stands.{UnitPlace, IsElementPart, RepresentsBandUnit, IsRest, Answered, AnswersStep}
use Rattle.jpg_prog_read.specs.BandBits.{TakesBand}
use Rattle.jpg_prog_read.specs.NewValues.{BeginsValue, with_new_value}
use Rattle.jpg_prog_read.specs.ZerosPassed.{after_zeros}
use Rattle.jpg_prog_read.proofs.BandBits.{taken, code_taken, number_taken, both_taken}
use Rattle.jpg_prog_read.proofs.BandSteps.{part_of, value_begun}
use Rattle.jpg_prog_read.proofs.Leaf.{drop_after, put_rest, put_done, put_after, passed_rest, passed_done, rest_long}
use Rattle.jpg_prog_read.proofs.Passing.{after_value, value_whole, in_limit, zero_in, opened}
use Rattle.jpg_prog_read.proofs.Reading.{number_read, number_opened}
use Rattle.jpg_prog_read.proofs.ZerosPassed.{zeros_passed, fits_after}

-- ZEROS

pub zeros_all : (n : ℕ) → zeros_in (zeros n) ≡ n
zeros_all zero = refl
zeros_all (suc n) = omega (arith, zeros_all n)

pub zeros_first : (k n : ℕ) → k ≤ n → take k (zeros n) ≡ zeros k
zeros_first zero n few = refl
zeros_first (suc k) zero few = absurd (omega (arith, few))
zeros_first (suc k) (suc n) few = ap (λ (l : List ℤ). pos 0 ∷ l) (zeros_first k n (omega (arith, few)))

pub zero_after : (k n : ℕ) → k < n → drop k (zeros n) ≡ pos 0 ∷ drop 1 (drop k (zeros n))
zero_after k zero few = absurd (omega (arith, few))
zero_after zero (suc n) few = refl
zero_after (suc k) (suc n) few = zero_after k n (omega (arith, few))

-- no value is marked
pub none_marked : (n : ℕ) (values : List ℤ) → marks values ≡ 0 → take n values ≡ zeros (length (take n values))
none_marked zero values e = refl
none_marked (suc n) [] e = refl
none_marked (suc n) (pos zero ∷ values) e = ap (λ (l : List ℤ). pos 0 ∷ l) (none_marked n values (omega (arith, e)))
none_marked (suc n) (pos (suc m) ∷ values) e = absurd (omega (arith, e))
none_marked (suc n) (negsuc m ∷ values) e = absurd (omega (arith, e))

-- A BLOCK with a value that is put after zeros: before place `most`, which is the end of the band

pub is_room : (values : List ℤ) (at most n : ℕ) → n < length (take (most - at) (drop at values)) → n < most - at
is_room values at most n h = omega (arith, h, rest_long values at most (length (take (most - at) (drop at values))) (omega arith))

pub marks_put : (values : List ℤ) (at n olds : ℕ) (v : ℤ) → at + n < length values → olds ≡ marks (drop at values) → olds / 2 ^ n / 2 ≡ marks (drop (at + n + 1) (set values (at + n) v))
marks_put values at n olds v h e =
    ap (λ m. m / 2 ^ n / 2) e ∙ ap (λ m. m / 2) (marks_after (drop at values) n ∙ ap marks (drop-drop n at values)) ∙ marks_after (drop (at + n) values) 1 ∙ ap marks (drop-drop 1 (at + n) values ∙ sym (drop_after values (at + n) v h))

pub done_put : (values : List ℤ) (start at most n : ℕ) (v : ℤ) → start ≤ at → at + n < length values → n < most - at → take n (take (most - at) (drop at values)) ≡ zeros n
    → take (at + n + 1 - start) (drop start (set values (at + n) v)) ≡ take (at - start) (drop start values) ++ (zeros n ++ v ∷ [])
done_put values start at most n v order h room next =
    let here : take n (drop at values) ≡ zeros n = sym (take-take n (most - at) (drop at values) (omega (arith, room))) ∙ next in
    put_done values start (at + n) v h (omega (arith, order)) ∙ ap (λ (l : List ℤ). l ++ v ∷ []) (passed_done values start at n (zeros n) order here) ∙ append_assoc (take (at - start) (drop start values)) (zeros n) (v ∷ [])

pub rest_put : (values : List ℤ) (at most n : ℕ) (v : ℤ) → most ≤ length values → n < most - at
    → take (most - (at + n + 1)) (drop (at + n + 1) (set values (at + n) v)) ≡ drop (n + 1) (take (most - at) (drop at values))
rest_put values at most n v fits room =
    put_rest values (at + n) most v fits (omega (arith, room)) ∙ ap (drop 1) (passed_rest values at most n (omega (arith, room))) ∙ drop-drop 1 n (take (most - at) (drop at values))

pub front_put : (values : List ℤ) (start at n : ℕ) (v : ℤ) → start ≤ at → take start (set values (at + n) v) ≡ take start values
front_put values start at n v order = take-set-le start values (at + n) v (omega (arith, order))

pub behind_put : (values : List ℤ) (at most n : ℕ) (v : ℤ) → n < most - at → drop most (set values (at + n) v) ≡ drop most values
behind_put values at most n v room = put_after values (at + n) most v (omega (arith, room))

-- THE SAME STATE between two elements

-- with the same values, whatever the last element was
pub same_answer : (at : UnitPlace) (bits : List Bool) (step : BandStep) (m n : InWork) → m.stage ≡ stage.Code → n.stage ≡ stage.Code → n.done ≡ m.done → n.rest ≡ m.rest
    → n.walked ≡ m.walked → Answered at bits step m → Answered at bits step n
same_answer at bits More m n me ne done rest walked f =
    let p = part_of f stage.Code me in
    record {
      elements = f.elements;
      before = f.before;
      front = f.front;
      mid = f.mid;
      here = f.here;
      part = f.part;
      covers = f.covers;
      split = f.split;
      same = f.same ∙ ap (λ (l : List ℤ). at.told ++ l) (sym done);
      in_bounds = f.in_bounds;
      is_part = subst (λ g. IsElementPart at f.mid f.here f.part n g) (sym ne)
          (walked ∙ p.0, subst (λ (r : List ℤ). InCode at.coding f.mid (band_unit at.component r) at.others f.here f.part) (sym rest) p.1);
    }
same_answer at bits Done m n me ne done rest walked f = record {
  elements = f.elements;
  before = f.before;
  front = f.front;
  mid = f.mid;
  here = f.here;
  part = f.part;
  covers = f.covers;
  split = f.split;
  same = f.same ∙ ap (λ (l : List ℤ). at.told ++ l) (sym done);
  in_bounds = f.in_bounds;
  quiet = walked ∙ f.quiet;
  is_rest = subst (λ g. IsRest at.coding f.mid at.others f.here f.part n g) (sym ne) (subst (λ g. IsRest at.coding f.mid at.others f.here f.part m g) me f.is_rest);
}
same_answer at bits (Fault x) m n me ne done rest walked f = f

-- A VALUE after zeros

-- the state after its code
abbrev coded : InWork → ℕ → ℕ → InWork
coded s run size = record s { stage = stage.Number; run = run; size = size; extra = [] }

module _ (b : BandScan) (ac : List Code) (left : ℕ) (old : InWork) (store : List Bool) (v : NewValue) (h : BeginsValue b ac (length old.rest) store v)
    (e : old.stage ≡ stage.Code) (o : IsOpenBand b old) (quiet : old.walked ≡ []) (none : old.rest ≡ zeros (length old.rest)) where
  pub next_zeros : take v.run old.rest ≡ zeros v.run
  next_zeros = ap (take v.run) none ∙ zeros_first v.run (length old.rest) (omega (arith, h.room))

  -- the number is complete, and its value is put
  answers : (step : BandStep) (new : InWork) → new ≡ with_new_value old v.run v.value → AfterValue step new
      → AnswersStep b (taken (coded old v.run h.size) (take h.size (drop h.code store))) step new
  answers step new is after acs at bits k f =
      let s2 : InWork = record (taken (coded old v.run h.size) (take h.size (drop h.code store))) { stage = stage.Value; due = h.number } in
      let s3 = after_zeros s2 v.run in
      let x : ℤ = scaled at.coding.al h.number in
      let value : v.value ≡ x = h.scaled.0 ∙ ap (λ n. h.number *ℤ pos n) k.scale in
      let f2 : RepresentsBandUnit at bits s2 = value_begun f h.number refl h.category_is h.extra_is in
      let f3 : RepresentsBandUnit at bits s3 = zeros_passed at bits s2 v.run (omega (arith, h.room)) next_zeros (omega arith) (zero_in at.coding b.most_magnitude k.bounds) f2 tt in
      let zero_next : s3.rest ≡ pos 0 ∷ drop 1 s3.rest = subst (λ (l : List ℤ). drop v.run l ≡ pos 0 ∷ drop 1 (drop v.run l)) (sym none) (zero_after v.run (length old.rest) h.room) in
      let run : s3.run ≡ 0 = omega arith in
      let fits = in_limit at.coding b.most_magnitude x k.bounds (subst (λ (y : ℤ). nat_abs y ≤ b.most_magnitude) (ap (λ n. h.number *ℤ pos n) k.scale) h.scaled.1) in
      let rest : drop 1 (drop v.run old.rest) ≡ drop (v.run + 1) old.rest = drop-drop 1 v.run old.rest in
      let rest_is : new.rest ≡ drop 1 (drop v.run old.rest) = ap (λ (s : InWork). s.rest) is ∙ sym rest in
      let done_is : new.done ≡ (old.done ++ zeros v.run) ++ x ∷ [] = ap (λ (s : InWork). s.done) is ∙ ap (λ (y : ℤ). old.done ++ (zeros v.run ++ y ∷ [])) value ∙ sym (append_assoc old.done (zeros v.run) (x ∷ [])) in
      let whole = value_whole f3 step refl zero_next run fits (after_as step (after_value s3 x) new rest_is after) in
      same_answer at bits step (after_value s3 x) new refl (ap (λ (s : InWork). s.stage) is ∙ e) done_is rest_is (ap (λ (s : InWork). s.walked) is) whole
    where
      after_as : (step : BandStep) (m n : InWork) → n.rest ≡ m.rest → AfterValue step n → AfterValue step m
      after_as More m n same a = subst (λ (l : List ℤ). 1 ≤ length l) same a
      after_as Done m n same a = sym same ∙ a
      after_as (Fault x) m n same a = a

  pub value_taken : (step : BandStep) (new : InWork) (rest : List Bool) → rest ≡ drop v.length store → new ≡ with_new_value old v.run v.value → AfterValue step new
      → TakesBand b ac left old store step new rest
  value_taken step new rest left_is is after =
      let s1 = coded old v.run h.size in
      let room : v.run < zeros_in old.rest = omega (arith, h.room, ap zeros_in none, zeros_all (length old.rest)) in
      let code : TakesBand b ac left old store More s1 (drop h.code store) =
      code_taken b ac left old store h.code (16 * v.run + h.size) More s1 (drop h.code store) e o quiet h.spots refl (refl, refl) (number_opened b old s1 v.run h.size o h.some refl)
      (number_read b old s1 (16 * v.run + h.size) v.run h.size e quiet refl h.some h.most h.short room refl) in
      let long : h.size ≤ length (drop h.code store) = omega (arith, length-drop h.code store, h.fits, h.long) in
      let end : rest ≡ drop h.size (drop h.code store) = left_is ∙ ap (λ n. drop n store) h.long ∙ ap (λ n. drop n store) (let c : h.code + h.size ≡ h.code + h.size = refl in c) ∙ sym (drop-drop h.size h.code store) in
      let fits : AreRefinable b new.rest = subst (λ (l : List ℤ). AreRefinable b l) (sym (ap (λ (s : InWork). s.rest) is)) (fits_after b (v.run + 1) old.rest o.fits) in
      let number : TakesBand b ac left s1 (drop h.code store) step new rest =
      number_taken b ac left s1 (taken s1 (take h.size (drop h.code store))) (drop h.code store) step new rest refl (number_opened b old s1 v.run h.size o h.some refl) refl h.some long refl end
      (ap (λ (s : InWork). s.front) is, ap (λ (s : InWork). s.behind) is) (opened b step new (ap (λ (s : InWork). s.stage) is ∙ e) fits after) (answers step new is after) in
      both_taken b ac left step code (omega (arith, long, h.some)) number
