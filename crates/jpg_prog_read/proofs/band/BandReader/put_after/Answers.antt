use Rattle.std.proofs.Common.{rules, ◌≡◌, ◌∙◌, ap, sym, arith, ◌+◌, ◌-◌, ◌<◌, ◌++◌, ◌∷◌, [], length, List, ℤ, take, drop, set}
use mir.Syntax.{w16}
use Rattle.std.proofs.lemmas.Int.{to_z-of_z}
use Rattle.std.proofs.lemmas.List.{length-set}
use Rattle.jpg_spec.specs.Elements.{zeros}
use Rattle.jpg_base.specs.Marks.{marks}
use Rattle.jpg_prog_read.specs.InWork.{InWork}
use Rattle.jpg_prog_read.proofs.NewValues.{is_room, marks_put, done_put, rest_put, front_put, behind_put}
use Rattle.jpg_prog_read.proofs.band.BandReader.put_after.Goals as goal

pub invariant_of-self : goal.invariant_of-self
invariant_of-self c =
    let i = c.self.inside in let k = c.self.invariant in
    let n = c.args.run in let v = c.args.value in
    let is : c.set.new.self ≡ set i.values (i.at + n) v = c.set.ensures.value ∙ ap (λ (x : ℤ). set i.values (i.at + n) x) (to_z-of_z w16 v (search rules)) in
    let room : n < i.end - i.at = is_room i.values i.at i.end n (rw (sym (ap (λ (s : InWork). length s.rest) c.self.view_is)) at c.requires.room) in
    record {
      whole = ap length is ∙ length-set i.values (i.at + n) v ∙ k.whole;
      begins = omega (arith, k.begins);
      inside = omega (arith, room, k.inside);
      fits = k.fits;
      few = omega (arith, k.few);
      marked = marks_put i.values i.at n i.olds v (omega (arith, room, k.whole, k.fits)) k.marked ∙ ap (λ (l : List ℤ). marks (drop (i.at + n + 1) l)) (sym is);
      quiet = k.quiet;
    }

pub returns : goal.returns
returns c =
    let i = c.self.inside in let k = c.self.invariant in
    let n = c.args.run in let v = c.args.value in
    let is : c.set.new.self ≡ set i.values (i.at + n) v = c.set.ensures.value ∙ ap (λ (x : ℤ). set i.values (i.at + n) x) (to_z-of_z w16 v (search rules)) in
    let room : n < i.end - i.at = is_room i.values i.at i.end n (rw (sym (ap (λ (s : InWork). length s.rest) c.self.view_is)) at c.requires.room) in
    let next : take n (take (i.end - i.at) (drop i.at i.values)) ≡ zeros n = ap (λ (s : InWork). take n s.rest) c.self.view_is ∙ c.requires.zeros in
    let m : List ℤ → List ℤ → List ℤ → List ℤ → InWork = λ f d r b. (let m : InWork = record { front = f; done = d; rest = r; behind = b; stage = i.stage; walked = i.walk; run = i.run; size = i.extra.size; extra = i.extra.bits; due = i.due; bands = i.bands } in m) in
    let view : List ℤ → InWork = λ l. m (take i.start l) (take (i.at + n + 1 - i.start) (drop i.start l)) (take (i.end - (i.at + n + 1)) (drop (i.at + n + 1) l)) (drop i.end l) in
    let put = set i.values (i.at + n) v in
    let f = take i.start i.values in
    let d = take (i.at - i.start) (drop i.start i.values) ++ (zeros n ++ v ∷ []) in
    let r = drop (n + 1) (take (i.end - i.at) (drop i.at i.values)) in
    ap view is
    ∙ ap (λ l. m l (take (i.at + n + 1 - i.start) (drop i.start put)) (take (i.end - (i.at + n + 1)) (drop (i.at + n + 1) put)) (drop i.end put)) (front_put i.values i.start i.at n v k.begins)
    ∙ ap (λ l. m f l (take (i.end - (i.at + n + 1)) (drop (i.at + n + 1) put)) (drop i.end put)) (done_put i.values i.start i.at i.end n v k.begins (omega (arith, room, k.whole, k.fits)) room next)
    ∙ ap (λ l. m f d l (drop i.end put)) (rest_put i.values i.at i.end n v (omega (arith, k.whole, k.fits)) room)
    ∙ ap (λ l. m f d r l) (behind_put i.values i.at i.end n v room)
    ∙ ap (λ (s : InWork). (let m : InWork = record s { done = s.done ++ (zeros n ++ v ∷ []); rest = drop (n + 1) s.rest } in m)) c.self.view_is
