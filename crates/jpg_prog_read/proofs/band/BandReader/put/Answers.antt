use Rattle.std.proofs.Common.{rules, ◌≡◌, ◌∙◌, ap, sym, arith, ◌+◌, ◌-◌, ◌<◌, [], ◌∷◌, ◌++◌, length, List, ℤ, take, drop, drop-drop, set, ◌≤◌, ◌/◌, ◌^◌}
use mir.Syntax.{w16}
use Rattle.std.proofs.lemmas.Int.{to_z-of_z}
use Rattle.std.proofs.lemmas.List.{take-set-le, length-set}
use Rattle.jpg_prog_read.specs.InWork.{InWork}
use Rattle.jpg_prog_read.proofs.Leaf.{put_rest, put_done, put_after, rest_short, drop_after}
use Rattle.jpg_base.specs.Marks.{marks}
use Rattle.jpg_base.proofs.Marked.{marks_after}
use Rattle.jpg_prog_read.proofs.band.BandReader.put.Goals as goal

pub returns : goal.returns
returns c =
    let i = c.self.inside in let k = c.self.invariant in
    let e : c.set.new.self ≡ set i.values i.at c.args.value = c.set.ensures.value ∙ ap (λ (v : ℤ). set i.values i.at v) (to_z-of_z w16 c.args.value (search rules)) in
    let some : 1 ≤ length (take (i.end - i.at) (drop i.at i.values)) = rw (sym (ap (λ (s : InWork). length s.rest) c.self.view_is)) at c.requires in
    let h : i.at < i.end = rest_short i.values i.at i.end some in
    let w : List ℤ → InWork = λ xs. (let n : InWork = record { front = take i.start xs; done = take (i.at + 1 - i.start) (drop i.start xs); rest = take (i.end - (i.at + 1)) (drop (i.at + 1) xs); behind = drop i.end xs; stage = i.stage; walked = i.walk; run = i.run; size = i.extra.size; extra = i.extra.bits; due = i.due; bands = i.bands } in n) in
    let v : List ℤ → List ℤ → List ℤ → List ℤ → InWork = λ a b d e. (let n : InWork = record { front = a; done = b; rest = d; behind = e; stage = i.stage; walked = i.walk; run = i.run; size = i.extra.size; extra = i.extra.bits; due = i.due; bands = i.bands } in n) in
    let s = set i.values i.at c.args.value in
    ap w e
    ∙ ap (λ x. v x (take (i.at + 1 - i.start) (drop i.start s)) (take (i.end - (i.at + 1)) (drop (i.at + 1) s)) (drop i.end s)) (take-set-le i.start i.values i.at c.args.value k.begins)
    ∙ ap (λ x. v (take i.start i.values) x (take (i.end - (i.at + 1)) (drop (i.at + 1) s)) (drop i.end s)) (put_done i.values i.start i.at c.args.value (omega (arith, k.whole, k.fits)) k.begins)
    ∙ ap (λ x. v (take i.start i.values) (take (i.at - i.start) (drop i.start i.values) ++ c.args.value ∷ []) x (drop i.end s)) (put_rest i.values i.at i.end c.args.value (omega (arith, k.whole, k.fits)) h)
    ∙ ap (λ x. v (take i.start i.values) (take (i.at - i.start) (drop i.start i.values) ++ c.args.value ∷ []) (drop 1 (take (i.end - i.at) (drop i.at i.values))) x) (put_after i.values i.at i.end c.args.value h)
    ∙ ap (λ (s : InWork). (let n : InWork = record s { done = s.done ++ c.args.value ∷ []; rest = drop 1 s.rest } in n)) c.self.view_is

pub invariant_of-self : goal.invariant_of-self
invariant_of-self c =
    let i = c.self.inside in let k = c.self.invariant in
    let e : c.set.new.self ≡ set i.values i.at c.args.value = c.set.ensures.value ∙ ap (λ (v : ℤ). set i.values i.at v) (to_z-of_z w16 c.args.value (search rules)) in
    let some : 1 ≤ length (take (i.end - i.at) (drop i.at i.values)) = rw (sym (ap (λ (s : InWork). length s.rest) c.self.view_is)) at c.requires in
    let h : i.at < i.end = rest_short i.values i.at i.end some in
    record {
      whole = ap length e ∙ length-set i.values i.at c.args.value ∙ k.whole;
      begins = omega (arith, k.begins);
      inside = omega (arith, h);
      fits = k.fits;
      few = omega (arith, k.few);
      marked = ap (λ n. n / 2 ^ 1) k.marked ∙ marks_after (drop i.at i.values) 1 ∙ ap marks (drop-drop 1 i.at i.values ∙ sym (drop_after i.values i.at c.args.value (omega (arith, k.whole, k.fits, h))) ∙ ap (λ (l : List ℤ). drop (i.at + 1) l) (sym e));
      quiet = k.quiet;
    }
