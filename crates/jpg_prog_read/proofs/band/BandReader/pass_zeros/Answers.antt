use Rattle.std.proofs.Common.{◌≡◌, ◌∙◌, ap, sym, arith, ◌+◌, ◌-◌, ◌/◌, ◌^◌, ◌≤◌, ◌++◌, length, List, ℤ, take, drop, drop-drop}
use Rattle.std.proofs.lemmas.List.{take-take}
use Rattle.jpg_spec.specs.Elements.{zeros}
use Rattle.jpg_prog_read.specs.InWork.{InWork}
use Rattle.jpg_base.specs.Marks.{marks}
use Rattle.jpg_prog_read.proofs.Leaf.{passed_rest, passed_done, rest_long}
use Rattle.jpg_base.proofs.Marked.{marks_after}
use Rattle.jpg_prog_read.proofs.band.BandReader.pass_zeros.Goals as goal

pub invariant_of-self : goal.invariant_of-self
invariant_of-self c =
    let i = c.self.inside in let k = c.self.invariant in
    let n = c.args.count in
    let long : n ≤ i.end - i.at = rest_long i.values i.at i.end n (rw (sym (ap (λ (s : InWork). length s.rest) c.self.view_is)) at c.requires.some) in
    record {
      whole = k.whole;
      begins = omega (arith, k.begins);
      inside = omega (arith, long, k.inside);
      fits = k.fits;
      few = omega (arith, k.few);
      marked = ap (λ m. m / 2 ^ n) k.marked ∙ marks_after (drop i.at i.values) n ∙ ap marks (drop-drop n i.at i.values);
      quiet = k.quiet;
    }

pub returns : goal.returns
returns c =
    let i = c.self.inside in let k = c.self.invariant in
    let n = c.args.count in
    let long : n ≤ i.end - i.at = rest_long i.values i.at i.end n (rw (sym (ap (λ (s : InWork). length s.rest) c.self.view_is)) at c.requires.some) in
    let next : take n (take (i.end - i.at) (drop i.at i.values)) ≡ zeros n = ap (λ (s : InWork). take n s.rest) c.self.view_is ∙ c.requires.next in
    let here : take n (drop i.at i.values) ≡ zeros n = sym (take-take n (i.end - i.at) (drop i.at i.values) long) ∙ next in
    let v : List ℤ → List ℤ → InWork = λ d r. (let m : InWork = record { front = take i.start i.values; done = d; rest = r; behind = drop i.end i.values; stage = i.stage; walked = i.walk; run = i.run - n; size = i.extra.size; extra = i.extra.bits; due = i.due; bands = i.bands } in m) in
    ap (λ d. v d (take (i.end - (i.at + n)) (drop (i.at + n) i.values))) (passed_done i.values i.start i.at n (zeros n) k.begins here)
    ∙ ap (λ r. v (take (i.at - i.start) (drop i.start i.values) ++ zeros n) r) (passed_rest i.values i.at i.end n (omega (arith, long, k.inside)))
    ∙ ap (λ (s : InWork). (let m : InWork = record s { done = s.done ++ zeros n; rest = drop n s.rest; run = s.run - n } in m)) c.self.view_is
