use Rattle.std.proofs.Common.{rules, ℕ, ◌<◌, ◌+◌, ◌^◌, List, [], ◌∷◌, ◌++◌, ap, ◌∙◌, arith}
use Rattle.jpg_markers.proofs.KeptBytes.{pushed}
use Rattle.jpg_markers.proofs.kept.KeptList.push.Goals as goal

pub overflow_add-self : goal.overflow_add-self
overflow_add-self c =
    let new = c.put_segment.new.bytes in
    let is = pushed c.self.inside.bytes.items new.items c.args.code c.args.contents.now c.self.invariant.0 c.requires c.in-Ok.ensures.put in
    let h : c.self.inside.count + 1 < 2 ^ 64 = omega (arith, is.few, c.self.invariant.1, new.ok.0, new.ok.1, new.small) in
    search (rules, h)

pub invariant_of-self : goal.invariant_of-self
invariant_of-self c =
    let is = pushed c.self.inside.bytes.items c.put_segment.new.bytes.items c.args.code c.args.contents.now c.self.invariant.0 c.requires c.in-Ok.ensures.put in
    (is.segments, omega (arith, is.long, c.self.invariant.1))

pub returns-in-Ok-clause-pushed : goal.returns-in-Ok-clause-pushed
returns-in-Ok-clause-pushed c =
    let is = pushed c.self.inside.bytes.items c.put_segment.new.bytes.items c.args.code c.args.contents.now c.self.invariant.0 c.requires c.in-Ok.ensures.put in
    is.value ∙ ap (λ (l : List (ℕ × List ℕ)). l ++ (c.args.code, c.args.contents.now) ∷ []) c.self.view_is
