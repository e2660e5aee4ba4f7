use Rattle.std.proofs.Common.{◌≡◌, ◌-◌, ◌≤◌, ◌++◌, ℕ, List, length, take, flat_map, sym, ap, ◌∙◌, subst, arith}
use Rattle.jpg_spec.specs.Lists.{below}
use Rattle.jpg_spec_image.specs.TargaSteps.{copied, size, total}
use Rattle.jpg_spec_image.proofs.TargaRuns.{copies_end}
use Rattle.jpg_targa.specs.Reader.{Reaches}
use Rattle.jpg_targa.proofs.Led.{copies_after}
use Rattle.jpg_targa.proofs.read.work.Work.copies_so_far.Goals as goal

pub returns-in-Ok-clause-led : goal.returns-in-Ok-clause-led
returns-in-Ok-clause-led c = λ room front before.
    let old = c.args.self.now in
    let due = c.due-end.ensures in
    let end = total old.head - old.before in
    let few : size old.head ≤ length old.pixel = omega (arith, c.if-as_slice-from.false, c.from.ensures, c.size.ensures.size, ap length c.as_slice.ensures) in
    let is : c.add_copies.new.pixels ≡ take end (old.pixels ++ flat_map (λ n. old.pixel) (below c.args.count)) =
    c.in-Ok.ensures (omega (arith, due, room))
    ∙ ap (λ k. take k (old.pixels ++ flat_map (λ n. c.as_slice-2.result.now) (below c.args.count))) due
    ∙ ap (λ (p : List ℕ). take end (old.pixels ++ flat_map (λ n. p) (below c.args.count))) c.as_slice-2.ensures
    in
    subst (λ t. Reaches front t c.grown.result c.grown.new.self)
    (ap (copied old.head) (copies_after front old.pixels old.pixel c.add_copies.new.pixels (total old.head) old.before c.args.count before (omega (arith, room)) is)
    ∙ sym (copies_end old.head (front ++ old.pixels) c.args.count old.pixel few))
    (c.grown.ensures.led front before)
