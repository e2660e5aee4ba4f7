use Rattle.std.proofs.Common.{sym, ◌∙◌}
use Rattle.jpg_cli.proofs.ByRow.FoundEnds.{first_of, new_left, one_less}
use Rattle.jpg_cli.proofs.tools.image_writer.show_by.Goals as goal

pub loop-end-preserved : goal.loop-end-preserved
loop-end-preserved g c =
    let now = c.loop-end.end-iterator.rest.items in
    let rest = c.next.new.self.rest.items in
    let so = c.loop-end.invariant in
    let steps = c.in-Some.ensures.steps.0 in
    record {
      next = tt;
      finite = tt;
      new = new_left now rest c.in-Some.end (λ e. (goal.ImageEnd-dyn g (e.vtable, e.value)).progress e.value) steps so.new;
      same = one_less c.args.ends.items now rest c.in-Some.end (λ e. (goal.ImageEnd-dyn g (e.vtable, e.value)).progress e.value) c.args.words.now.kind steps so.same (sym c.is_of.ensures ∙ c.if-is_of.false);
      desk = so.desk;
    }

pub show_as-requires : goal.show_as-requires
show_as-requires g c =
    let now = c.loop-end.end-iterator.rest.items in
    let rest = c.next.new.self.rest.items in
    first_of now rest c.in-Some.end (λ e. (goal.ImageEnd-dyn g (e.vtable, e.value)).progress e.value) c.args.words.now.kind c.in-Some.ensures.steps.0 c.loop-end.invariant.new
    (sym c.is_of.ensures ∙ c.if-is_of.true)
