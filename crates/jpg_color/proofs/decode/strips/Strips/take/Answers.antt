use Rattle.std.proofs.Common.{sym, subst, All}
use Rattle.jpg_color.specs.PartState.{CanFill, filled}
use Rattle.jpg_color.proofs.StripsKept.{parts_written, can_fill, kept_more, pushed}
use Rattle.jpg_color.proofs.decode.strips.Strips.take.Goals as goal

pub fill_parts-requires : goal.fill_parts-requires
fill_parts-requires c =
    subst (All (CanFill c.args.coefs.now c.args.whole c.self.inside.pushed)) (sym c.deref_mut.ensures.value)
    (can_fill c.self.invariant c.self.view_is c.requires.due c.requires.blocks)

pub invariant_of-self : goal.invariant_of-self
invariant_of-self c =
    kept_more c.args.whole c.args.coefs.now c.self.invariant c.self.view_is c.requires.due
    (parts_written (filled c.args.coefs.now c.args.whole c.self.inside.pushed) c.self.inside.parts.ok.0 c.deref_mut.ensures.value c.fill_parts.ensures)

pub returns : goal.returns
returns c =
    pushed c.args.whole c.args.coefs.now c.self.invariant c.self.view_is c.requires.due
    (parts_written (filled c.args.coefs.now c.args.whole c.self.inside.pushed) c.self.inside.parts.ok.0 c.deref_mut.ensures.value c.fill_parts.ensures)
