use Rattle.std.proofs.Common.{List, sym, ap, ◌∙◌, length, subst, All}
use Rattle.jpg_color.specs.PartState.{PartState, CanDraw, drawn}
use Rattle.jpg_color.specs.StripsState.{AreWide, coloured}
use Rattle.jpg_color.proofs.StripsKept.{parts_written, row_written, is_due, can_draw, drawn_wide, kept_given, given}
use Rattle.jpg_color.proofs.decode.strips.Strips.advance.Goals as goal

pub draw_parts-requires : goal.draw_parts-requires
draw_parts-requires c =
    subst (All (CanDraw c.self.inside.given c.self.inside.pushed)) (sym c.deref_mut.ensures.value)
    (can_draw c.self.invariant (is_due c.self.invariant c.self.view_is c.ready.ensures.value c.ready.ensures.low c.if-self-ready.false))

pub colour-requires-clause-parts : goal.colour-requires-clause-parts
colour-requires-clause-parts c =
    subst (λ n. AreWide c.self.inside.colour c.self.inside.gray n c.deref.result.now) (sym c.width-width.ensures)
    (drawn_wide c.self.invariant
    (c.deref.ensures.value
    ∙ parts_written (drawn c.self.inside.given c.self.inside.pushed) c.self.inside.parts.ok.0 c.deref_mut.ensures.value c.draw_parts.ensures))

pub invariant_of-self : goal.invariant_of-self
invariant_of-self c =
    kept_given c.self.invariant
    (is_due c.self.invariant c.self.view_is c.ready.ensures.value c.ready.ensures.low c.if-self-ready.false)
    (parts_written (drawn c.self.inside.given c.self.inside.pushed) c.self.inside.parts.ok.0 c.deref_mut.ensures.value c.draw_parts.ensures)
    (ap length (row_written c.colour.new.last c.self.inside.last.ok.0 c.deref_mut-2.ensures.value c.colour.auto.last)
    ∙ c.colour.auto.last ∙ ap length c.deref_mut-2.ensures.value)

pub returns : goal.returns
returns c =
    let row = row_written c.colour.new.last c.self.inside.last.ok.0 c.deref_mut-2.ensures.value c.colour.auto.last in
    given c.self.invariant c.self.view_is
    (is_due c.self.invariant c.self.view_is c.ready.ensures.value c.ready.ensures.low c.if-self-ready.false)
    (parts_written (drawn c.self.inside.given c.self.inside.pushed) c.self.inside.parts.ok.0 c.deref_mut.ensures.value c.draw_parts.ensures)
    (ap length row ∙ c.colour.auto.last ∙ ap length c.deref_mut-2.ensures.value)
    (row ∙ c.colour.ensures
    ∙ ap (λ n. coloured c.self.inside.colour c.self.inside.gray n c.deref.result.now) c.width-width.ensures
    ∙ ap (λ (ps : List PartState). coloured c.self.inside.colour c.self.inside.gray c.self.inside.frame.width ps) c.deref.ensures.value)
