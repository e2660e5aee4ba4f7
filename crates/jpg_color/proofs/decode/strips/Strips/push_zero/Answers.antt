use Rattle.std.proofs.Common.{ℕ, ◌<◌, false, refl, subst, sym, ◌∙◌, All}
use Rattle.jpg_color.specs.PartState.{CanFillGray, filled}
use Rattle.jpg_color.specs.Shown.{parts, zero_row}
use Rattle.jpg_color.specs.StripsState.{HasMcuRow}
use Rattle.jpg_color.proofs.GrayRows.{all_grayed, can_gray, zero_in_range}
use Rattle.jpg_color.proofs.StripsKept.{parts_written, can_fill, kept_more, pushed}
use Rattle.jpg_color.proofs.Windows.{row_there}
use Rattle.jpg_color.proofs.decode.strips.Strips.push_zero.Goals as goal

pub gray_parts-requires : goal.gray_parts-requires
gray_parts-requires c =
    let d = c.args.self.now.display in
    let there : HasMcuRow c.args.self.now false (zero_row d) = record {
      rows = λ (i : ℕ) (h : i < parts d). row_there d i c.args.self.now.pushed (zero_row d) c.checked.ensures h c.requires.due.missing refl (zero_in_range d);
    } in
    subst (All (CanFillGray c.self.inside.pushed)) (sym c.deref_mut.ensures.value)
    (can_gray (zero_row d) c.self.inside.pushed c.self.inside.parts.items
    (can_fill c.self.invariant c.self.view_is c.requires.due there))

pub invariant_of-self : goal.invariant_of-self
invariant_of-self c =
    let q = zero_row c.args.self.now.display in
    kept_more false q c.self.invariant c.self.view_is c.requires.due
    (parts_written (filled q false c.self.inside.pushed) c.self.inside.parts.ok.0 c.deref_mut.ensures.value
    (c.gray_parts.ensures ∙ all_grayed c.args.self.now.display c.self.inside.pushed c.deref_mut.result.now))

pub returns : goal.returns
returns c =
    let q = zero_row c.args.self.now.display in
    pushed false q c.self.invariant c.self.view_is c.requires.due
    (parts_written (filled q false c.self.inside.pushed) c.self.inside.parts.ok.0 c.deref_mut.ensures.value
    (c.gray_parts.ensures ∙ all_grayed c.args.self.now.display c.self.inside.pushed c.deref_mut.result.now))
