use Rattle.std.proofs.Common.{ℕ, get_or, ◌≡◌, ◌+◌, ◌*◌, refl, sym, ap, ◌∙◌, List}
use Rattle.jpg_base.specs.declared.cursor.CursorPart.{CursorPart}
use Rattle.jpg_base.specs.Cursor.{no_part}
use Rattle.jpg_base.proofs.Places.{first_here, place_here}
use Rattle.jpg_base.proofs.cursor.Cursor.place.Goals as goal

pub returns : goal.returns
returns c =
    let i = c.self.inside in
    let same : get_or c.deref.result.now i.part no_part ≡ get_or i.parts.items i.part no_part = ap (λ (l : List CursorPart). get_or l i.part no_part) c.deref.ensures.0 in
    place_here c.args.self.now (get_or c.deref.result.now i.part no_part) (get_or i.parts.items i.part no_part) i.column i.across i.row i.down _
    (first_here i.parts.items i.wide i.high i.row i.column i.part i.down i.across c.self.invariant c.self.view_is c.requires) (sym same) refl
    (ap (λ (n : ℕ). i.column * n + c.from-2.result) c.from.ensures ∙ ap (λ (n : ℕ). i.column * (get_or c.deref.result.now i.part no_part).h + n) c.from-2.ensures)
    (ap (λ (n : ℕ). i.row * n + c.from-4.result) c.from-3.ensures ∙ ap (λ (n : ℕ). i.row * (get_or c.deref.result.now i.part no_part).v + n) c.from-4.ensures) c.has.ensures
