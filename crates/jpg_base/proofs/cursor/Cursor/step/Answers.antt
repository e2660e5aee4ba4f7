use Rattle.std.proofs.Common.{get_or, ◌≡◌, ap, arith, List}
use Rattle.jpg_base.specs.declared.cursor.CursorPart.{CursorPart}
use Rattle.jpg_base.specs.Cursor.{no_part}
use Rattle.jpg_base.proofs.Places.{to_the_right, down_a_row, to_a_part, to_a_column, to_a_line, line_at}
use Rattle.jpg_base.proofs.cursor.Cursor.step.Goals as goal

pub invariant_of-self-else-self : goal.invariant_of-self-else-self
invariant_of-self-else-self c =
    let i = c.self.inside in
    line_at i.parts.items i.wide i.high i.row i.column i.part i.down i.across c.self.invariant c.self.view_is c.requires

pub returns-then-self-part : goal.returns-then-self-part
returns-then-self-part c =
    let i = c.self.inside in
    to_the_right i.parts.items i.wide i.high i.row i.column i.part i.down i.across c.self.invariant c.self.view_is c.requires

pub returns-then-self-part-2 : goal.returns-then-self-part-2
returns-then-self-part-2 c =
    let i = c.self.inside in
    let same : get_or c.deref.result.now i.part no_part ≡ get_or i.parts.items i.part no_part = ap (λ (l : List CursorPart). get_or l i.part no_part) c.deref.ensures.0 in
    let same_h = ap (λ (q : CursorPart). q.h) same in let same_v = ap (λ (q : CursorPart). q.v) same in
    down_a_row i.parts.items i.wide i.high i.row i.column i.part i.down i.across c.self.invariant c.self.view_is c.requires (omega (arith, same_h, same_v)) (omega (arith, same_h, same_v))

pub returns-then-self-len : goal.returns-then-self-len
returns-then-self-len c =
    let i = c.self.inside in
    let same : get_or c.deref.result.now i.part no_part ≡ get_or i.parts.items i.part no_part = ap (λ (l : List CursorPart). get_or l i.part no_part) c.deref.ensures.0 in
    let same_h = ap (λ (q : CursorPart). q.h) same in let same_v = ap (λ (q : CursorPart). q.v) same in
    to_a_part i.parts.items i.wide i.high i.row i.column i.part i.down i.across c.self.invariant c.self.view_is c.requires (omega (arith, same_h, same_v)) (omega (arith, same_h, same_v)) (omega (arith, same_h, same_v))

pub returns-then-self : goal.returns-then-self
returns-then-self c =
    let i = c.self.inside in
    let same : get_or c.deref.result.now i.part no_part ≡ get_or i.parts.items i.part no_part = ap (λ (l : List CursorPart). get_or l i.part no_part) c.deref.ensures.0 in
    let same_h = ap (λ (q : CursorPart). q.h) same in let same_v = ap (λ (q : CursorPart). q.v) same in
    to_a_column i.parts.items i.wide i.high i.row i.column i.part i.down i.across c.self.invariant c.self.view_is c.requires (omega (arith, same_h, same_v)) (omega (arith, same_h, same_v)) (omega (arith, same_h, same_v)) (omega (arith, same_h, same_v))

pub returns-else-self : goal.returns-else-self
returns-else-self c =
    let i = c.self.inside in
    let same : get_or c.deref.result.now i.part no_part ≡ get_or i.parts.items i.part no_part = ap (λ (l : List CursorPart). get_or l i.part no_part) c.deref.ensures.0 in
    let same_h = ap (λ (q : CursorPart). q.h) same in let same_v = ap (λ (q : CursorPart). q.v) same in
    to_a_line i.parts.items i.wide i.high i.row i.column i.part i.down i.across c.self.invariant c.self.view_is c.requires (omega (arith, same_h, same_v)) (omega (arith, same_h, same_v)) (omega (arith, same_h, same_v)) (omega (arith, same_h, same_v))
