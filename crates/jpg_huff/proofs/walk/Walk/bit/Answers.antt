use Rattle.std.proofs.Common.{◌≤◌, ◌+◌, ◌*◌, ◌-◌, arith, refl, subst, List, [], ◌∷◌, ◌++◌, ◌∙◌, inl, inr, get_or}
use Rattle.std.specs.Prelude.{◌⊎◌, Contains}
use Rattle.jpg_spec.specs.Bits.{bits_of}
use Rattle.jpg_spec.specs.Codes.{Code}
use Rattle.jpg_spec.specs.Parts.{BeginsCode}
use Rattle.jpg_huff.specs.Walk.{BeginsNoCode}
use Rattle.jpg_huff.proofs.Tables.{codes_kept}
use Rattle.jpg_huff.proofs.Steps.{at_below, at_symbol, at_more, at_none, place_below, bit_value_is}
use Rattle.jpg_huff.proofs.walk.Walk.bit.Goals as goal
use Rattle.jpg_huff.proofs.walk.Walk.bit.Goals.{else-at-lt15-via-then-at-lt15+else-number-table, else-at-lt15-via-else-at-lt15}

pub bounds-table-table : goal.bounds-table-table
bounds-table-table c =
    let t = c.args.table.now in let w = c.self.inside in
    let p = place_below t.symbols t.indexed w.length (2 * w.number + c.from.result) c.self.invariant.0 (omega arith) (omega arith) in
    omega (arith, t.indexed.size)

pub returns-then-number-first : goal.returns-then-number-first
unfolding bits_of
returns-then-number-first c =
    let t = c.args.table.now in let w = c.self.inside in
    let P : List Code → Type 0 = λ l. BeginsNoCode l (c.args.self.now ++ c.args.bit ∷ []) in
    (subst P (codes_kept t) (at_below t.symbols t.indexed w.length w.number c.from.result c.args.self.now c.args.bit c.self.invariant.0 c.self.invariant.1 c.self.view_is (c.from.ensures ∙ bit_value_is c.args.bit) (omega arith)), refl)

pub returns-then-number-first-2 : goal.returns-then-number-first-2
unfolding bits_of
returns-then-number-first-2 c =
    let t = c.args.table.now in let w = c.self.inside in
    let P : List Code → Type 0 = λ l. Contains l (c.args.self.now ++ c.args.bit ∷ [], get_or t.symbols (get_or t.starts w.length 0 + (2 * w.number + c.from.result - get_or t.firsts w.length 0)) 0) in
    (subst P (codes_kept t) (at_symbol t.symbols t.indexed w.length w.number c.from.result c.args.self.now c.args.bit c.self.invariant.0 c.self.view_is (c.from.ensures ∙ bit_value_is c.args.bit) (omega arith) (omega arith)), refl)

pub returns-then-number-table : goal.returns-then-number-table
returns-then-number-table c =
    let t = c.args.table.now in let w = c.self.inside in
    let P : List Code → Type 0 = λ l. BeginsCode l (c.args.self.now ++ c.args.bit ∷ []) in
    let more = at_more t.symbols t.indexed w.length w.number c.from.result c.args.self.now c.args.bit (omega arith) c.self.view_is (c.from.ensures ∙ bit_value_is c.args.bit) (omega arith) (omega arith) in
    (subst P (codes_kept t) more.0, more.1)

pub returns-else-at-lt15 : goal.returns-else-at-lt15
unfolding bits_of
returns-else-at-lt15 c =
    let t = c.args.table.now in let w = c.self.inside in
    let P : List Code → Type 0 = λ l. BeginsNoCode l (c.args.self.now ++ c.args.bit ∷ []) in
    let past : (15 ≤ w.length) ⊎ (get_or t.limits w.length 0 ≤ 2 * w.number + c.from.result) =
    elim c.else-at-lt15.branch [ else-at-lt15-via-then-at-lt15+else-number-table v ↦ inr (omega arith) | else-at-lt15-via-else-at-lt15 v ↦ inl (omega arith) ] in
    (subst P (codes_kept t) (at_none t.symbols t.indexed w.length w.number c.from.result c.args.self.now c.args.bit c.self.invariant.0 c.self.invariant.1 c.self.view_is (c.from.ensures ∙ bit_value_is c.args.bit) (omega arith) past), refl)
