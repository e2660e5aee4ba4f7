use Rattle.std.proofs.Common.{rules, ◌≡◌, ◌∷◌, pos, refl, sym, ap, ◌∙◌, subst, arith}
use mir.Syntax.{w16}
use mir.Val.{SFits, to_z, of_z}
use Rattle.std.specs.Prelude.{slice_index_or}
use Rattle.std.proofs.lemmas.Int.{to_z-of_z}
use Rattle.jpg_spec.specs.Elements.{zeros}
use Rattle.jpg_coefs.specs.Sinks.{block_due, last_in, at, with_unit, of_places}
use Rattle.jpg_spec_write.specs.ScanText.{units_due, last_dc}
use Rattle.jpg_coefs.proofs.ScanDue.{goes_place}
use Rattle.jpg_coefs.proofs.ScanGiven.{due_same, due_real, due_padding}
use Rattle.jpg_coefs.proofs.intervals.put_place.Goals as goal

pub unit-requires : goal.unit-requires
unit-requires g c =
    let k = g.S.UnitSink.kind in
    let others = g.V.BlockView.blocks c.args.due.view.now in
    let p = c.args.due.place in
    let i = p.component in
    let last = c.args.last.now in
    let q = to_z w16 (of_z w16 (slice_index_or last i (pos 0))) in
    let same : q ≡ last_in last i = to_z-of_z w16 _ (search rules) in
    let blocks = c.requires.next.0 in
    let n = c.requires.next.2 in
    let e : c.block-block.result ≡ block_due blocks (last_in last i) p =
    c.block-block.ensures ∙ sym (due_real others (last_in last i) p c.if-place.true) ∙ due_same blocks others (last_in last i) p c.requires.next.1 in
    let due = record (of_places n.0 blocks last n.1) { rest = units_due blocks (last_dc (last_in last) i (block_due blocks (last_in last i) p)) n.1 } in
    (due, sym same, subst (λ b. k.due (with_unit due (i, b)) (at c.args.sink.now c.args.out.now c.args.desk.now)) (sym e) n.2)

pub returns-then-place : goal.returns-then-place
returns-then-place g c = λ blocks agree.
    let others = g.V.BlockView.blocks c.args.due.view.now in
    let p = c.args.due.place in
    let last = c.args.last.now in
    let q = to_z w16 (of_z w16 (slice_index_or last p.component (pos 0))) in
    let fits : SFits w16 c.get.result = search rules in
    let value : to_z w16 (of_z w16 c.get.result) ≡ slice_index_or c.block-block.result 0 (pos 0) = to_z-of_z w16 c.get.result fits ∙ c.get.ensures.value in
    goes_place g.S.UnitSink.kind blocks (omega (arith, c.told-last, c.requires.four))
    (record {
      before = q;
      block = c.block-block.result;
      same = to_z-of_z w16 _ (search rules);
      is = c.block-block.ensures ∙ sym (due_real others q p c.if-place.true) ∙ due_same blocks others q p agree;
      first = value;
      takes = c.unit.ensures;
    })

pub put_padding-requires : goal.put_padding-requires
put_padding-requires g c =
    let k = g.S.UnitSink.kind in
    let others = g.V.BlockView.blocks c.args.due.view.now in
    let p = c.args.due.place in
    let i = p.component in
    let last = c.args.last.now in
    let q = to_z w16 (of_z w16 (slice_index_or last i (pos 0))) in
    let same : q ≡ last_in last i = to_z-of_z w16 _ (search rules) in
    let blocks = c.requires.next.0 in
    let n = c.requires.next.2 in
    let e : q ∷ zeros 63 ≡ block_due blocks (last_in last i) p =
    ap (λ x. x ∷ zeros 63) same ∙ sym (due_padding others (last_in last i) p c.if-place.false) ∙ due_same blocks others (last_in last i) p c.requires.next.1 in
    let due = record (of_places n.0 blocks last n.1) { rest = units_due blocks (last_dc (last_in last) i (block_due blocks (last_in last i) p)) n.1 } in
    (due, sym same, subst (λ b. k.due (with_unit due (i, b)) (at c.args.sink.now c.args.out.now c.args.desk.now)) (sym e) n.2)

pub returns-else-place : goal.returns-else-place
returns-else-place g c = λ blocks agree.
    let others = g.V.BlockView.blocks c.args.due.view.now in
    let p = c.args.due.place in
    let last = c.args.last.now in
    let q = to_z w16 (of_z w16 (slice_index_or last p.component (pos 0))) in
    goes_place g.S.UnitSink.kind blocks (omega (arith, c.told-last, c.requires.four))
    (record {
      before = q;
      block = q ∷ zeros 63;
      same = to_z-of_z w16 _ (search rules);
      is = sym (due_padding others q p c.if-place.false) ∙ due_same blocks others q p agree;
      first = refl;
      takes = c.put_padding.ensures;
    })
