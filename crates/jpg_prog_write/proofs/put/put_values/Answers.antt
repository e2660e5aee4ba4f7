use Rattle.std.proofs.Common.{ℕ, ◌≡◌, ◌++◌, [], true, Err, refl, sym, ap, ◌∙◌, subst, arith}
use Rattle.std.proofs.lemmas.Result.{err_from_is_err_and}
use Rattle.jpg_spec_write.specs.Sending.{value_elements}
use Rattle.jpg_huff.specs.BitOut.{Puts, holding}
use Rattle.jpg_huff.proofs.InParts.{of_bits, part_start, part_then, part_end, part_fault}
use Rattle.jpg_huff.proofs.Together.{puts_nothing, puts_same, puts_fault}
use Rattle.jpg_prog_write.specs.Items.{IsItem, spelled, texts}
use Rattle.jpg_prog_write.specs.Bands.{IsShort, AreMarks, sents, ends_new, front_elements, elements_left}
use Rattle.jpg_prog_write.specs.Steps.{IsCompleteElement, PassesValues}
use Rattle.jpg_prog_write.specs.Putting.{PutsValues, ac_codes}
use Rattle.jpg_prog_write.specs.declared.bands.Bands.{Bands}
use Rattle.jpg_prog_write.proofs.ElementsDue.{Waiting}
use Rattle.jpg_prog_write.proofs.FrontElements.{passed, passes_values, passes_none, values_first}
use Rattle.jpg_prog_write.proofs.Fronts.{sents_none}
use Rattle.jpg_prog_write.proofs.Texts.{texts_first, texts_join, texts_none}
use Rattle.jpg_prog_write.proofs.put.put_values.Goals as goal

pub loop-at-init : goal.loop-at-init
loop-at-init g c =
    let s = g.D.Desk.state c.args.desk.now in
    let b = c.args.bands.now in
    let ready = c.requires.ready in
    let old = holding c.args.out.now c.args.held in
    let all = texts (ac_codes c.args.codes) (front_elements b.band b.at b.last b.block) in
    record {
      from = omega arith;
      most = ready.order;
      same = refl;
      front = ready.front;
      waits = ready.none (omega (arith, c.if-bands-gt0.false));
      created = c.requires.created;
      none = c.requires.none;
      part = part_start Puts s old all all (puts_nothing s old) refl;
    }

pub value_from-requires-clause-part : goal.value_from-requires-clause-part
value_from-requires-clause-part g c =
    let ready = c.requires.ready in
    let block = ap (λ x. x.block) c.loop-at.invariant.same in
    record {
      band = ready.band;
      short = subst IsShort (sym block) ready.short;
      marks = subst (AreMarks c.args.bands.now.marks) (sym block) ready.marks;
      from = omega (arith, ready.at, c.loop-at.invariant.from);
      order = c.loop-at.invariant.most;
      most = ready.most;
      front = subst (λ xs. ends_new (sents c.args.bands.now.band c.loop-at.at c.args.bands.now.last xs) ≡ true) (sym block) c.loop-at.invariant.front;
    }

pub put_item-requires-clause-fits : goal.put_item-requires-clause-fits
put_item-requires-clause-fits g c = (let f = c.in-Some.ensures.some.first in (f.is.short, f.is.fits))

pub loop-at-preserved : goal.loop-at-preserved
loop-at-preserved g c =
    let state = g.D.Desk.state in
    let codes = ac_codes c.args.codes in
    let b = c.args.bands.now in
    let left = λ (at : ℕ). front_elements b.band at b.last b.block in
    let text = λ (at : ℕ). texts codes (front_elements b.band at b.last b.block) in
    let whole = c.in-Some.whole in
    let bits = c.value_from.new.waiting.items in
    let w = subst (λ block. IsCompleteElement b.band c.loop-at.at b.last block whole bits) (ap (λ x. x.block) c.loop-at.invariant.same) c.in-Some.ensures.some in
    let f = w.first in
    let is = subst (IsItem f.element whole.item) (sym c.as_slice.ensures.value) f.is in
    let e = texts_first codes (left c.loop-at.at) whole.item bits (left whole.at) f in
    let done = c.in_ok-after-in-Some.ensures.puts f.element is in
    record {
      from = omega (arith, w.order, c.loop-at.invariant.from);
      most = w.most;
      same = ap (λ (x : Bands). record x { waiting = c.clear.new.self }) c.loop-at.invariant.same;
      front = w.front;
      waits = c.clear.ensures;
      created = done.kept.output_created ∙ c.loop-at.invariant.created;
      none = c.in_ok-after-in-Some.ensures.none;
      part = part_then Puts of_bits (state c.args.desk.now) (state c.loop-at.desk) (state c.put_item.new.desk) (holding c.args.out.now c.args.held) (holding c.loop-at.out c.loop-at.after) (holding c.put_item.new.out c.in_ok-after-in-Some.after)
          (text b.at) (text c.loop-at.at) (spelled codes f.element) (text whole.at) e c.loop-at.invariant.part done;
    }

pub returns-then-bands-gt0-clause-passes : goal.returns-then-bands-gt0-clause-passes
returns-then-bands-gt0-clause-passes g c = λ left e. passes_none c.args.bands.now c.requires.ready

pub returns-then-bands-gt0-clause-puts : goal.returns-then-bands-gt0-clause-puts
returns-then-bands-gt0-clause-puts g c = λ later. ([], refl, puts_nothing (g.D.Desk.state c.args.desk.now) (holding c.args.out.now c.args.held))

pub returns-in-None-clause-passes : goal.returns-in-None-clause-passes
returns-in-None-clause-passes g c = absurd c.in-None.ensures.none

pub returns-in-None-clause-created : goal.returns-in-None-clause-created
returns-in-None-clause-created g c = absurd c.in-None.ensures.none

pub returns-in-None-clause-band : goal.returns-in-None-clause-band
returns-in-None-clause-band g c = absurd c.in-None.ensures.none

pub returns-in-None-clause-none : goal.returns-in-None-clause-none
returns-in-None-clause-none g c = absurd c.in-None.ensures.none

pub returns-in-None-clause-puts : goal.returns-in-None-clause-puts
returns-in-None-clause-puts g c = absurd c.in-None.ensures.none

pub returns-clause-passes : goal.returns-clause-passes
returns-clause-passes g c = λ left e.
    let b = c.args.bands.now in
    let i = c.loop-at.invariant in
    subst (PassesValues b) (sym (ap (λ (x : Bands). record x { at = b.last }) i.same)) (passes_values b c.loop-at.bands.waiting c.requires.ready i.waits)

pub returns-clause-band : goal.returns-clause-band
returns-clause-band g c = ap (λ x. x.band) c.loop-at.invariant.same

pub returns-clause-puts : goal.returns-clause-puts
returns-clause-puts g c = λ later.
    let state = g.D.Desk.state in
    let codes = ac_codes c.args.codes in
    let b = c.args.bands.now in
    let i = c.loop-at.invariant in
    let waiting = c.loop-at.bands.waiting in
    let text = λ (at : ℕ). texts codes (front_elements b.band at b.last b.block) in
    let nothing = ap (λ xs. texts codes (value_elements 0 [] xs)) (sents_none b.band c.loop-at.at b.last b.block (omega (arith, c.loop-at-test.false))) ∙ texts_none codes in
    let left = elements_left (passed b waiting) later in
    let e = ap (texts codes) (values_first b waiting later c.requires.ready (omega (arith, c.if-bands-gt0.false)) i.waits) ∙ texts_join codes (front_elements b.band b.at b.last b.block) left in
    let same = ap (λ (x : Bands). texts codes (elements_left (record x { at = b.last }) later)) i.same in (
      text b.at,
      ap (λ xs. text b.at ++ xs) same ∙ sym e,
      part_end Puts (state c.args.desk.now) (state c.loop-at.desk) (holding c.args.out.now c.args.held) (holding c.loop-at.out c.loop-at.after) (text b.at) (text c.loop-at.at) nothing i.part,
    )

pub returns-in_err-after-in-Some-clause-created : goal.returns-in_err-after-in-Some-clause-created
returns-in_err-after-in-Some-clause-created g c =
    let b = c.args.bands.now in
    let whole = c.in-Some.whole in
    let f = c.in-Some.ensures.some.first in
    (c.in_err-after-in-Some.ensures.puts f.element (subst (IsItem f.element whole.item) (sym c.as_slice.ensures.value) f.is)).kept.output_created ∙ c.loop-at.invariant.created

pub returns-in_err-after-in-Some-clause-band : goal.returns-in_err-after-in-Some-clause-band
returns-in_err-after-in-Some-clause-band g c = ap (λ x. x.band) c.loop-at.invariant.same

pub returns-in_err-after-in-Some-clause-puts : goal.returns-in_err-after-in-Some-clause-puts
returns-in_err-after-in-Some-clause-puts g c =
    let state = g.D.Desk.state in
    let codes = ac_codes c.args.codes in
    let b = c.args.bands.now in
    let left = λ (at : ℕ). front_elements b.band at b.last b.block in
    let text = λ (at : ℕ). texts codes (front_elements b.band at b.last b.block) in
    let whole = c.in-Some.whole in
    let bits = c.value_from.new.waiting.items in
    let w = subst (λ block. IsCompleteElement b.band c.loop-at.at b.last block whole bits) (ap (λ x. x.block) c.loop-at.invariant.same) c.in-Some.ensures.some in
    let f = w.first in
    let is = subst (IsItem f.element whole.item) (sym c.as_slice.ensures.value) f.is in
    let e = texts_first codes (left c.loop-at.at) whole.item bits (left whole.at) f in
    let none : Waiting = record { items = [] } in
    let fault = c.in_err-after-in-Some.field-0.0 in
    let back = err_from_is_err_and c.from_residual.result c.from_residual.ensures.1 in
    let values = part_fault Puts of_bits (state c.args.desk.now) (state c.loop-at.desk) (state c.put_item.new.desk) (holding c.args.out.now c.args.held) (holding c.loop-at.out c.loop-at.after) (holding c.put_item.new.out [])
    (text b.at) (text c.loop-at.at) (spelled codes f.element) (text whole.at) fault e c.loop-at.invariant.part (c.in_err-after-in-Some.ensures.puts f.element is) in
    subst (λ r. PutsValues (state c.args.desk.now) c.args.out.now c.args.held codes b r (record c.loop-at.bands { waiting = c.value_from.new.waiting }) c.put_item.new.out (state c.put_item.new.desk)) (sym (back.1 ∙ ap Err back.2))
    (λ later.
    let rest = elements_left (passed b none) later in
    let e = ap (texts codes) (values_first b none later c.requires.ready (omega (arith, c.if-bands-gt0.false)) refl) ∙ texts_join codes (left b.at) rest in
    puts_same _ _ _ _ (text b.at ++ texts codes rest) _ (Err fault) (sym e)
    (puts_fault (state c.args.desk.now) (state c.put_item.new.desk) (holding c.args.out.now c.args.held) (holding c.put_item.new.out []) (text b.at) (texts codes rest) fault values))
