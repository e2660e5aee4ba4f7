use Rattle.std.proofs.Common.{◌++◌, [], Err, Ok, refl, sym, ap, ◌∙◌, subst, arith}
use Rattle.std.proofs.lemmas.Result.{err_from_is_err_and}
use Rattle.jpg_spec_write.specs.Sending.{band_elements}
use Rattle.jpg_huff.specs.BitOut.{Puts, holding}
use Rattle.jpg_huff.proofs.InParts.{DoneButFor, of_bits, part_start, part_same, part_then, part_last, part_fault}
use Rattle.jpg_huff.proofs.Together.{puts_nothing}
use Rattle.jpg_prog_write.specs.Items.{IsItem, spelled, texts}
use Rattle.jpg_prog_write.specs.Bands.{IsReady, elements_left, cleared, steps_left}
use Rattle.jpg_prog_write.specs.Putting.{PutsBut, ac_codes}
use Rattle.jpg_prog_write.proofs.After.{still_held}
use Rattle.jpg_prog_write.proofs.Texts.{texts_first}
use Rattle.jpg_prog_write.proofs.put.put_band.Goals as goal

pub loop-held-init : goal.loop-held-init
loop-held-init g c =
    let s = g.D.Desk.state c.args.desk.now in
    let codes = ac_codes c.args.codes in
    record {
      created = c.requires.created;
      ready = c.requires.ready;
      band = refl;
      part = λ later.
          let all = texts codes (elements_left c.args.bands.now later) in
          subst (λ w. DoneButFor Puts s c.args.out.now all all w s) (sym (still_held c.args.out.now c.take-held.new.self c.take-held.result c.take-held.ensures.held c.take-held.ensures.left))
          (part_start Puts s c.args.out.now all all (puts_nothing s c.args.out.now) refl);
      none = ap (λ w. w.bits) c.take-held.ensures.left;
    }

pub next-requires : goal.next-requires
next-requires g c = (c.in_ok-held.ensures.passes c.in_ok-held.held refl).ready

pub put_item-requires-clause-fits : goal.put_item-requires-clause-fits
put_item-requires-clause-fits g c = (let f = c.in-Some.ensures.some.first [] in (f.is.short, f.is.fits))

pub returns-in_err-held-clause-puts : goal.returns-in_err-held-clause-puts
returns-in_err-held-clause-puts g c = λ later.
    let state = g.D.Desk.state in
    let codes = ac_codes c.args.codes in
    let all = texts codes (elements_left c.args.bands.now later) in
    let rest = texts codes (elements_left c.loop-held.bands later) in
    let after = c.put_values.new.out in
    let fault = c.in_err-held.field-0.0 in
    let back = err_from_is_err_and c.from_residual.result c.from_residual.ensures.1 in
    subst (λ r. PutsBut (state c.args.desk.now) c.args.out.now all (texts codes (band_elements 32767 c.put_values.new.bands.bands c.put_values.new.bands.waiting.items later)) r after (state c.put_values.new.desk)) (sym (back.1 ∙ ap Err back.2))
    (subst (λ bits. Puts (state c.args.desk.now) c.args.out.now all (Err fault) (holding after bits) (state c.put_values.new.desk)) (sym c.in_err-held.ensures.none)
    (part_last Puts of_bits (state c.args.desk.now) (state c.loop-held.desk) (state c.put_values.new.desk) c.args.out.now (holding c.loop-held.out c.loop-held.held) (holding after []) all rest rest (Err fault) refl (c.loop-held.invariant.part later) (c.in_err-held.ensures.puts later)))

pub returns-in_err-held-in-Some-clause-puts : goal.returns-in_err-held-in-Some-clause-puts
returns-in_err-held-in-Some-clause-puts g c = λ later.
    let state = g.D.Desk.state in
    let codes = ac_codes c.args.codes in
    let b = c.put_values.new.bands in
    let new = c.next.new.self in
    let all = texts codes (elements_left c.args.bands.now later) in
    let v = c.in_ok-held.ensures.puts later in
    let part = part_then Puts of_bits (state c.args.desk.now) (state c.loop-held.desk) (state c.put_values.new.desk) c.args.out.now (holding c.loop-held.out c.loop-held.held) (holding c.put_values.new.out c.in_ok-held.held) all (texts codes (elements_left c.loop-held.bands later)) v.0 (texts codes (elements_left b later))
    (sym v.1) (c.loop-held.invariant.part later) v.2 in
    let f = c.in-Some.ensures.some.first later in
    let is = subst (IsItem f.element c.in-Some.item) (sym c.as_slice-bits.ensures.value) f.is in
    let e = texts_first codes (elements_left b later) c.in-Some.item new.waiting.items (elements_left (cleared new) later) f in
    let after = c.put_item.new.out in
    let fault = c.in_err-held-in-Some.field-0.0 in
    let back = err_from_is_err_and c.from_residual-in_err-held-in-Some.result c.from_residual-in_err-held-in-Some.ensures.1 in
    subst (λ r. PutsBut (state c.args.desk.now) c.args.out.now all (texts codes (band_elements 32767 new.bands new.waiting.items later)) r c.put_item.new.out (state c.put_item.new.desk)) (sym (back.1 ∙ ap Err back.2))
    (subst (λ bits. Puts (state c.args.desk.now) c.args.out.now all (Err fault) (holding after bits) (state c.put_item.new.desk)) (sym c.in_err-held-in-Some.ensures.none)
    (part_fault Puts of_bits (state c.args.desk.now) (state c.put_values.new.desk) (state c.put_item.new.desk) c.args.out.now (holding c.put_values.new.out c.in_ok-held.held) (holding after []) all (texts codes (elements_left b later)) (spelled codes f.element) (texts codes (elements_left (cleared new) later))
    fault e part (c.in_err-held-in-Some.ensures.puts f.element is)))

pub loop-held-preserved : goal.loop-held-preserved
loop-held-preserved g c =
    let state = g.D.Desk.state in
    let codes = ac_codes c.args.codes in
    let b = c.put_values.new.bands in
    let new = c.next.new.self in
    let gives = c.in-Some.ensures.some in
    let none = gives.first [] in
    let done = c.in_ok-held-in-Some.ensures.puts none.element (subst (IsItem none.element c.in-Some.item) (sym c.as_slice-bits.ensures.value) none.is) in
    record {
      created = done.kept.output_created ∙ c.in_ok-held.ensures.created;
      ready = subst IsReady (sym c.clear.ensures) gives.ready;
      band = ap (λ x. x.band) c.clear.ensures ∙ gives.band ∙ c.in_ok-held.ensures.band ∙ c.loop-held.invariant.band;
      part = λ later.
          let all = texts codes (elements_left c.args.bands.now later) in
          let v = c.in_ok-held.ensures.puts later in
          let part = part_then Puts of_bits (state c.args.desk.now) (state c.loop-held.desk) (state c.put_values.new.desk) c.args.out.now (holding c.loop-held.out c.loop-held.held) (holding c.put_values.new.out c.in_ok-held.held) all (texts codes (elements_left c.loop-held.bands later)) v.0 (texts codes (elements_left b later))
          (sym v.1) (c.loop-held.invariant.part later) v.2 in
          let f = gives.first later in
          let is = subst (IsItem f.element c.in-Some.item) (sym c.as_slice-bits.ensures.value) f.is in
          let e = texts_first codes (elements_left b later) c.in-Some.item new.waiting.items (elements_left (cleared new) later) f in
          part_same Puts (state c.args.desk.now) (state c.put_item.new.desk) c.args.out.now (holding c.put_item.new.out c.in_ok-held-in-Some.held) all _ (texts codes (elements_left c.clear.new.self later)) (ap (λ x. texts codes (elements_left x later)) (sym c.clear.ensures))
          (part_then Puts of_bits (state c.args.desk.now) (state c.put_values.new.desk) (state c.put_item.new.desk) c.args.out.now (holding c.put_values.new.out c.in_ok-held.held) (holding c.put_item.new.out c.in_ok-held-in-Some.held) all (texts codes (elements_left b later)) (spelled codes f.element) (texts codes (elements_left (cleared new) later))
          e part (c.in_ok-held-in-Some.ensures.puts f.element is));
      none = c.in_ok-held-in-Some.ensures.none;
    }

pub loop-held-smaller : goal.loop-held-smaller
loop-held-smaller g c =
    let e = ap steps_left c.clear.ensures in
    let p = c.in_ok-held.ensures.passes c.in_ok-held.held (refl {a = Ok c.in_ok-held.held}) in
    omega (arith, e, p.fewer, c.in-Some.ensures.some.fewer)

pub returns-in-None-clause-puts : goal.returns-in-None-clause-puts
returns-in-None-clause-puts g c = λ later.
    let state = g.D.Desk.state in
    let codes = ac_codes c.args.codes in
    let all = texts codes (elements_left c.args.bands.now later) in
    let v = c.in_ok-held.ensures.puts later in
    let part = part_then Puts of_bits (state c.args.desk.now) (state c.loop-held.desk) (state c.put_values.new.desk) c.args.out.now (holding c.loop-held.out c.loop-held.held) (holding c.put_values.new.out c.in_ok-held.held) all (texts codes (elements_left c.loop-held.bands later)) v.0 (texts codes (elements_left c.put_values.new.bands later))
    (sym v.1) (c.loop-held.invariant.part later) v.2 in
    let done = subst (λ w. Puts (state c.args.desk.now) c.args.out.now part.front (Ok tt) w (state c.put_values.new.desk)) (sym c.give.ensures) part.done in
    (part.front, ap (λ es. part.front ++ texts codes es) (sym (c.in-None.ensures.none.left later)) ∙ part.joined, done)
