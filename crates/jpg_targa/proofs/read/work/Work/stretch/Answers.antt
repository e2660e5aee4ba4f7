use Rattle.std.proofs.Common.{◌≡◌, ◌-◌, length, take, sym, ap, ◌∙◌, arith}
use Rattle.std.proofs.lemmas.List.{length-take-le}
use Rattle.jpg_spec_image.specs.TargaSteps.{total}
use Rattle.jpg_targa.specs.Reader.{after_pixels}
use Rattle.jpg_targa.specs.declared.read.work.Work.{Work}
use Rattle.jpg_targa.proofs.Led.{part_fits, part_right, stretch_led}
use Rattle.jpg_targa.proofs.read.work.Work.stretch.Goals as goal

pub returns-in-Ok-clause-led : goal.returns-in-Ok-clause-led
returns-in-Ok-clause-led c = λ can front before.
    let old = c.args.self.now in
    let piece = c.args.piece.now in
    let p = c.part_long-long.ensures in
    let part = take c.part_long-long.result piece in
    let w : Work = record old { pixels = c.push_all.new.self } in
    let l = length-take-le c.part_long-long.result piece p.within in
    let missing : c.saturating_sub.result ≡ total old.head - old.before - length old.pixels = omega (arith, c.saturating_sub.ensures, c.due.ensures, ap length c.as_slice.ensures) in
    let left = c.saturating_sub-left.ensures in
    stretch_led front old w c.grown.new.self c.args.left part c.after_pixels.result c.grown.result
    (record {
      long = before;
      fits = part_fits c.args.left old piece c.part_long-long.result c.saturating_sub.result can p.within p.some p.left p.missing missing;
      appended = ap (λ x. (let z : Work = record old { pixels = x } in z)) c.in-Ok.ensures.whole;
      goes_on = c.after_pixels.ensures.stands front w ∙ ap (λ k. after_pixels front k w) (left ∙ ap (λ k. c.args.left - k) (sym l));
      grown_to = c.grown.ensures.led front before;
    })

pub returns-in-Ok-clause-stays : goal.returns-in-Ok-clause-stays
returns-in-Ok-clause-stays c = let s = c.grown.ensures.stays c.after_pixels.ensures.body in record { before = s.before; head = s.head; body = s.body }

pub returns-in-Err-clause-led : goal.returns-in-Err-clause-led
returns-in-Err-clause-led c = λ can front before.
    let old = c.args.self.now in
    let piece = c.args.piece.now in
    let p = c.part_long-long.ensures in
    let missing : c.saturating_sub.result ≡ total old.head - old.before - length old.pixels = omega (arith, c.saturating_sub.ensures, c.due.ensures, ap length c.as_slice.ensures) in
    part_right front c.args.left old (take c.part_long-long.result piece) before
    (part_fits c.args.left old piece c.part_long-long.result c.saturating_sub.result can p.within p.some p.left p.missing missing)
