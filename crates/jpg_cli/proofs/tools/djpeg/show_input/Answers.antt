use Rattle.std.proofs.Common.{◌∙◌, [], refl, subst, sym}
use Rattle.jpg_base.specs.declared.names.Put.TheVariants as put
use Rattle.jpg_base.specs.Desk.{Opens}
use Rattle.jpg_spec_words.specs.declared.answers.Why.{Why}
use Rattle.jpg_desk.specs.Pump.{ended_as}
use Rattle.jpg_words.specs.declared.djpeg_request.ShowWords.{ShowWords}
use Rattle.jpg_cli.specs.Tools.Showing.{Shown, showing_view}
use Rattle.jpg_cli.specs.Tools.ShowingRows.{Shower}
use Rattle.jpg_cli.proofs.Pieces.InputShown.{all_shown, shower_begun}
use Rattle.jpg_cli.proofs.tools.djpeg.show_input.Goals as goal

pub pump-requires-clause-can : goal.pump-requires-clause-can
pump-requires-clause-can g c =
    let view : _ → Shower = λ s. record { words = s.words.now; reader = s.reader; image = s.image; end = (goal.ImageEnd-dyn g (s.end.now.vtable, s.end.now.value)).progress s.end.now.value } in
    let e = c.strips.ensures in
    (_, [], refl, shower_begun view _ (g.D.Desk.state c.args.desk.now) refl c.requires.opened e.by_row (e.limits ∙ c.standard.ensures) e.read c.requires.end)

pub returns-clause-kept : goal.returns-clause-kept
returns-clause-kept g c =
    let view : _ → Shower = λ s. record { words = s.words.now; reader = s.reader; image = s.image; end = (goal.ImageEnd-dyn g (s.end.now.vtable, s.end.now.value)).progress s.end.now.value } in
    let e = c.strips.ensures in
    (all_shown view _ (c.pump.new.sink, g.D.Desk.state c.pump.new.desk) c.pump.result (c.pump.ensures _ [] refl (shower_begun view _ (g.D.Desk.state c.args.desk.now) refl c.requires.opened e.by_row (e.limits ∙ c.standard.ensures) e.read c.requires.end))).works

pub returns-clause-shown : goal.returns-clause-shown
returns-clause-shown g c = λ old h.
    let view : _ → Shower = λ s. record { words = s.words.now; reader = s.reader; image = s.image; end = (goal.ImageEnd-dyn g (s.end.now.vtable, s.end.now.value)).progress s.end.now.value } in
    let start = g.D.Desk.state c.args.desk.now in
    let now = g.D.Desk.state c.pump.new.desk in
    let e = c.strips.ensures in
    let k = all_shown view _ (c.pump.new.sink, now) c.pump.result (c.pump.ensures _ [] refl (shower_begun view _ start refl c.requires.opened e.by_row (e.limits ∙ c.standard.ensures) e.read c.requires.end)) in
    subst (λ (w : Why). Shown (showing_view c.args.words.now) old w now) (sym c.ended_as.ensures)
    (subst (λ (x : ShowWords). Opens old x.files.input put.Done start → Shown (showing_view x) old (ended_as c.pump.result) now) k.same (k.shown old) h)
