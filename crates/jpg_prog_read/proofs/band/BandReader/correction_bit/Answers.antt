use Rattle.std.proofs.Common.{rules, ◌≡◌, ◌∙◌, ap, sym, subst, ◌∷◌, [], ◌++◌, drop, ℤ, false}
use mir.Syntax.{w16}
use mir.Val.{SFits, to_z, of_z}
use Rattle.std.proofs.lemmas.Int.{to_z-of_z}
use Rattle.jpg_spec.specs.Elements.{is_zero, grown}
use Rattle.jpg_prog_read.specs.ReaderSteps.{IsWithinBand}
use Rattle.jpg_prog_read.proofs.Reading.{old_read, moving_put, grown_within, head_old}
use Rattle.jpg_prog_read.proofs.band.BandReader.correction_bit.Goals as goal

pub advance-requires-clause-moving : goal.advance-requires-clause-moving
advance-requires-clause-moving c = moving_put c.args.scan.now c.args.self.now c.put.new.self (to_z w16 (of_z w16 c.corrected.result)) c.requires.passing c.requires.open.fits c.put.ensures

pub returns-clause-answered : goal.returns-clause-answered
returns-clause-answered c = λ ac left at bits k l f.
    let s = c.args.self.now in
    let x : SFits w16 c.first-old.result = search rules in
    let o = c.first-old.result in
    let oe : to_z w16 (of_z w16 o) ≡ o = to_z-of_z w16 o x in
    let r : s.rest ≡ o ∷ drop 1 s.rest = c.first-old.ensures in
    let z : is_zero o ≡ false = head_old s.rest o r c.requires.old in
    let g : c.corrected.result ≡ grown at.coding.al c.args.bit o = c.corrected.ensures at.coding.al k.scale ∙ ap (λ (v : ℤ). grown at.coding.al c.args.bit v) oe in
    let v : to_z w16 (of_z w16 c.corrected.result) ≡ grown at.coding.al c.args.bit o = to_z-of_z w16 c.corrected.result (search rules) ∙ g in
    c.advance.ensures.answered ac at (bits ++ c.args.bit ∷ []) k
    (old_read c.put.new.self o (to_z w16 (of_z w16 c.corrected.result)) c.args.bit c.requires.passing r z f
    (subst (λ (v : ℤ). IsWithinBand at.coding v) (sym v) (grown_within at.coding c.args.scan.now ac at.component s.rest o c.args.bit k r z c.requires.open.fits)) v c.put.ensures)
