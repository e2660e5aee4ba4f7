use Rattle.std.proofs.Common.{◌∙◌, sym, ap, ◌≡◌, ◌++◌, ◌∷◌, [], map, subst, List, ℕ}
use Rattle.jpg_spec_image.specs.PnmText.{scaled_sample}
use Rattle.jpg_pnm_bmp.specs.Made.{AreBytes}
use Rattle.jpg_pnm_bmp.proofs.MadeSamples.{all_full, made_pnm}
use Rattle.jpg_pnm_bmp.proofs.read.make.make_pnm.Goals as goal

pub returns-in-Ok : goal.returns-in-Ok
returns-in-Ok c =
    let work = c.args.work.now in
    let scaled : List ℕ → List ℕ = map (scaled_sample c.in-All.most) in
    let made : AreBytes (scaled work.samples) → c.add_scaled.new.made ≡ c.args.made.now ++ scaled work.samples =
    subst (λ (l : List ℕ). AreBytes (scaled l) → c.add_scaled.new.made ≡ c.args.made.now ++ scaled l) c.as_slice.ensures c.in-Ok.ensures.scaled
    in
    made_pnm work.format work.numbers work.samples c.in-All.width c.in-All.height c.in-All.most c.pnm_info-info.result c.add_scaled.new.made c.in-All.is
    (c.pnm_info-info.ensures (c.in-All.most ∷ [])) (λ bytes. made bytes ∙ ap (λ l. l ++ scaled work.samples) c.requires.empty)

pub returns-then-most : goal.returns-then-most
returns-then-most c =
    let work = c.args.work.now in
    made_pnm work.format work.numbers work.samples c.in-All.width c.in-All.height c.in-All.most c.pnm_info-info.result c.swap.new.y c.in-All.is
    (c.pnm_info-info.ensures (c.in-All.most ∷ []))
    (λ bytes. c.swap.ensures.y_after ∙ sym (ap (λ m. map (scaled_sample m) work.samples) c.if-most.true ∙ all_full work.samples))
