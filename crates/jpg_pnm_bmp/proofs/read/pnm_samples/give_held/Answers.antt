use Rattle.std.proofs.Common.{◌≡◌, ◌++◌, ℕ, List, map, refl, subst, arith}
use Rattle.jpg_spec_image.specs.PnmText.{scaled_sample}
use Rattle.jpg_pnm_bmp.specs.Made.{AreBytes}
use Rattle.jpg_pnm_bmp.proofs.read.pnm_samples.give_held.Goals as goal

pub returns-clause-given : goal.returns-clause-given
returns-clause-given c =
    let old = c.args.work.now in
    let made = c.args.made.now in
    let new = c.add_samples.new.made in
    let by_slice = subst (λ (l : List ℕ). AreBytes (map (scaled_sample c.most_of.result) l) → new ≡ made ++ map (scaled_sample c.most_of.result) l) c.as_slice-samples.ensures c.in-Ok.ensures.given in
    record {
      given = subst (λ (m : ℕ). AreBytes (map (scaled_sample m) old.samples) → new ≡ made ++ map (scaled_sample m) old.samples) c.most_of.ensures.most by_slice;
      before_is = λ few. (let h = c.held.ensures in omega (arith, few, h, c.saturating_add-work.ensures));
      rest = c.clear.ensures;
      numbers = refl;
      format = refl;
      stage = refl;
    }
