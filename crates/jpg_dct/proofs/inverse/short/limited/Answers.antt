use Rattle.std.proofs.Common.{ℕ, ◌-◌, slice_index, ap, ◌∙◌}
use Rattle.jpg_dct.proofs.LaneSamples.{all_same}
use Rattle.jpg_dct.proofs.inverse.short.limited.Goals as goal

pub returns : goal.returns
returns c = λ k lt. (
    let m : ℕ = slice_index c.args.m k in
    let over : ℕ = slice_index c.excess-over.result k in
    let rest : ℕ = slice_index c.excess-rest.result k in
    c.excess.ensures k lt ∙ ap (λ n. n - rest) (all_same 255 k lt)
    ∙ ap (λ n. 255 - n) (c.excess-rest.ensures k lt ∙ ap (λ n. n - over) (all_same 255 k lt))
    ∙ ap (λ n. 255 - (255 - n)) (c.excess-over.ensures k lt ∙ ap (λ n. m - n) (all_same 384 k lt)))
