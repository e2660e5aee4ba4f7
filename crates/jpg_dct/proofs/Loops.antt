-- The samples of a block, once all its columns and rows are done.
use Rattle.std.proofs.Common.{◌≡◌, ℕ, ◌*◌, List, length, take, map, flat_map, ℤ, sym, ap, ◌∙◌, arith}
use Rattle.std.proofs.lemmas.List.{take_all}
use Rattle.jpg_spec.specs.Lists.{below}
use Rattle.jpg_spec_image.specs.Dct.{column, columns, sample_row, inverse_dct}

pub whole_block : (values : List ℤ) (done : List (List ℤ)) (samples : List ℕ) (u v : ℕ) → u ≡ 8 → v ≡ 8 → length done ≡ 8 → take u done ≡ map (column values) (below u)
    → length samples ≡ 64 → take (8 * v) samples ≡ flat_map (sample_row done) (below v) → samples ≡ inverse_dct values
unfolding inverse_dct
whole_block values done samples u v eu ev ld du ls dv =
    let d : done ≡ columns values = sym (take_all u done (omega (arith, eu, ld))) ∙ du ∙ ap (λ n. map (column values) (below n)) eu in
    sym (take_all (8 * v) samples (omega (arith, ev, ls))) ∙ dv ∙ ap (λ n. flat_map (sample_row done) (below n)) ev ∙ ap (λ ds. flat_map (sample_row ds) (below 8)) d
