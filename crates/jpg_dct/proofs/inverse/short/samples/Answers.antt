use Rattle.std.proofs.Common.{List, ℤ, ap, ◌∙◌, arith}
use Rattle.jpg_spec_image.specs.Dct.{number_at}
use Rattle.jpg_dct.specs.Sums.{told_at, limited_of}
use Rattle.jpg_dct.proofs.LaneSamples.{words_seen, same_words}
use Rattle.jpg_dct.proofs.inverse.short.samples.Goals as goal

pub lows-low_a-requires : goal.lows-low_a-requires
lows-low_a-requires c = words_seen c.requires.0

pub lows-low_b-requires : goal.lows-low_b-requires
lows-low_b-requires c = words_seen c.requires.1

pub joined-requires : goal.joined-requires
joined-requires c = λ k lt. (omega (arith, c.limited-first.ensures k lt), omega (arith, c.limited-second.ensures k lt))

pub returns-clause-first : goal.returns-clause-first
returns-clause-first c = λ k lt. (
    c.joined.ensures.first k lt ∙ c.limited-first.ensures k lt ∙ ap limited_of (c.lows-low_a.ensures k lt)
    ∙ ap (λ (xs : List ℤ). told_at (number_at xs k)) (same_words c.args.a c.requires.0))

pub returns-clause-second : goal.returns-clause-second
returns-clause-second c = λ k lt. (
    c.joined.ensures.second k lt ∙ c.limited-second.ensures k lt ∙ ap limited_of (c.lows-low_b.ensures k lt)
    ∙ ap (λ (xs : List ℤ). told_at (number_at xs k)) (same_words c.args.b c.requires.1))
