-- Quantisers scaled: from 1 on, and of two bytes.
use Rattle.std.proofs.Common.{◌≡◌, ℕ, ◌<◌, Bool, true, false, List, length, take, map, All, sym, ◌∙◌, subst, arith}
use Rattle.std.specs.Prelude.{max, min}
use Rattle.std.proofs.lemmas.List.{take_all}
use Rattle.std.proofs.lemmas.List.Elements.{All-from_get_or, All-map}
use Rattle.jpg_spec_image.specs.Quality.{most_quantiser, scaled_quantiser}
use Rattle.jpg_spec.specs.Segments.{IsQuantiser, AreQuantisers}

within : (n most : ℕ) → most < 65536 → IsQuantiser (max 1 (min n most))
within n most h = (omega arith, omega (arith, h))

most_low : (baseline : Bool) → most_quantiser baseline < 65536
most_low true = omega arith
most_low false = omega arith

all_scaled : (scale : ℕ) (baseline : Bool) (quants : List ℕ) → All IsQuantiser (map (scaled_quantiser scale baseline) quants)
all_scaled scale baseline quants =
    All-map IsQuantiser (scaled_quantiser scale baseline) quants
    (All-from_get_or (λ q. IsQuantiser (scaled_quantiser scale baseline q)) quants 0 (λ k h. within _ (most_quantiser baseline) (most_low baseline)))

pub scaled_all : (scale : ℕ) (baseline : Bool) (quants values : List ℕ) (k : ℕ) → length values ≡ 64 → k ≡ 64
    → take k values ≡ map (scaled_quantiser scale baseline) (take k quants) → AreQuantisers values
scaled_all scale baseline quants values k long is e =
    (long, subst (All IsQuantiser) (sym e ∙ take_all k values (omega (arith, long, is))) (all_scaled scale baseline (take k quants)))
