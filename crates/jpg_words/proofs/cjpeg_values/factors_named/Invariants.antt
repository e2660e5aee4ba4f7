use Rattle.std.proofs.Common.{◌≡◌, ◌≤◌, All, option_map, ◌-◌, ◌++◌, length}
use Rattle.jpg_spec_encode.specs.EncodingLaws.{AreFactors}
use Rattle.jpg_spec_words.specs.EncodeWords.{factors_from, factors_named}
use Rattle.jpg_words.proofs.cjpeg_values.factors_named.Given as goal

abbrev pub invariant-loop-rest : goal.invariant-loop-rest
invariant-loop-rest l = record {
  told : factors_named l.fn.value ≡ option_map (λ more. l.factors.items ++ more) (factors_from (4 - length l.factors.items) l.rest);
  range : All AreFactors l.factors.items;
  room : length l.factors.items ≤ 4;
}

abbrev pub decreases-loop-rest : goal.decreases-loop-rest
decreases-loop-rest l = length l.rest
