use Rattle.std.proofs.Common.{◌≡◌, ◌≤◌, All, map}
use Rattle.arrayvec.specs.ArrayVec.{array_vec_len}
use Rattle.jpg_spec_words.specs.EncodeWords.{factors_at}
use Rattle.jpg_spec_encode.specs.EncodingLaws.{AreFactors}
use Rattle.jpg_spec.specs.Lists.{below}
use Rattle.jpg_cli.proofs.tools.cjpeg_encoding.factors_due.Given as goal

abbrev pub invariant-loop-i : goal.invariant-loop-i
invariant-loop-i l = record {
  told : l.factors.items ≡ map (factors_at l.given l.count) (below l.i);
  range : All AreFactors l.factors.items;
  long : array_vec_len l.factors ≡ l.i;
  few : l.count ≤ 3;
  given : All AreFactors l.given;
}
