-- How many bytes of an input may be fed.
use Rattle.std.proofs.Common.{◌≡◌, ap}
use Rattle.jpg_spec.specs.Segments.{standard_limits}
use Rattle.jpg_spec.specs.declared.frame.Limits.{Limits}

pub input_most : {l : Limits} → l ≡ standard_limits → l.input ≡ standard_limits.input
input_most is = ap (λ (l : Limits). l.input) is
