use Rattle.jpg_spec.proofs.Headers.HeaderFirst.{standing_truncated}
use Rattle.jpg_spec.proofs.header_laws.unfinished_headers_are_truncated.Goals as goal

pub returns : goal.returns
returns c = λ limits bytes short s. standing_truncated limits bytes short s
