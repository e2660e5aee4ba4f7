use Rattle.jpg_spec.proofs.Headers.HeaderFirst.{standing_too_long}
use Rattle.jpg_spec.proofs.header_laws.headers_beyond_the_limit_are_too_long.Goals as goal

pub returns : goal.returns
returns c = λ limits bytes long s. standing_too_long limits bytes long s
