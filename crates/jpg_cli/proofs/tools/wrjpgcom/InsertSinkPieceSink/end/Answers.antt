use Rattle.jpg_cli.proofs.Comments.InsertedPieces.{insertion_ends}
use Rattle.jpg_cli.proofs.tools.wrjpgcom.InsertSinkPieceSink.end.Goals as goal

pub at_end-requires : goal.at_end-requires
at_end-requires g c = c.requires.2.fed.fed.limits

pub returns : goal.returns
returns g c = λ from bytes b. insertion_ends (record { insert = c.at_end.new.insert; output = c.args.self.now.output; out = c.args.self.now.out; created = c.args.self.now.created }) c.at_end.result b c.at_end.ensures
