use Rattle.jpg_huff.specs.Tables.{symbol_codes}
use Rattle.jpg_huff.proofs.Tables.{entry_written}
use Rattle.jpg_huff.proofs.table.Table.written.Goals as goal

pub returns-clause-first : goal.returns-clause-first
returns-clause-first c = entry_written (symbol_codes c.args.self.now) _ c.args.symbol (c.args.self.now.encoded.first c.args.symbol (search Rattle.std.proofs.Common.rules))
