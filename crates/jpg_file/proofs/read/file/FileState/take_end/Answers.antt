use Rattle.std.proofs.Common.{◌∙◌}
use Rattle.jpg_file.specs.Read.Going.{file_with}
use Rattle.jpg_file.proofs.Files.FileSteps.{file_lacks, end_complete}
use Rattle.jpg_file.proofs.read.file.FileState.take_end.Goals as goal

pub returns-then-is_complete-clause-end : goal.returns-then-is_complete-clause-end
returns-then-is_complete-clause-end c = λ q limits bytes k. record {
  ends = k;
  complete = end_complete limits bytes (file_with c.args.self.now q) c.is_complete.result k c.is_complete.ensures ∙ c.if-is_complete.true;
}

pub returns-clause-end : goal.returns-clause-end
returns-clause-end c = λ q limits bytes k. (
  (k.beside).count,
  file_lacks limits bytes k.items k.blocks c.args.self.now.items k.at (end_complete limits bytes (file_with c.args.self.now q) c.is_complete.result k c.is_complete.ensures ∙ c.if-is_complete.false),
)
