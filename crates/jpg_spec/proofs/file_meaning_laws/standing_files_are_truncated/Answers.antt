use Rattle.jpg_spec.proofs.Files.FileLaws.{stands_early, stands_truncated}
use Rattle.jpg_spec.proofs.file_meaning_laws.standing_files_are_truncated.Goals as goal

pub returns-clause-truncated : goal.returns-clause-truncated
returns-clause-truncated c = λ limits bytes s none. stands_truncated limits bytes s.stands s.short none

pub returns-clause-early : goal.returns-clause-early
returns-clause-early c = λ limits bytes s begun. stands_early limits bytes s.stands s.short begun
