use Rattle.std.proofs.Common.{rules, ◌≡◌}
use Rattle.jpg_file.specs.Read.ReadFile.{is_done}
use Rattle.jpg_file.proofs.Files.ReaderFed.{kept, reads_into}
use Rattle.jpg_file.proofs.read.reader.Reader.read.Goals as goal
use Rattle.jpg_file.proofs.read.reader.Reader.read.Goals.{in-Ok-Done, in_default-matches, in_default-matches-2}

pub invariant_of-self : goal.invariant_of-self
invariant_of-self c =
    let t = c.read_piece-answer in
    let done : c.match-matches.self ≡ is_done t.result = elim c.match-matches.branch [ in-Ok-Done w ↦ search rules | in_default-matches w ↦ search rules | in_default-matches-2 w ↦ search rules ] in
    kept c.self.view_is c.self.invariant c.requires.undone c.in_default.is t.ensures done c.err-self-inside.ensures.value

pub returns-clause-read : goal.returns-clause-read
returns-clause-read c = λ skip.
    let t = c.read_piece-answer in
    let done : c.match-matches.self ≡ is_done t.result = elim c.match-matches.branch [ in-Ok-Done w ↦ search rules | in_default-matches w ↦ search rules | in_default-matches-2 w ↦ search rules ] in
    reads_into c.self.view_is c.self.invariant c.requires.undone c.in_default.is t.ensures done c.err-self-inside.ensures.value
