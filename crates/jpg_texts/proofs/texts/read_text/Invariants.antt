use Rattle.std.specs.Prelude.{◌≡◌, ◌≤◌, take, Some}
use Rattle.jpg_spec.specs.TextReaders.{read_by}
use Rattle.jpg_texts.proofs.TextSteps.{behind_as}
use Rattle.jpg_texts.proofs.texts.read_text.Given as goal

abbrev pub invariant-loop-byte : goal.invariant-loop-byte
invariant-loop-byte g l = (l.before ≡ l.byte-index) × (l.before ≤ 65536) × (read_by (g.S.TextBytes.kind.reader) (take l.byte-index l.text) ≡ Some (behind_as l.behind l.state))
