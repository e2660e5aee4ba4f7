use Rattle.std.proofs.Common.{arith}
use Rattle.jpg_markers.proofs.KeptBytes.{first_of}
use Rattle.jpg_markers.proofs.kept.first.Goals as goal

pub returns-clause-first : goal.returns-clause-first
returns-clause-first c = (first_of c.args.bytes.now c.from-end.result c.requires.segments c.requires.some (omega (arith, c.from-end.ensures, c.from_be_bytes.ensures))).value

pub returns-clause-kept : goal.returns-clause-kept
returns-clause-kept c = (first_of c.args.bytes.now c.from-end.result c.requires.segments c.requires.some (omega (arith, c.from-end.ensures, c.from_be_bytes.ensures))).kept

pub returns-clause-rest : goal.returns-clause-rest
returns-clause-rest c = (first_of c.args.bytes.now c.from-end.result c.requires.segments c.requires.some (omega (arith, c.from-end.ensures, c.from_be_bytes.ensures))).rest
