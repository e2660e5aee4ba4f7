use Rattle.std.proofs.Common.{rules, Ok, Err, ◌≡◌, refl}
use Rattle.jpg_file.specs.declared.read.pieces.FedScan.TheVariants as came
use Rattle.jpg_base.specs.declared.stop.Stop.TheVariants as stop
use Rattle.jpg_file.proofs.Files.ReaderFed.{asks, feeds_scan}
use Rattle.jpg_file.proofs.read.reader.Reader.feed_scan.Goals as goal

pub returns-in-Ok-More-clause-answered : goal.returns-in-Ok-More-clause-answered
returns-in-Ok-More-clause-answered c = feeds_scan c.requires.plain c.read.result (Ok came.More) (search rules) c.read.ensures.read

pub returns-in-Ok-Row-clause-answered : goal.returns-in-Ok-Row-clause-answered
returns-in-Ok-Row-clause-answered c = feeds_scan c.requires.plain c.read.result (Ok (came.Scan c.in-Ok-Row.used)) (search rules) c.read.ensures.read

pub returns-in-Ok-Done-clause-answered : goal.returns-in-Ok-Done-clause-answered
returns-in-Ok-Done-clause-answered c = feeds_scan c.requires.plain c.read.result (Ok (came.Done c.in-Ok-Done.used)) (search rules) c.read.ensures.read

pub returns-in-Err-clause-answered : goal.returns-in-Err-clause-answered
returns-in-Err-clause-answered c = feeds_scan c.requires.plain (Err c.in-Err.stop) (Err c.in-Err.stop) refl c.in-Err.ensures.read

pub returns-in-Err-clause-memory : goal.returns-in-Err-clause-memory
returns-in-Err-clause-memory c = λ bytes h is. (let e : c.in-Err.stop ≡ stop.NoMemory = cc in asks c.requires.plain c.in-Err.stop e c.in-Err.ensures.read bytes h)
