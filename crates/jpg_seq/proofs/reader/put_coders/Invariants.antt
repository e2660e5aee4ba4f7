use Rattle.jpg_seq.specs.Reader.{AreFilled}
use Rattle.jpg_seq.proofs.reader.put_coders.Given as goal

abbrev pub invariant-loop-part : goal.invariant-loop-part
invariant-loop-part l = AreFilled l.tables l.parts l.part-index l.coders
