use Rattle.std.proofs.Common.{List, Bool, subst, arith, inl}
use Rattle.jpg_huff.specs.Look.{Spots}
use Rattle.std.proofs.lemmas.List.{nil_from_length}
use Rattle.jpg_huff.proofs.look.Decoder.front.Goals as goal

pub returns-then-have-eq0 : goal.returns-then-have-eq0
returns-then-have-eq0 c = (inl (nil_from_length c.args.bits.now (omega (arith, c.requires.few.0, c.if-have-eq0.true))), omega (arith, c.requires.few.0, c.requires.few.1))

pub returns-else-begins : goal.returns-else-begins
returns-else-begins c = subst (λ (b : List Bool). Spots c.args.self.now b c.walked.result) c.copy.ensures c.walked.ensures
