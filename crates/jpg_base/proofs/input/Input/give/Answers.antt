use Rattle.std.proofs.Common.{arith}
use Rattle.std.proofs.lemmas.Grind.{common_steps}
use Rattle.std.proofs.lemmas.List.{take_rest, length-append, length-drop}
use Rattle.jpg_base.proofs.Pieces.{given_front}
use Rattle.jpg_base.proofs.input.Input.give.Goals as goal

pub returns-clause-gives : goal.returns-clause-gives
returns-clause-gives c = (
  omega arith,
  grind (arith, common_steps, length-append, length-drop),
  given_front c.args.self.now.bytes.items _ c.args.buf.now c.args.self.now.at c.min-most.result
      (grind (arith, common_steps, take_rest)) (grind (arith, common_steps)),
)
