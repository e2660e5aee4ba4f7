use Rattle.std.proofs.Common.{arith}
use Rattle.jpg_base.proofs.Pieces.{appends_at, fails_at}
use Rattle.jpg_base.proofs.memory.parts.write_last.Goals as goal

pub returns-clause-after : goal.returns-clause-after
returns-clause-after c =
    appends_at c.args.outputs.now.items _ c.index_mut-stored.result.now c.args.piece.now c.append.result c.append.new.bytes
    (omega (arith, c.args.outputs.now.ok.0)) c.requires c.index_mut-stored.ensures.value c.append.ensures.after

pub returns-clause-fails : goal.returns-clause-fails
returns-clause-fails c =
    fails_at c.args.outputs.now.items _ c.index_mut-stored.result.now c.args.piece.now c.args.failure c.append.result c.append.new.bytes
    (omega (arith, c.args.outputs.now.ok.0)) c.requires c.index_mut-stored.ensures.value c.append.ensures.fails
