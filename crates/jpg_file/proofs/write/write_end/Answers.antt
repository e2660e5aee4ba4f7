use Rattle.jpg_huff.proofs.Together.{sends_then}
use Rattle.jpg_file.proofs.write.write_end.Goals as goal

pub returns-clause-sends : goal.returns-clause-sends
returns-clause-sends g c =
    sends_then _ _ _ _ _ _ _ _ _ c.in_ok-raw.ensures c.flush.ensures.sends
