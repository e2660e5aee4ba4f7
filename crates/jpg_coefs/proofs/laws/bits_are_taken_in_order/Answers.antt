use Rattle.jpg_coefs.proofs.Chains.{chain_stands}
use Rattle.jpg_coefs.proofs.laws.bits_are_taken_in_order.Goals as goal

pub returns : goal.returns
returns g c = λ m new now after bits h i so_far s. chain_stands g.M.ScanMachine.kind m new now after i so_far bits h s
