use Rattle.std.proofs.Common.{◌<◌, [], refl}
use Rattle.std.proofs.lemmas.List.Elements.{All-nil}
use Rattle.jpg_pnm_bmp.proofs.read.piece.PieceReader.new.Goals as goal

pub returns-clause-fed : goal.returns-clause-fed
returns-clause-fed g c = (refl, refl, All-nil (λ b. b < 256), record { stands = c.requires; taken_is = refl })

pub returns-clause-going : goal.returns-clause-going
returns-clause-going g c = λ stop done. ∣ ([], c.requires) ∣₁
