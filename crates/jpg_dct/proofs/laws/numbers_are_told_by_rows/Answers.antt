use Rattle.std.proofs.Common.{[], ◌∷◌, refl, arith}
use Rattle.jpg_spec.specs.Zigzag.{zigzag}
use Rattle.jpg_dct.specs.TriedTexts.{counting_text}
use Rattle.jpg_spec.specs.TextReaders.{run}
use Rattle.jpg_spec.proofs.Texts.TextsRead.{told_spells}
use Rattle.jpg_dct.proofs.TableRest.{reads_tables}
use Rattle.jpg_dct.proofs.laws.numbers_are_told_by_rows.Goals as goal

pub returns : goal.returns
unfolding run
returns c = (omega arith, told_spells reads_tables counting_text _ (zigzag ∷ []) refl refl)
