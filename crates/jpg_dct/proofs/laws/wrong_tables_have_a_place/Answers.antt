use Rattle.std.proofs.Common.{[], ◌++◌, refl, arith, inl, inr}
use Rattle.std.specs.Prelude.{codes}
use Rattle.jpg_dct.specs.TriedTexts.{ones_text}
use Rattle.jpg_spec.specs.TextReaders.{plain, run}
use Rattle.jpg_spec.proofs.Texts.TextsRead.{wrong_byte, ends_early}
use Rattle.jpg_dct.specs.TableState.{no_numbers}
use Rattle.jpg_dct.proofs.TableRest.{reads_tables}
use Rattle.jpg_dct.proofs.laws.wrong_tables_have_a_place.Goals as goal

pub returns-clause-digit : goal.returns-clause-digit
unfolding run
returns-clause-digit c = (refl, inl (wrong_byte reads_tables (codes "7 000001") 7 49 _ (omega arith) (omega arith) refl refl refl))

pub returns-clause-large : goal.returns-clause-large
unfolding run
returns-clause-large c = (refl, inl (wrong_byte reads_tables (codes "65535 65536") 10 54 _ (omega arith) (omega arith) refl refl refl))

pub returns-clause-comma : goal.returns-clause-comma
unfolding run
returns-clause-comma c = (refl, inl (wrong_byte reads_tables (codes "1, 2") 1 44 _ (omega arith) (omega arith) refl refl refl))

pub returns-clause-none : goal.returns-clause-none
unfolding run
returns-clause-none c = (refl, inr (inl (ends_early reads_tables [] (plain no_numbers) (omega arith) refl refl)))

pub returns-clause-few : goal.returns-clause-few
unfolding run
returns-clause-few c = (refl, inr (inl (ends_early reads_tables (ones_text 63) _ (omega arith) refl refl)))

pub returns-clause-between : goal.returns-clause-between
unfolding run
returns-clause-between c = (refl, inr (inl (ends_early reads_tables (ones_text 65) _ (omega arith) refl refl)))

pub returns-clause-many : goal.returns-clause-many
unfolding run
returns-clause-many c = (refl, inl (wrong_byte reads_tables (ones_text 256 ++ codes "1") 512 49 _ (omega arith) (omega arith) refl refl refl))
