use Rattle.std.proofs.Common.{[], refl, arith, inl, inr}
use Rattle.jpg_scans.specs.WrongTexts.{wrong_text, comma_text, large_text}
use Rattle.jpg_spec.specs.TextReaders.{plain, run}
use Rattle.jpg_spec.proofs.Texts.TextsRead.{wrong_byte, ends_early}
use Rattle.jpg_scans.specs.TextState.{new_text}
use Rattle.jpg_scans.proofs.ScriptRest.{reads_scripts}
use Rattle.jpg_scans.proofs.laws.wrong_texts_have_a_place.Goals as goal

pub returns-clause-byte : goal.returns-clause-byte
unfolding run
returns-clause-byte c = (refl, inl (wrong_byte reads_scripts wrong_text 4 120 _ (omega arith) (omega arith) refl refl refl))

pub returns-clause-comma : goal.returns-clause-comma
unfolding run
returns-clause-comma c = (refl, inl (wrong_byte reads_scripts comma_text 4 59 _ (omega arith) (omega arith) refl refl refl))

pub returns-clause-large : goal.returns-clause-large
unfolding run
returns-clause-large c = (refl, inl (wrong_byte reads_scripts large_text 4 54 _ (omega arith) (omega arith) refl refl refl))

pub returns-clause-none : goal.returns-clause-none
unfolding run
returns-clause-none c = (refl, inr (inl (ends_early reads_scripts [] (plain new_text) (omega arith) refl refl)))
