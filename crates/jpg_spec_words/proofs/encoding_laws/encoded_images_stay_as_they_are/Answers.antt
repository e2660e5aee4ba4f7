use Rattle.jpg_spec_words.proofs.EncodedKept.{stays, stays_text, stays_fault}
use Rattle.jpg_spec_words.proofs.encoding_laws.encoded_images_stay_as_they_are.Goals as goal

pub returns-clause-same : goal.returns-clause-same
returns-clause-same c = stays

pub returns-clause-text : goal.returns-clause-text
returns-clause-text c = stays_text

pub returns-clause-fault : goal.returns-clause-fault
returns-clause-fault c = stays_fault
