use Rattle.jpg_spec_encode.proofs.EncodedWritten.{encoded_own, encoded_means}
use Rattle.jpg_spec_encode.proofs.encoding_laws.encoded_images_mean_their_picture.Goals as goal

pub returns-clause-own : goal.returns-clause-own
returns-clause-own c = encoded_own

pub returns-clause-means : goal.returns-clause-means
returns-clause-means c = encoded_means
