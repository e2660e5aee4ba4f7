use Rattle.jpg_spec_encode.proofs.EncodedWritten.{encoded_headed}
use Rattle.jpg_spec_encode.proofs.encoding_laws.encoded_images_may_be_written.Goals as goal

pub returns : goal.returns
returns c = encoded_headed
