use Rattle.jpg_spec_image.specs.ImageText.{end_text}
use Rattle.jpg_spec_image.specs.TargaLaws.{image_of_rows}
use Rattle.jpg_spec_image.specs.declared.image.EndKind.TheVariants.{Targa}
use Rattle.jpg_spec_image.proofs.OneTarga.{one_image}
use Rattle.jpg_spec_image.proofs.TargaText.{text_means}
use Rattle.jpg_spec_image.proofs.targa_laws.targa_texts_have_their_image.Goals as goal

pub returns-clause-is : goal.returns-clause-is
returns-clause-is c = text_means

pub returns-clause-only : goal.returns-clause-only
returns-clause-only c = λ info rows image r m. one_image (end_text Targa info rows) image (image_of_rows info rows) m (text_means info rows r)
