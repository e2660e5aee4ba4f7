use Rattle.std.proofs.Common.{refl}
use Rattle.jpg_spec_image.specs.Dct.{odd_sums}
use Rattle.jpg_spec_image.specs.ForwardDct.{even_frequencies, woven, frequency_row, frequency_column, forward_dct}
use Rattle.jpg_spec_image.specs.Luminance.{to_ycc}
use Rattle.jpg_spec.specs.Bits.{bits_of, whole_bytes}
use Rattle.jpg_spec.specs.Codes.{codes}
use Rattle.jpg_spec.specs.Numbers.{digits}
use Rattle.jpg_spec.specs.Lists.{chunks_of}
use Rattle.jpg_spec.specs.Geometry.{units}
use Rattle.jpg_spec_write.specs.FileText.{file_text, scans_text}
use Rattle.jpg_spec_write.specs.ScanText.{scan_data, element_bits}
use Rattle.jpg_spec_encode.proofs.encoding_examples.colours_are_encoded.Goals as goal

pub returns-clause-luminance : goal.returns-clause-luminance
unfolding odd_sums even_frequencies woven frequency_row frequency_column forward_dct to_ycc
returns-clause-luminance c = refl

pub returns-clause-blue : goal.returns-clause-blue
unfolding odd_sums even_frequencies woven frequency_row frequency_column forward_dct to_ycc
returns-clause-blue c = refl

pub returns-clause-red : goal.returns-clause-red
unfolding odd_sums even_frequencies woven frequency_row frequency_column forward_dct to_ycc
returns-clause-red c = refl

pub returns-clause-others : goal.returns-clause-others
returns-clause-others c = refl

pub returns-clause-long : goal.returns-clause-long
unfolding odd_sums even_frequencies woven frequency_row frequency_column forward_dct to_ycc bits_of whole_bytes codes digits chunks_of units file_text scans_text scan_data element_bits
returns-clause-long c = refl

pub returns-clause-coded : goal.returns-clause-coded
unfolding odd_sums even_frequencies woven frequency_row frequency_column forward_dct to_ycc bits_of whole_bytes codes digits chunks_of units file_text scans_text scan_data element_bits
returns-clause-coded c = refl
