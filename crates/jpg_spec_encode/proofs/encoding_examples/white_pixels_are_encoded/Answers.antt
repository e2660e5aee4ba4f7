use Rattle.std.proofs.Common.{refl}
use Rattle.jpg_spec_image.specs.Dct.{odd_sums}
use Rattle.jpg_spec_image.specs.ForwardDct.{even_frequencies, woven, frequency_row, frequency_column, forward_dct}
use Rattle.jpg_spec_write.specs.ScriptFaults.{script_fault}
use Rattle.jpg_spec.specs.Bits.{bits_of, whole_bytes}
use Rattle.jpg_spec.specs.Codes.{codes}
use Rattle.jpg_spec.specs.Numbers.{digits}
use Rattle.jpg_spec.specs.Lists.{chunks_of}
use Rattle.jpg_spec.specs.Geometry.{units}
use Rattle.jpg_spec_write.specs.FileText.{file_text, scans_text}
use Rattle.jpg_spec_write.specs.ScanText.{scan_data, element_bits}
use Rattle.jpg_spec_encode.proofs.encoding_examples.white_pixels_are_encoded.Goals as goal

pub returns-clause-block : goal.returns-clause-block
unfolding odd_sums even_frequencies woven frequency_row frequency_column forward_dct
returns-clause-block c = refl

pub returns-clause-none : goal.returns-clause-none
unfolding script_fault
returns-clause-none c = refl

pub returns-clause-long : goal.returns-clause-long
unfolding odd_sums even_frequencies woven frequency_row frequency_column forward_dct bits_of whole_bytes codes digits chunks_of units file_text scans_text scan_data element_bits
returns-clause-long c = refl

pub returns-clause-first : goal.returns-clause-first
unfolding odd_sums even_frequencies woven frequency_row frequency_column forward_dct bits_of whole_bytes codes digits chunks_of units file_text scans_text scan_data element_bits
returns-clause-first c = refl

pub returns-clause-data : goal.returns-clause-data
unfolding odd_sums even_frequencies woven frequency_row frequency_column forward_dct bits_of whole_bytes codes digits chunks_of units file_text scans_text scan_data element_bits
returns-clause-data c = refl
