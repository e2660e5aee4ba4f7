use Rattle.std.proofs.Common.{refl}
use Rattle.jpg_spec.specs.Bits.{bits_of, whole_bytes}
use Rattle.jpg_spec.specs.Codes.{codes}
use Rattle.jpg_spec.specs.Numbers.{digits}
use Rattle.jpg_spec.specs.Lists.{chunks_of}
use Rattle.jpg_spec.specs.Geometry.{units}
use Rattle.jpg_spec_move.specs.Moves.{mirrored}
use Rattle.jpg_spec_write.specs.FileText.{file_text, scans_text}
use Rattle.jpg_spec_write.specs.ScanText.{scan_data, element_bits}
use Rattle.jpg_spec_move.proofs.transform_examples.smallest_file_is_turned_into_itself.Goals as goal

pub returns : goal.returns
unfolding bits_of whole_bytes codes digits chunks_of units mirrored file_text scans_text scan_data element_bits
returns c = (refl, refl)
