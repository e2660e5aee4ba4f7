-- AN ENCODED IMAGE AS IT IS: nothing of its picture is transformed (the manual of cjpeg).
use Rattle.jpg_spec_encode.specs.Encoded.{Encoding}
use Rattle.jpg_spec_move.specs.Moved.{Choice, as_it_is}

abbrev pub as_encoded : Encoding → Choice
as_encoded e = as_it_is e.scans e.huffman e.restart
