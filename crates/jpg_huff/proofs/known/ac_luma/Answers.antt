use Rattle.std.proofs.Common.{refl}
use Rattle.jpg_spec.specs.Bits.{bits_of}
use Rattle.jpg_spec.specs.Codes.{codes}
use Rattle.jpg_huff.proofs.Computed.{IsIndexed-from_test, IsEncoder-from_test}
use Rattle.jpg_huff.proofs.known.ac_luma.Goals as goal

pub invariant_of-result : goal.invariant_of-result
unfolding bits_of codes
invariant_of-result c = record { indexed = IsIndexed-from_test _ _ _ _ _ refl; summed = refl; encoded = IsEncoder-from_test _ _ refl }
