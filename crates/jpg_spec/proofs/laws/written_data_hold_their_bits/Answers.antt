use Rattle.jpg_spec.specs.Bits.{whole_bytes, padded}
use Rattle.jpg_spec.proofs.Bits.Packing.{packs, data_spelled}
use Rattle.jpg_spec.proofs.laws.written_data_hold_their_bits.Goals as goal

pub returns-clause-packs : goal.returns-clause-packs
returns-clause-packs c = λ bits. packs bits

pub returns-clause-spells : goal.returns-clause-spells
returns-clause-spells c = λ bits. data_spelled (whole_bytes (padded bits))
