use Rattle.jpg_spec_image.proofs.CodedBlocks.{coded_block_in}
use Rattle.jpg_spec_image.proofs.encoding_laws.quantised_blocks_are_in_range.Goals as goal

pub returns : goal.returns
returns c = λ quants samples table bytes. coded_block_in quants samples table.0 table.1 bytes
