use Rattle.jpg_spec.proofs.Bits.FirstPasses.{sequential_unit, first_band}
use Rattle.jpg_spec.proofs.file_meaning_laws.scans_find_zeros.Goals as goal

pub returns-clause-sequential : goal.returns-clause-sequential
returns-clause-sequential c = λ limits b plain. sequential_unit limits b.items b.blocks b.contents b.place b.begins.leads b.begins.allowed plain b.begins.among

pub returns-clause-first : goal.returns-clause-first
returns-clause-first c = λ limits b pass. first_band limits b.items b.blocks b.contents b.place b.begins.leads b.begins.allowed pass.progressive b.begins.among pass.first pass.band
