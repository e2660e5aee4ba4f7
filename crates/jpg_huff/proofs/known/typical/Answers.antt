use Rattle.std.proofs.Common.{ap, sym, ◌∙◌}
use Rattle.jpg_spec.specs.Segments.{table_codes}
use Rattle.jpg_spec.specs.Typical.{dc_luma, dc_chroma, ac_luma, ac_chroma}
use Rattle.jpg_huff.specs.Typical.{typical_codes}
use Rattle.jpg_huff.proofs.known.typical.Goals as goal

pub returns-in-DcLuma-clause-codes : goal.returns-in-DcLuma-clause-codes
unfolding dc_luma
returns-in-DcLuma-clause-codes c = ap table_codes c.dc_luma.ensures ∙ ap typical_codes (sym c.in-DcLuma.is)

pub returns-in-DcChroma-clause-codes : goal.returns-in-DcChroma-clause-codes
unfolding dc_chroma
returns-in-DcChroma-clause-codes c = ap table_codes c.dc_chroma.ensures ∙ ap typical_codes (sym c.in-DcChroma.is)

pub returns-in-AcLuma-clause-codes : goal.returns-in-AcLuma-clause-codes
unfolding ac_luma
returns-in-AcLuma-clause-codes c = ap table_codes c.ac_luma.ensures ∙ ap typical_codes (sym c.in-AcLuma.is)

pub returns-in-AcChroma-clause-codes : goal.returns-in-AcChroma-clause-codes
unfolding ac_chroma
returns-in-AcChroma-clause-codes c = ap table_codes c.ac_chroma.ensures ∙ ap typical_codes (sym c.in-AcChroma.is)
