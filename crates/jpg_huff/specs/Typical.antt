-- Which typical table is which (T.81, Annex K.3).
use Rattle.std.specs.Prelude.{List}
use Rattle.jpg_spec.specs.Codes.{Code}
use Rattle.jpg_spec.specs.Segments.{HuffmanTable}
use Rattle.jpg_spec.specs.Typical.{dc_luma, dc_chroma, ac_luma, ac_chroma}
use Rattle.jpg_huff.specs.Annex.{dc_luma_table, dc_chroma_table, ac_luma_table, ac_chroma_table}
use Rattle.jpg_huff.specs.declared.kind.Typical.{Typical}
use Rattle.jpg_huff.specs.declared.kind.Typical.TheVariants.{DcLuma, DcChroma, AcLuma, AcChroma}

abbrev pub annex_table : Typical → HuffmanTable
annex_table DcLuma = dc_luma_table
annex_table DcChroma = dc_chroma_table
annex_table AcLuma = ac_luma_table
annex_table AcChroma = ac_chroma_table

-- its codes
abbrev pub typical_codes : Typical → List Code
typical_codes DcLuma = dc_luma
typical_codes DcChroma = dc_chroma
typical_codes AcLuma = ac_luma
typical_codes AcChroma = ac_chroma
