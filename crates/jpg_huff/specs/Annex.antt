-- The typical tables as counts and symbols (T.81, Annex K.3).
use Rattle.jpg_spec.specs.Segments.{HuffmanTable}
use Rattle.jpg_spec.specs.Typical.{dc_luma_counts, dc_luma_values, dc_chroma_counts, dc_chroma_values, ac_luma_counts, ac_luma_values, ac_chroma_counts, ac_chroma_values}

abbrev pub dc_luma_table : HuffmanTable
dc_luma_table = record { counts = dc_luma_counts; symbols = dc_luma_values }

abbrev pub dc_chroma_table : HuffmanTable
dc_chroma_table = record { counts = dc_chroma_counts; symbols = dc_chroma_values }

abbrev pub ac_luma_table : HuffmanTable
ac_luma_table = record { counts = ac_luma_counts; symbols = ac_luma_values }

abbrev pub ac_chroma_table : HuffmanTable
ac_chroma_table = record { counts = ac_chroma_counts; symbols = ac_chroma_values }
