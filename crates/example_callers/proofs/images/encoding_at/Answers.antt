use Rattle.std.proofs.Common.{List, ℕ, [], length, slice_index_or, refl, sym, ap, arith}
use Rattle.example_callers.proofs.images.encoding_at.Goals as goal

pub returns-clause-asks : goal.returns-clause-asks
returns-clause-asks c = record {
  gray = refl;
  scans = refl;
  factors = sym c.factors_of.ensures.value;
  first = sym (ap (λ (tables : List (List ℕ)). slice_index_or tables 0 []) c.encoding_tables.ensures.tables);
  others = sym (ap (λ (tables : List (List ℕ)). slice_index_or tables 1 []) c.encoding_tables.ensures.tables);
}

pub returns-clause-can : goal.returns-clause-can
returns-clause-can c =
    let two = ap (λ (tables : List (List ℕ)). length tables) c.encoding_tables.ensures.tables in
    record {
      image = c.requires.image;
      factors = c.factors_of.ensures.range;
      pairs = c.factors_of.ensures.long;
      first = c.encoding_tables.ensures.quantisers 0 [] (omega (arith, two));
      others = c.encoding_tables.ensures.quantisers 1 [] (omega (arith, two));
    }
