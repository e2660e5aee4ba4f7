-- THE SYMBOLS OF A SCAN'S BANDS, which one AC table has the codes of (T.81, G.1.2).
use Rattle.std.specs.Prelude.{ℕ, List, [], ◌∷◌, flat_map}
use Rattle.jpg_spec.specs.Elements.{Element, symbol_of}
use Rattle.jpg_huff.specs.Counts.{Mark}

-- what elements mark, by the AC table in a slot
unfoldable pub marks_of : ℕ → List Element → List Mark
marks_of slot elements = flat_map (λ e. ((1, slot), symbol_of e) ∷ []) elements
