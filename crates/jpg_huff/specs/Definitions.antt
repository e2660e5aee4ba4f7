-- What contracts see of a set of definitions.
use Rattle.std.specs.Prelude.{[], ◌∷◌, map, take, None}
use Rattle.std.specs.Option.{option_map}
use Rattle.jpg_spec.specs.Segments.{HuffmanTable}
use Rattle.jpg_spec.specs.HuffContents.{HuffmanSlots}
use Rattle.jpg_huff.specs.declared.definition.Definition.{Definition}
use Rattle.jpg_huff.specs.declared.definitions.DefinitionSet.{DefinitionSet}

-- its counts by length from 1 to 16, and its symbols, as many as the counts say
abbrev pub definition_of : Definition → HuffmanTable
definition_of d = record { counts = d.counts; symbols = take d.total d.symbols }

-- the slots of both classes
abbrev pub definitions_of : DefinitionSet → HuffmanSlots
definitions_of set = record { dc = map (option_map definition_of) set.dc; ac = map (option_map definition_of) set.ac }

abbrev pub no_definitions : HuffmanSlots
no_definitions = record { dc = None ∷ None ∷ None ∷ None ∷ []; ac = None ∷ None ∷ None ∷ None ∷ [] }
