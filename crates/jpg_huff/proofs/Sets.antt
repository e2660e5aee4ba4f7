-- The slots of a set as counts and symbols.
use Rattle.std.proofs.Common.{◌≡◌, ℕ, zero, suc, List, [], ◌∷◌, length, map, arith, ◌∙◌, refl, sym, ap, subst}
use Rattle.std.specs.Prelude.{Option, None, Some, slice_get}
use Rattle.std.specs.Option.{option_map}
use Rattle.std.proofs.lemmas.Option.{slice_get-map}
use Rattle.jpg_spec.specs.Lists.{slot_value}
use Rattle.jpg_spec.specs.Segments.{HuffmanTable}
use Rattle.jpg_spec.specs.HuffContents.{huffman_in}
use Rattle.jpg_huff.specs.Sets.{in_slot}
use Rattle.jpg_huff.specs.Tables.{table_of}
use Rattle.jpg_huff.specs.Laws.{IsTable, HaveTables}
use Rattle.jpg_huff.proofs.Tables.{is_table}
use Rattle.jpg_huff.specs.declared.table.Table.{Table}
use Rattle.jpg_spec.proofs.Basics.Common.{some_once}

right_at : (o : Option (Option Table)) (table : HuffmanTable) → option_map (option_map table_of) o ≡ Some (Some table) → IsTable table
right_at None table e = absurd cc
right_at (Some None) table e = absurd cc
right_at (Some (Some t)) table e = subst IsTable (some_once (table_of t) table (some_once (Some (table_of t)) (Some table) e)) (is_table t)

pub have_tables : (tables : List (Option Table)) → HaveTables (map (option_map table_of) tables)
have_tables tables slot table e = right_at (slice_get tables slot) table (sym (slice_get-map (option_map table_of) tables slot) ∙ e)

-- a slot of a set, as counts and symbols
pub slot_seen : (tables : List (Option Table)) (slot : ℕ) → option_map table_of (in_slot tables slot) ≡ huffman_in (map (option_map table_of) tables) slot
slot_seen tables slot = by (slice_get tables slot) ∙ ap slot_value (sym (slice_get-map (option_map table_of) tables slot))
  where
    by : (o : Option (Option Table)) → option_map table_of (slot_value o) ≡ slot_value (option_map (option_map table_of) o)
    by None = refl
    by (Some None) = refl
    by (Some (Some table)) = refl

-- four slots, one after another
pub four_slots : {Y : Type 0} (f : Table → Y) (tables : List (Option Table)) (a b c d : Option Y) → length tables ≡ 4 → a ≡ option_map f (in_slot tables 0) → b ≡ option_map f (in_slot tables 1) → c ≡ option_map f (in_slot tables 2) → d ≡ option_map f (in_slot tables 3)
    → (slot : ℕ) → slot_value (slice_get (a ∷ b ∷ c ∷ d ∷ []) slot) ≡ option_map f (in_slot tables slot)
four_slots f (x ∷ y ∷ z ∷ w ∷ []) a b c d long h0 h1 h2 h3 zero = h0
four_slots f (x ∷ y ∷ z ∷ w ∷ []) a b c d long h0 h1 h2 h3 (suc zero) = h1
four_slots f (x ∷ y ∷ z ∷ w ∷ []) a b c d long h0 h1 h2 h3 (suc (suc zero)) = h2
four_slots f (x ∷ y ∷ z ∷ w ∷ []) a b c d long h0 h1 h2 h3 (suc (suc (suc zero))) = h3
four_slots f (x ∷ y ∷ z ∷ w ∷ []) a b c d long h0 h1 h2 h3 (suc (suc (suc (suc slot)))) = refl
four_slots f other a b c d long h0 h1 h2 h3 slot = absurd (omega (arith, long))
