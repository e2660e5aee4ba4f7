-- The bits of elements, one after another.
use Rattle.std.proofs.Common.{◌≡◌, ℕ, suc, ◌+◌, ◌-◌, ◌*◌, ◌/◌, ◌%◌, ◌^◌, ◌<◌, ◌≤◌, ◌==◌, cond, Bool, true, false, List, [], ◌∷◌, ◌++◌, take, drop, drop-drop, take-append-drop, Option, None, refl, sym, ap, ◌∙◌, arith}
use Rattle.std.proofs.lemmas.Grind.{pow_more}
use Rattle.std.specs.Prelude.{unwrap_or}
use Rattle.std.specs.Option.{option_map}
use Rattle.std.proofs.lemmas.List.{append_assoc}
use Rattle.std.proofs.lemmas.List.Concat.{flat_map-append}
use Rattle.jpg_spec.specs.Bits.{bits_of}
use Rattle.jpg_spec.specs.Codes.{Code}
use Rattle.jpg_spec.specs.Segments.{table_codes}
use Rattle.jpg_spec.specs.Elements.{Element, bits_after}
use Rattle.jpg_spec.specs.Codes.{code_of}
use Rattle.jpg_huff.specs.declared.table.Table.{Table}
use Rattle.jpg_huff.specs.Tables.{table_of}
use Rattle.jpg_prog_write.specs.Items.{IsItem, spelled, texts}
use Rattle.jpg_prog_write.specs.Steps.{IsFirst}
use Rattle.jpg_prog_write.specs.Written.{no_codes}
use Rattle.jpg_prog_write.specs.declared.item.Item.{Item}

-- no table, no code
pub none_code : (o : Option Table) (symbol : ℕ) → None ≡ o → bits_of 0 0 ≡ code_of (table_codes (unwrap_or (option_map table_of o) no_codes)) symbol
unfolding bits_of Rattle.jpg_spec.specs.Codes.codes
none_code o symbol e = ap (λ t. code_of (table_codes (unwrap_or (option_map table_of t) no_codes)) symbol) e

-- an item, and its corrections
pub item_text : (codes : List Code) (e : Element) (item : Item) (bits code : List Bool) → IsItem e item bits → code ≡ code_of codes item.symbol → (code ++ bits_of item.size item.extra) ++ bits ≡ spelled codes e
item_text codes e item bits code is same =
    append_assoc code (bits_of item.size item.extra) bits ∙ ap (λ x. code ++ x) is.bits ∙ ap (λ x. x ++ bits_after e) (same ∙ ap (code_of codes) is.symbol)

pub texts_first : (codes : List Code) (all : List Element) (item : Item) (bits : List Bool) (others : List Element) (f : IsFirst all item bits others) → texts codes all ≡ spelled codes f.element ++ texts codes others
unfolding texts
texts_first codes all item bits others f = ap (texts codes) f.first

pub texts_join : (codes : List Code) (xs ys : List Element) → texts codes (xs ++ ys) ≡ texts codes xs ++ texts codes ys
unfolding texts
texts_join codes xs ys = flat_map-append (spelled codes) xs ys

pub texts_none : (codes : List Code) → texts codes [] ≡ []
unfolding texts
texts_none codes = refl

-- BITS as a number

pub bits_more : (i n m : ℕ) (b : Bool) → m ≡ 2 * n + cond b 1 0 → bits_of (i + 1) m ≡ bits_of i n ++ b ∷ []
unfolding bits_of
bits_more i n m b e =
    let k : i + 1 ≡ suc i = omega arith in
    ap (λ j. bits_of j m) k ∙ ap (λ h. bits_of i h ++ (m % 2 == 1) ∷ []) (half b e) ∙ ap (λ c. bits_of i n ++ c ∷ []) (low b e)
  where
    half : (b : Bool) → m ≡ 2 * n + cond b 1 0 → m / 2 ≡ n
    half true h = omega (arith, h)
    half false h = omega (arith, h)

    low : (b : Bool) → m ≡ 2 * n + cond b 1 0 → (m % 2 == 1) ≡ b
    low true h = (let r : m % 2 ≡ 1 = omega (arith, h) in ap (λ x. x == 1) r)
    low false h = (let r : m % 2 ≡ 0 = omega (arith, h) in ap (λ x. x == 1) r)

pub fits_more : (i n m : ℕ) (b : Bool) → m ≡ 2 * n + cond b 1 0 → n < 2 ^ i → m < 2 ^ (i + 1)
fits_more i n m b e few = by b e
  where
    by : (b : Bool) → m ≡ 2 * n + cond b 1 0 → m < 2 ^ (i + 1)
    by true h = (let p : 2 ^ (i + 1) ≡ 2 ^ i * 2 = pow_more 2 i in omega (arith, h, p, few))
    by false h = (let p : 2 ^ (i + 1) ≡ 2 ^ i * 2 = pow_more 2 i in omega (arith, h, p, few))

-- some of them, and the remaining ones
pub some_of : (bits : List Bool) (from end : ℕ) → from ≤ end → drop from bits ≡ take (end - from) (drop from bits) ++ drop end bits
some_of bits from end order =
    let e : from + (end - from) ≡ end = omega (arith, order) in
    sym (take-append-drop (end - from) (drop from bits)) ∙ ap (λ xs. take (end - from) (drop from bits) ++ xs) (drop-drop (end - from) from bits ∙ ap (λ n. drop n bits) e)
