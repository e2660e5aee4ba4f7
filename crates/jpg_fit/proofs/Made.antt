-- The table is made as it is defined.
use Rattle.std.proofs.Common.{◌≡◌, ℕ, zero, suc, ◌+◌, ◌<◌, true, false, List, [], ◌∷◌, length, take, refl, sym, ap, ◌∙◌, subst, arith}
use Rattle.std.specs.Prelude.{◌||◌, nat_lt, All, sum, replicate, reverse, slice_index}
use Rattle.std.proofs.Math.Seq.{take_all}
use Rattle.std.proofs.lemmas.List.{reverse-reverse}
use Rattle.std.proofs.lemmas.List.Sums.{sum_by-cons}
use Rattle.jpg_spec.specs.Lists.{any_of, is_among}
use Rattle.jpg_spec.specs.Codes.{are_codes}
use Rattle.jpg_spec.specs.Segments.{HuffmanTable}
use Rattle.jpg_spec.proofs.Basics.Common.{clash, neither, not_lt_of, same_itself}
use Rattle.jpg_spec_fit.specs.Fitted.{code_sizes, fitted_counts, symbols_up_to, fitted}
use Rattle.jpg_spec_fit.proofs.FittedCounts.{reversed_all}
use Rattle.jpg_spec_fit.proofs.FittedTables.{fitted_whole, fitted_only}
use Rattle.jpg_huff.specs.declared.table.Table.{Table}
use Rattle.jpg_huff.specs.declared.new.TableFault.{TableFault}
use Rattle.jpg_huff.specs.declared.new.TableFault.TheVariants.{TooManyCodes, ShortValues, OverfullCodes}
use Rattle.jpg_huff.specs.Tables.{table_of}
use Rattle.jpg_fit.specs.Parts.{AreParts}
use Rattle.jpg_fit.specs.Sizes.{up_to}
use Rattle.jpg_huff.specs.New.{IsTableOf, IsFault}

pub parts : (counts sizes bits values : List ℕ) → length counts ≡ 256 → sizes ≡ code_sizes counts → bits ≡ reverse (fitted_counts 256 sizes) → values ≡ up_to sizes 272 → AreParts counts bits values
unfolding fitted up_to
parts counts sizes bits values l s b v = record {
  short = omega (arith, l);
  bits_are = b ∙ ap (λ x. reverse (fitted_counts 256 x)) s ∙ ap (λ n. reverse (fitted_counts n (code_sizes counts))) (sym l);
  symbols_are = v ∙ ap (λ x. up_to x 272) s ∙ ap (λ n. symbols_up_to (code_sizes counts) n (n + 16)) (sym l);
}

pub small_counts : (counts sizes : List ℕ) → length counts ≡ 256 → sizes ≡ code_sizes counts → All (λ n. n < 256) (fitted_counts 256 sizes)
unfolding fitted
small_counts counts sizes l s =
    let all = (fitted_whole counts (omega (arith, l))).bytes in
    let back = reversed_all (λ n. n < 256) (reverse (fitted_counts (length counts) (code_sizes counts))) all in
    let plain = subst (All (λ n. n < 256)) (reverse-reverse (fitted_counts (length counts) (code_sizes counts))) back in
    subst (λ x. All (λ n. n < 256) (fitted_counts 256 x)) (sym s) (subst (λ n. All (λ m. m < 256) (fitted_counts n (code_sizes counts))) l plain)

-- NO SYMBOLS

any_counted : (counts : List ℕ) (v : ℕ) → any_of (λ count. nat_lt 0 count) counts ≡ false → slice_index counts v ≡ 0
any_counted [] v e = refl
any_counted (n ∷ counts) zero e = (let h = not_lt_of 0 n (neither (nat_lt 0 n) _ e).0 in omega (arith, h))
any_counted (n ∷ counts) (suc v) e = any_counted counts v (neither (nat_lt 0 n) _ e).1

none_fitted : (counts : List ℕ) → any_of (λ count. nat_lt 0 count) counts ≡ false → (fitted counts).symbols ≡ []
none_fitted counts e = by (fitted counts).symbols (fitted_only counts)
  where
    by : (symbols : List ℕ) → ((v : ℕ) → is_among v symbols ≡ true → 0 < slice_index counts v) → symbols ≡ []
    by [] only = refl
    by (v ∷ symbols) only = (let sent = only v (ap (λ b. b || is_among v symbols) (same_itself v)) in let none = any_counted counts v e in let never : ⊥ = omega (arith, sent, none) in absurd never)

zeros_of : (n : ℕ) (bits : List ℕ) → length bits ≡ n → sum bits ≡ 0 → bits ≡ replicate n 0
zeros_of zero [] l z = refl
zeros_of zero (n ∷ bits) l z = absurd cc
zeros_of (suc k) [] l z = absurd cc
zeros_of (suc k) (n ∷ bits) l z =
    let s = sum_by-cons (λ x. x) n bits in
    let first : n ≡ 0 = omega (arith, s, z) in
    let rest = zeros_of k bits (omega (arith, l)) (omega (arith, s, z)) in
    ap (λ x. x ∷ bits) first ∙ ap (λ xs. 0 ∷ xs) rest

pub no_parts : (counts values : List ℕ) → length counts ≡ 256 → any_of (λ count. nat_lt 0 count) counts ≡ false → values ≡ [] → AreParts counts (replicate 16 0) values
no_parts counts values l e none =
    let valid = fitted_whole counts (omega (arith, l)) in
    let symbols = none_fitted counts e in
    record { short = omega (arith, l); bits_are = sym (zeros_of 16 (fitted counts).counts valid.lengths (valid.total ∙ ap length symbols)); symbols_are = none ∙ sym symbols }

total_is : (counts bits values : List ℕ) → AreParts counts bits values → sum bits ≡ length values
total_is counts bits values is = ap sum is.bits_are ∙ (fitted_whole counts is.short).total ∙ ap length (sym is.symbols_are)

abbrev made : List ℕ → List ℕ → HuffmanTable
made counts symbols = record { counts = counts; symbols = symbols }

pub made_table : (counts bits values : List ℕ) (t : Table) → AreParts counts bits values → IsTableOf bits values t → table_of t ≡ fitted counts
made_table counts bits values t is of =
    of.table ∙ ap (λ n. made bits (take n values)) (total_is counts bits values is) ∙ ap (made bits) (take_all (length values) values (omega arith))
    ∙ ap (λ b. made b values) is.bits_are ∙ ap (made (fitted counts).counts) is.symbols_are

pub never_bad : (counts bits values : List ℕ) (fault : TableFault) → AreParts counts bits values → IsFault bits values fault → ⊥
never_bad counts bits values fault is bad = by fault bad
  where
    by : (f : TableFault) → IsFault bits values f → ⊥
    by TooManyCodes h = (let t = total_is counts bits values is in let l = ap length is.symbols_are in let few = (fitted_whole counts is.short).few in omega (arith, t, l, few, h))
    by ShortValues h = (let t = total_is counts bits values is in let s = h.1 in omega (arith, t, s))
    by OverfullCodes h = clash (are_codes 1 0 bits) (ap (are_codes 1 0) is.bits_are ∙ (fitted_whole counts is.short).codes) h.2
