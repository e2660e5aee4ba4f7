use Rattle.std.proofs.Common.{◌<◌, ◌+◌, ◌*◌, ◌^◌, ◌++◌, ap, sym, ◌∙◌, subst, arith, rules}
use mir.Syntax.{w32}
use Rattle.std.proofs.lemmas.Int.{to_z-of_z}
use Rattle.jpg_spec.specs.Bits.{bits_of}
use Rattle.jpg_spec.specs.Numbers.{extra_bits}
use Rattle.jpg_spec.specs.Codes.{code_of}
use Rattle.jpg_huff.specs.Tables.{symbol_codes}
use Rattle.jpg_huff.proofs.Encoded.{small_size, entry_is}
use Rattle.jpg_huff.proofs.encoder.value_entry.Goals as goal

pub overflow_add-run : goal.overflow_add-run
overflow_add-run c =
    let s = small_size c.args.value _ c.category-size.result (to_z-of_z w32 c.args.value (search rules)) c.category-size.ensures.category c.requires.small.0 c.requires.small.1 in
    record { fits = omega (arith, s.1, c.requires.run) }

pub joined-requires-clause-extra : goal.joined-requires-clause-extra
joined-requires-clause-extra c =
    let s = small_size c.args.value _ c.category-size.result (to_z-of_z w32 c.args.value (search rules)) c.category-size.ensures.category c.requires.small.0 c.requires.small.1 in
    (omega (arith, s.1), subst (λ n. c.extra_bits.result < 2 ^ n) (sym c.category-size.ensures.category) c.extra_bits.ensures.fits)

pub returns : goal.returns
returns c =
    let same = to_z-of_z w32 c.args.value (search rules) in
    let s = small_size c.args.value _ c.category-size.result same c.category-size.ensures.category c.requires.small.0 c.requires.small.1 in
    let code = c.written-code.result in
    let extra = ap (λ n. bits_of n c.extra_bits.result) c.category-size.ensures.category ∙ c.extra_bits.ensures.extra ∙ ap extra_bits same in
    entry_is (symbol_codes c.args.table.now) c.args.run c.args.value code.length c.category-size.result c.joined.result c.written-code.ensures.short s.1 c.joined.ensures.fits s.0
    (c.joined.ensures.bits ∙ ap (λ bits. bits ++ bits_of c.category-size.result c.extra_bits.result) c.written-code.ensures.first ∙ ap (λ bits. code_of (symbol_codes c.args.table.now) (16 * c.args.run + c.category-size.result) ++ bits) extra)
