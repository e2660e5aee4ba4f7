use Rattle.std.proofs.Common.{◌+◌, ◌-◌, ap, ◌∙◌, sym, arith, length, drop, [], ◌∷◌, get_or}
use Rattle.jpg_spec.specs.Bits.{bits_of}
use Rattle.jpg_spec.specs.Codes.{codes_at, first_code}
use Rattle.jpg_huff.specs.Index.{entry_code}
use Rattle.jpg_huff.specs.New.{or_else}
use Rattle.jpg_huff.proofs.Made.{leads_more, code_split}
use Rattle.jpg_huff.proofs.new.add_level.Goals as goal

pub loop-i-preserved : goal.loop-i-preserved
loop-i-preserved c =
    let i = c.loop-i.invariant in
    let n = c.loop-i.i in
    let symbols = c.args.symbols.now in
    record {
      due = omega (arith, i.due);
      entries = c.add.ensures.entries;
      leads = λ s h.
          leads_more (entry_code (get_or c.loop-i.encoder s 0)) (entry_code (get_or c.add.new.encoder s 0)) ((bits_of c.args.size c.loop-i.number, get_or symbols n 0) ∷ []) (codes_at (length symbols - (n + 1)) c.args.size (c.loop-i.number + 1) (drop (n + 1) symbols)) s (c.add.ensures.adds s h)
          ∙ ap (λ l. or_else (entry_code (get_or c.loop-i.encoder s 0)) (first_code l s)) (sym (code_split symbols c.args.size c.loop-i.number n (omega arith)))
          ∙ i.leads s h;
    }
