use Rattle.std.proofs.Common.{◌≡◌, ◌+◌, ◌-◌, ℕ, List, ap, ◌∙◌, sym, subst, arith, get_or}
use Rattle.std.proofs.lemmas.List.Sums.{sum_by_more_le}
use Rattle.jpg_spec.specs.Codes.{codes_from, first_code}
use Rattle.jpg_huff.specs.Index.{entry_code}
use Rattle.jpg_huff.specs.New.{AreEntries, first_number, or_else}
use Rattle.jpg_huff.proofs.Made as made
use Rattle.jpg_huff.proofs.new.encode.Goals as goal

pub loop-i-init : goal.loop-i-init
loop-i-init c =
    let bits = c.args.bits.now in
    let symbols = c.args.symbols.now in
    record {
      entries = subst (λ (l : List ℕ). AreEntries l) (sym c.no_entries-encoder.ensures) (made.no_entries 256);
      first = λ s h.
          ap (λ (l : List ℕ). or_else (entry_code (get_or l s 0)) (first_code (codes_from 1 (first_number bits 0) bits symbols) s)) c.no_entries-encoder.ensures
          ∙ ap (λ o. or_else o (first_code (codes_from 1 (first_number bits 0) bits symbols) s)) (made.no_code 256 s)
          ∙ ap (λ l. first_code l s) (made.level_first bits symbols);
    }

pub loop-i-preserved : goal.loop-i-preserved
loop-i-preserved c =
    let bits = c.args.bits.now in
    let symbols = c.args.symbols.now in
    let i = c.loop-i.i in
    let start = get_or c.args.starts.now i 0 in
    let count : start + get_or bits i 0 - start ≡ get_or bits i 0 = omega arith in
    let starts = c.requires.2 i (omega arith) in
    let firsts = c.requires.1.each i (omega arith) in
    record {
      entries = c.add_level.ensures.entries;
      first = λ s h.
          made.level_added bits symbols i start (start + get_or bits i 0 - start) (get_or c.args.firsts.now i 0) s (entry_code (get_or c.loop-i.encoder s 0)) (entry_code (get_or c.add_level.new.encoder s 0)) (omega arith)
          starts count firsts (omega (arith, starts, count, c.requires.0, sum_by_more_le (λ (x : ℕ). x) bits i 0 (omega arith))) (c.add_level.ensures.adds s h)
          ∙ c.loop-i.invariant.first s h;
    }
