use Rattle.std.proofs.Common.{[], Ok, Err, drop}
use Rattle.std.proofs.lemmas.Result.{err_from_is_err_and}
use Rattle.jpg_huff.specs.BitOut.{holding}
use Rattle.jpg_huff.specs.Tables.{symbol_codes}
use Rattle.jpg_huff.proofs.Together.{puts_fault, puts_then}
use Rattle.jpg_seq.specs.ScanWritten.{band_bits, block_bits, dc_bits}
use Rattle.jpg_seq.proofs.Takings.{none_held}
use Rattle.jpg_seq.proofs.write.put_block.Goals as goal

pub returns : goal.returns
unfolding block_bits
returns g c =
    let all = puts_then _ _ _ (holding c.take-before.new.self c.take-before.result) (holding c.put_difference.new.out c.in_ok-first.first) (holding c.put_values.new.out c.in_ok-held.held) _ _ (Ok tt) c.in_ok-first.ensures.puts c.in_ok-held.ensures.puts in
    rw c.give.ensures (rw (c.take-before.ensures.left, c.take-before.ensures.held) at all)

pub returns-in_err-held : goal.returns-in_err-held
unfolding block_bits
returns-in_err-held g c =
    let back = err_from_is_err_and c.from_residual-in_err-held.result c.from_residual-in_err-held.ensures.1 in
    let all = puts_then _ _ _ (holding c.take-before.new.self c.take-before.result) (holding c.put_difference.new.out c.in_ok-first.first) (holding c.put_values.new.out []) _ _ (Err c.in_err-held.field-0.0) c.in_ok-first.ensures.puts c.in_err-held.ensures.puts in
    rw (back.1, back.2) (none_held _ _ _ _ _ _ c.in_err-held.ensures.none (rw (c.take-before.ensures.left, c.take-before.ensures.held) at all))

pub returns-in_err-first : goal.returns-in_err-first
unfolding block_bits
returns-in_err-first g c =
    let back = err_from_is_err_and c.from_residual.result c.from_residual.ensures.1 in
    let all = puts_fault _ _ (holding c.take-before.new.self c.take-before.result) (holding c.put_difference.new.out []) (dc_bits (symbol_codes c.args.codes.dc.now) c.args.codes.prediction c.args.block.now) (band_bits c.args.codes.ac.now (drop 1 c.args.block.now)) c.in_err-first.field-0.0 c.in_err-first.ensures.puts in
    rw (back.1, back.2) (none_held _ _ _ _ _ _ c.in_err-first.ensures.none (rw (c.take-before.ensures.left, c.take-before.ensures.held) at all))
