use Rattle.std.proofs.Common.{ap, sym, ◌∙◌, ◌++◌}
use Rattle.jpg_spec.specs.Bits.{stuffed}
use Rattle.jpg_huff.proofs.Words.{word_bytes}
use Rattle.jpg_huff.proofs.buffer.Buffer.add_word.Goals as goal

pub returns-else-has_ff : goal.returns-else-has_ff
returns-else-has_ff c = c.add_piece.ensures ∙ ap (λ l. c.args.self.now ++ l) (sym (ap (λ l. stuffed l) (word_bytes c.args.word ∙ sym c.to_be_bytes-bytes.ensures) ∙ c.has_ff.ensures c.if-has_ff.false))
