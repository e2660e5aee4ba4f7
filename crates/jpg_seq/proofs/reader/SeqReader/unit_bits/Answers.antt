use Rattle.std.proofs.Common.{rules, ◌≡◌, ℤ, sym, ap, ◌∙◌, subst, Some, w16, to_z-of_z}
use Rattle.jpg_seq.specs.declared.work.Coder.{Coder}
use Rattle.jpg_seq.specs.Work.{env_in, TakesFromStore}
use Rattle.jpg_seq.specs.Reader.{prediction_at}
use Rattle.jpg_seq.specs.Source.{bits_in}
use Rattle.jpg_seq.proofs.Machines.{coder_same}
use Rattle.jpg_seq.proofs.reader.SeqReader.unit_bits.Goals as goal

pub returns : goal.returns
returns c =
    let e : c.in-Some.coder ≡ c.requires.coder = coder_same c.args.self.now.coders c.args.component _ c.in-Some.coder c.requires.coder c.requires.there c.in-Some.is in
    let T : ℤ → Type 0 = λ q. TakesFromStore (env_in c.args.self.now.bounds c.in-Some.coder q) c.args.unit.now (bits_in c.args.source.now) (Some c.take.result) c.take.new.self (bits_in c.take.new.source) in
    (c.in-Some.coder, c.requires.there ∙ ap (λ (x : Coder). Some x) (sym e), subst T (to_z-of_z {w = w16} {z = (prediction_at c.args.self.now c.args.component)} (search rules)) c.take.ensures)
