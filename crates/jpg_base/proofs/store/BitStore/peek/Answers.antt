use Rattle.std.proofs.Common.{ℕ, take, sym, ap, ◌∙◌}
use Rattle.jpg_spec.specs.Bits.{bits_of}
use Rattle.jpg_base.proofs.store.BitStore.peek.Goals as goal

pub returns-then-n-eq0-clause-value : goal.returns-then-n-eq0-clause-value
unfolding bits_of
returns-then-n-eq0-clause-value c =
    ap (λ (n : ℕ). bits_of n 0) c.if-n-eq0.true ∙ ap (λ (n : ℕ). take n c.args.self.now) (sym c.if-n-eq0.true)
