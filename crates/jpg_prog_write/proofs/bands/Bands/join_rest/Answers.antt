use Rattle.std.proofs.Common.{◌==◌, ◌+◌, ◌||◌, ◌∙◌, sym, ap}
use Rattle.std.specs.Prelude.{nat_lt}
use Rattle.jpg_prog_write.proofs.ElementsDue.{gives_rest, leaves_rest}
use Rattle.jpg_prog_write.proofs.bands.Bands.join_rest.Goals as goal

pub returns-then-is_full-clause-some : goal.returns-then-is_full-clause-some
returns-then-is_full-clause-some c =
    let b = c.args.self.now in
    let full = ap (λ n. b.bands + 1 == 32767 || nat_lt 937 n) (sym c.len.ensures.value) ∙ sym c.is_full.ensures ∙ c.if-is_full.true in
    gives_rest b c.end_bands.new.self c.wait_rest.new.waiting c.end_bands.result c.requires.ready c.requires.front c.requires.rest c.wait_rest.ensures full c.end_bands.ensures.item c.end_bands.ensures.new

pub returns-else-is_full-clause-none : goal.returns-else-is_full-clause-none
returns-else-is_full-clause-none c =
    let b = c.args.self.now in
    let free = ap (λ n. b.bands + 1 == 32767 || nat_lt 937 n) (sym c.len.ensures.value) ∙ sym c.is_full.ensures ∙ c.if-is_full.false in
    leaves_rest b c.wait_rest.new.waiting c.requires.ready c.requires.front c.requires.rest c.wait_rest.ensures free
