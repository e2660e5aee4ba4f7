use Rattle.std.proofs.Common.{◌-◌, ap, subst, arith, length, length-append}
use Rattle.jpg_spec.specs.Bits.{bits_of_bytes}
use Rattle.jpg_seq.specs.Source.{bits_in}
use Rattle.jpg_seq.specs.Reader.{with_work, ReadsInto}
use Rattle.jpg_seq.proofs.Takings.{source_long, taken_count}
use Rattle.jpg_seq.proofs.reader.SeqReader.bytes.Goals as goal
use Rattle.jpg_spec_write.proofs.ProgressiveLength.{bytes_long}

pub len-requires : goal.len-requires
len-requires c =
    let o = c.requires.open in let rest = c.read-taken.new.source in
    let t = ((rw (c.copy-unit.ensures, c.new.ensures) at c.read-taken.ensures.takes) o.0 o.1 o.2 o.3).2 in
    omega (arith, ap length t.1, length-append t.0 (bits_in rest), source_long rest, bytes_long c.args.bytes.now, c.requires.few)

pub overflow_sub-result : goal.overflow_sub-result
overflow_sub-result c =
    let o = c.requires.open in
    let t = ((rw (c.copy-unit.ensures, c.new.ensures) at c.read-taken.ensures.takes) o.0 o.1 o.2 o.3).2 in
    omega (arith, rw c.new.ensures at c.len-all.ensures, c.len.ensures, ap length t.1, length-append t.0 (bits_in c.read-taken.new.source))

pub returns-clause-takes : goal.returns-clause-takes
returns-clause-takes c =
    let o = c.requires.open in let rest = bits_in c.read-taken.new.source in
    let whole = rw (c.copy-unit.ensures, c.new.ensures) at c.read-taken.ensures.takes in
    let t = (whole o.0 o.1 o.2 o.3).2 in
    let count = taken_count c.args.bytes.now t.0 rest (c.len-all.result - c.len.result) c.len.result t.1 (ap (λ n. n - c.len.result) (rw c.new.ensures at c.len-all.ensures)) c.len.ensures in
    subst (λ x. ReadsInto c.args.most c.args.tops.now c.args.self.now c.args.coefs.now (bits_of_bytes c.args.bytes.now) c.read-taken.result (with_work c.read-taken.new.self c.read-taken.new.unit) c.read-taken.new.coefs x) count whole

pub returns-clause-within : goal.returns-clause-within
returns-clause-within c = omega (arith, rw c.new.ensures at c.len-all.ensures, bytes_long c.args.bytes.now)
