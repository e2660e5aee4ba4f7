use Rattle.std.proofs.Common.{◌%◌, ◌-◌, ap, arith}
use Rattle.jpg_huff.specs.BitOut.{waiting}
use Rattle.jpg_huff.proofs.Putting.{pad_number, pad_fits, pads}
use Rattle.jpg_huff.proofs.out.PendingBits.pad.Goals as goal

pub overflow_add-all : goal.overflow_add-all
overflow_add-all g c =
    let w = c.self.inside in
    let f = (8 - w.count % 8) % 8 in
    let e = pad_number w.word w.count f c.self.invariant.1 (omega (arith, c.self.invariant.0)) (omega arith) in
    record { fits = pad_fits w.word w.count f _ c.self.invariant.1 (omega (arith, c.self.invariant.0)) e }

pub returns : goal.returns
returns g c =
    let state = g.D.Desk.state in
    let w = c.self.inside in
    let e = pad_number w.word w.count ((8 - w.count % 8) % 8) c.self.invariant.1 (omega (arith, c.self.invariant.0)) (omega arith) in
    pads (state c.args.desk.now) (state c.push_bits.new.desk) (waiting c.args.buffer.now c.args.self) c.args.buffer.now c.push_bits.new.self c.push_bits.result w.word w.count _ (ap (waiting c.args.buffer.now) c.self.view_is) e
    c.push_bits.ensures.kept c.push_bits.ensures.emits
