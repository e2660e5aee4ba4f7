use Rattle.std.proofs.Common.{rules, ◌<◌, ◌+◌, ◌^◌, length, refl, ap, arith}
use Rattle.std.specs.Prelude.{slice_set}
use Rattle.jpg_markers.proofs.KeptByte.{are_put, has_room}
use Rattle.jpg_markers.proofs.kept.KeptList.set_byte.Goals as goal

pub overflow_add-at : goal.overflow_add-at
overflow_add-at c =
    let v = c.self.inside.bytes in
    let r = has_room v.items c.args.self.now c.start_of.result c.args.i c.args.place c.self.invariant.0 c.self.view_is c.requires.index c.requires.place c.start_of.ensures in
    let h : c.start_of.result + 4 < 2 ^ 64 = omega (arith, r, v.ok.0, v.ok.1, v.small) in
    search (rules, h)

pub overflow_add-at-2 : goal.overflow_add-at-2
overflow_add-at-2 c =
    let v = c.self.inside.bytes in
    let r = has_room v.items c.args.self.now c.start_of.result c.args.i c.args.place c.self.invariant.0 c.self.view_is c.requires.index c.requires.place c.start_of.ensures in
    let h : c.start_of.result + 4 + c.args.place < 2 ^ 64 = omega (arith, r, v.ok.0, v.ok.1, v.small) in
    search (rules, h)

pub index_mut-requires : goal.index_mut-requires
index_mut-requires c =
    let v = c.self.inside.bytes in
    let r = has_room v.items c.args.self.now c.start_of.result c.args.i c.args.place c.self.invariant.0 c.self.view_is c.requires.index c.requires.place c.start_of.ensures in
    omega (arith, r, v.ok.0, v.ok.1)

pub invariant_of-self : goal.invariant_of-self
invariant_of-self c =
    let old = c.self.inside.bytes.items in
    let put = are_put old (slice_set old (c.start_of.result + 4 + c.args.place) c.args.value) c.args.self.now c.start_of.result c.args.i c.args.place c.args.value c.self.invariant.0 c.self.view_is c.requires.index c.requires.place c.start_of.ensures refl in
    let same = ap length c.self.view_is in
    (put.segments, omega (arith, put.long, c.self.invariant.1, same))

pub returns : goal.returns
returns c =
    let old = c.self.inside.bytes.items in
    (are_put old (slice_set old (c.start_of.result + 4 + c.args.place) c.args.value) c.args.self.now c.start_of.result c.args.i c.args.place c.args.value c.self.invariant.0 c.self.view_is c.requires.index c.requires.place c.start_of.ensures refl).value
