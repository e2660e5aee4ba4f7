use Rattle.std.proofs.Common.{◌≡◌, ◌≤◌, ◌+◌, ◌-◌, ◌++◌, ◌∷◌, ℕ, List, [], ℤ, length, get_or, set, sym, ap, ◌∙◌, subst, arith}
use Rattle.std.specs.Int.{cast_signed, cast_unsigned, w16}
use Rattle.std.specs.Vec.{vec_capacity}
use Rattle.std.proofs.Math.Seq.{get_or-append_seam}
use Rattle.std.proofs.lemmas.Int.{to_z-of_z}
use Rattle.jpg_coefs.specs.PackedCells.{IsPacked, packed_blocks}
use Rattle.jpg_coefs.specs.declared.cell.Cell.{Cell}
use Rattle.jpg_coefs.proofs.PackedCells.{has_space, others_added, packed_added, packed_set, stored_whole}
use Rattle.jpg_coefs.proofs.packed.put_whole.Goals as goal

pub push_reserved-requires : goal.push_reserved-requires
push_reserved-requires c =
    let k = c.requires.packed in let space = k.space in
    omega (arith, has_space c.args.highs.now.items c.args.cells.now.items _ c.args.n k c.requires.room.0 c.requires.room.1, space)

pub overflow_cast-room : goal.overflow_cast-room
overflow_cast-room c =
    let k = c.requires.packed in let small = k.small in
    omega (arith, has_space c.args.highs.now.items c.args.cells.now.items _ c.args.n k c.requires.room.0 c.requires.room.1, small, c.len-room.ensures, c.push_reserved.ensures.len)

pub returns-clause-packed : goal.returns-clause-packed
returns-clause-packed c =
    let highs = c.args.highs.now.items in let cells = c.args.cells.now.items in let high = c.high_bytes.result in
    let room : c.len-room.result ≡ length highs + 1 = omega (arith, c.len-room.ensures, c.push_reserved.ensures.len) in
    let cell : Cell = record { first = cast_signed w16 (cast_unsigned w16 c.get.result); room = c.len-room.result; low = c.lows.result } in
    let at = set cells c.args.n cell in
    let k : IsPacked (highs ++ high ∷ []) at (vec_capacity c.args.highs.now) = packed_added highs high cells (vec_capacity c.args.highs.now) c.args.n cell c.requires.packed c.requires.room.0 c.requires.room.1 room in
    subst (λ n. IsPacked c.push_reserved.new.self.items at n) (sym c.push_reserved.ensures.capacity) (subst (λ h. IsPacked h at (vec_capacity c.args.highs.now)) (sym c.push_reserved.ensures.items) k)

pub returns-clause-puts : goal.returns-clause-puts
returns-clause-puts c =
    let highs = c.args.highs.now.items in let cells = c.args.cells.now.items in let high = c.high_bytes.result in let n = c.args.n in
    let room : c.len-room.result ≡ length highs + 1 = omega (arith, c.len-room.ensures, c.push_reserved.ensures.len) in
    let cell : Cell = record { first = cast_signed w16 (cast_unsigned w16 c.get.result); room = c.len-room.result; low = c.lows.result } in
    let last : get_or (highs ++ high ∷ []) (c.len-room.result - 1) [] ≡ high =
    ap (λ i. get_or (highs ++ high ∷ []) i []) (let e : c.len-room.result - 1 ≡ length highs = omega (arith, room) in e) ∙ get_or-append_seam highs high [] [] in
    ap (λ h. packed_blocks h (set cells n cell)) c.push_reserved.ensures.items
    ∙ packed_set highs (highs ++ high ∷ []) cells n cell c.args.block.now
    (stored_whole (highs ++ high ∷ []) cell c.args.block.now high (omega (arith, room)) last c.high_bytes.ensures c.lows.ensures c.all_fit.ensures c.get.ensures.long)
    (λ m low other. others_added highs high cells m c.requires.packed.below low)
