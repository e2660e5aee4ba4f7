use Rattle.std.proofs.Common.{◌≡◌, true, arith}
use Rattle.jpg_spec.specs.ScanContents.{are_among, parsed_ids}
use Rattle.jpg_spec.proofs.Places.KnownParts.{parts_below}
use Rattle.jpg_markers.proofs.scan.head_of.Goals as goal

pub blocks_of-requires-clause-known : goal.blocks_of-requires-clause-known
blocks_of-requires-clause-known c =
    let known : are_among c.args.frame.now (parsed_ids c.args.parts.now) ≡ true = grind (arith, c.are_known.ensures, c.if-not-are_known.false) in
    rw (c.as_slice.ensures.value, c.parts_of.ensures) (parts_below c.args.frame.now c.args.parts.now known)
