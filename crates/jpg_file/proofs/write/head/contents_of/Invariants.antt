use Rattle.std.proofs.Common.{◌≡◌, ◌+◌, ◌*◌, ◌∷◌, length, take, flat_map}
use Rattle.jpg_spec.specs.FrameHeader.{identifiers}
use Rattle.jpg_file.specs.Write.WriteScan.{part_bytes}
use Rattle.jpg_file.proofs.write.head.contents_of.Given as goal

abbrev pub invariant-loop-part : goal.invariant-loop-part
invariant-loop-part l =
    (l.contents.items ≡ length l.head.parts ∷ flat_map (part_bytes (identifiers l.frame.components)) (take l.part-index l.head.parts)) × (length l.contents.items ≡ 2 * l.part-index + 1)
