use Rattle.std.proofs.Common.{◌≡◌, ◌≤◌, ◌*◌, ◌∷◌, ◌++◌, [], if◌then◌else◌, flat_map, length, take}
use Rattle.jpg_file.proofs.write.head.needed_of.Given as goal

abbrev pub invariant-loop-part : goal.invariant-loop-part
invariant-loop-part l =
    (l.needed.items ≡ flat_map (λ p. (if l.has_dc then (0, p.dc) ∷ [] else []) ++ (if l.has_ac then (1, p.ac) ∷ [] else [])) (take l.part-index l.head.parts)) × (length l.needed.items ≤ 2 * l.part-index)
