use Rattle.std.proofs.Common.{◌≡◌, ◌≤◌, ◌-◌, ◌++◌, ◌∷◌, [], flat_map}
use Rattle.jpg_spec.specs.Lists.{below}
use Rattle.jpg_pnm_bmp.proofs.write.bmp_header.add_grays.Given as goal

abbrev pub invariant-loop-gray : goal.invariant-loop-gray
invariant-loop-gray l = record {
  most : l.gray ≤ 256;
  grays : l.part.items ≡ l.fn.part.items ++ flat_map (λ n. n ∷ n ∷ n ∷ 0 ∷ []) (below l.gray);
}

abbrev pub decreases-loop-gray : goal.decreases-loop-gray
decreases-loop-gray l = 256 - l.gray
