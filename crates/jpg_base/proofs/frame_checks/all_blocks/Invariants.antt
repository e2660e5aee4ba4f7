use Rattle.std.specs.Prelude.{◌≡◌, ◌+◌, drop}
use Rattle.jpg_base.specs.Frame.{blocks_of}
use Rattle.jpg_base.proofs.frame_checks.all_blocks.Given as goal

abbrev pub invariant-loop-component : goal.invariant-loop-component
invariant-loop-component l = l.blocks + blocks_of l.wide l.high (drop l.component-index l.components) ≡ blocks_of l.wide l.high l.components
