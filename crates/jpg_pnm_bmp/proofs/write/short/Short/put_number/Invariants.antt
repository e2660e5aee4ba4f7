use Rattle.std.proofs.Common.{◌≡◌, ◌++◌}
use Rattle.std.specs.Fmt.{decimal}
use Rattle.jpg_pnm_bmp.proofs.write.short.Short.put_number.Given as goal

-- the digits left, and those that were put
abbrev pub invariant-loop-rest : goal.invariant-loop-rest
invariant-loop-rest l = decimal l.rest ++ l.self ≡ decimal l.fn.number ++ l.fn.self

abbrev pub decreases-loop-rest : goal.decreases-loop-rest
decreases-loop-rest l = l.rest
