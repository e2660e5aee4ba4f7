-- Bits put after those that the caller has, call after call.
use Rattle.std.proofs.Common.{◌≡◌, Bool, List, [], ◌++◌, Result, Ok, Err, ap, ◌∙◌}
use Rattle.jpg_base.specs.Desk.{DeskState}
use Rattle.jpg_base.specs.declared.stop.WriteFault.{WriteFault}
use Rattle.jpg_huff.specs.Waiting.{Waiting}
use Rattle.jpg_huff.specs.BitOut.{PutsAfter, holding}
use Rattle.jpg_huff.proofs.Together.{puts_then}

-- bits, and then more
pub after_then : (s0 s1 s2 : DeskState) (old mid new : Waiting) (held left xs ys : List Bool) (r : Result (List Bool) WriteFault) → PutsAfter s0 old held xs (Ok left) mid s1 → PutsAfter s1 mid left ys r new s2
    → PutsAfter s0 old held (xs ++ ys) r new s2
after_then s0 s1 s2 old mid new held left xs ys (Ok l) h k = puts_then s0 s1 s2 (holding old held) (holding mid left) (holding new l) xs ys (Ok tt) h k
after_then s0 s1 s2 old mid new held left xs ys (Err f) h k = puts_then s0 s1 s2 (holding old held) (holding mid left) (holding new []) xs ys (Err f) h k

-- what was handed out is still there
pub still_held : (old out : Waiting) (held : List Bool) → held ≡ old.bits → out ≡ holding old [] → holding out held ≡ old
still_held old out held h l = ap (λ w. holding w held) l ∙ ap (holding old) h
