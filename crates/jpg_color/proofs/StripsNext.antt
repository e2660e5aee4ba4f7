-- The row that is lent is the next one.
use Rattle.std.proofs.Common.{◌≡◌, List, ℕ, sym, subst}
use Rattle.jpg_color.specs.Shown.{ShownState, IsGiven}
use Rattle.jpg_color.specs.StripsState.{IsNextRow}

pub lent : (old new : ShownState) (row : List ℕ) → row ≡ new.last → IsGiven old new.last new → IsGiven old row new
lent old new row e h = subst (λ (r : List ℕ). IsGiven old r new) (sym e) h

pub next_row : (old new : ShownState) (row : List ℕ) → row ≡ new.last → IsGiven old new.last new → IsNextRow old row
next_row old new row e h = let g = lent old new row e h in record { early = g.early; long = g.long; value = g.value }
