-- What was sent of a component (T.81, G.1.1.1).
use Rattle.std.specs.Prelude.{◌≡◌, ℕ, ◌<◌, Bool, true, false, replicate, find, drop, nat_le, not, ◌&&◌, ◌||◌, ◌==◌, if◌then◌else◌, Option, None, Some, is_some, is_none, slice_index_or}
use Rattle.jpg_spec.specs.History.{is_known_to}
use Rattle.jpg_spec.specs.Lists.{all_of, below}
use Rattle.jpg_spec.specs.Segments.{ScanHead}
use Rattle.jpg_scans.specs.declared.sent.Sent.{Sent}

-- nothing of a component
abbrev pub nothing_sent : Sent
nothing_sent = record { is_begun = false; known = replicate 64 None }

-- the bit down to which a coefficient is known
abbrev pub known_in : Sent → ℕ → Option ℕ
known_in s k = slice_index_or s.known k None

-- a coefficient that isn't known down to bit 0
abbrev pub is_unknown : Sent → ℕ → Bool
is_unknown s k = not (is_known_to (known_in s k) 0)

-- the first of those from coefficient k on
unfoldable pub first_unknown : Sent → ℕ → Option ℕ
first_unknown s k = find (is_unknown s) (drop k (below 64))

-- whether the band of a scan has a coefficient
abbrev pub has_in_band : ScanHead → ℕ → Bool
has_in_band head k = nat_le head.ss k && nat_le k head.se

-- A first pass finds a coefficient unsent, a refinement finds it known down to Ah.
abbrev pub is_due : ℕ → Option ℕ → Bool
is_due ah known = if ah == 0 then is_none known else is_known_to known ah

-- those of the first coefficients that a scan has may be sent next
unfoldable pub are_due : Sent → ScanHead → ℕ → Bool
are_due s head n = all_of (λ k. not (has_in_band head k) || is_due head.ah (known_in s k)) (below n)

-- whether a scan is the next of a component
abbrev pub is_next_in : Sent → ScanHead → Bool
is_next_in s head = (head.ss == 0 || is_some (known_in s 0)) && are_due s head 64

-- a component after one more scan
pub record IsNoted (old : Sent) (head : ScanHead) (new : Sent) : Type 0 where
  pub begun : new.is_begun ≡ true
  pub known : (k : ℕ) → k < 64 → known_in new k ≡ (if has_in_band head k then Some head.al else known_in old k)
