-- Zeros of a band that are skipped at once.
use Rattle.std.specs.Prelude.{◌≡◌, ℕ, ◌-◌, ◌<◌, ◌≤◌, false, List, ◌++◌, length, take, drop, ℤ, pos, slice_index_or}
use Rattle.jpg_spec.specs.Elements.{is_zero, zeros}
use Rattle.jpg_prog_read.specs.InWork.{InWork}

-- this many zeros are next, and no more
pub record ZerosComeNext (n : ℕ) (rest : List ℤ) : Type 0 where
  pub within : n ≤ length rest
  pub next : take n rest ≡ zeros n
  pub last : n < length rest → is_zero (slice_index_or rest n (pos 0)) ≡ false

-- after this many zeros
abbrev pub after_zeros : InWork → ℕ → InWork
after_zeros s n = record s { done = s.done ++ zeros n; rest = drop n s.rest; run = s.run - n }
