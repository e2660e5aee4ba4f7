-- Corrections of old values, one after another (T.81, G.1.2.3).
use Rattle.std.specs.Prelude.{◌≡◌, ℕ, ◌+◌, ◌-◌, ◌<◌, ◌≤◌, Bool, false, List, ◌++◌, length, take, drop, ℤ, pos, slice_index_or}
use Rattle.jpg_base.specs.Marks.{marks}
use Rattle.jpg_spec.specs.Codes.{Code}
use Rattle.jpg_spec.specs.Elements.{is_zero}
use Rattle.jpg_prog_read.specs.BandBits.{Through}
use Rattle.jpg_prog_read.specs.InWork.{InWork, IsOpenBand, IsPassing, AreRefinable}
use Rattle.jpg_prog_read.specs.ReaderSteps.{IsSaneBand}
use Rattle.jpg_prog_read.specs.declared.band.correcting.Correcting.{Correcting}
use Rattle.jpg_prog_read.specs.declared.scan.BandScan.{BandScan}

-- the values of a band that are left at a place
abbrev pub left_at : ℕ → ℕ → List ℤ → List ℤ
left_at end at values = take (end - at) (drop at values)

-- There is an old value at the place, and all that are left may be corrected.
pub record CanCorrect (b : BandScan) (end : ℕ) (c : Correcting) (values : List ℤ) : Type 0 where
  pub sane : IsSaneBand b
  pub whole : length values ≡ 64
  pub inside : c.at < end
  pub fits : end ≤ 64
  pub few : end ≤ c.at + 63
  pub marked : c.olds ≡ marks (drop c.at values)
  pub old : is_zero (slice_index_or (left_at end c.at values) 0 (pos 0)) ≡ false
  pub refinable : AreRefinable b (left_at end c.at values)

-- a state whose next values these are
pub record IsAt (end : ℕ) (c : Correcting) (values : List ℤ) (s : InWork) : Type 0 where
  pub rest : s.rest ≡ left_at end c.at values
  pub run : s.run ≡ c.run
  pub passing : IsPassing s.stage s

-- the state after those before another place were corrected
abbrev pub moved_to : ℕ → ℕ → Correcting → List ℤ → InWork → InWork
moved_to end from c values s = record s { done = s.done ++ take (c.at - from) (drop from values); rest = left_at end c.at values; run = c.run }

-- THE RESULT: the bits are the corrections of the old values up to another one, whatever state has these values next. All
-- values before and after these stay the same.
pub record Corrects (b : BandScan) (end : ℕ) (from : Correcting) (old : List ℤ) (store : List Bool) (c : Correcting) (new : List ℤ) (rest : List Bool) : Type 0 where
  pub bits : List Bool
  pub split : store ≡ bits ++ rest
  pub can : CanCorrect b end c new
  pub order : from.at ≤ c.at
  pub before : take from.at new ≡ take from.at old
  pub after : drop c.at new ≡ drop c.at old
  pub through : (ac : List Code) (left : ℕ) (s : InWork) → IsAt end from old s → IsOpenBand b s → Through b ac left s bits (moved_to end from.at c new s)
