-- What is remembered of segments for those after them.
use Rattle.std.specs.Prelude.{◌≡◌, ℕ, ◌+◌, Bool, not, ◌||◌, nat_le, List, ◌∷◌, None, Some}
use Rattle.jpg_spec.specs.Lists.{any_of}
use Rattle.jpg_spec.specs.Markers.{Segment, counted_size, is_kept_if, has_frame, has_scan, is_plain_jfif, is_plain_adobe, kept_after, kept_count, kept_rule}
use Rattle.jpg_spec.specs.declared.fault.Fault.TheVariants.{MarkersTooLarge}
use Rattle.jpg_spec.specs.declared.frame.Limits.{Limits}
use Rattle.jpg_markers.specs.declared.seen.Seen.{Seen}

pub record HasSeen (limits : Limits) (s : Seen) (before : List Segment) : Type 0 where
  pub framed : s.framed ≡ has_frame before
  pub scanned : s.scanned ≡ has_scan before
  pub jfif : s.jfif ≡ any_of is_plain_jfif (kept_after before)
  pub adobe : s.adobe ≡ any_of is_plain_adobe (kept_after before)
  pub free : s.free + kept_count (kept_after before) ≡ limits.kept

-- one more segment is within the limit for kept markers
abbrev pub allows : Seen → ℕ → List ℕ → Bool
allows s code contents = not (is_kept_if s.scanned code contents) || nat_le (counted_size s.jfif s.adobe (code, contents)) s.free

-- After these segments one more is within the limit for kept markers, and this is remembered then.
abbrev pub Leaves : Seen → ℕ → List ℕ → Seen → Type 0
Leaves s code contents next =
    (limits : Limits) (before : List Segment) → HasSeen limits s before → (kept_rule limits before code contents ≡ None)
    × HasSeen limits next ((code, contents) ∷ before)

-- After these segments one more exceeds it.
abbrev pub Exceeds : Seen → ℕ → List ℕ → Type 0
Exceeds s code contents = (limits : Limits) (before : List Segment) → HasSeen limits s before → kept_rule limits before code contents ≡ Some MarkersTooLarge

-- a code that defines nothing and begins no scan
pub record IsOther (code : ℕ) : Type 0 where
  pub huffmans : code ≡ 0xc4 → ⊥
  pub quants : code ≡ 0xdb → ⊥
  pub interval : code ≡ 0xdd → ⊥
  pub scan : code ≡ 0xda → ⊥
  pub baseline : code ≡ 0xc0 → ⊥
  pub extended : code ≡ 0xc1 → ⊥
  pub progressive : code ≡ 0xc2 → ⊥
