use Rattle.std.specs.Prelude.{◌≡◌, ◌<◌, ◌≤◌, ℕ, true, Some, if◌then◌else◌, length}
use Rattle.jpg_scans.specs.Sent.{has_in_band, known_in}
use Rattle.jpg_scans.proofs.sent.Sent.note.Given as goal

abbrev pub invariant-loop-k : goal.invariant-loop-k
invariant-loop-k l =
    (length l.self.known ≡ 64) × (l.self.is_begun ≡ true)
    × ((k : ℕ) → k < l.k → known_in l.self k ≡ (if has_in_band l.head k then Some l.head.al else known_in l.fn.self k))
    × ((k : ℕ) → l.k ≤ k → k < 64 → known_in l.self k ≡ known_in l.fn.self k)
