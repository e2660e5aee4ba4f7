-- Down to which bit a coefficient is known after some progressive scans.
use Rattle.std.proofs.Common.{◌≡◌, ℕ, ◌<◌, Bool, true, false, cond, not, List, ◌∷◌, refl, sym, ap, ◌∙◌, Option, Some, None, ◌==◌}
use Rattle.std.specs.Prelude.{◌||◌, find, option_map, is_some, is_none}
use Rattle.jpg_spec.specs.Lists.{all_of, below}
use Rattle.jpg_spec.specs.Segments.{ScanHead}
use Rattle.jpg_spec.specs.History.{has_coefficient, known_to, is_known_to, is_next}
use Rattle.jpg_spec.proofs.Bits.FirstPasses.{all_below}
use Rattle.jpg_spec.proofs.Basics.Common.{both, same_of}

-- what was known of the band: nothing, or down to Ah
abbrev pub was_known : ScanHead → Option ℕ
was_known head = cond (head.ah == 0) None (Some head.ah)

pub is_known : (o : Option ℕ) (n : ℕ) → is_known_to o n ≡ true → o ≡ Some n
is_known None n e = cc
is_known (Some m) n e = ap (λ (x : ℕ). (let r : Option ℕ = Some x in r)) (same_of m n e)

is_unknown : (o : Option ℕ) → is_none o ≡ true → o ≡ None
is_unknown None e = refl
is_unknown (Some m) e = cc

pub band_next : (heads : List ScanHead) (head : ScanHead) (i k : ℕ) → is_next heads head i ≡ true → has_coefficient head i k ≡ true → k < 64 → known_to heads i k ≡ was_known head
band_next heads head i k next has small =
    let test : ℕ → Bool = λ k. not (has_coefficient head i k) || cond (head.ah == 0) (is_none (known_to heads i k)) (is_known_to (known_to heads i k) head.ah) in
    let b = both (head.ss == 0 || is_some (known_to heads i 0)) (all_of test (below 64)) next in
    by (head.ah == 0) (sym (ap (λ x. not x || cond (head.ah == 0) (is_none (known_to heads i k)) (is_known_to (known_to heads i k) head.ah)) has) ∙ all_below test 64 k b.1 small)
  where
    by : (b : Bool) → cond b (is_none (known_to heads i k)) (is_known_to (known_to heads i k) head.ah) ≡ true → known_to heads i k ≡ cond b None (Some head.ah)
    by true e = is_unknown (known_to heads i k) e
    by false e = is_known (known_to heads i k) head.ah e

pub known_new : (heads : List ScanHead) (head : ScanHead) (i k : ℕ) → has_coefficient head i k ≡ true → known_to (head ∷ heads) i k ≡ Some head.al
known_new heads head i k e = ap (λ b. option_map (λ (h : ScanHead). h.al) (cond b (Some head) (find (λ head. has_coefficient head i k) heads))) e

pub known_old : (heads : List ScanHead) (head : ScanHead) (i k : ℕ) → has_coefficient head i k ≡ false → known_to (head ∷ heads) i k ≡ known_to heads i k
known_old heads head i k e = ap (λ b. option_map (λ (h : ScanHead). h.al) (cond b (Some head) (find (λ head. has_coefficient head i k) heads))) e
