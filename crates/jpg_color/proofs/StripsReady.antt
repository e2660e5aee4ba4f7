-- How many rows of the image are made of the MCU rows so far, as strips count them.
use Rattle.std.proofs.Common.{◌≡◌, ℕ, ◌-◌, ◌*◌, ◌<◌, ◌≤◌, Bool, if◌then◌else◌, sym, ap, ◌∙◌, subst, arith}
use Rattle.jpg_color.specs.Shown.{ShownState, all_rows, rows_made_ready}
use Rattle.jpg_color.specs.StripsState.{is_waiting}
use Rattle.jpg_color.proofs.PartsShown.{AreKept, Strips, shown}
use Rattle.jpg_color.proofs.Windows.{ready_early, ready_end, ready_high}

own : (t : Strips) {s : ShownState} {n : ℕ} → shown t ≡ s → n ≡ rows_made_ready t.display t.pushed → n ≡ rows_made_ready s.display s.pushed
own t {n = n} e is = subst (λ s. n ≡ rows_made_ready s.display s.pushed) e is

-- all rows, after the last MCU row
pub ready_last : {t : Strips} {s : ShownState} {n : ℕ} → AreKept t → shown t ≡ s → t.pushed ≡ t.all → n ≡ t.display.frame.height → n ≡ rows_made_ready s.display s.pushed
ready_last {t} k e last is = own t e (is ∙ sym (ready_end t.display) ∙ ap (rows_made_ready t.display) (sym (last ∙ k.all)))

-- before the last one, where a row waits or not
pub ready_before : {t : Strips} {s : ShownState} {n : ℕ} (b : Bool) → AreKept t → shown t ≡ s → (t.pushed ≡ t.all → ⊥) → t.waits ≡ b
    → n ≡ (if b then t.lines * t.pushed - 1 else t.lines * t.pushed) → n ≡ rows_made_ready s.display s.pushed
ready_before {t} b k e other waits is =
    let some : t.pushed ≤ all_rows t.display = k.stands.1.some in
    let missing : t.pushed < all_rows t.display = less t.pushed t.all (all_rows t.display) k.all some other in
    own t e
    (is ∙ ap (λ w. if w then t.lines * t.pushed - 1 else t.lines * t.pushed) (sym waits ∙ k.waits)
    ∙ ap (λ m. if is_waiting t.display then m * t.pushed - 1 else m * t.pushed) k.lines
    ∙ sym (ready_early t.display t.pushed missing))
  where
    less : (m n all : ℕ) → n ≡ all → m ≤ all → (m ≡ n → ⊥) → m < all
    less m n all e le other = omega (arith, e, le, other)

-- not fewer than were given, and not more than an image has
pub ready_bounds : {t : Strips} {s : ShownState} {n : ℕ} → AreKept t → shown t ≡ s → n ≡ rows_made_ready s.display s.pushed → (s.given ≤ n) × (n ≤ 65500)
ready_bounds {t} {n = n} k e is =
    let same : n ≡ rows_made_ready t.display t.pushed = subst (λ s. n ≡ rows_made_ready s.display s.pushed) (sym e) is in
    let early : t.given ≤ rows_made_ready t.display t.pushed = k.stands.1.early in
    let high = ready_high t.display t.pushed k.showable k.stands.1.some in
    subst (λ s. (s.given ≤ n) × (n ≤ 65500)) e (within t.given n _ _ same early high k.showable.frame.height_high)
  where
    within : (given n made height : ℕ) → n ≡ made → given ≤ made → made ≤ height → height ≤ 65500 → (given ≤ n) × (n ≤ 65500)
    within given n made height e low high most = (omega (arith, e, low), omega (arith, e, high, most))
