-- Entries of a directory one by one.
use Rattle.std.proofs.Common.{◌≡◌, ℕ, zero, suc, ◌+◌, ◌-◌, ◌<◌, ◌≤◌, Bool, true, false, cond, List, length, None, Some, refl, sym, ap, ◌∙◌, arith}
use Rattle.jpg_spec.proofs.Basics.Common.{lt_no, lt_yes}
use Rattle.jpg_spec_upright.specs.Exif.{entry_among, is_orientation}

-- one more is complete, and isn't that of the orientation
pub passed : (little : Bool) (c : List ℕ) (n k : ℕ) → 1 ≤ n → k + 12 ≤ length c → is_orientation little c k ≡ false → entry_among little c n k ≡ entry_among little c (n - 1) (k + 12)
passed little c zero k some fits other = absurd (omega (arith, some))
passed little c (suc n) k some fits other =
    let m : suc n - 1 ≡ n = omega arith in
    ap (λ (b : Bool). cond b None (cond (is_orientation little c k) (Some k) (entry_among little c n (k + 12)))) (lt_no (length c) (k + 12) fits)
    ∙ ap (λ (b : Bool). cond b (Some k) (entry_among little c n (k + 12))) other
    ∙ ap (λ (i : ℕ). entry_among little c i (k + 12)) (sym m)

-- it is that of the orientation
pub met : (little : Bool) (c : List ℕ) (n k : ℕ) → 1 ≤ n → k + 12 ≤ length c → is_orientation little c k ≡ true → entry_among little c n k ≡ Some k
met little c zero k some fits is = absurd (omega (arith, some))
met little c (suc n) k some fits is =
    ap (λ (b : Bool). cond b None (cond (is_orientation little c k) (Some k) (entry_among little c n (k + 12)))) (lt_no (length c) (k + 12) fits)
    ∙ ap (λ (b : Bool). cond b (Some k) (entry_among little c n (k + 12))) is

-- it isn't complete
pub cut : (little : Bool) (c : List ℕ) (n k : ℕ) → length c < k + 12 → entry_among little c n k ≡ None
cut little c zero k short = refl
cut little c (suc n) k short = ap (λ (b : Bool). cond b None (cond (is_orientation little c k) (Some k) (entry_among little c n (k + 12)))) (lt_yes (length c) (k + 12) short)

pub none_left : (little : Bool) (c : List ℕ) (n k : ℕ) → n ≡ 0 → entry_among little c n k ≡ None
none_left little c n k e = ap (λ (m : ℕ). entry_among little c m k) e
