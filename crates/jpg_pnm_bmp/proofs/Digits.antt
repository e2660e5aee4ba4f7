-- The decimal digits of a number, before a text, from the last one on.
use Rattle.std.proofs.Common.{◌≡◌, ℕ, ◌+◌, ◌/◌, ◌%◌, ◌^◌, ◌<◌, ◌≤◌, List, [], ◌∷◌, ◌++◌, length, sym, ap, ◌∙◌, arith, append_assoc}
use Rattle.std.proofs.lemmas.List.{length-append}
use Rattle.std.proofs.lemmas.Fmt.{decimal_digit, decimal_step, decimal_nonempty, length-decimal-le}
use Rattle.std.specs.Fmt.{decimal}

-- one more digit
pub digit_more : (n : ℕ) (text due : List ℕ) → 10 ≤ n → n < 2 ^ 64 → decimal n ++ text ≡ due → decimal (n / 10) ++ (48 + n % 10) ∷ text ≡ due
digit_more n text due ten fits e =
    sym (append_assoc (decimal (n / 10)) ((48 + n % 10) ∷ []) text) ∙ ap (λ d. d ++ text) (sym (decimal_step n ten fits)) ∙ e

-- the first digit
pub digit_last : (n : ℕ) (text due : List ℕ) → n < 10 → decimal n ++ text ≡ due → (48 + n) ∷ text ≡ due
digit_last n text due small e = sym (ap (λ d. d ++ text) (decimal_digit n small)) ∙ e

-- at most five digits
pub five : (n : ℕ) → n < 100000 → length (decimal n) ≤ 5
five n small = length-decimal-le 5 n (omega arith) small (omega arith)

-- while digits are left, fewer than five were put
pub some_left : (n number : ℕ) (text old : List ℕ) → n < 2 ^ 64 → number < 100000 → decimal n ++ text ≡ decimal number ++ old → length text < 5 + length old
some_left n number text old fits small e =
    let one = decimal_nonempty n fits in
    let most = five number small in
    let same : length (decimal n) + length text ≡ length (decimal number) + length old = sym (length-append (decimal n) text) ∙ ap length e ∙ length-append (decimal number) old in
    omega (arith, one, most, same)

pub at_most_five : (number : ℕ) (text old : List ℕ) → number < 100000 → text ≡ decimal number ++ old → length text ≤ 5 + length old
at_most_five number text old small e =
    let most = five number small in
    let same : length text ≡ length (decimal number) + length old = ap length e ∙ length-append (decimal number) old in
    omega (arith, most, same)
