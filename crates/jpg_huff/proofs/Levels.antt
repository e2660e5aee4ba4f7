-- Which numbers begin a code of a table.
use Rattle.std.proofs.Common.{◌≡◌, ℕ, ◌+◌, ◌-◌, ◌*◌, ◌^◌, ◌<◌, ◌≤◌, Bool, true, false, List, [], ◌∷◌, ◌++◌, length, drop, get_or, sym, ap, ◌∙◌, arith, add-one, ⊎_elim}
use Rattle.std.specs.List.{Contains, sum}
use Rattle.std.proofs.lemmas.List.{append_assoc, length-append, append-nil, length-drop}
use Rattle.std.proofs.lemmas.List.Elements.{Contains-append_left, Contains-append_right, Contains-append_cases}
use Rattle.std.proofs.lemmas.Bool.{cases_lt}
use Rattle.std.proofs.lemmas.List.Sums.{sum_by-cons}
use Rattle.std.proofs.Math.Nat.{pow-succ'}
use Rattle.jpg_spec.specs.Bits.{bits_of}
use Rattle.jpg_spec.specs.Codes.{Code, codes_at, codes_from, AreCodes}
use Rattle.jpg_huff.specs.Index.{limit_from}
use Rattle.jpg_spec.proofs.Basics.Strings.{bit_value, length-bits_of, bits_of-more, bits_of_inj}
use Rattle.jpg_spec.proofs.Bits.Levels.{contains_none, in_level, from_level, front_not_below}

-- a number below the limit begins a code
pub reach : (counts : List ℕ) (len c n : ℕ) (symbols : List ℕ) → sum counts ≤ length symbols → c ≤ n → n < limit_from c counts
    → (code : Code) × (more : List Bool) × Contains (codes_from len c counts symbols) code × (code.0 ≡ bits_of len n ++ more)
reach [] len c n symbols enough le lt = absurd (omega arith)
reach (k ∷ counts) len c n symbols enough le lt =
    ⊎_elim
    (λ (a : n < c + k). let e : c + (n - c) ≡ n = omega arith in (
      (bits_of len (c + (n - c)), get_or symbols (n - c) 0),
      [],
      Contains-append_left (codes_at k len c symbols) _ _ (in_level k len c symbols (n - c) (omega arith) (omega (arith, sum_by-cons (λ (x : ℕ). x) k counts))),
      ap (bits_of len) e ∙ sym (append-nil (bits_of len n)),
    ))
    (λ (b : c + k ≤ n). let r = reach counts (len + 1) (2 * (c + k)) (2 * n + bit_value false) (drop k symbols) (omega (arith, length-drop k symbols, sum_by-cons (λ (x : ℕ). x) k counts)) (omega arith) (omega arith) in (
      r.0,
      false ∷ r.1,
      Contains-append_right (codes_at k len c symbols) _ _ r.2,
      r.3 ∙ ap (λ x. x ++ r.1) (bits_of-more len n false) ∙ append_assoc (bits_of len n) (false ∷ []) r.1,
    ))
    (cases_lt n (c + k))

pub bit_small : (b : Bool) → bit_value b ≤ 1
bit_small true = omega arith
bit_small false = omega arith

limit_not_below : (counts : List ℕ) (c : ℕ) → c ≤ limit_from c counts
limit_not_below [] c = omega arith
limit_not_below (k ∷ counts) c = omega (arith, limit_not_below counts (2 * (c + k)))

-- the prefix of a code is below the limit
pub below_limit : (counts : List ℕ) (len c n : ℕ) (symbols : List ℕ) (code : Code) (more : List Bool) → AreCodes len c counts → n < 2 ^ len
    → Contains (codes_from len c counts symbols) code → code.0 ≡ bits_of len n ++ more → n < limit_from c counts
below_limit [] len c n symbols code more are fits h e = absurd (contains_none code h)
below_limit (k ∷ counts) len c n symbols code [] are fits h e =
    ⊎_elim
    (λ a. let r = from_level k len c symbols code a in
    let same = bits_of_inj len (c + r.0) n (omega (arith, are.0)) fits (sym r.2 ∙ e ∙ append-nil (bits_of len n)) in
    omega (arith, limit_not_below counts (2 * (c + k))))
    (λ b. let r = front_not_below counts (len + 1) (2 * (c + k)) (drop k symbols) code are.1 b in
    let l1 = ap length r.4 ∙ length-append (bits_of (len + 1) r.0) r.1 in
    let l2 = ap length e ∙ length-append (bits_of len n) [] in
    absurd (omega (arith, length-bits_of (len + 1) r.0, length-bits_of len n)))
    (Contains-append_cases (codes_at k len c symbols) (codes_from (len + 1) (2 * (c + k)) counts (drop k symbols)) code h)
below_limit (k ∷ counts) len c n symbols code (b ∷ more) are fits h e =
    ⊎_elim
    (λ a. let r = from_level k len c symbols code a in
    let l1 = ap length r.2 in
    let l2 = ap length e ∙ length-append (bits_of len n) (b ∷ more) in
    absurd (omega (arith, length-bits_of len (c + r.0), length-bits_of len n)))
    (λ r. let p : 2 ^ (len + 1) ≡ 2 * 2 ^ len = ap (λ m. 2 ^ m) (add-one len) ∙ pow-succ' 2 len in
    let q : bit_value b ≤ 1 = bit_small b in
    let step : code.0 ≡ bits_of (len + 1) (2 * n + bit_value b) ++ more =
    e ∙ sym (append_assoc (bits_of len n) (b ∷ []) more) ∙ ap (λ x. x ++ more) (sym (bits_of-more len n b)) in
    let lt = below_limit counts (len + 1) (2 * (c + k)) (2 * n + bit_value b) (drop k symbols) code more are.1 (omega arith) r step in
    omega arith)
    (Contains-append_cases (codes_at k len c symbols) (codes_from (len + 1) (2 * (c + k)) counts (drop k symbols)) code h)
