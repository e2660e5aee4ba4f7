-- No code begins another, so bits are split into codes in one way.
use Rattle.std.proofs.Common.{◌≡◌, ℕ, zero, suc, ◌+◌, ◌*◌, ◌/◌, ◌%◌, ◌^◌, ◌<◌, Bool, List, [], ◌∷◌, ◌++◌, drop, get_or, sym, ap, ◌∙◌, arith, add-one, add-zero, ⊎_elim, ◌==◌}
use Rattle.std.specs.List.{Contains}
use Rattle.std.proofs.lemmas.List.{append_assoc}
use Rattle.std.proofs.lemmas.List.Elements.{Contains-append_cases}
use Rattle.std.proofs.Math.Nat.{pow-succ'}
use Rattle.jpg_spec.specs.Bits.{bits_of}
use Rattle.jpg_spec.specs.Codes.{Code, codes_at, codes_from, AreCodes}
use Rattle.jpg_spec.proofs.Basics.Strings.{length-bits_of, bits_of-split, bits_of_inj}
use Rattle.jpg_spec.proofs.Bits.Levels.{contains_none, contains_cons, front_not_below}
use Rattle.jpg_spec.proofs.Basics.Common.{append_inj}

-- a code of a length, complete
level_code : (count len c : ℕ) (symbols : List ℕ) (code : Code) → Contains (codes_at count len c symbols) code → (i : ℕ) × (i < count) × (code ≡ (bits_of len (c + i), get_or symbols i 0))
level_code zero len c symbols code h = absurd (contains_none code h)
level_code (suc count) len c [] code h = absurd (contains_none code h)
level_code (suc count) len c (s ∷ symbols) code h =
    ⊎_elim
    (λ e. (0, omega arith, sym e ∙ ap (λ (k : ℕ). (let q : Code = (bits_of len k, s) in q)) (sym (add-zero c))))
    (λ b. let r = level_code count len (c + 1) symbols code b in
    let e : c + 1 + r.0 ≡ c + suc r.0 = omega arith in
    (suc r.0, omega arith, r.2 ∙ ap (λ (k : ℕ). (let q : Code = (bits_of len k, get_or symbols r.0 0) in q)) e))
    (contains_cons (bits_of len c, s) (codes_at count len (c + 1) symbols) code h)

regroup : (a b c d : List Bool) → ((a ++ b) ++ c) ++ d ≡ a ++ (b ++ c ++ d)
regroup a b c d = simp append_assoc

-- a code of this length doesn't begin a longer one
apart : (counts : List ℕ) (len most n : ℕ) (symbols : List ℕ) (b : Code) (x y : List Bool) → AreCodes (len + 1) (2 * most) counts → n < most → most < 2 ^ len
    → Contains (codes_from (len + 1) (2 * most) counts symbols) b → bits_of len n ++ x ≡ b.0 ++ y → ⊥
apart counts len most n symbols b x y are lt fits h e =
    let f = front_not_below counts (len + 1) (2 * most) symbols b are h in
    let p : 2 ^ (len + 1) ≡ 2 * 2 ^ len = ap (λ m. 2 ^ m) (add-one len) ∙ pow-succ' 2 len in
    let split : b.0 ++ y ≡ bits_of len (f.0 / 2) ++ (((f.0 % 2 == 1) ∷ []) ++ f.1 ++ y) =
    ap (λ s. s ++ y) (f.4 ∙ ap (λ s. s ++ f.1) (bits_of-split len f.0)) ∙ regroup (bits_of len (f.0 / 2)) ((f.0 % 2 == 1) ∷ []) f.1 y in
    let same = append_inj (bits_of len n) (bits_of len (f.0 / 2)) x _ (length-bits_of len n ∙ sym (length-bits_of len (f.0 / 2))) (e ∙ split) in
    let q = bits_of_inj len n (f.0 / 2) (omega arith) (omega arith) same.0 in
    omega arith

-- the codes of a table are split off in one way
pub one_code : (counts : List ℕ) (len c : ℕ) (symbols : List ℕ) (a b : Code) (x y : List Bool) → AreCodes len c counts → Contains (codes_from len c counts symbols) a → Contains (codes_from len c counts symbols) b
    → a.0 ++ x ≡ b.0 ++ y → a ≡ b
one_code [] len c symbols a b x y are h k e = absurd (contains_none a h)
one_code (n ∷ counts) len c symbols a b x y are h k e =
    let rest = codes_from (len + 1) (2 * (c + n)) counts (drop n symbols) in
    ⊎_elim
    (λ (ha : Contains (codes_at n len c symbols) a).
    let i = level_code n len c symbols a ha in
    let ea : bits_of len (c + i.0) ++ x ≡ b.0 ++ y = ap (λ s. s ++ x) (sym (ap (λ (q : Code). q.0) i.2)) ∙ e in
    ⊎_elim
    (λ (hb : Contains (codes_at n len c symbols) b).
    let j = level_code n len c symbols b hb in
    let eb : bits_of len (c + i.0) ++ x ≡ bits_of len (c + j.0) ++ y = ea ∙ ap (λ s. s ++ y) (ap (λ (q : Code). q.0) j.2) in
    let same = append_inj (bits_of len (c + i.0)) (bits_of len (c + j.0)) x y (length-bits_of len (c + i.0) ∙ sym (length-bits_of len (c + j.0))) eb in
    let number = bits_of_inj len (c + i.0) (c + j.0) (omega (arith, are.0)) (omega (arith, are.0)) same.0 in
    let place : i.0 ≡ j.0 = omega arith in
    i.2 ∙ ap (λ (m : ℕ). (let q : Code = (bits_of len (c + m), get_or symbols m 0) in q)) place ∙ sym j.2)
    (λ (hb : Contains rest b). absurd (apart counts len (c + n) (c + i.0) (drop n symbols) b x y are.1 (omega arith) are.0 hb ea))
    (Contains-append_cases (codes_at n len c symbols) rest b k))
    (λ (ha : Contains rest a).
    ⊎_elim
    (λ (hb : Contains (codes_at n len c symbols) b).
    let j = level_code n len c symbols b hb in
    let eb : bits_of len (c + j.0) ++ y ≡ a.0 ++ x = ap (λ s. s ++ y) (sym (ap (λ (q : Code). q.0) j.2)) ∙ sym e in
    absurd (apart counts len (c + n) (c + j.0) (drop n symbols) a y x are.1 (omega arith) are.0 ha eb))
    (λ (hb : Contains rest b). one_code counts (len + 1) (2 * (c + n)) (drop n symbols) a b x y are.1 ha hb e)
    (Contains-append_cases (codes_at n len c symbols) rest b k))
    (Contains-append_cases (codes_at n len c symbols) rest a h)
