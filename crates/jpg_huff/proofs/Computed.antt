-- Tests that compute, of the arrays of a table.
use Rattle.std.proofs.Common.{◌≡◌, ℕ, zero, suc, ◌+◌, ◌*◌, ◌^◌, ◌<◌, ◌≤◌, Bool, true, false, List, length, drop, get_or, refl, ap, ◌∙◌, arith, ◌&&◌, eqb, ltb, leb}
use Rattle.std.specs.Prelude.{◌⊎◌, Option, None, Some, ◌/◌, ◌%◌, [], ◌∷◌}
use Rattle.std.proofs.Common.{⊎_elim}
use Rattle.std.specs.List.{sum}
use Rattle.std.proofs.lemmas.Bool.Decides.{nat_tests}
use Rattle.jpg_spec.specs.Codes.{Code, first_code}
use Rattle.jpg_huff.specs.Index.{IsIndexed, limit_from, IsEncoder, entry_code}
use Rattle.jpg_spec.proofs.Basics.Common.{both}

abbrev pub all_below : ℕ → (ℕ → Bool) → Bool
all_below zero p = true
all_below (suc n) p = p n && all_below n p

last_or_before : (i n : ℕ) → i < suc n → (i ≡ n) ⊎ (i < n)
last_or_before i n h = grind arith

pub all_below-at : (n : ℕ) (p : ℕ → Bool) → all_below n p ≡ true → (i : ℕ) → i < n → p i ≡ true
all_below-at zero p e i h = absurd (omega arith)
all_below-at (suc n) p e i h =
    ⊎_elim
    (λ (s : i ≡ n). ap p s ∙ (both (p n) (all_below n p) e).0)
    (λ (l : i < n). all_below-at n p (both (p n) (all_below n p) e).1 i l)
    (last_or_before i n h)

abbrev pub is_indexed : List ℕ → ℕ → List ℕ → List ℕ → List ℕ → Bool
is_indexed counts symbols firsts starts limits =
    eqb (length counts) 16
    && leb symbols 256
    && eqb (get_or firsts 0 0) 0
    && all_below 15 (λ i. eqb (get_or firsts (i + 1) 0) (2 * (get_or firsts i 0 + get_or counts i 0)))
    && eqb (get_or starts 0 0) 0
    && all_below 15 (λ i. eqb (get_or starts (i + 1) 0) (get_or starts i 0 + get_or counts i 0))
    && all_below 16 (λ i. eqb (get_or limits i 0) (limit_from (get_or firsts i 0) (drop i counts)))
    && all_below 16 (λ i. ltb (get_or firsts i 0 + get_or counts i 0) (2 ^ (i + 1)))
    && all_below 16 (λ i. leb (get_or starts i 0 + sum (drop i counts)) symbols)

eqb_is : (a b : ℕ) → eqb a b ≡ true → a ≡ b
eqb_is a b e = grind (arith, nat_tests)

ltb_is : (a b : ℕ) → ltb a b ≡ true → a < b
ltb_is a b e = grind (arith, nat_tests)

leb_is : (a b : ℕ) → leb a b ≡ true → a ≤ b
leb_is a b e = grind (arith, nat_tests)

-- the test proves the fact
pub IsIndexed-from_test : (counts : List ℕ) (symbols : ℕ) (firsts starts limits : List ℕ) → is_indexed counts symbols firsts starts limits ≡ true → IsIndexed counts symbols firsts starts limits
IsIndexed-from_test counts symbols firsts starts limits e =
    let h9 = both _ (all_below 16 (λ i. leb (get_or starts i 0 + sum (drop i counts)) symbols)) e in
    let h8 = both _ (all_below 16 (λ i. ltb (get_or firsts i 0 + get_or counts i 0) (2 ^ (i + 1)))) h9.0 in
    let h7 = both _ (all_below 16 (λ i. eqb (get_or limits i 0) (limit_from (get_or firsts i 0) (drop i counts)))) h8.0 in
    let h6 = both _ (all_below 15 (λ i. eqb (get_or starts (i + 1) 0) (get_or starts i 0 + get_or counts i 0))) h7.0 in
    let h5 = both _ (eqb (get_or starts 0 0) 0) h6.0 in
    let h4 = both _ (all_below 15 (λ i. eqb (get_or firsts (i + 1) 0) (2 * (get_or firsts i 0 + get_or counts i 0)))) h5.0 in
    let h3 = both _ (eqb (get_or firsts 0 0) 0) h4.0 in
    let h2 = both (eqb (length counts) 16) (leb symbols 256) h3.0 in
    record {
      sixteen = eqb_is _ _ h2.0;
      size = leb_is _ _ h2.1;
      first = eqb_is _ _ h3.1;
      first_more = λ i h. eqb_is _ _ (all_below-at 15 (λ i. eqb (get_or firsts (i + 1) 0) (2 * (get_or firsts i 0 + get_or counts i 0))) h4.1 i h);
      start = eqb_is _ _ h5.1;
      start_more = λ i h. eqb_is _ _ (all_below-at 15 (λ i. eqb (get_or starts (i + 1) 0) (get_or starts i 0 + get_or counts i 0)) h6.1 i h);
      limit = λ i h. eqb_is _ _ (all_below-at 16 (λ i. eqb (get_or limits i 0) (limit_from (get_or firsts i 0) (drop i counts))) h7.1 i h);
      fits = λ i h. ltb_is _ _ (all_below-at 16 (λ i. ltb (get_or firsts i 0 + get_or counts i 0) (2 ^ (i + 1))) h8.1 i h);
      enough = λ i h. leb_is _ _ (all_below-at 16 (λ i. leb (get_or starts i 0 + sum (drop i counts)) symbols) h9.1 i h);
    }

-- whether two codes are the same
abbrev same_bit : Bool → Bool → Bool
same_bit true b = b
same_bit false true = false
same_bit false false = true

abbrev same_bits : List Bool → List Bool → Bool
same_bits [] [] = true
same_bits [] (b ∷ bs) = false
same_bits (a ∷ more) [] = false
same_bits (a ∷ more) (b ∷ bs) = same_bit a b && same_bits more bs

abbrev same_code : Option (List Bool) → Option (List Bool) → Bool
same_code None None = true
same_code None (Some b) = false
same_code (Some a) None = false
same_code (Some a) (Some b) = same_bits a b

same_bit_is : (a b : Bool) → same_bit a b ≡ true → a ≡ b
same_bit_is true true e = refl
same_bit_is true false e = cc
same_bit_is false true e = cc
same_bit_is false false e = refl

same_bits_is : (a b : List Bool) → same_bits a b ≡ true → a ≡ b
same_bits_is [] [] e = refl
same_bits_is [] (y ∷ b) e = cc
same_bits_is (x ∷ a) [] e = cc
same_bits_is (x ∷ a) (y ∷ b) e =
    let parts = both (same_bit x y) (same_bits a b) e in
    let first = same_bit_is x y parts.0 in
    let later = same_bits_is a b parts.1 in
    cc

same_code_is : (a b : Option (List Bool)) → same_code a b ≡ true → a ≡ b
same_code_is None None e = refl
same_code_is None (Some b) e = cc
same_code_is (Some a) None e = cc
same_code_is (Some a) (Some b) e = ap (λ (x : List Bool). (let o : Option (List Bool) = Some x in o)) (same_bits_is a b e)

abbrev pub is_encoder : List Code → List ℕ → Bool
is_encoder table entries =
    all_below 256 (λ s. same_code (entry_code (get_or entries s 0)) (first_code table s))
    && all_below 256 (λ s. leb (get_or entries s 0 / 65536) 16)
    && all_below 256 (λ s. ltb (get_or entries s 0 % 65536) (2 ^ (get_or entries s 0 / 65536)))

pub IsEncoder-from_test : (table : List Code) (entries : List ℕ) → is_encoder table entries ≡ true → IsEncoder table entries
IsEncoder-from_test table entries e =
    let h2 = both _ (all_below 256 (λ s. ltb (get_or entries s 0 % 65536) (2 ^ (get_or entries s 0 / 65536)))) e in
    let h1 = both (all_below 256 (λ s. same_code (entry_code (get_or entries s 0)) (first_code table s))) (all_below 256 (λ s. leb (get_or entries s 0 / 65536) 16)) h2.0 in
    record {
      first = λ s h. same_code_is _ _ (all_below-at 256 (λ s. same_code (entry_code (get_or entries s 0)) (first_code table s)) h1.0 s h);
      short = λ s h. leb_is _ _ (all_below-at 256 (λ s. leb (get_or entries s 0 / 65536) 16) h1.1 s h);
      fits = λ s h. ltb_is _ _ (all_below-at 256 (λ s. ltb (get_or entries s 0 % 65536) (2 ^ (get_or entries s 0 / 65536))) h2.1 s h);
    }
