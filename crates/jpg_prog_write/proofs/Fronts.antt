-- The part of a band up to its last newly sent value, place by place.
use Rattle.std.proofs.Common.{◌≡◌, ℕ, zero, suc, ◌+◌, ◌-◌, ◌<◌, ◌≤◌, true, false, List, [], ◌∷◌, ◌++◌, length, take, drop, map, refl, sym, ap, ◌∙◌, subst, arith, add-one, ℤ, pos, ◌||◌, take-append-drop}
use Rattle.std.specs.Prelude.{slice_index_or}
use Rattle.std.proofs.Math.Seq.{drop-cons}
use Rattle.jpg_spec.specs.Lists.{any_of}
use Rattle.jpg_spec_write.specs.Sending.{Sent, sent, is_new, up_to_last, after_last}
use Rattle.jpg_spec.proofs.Basics.Common.{or_right}
use Rattle.jpg_prog_write.specs.Bands.{sents, ends_new}
use Rattle.jpg_prog_write.specs.declared.band.Band.{Band}
use Rattle.jpg_spec_write.proofs.Bands.{up_true, up_false, after_true, after_false}

-- PLACES

abbrev pub sent_at : Band → List ℤ → ℕ → Sent
sent_at band block k = sent band.refines band.al (slice_index_or block k (pos 0))

pub sents_step : (band : Band) (from end : ℕ) (block : List ℤ) → from < end → end ≤ length block → sents band from end block ≡ sent_at band block from ∷ sents band (from + 1) end block
unfolding sents
sents_step band from end block some inside =
    let m : end - from ≡ suc (end - (from + 1)) = omega (arith, some) in
    let d : drop from block ≡ slice_index_or block from (pos 0) ∷ drop (from + 1) block = drop-cons block from (pos 0) (omega (arith, some, inside)) ∙ ap (λ n. slice_index_or block from (pos 0) ∷ drop n block) (sym (add-one from)) in
    ap (λ n. map (sent band.refines band.al) (take n (drop from block))) m ∙ ap (λ xs. map (sent band.refines band.al) (take (suc (end - (from + 1))) xs)) d

pub sents_none : (band : Band) (from end : ℕ) (block : List ℤ) → end ≤ from → sents band from end block ≡ []
unfolding sents
sents_none band from end block none =
    let m : end - from ≡ 0 = omega (arith, none) in
    ap (λ n. map (sent band.refines band.al) (take n (drop from block))) m

-- a part from the first place on, and what is after it
pub sents_cut : (band : Band) (k from end : ℕ) (block : List ℤ) → from + k ≤ end → end ≤ length block
    → (take k (sents band from end block) ≡ sents band from (from + k) block) × (drop k (sents band from end block) ≡ sents band (from + k) end block)
sents_cut band zero from end block some inside =
    let e : from + 0 ≡ from = omega arith in
    (sym (sents_none band from (from + 0) block (omega arith)), ap (λ n. sents band n end block) (sym e))
sents_cut band (suc k) from end block some inside =
    let e : from + 1 + k ≡ from + suc k = omega arith in
    let whole = sents_step band from end block (omega (arith, some)) inside in
    let front = sents_step band from (from + suc k) block (omega arith) (omega (arith, some, inside)) in
    let ih = sents_cut band k (from + 1) end block (omega (arith, some)) inside in (
      ap (take (suc k)) whole ∙ ap (λ xs. sent_at band block from ∷ xs) (ih.0 ∙ ap (λ n. sents band (from + 1) n block) e) ∙ sym front,
      ap (drop (suc k)) whole ∙ ih.1 ∙ ap (λ n. sents band n end block) e,
    )

-- THE LAST NEWLY SENT VALUE

pub ends_tail : (s : Sent) (xs : List Sent) → ends_new (s ∷ xs) ≡ true → ends_new xs ≡ true
ends_tail s [] e = refl
ends_tail s (t ∷ xs) e = e

-- a last one that isn't newly sent isn't the last newly sent one
pub ends_some : (s : Sent) (xs : List Sent) → ends_new (s ∷ xs) ≡ true → is_new s ≡ false → 1 ≤ length xs
ends_some s [] e n = cc
ends_some s (t ∷ xs) e n = omega arith

ends_any : (s : Sent) (xs rest : List Sent) → ends_new (s ∷ xs) ≡ true → any_of is_new (s ∷ (xs ++ rest)) ≡ true
ends_any s [] rest e = ap (λ b. b || any_of is_new rest) e
ends_any s (t ∷ xs) rest e = or_right (is_new s) (any_of is_new (t ∷ (xs ++ rest))) (ends_any t xs rest e)

-- a cut after the last newly sent value
pub cut_is : (band : List Sent) (n : ℕ) → ends_new (take n band) ≡ true → any_of is_new (drop n band) ≡ false → (up_to_last band ≡ take n band) × (after_last band ≡ drop n band)
cut_is [] zero e h = (refl, refl)
cut_is [] (suc n) e h = (refl, refl)
cut_is (s ∷ band) zero e h = (up_false s band h, after_false s band h)
cut_is (s ∷ band) (suc n) e h =
    let some : any_of is_new (s ∷ band) ≡ true = ap (λ xs. any_of is_new (s ∷ xs)) (sym (take-append-drop n band)) ∙ ends_any s (take n band) (drop n band) e in
    let ih = cut_is band n (ends_tail s (take n band) e) h in
    (up_true s band some ∙ ap (λ xs. s ∷ xs) ih.0, after_true s band some ∙ ih.1)

-- the place of one is the end of a part
pub ends_at : (band : Band) (k from : ℕ) (block : List ℤ) → from + k < length block → is_new (sent_at band block (from + k)) ≡ true → ends_new (sents band from (from + k + 1) block) ≡ true
ends_at band zero from block inside new =
    let z : from + 0 ≡ from = omega arith in
    ap ends_new (sents_step band from (from + 0 + 1) block (omega arith) (omega (arith, inside)) ∙ ap (λ xs. sent_at band block from ∷ xs) (sents_none band (from + 1) (from + 0 + 1) block (omega arith)))
    ∙ ap (λ n. is_new (sent_at band block n)) (sym z) ∙ new
ends_at band (suc k) from block inside new =
    let e : from + 1 + k ≡ from + suc k = omega arith in
    let one = sents_step band from (from + suc k + 1) block (omega arith) (omega (arith, inside)) in
    let two = sents_step band (from + 1) (from + suc k + 1) block (omega arith) (omega (arith, inside)) in
    let ih : ends_new (sents band (from + 1) (from + suc k + 1) block) ≡ true =
    subst (λ n. ends_new (sents band (from + 1) (n + 1) block) ≡ true) e (ends_at band k (from + 1) block (omega (arith, inside)) (subst (λ n. is_new (sent_at band block n) ≡ true) (sym e) new)) in
    ap ends_new one ∙ ap (λ xs. ends_new (sent_at band block from ∷ xs)) two ∙ sym (ap ends_new two) ∙ ih

pub ends_before : (band : Band) (start end : ℕ) (block : List ℤ) → start < end → end ≤ length block → is_new (sent_at band block (end - 1)) ≡ true → ends_new (sents band start end block) ≡ true
ends_before band start end block some inside new =
    let k : start + (end - 1 - start) ≡ end - 1 = omega (arith, some) in
    let e : start + (end - 1 - start) + 1 ≡ end = omega (arith, some) in
    subst (λ n. ends_new (sents band start n block) ≡ true) e (ends_at band (end - 1 - start) start block (omega (arith, k, some, inside)) (subst (λ n. is_new (sent_at band block n) ≡ true) (sym k) new))

-- one more value that isn't newly sent
pub none_more : (band : Band) (end last : ℕ) (block : List ℤ) → 1 ≤ end → end ≤ last → last ≤ length block → is_new (sent_at band block (end - 1)) ≡ false → any_of is_new (sents band end last block) ≡ false → any_of is_new (sents band (end - 1) last block) ≡ false
none_more band end last block some order inside none others =
    let e : end - 1 + 1 ≡ end = omega (arith, some) in
    ap (any_of is_new) (sents_step band (end - 1) last block (omega (arith, some, order)) inside ∙ ap (λ n. sent_at band block (end - 1) ∷ sents band n last block) e)
    ∙ ap (λ b. b || any_of is_new (sents band end last block)) none ∙ others
