-- Five pixels whose bytes are exchanged at once.
use Rattle.std.proofs.Common.{◌≡◌, ℕ, ◌+◌, ◌-◌, ◌≤◌, List, [], ◌∷◌, ◌++◌, length, take, drop, slice_index_or, refl, sym, ap, ◌∙◌, subst, arith, append_assoc}
use Rattle.std.proofs.lemmas.List.{length-take-le, length-append, length-drop, take_all, take_at, drop_at, drop-drop}
use borrow.Rule.Slice.PartMut.{put_mid}
use Rattle.jpg_spec_image.specs.ImageText.{turned_round}
use Rattle.jpg_pnm_bmp.specs.TurnedRound.{turned_from}

-- byte k of sixteen
abbrev pub lane : List ℕ → ℕ → ℕ
lane xs k = slice_index_or (take 16 xs ++ take 16 xs) k 0

abbrev pub exchanged_five : List ℕ → List ℕ
exchanged_five xs = lane xs 2 ∷ lane xs 1 ∷ lane xs 0 ∷ lane xs 5 ∷ lane xs 4 ∷ lane xs 3 ∷ lane xs 8 ∷ lane xs 7 ∷ lane xs 6 ∷ lane xs 11 ∷ lane xs 10 ∷ lane xs 9 ∷ lane xs 14 ∷ lane xs 13 ∷ lane xs 12 ∷ lane xs 15 ∷ []

abbrev pub five : List ℕ → List ℕ
five xs = turned_round (take 15 (take 16 xs)) ++ drop 15 (take 16 xs)

-- of the first five pixels, after which a byte follows
record IsFive (xs : List ℕ) : Type 0 where
  exchanged : exchanged_five xs ≡ five xs
  joined : five xs ++ drop 16 xs ≡ turned_round (take 15 xs) ++ drop 15 xs
  turned : turned_round xs ≡ turned_round (take 15 xs) ++ turned_round (drop 15 xs)
  long : length (turned_round (take 15 xs)) ≡ 15

five_of : (xs : List ℕ) → 16 ≤ length xs → IsFive xs
five_of [] some = absurd (omega (arith, some))
five_of (a ∷ []) some = absurd (omega (arith, some))
five_of (a ∷ b ∷ []) some = absurd (omega (arith, some))
five_of (a ∷ b ∷ c ∷ []) some = absurd (omega (arith, some))
five_of (a ∷ b ∷ c ∷ d ∷ []) some = absurd (omega (arith, some))
five_of (a ∷ b ∷ c ∷ d ∷ e ∷ []) some = absurd (omega (arith, some))
five_of (a ∷ b ∷ c ∷ d ∷ e ∷ f ∷ []) some = absurd (omega (arith, some))
five_of (a ∷ b ∷ c ∷ d ∷ e ∷ f ∷ g ∷ []) some = absurd (omega (arith, some))
five_of (a ∷ b ∷ c ∷ d ∷ e ∷ f ∷ g ∷ h ∷ []) some = absurd (omega (arith, some))
five_of (a ∷ b ∷ c ∷ d ∷ e ∷ f ∷ g ∷ h ∷ i ∷ []) some = absurd (omega (arith, some))
five_of (a ∷ b ∷ c ∷ d ∷ e ∷ f ∷ g ∷ h ∷ i ∷ j ∷ []) some = absurd (omega (arith, some))
five_of (a ∷ b ∷ c ∷ d ∷ e ∷ f ∷ g ∷ h ∷ i ∷ j ∷ k ∷ []) some = absurd (omega (arith, some))
five_of (a ∷ b ∷ c ∷ d ∷ e ∷ f ∷ g ∷ h ∷ i ∷ j ∷ k ∷ l ∷ []) some = absurd (omega (arith, some))
five_of (a ∷ b ∷ c ∷ d ∷ e ∷ f ∷ g ∷ h ∷ i ∷ j ∷ k ∷ l ∷ m ∷ []) some = absurd (omega (arith, some))
five_of (a ∷ b ∷ c ∷ d ∷ e ∷ f ∷ g ∷ h ∷ i ∷ j ∷ k ∷ l ∷ m ∷ n ∷ []) some = absurd (omega (arith, some))
five_of (a ∷ b ∷ c ∷ d ∷ e ∷ f ∷ g ∷ h ∷ i ∷ j ∷ k ∷ l ∷ m ∷ n ∷ o ∷ []) some = absurd (omega (arith, some))
five_of (a ∷ b ∷ c ∷ d ∷ e ∷ f ∷ g ∷ h ∷ i ∷ j ∷ k ∷ l ∷ m ∷ n ∷ o ∷ p ∷ rest) some = record { exchanged = refl; joined = refl; turned = refl; long = refl }

pub five_are : (xs : List ℕ) → length xs ≡ 16 → exchanged_five xs ≡ turned_round (take 15 xs) ++ drop 15 xs
five_are xs long = (five_of xs (omega (arith, long))).exchanged ∙ ap (λ (l : List ℕ). turned_round (take 15 l) ++ drop 15 l) (take_all 16 xs (omega (arith, long)))

-- five more pixels of a line, whose rest is that of a row
pub record GoesOnTurned (line row : List ℕ) (at : ℕ) : Type 0 where
  pub inside : at ≤ length line
  pub long : length line ≡ length row
  pub rest : drop at line ≡ drop at row
  pub turned : turned_from line at ≡ turned_round row

pub five_more : (line row part : List ℕ) (at k : ℕ) → k ≡ 16 → 16 ≤ length row - at → part ≡ five (drop at row) → GoesOnTurned line row at → GoesOnTurned (put_mid at k line part) row (at + 15)
five_more line row part at k is some made h =
    let rest : List ℕ = drop at row in
    let inside = h.inside in
    let same = h.long in
    let l : length rest ≡ length row - at = length-drop at row in
    let f = five_of rest (omega (arith, some, l)) in
    let front : List ℕ = take at line ++ turned_round (take 15 rest) in
    let new : put_mid at k line part ≡ front ++ drop 15 rest =
    ap (λ n. put_mid at n line part) is
    ∙ ap (λ (x : List ℕ). take at line ++ (x ++ drop 16 (drop at line))) made
    ∙ ap (λ (x : List ℕ). take at line ++ (five rest ++ x)) (ap (drop 16) h.rest)
    ∙ ap (λ (x : List ℕ). take at line ++ x) f.joined
    ∙ sym (append_assoc (take at line) (turned_round (take 15 rest)) (drop 15 rest)) in
    let a = length-take-le at line h.inside in
    let b = length-append (take at line) (turned_round (take 15 rest)) in
    let c = f.long in
    let so_long : length front ≡ at + 15 = omega (arith, a, b, c) in
    let d = length-append front (drop 15 rest) in
    let e = length-drop 15 rest in
    let all : length (front ++ drop 15 rest) ≡ length row = omega (arith, so_long, d, e, l, some) in
    let now : GoesOnTurned (front ++ drop 15 rest) row (at + 15) = record {
      inside = omega (arith, all, some);
      long = all;
      rest = drop_at front (drop 15 rest) (at + 15) so_long ∙ drop-drop 15 at row;
      turned =
          ap (λ (x : List ℕ). x ++ turned_round (drop (at + 15) (front ++ drop 15 rest))) (take_at front (drop 15 rest) (at + 15) so_long)
          ∙ ap (λ (x : List ℕ). front ++ turned_round x) (drop_at front (drop 15 rest) (at + 15) so_long)
          ∙ append_assoc (take at line) (turned_round (take 15 rest)) (turned_round (drop 15 rest))
          ∙ ap (λ (x : List ℕ). take at line ++ x) (sym f.turned)
          ∙ ap (λ (x : List ℕ). take at line ++ turned_round x) (sym h.rest)
          ∙ h.turned;
    } in
    subst (λ (x : List ℕ). GoesOnTurned x row (at + 15)) (sym new) now

pub five_at : (row : List ℕ) (at k : ℕ) → k ≡ 16 → turned_round (take 15 (take k (drop at row))) ++ drop 15 (take k (drop at row)) ≡ five (drop at row)
five_at row at k is = ap (λ n. turned_round (take 15 (take n (drop at row))) ++ drop 15 (take n (drop at row))) is
