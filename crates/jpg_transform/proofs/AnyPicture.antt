-- A picture with a head, with these blocks and kept markers.
use Rattle.std.proofs.Common.{◌≡◌, ℕ, zero, suc, ◌+◌, ◌-◌, ◌*◌, ◌/◌, ◌%◌, ◌<◌, ◌≤◌, Bool, true, false, cond, List, [], ◌∷◌, length, take, get_or, map, refl, sym, ap, ◌∙◌, subst, arith, ℤ, ⊎_elim}
use Rattle.std.proofs.Math.Path.{fun_ext}
use Rattle.std.specs.Prelude.{nat_lt, sum_by}
use Rattle.std.proofs.lemmas.Bool.{cases_lt}
use Rattle.std.proofs.lemmas.Bool.Decides.{nat_tests}
use Rattle.std.proofs.lemmas.List.{get_or-map, get_or_past, length-map}
use Rattle.std.proofs.lemmas.List.Sums.{sum_by-cons}
use Rattle.std.proofs.lemmas.Nat.{div-mul-add, mod-mul-add, mul-add-lt}
use Rattle.jpg_spec.specs.Elements.{IsBlockIn, zeros}
use Rattle.jpg_spec.specs.FrameHeader.{padded_across, padded_down}
use Rattle.jpg_spec.specs.Geometry.{Frame, IsReal, bounds, no_component, padded_blocks}
use Rattle.jpg_spec.specs.Lists.{below}
use Rattle.jpg_spec.specs.Meaning.{Meaning, colour_of, real_blocks}
use Rattle.jpg_spec.specs.Ranges.{AreInRange}
use Rattle.jpg_spec.specs.Scan.{Blocks}
use Rattle.jpg_spec.specs.declared.frame.Bounds.{Bounds}
use Rattle.jpg_spec.proofs.Basics.Common.{length_below}
use Rattle.jpg_spec.proofs.Basics.Rows.{at_below}
use Rattle.jpg_spec.proofs.Headers.SameNumbers.{is_place}
use Rattle.jpg_spec.proofs.Writing.MovedWritten.{zeros_here}
use Rattle.jpg_spec_write.specs.WrittenFile.{HasBlocksIn}
use Rattle.jpg_base.specs.Cursor.{IsPadded}
use Rattle.jpg_base.proofs.ScanPlaces.{padded_of}
use Rattle.jpg_coefs.specs.Picture.{Picture as Coefs, block_index, block_in, is_padded, map_of}
use Rattle.jpg_coefs.proofs.Maps.{map_at}
use Rattle.jpg_coefs.proofs.Stored.{index_below}
use Rattle.jpg_file.specs.Read.PictureRead.{picture_meaning}
use Rattle.jpg_file.specs.Read.PictureKept.{IsHeadOfPicture, bare_picture}
use Rattle.jpg_file.specs.declared.read.picture.Picture.{Picture}
use Rattle.jpg_file.specs.declared.read.strip_head.StripHead.{StripHead}
use Rattle.jpg_file.proofs.ByRow.RowsGiven.{block_in_range}
use Rattle.jpg_transform.specs.Planned.{IsHeadOf}
use Rattle.jpg_spec_move.proofs.OutsideZeros.{real_true}
use Rattle.jpg_transform.proofs.MovedFile.{place_real}

-- BLOCKS BY THEIR NUMBER, in grids one after another, row by row

abbrev pub numbered : {C : Type 0} → (C → ℕ) → (C → ℕ) → Blocks → List C → ℕ → List ℤ
numbered w h blocks [] n = zeros 64
numbered w h blocks (c ∷ more) n = cond (nat_lt n (w c * h c)) (blocks 0 (n % w c) (n / w c)) (numbered w h (λ i x y. blocks (suc i) x y) more (n - w c * h c))

module _ {C : Type 0} (w h : C → ℕ) where
  number_at : (blocks : Blocks) (cs : List C) (d : C) (i x y : ℕ) → i < length cs → x < w (get_or cs i d) → y < h (get_or cs i d)
      → numbered w h blocks cs (sum_by (λ c. w c * h c) (take i cs) + (y * w (get_or cs i d) + x)) ≡ blocks i x y
  number_at blocks [] d i x y there across down = absurd (omega (arith, there))
  number_at blocks (c ∷ cs) d zero x y there across down =
      let n = y * w c + x in
      let low : n < w c * h c = mul-add-lt y (w c) x (h c) down across in
      let e : 0 + n ≡ n = omega arith in
      let first : nat_lt n (w c * h c) ≡ true = grind (arith, nat_tests, low) in
      ap (numbered w h blocks (c ∷ cs)) e
      ∙ ap (λ b. cond b (blocks 0 (n % w c) (n / w c)) (numbered w h (λ i x y. blocks (suc i) x y) cs (n - w c * h c))) first
      ∙ ap (λ a. blocks 0 a (n / w c)) (mod-mul-add y (w c) x across) ∙ ap (λ b. blocks 0 x b) (div-mul-add y (w c) x across)
  number_at blocks (c ∷ cs) d (suc i) x y there across down =
      let size = w c * h c in
      let rest = sum_by (λ c. w c * h c) (take i cs) + (y * w (get_or cs i d) + x) in
      let n = sum_by (λ c. w c * h c) (take (suc i) (c ∷ cs)) + (y * w (get_or cs i d) + x) in
      let s : sum_by (λ c. w c * h c) (take (suc i) (c ∷ cs)) ≡ size + sum_by (λ c. w c * h c) (take i cs) = sum_by-cons (λ c. w c * h c) c (take i cs) in
      let e : n - size ≡ rest = omega (arith, s) in
      let high : size ≤ n = omega (arith, s) in
      let later : nat_lt n size ≡ false = grind (arith, nat_tests, high) in
      ap (λ b. cond b (blocks 0 (n % w c) (n / w c)) (numbered w h (λ i x y. blocks (suc i) x y) cs (n - size))) later
      ∙ ap (numbered w h (λ i x y. blocks (suc i) x y) cs) e
      ∙ number_at (λ i x y. blocks (suc i) x y) cs d i x y (omega (arith, there)) across down

  either_in : (b : Bounds) (t : Bool) (one other : List ℤ) → IsBlockIn b one → IsBlockIn b other → IsBlockIn b (cond t one other)
  either_in b true one other is are = is
  either_in b false one other is are = are

  numbered_in : (b : Bounds) (blocks : Blocks) (cs : List C) (n : ℕ) → ((i x y : ℕ) → IsBlockIn b (blocks i x y)) → IsBlockIn b (zeros 64) → IsBlockIn b (numbered w h blocks cs n)
  numbered_in b blocks [] n each none = none
  numbered_in b blocks (c ∷ cs) n each none =
      either_in b (nat_lt n (w c * h c)) (blocks 0 (n % w c) (n / w c)) (numbered w h (λ i x y. blocks (suc i) x y) cs (n - w c * h c)) (each 0 (n % w c) (n / w c))
      (numbered_in b (λ i x y. blocks (suc i) x y) cs (n - w c * h c) (λ i x y. each (suc i) x y) none)

module _ (f : Frame) (blocks : Blocks) where
  abbrev pub number : ℕ → List ℤ
  number n = numbered (padded_across f) (padded_down f) (real_blocks f blocks) f.components n

  abbrev pub coefs_of : Coefs
  coefs_of = record { frame = f; blocks = map number (below (padded_blocks f)) }

  at_number : (n : ℕ) → n < padded_blocks f → get_or coefs_of.blocks n (zeros 64) ≡ number n
  at_number n low =
      let long = length_below (padded_blocks f) in
      get_or-map number (below (padded_blocks f)) n 0 (zeros 64) (omega (arith, low, long)) ∙ ap number (at_below (padded_blocks f) n low)

  map_is : (i x y : ℕ) → IsPadded f i x y → map_of coefs_of i x y ≡ real_blocks f blocks i x y
  map_is i x y p =
      map_at coefs_of i x y p ∙ at_number (block_index f i x y) (index_below f i x y p)
      ∙ number_at (padded_across f) (padded_down f) (real_blocks f blocks) f.components no_component i x y p.component p.across p.down

  module _ (range : HasBlocksIn f blocks) where
    real_in : (i x y : ℕ) → IsBlockIn (bounds f) (real_blocks f blocks i x y)
    real_in i x y = by (is_place f i x y) refl
      where
        by : (b : Bool) → is_place f i x y ≡ b → IsBlockIn (bounds f) (cond b (blocks i x y) (zeros 64))
        by true e = range i x y (place_real f i x y e)
        by false e = zeros_here f

    number_in : (n : ℕ) → IsBlockIn (bounds f) (get_or coefs_of.blocks n (zeros 64))
    number_in n = ⊎_elim
        (λ (low : n < padded_blocks f). subst (IsBlockIn (bounds f)) (sym (at_number n low)) (numbered_in (padded_across f) (padded_down f) (bounds f) (real_blocks f blocks) f.components n real_in (zeros_here f)))
        (λ (high : padded_blocks f ≤ n). (let long = length-map (below (padded_blocks f)) number in let all = length_below (padded_blocks f) in
        subst (IsBlockIn (bounds f)) (sym (get_or_past coefs_of.blocks n (zeros 64) (omega (arith, high, long, all)))) (zeros_here f)))
        (cases_lt n (padded_blocks f))

    map_in : (i x y : ℕ) → IsBlockIn (bounds f) (map_of coefs_of i x y)
    map_in i x y = by (is_padded f i x y)
      where
        by : (b : Bool) → IsBlockIn (bounds f) (cond b (block_in coefs_of i x y) (zeros 64))
        by true = number_in (block_index f i x y)
        by false = zeros_here f

    coefs_in : AreInRange (bounds f) (map_of coefs_of)
    coefs_in = record {
      sizes = λ i x y. (map_in i x y).0;
      values = λ i x y k. block_in_range f.precision (map_of coefs_of i x y) k (map_in i x y).1;
    }

-- THE PICTURE: its real blocks are these
pub record IsPictureOf (h : StripHead) (M : Meaning) (p : Picture) : Type 0 where
  pub head : IsHeadOf h p
  pub kept : p.kept ≡ M.kept
  pub same : (i x y : ℕ) → IsReal h.frame i x y → map_of p.coefs i x y ≡ M.blocks i x y
  pub means : real_blocks h.frame M.blocks ≡ M.blocks → picture_meaning p ≡ M

module _ (h : StripHead) (M : Meaning) (is : IsHeadOfPicture h M) (range : HasBlocksIn h.frame M.blocks) where
  picture : Picture
  picture = record {
    frame = h.frame;
    colour = h.colour;
    quants = h.quants;
    coefs = coefs_of h.frame M.blocks;
    kept = M.kept;
    jfif = h.jfif;
    keeps = record {
      frame = is.head.frame;
      tables = is.head.tables;
      quants = is.head.quants;
      grids = refl;
      range = coefs_in h.frame M.blocks range;
      colour = is.colour ∙ ap colour_of is.same;
      jfif = is.jfif;
    };
  }

  real_same : (i x y : ℕ) → IsReal h.frame i x y → map_of (coefs_of h.frame M.blocks) i x y ≡ M.blocks i x y
  real_same i x y real = map_is h.frame M.blocks i x y (padded_of h.frame i x y is.head.frame real) ∙ real_true h.frame M.blocks i x y real

  blocks_same : real_blocks h.frame (map_of (coefs_of h.frame M.blocks)) ≡ real_blocks h.frame M.blocks
  blocks_same = fun_ext (λ i. fun_ext (λ x. fun_ext (λ y. by i x y (is_place h.frame i x y) refl)))
    where
      by : (i x y : ℕ) (b : Bool) → is_place h.frame i x y ≡ b → cond b (map_of (coefs_of h.frame M.blocks) i x y) (zeros 64) ≡ cond b (M.blocks i x y) (zeros 64)
      by i x y true e = real_same i x y (place_real h.frame i x y e)
      by i x y false e = refl

  pub picture_of : (p : Picture) × IsPictureOf h M p
  unfolding picture
  picture_of = (
    picture,
    record {
      head = record { frame = refl; colour = refl; quants = refl; jfif = refl };
      kept = refl;
      same = real_same;
      means = λ real. ap (λ (b : Blocks). (let N : Meaning = record (bare_picture h.frame h.quants.items b) { kept = M.kept } in N)) (blocks_same ∙ real) ∙ sym is.same;
    },
  )
