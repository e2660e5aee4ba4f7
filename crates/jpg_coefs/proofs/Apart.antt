-- Blocks at different places are stored separately.
use Rattle.std.proofs.Common.{◌≡◌, ℕ, ◌+◌, ◌*◌, ◌/◌, ◌%◌, ◌<◌, ◌≤◌, List, length, take, get_or, sym, ap, ◌∙◌, subst, arith, ⊎_elim, ℤ}
use Rattle.std.specs.Prelude.{sum_by}
use Rattle.std.proofs.lemmas.Bool.{cases_lt}
use Rattle.std.proofs.lemmas.Nat.{mul-add-lt, div-mul-add, mod-mul-add}
use Rattle.std.proofs.lemmas.List.{take-take, get_or-take, length-take-le, get_or-set_same, get_or-set_other}
use Rattle.std.proofs.lemmas.List.Sums.{sum_by_more_le}
use Rattle.jpg_spec.specs.Elements.{zeros}
use Rattle.jpg_spec.specs.Geometry.{Frame, no_component, component_at, padded_blocks}
use Rattle.jpg_spec.specs.FrameHeader.{padded_across, padded_down}
use Rattle.jpg_base.specs.Cursor.{IsPadded}
use Rattle.jpg_coefs.specs.Picture.{Picture, component_offset, block_index, grid_blocks, block_in, with_block}
use Rattle.jpg_coefs.proofs.Stored.{index_below}

-- the components before one, and it, come before a later one
offsets_rise : (f : Frame) (i j : ℕ) → i < j → j ≤ length f.components → component_offset f i + grid_blocks f (component_at f i) ≤ component_offset f j
offsets_rise f i j lt le =
    let front = take j f.components in
    let l : length front ≡ j = length-take-le j f.components le in
    let s = sum_by_more_le (grid_blocks f) front i no_component (omega arith) in
    let t : take i front ≡ take i f.components = take-take i j f.components (omega arith) in
    let g : get_or front i no_component ≡ component_at f i = get_or-take j f.components i no_component lt in
    let e : sum_by (grid_blocks f) (take i front) + grid_blocks f (get_or front i no_component) ≡ component_offset f i + grid_blocks f (component_at f i) =
    ap (λ xs. sum_by (grid_blocks f) xs + grid_blocks f (get_or front i no_component)) t ∙ ap (λ c. component_offset f i + grid_blocks f c) g in
    omega (arith, s, e)

earlier : (f : Frame) (i x y j u v : ℕ) → IsPadded f i x y → IsPadded f j u v → i < j → block_index f i x y < block_index f j u v
earlier f i x y j u v p q lt =
    let c = component_at f i in
    let one : y * padded_across f c + x < padded_across f c * padded_down f c = mul-add-lt y (padded_across f c) x (padded_down f c) p.down p.across in
    omega (arith, one, offsets_rise f i j lt (omega (arith, q.component)))

pub same_place : (f : Frame) (i x y j u v : ℕ) → IsPadded f i x y → IsPadded f j u v → block_index f i x y ≡ block_index f j u v → (i ≡ j) × (x ≡ u) × (y ≡ v)
same_place f i x y j u v p q e =
    let ij : i ≡ j = ⊎_elim
    (λ (a : i < j). absurd (omega (arith, e, earlier f i x y j u v p q a)))
    (λ (b : j ≤ i). ⊎_elim (λ (a : j < i). absurd (omega (arith, e, earlier f j u v i x y q p a))) (λ (c : i ≤ j). omega arith) (cases_lt j i))
    (cases_lt i j) in
    let w = padded_across f (component_at f i) in
    let q' : IsPadded f i u v = subst (λ n. IsPadded f n u v) (sym ij) q in
    let g : y * w + x ≡ v * w + u = omega (arith, e, ap (λ n. block_index f n u v) ij) in
    (ij, sym (mod-mul-add y w x p.across) ∙ ap (λ n. n % w) g ∙ mod-mul-add v w u q'.across, sym (div-mul-add y w x p.across) ∙ ap (λ n. n / w) g ∙ div-mul-add v w u q'.across)

pub changed : (p : Picture) (i x y : ℕ) (block : List ℤ) → IsPadded p.frame i x y → length p.blocks ≡ padded_blocks p.frame → block_in (with_block p i x y block) i x y ≡ block
changed p i x y block pad l = get_or-set_same p.blocks (block_index p.frame i x y) block (zeros 64) (omega (arith, l, index_below p.frame i x y pad))

pub stays : (p : Picture) (i x y j u v : ℕ) (block : List ℤ) → IsPadded p.frame i x y → IsPadded p.frame j u v → ((i ≡ j) × (x ≡ u) × (y ≡ v) → ⊥) → block_in (with_block p i x y block) j u v ≡ block_in p j u v
stays p i x y j u v block a b apart =
    get_or-set_other p.blocks (block_index p.frame i x y) (block_index p.frame j u v) block (zeros 64) (λ e. apart (same_place p.frame i x y j u v a b (sym e)))
