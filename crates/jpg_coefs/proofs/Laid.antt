-- How the blocks of a frame are laid out, component by component.
use Rattle.std.proofs.Common.{◌≡◌, ℕ, ◌+◌, ◌*◌, ◌<◌, ◌≤◌, List, length, set, sym, ap, ◌∙◌, subst, arith, inl, inr}
use Rattle.std.specs.Prelude.{◌⊎◌, slice_index, sum_by}
use Rattle.std.proofs.lemmas.Bool.{cases_lt}
use Rattle.std.proofs.lemmas.List.{get_or-set_same, get_or-set_other, length-set, take_all}
use Rattle.std.proofs.lemmas.List.Sums.{sum_by_more, sum_by_more_le}
use Rattle.jpg_spec.specs.FrameHeader.{IsFrame, padded_grid}
use Rattle.jpg_spec.specs.Geometry.{Frame, component_at, no_component, padded_blocks}
use Rattle.jpg_spec.specs.declared.frame.Grid.{Grid}
use Rattle.jpg_coefs.specs.Picture.{component_offset, grid_blocks}
use Rattle.jpg_coefs.specs.Stored.{line_length}
use Rattle.jpg_coefs.specs.declared.layout.BlockOrder.{BlockOrder}

-- the first i components
abbrev pub AreLaidOut : Frame → BlockOrder → List ℕ → List ℕ → ℕ → ℕ → Type 0
AreLaidOut f order offsets strides total i =
    (length offsets ≡ 4) × (length strides ≡ 4) × (total ≡ component_offset f i)
    × ((k : ℕ) → k < i → slice_index offsets k ≡ component_offset f k)
    × ((k : ℕ) → k < i → slice_index strides k ≡ line_length order (padded_grid f (component_at f k)))

set_next : (xs : List ℕ) (g : ℕ → ℕ) (i v : ℕ) → i < length xs → v ≡ g i → ((k : ℕ) → k < i → slice_index xs k ≡ g k) → (k : ℕ) → k < i + 1 → slice_index (set xs i v) k ≡ g k
set_next xs g i v lt is before k h = by (cases_lt k i)
  where
    by : (k < i) ⊎ (i ≤ k) → slice_index (set xs i v) k ≡ g k
    by (inl l) = get_or-set_other xs i k v 0 (λ e. absurd (omega (arith, l, e))) ∙ before k l
    by (inr m) =
        let e : i ≡ k = omega (arith, h, m) in
        subst (λ n. slice_index (set xs i v) n ≡ g n) e (get_or-set_same xs i v 0 lt ∙ is)

-- one more
pub laid_next : (f : Frame) (order : BlockOrder) (offsets strides : List ℕ) (total i long : ℕ) (grid : Grid) → IsFrame f → i < length f.components → AreLaidOut f order offsets strides total i
    → grid ≡ padded_grid f (component_at f i) → long ≡ line_length order grid → AreLaidOut f order (set offsets i total) (set strides i long) (total + grid.wide * grid.high) (i + 1)
laid_next f order offsets strides total i long grid is lt laid g h = (
  length-set offsets i total ∙ laid.0,
  length-set strides i long ∙ laid.1,
  ap (λ n. n + grid.wide * grid.high) laid.2 ∙ ap (λ (k : Grid). component_offset f i + k.wide * k.high) g ∙ sym (sum_by_more (grid_blocks f) f.components i no_component lt),
  set_next offsets (component_offset f) i total (omega (arith, laid.0, lt, is.count_high)) laid.2 laid.3,
  set_next strides (λ k. line_length order (padded_grid f (component_at f k))) i long (omega (arith, laid.1, lt, is.count_high)) (h ∙ ap (line_length order) g) laid.4,
)

-- the blocks so far and those of the next component are few
pub laid_few : (f : Frame) (order : BlockOrder) (offsets strides : List ℕ) (total i : ℕ) (grid : Grid) → IsFrame f → i < length f.components → AreLaidOut f order offsets strides total i
    → grid ≡ padded_grid f (component_at f i) → total + grid.wide * grid.high ≤ 8388608
laid_few f order offsets strides total i grid is lt laid g =
    let all : component_offset f i + grid_blocks f (component_at f i) ≤ padded_blocks f = sum_by_more_le (grid_blocks f) f.components i no_component lt in
    let e : total + grid.wide * grid.high ≡ component_offset f i + grid_blocks f (component_at f i) = ap (λ n. n + grid.wide * grid.high) laid.2 ∙ ap (λ (k : Grid). component_offset f i + k.wide * k.high) g in
    omega (arith, e, all, is.blocks)

-- all
pub laid_total : (f : Frame) (order : BlockOrder) (offsets strides : List ℕ) (total i : ℕ) → length f.components ≤ i → AreLaidOut f order offsets strides total i → total ≡ padded_blocks f
laid_total f order offsets strides total i all laid = laid.2 ∙ ap (sum_by (grid_blocks f)) (take_all i f.components all)
