-- Where blocks are stored.
use Rattle.std.proofs.Common.{◌≡◌, ℕ, ◌+◌, ◌*◌, ◌<◌, ◌≤◌, List, length, get_or, set, replicate, refl, sym, ap, ◌∙◌, subst, arith, inl, inr, ◌⊎◌, ℤ}
use Rattle.std.specs.List.{All}
use Rattle.std.proofs.lemmas.Bool.{cases_eq}
use Rattle.std.proofs.lemmas.Nat.{mul-add-lt}
use Rattle.std.proofs.lemmas.List.{get_or-set_same, get_or-set_other, length-set, get_or-replicate, length-replicate}
use Rattle.std.proofs.lemmas.List.FromFn.{fill_by_all, get_or-map-range_with_len, length-map-range_with_len}
use Rattle.std.proofs.lemmas.List.Sums.{sum_by_more_le}
use Rattle.jpg_spec.specs.Elements.{zeros}
use Rattle.jpg_spec.specs.Geometry.{Frame, no_component, component_at, padded_blocks}
use Rattle.jpg_spec.specs.FrameHeader.{padded_across, padded_down}
use Rattle.jpg_base.specs.Cursor.{IsPadded}
use Rattle.jpg_coefs.specs.Picture.{component_offset, block_index, grid_blocks}
use Rattle.jpg_coefs.specs.Stored.{by_rows, column_place, stored_index}
use Rattle.jpg_coefs.specs.declared.layout.BlockOrder.{BlockOrder}
use Rattle.jpg_coefs.specs.declared.layout.BlockOrder.TheVariants.{ByRows, ByColumns}
use Rattle.jpg_coefs.proofs.Exchanged.{column_at, column_back, columns_apart}

pub index_below : (f : Frame) (i x y : ℕ) → IsPadded f i x y → block_index f i x y < padded_blocks f
index_below f i x y p =
    let c = component_at f i in
    let one : y * padded_across f c + x < padded_across f c * padded_down f c = mul-add-lt y (padded_across f c) x (padded_down f c) p.down p.across in
    let all : component_offset f i + grid_blocks f c ≤ padded_blocks f = sum_by_more_le (grid_blocks f) f.components i no_component p.component in
    omega (arith, one, all)

-- by columns, where the block is that by rows has number n
abbrev turned : Frame → ℕ → ℕ
turned f n = column_place (padded_across f) (padded_down f) f.components n

turned_is : (f : Frame) (i x y : ℕ) → IsPadded f i x y → turned f (block_index f i x y) ≡ stored_index f ByColumns i x y
turned_is f i x y p = column_at (padded_across f) (padded_down f) f.components no_component i x y p.component p.across p.down

turned_below : (f : Frame) (n : ℕ) → n < padded_blocks f → turned f n < padded_blocks f
turned_below f n lt = (column_back (padded_across f) (padded_down f) f.components n lt).0

pub stored_below : (f : Frame) (order : BlockOrder) (i x y : ℕ) → IsPadded f i x y → stored_index f order i x y < padded_blocks f
stored_below f ByRows i x y p = index_below f i x y p
stored_below f ByColumns i x y p = subst (λ n. n < padded_blocks f) (turned_is f i x y p) (turned_below f (block_index f i x y) (index_below f i x y p))

-- ALL BLOCKS, BY ROWS

pub count_stored : (f : Frame) (order : BlockOrder) (stored : List (List ℤ)) → length stored ≡ padded_blocks f → length (by_rows f order stored) ≡ padded_blocks f
count_stored f ByRows stored e = e
count_stored f ByColumns stored e = length-map-range_with_len (λ n. get_or stored (turned f n) (zeros 64)) 0 (padded_blocks f)

at_number : (f : Frame) (stored : List (List ℤ)) (n : ℕ) (d : List ℤ) → n < padded_blocks f → get_or (by_rows f ByColumns stored) n d ≡ get_or stored (turned f n) (zeros 64)
at_number f stored n d lt = get_or-map-range_with_len (λ n. get_or stored (turned f n) (zeros 64)) 0 (padded_blocks f) n n d lt (omega arith)

-- the one that is stored for a place
pub read_stored : (f : Frame) (order : BlockOrder) (stored : List (List ℤ)) (i x y : ℕ) → IsPadded f i x y
    → get_or (by_rows f order stored) (block_index f i x y) (zeros 64) ≡ get_or stored (stored_index f order i x y) (zeros 64)
read_stored f ByRows stored i x y p = refl
read_stored f ByColumns stored i x y p =
    at_number f stored (block_index f i x y) (zeros 64) (index_below f i x y p) ∙ ap (λ n. get_or stored n (zeros 64)) (turned_is f i x y p)

-- one that is put there
pub put_stored : (f : Frame) (order : BlockOrder) (stored : List (List ℤ)) (i x y : ℕ) (block : List ℤ) → IsPadded f i x y → length stored ≡ padded_blocks f
    → by_rows f order (set stored (stored_index f order i x y) block) ≡ set (by_rows f order stored) (block_index f i x y) block
put_stored f ByRows stored i x y block p e = refl
put_stored f ByColumns stored i x y block p e = sym (fill_by_all new all (padded_blocks f) (zeros 64) long (λ n lt. by n lt (cases_eq n at)))
  where
    at : ℕ
    at = block_index f i x y

    place : ℕ
    place = stored_index f ByColumns i x y

    new : ℕ → List ℤ
    new n = get_or (set stored place block) (turned f n) (zeros 64)

    all : List (List ℤ)
    all = set (by_rows f ByColumns stored) at block

    long : length all ≡ padded_blocks f
    long = length-set (by_rows f ByColumns stored) at block ∙ count_stored f ByColumns stored e

    here : get_or all at (zeros 64) ≡ new at
    here =
        get_or-set_same (by_rows f ByColumns stored) at block (zeros 64) (omega (arith, count_stored f ByColumns stored e, index_below f i x y p))
        ∙ sym (get_or-set_same stored place block (zeros 64) (omega (arith, e, stored_below f ByColumns i x y p)))
        ∙ ap (λ n. get_or (set stored place block) n (zeros 64)) (sym (turned_is f i x y p))

    by : (n : ℕ) → n < padded_blocks f → (n ≡ at) ⊎ (n ≡ at → ⊥) → get_or all n (zeros 64) ≡ new n
    by n lt (inl e) = subst (λ m. get_or all m (zeros 64) ≡ new m) (sym e) here
    by n lt (inr apart) =
        get_or-set_other (by_rows f ByColumns stored) at n block (zeros 64) apart
        ∙ at_number f stored n (zeros 64) lt
        ∙ sym (get_or-set_other stored place (turned f n) block (zeros 64)
        (λ same. apart (columns_apart (padded_across f) (padded_down f) f.components n at lt (index_below f i x y p) (same ∙ sym (turned_is f i x y p)))))

pub zero_stored : (f : Frame) (order : BlockOrder) → by_rows f order (replicate (padded_blocks f) (zeros 64)) ≡ replicate (padded_blocks f) (zeros 64)
zero_stored f ByRows = refl
zero_stored f ByColumns =
    let none = replicate (padded_blocks f) (zeros 64) in
    sym (fill_by_all (λ n. get_or none (turned f n) (zeros 64)) none (padded_blocks f) (zeros 64) (length-replicate (padded_blocks f) (zeros 64))
    (λ n lt. get_or-replicate (padded_blocks f) n (zeros 64) (zeros 64) lt ∙ sym (get_or-replicate (padded_blocks f) (turned f n) (zeros 64) (zeros 64) (turned_below f n lt))))

pub sizes_stored : (f : Frame) (order : BlockOrder) (stored : List (List ℤ)) → length stored ≡ padded_blocks f → All (λ b. length b ≡ 64) stored → All (λ b. length b ≡ 64) (by_rows f order stored)
sizes_stored f ByRows stored e all = all
sizes_stored f ByColumns stored e all = λ n d lt.
    let few : n < padded_blocks f = omega (arith, lt, count_stored f ByColumns stored e) in
    ap length (at_number f stored n d few) ∙ all (turned f n) (zeros 64) (omega (arith, e, turned_below f n few))
