-- Where the MCU rows of a picture go that is transformed while it is read.
use Rattle.std.proofs.Common.{◌≡◌, ℕ, ◌+◌, ◌*◌, ◌≤◌, Bool, true, false, refl, ◌∙◌}
use Rattle.std.specs.Prelude.{OnOk, Result, Ok, Err}
use Rattle.jpg_spec.specs.Elements.{zeros}
use Rattle.jpg_spec.specs.Geometry.{Frame}
use Rattle.jpg_spec.specs.Scan.{Blocks}
use Rattle.jpg_base.specs.declared.names.NoMemory.{NoMemory}
use Rattle.jpg_coefs.specs.Picture.{Picture as Coefs}
use Rattle.jpg_file.specs.Read.ReadFile.{AgreeInRows}
use Rattle.jpg_file.specs.declared.write.sole.SoleScan.{SoleScan}
use Rattle.jpg_seq.specs.Reader.{rows_in_mcu}
use Rattle.jpg_transform.specs.RowsMoved.{CanMove, CanMoveZeros, HasMoved, MovedScan, MovesRow, MovesZeros, TellsWhole, mcu_rows}
use Rattle.jpg_transform.specs.declared.choice.Job.{Job}
use Rattle.jpg_transform.specs.declared.row_mover.RowMover.{RowMover}
use Rattle.jpg_transform.proofs.RowsMoved.{moved_agree}
use Rattle.jpg_desk.specs.RowsKept.{HasKept, IsToldWhole, KeepsRow}
use Rattle.jpg_desk.specs.RowsTo.{CanEndRows, EndsRows, HasAllKept, HaveAll, HavePut, IsSameGoal, Puts, scan_moved}
use Rattle.jpg_desk.specs.declared.row_picture.RowPicture.{RowPicture}
use Rattle.jpg_desk.specs.declared.rows_to.RowsTo.{RowsTo}
use Rattle.jpg_desk.specs.declared.rows_to.RowsTo.TheVariants as to
use Rattle.jpg_desk.proofs.RowsKept.{kept_early, kept_on, kept_whole}
use denote.Bor.{Bor}

-- THE SAME GOAL

pub same_goal : (a : RowsTo) → IsSameGoal a a
same_goal (to.Moved job scan mover) = (refl, refl)
same_goal (to.Kept picture) = tt

pub goal_then : (a b c : RowsTo) → IsSameGoal a b → IsSameGoal b c → IsSameGoal a c
goal_then (to.Moved j s m) (to.Moved j2 s2 m2) (to.Moved j3 s3 m3) x y = (y.0 ∙ x.0, y.1 ∙ x.1)
goal_then (to.Moved j s m) (to.Moved j2 s2 m2) (to.Kept p3) x y = absurd y
goal_then (to.Moved j s m) (to.Kept p2) c x y = absurd x
goal_then (to.Kept p) (to.Moved j2 s2 m2) c x y = absurd x
goal_then (to.Kept p) (to.Kept p2) (to.Moved j3 s3 m3) x y = absurd y
goal_then (to.Kept p) (to.Kept p2) (to.Kept p3) x y = tt

-- for other blocks whose first rows are the same
pub put_agree : (f : Frame) (k : ℕ) (blocks others : Blocks) (r : RowsTo) → HavePut f k blocks r → AgreeInRows f k blocks others → HavePut f k others r
put_agree f k blocks others (to.Moved job scan mover) h agree = moved_agree h agree
put_agree f k blocks others (to.Kept picture) h agree = kept_on h agree

-- A PICTURE in which all rows are

-- since all were put
pub all_kept : {f : Frame} {k : ℕ} {blocks : Blocks} {p : RowPicture} → HasKept f k blocks p → mcu_rows f ≤ k → HasAllKept f blocks p
all_kept h all = record { is_frame = h.is_frame; framed = h.framed; range = h.range; same = kept_whole h all }

-- since the others are zero
pub rest_kept : {f : Frame} {k : ℕ} {blocks : Blocks} {p : RowPicture} → HasKept f k blocks p → ((i x y : ℕ) → k * rows_in_mcu f i ≤ y → blocks i x y ≡ zeros 64) → HasAllKept f blocks p
rest_kept h none = record { is_frame = h.is_frame; framed = h.framed; range = h.range; same = kept_early h (λ i x y real from. none i x y from) }

-- where memory wasn't wanted
pub on_ok : {A B : Type 0} (r : Result (Unit {0}) NoMemory) → (A → B) → OnOk r A → OnOk r B
on_ok (Ok x) f h = f h
on_ok (Err e) f h = h

-- since so many were put
pub all_put : (f : Frame) (k : ℕ) (blocks : Blocks) (r : RowsTo) → HavePut f k blocks r → mcu_rows f ≤ k → HaveAll f blocks r
all_put f k blocks (to.Moved job scan mover) h all = (k, record { has = h; all = all })
all_put f k blocks (to.Kept picture) h all = all_kept h all

-- INTO THE DATA of the output's scan

module _ (job : Bor Job) (scan : Bor SoleScan) {old : RowMover} {row : Coefs} where
  -- one more row
  pub puts_one : {new : RowMover} → MovesRow old row new → Puts (to.Moved job scan old) row (to.Moved job scan new)
  puts_one moves = record {
    same = (refl, refl);
    puts = λ f k blocks can. moves (scan_moved f job.now scan.now) k blocks (record { has = can.put; next = can.next; lends = can.lends });
  }

  -- whether there are all
  module _ {whole : Bool} (told : (w : MovedScan) (k : ℕ) (blocks : Blocks) → HasMoved w k blocks old → TellsWhole w k whole) where
    -- there are
    pub none_missing : whole ≡ true → EndsRows (to.Moved job scan old) row (to.Moved job scan old)
    none_missing e = record {
      same = (refl, refl);
      ends = λ f k blocks can. (k, record { has = can.put; all = (told (scan_moved f job.now scan.now) k blocks can.put).all e });
    }

    module _ (e : whole ≡ false) where
      next_row : {f : Frame} {k : ℕ} {blocks : Blocks} → CanEndRows f k blocks row (to.Moved job scan old) → CanMove (scan_moved f job.now scan.now) k blocks row old
      next_row {f} {k} {blocks} can =
          let low = (told (scan_moved f job.now scan.now) k blocks can.put).more e in
          record { has = can.put; next = low; lends = can.work low }

      rest_rows : {f : Frame} {k : ℕ} {blocks : Blocks} {new : RowMover} → CanEndRows f k blocks row (to.Moved job scan old) → MovesRow old row new → CanMoveZeros (scan_moved f job.now scan.now) (k + 1) blocks new
      rest_rows {f} {k} {blocks} can moves = record { has = moves (scan_moved f job.now scan.now) k blocks (next_row can); zero = λ i x y real from. can.later i x y from }

  pub moves_next : {f : Frame} {k : ℕ} {blocks : Blocks} {whole : Bool} → CanEndRows f k blocks row (to.Moved job scan old)
      → ((w : MovedScan) (k : ℕ) (blocks : Blocks) → HasMoved w k blocks old → TellsWhole w k whole) → whole ≡ false → (w : MovedScan) × (k : ℕ) × (blocks : Blocks) × CanMove w k blocks row old
  moves_next {f} {k} {blocks} can told e = (scan_moved f job.now scan.now, k, blocks, next_row told e can)

  pub moves_rest : {f : Frame} {k : ℕ} {blocks : Blocks} {whole : Bool} {new : RowMover} → CanEndRows f k blocks row (to.Moved job scan old)
      → ((w : MovedScan) (k : ℕ) (blocks : Blocks) → HasMoved w k blocks old → TellsWhole w k whole) → whole ≡ false → MovesRow old row new
      → (w : MovedScan) × (k : ℕ) × (blocks : Blocks) × CanMoveZeros w k blocks new
  moves_rest {f} {k} {blocks} can told e moves = (scan_moved f job.now scan.now, k + 1, blocks, rest_rows told e can moves)

  pub ends_moved : {whole : Bool} {mid new : RowMover} → ((w : MovedScan) (k : ℕ) (blocks : Blocks) → HasMoved w k blocks old → TellsWhole w k whole) → whole ≡ false → MovesRow old row mid → MovesZeros mid new
      → EndsRows (to.Moved job scan old) row (to.Moved job scan new)
  ends_moved told e moves ends = record { same = (refl, refl); ends = λ f k blocks can. ends (scan_moved f job.now scan.now) (k + 1) blocks (rest_rows told e can moves) }

-- INTO A PICTURE

module _ {old : RowPicture} {row : Coefs} {whole : Bool} (told : (f : Frame) (k : ℕ) (blocks : Blocks) → HasKept f k blocks old → IsToldWhole f k whole) where
  pub all_there : whole ≡ true → EndsRows (to.Kept old) row (to.Kept old)
  all_there e = record { same = tt; ends = λ f k blocks can. all_kept can.put ((told f k blocks can.put).all e) }

  pub ends_kept : {new : RowPicture} → whole ≡ false → KeepsRow old row new → EndsRows (to.Kept old) row (to.Kept new)
  ends_kept e keeps = record {
    same = tt;
    ends = λ f k blocks can.
        (let low = (told f k blocks can.put).more e in
        rest_kept (keeps f k blocks (record { has = can.put; next = low; lends = can.work low })) can.later);
  }
