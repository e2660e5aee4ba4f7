-- The image writers of this crate as states.
use Rattle.std.specs.Prelude.{ℕ, zero, suc, nat_lt, List, [], ◌∷◌, take, drop}
use Rattle.jpg_spec_image.specs.ImageText.{row_bytes}
use Rattle.jpg_spec_image.specs.declared.image.EndKind.TheVariants.{Pnm, Bmp}
use Rattle.jpg_pnm_bmp.specs.declared.write.pnm.PnmEnd.{PnmEnd}
use Rattle.jpg_pnm_bmp.specs.declared.write.bmp.BmpEnd.{BmpEnd}
use Rattle.jpg_pnm_bmp.specs.EndState.{EndState, info_given}

-- a PNM writer keeps no rows, and has nothing to append after them
abbrev pub pnm_state : PnmEnd → EndState
pnm_state p = record { kind = Pnm; info = p.info; taken = p.taken; held = []; parts = 0; done = p.done }

-- a number of rows of this length, one after another
abbrev pub rows_of : ℕ → ℕ → List ℕ → List (List ℕ)
rows_of zero long bytes = []
rows_of (suc count) long bytes = take long bytes ∷ rows_of count long (drop long bytes)

-- a BMP writer is done when it has appended a header and all rows
abbrev pub bmp_state : BmpEnd → EndState
bmp_state b = record {
  kind = Bmp;
  info = b.info;
  taken = b.taken;
  held = rows_of b.taken (row_bytes (info_given b.info)) b.rows.items;
  parts = b.parts;
  done = nat_lt b.taken b.parts;
}
