-- The image writer of this crate as a state.
use Rattle.std.specs.Prelude.{[]}
use Rattle.jpg_spec_image.specs.declared.image.EndKind.TheVariants.{Targa}
use Rattle.jpg_pnm_bmp.specs.EndState.{EndState}
use Rattle.jpg_targa.specs.declared.end.TargaEnd.{TargaEnd}

-- a Targa writer keeps no rows, and has nothing to append after them
abbrev pub targa_state : TargaEnd → EndState
targa_state t = record { kind = Targa; info = t.info; taken = t.taken; held = []; parts = 0; done = t.done }
