-- What creating and writing an output does, over the states of a desk.
use Rattle.std.proofs.Common.{ℕ, List, take, Option, Ok, Err, sym, subst, arith}
use Rattle.jpg_base.specs.declared.names.Name.{Name}
use Rattle.jpg_base.specs.declared.names.Put.{Put}
use Rattle.jpg_base.specs.declared.names.Put.TheVariants as put
use Rattle.jpg_base.specs.declared.stop.WriteFault.{WriteFault}
use Rattle.jpg_base.specs.Desk.{DeskState, NotesName, Creates}
use Rattle.jpg_base.specs.Laws.{Grows-from}
use Rattle.jpg_huff.specs.Out.{OnlyWrites}
use Rattle.jpg_file.specs.Write.WriteFile.{AreAppended}
use Rattle.jpg_desk.specs.Writing.{AfterOutput}
use Rattle.jpg_desk.specs.declared.moved.Wrote.TheVariants as wrote

pub output_done : (s0 s1 s2 : DeskState) (output : Name) (due : List ℕ) → Creates s0 output put.Done s1 → OnlyWrites s1 s2 → AreAppended s1 due (Ok tt) s2 → AfterOutput output s0 due wrote.Done s2
output_done s0 s1 s2 output due h k w = (
  (let P : Option (List (Name × Put)) → Type 0 = λ a. NotesName s0.asked (output, put.Done) a in subst P (sym k.asked) h.asked),
  Grows-from s0.outputs s1.outputs s2.outputs output due h.after.1 w,
)

pub output_failed : (s0 s1 s2 : DeskState) (output : Name) (due : List ℕ) (fault : WriteFault) → Creates s0 output put.Done s1 → OnlyWrites s1 s2 → AreAppended s1 due (Err fault) s2 → AfterOutput output s0 due wrote.WriteFault s2
output_failed s0 s1 s2 output due fault h k w = (
  (let P : Option (List (Name × Put)) → Type 0 = λ a. NotesName s0.asked (output, put.Done) a in subst P (sym k.asked) h.asked),
  (let r = w.1 in let f = h.counts.writes in omega arith),
  (w.0.0, Grows-from s0.outputs s1.outputs s2.outputs output (take w.0.0 due) h.after.1 w.0.1),
)
