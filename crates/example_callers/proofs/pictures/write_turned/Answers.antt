use Rattle.std.proofs.Common.{List, ℕ, [], ◌≡◌, ◌∷◌, refl, subst}
use Rattle.jpg_base.specs.declared.names.Name.{Name}
use Rattle.jpg_base.specs.declared.names.Name.TheVariants.{Out}
use Rattle.jpg_base.specs.Memory.{memory_outputs, memory_state}
use Rattle.jpg_transform.specs.Planned.{choice_view}
use Rattle.example_callers.proofs.Calls.{only_output}
use Rattle.example_callers.proofs.pictures.write_turned.Goals as goal

pub new-moved-requires : goal.new-moved-requires
new-moved-requires c = (choice_view c.args.choice.now, c.requires)

pub write_file-requires-clause-plan : goal.write_file-requires-clause-plan
write_file-requires-clause-plan c = (c.new-moved.ensures.writes (choice_view c.args.choice.now) c.requires).can

pub returns-in-Ok : goal.returns-in-Ok
returns-in-Ok c =
    let writes = c.new-moved.ensures.writes (choice_view c.args.choice.now) c.requires in
    let outputs = memory_outputs c.write_file.new.desk in
    subst (λ (due : List ℕ). outputs ≡ (let o : List (Name × List ℕ) = (Out, due) ∷ [] in o)) writes.text
    (only_output (memory_state c.new-desk.result) (memory_state c.create.new.self) (memory_state c.write_file.new.desk) _ outputs c.new-desk.ensures.nothing.outputs c.in-Done.ensures.desk c.in-Ok.ensures.bytes refl)
