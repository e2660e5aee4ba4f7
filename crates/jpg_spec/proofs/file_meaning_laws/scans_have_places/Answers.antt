use Rattle.jpg_spec.proofs.Places.PlacesSome.{head_units_some}
use Rattle.jpg_spec.proofs.file_meaning_laws.scans_have_places.Goals as goal

pub returns : goal.returns
returns c = λ f head is h. head_units_some f head is h
