use Rattle.jpg_prog_read.proofs.GridPlaces.{first_left}
use Rattle.jpg_prog_read.proofs.places.Places.place.Goals as goal

pub returns : goal.returns
returns c = (let i = c.self.inside in first_left i.component i.wide i.high i.column i.row c.self.invariant c.self.view_is c.requires)
