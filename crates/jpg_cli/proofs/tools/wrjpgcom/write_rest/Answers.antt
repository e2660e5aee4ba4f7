use Rattle.std.proofs.Common.{refl}
use Rattle.jpg_base.specs.declared.names.Put.TheVariants as put
use Rattle.jpg_cli.proofs.tools.wrjpgcom.write_rest.Goals as goal

pub returns-in-Done : goal.returns-in-Done
returns-in-Done g c = (let e = c.in-Done.ensures in record { wrote = put.Done; only = e.kept; after = (refl, e.written); empty = e.empty })

pub returns-in-Failed : goal.returns-in-Failed
returns-in-Failed g c = (let e = c.in-Failed.ensures in record { wrote = put.Failed; only = e.kept; after = (refl, e.written); empty = e.empty })
