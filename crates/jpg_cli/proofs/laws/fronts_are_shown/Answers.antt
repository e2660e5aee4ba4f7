use Rattle.jpg_cli.proofs.Outcomes.Certain.{front_certain}
use Rattle.jpg_cli.proofs.Outcomes.Faulty.{front_faulty}
use Rattle.jpg_desk.proofs.FrontJudged.{front_refused_once}
use Rattle.jpg_cli.proofs.laws.fronts_are_shown.Goals as goal

pub returns-clause-certain : goal.returns-clause-certain
returns-clause-certain c = λ scans s old has new why none shown. front_certain scans s old new why has none shown

pub returns-clause-faulty : goal.returns-clause-faulty
returns-clause-faulty c = λ scans s f old has new why none shown. front_faulty scans s f old new why has none shown

pub returns-clause-one : goal.returns-clause-one
returns-clause-one c = λ scans gray input f g a b. front_refused_once scans gray input f g a b
