use Rattle.jpg_cli.proofs.Outcomes.Faulty.{script_answered, input_answered, picture_answered, image_answered}
use Rattle.jpg_cli.proofs.laws.faults_are_answered.Goals as goal

pub returns-clause-script : goal.returns-clause-script
returns-clause-script c = λ a f old has new why none done. script_answered a f old new why has none done

pub returns-clause-input : goal.returns-clause-input
returns-clause-input c = λ a f old has new why none done. input_answered a f old new why has none done

pub returns-clause-picture : goal.returns-clause-picture
returns-clause-picture c = λ a f old has new why none done. picture_answered a f old new why has none done

pub returns-clause-shown : goal.returns-clause-shown
returns-clause-shown c = λ s f old has new why none done. image_answered s f old new why has none done
