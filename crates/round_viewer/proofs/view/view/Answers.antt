use Rattle.round_viewer.proofs.Screens.{answer_shown}
use Rattle.round_viewer.proofs.view.view.Goals as goal

pub returns : goal.returns
returns c = answer_shown c.args.input.now c.answer.result c.answer.ensures
