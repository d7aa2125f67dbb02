use Rattle.runs.proofs.Stepping.{stepped_issue, stepped_engine}
use Rattle.runs.proofs.run.step.Goals as goal

pub returns-in-Issue : goal.returns-in-Issue
returns-in-Issue g c d =
    stepped_issue g.E.Engine.meaning g.E.Engine.rule g.L.ItemList.string c.args.stage c.args.book.now c.args.script.now c.args.at d c.index-script-at.result c.index-script-at-in-Issue.result c.issue.new.self c.requires
    c.issue.new.book c.in-Issue.is c.issue.ensures

pub returns-in_default : goal.returns-in_default
returns-in_default g c d =
    stepped_engine g.E.Engine.meaning g.E.Engine.rule g.L.ItemList.string c.args.stage c.args.book.now c.args.script.now c.args.at d c.index-script-at.result c.index-script-at-in_default.result c.advance.new.step c.requires
    c.nonce_for-nonce.result c.nonce_for-nonce.new.script c.advance.result c.nonce_for-nonce.auto.script c.in_default.not-Issue (c.nonce_for-nonce.ensures d) c.advance.ensures
