use Rattle.cipher.proofs.Records.{empty_box}
use Rattle.cipher.proofs.record.tag_data.Goals as goal

pub returns-clause-tag : goal.returns-clause-tag
returns-clause-tag g c = empty_box g.E.Engine.rule _ _ _ _ _ c.closed_sealing.ensures c.finish.ensures.tag
