use Rattle.std.proofs.Common.{ℕ, Result, subst}
use Rattle.engine.specs.declared.refusal.Refusal.{Refusal}
use Rattle.cipher.specs.Sealings.{Wrote}
use Rattle.cipher.proofs.Records.{message_box, rest_stays}
use Rattle.cipher.proofs.record.seal_message.Goals as goal

pub returns-in-Ok-clause-seals : goal.returns-in-Ok-clause-seals
returns-in-Ok-clause-seals g c =
    let e = g.E.Engine in
    let key = c.args.key.now.bytes in
    let nonce = c.args.nonce.bytes in
    let ad = c.args.ad.now in
    let m = c.args.message.now in
    let wrote = subst (λ (r : Result ℕ Refusal). Wrote e.meaning e.rule c.closed_sealing.result m c.args.buffer.now c.write-closed.result.0 r c.write-closed.new.buffer) c.in-Ok.is c.write-closed.ensures in
    record {
      answer = wrote.0;
      room = wrote.1;
      box = message_box e.rule key nonce ad m _ _ _ _ _ c.closed_sealing.ensures wrote.2 c.finish.ensures.tag;
      rest = rest_stays e.rule m _ _ _ _ wrote.2;
    }
