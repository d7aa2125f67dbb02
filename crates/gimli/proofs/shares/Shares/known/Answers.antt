use Rattle.std.proofs.Common.{◌≡◌, [], ◌∷◌, length, ◌∙◌, rules}
use Rattle.gimli.proofs.SharedStrings.{three_shares}
use Rattle.gimli.proofs.shares.Shares.known.Goals as goal

pub returns : goal.returns
returns c =
    let long : length c.args.self.share ≡ 3 = search rules in
    let each : c.known.result ∷ c.known-2.result ∷ c.known-3.result ∷ [] ≡ c.args.self.share =
    (λ i. c.known.ensures.same i ∷ c.known-2.ensures.same i ∷ c.known-3.ensures.same i ∷ []) ∙ three_shares c.args.self.share long in
    record {
      same = λ i. record { share = each i };
      whole = record { zeroth = c.known.ensures.whole; first = c.known-2.ensures.whole; second = c.known-3.ensures.whole };
    }
