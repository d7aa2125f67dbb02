use Rattle.std.proofs.Common.{◌≡◌, ℕ, ◌-◌, ◌++◌, length, take, sym, ap, ◌∙◌, arith}
use Rattle.std.proofs.lemmas.List.{append-nil, take_all}
use Rattle.sponge.specs.Steps.{standing, squeeze_bytes, squeeze_state}
use Rattle.sponge.proofs.Squeezing.{next_out, next_state, squeezes}
use Rattle.sponge.proofs.sponge.Sponge.squeeze.Goals as goal

pub loop-b-preserved : goal.loop-b-preserved
loop-b-preserved g c =
    let rule = g.E.Engine.rule in
    let n = length c.args.out.now in
    let i = c.loop-b.b-index in
    let within = c.loop-b-test.true in
    let moved = c.advance.ensures.state in (
      next_out rule c.loop-b.out n i _ _ _ within c.loop-b.auto.out c.byte.ensures moved ∙ c.loop-b.invariant.0,
      next_state rule n i _ _ within moved ∙ c.loop-b.invariant.1,
    )

pub returns : goal.returns
returns g c =
    let e = g.E.Engine in
    let i = c.loop-b.b-index in
    let n = length c.args.out.now in
    let out = c.loop-b.out in
    let start = standing e.meaning c.args.self in
    let here = standing e.meaning c.loop-b.self in
    let none : 0 ≡ n - i = omega arith in
    let long : n ≡ length out = sym c.loop-b.auto.out in
    let all : out ≡ take i out = sym (take_all i out (omega arith)) in
    squeezes e.rule g.met.E.Engine.keeps start out here
    (
    all
    ∙ sym (append-nil (take i out))
    ∙ ap (λ (k : ℕ). take i out ++ squeeze_bytes e.rule k here) none
    ∙ c.loop-b.invariant.0
    ∙ ap (λ (k : ℕ). squeeze_bytes e.rule k start) long
    )
    (ap (λ (k : ℕ). squeeze_state e.rule k here) none ∙ c.loop-b.invariant.1 ∙ ap (λ (k : ℕ). squeeze_state e.rule k start) long)
