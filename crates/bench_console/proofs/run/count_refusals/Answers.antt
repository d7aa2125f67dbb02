use Rattle.std.proofs.Common.{◌∙◌, rules}
use Rattle.std.proofs.lemmas.Iterator.{YieldsList-from_slice}
use Rattle.std.proofs.lemmas.Iterator.Consumers.{count_from_yields_List, YieldsList-at, YieldsList-from_filter}
use Rattle.std.proofs.lemmas.List.Sums.{length-filter}
use borrow.Author.Tests.{tests}
use Rattle.runs.specs.declared.script.Step.{Step}
use Rattle.bench_console.specs.Consoles.{Lists}
use Rattle.bench_console.specs.Runs.{is_refused}
use Rattle.bench_console.proofs.run.count_refusals.Goals as goal

pub returns : goal.returns
returns c =
    count_from_yields_List c.filter.result _ c.count.ensures.ran
    (YieldsList-from_filter _ (λ (x : Step Lists). is_refused x.reply) (YieldsList-at c.filter.ensures.source (YieldsList-from_slice c.args.steps.now c.iter.ensures.rest)) c.filter.ensures.closure (λ x b q k. search (rules, tests)))
    ∙ length-filter (λ (x : Step Lists). is_refused x.reply) c.args.steps.now
