-- What is shown for an input.
use Rattle.std.specs.Prelude.{List, ◌++◌, take, drop, vec_items, codes, decimal, ℕ}
use Rattle.engine.specs.Refusals.{refused}
use Rattle.bench_console.specs.Runs.{run_text}
use Rattle.bench_console.specs.declared.screen.Screen.{Screen}
use Rattle.bench_console.specs.declared.screen.Screen.TheVariants.{NotUnderstood, Refused, Ran}

-- a screen as it is displayed
abbrev pub text : Screen → List ℕ
text (NotUnderstood l) = codes "line " ++ (decimal l ++ codes ": not understood\n")
text (Refused l e) = codes "line " ++ (decimal l ++ (codes ": " ++ (refused e ++ codes "\n")))
text (Ran run) = run_text (take run.ran (vec_items run.steps)) (drop run.ran (vec_items run.steps))
