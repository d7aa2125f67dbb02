-- How a run is shown.
use Rattle.std.specs.Prelude.{ℕ, ◌+◌, Bool, true, false, List, [], ◌∷◌, ◌++◌, length, count_by, codes, decimal}
use Rattle.runs.specs.Names.{call_name}
use Rattle.runs.specs.declared.script.Reply.{Reply}
use Rattle.runs.specs.declared.script.Reply.TheVariants.{NotRun, Done, Nonce, Length, Tag, Refused}
use Rattle.runs.specs.declared.script.Step.{Step}
use Rattle.bench_console.specs.Answers.{lines}

-- whether a call was refused
abbrev pub is_refused : Reply → Bool
is_refused NotRun = false
is_refused Done = false
is_refused (Nonce n) = false
is_refused (Length n) = false
is_refused (Tag t) = false
is_refused (Refused e) = true

-- how many of these calls were refused
abbrev pub refusals : {L : Type 0} → List (Step L) → ℕ
refusals xs = count_by (λ x. is_refused x.reply) xs

-- the line of a call that may not stand where it is
abbrev pub misplaced : {L : Type 0} → ℕ → Step L → List ℕ
misplaced n x = decimal n ++ (codes " " ++ (call_name x.call ++ codes ": not allowed here\n"))

-- the last line
abbrev pub totals : {L : Type 0} → List (Step L) → List ℕ
totals ran = decimal (length ran) ++ (codes " calls, " ++ (decimal (refusals ran) ++ codes " refused\n"))

-- a run: the calls that ran, the one that stopped it if one did, and how many were refused
abbrev pub run_text : {L : Type 0} → List (Step L) → List (Step L) → List ℕ
run_text ran [] = lines 1 ran ++ totals ran
run_text ran (x ∷ rest) = lines 1 ran ++ (misplaced (length ran + 1) x ++ totals ran)
