use Rattle.std.proofs.Common.{◌≡◌, ℕ, List, take, Some, None, Option}
use Rattle.std.specs.Prelude.{IfSome}
use Rattle.round_viewer.specs.Lines.{text}
use Rattle.round_viewer.specs.Views.{Views}
use Rattle.round_viewer.proofs.Screens.{whole_shown}
use Rattle.round_viewer.proofs.screen_of.Goals as goal

known : (bytes output : List ℕ) (input : Option (List ℕ)) → IfSome input (λ all. bytes ≡ take 101 all) → Views bytes output → IfSome input (λ all. Views all output)
known bytes output (Some all) is views = whole_shown all output (rw is at views)
known bytes output None is views = is

pub returns-clause-some : goal.returns-clause-some
returns-clause-some g c = (c.in_ok-filled.filled, c.in_ok-filled.ensures.within, c.shown.ensures)

pub returns-clause-whole : goal.returns-clause-whole
returns-clause-whole g c =
    known (take c.in_ok-filled.filled c.read_input.new.buffer) (text c.shown.result) (g.R.Read.remaining c.args.input) c.in_ok-filled.ensures.bytes c.shown.ensures
