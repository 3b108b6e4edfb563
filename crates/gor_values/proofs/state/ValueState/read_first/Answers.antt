use Rattle.std.proofs.Common.{◌≡◌, ap}
use Rattle.std.specs.Prelude.{Option}
use Rattle.gor_model.specs.Codes.{ValueWindow}
use Rattle.gor_values.specs.Words.{ValueMark, window_shown}
use Rattle.gor_values.proofs.Marks.{first_word}
use Rattle.gor_values.proofs.state.ValueState.read_first.Goals as goal

pub returns-clause-ok : goal.returns-clause-ok
returns-clause-ok c =
    let window : window_shown c.self.inside.window ≡ c.args.self.now.window = ap {B = Option ValueWindow} (λ (x : ValueMark). x.window) c.self.view_is in
    first_word c.args.self.now c.args.bits.now.bits c.args.at c.in-Some.word (window_shown c.self.inside.window) c.requires c.in-Some.ensures.value window
