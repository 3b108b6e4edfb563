use Rattle.std.proofs.Common.{◌≡◌, ℕ, ◌<◌, ◌^◌, ◌+◌, drop, Bool, true, ap, ◌∙◌, arith, subst, sym}
use Rattle.std.specs.Prelude.{bit_xor}
use Rattle.gor_values.specs.Words.{ValueMark, window_shown, IsWordAt}
use Rattle.gor_values.proofs.Marks.{behind_word}
use Rattle.gor_values.proofs.state.ValueState.read_behind.Goals as goal

pub returns-clause-ok : goal.returns-clause-ok
returns-clause-ok c =
    let m = c.args.self.now in
    let v = c.self.view_is in
    let rest = drop c.args.at c.args.bits.now.bits in
    let x = c.in_ok-read.read.x in
    let shown : ValueMark = record { begun = c.self.inside.begun; last = c.self.inside.last; window = window_shown c.self.inside.window } in
    let word : c.word_after-word.result ≡ bit_xor x c.self.inside.last = c.word_after-word.ensures.value in
    let small : bit_xor x c.self.inside.last < 2 ^ 64 = omega (arith, word, c.word_after-word.ensures.small) in
    let begun : shown.begun ≡ true = ap {B = Bool} (λ (k : ValueMark). k.begun) v ∙ c.requires in
    let at_shown = behind_word shown rest c.args.at x c.in_ok-read.read.size (window_shown c.window_behind.result) begun c.in_ok-read.ensures.ok small c.window_behind.ensures in
    let whole = subst (λ (k : ValueMark). IsWordAt k rest c.args.at (bit_xor x c.self.inside.last) (c.args.at + c.in_ok-read.read.size) (record { begun = true; last = bit_xor x c.self.inside.last; window = window_shown c.window_behind.result })) v at_shown in
    subst (λ (n : ℕ). IsWordAt m rest c.args.at n (c.args.at + c.in_ok-read.read.size) (record { begun = true; last = n; window = window_shown c.window_behind.result })) (sym word) whole
