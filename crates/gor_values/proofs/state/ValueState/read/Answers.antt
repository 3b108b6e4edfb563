use Rattle.std.proofs.Common.{◌≡◌, Bool, drop, true, false, ap, sym, subst, ◌∙◌}
use Rattle.gor_values.specs.Words.{ValueMark}
use Rattle.gor_values.proofs.Found.{IsSound, found_behind, found_first, shown_in_word}
use Rattle.gor_values.proofs.state.ValueState.read.Goals as goal

pub returns-then-self-clause-found : goal.returns-then-self-clause-found
returns-then-self-clause-found c =
    let m = c.args.self.now in
    let v = c.self.view_is in
    let sound : IsSound m = subst (λ (k : ValueMark). IsSound k) v (record { last = c.self.invariant; window = shown_in_word c.self.inside.window }) in
    let begun : m.begun ≡ true = sym (ap {B = Bool} (λ (k : ValueMark). k.begun) v) ∙ c.if-self.true in
    found_behind m (drop c.args.at c.args.bits.now.bits) c.args.at c.read_behind.result sound begun c.read_behind.ensures.ok c.read_behind.ensures.err

pub returns-else-self-clause-found : goal.returns-else-self-clause-found
returns-else-self-clause-found c =
    let m = c.args.self.now in
    let v = c.self.view_is in
    let sound : IsSound m = subst (λ (k : ValueMark). IsSound k) v (record { last = c.self.invariant; window = shown_in_word c.self.inside.window }) in
    let begun : m.begun ≡ false = sym (ap {B = Bool} (λ (k : ValueMark). k.begun) v) ∙ c.if-self.false in
    found_first m (drop c.args.at c.args.bits.now.bits) c.args.at c.read_first.result sound begun c.read_first.ensures.ok c.read_first.ensures.err
