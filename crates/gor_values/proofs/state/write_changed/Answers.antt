use Rattle.std.proofs.Common.{◌≡◌, [], ◌∷◌, ◌++◌, ◌-◌, ◌/◌, ◌%◌, ◌^◌, true, false, ap, ap₂, sym, ◌∙◌}
use Rattle.std.specs.Prelude.{Some}
use Rattle.gor_model.specs.Codes.{bits, ValueWindow, changed_code, new_code, window_for, stored_bits, fits}
use Rattle.gor_values.specs.Words.{window_shown}
use Rattle.gor_values.proofs.Pushes.{follows, follows_twice, follows_as}
use Rattle.gor_values.proofs.WordLaws.{changed_zero, changed_fits, changed_new}
use Rattle.gor_values.proofs.state.write_changed.Goals as goal
use Rattle.gor_values.proofs.state.write_changed.Goals.{in-Some+else-holds, in_default}

pub returns-then-x-eq0-clause-bits : goal.returns-then-x-eq0-clause-bits
unfolding bits
returns-then-x-eq0-clause-bits c =
    follows_as c.args.bits.now c.push_reserved.new.self (bits 1 0) (changed_code (window_shown c.args.window) c.args.x)
    (follows c.args.bits.now c.push_reserved.new.self 1 0 c.push_reserved.ensures) (sym (changed_zero (window_shown c.args.window) c.args.x c.if-x-eq0.true))

pub returns-then-holds-clause-bits : goal.returns-then-holds-clause-bits
unfolding bits
returns-then-holds-clause-bits c =
    let x = c.args.x in
    let held = c.in-Some.held in
    let w : ValueWindow = record { lead = held.lead; len = held.len } in
    let is : window_shown c.args.window ≡ Some w = ap window_shown c.in-Some.is in
    let fit : fits x (Some w) ≡ true = sym c.holds.ensures.value ∙ c.if-holds.true in
    let code : (true ∷ false ∷ []) ++ stored_bits w x ≡ changed_code (window_shown c.args.window) x =
    sym (changed_fits (Some w) x c.if-x-eq0.false fit) ∙ ap (λ v. changed_code v x) (sym is) in
    let first = c.push_reserved-then-holds.new.self in
    let last = c.push_reserved-then-holds-2.new.self in
    let a = follows c.args.bits.now first 2 2 c.push_reserved-then-holds.ensures in
    let b = follows first last held.len (x / 2 ^ (64 - held.lead - held.len)) c.push_reserved-then-holds-2.ensures in
    follows_as c.args.bits.now last _ _ (follows_twice c.args.bits.now first last (bits 2 2) (stored_bits w x) a b) code

pub returns-clause-bits : goal.returns-clause-bits
unfolding bits
returns-clause-bits c =
    let x = c.args.x in
    let made = c.of-made.result in
    let w : ValueWindow = record { lead = made.lead; len = made.len } in
    let same : w ≡ window_for x = ap₂ {C = ValueWindow} (λ a b. record { lead = a; len = b }) c.of-made.ensures.lead c.of-made.ensures.len in
    let unfit : fits x (window_shown c.args.window) ≡ false = elim c.match-window.branch [
      | in-Some+else-holds v ↦ ap (λ o. fits x (window_shown o)) v.in-Some.is ∙ sym v.holds.ensures.value ∙ v.if-holds.false
      | in_default v ↦ ap (λ o. fits x (window_shown o)) v.in_default.is
    ] in
    let code : new_code w x ≡ changed_code (window_shown c.args.window) x =
    ap (λ v. new_code v x) same ∙ sym (changed_new (window_shown c.args.window) x c.if-x-eq0.false unfit) in
    let old = c.args.bits.now in
    let s2 = c.push_reserved-2.new.self in
    let s3 = c.push_reserved-3.new.self in
    let s4 = c.push_reserved-4.new.self in
    let s5 = c.push_reserved-5.new.self in
    let a = follows old s2 2 3 c.push_reserved-2.ensures in
    let b = follows s2 s3 5 made.lead c.push_reserved-3.ensures in
    let d = follows s3 s4 6 (made.len % 64) c.push_reserved-4.ensures in
    let e = follows s4 s5 made.len (x / 2 ^ (64 - made.lead - made.len)) c.push_reserved-5.ensures in
    let ab = follows_twice old s2 s3 (bits 2 3) (bits 5 made.lead) a b in
    let abd = follows_twice old s3 s4 (bits 2 3 ++ bits 5 made.lead) (bits 6 (made.len % 64)) ab d in
    follows_as old s5 _ _ (follows_twice old s4 s5 (bits 2 3 ++ bits 5 made.lead ++ bits 6 (made.len % 64)) (stored_bits w x) abd e) code
