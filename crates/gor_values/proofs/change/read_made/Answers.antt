use Rattle.std.proofs.Common.{◌+◌, ◌/◌, ◌%◌, refl, arith, length-drop}
use Rattle.gor_values.specs.Words.{window_shown}
use Rattle.gor_values.proofs.Readings.{short_head, short_piece, made_changed, made_wrong}
use Rattle.gor_values.proofs.change.read_made.Goals as goal

pub returns-in_default-clause-err : goal.returns-in_default-clause-err
returns-in_default-clause-err c =
    let all = c.args.bits.now.bits in
    (refl, short_head (window_shown c.args.window) all c.args.at 0 0 64 c.requires refl refl (omega (arith, c.in_default.ensures.none, length-drop c.args.at all)))

pub returns-in_default-get-clause-err : goal.returns-in_default-get-clause-err
returns-in_default-get-clause-err c =
    let all = c.args.bits.now.bits in
    let head = c.in-Some.head in
    (refl, short_piece (window_shown c.args.window) all c.args.at head (head / 64 % 32) ((head + 63) % 64 + 1) c.requires refl refl c.in-Some.ensures.value (omega (arith, c.in_default-get.ensures.none, length-drop c.args.at all)))

pub returns-in_default-made_of-clause-err : goal.returns-in_default-made_of-clause-err
returns-in_default-made_of-clause-err c =
    let head = c.in-Some.head in
    (refl, made_wrong (window_shown c.args.window) c.args.bits.now.bits c.args.at head (head / 64 % 32) ((head + 63) % 64 + 1) c.requires refl refl c.in-Some.ensures.value c.in-Some-get.piece c.in-Some-get.ensures.value c.in_default-made_of.ensures.none)

pub returns-clause-ok : goal.returns-clause-ok
returns-clause-ok c =
    let head = c.in-Some.head in
    made_changed (window_shown c.args.window) c.args.bits.now.bits c.args.at head (head / 64 % 32) ((head + 63) % 64 + 1) c.requires refl refl c.in-Some.ensures.value c.in-Some-get.piece c.in-Some-get.ensures.value c.in-Some-made_of.x c.in-Some-made_of.ensures.some
