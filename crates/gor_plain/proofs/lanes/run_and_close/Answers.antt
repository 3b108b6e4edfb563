use Rattle.std.proofs.Common.{rules, ◌≡◌, List, [], length, map, reverse, ap, ◌∙◌}
use Rattle.gor_plain.specs.declared.lanes.Lane.{Lane}
use Rattle.gor_plain.specs.Lanes.{pass_of}
use Rattle.gor_plain.proofs.Running.{all_idle, idle_again, all_covered, taken}
use Rattle.gor_plain.proofs.lanes.run_and_close.Goals as goal

pub run_and_look-requires-clause-passes : goal.run_and_look-requires-clause-passes
run_and_look-requires-clause-passes g c κs within =
    let before : List Lane = c.as_mut_slice.result.now in
    let size : length c.args.opened.passes.items ≡ c.args.opened.hall.lanes = search rules in
    let seated : map pass_of before ≡ reverse c.args.opened.passes.items = ap (map pass_of) c.as_mut_slice.ensures.value ∙ c.seat_lanes.ensures.lanes in
    all_idle c.args.opened.hall c.args.opened.passes.items c.args.opened.hall.lanes before before [] size c.requires.passes seated

pub close-requires-clause-passes : goal.close-requires-clause-passes
close-requires-clause-passes g c =
    let before : List Lane = c.as_mut_slice.result.now in let after : List Lane = c.run_and_look.new.lanes in
    let size : length c.args.opened.passes.items ≡ c.args.opened.hall.lanes = search rules in
    let seated : map pass_of before ≡ reverse c.args.opened.passes.items = ap (map pass_of) c.as_mut_slice.ensures.value ∙ c.seat_lanes.ensures.lanes in
    let same : length after ≡ length before = search rules in
    let whole : c.seat_lanes.new.lanes.len ≡ length after = search rules in
    let left : c.take_passes-all.new.passes.items ≡ reverse (map pass_of after) = c.take_passes-all.ensures ∙ ap (λ (xs : List Lane). reverse (map pass_of xs)) (taken _ _ _ whole) in
    idle_again c.args.opened.hall c.args.opened.passes.items c.args.opened.hall.lanes before after c.take_passes-all.new.passes.items size c.requires.passes seated same c.run_and_look.ensures.back left

pub close-requires-clause-all : goal.close-requires-clause-all
close-requires-clause-all g c =
    let before : List Lane = c.as_mut_slice.result.now in let after : List Lane = c.run_and_look.new.lanes in
    let size : length c.args.opened.passes.items ≡ c.args.opened.hall.lanes = search rules in
    let seated : map pass_of before ≡ reverse c.args.opened.passes.items = ap (map pass_of) c.as_mut_slice.ensures.value ∙ c.seat_lanes.ensures.lanes in
    let same : length after ≡ length before = search rules in
    let whole : c.seat_lanes.new.lanes.len ≡ length after = search rules in
    let left : c.take_passes-all.new.passes.items ≡ reverse (map pass_of after) = c.take_passes-all.ensures ∙ ap (λ (xs : List Lane). reverse (map pass_of xs)) (taken _ _ _ whole) in
    all_covered c.args.opened.hall c.args.opened.passes.items c.args.opened.hall.lanes before after c.take_passes-all.new.passes.items size c.requires.passes seated same c.run_and_look.ensures.back left
