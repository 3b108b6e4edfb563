use Rattle.std.proofs.Common.{◌≡◌, ◌+◌, List, set, drop, ap, ◌∙◌, length, arith}
use Rattle.std.specs.Prelude.{Option}
use Rattle.std.specs.Vec.{with_item}
use Rattle.std.proofs.lemmas.List.{drop-set-add, with_items_is}
use Rattle.gor_model.specs.declared.point.Merged.{Merged}
use Rattle.gor_merge.proofs.tournament.Tournament.replace.Goals as goal

pub returns : goal.returns
returns c =
    let count = c.self.inside.count in
    let nodes = c.self.inside.nodes in
    let written = with_item nodes (count + c.args.place) c.args.head in
    let same : length c.play_above.new.nodes ≡ written.len = omega (arith, c.play_above.auto.nodes, c.deref_mut.ensures.len) in
    ap (drop count) (with_items_is written c.play_above.new.nodes same)
    ∙ c.play_above.ensures.heads
    ∙ ap (drop count) c.deref_mut.ensures.value
    ∙ drop-set-add count nodes.items c.args.place c.args.head
    ∙ ap (λ (hs : List (Option Merged)). set hs c.args.place c.args.head) c.self.view_is
