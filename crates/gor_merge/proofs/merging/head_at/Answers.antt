use Rattle.std.proofs.Common.{◌≡◌, List, [], ap, sym, ◌∙◌}
use Rattle.std.specs.Prelude.{option_map, slice_get}
use Rattle.std.proofs.lemmas.List.{get_or_read}
use Rattle.gor_model.specs.declared.point.Point.{Point}
use Rattle.gor_merge.specs.Heads.{points_at}
use Rattle.gor_merge.proofs.HeadLaws.{head_read, placed}
use Rattle.gor_merge.proofs.merging.head_at.Goals as goal

pub returns-in_err-point : goal.returns-in_err-point
returns-in_err-point c =
    let list : c.index-lists-place.result ≡ points_at c.args.lists.now c.args.place = get_or_read _ _ _ c.requires.there c.index-lists-place.is [] in
    let read : slice_get (points_at c.args.lists.now c.args.place) c.args.taken ≡ c.get.result = ap (λ (ps : List Point). slice_get ps c.args.taken) (sym list) ∙ sym c.get.ensures in
    c.from_residual.ensures ∙ sym (ap (option_map (placed c.args.place)) (read ∙ c.in_err-point.was)) ∙ head_read c.args.place c.args.taken (points_at c.args.lists.now c.args.place)

pub returns : goal.returns
returns c =
    let list : c.index-lists-place.result ≡ points_at c.args.lists.now c.args.place = get_or_read _ _ _ c.requires.there c.index-lists-place.is [] in
    let read : slice_get (points_at c.args.lists.now c.args.place) c.args.taken ≡ c.get.result = ap (λ (ps : List Point). slice_get ps c.args.taken) (sym list) ∙ sym c.get.ensures in
    sym (ap (option_map (placed c.args.place)) (read ∙ c.in_ok-point.was)) ∙ head_read c.args.place c.args.taken (points_at c.args.lists.now c.args.place)
