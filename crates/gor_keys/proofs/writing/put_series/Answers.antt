use Rattle.std.proofs.Common.{◌≡◌, ℕ, List, [], ◌∷◌, ◌++◌, length, ap, ◌∙◌}
use Rattle.std.specs.Int.{w32, w64, to_be_bytes}
use Rattle.gor_model.proofs.FieldLaws.{joined}
use Rattle.gor_keys.specs.Spelling.{floor_bytes}
use Rattle.gor_keys.proofs.writing.put_series.Goals as goal

pub returns-clause-ok : goal.returns-clause-ok
returns-clause-ok c =
    let start = c.args.out.now.items in
    let k = c.args.kind in
    let a = to_be_bytes w64 c.args.number in
    let b = to_be_bytes w32 c.args.slot in
    let f = floor_bytes c.args.unit c.args.floor in
    let n = length c.args.name.now ∷ c.args.name.now in
    let one : c.push_reserved.new.self.items ≡ start ++ k ∷ [] = c.push_reserved.ensures.items ∙ ap (λ (l : List ℕ). l ++ k ∷ []) c.in_ok-reserve.ensures.items in
    let two : c.put_u64.new.out.items ≡ start ++ k ∷ a = joined start c.push_reserved.new.self.items c.put_u64.new.out.items (k ∷ []) a one c.put_u64.ensures.items in
    let three : c.put_u32.new.out.items ≡ start ++ k ∷ (a ++ b) = joined start c.put_u64.new.out.items c.put_u32.new.out.items (k ∷ a) b two c.put_u32.ensures.items in
    let four : c.put_floor.new.out.items ≡ start ++ k ∷ ((a ++ b) ++ f) = joined start c.put_u32.new.out.items c.put_floor.new.out.items (k ∷ (a ++ b)) f three c.put_floor.ensures.items in
    joined start c.put_floor.new.out.items c.put_name.new.out.items (k ∷ ((a ++ b) ++ f)) n four c.put_name.ensures
