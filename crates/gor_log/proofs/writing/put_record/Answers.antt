use Rattle.std.proofs.Common.{[], ◌∷◌, ◌++◌}
use Rattle.std.specs.Int.{w32, w64, to_be_bytes}
use Rattle.gor_model.proofs.FieldLaws.{joined}
use Rattle.gor_log.proofs.writing.put_record.Goals as goal

pub returns-in-Seal : goal.returns-in-Seal
returns-in-Seal c =
    let fields = to_be_bytes w64 c.in-Seal.uid ++ to_be_bytes w32 c.in-Seal.window in
    rw c.in-Seal.is (joined c.args.out.now.items c.push_reserved-in-Seal.new.self.items c.put_seal.new.out.items (3 ∷ []) fields c.push_reserved-in-Seal.ensures.items c.put_seal.ensures)
