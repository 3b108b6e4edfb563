use Rattle.std.proofs.lemmas.Result.{IfOk-weaker}
use Rattle.gor_block.specs.PointBlock.{IsBytesOf}
use Rattle.gor_block.proofs.BytesLaws.{written}
use Rattle.gor_block.proofs.block.Block.to_bytes.Goals as goal

pub returns : goal.returns
returns c =
    let q = c.self.inside in
    IfOk-weaker c.bytes_of.result _ (λ bytes. IsBytesOf c.args.self.now bytes.items)
    (λ bytes is. written q.unit q.window q.count q.bits.bits q.running q.bits.spare c.args.self.now c.as_bytes.result.now bytes.items c.self.invariant c.self.view_is c.requires c.as_bytes.ensures is) c.bytes_of.ensures
