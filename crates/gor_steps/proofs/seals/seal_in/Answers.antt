use Rattle.std.proofs.Common.{[], Option, Some, sym, subst}
use Rattle.gor_cell.specs.Packed.{Packed}
use Rattle.gor_cell.specs.Stands as cells
use Rattle.gor_journal.specs.Bodies.{Pending}
use Rattle.gor_journal.specs.Stands as journals
use Rattle.gor_steps.proofs.seals.seal_in.Goals as goal

pub returns-in-Ok-seal-clause-ok : goal.returns-in-Ok-seal-clause-ok
returns-in-Ok-seal-clause-ok c = let same = c.reserve_seal.ensures.same in record {
  told = c.in-Ok.ensures.told;
  cell = λ share st. c.in-Ok-seal.ensures.share share (subst (λ (p : Option Packed). cells.Stands p (Some share)) (sym same.cell) st);
  pieces = c.in-Ok-seal.ensures.blocks;
  journal = λ key share st. c.append_reserved-number.ensures.stands [] key share (subst (λ (p : Pending). journals.Stands p share) (sym same.journal) st);
}
