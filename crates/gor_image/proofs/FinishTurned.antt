-- With the mark of a finish an image holds the same state by its new files.
use Rattle.std.proofs.Common.{◌≡◌, [], ◌∷◌, ◌++◌, sym, ap, subst, arith}
use Rattle.gor_disk.specs.declared.disk.FileId.TheVariants.{Marks, Keys, Log, Block}
use Rattle.gor_gate.specs.Gates.{IsClosed, gates}
use Rattle.gor_marks.specs.declared.mark.Mark.TheVariants.{Sealed}
use Rattle.gor_image.specs.Images.{current}
use Rattle.gor_image.specs.FinishLaws.{FinishTurns}
use Rattle.gor_image.proofs.NewIsThere.{current_push, new_files_are_there, numbers}
use Rattle.gor_image.proofs.TurnImage.{mark_turns}

pub finish_turns : FinishTurns
finish_turns shards shard given image m marks w k upto first_log start C before may taken done keys_closed log_closed pushes closed others =
    mark_turns shards shard given image m marks w k upto first_log start C before may (let t = taken in omega (arith, t))
    (new_files_are_there shards shard given m marks w k upto first_log start C before may (let t = taken in omega (arith, t)) done)
    (record {
      keys = λ n. ap gates (others (Keys n) (λ e. absurd (let both : Keys n ≡ Marks = e in cc)));
      logs = λ l. ap gates (others (Log l) (λ e. absurd (let both : Log l ≡ Marks = e in cc)));
      blocks = λ v. others (Block v) (λ e. absurd (let both : Block v ≡ Marks = e in cc));
    })
    pushes
    (record {
      marks = closed;
      keys = subst (λ n. IsClosed (image (Keys n))) (sym number) (subst IsClosed (sym (others (Keys k) (λ e. absurd (let both : Keys k ≡ Marks = e in cc)))) keys_closed);
      log = subst (λ n. IsClosed (image (Log n))) (sym number) (subst IsClosed (sym (others (Log k) (λ e. absurd (let both : Log k ≡ Marks = e in cc)))) log_closed);
    }) where
      number : current (m ∷ (marks ++ Sealed w k upto first_log ∷ [])) ≡ k
      number = let a = current_push (m ∷ marks) w k upto first_log may in let b = (numbers (m ∷ marks) w k upto first_log may).list in omega (arith, a, b)
