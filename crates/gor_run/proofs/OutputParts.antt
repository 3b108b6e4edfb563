-- A text that is written piece by piece.
use Rattle.std.proofs.Common.{◌≡◌, ℕ, List, [], ◌++◌, take, drop, Option, refl, sym, ap, ◌∙◌, append_assoc, take-append-drop}
use Rattle.std.specs.Io.KnownBytes.{Appends}
use Rattle.gor_run.proofs.KnownParts.{grown_by_none, grown_twice}

-- a front of the text was written, and the rest is left
pub record WrittenSoFar (before after : Option (List ℕ)) (faults_before faults_after : ℕ) (text rest : List ℕ) : Type 0 where
  pub front : List ℕ
  pub parted : text ≡ front ++ rest
  pub written : Appends before after front
  pub quiet : faults_after ≡ faults_before

pub nothing_written : (before : Option (List ℕ)) (faults : ℕ) (text : List ℕ) → WrittenSoFar before before faults faults text text
nothing_written before faults text = record { front = []; parted = refl; written = grown_by_none before; quiet = refl }

pub goes_on : (before after later : Option (List ℕ)) (faults now then : ℕ) (text rest : List ℕ) (count : ℕ) → WrittenSoFar before after faults now text rest
    → Appends after later (take count rest) → then ≡ now → WrittenSoFar before later faults then text (drop count rest)
goes_on before after later faults now then text rest count w took same = record {
  front = w.front ++ take count rest;
  parted = w.parted ∙ (ap (λ (r : List ℕ). w.front ++ r) (sym (take-append-drop count rest)) ∙ sym (append_assoc w.front (take count rest) (drop count rest)));
  written = grown_twice before after later w.front (take count rest) w.written took;
  quiet = same ∙ w.quiet;
}
