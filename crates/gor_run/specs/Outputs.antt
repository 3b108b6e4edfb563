-- What was written to a sink.
use Rattle.std.specs.Prelude.{◌≡◌, ◌++◌, ◌∷◌, [], ℕ, List, Option}
use Rattle.std.specs.Io.KnownBytes.{Appends}
use Rattle.gor_text.specs.Transcripts.{Served, phase_text_from, text_of}

-- the sink grew by a front of the text, and something of it is left
pub record AppendsPart (before after : Option (List ℕ)) (text : List ℕ) : Type 0 where
  pub front : List ℕ
  pub rest : List ℕ
  pub parted : text ≡ front ++ rest
  pub left : ¬ (rest ≡ [])
  pub written : Appends before after front

-- The sink grew by the text of all of these phases but the last one, and then by a front of the text of that one, of which
-- something is left: it is the first whose text the sink does not hold whole.
pub record AppendsUntil (before after : Option (List ℕ)) (served : List (List (List Served))) : Type 0 where
  pub whole : List (List (List Served))
  pub last : List (List Served)
  pub are : served ≡ whole ++ last ∷ []
  pub front : List ℕ
  pub rest : List ℕ
  pub parted : phase_text_from 0 last ≡ front ++ rest
  pub left : ¬ (rest ≡ [])
  pub written : Appends before after (text_of whole ++ front)
