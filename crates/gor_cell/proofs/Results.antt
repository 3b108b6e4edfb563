-- What holds of both answers of a call.
use Rattle.std.specs.Prelude.{Result, Ok, Err, OnOk, OnErr}

pub on_both : {A E : Type 0} (r : Result A E) (P Q R : Type 0) → OnOk r P → OnErr r Q → (P → R) → (Q → R) → R
on_both (Ok x) P Q R p q f g = f p
on_both (Err e) P Q R p q f g = g q
