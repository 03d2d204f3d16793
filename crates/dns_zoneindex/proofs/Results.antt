-- What is known of a result, if it is one.
use Rattle.std.specs.Prelude.{Result, Ok, Err, IfOk}

pub if_ok : {T E : Type 0} {P Q : T → Type 0} (r : Result T E) → ((t : T) → P t → Q t) → IfOk r P → IfOk r Q
if_ok (Ok t) f h = f t h
if_ok (Err e) f h = h
