-- A call that names each refusal and was not refused had nothing against it.
use Rattle.std.proofs.Common.{refl, ◌≡◌, Option, Some, None, Ok, Err}

pub none_refused : {T E : Type 0} (done : T) (refusal : Option E)
    → ((error : E) → refusal ≡ Some error → Ok done ≡ Err error) → refusal ≡ None
none_refused done None h = refl
none_refused done (Some error) h = cc (h error refl)
