-- A call on a handle, from the end that it holds before it and after it.
use Rattle.std.proofs.Common.{refl, ◌≡◌, Option, Some, Result, Err, ◌∙◌, ap, sym, subst}
use Rattle.stop_board.specs.Board.{Held}
use Rattle.c_interface.specs.declared.error.Error.{Error}
use Rattle.c_interface.specs.declared.error.Error.TheVariants as error
use Rattle.c_interface.specs.declared.births.MachineEnd.{MachineEnd}
use Rattle.c_interface.specs.declared.tracee_end.TraceeEnd.{TraceeEnd}
use Rattle.c_interface.specs.declared.tracer_end.TracerEnd.{TracerEnd}
use Rattle.pukzarn.specs.Call.{Holds, HoldsNo, HoldsOn, IsCallOn}
use Rattle.pukzarn.specs.declared.handle.Handle.{Handle}
use Rattle.pukzarn.specs.declared.handle_value.HandleValue.{HandleValue}
use Rattle.pukzarn.specs.declared.handle_value.HandleValue.TheVariants as ends

-- it holds none
pub none_held : {X T : Type 0} (kind : X → HandleValue) (a b : Handle) (answers : Result T Error → Type 0)
    (happens : X → X → Result T Error → Type 0) → HoldsNo kind a → HoldsOn a b → answers (Err error.EBADF)
    → IsCallOn kind a b answers happens
none_held kind a b answers happens none same told = record {
  refused = λ _. (same, told);
  stays = λ x is _. none x is;
  answered = λ x y is _. absurd (none x is);
}

-- it holds one, and a held end is one alone
pub one_held : {X T : Type 0} (kind : X → HandleValue) (a b : Handle) (answers : Result T Error → Type 0)
    (happens : X → X → Result T Error → Type 0) (part : X → Option HandleValue → X)
    → ((d x : X) → part d (Some (kind x)) ≡ x) → (x y : X) (done : Result T Error) → Holds a (kind x) → Holds b (kind y)
    → happens x y done → answers done → IsCallOn kind a b answers happens
one_held kind a b answers happens part parts x y done before after made told = record {
  refused = λ none. absurd (none x before);
  stays = λ z _ none. none y after;
  answered = λ z w is will.
      let old : x ≡ z = sym (parts x x) ∙ ap (part x) (sym before ∙ is) ∙ parts x z in
      let new : y ≡ w = sym (parts y y) ∙ ap (part y) (sym after ∙ will) ∙ parts y w in
      (done, subst (λ v. happens v w done) old (subst (λ v. happens x v done) new made), told);
}

board_in : Held → Option HandleValue → Held
board_in d (Some (ends.Board x)) = x
board_in d other = d

pub on_board : {T : Type 0} (a b : Handle) (answers : Result T Error → Type 0)
    (happens : Held → Held → Result T Error → Type 0) (x y : Held) (done : Result T Error) → Holds a (ends.Board x)
    → Holds b (ends.Board y) → happens x y done → answers done → IsCallOn ends.Board a b answers happens
unfolding board_in
on_board a b answers happens = one_held ends.Board a b answers happens board_in (λ d x. refl)

tracer_in : TracerEnd → Option HandleValue → TracerEnd
tracer_in d (Some (ends.Tracer x)) = x
tracer_in d other = d

pub on_tracer : {T : Type 0} (a b : Handle) (answers : Result T Error → Type 0)
    (happens : TracerEnd → TracerEnd → Result T Error → Type 0) (x y : TracerEnd) (done : Result T Error) → Holds a (ends.Tracer x)
    → Holds b (ends.Tracer y) → happens x y done → answers done → IsCallOn ends.Tracer a b answers happens
unfolding tracer_in
on_tracer a b answers happens = one_held ends.Tracer a b answers happens tracer_in (λ d x. refl)

tracee_in : TraceeEnd → Option HandleValue → TraceeEnd
tracee_in d (Some (ends.Tracee x)) = x
tracee_in d other = d

pub on_tracee : {T : Type 0} (a b : Handle) (answers : Result T Error → Type 0)
    (happens : TraceeEnd → TraceeEnd → Result T Error → Type 0) (x y : TraceeEnd) (done : Result T Error) → Holds a (ends.Tracee x)
    → Holds b (ends.Tracee y) → happens x y done → answers done → IsCallOn ends.Tracee a b answers happens
unfolding tracee_in
on_tracee a b answers happens = one_held ends.Tracee a b answers happens tracee_in (λ d x. refl)

machine_in : MachineEnd → Option HandleValue → MachineEnd
machine_in d (Some (ends.Machine x)) = x
machine_in d other = d

pub on_machine : {T : Type 0} (a b : Handle) (answers : Result T Error → Type 0)
    (happens : MachineEnd → MachineEnd → Result T Error → Type 0) (x y : MachineEnd) (done : Result T Error) → Holds a (ends.Machine x)
    → Holds b (ends.Machine y) → happens x y done → answers done → IsCallOn ends.Machine a b answers happens
unfolding machine_in
on_machine a b answers happens = one_held ends.Machine a b answers happens machine_in (λ d x. refl)
