-- A tracee ends its row.
use Rattle.std.proofs.Common.{◌≡◌, ◌∙◌, ◌∷◌, [], List, ap, false, subst, sym, true}
use Rattle.std.specs.Arc.{arc_value}
use Rattle.stop_history.specs.Event as event
use Rattle.stop_history.specs.Word.{Word}
use Rattle.stop_table.specs.Entry.{Entry, bare}
use Rattle.stop_table.specs.Group.{IsBeside}
use Rattle.stop_table.specs.Handle.{EndsWith, StepsOnce}
use Rattle.stop_table.specs.Tracee.{IsTracee, TraceeHandle}
use Rattle.stop_table.proofs.Counting.{newest, then_exchanges}
use Rattle.stop_table.proofs.Tracees.{exited_tracee, held_tracee, holds_row, tracee_looked}
use Rattle.stop_table.proofs.Walking.{ends_from}
use Rattle.stop_table.proofs.tracee.Tracee.exit.Goals as goal

pub held_back_by-requires-clause-own : goal.held_back_by-requires-clause-own
held_back_by-requires-clause-own g c =
    let x = c.self.inside in
    let key = (arc_value x.cells).table.shared.key in
    let held = held_tracee key x.seat.me x.row x.word x.holder c.self.invariant.1
    (ap (λ (h : TraceeHandle). h.view.taken) c.self.view_is ∙ c.requires.0) in
    ap (λ (w : Word). w.births) (c.word.view_is ∙ c.taken_up-word.ensures ∙ (holds_row key x.seat.me x.row x.word held).2)

pub invariant_of-self : goal.invariant_of-self
invariant_of-self g c =
    let x = c.self.inside in
    let e = c.held_back_by.ensures.seat in (
      e.0.0 ∙ c.self.invariant.0,
      tracee_looked (arc_value x.cells).table.shared.key x.seat.me c.held_back_by.new.seat.me x.row x.word x.holder
          c.self.invariant.1 e.2 e.1,
    )

pub put_exit-requires-clause-tracee : goal.put_exit-requires-clause-tracee
put_exit-requires-clause-tracee g c =
    let x = c.self.inside in
    let key = (arc_value x.cells).table.shared.key in
    let held = held_tracee key x.seat.me x.row x.word x.holder c.self.invariant.1
    (ap (λ (h : TraceeHandle). h.view.taken) c.self.view_is ∙ c.requires.0) in
    let e = c.held_back_by.ensures.seat in
    let now = tracee_looked key x.seat.me c.held_back_by.new.seat.me x.row x.word true held e.2 e.1 in
    let h = holds_row key c.held_back_by.new.seat.me x.row x.word now in
    (now.tracees, now.taken, h.1, h.0)

pub put_exit-requires-clause-word : goal.put_exit-requires-clause-word
put_exit-requires-clause-word g c =
    let x = c.self.inside in
    let key = (arc_value x.cells).table.shared.key in
    let held = held_tracee key x.seat.me x.row x.word x.holder c.self.invariant.1
    (ap (λ (h : TraceeHandle). h.view.taken) c.self.view_is ∙ c.requires.0) in
    let e = c.held_back_by.ensures.seat in
    let now = tracee_looked key x.seat.me c.held_back_by.new.seat.me x.row x.word true held e.2 e.1 in
    c.taken_up-word.ensures ∙ (holds_row key c.held_back_by.new.seat.me x.row x.word now).2

pub invariant_of-self-2 : goal.invariant_of-self-2
invariant_of-self-2 g c =
    let x = c.self.inside in
    let key = (arc_value x.cells).table.shared.key in
    let held = held_tracee key x.seat.me x.row x.word x.holder c.self.invariant.1
    (ap (λ (h : TraceeHandle). h.view.taken) c.self.view_is ∙ c.requires.0) in
    let e = c.held_back_by.ensures.seat in
    let now = tracee_looked key x.seat.me c.held_back_by.new.seat.me x.row x.word true held e.2 e.1 in (
      c.put_exit.ensures.0.0 ∙ e.0.0 ∙ c.self.invariant.0,
      subst (IsTracee key c.put_exit.new.seat.me x.row x.word) (sym c.give-boxed.ensures.has_box)
          (exited_tracee key c.held_back_by.new.seat.me c.put_exit.new.seat.me x.row x.word c.args.death now
          c.put_exit.ensures.1).1,
    )

pub returns-clause-ok : goal.returns-clause-ok
returns-clause-ok g c =
    let x = c.self.inside in
    let key = (arc_value x.cells).table.shared.key in
    let held = held_tracee key x.seat.me x.row x.word x.holder c.self.invariant.1
    (ap (λ (h : TraceeHandle). h.view.taken) c.self.view_is ∙ c.requires.0) in
    let e = c.held_back_by.ensures.seat in
    let now = tracee_looked key x.seat.me c.held_back_by.new.seat.me x.row x.word true held e.2 e.1 in
    let done = exited_tracee key c.held_back_by.new.seat.me c.put_exit.new.seat.me x.row x.word c.args.death now
    c.put_exit.ensures.1 in
    let before : List Entry = done.0.0 in (
      before,
      subst (λ (h : TraceeHandle).
          EndsWith h.view c.put_exit.new.seat.me.0 before (bare (event.Exit h.row c.args.death))) c.self.view_is
          (ends_from x.seat.me.0 c.held_back_by.new.seat.me.0 c.put_exit.new.seat.me.0 before
          (bare (event.Exit x.row c.args.death)) e.2 done.0.1),
      done.1.taken,
    )

pub returns-clause-once : goal.returns-clause-once
returns-clause-once g c =
    let x = c.self.inside in
    let first = c.held_back_by.new.seat.me.0 in
    let last = c.put_exit.new.seat.me.0 in
    let done = c.put_exit.ensures.1 in
    subst (λ (h : TraceeHandle). StepsOnce (IsBeside h.view.roster h.row) (λ at. at ≡ h.row) h.view last) c.self.view_is
    (then_exchanges x.seat.me.0 first last x.row c.held_back_by.ensures.once
    (newest first last done.1 (bare (event.Exit x.row c.args.death) ∷ []) false done.2))
