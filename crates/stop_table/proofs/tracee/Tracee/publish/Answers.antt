-- A tracee publishes a stop.
use Rattle.std.proofs.Common.{◌≡◌, ◌<◌, ◌∙◌, ◌∷◌, [], List, ap, false, length, subst, sym, true}
use Rattle.std.specs.Arc.{arc_value}
use Rattle.stop_history.specs.History.{creates_next}
use Rattle.stop_history.specs.Roster.{IsRoster}
use Rattle.stop_history.specs.Word.{Word}
use Rattle.stop_table.specs.Entry.{Entry, cell_after, publish_of}
use Rattle.stop_table.specs.Handle.{EndsWith, OnlyExchanges}
use Rattle.std.specs.Prelude.{IsSome}
use Rattle.trace_record.specs.Content.{Content}
use Rattle.trace_record.specs.Stop.{child_of}
use Rattle.stop_table.specs.Seat.{Published}
use Rattle.stop_table.specs.Tracee.{IsTracee, TraceeHandle}
use Rattle.stop_table.proofs.Births.{room_for_birth}
use Rattle.stop_table.proofs.Counting.{newest}
use Rattle.stop_table.proofs.Tracees.{held_tracee, holds_row, published_tracee}
use Rattle.stop_table.proofs.tracee.Tracee.publish.Goals as goal

pub published-new-requires-clause-birth : goal.published-new-requires-clause-birth
published-new-requires-clause-birth g c =
    let x = c.self.inside in
    let v = x.seat.me.0 in
    let key = (arc_value x.cells).table.shared.key in
    let held = held_tracee key x.seat.me x.row x.word x.holder c.self.invariant.1
    (ap (λ (h : TraceeHandle). h.view.taken) c.self.view_is ∙ c.requires.holds) in
    let word = c.taken_up-word.ensures ∙ (holds_row key x.seat.me x.row x.word held).2 in
    let creates = subst (λ (h : TraceeHandle).
    creates_next h.view.roster h.row (cell_after h.view.roster h.view.seen h.row).births c.args.stop.stop ≡ true)
    (sym c.self.view_is) c.requires.birth in
    λ some. room_for_birth v.roster (subst IsRoster (sym held.roster_is) held.placed) x.row c.taken_up-word.result.births
    c.args.stop.stop (subst (λ rows. x.row < length rows) (sym held.roster_is) held.low)
    (ap (λ (w : Word). creates_next v.roster x.row w.births c.args.stop.stop) word ∙ creates)
    (subst (λ (stop : Content). IsSome (child_of stop.stop)) c.stop.view_is some)

pub invariant_of-self : goal.invariant_of-self
invariant_of-self g c =
    let x = c.self.inside in
    let key = (arc_value x.cells).table.shared.key in
    let held = held_tracee key x.seat.me x.row x.word x.holder c.self.invariant.1
    (ap (λ (h : TraceeHandle). h.view.taken) c.self.view_is ∙ c.requires.holds) in (
      c.put_publish.ensures.0.0 ∙ c.self.invariant.0,
      subst (IsTracee key c.put_publish.new.seat.me x.row x.word) (sym c.give-boxed.ensures.has_box)
          (published_tracee key x.seat.me c.put_publish.new.seat.me x.row x.word c.give-boxed.result held
          c.put_publish.ensures.1).1,
    )

pub returns-clause-made : goal.returns-clause-made
returns-clause-made g c =
    let x = c.self.inside in
    let key = (arc_value x.cells).table.shared.key in
    let held = held_tracee key x.seat.me x.row x.word x.holder c.self.invariant.1
    (ap (λ (h : TraceeHandle). h.view.taken) c.self.view_is ∙ c.requires.holds) in
    subst (λ (h : TraceeHandle). (before : List Entry)
    × EndsWith h.view c.put_publish.new.seat.me.0 before (publish_of h.row c.args.stop)) c.self.view_is
    (published_tracee key x.seat.me c.put_publish.new.seat.me x.row x.word c.args.stop held
    (subst (λ (stop : Content). Published x.seat.me c.put_publish.new.seat.me x.row stop) c.give-boxed.ensures.record
    c.put_publish.ensures.1)).0

pub returns-clause-once : goal.returns-clause-once
returns-clause-once g c =
    let x = c.self.inside in
    let done = c.put_publish.ensures.1 in
    subst (λ (h : TraceeHandle). OnlyExchanges h.view c.put_publish.new.seat.me.0 h.row) c.self.view_is
    (newest x.seat.me.0 c.put_publish.new.seat.me.0 done.1 (publish_of x.row c.give-boxed.result ∷ []) false done.2)
