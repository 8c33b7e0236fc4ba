-- No folder that has the pieces of a run refuses the next one.
use Rattle.std.proofs.Common.{refl, ◌≡◌, ◌<◌, ◌≤◌, ◌+◌, ℕ, Bool, false, List, Option, None, is_some, length}
use Rattle.std.proofs.Common.{◌∙◌, ap, arith, ne_eqb, le-ltb}
use Rattle.trace_record.specs.declared.death.Death.{Death}
use Rattle.record_printer.specs.Came.{ending_of, last_of, stop_of}
use Rattle.record_printer.specs.FolderAnswers.{of_row, refusal}
use Rattle.record_printer.specs.Note.{Note}
use Rattle.record_printer.specs.Piece.{Died, Stopped}
use Rattle.record_printer.specs.RowAnswers.{death_fault, stop_fault}
use Rattle.record_printer.specs.declared.call.show.Show.{Show}
use Rattle.record_printer.specs.declared.fold.error.FoldError.{FoldError}
use Rattle.stop_history.specs.declared.roster.Row.{Row}
use Rattle.stop_history.specs.declared.state.State.TheVariants as state
use Rattle.stop_history.specs.Event.{events_of}
use Rattle.stop_history.specs.Roster.{IsRoster, row_at, row_of}
use Rattle.stop_history.specs.State.{last_number, number_in, state_after}
use Rattle.stop_history.proofs.Rosters.{row_of-tid}
use Rattle.stop_table.specs.Entry.{AreLegal, Entry, history_of}
use Rattle.tracer_workers.specs.HistoryPieces.{pieces_of}
use Rattle.tracer_workers.proofs.RowPieces.{agrees, ending_at, runs_alive}

fresh_stop : (number : ℕ) (held : Bool) → 1 ≤ number → held ≡ false → stop_fault None held number ≡ None
fresh_stop number held some none =
    rw (none, ne_eqb number 0 (λ is. absurd (omega (arith, some, is)))) refl

fresh_death : (last number : ℕ) → last ≤ number → death_fault None last number ≡ None
fresh_death last number within = rw (le-ltb number last within) refl

module _ (show : Show) (rows : List Row) (roster : IsRoster rows) (h : List Entry) (legal : AreLegal rows h) (row : ℕ)
    (within : row < length rows) (runs : state_after rows (history_of h) row ≡ state.Running) where
  no_ending : ending_of (row_at rows row).tid (pieces_of show rows h) ≡ None
  no_ending =
      (agrees show rows roster h legal row within).ending
      ∙ ap (ending_at (number_in (events_of row (history_of h)))) (runs_alive rows h legal row within runs)

  found : (fault : Option FoldError) → of_row (row_of rows (row_at rows row).tid) fault ≡ fault
  found fault = ap (λ o. of_row o fault) (row_of-tid rows roster row within)

  pub stop_taken : (number : ℕ) (note : Note) → number ≡ last_number (history_of h) row + 1
      → refusal rows (pieces_of show rows h) (Stopped (row_at rows row).tid number note) ≡ None
  stop_taken number note is =
      let tid = (row_at rows row).tid in
      let pieces = pieces_of show rows h in
      let none = (agrees show rows roster h legal row within).no_more number (omega (arith, is)) in
      found (stop_fault (ending_of tid pieces) (is_some (stop_of tid pieces number)) number)
      ∙ ap (λ o. stop_fault o (is_some (stop_of tid pieces number)) number) no_ending
      ∙ fresh_stop number (is_some (stop_of tid pieces number)) (omega (arith, is)) (ap is_some none)

  pub death_taken : (number : ℕ) (death : Death) → number ≡ last_number (history_of h) row
      → refusal rows (pieces_of show rows h) (Died (row_at rows row).tid number death) ≡ None
  death_taken number death is =
      let tid = (row_at rows row).tid in
      let pieces = pieces_of show rows h in
      let last = (agrees show rows roster h legal row within).last in
      found (death_fault (ending_of tid pieces) (last_of tid pieces) number)
      ∙ ap (λ o. death_fault o (last_of tid pieces) number) no_ending
      ∙ fresh_death (last_of tid pieces) number (omega (arith, last, is))
