-- A spelled content is read back, row by row and then order by order.
use Rattle.std.proofs.Common.{◌≡◌, ◌+◌, ◌<◌, ◌≤◌, ◌++◌, ◌∷◌, [], ℕ, None, List, Result, Ok, length, arith, le-leb}
use Rattle.std.proofs.Common.{append_assoc, append-nil, ap, sym, ◌∙◌}
use Rattle.std.proofs.lemmas.List.Elements.{All-head, All-tail}
use Rattle.std.specs.List.{All}
use Rattle.stop_history.specs.declared.roster.Row.{Row}
use Rattle.stop_history.specs.Roster.{IsRoster, fault_after, row_at}
use Rattle.stop_history.specs.declared.limits.TheConstants.{MOST_ROWS}
use Rattle.stop_history.proofs.Rosters.{few_rows, row_of-tid, tid_in_range}
use Rattle.replay_files.specs.declared.order.Order.{Order}
use Rattle.replay_files.specs.declared.grammar.Line.{Line}
use Rattle.replay_files.specs.declared.grammar.Line.TheVariants as line
use Rattle.replay_files.specs.Grammar.{replay_line_of}
use Rattle.text_lines.specs.declared.fault.LineFault.{LineFault}
use Rattle.text_lines.specs.Lines.{lines_of}
use Rattle.trace_script.specs.Reading.{most_bytes}
use Rattle.replay_files.specs.File.{ReplayContent, content_of, has_begun, line_added, order_added, replay_content_after}
use Rattle.replay_files.specs.File.{replay_line_read, row_added}
use Rattle.replay_files.specs.Spelling.{IsContent, IsOrderOf, order_words, orders_text, spelling}
use Rattle.replay_files.proofs.LinesBack.{command_are_words, command_line_read, row_line_read}
use Rattle.replay_files.proofs.RowsSpelled.{rows_read}
use Rattle.trace_script.proofs.LinesRead.{all_read}
use Rattle.trace_script.proofs.RowsBack.{ends_id, row_fits, rows_fine}
use Rattle.trace_script.proofs.SpelledLines.{first_line}

-- what a line of words says, before the first command or after it
abbrev line_in : ReplayContent → List (List ℕ) → Result Line LineFault
line_in so_far words = replay_line_of (has_begun so_far) words

abbrev only_rows : List Row → ReplayContent
only_rows rows = record { rows = rows; orders = [] }

abbrev with_orders : List Row → List Order → ReplayContent
with_orders rows orders = record { rows = rows; orders = orders }

row_takes : (before : List Row) (row : Row) → length before < MOST_ROWS → fault_after before row ≡ None
    → line_added (only_rows before) (line.Row row) ≡ Ok (only_rows (before ++ row ∷ []))
row_takes before row room fits = ap (row_added (only_rows before) row) (row_fits before row room fits)

order_takes : (rows : List Row) (before : List Order) (order : Order) → IsRoster rows → order.row < length rows
    → line_added (with_orders rows before) (line.Command (row_at rows order.row).tid order.command) ≡ Ok
    (with_orders rows (before ++ order ∷ []))
order_takes rows before order roster there =
    ap (order_added (with_orders rows before) order.command) (row_of-tid rows roster order.row there)

-- orders are read after those before them
orders_read : (rows : List Row) (before orders : List Order) → IsRoster rows → All (IsOrderOf rows) orders → (n : ℕ)
    → replay_content_after n (with_orders rows before) (lines_of (orders_text rows orders)) ≡ Ok
    (with_orders rows (before ++ orders))
orders_read rows before [] roster all n = all_read (λ n. replay_line_read) n (with_orders rows before)
    ∙ ap (λ os. Ok (with_orders rows os)) (sym (append-nil before))
orders_read rows before (order ∷ orders) roster all n =
    let is : IsOrderOf rows order = All-head (IsOrderOf rows) order orders all in
    let ends = tid_in_range rows roster order.row is.there in
    let tid = ends_id (row_at rows order.row).tid ends.0 ends.1 in
    first_line line_in (λ n. line_added) n (with_orders rows before) (with_orders rows (before ++ order ∷ []))
    (order_words rows order) (line.Command (row_at rows order.row).tid order.command) (orders_text rows orders)
    (command_are_words (row_at rows order.row).tid order.command tid is.in_range is.spelled)
    (command_line_read (has_begun (with_orders rows before)) (row_at rows order.row).tid order.command tid is.in_range
    is.spelled)
    (order_takes rows before order roster is.there)
    ∙ orders_read rows (before ++ order ∷ []) orders roster (All-tail (IsOrderOf rows) order orders all) (n + 1)
    ∙ ap (λ os. Ok (with_orders rows os)) (append_assoc before (order ∷ []) orders)

-- what is spelled is read
pub read_back : (content : ReplayContent) → IsContent content → content_of (spelling content) ≡ Ok content
read_back content is =
    let small : length (spelling content) ≤ most_bytes = is.size in
    let few : length content.rows ≤ MOST_ROWS = few_rows content.rows is.roster in
    let rows = rows_read line_in (λ n. line_added) only_rows (λ row. line.Row row) 1 [] content.rows
    (orders_text content.rows content.orders) (λ before row has. row_line_read row has) (λ n. row_takes)
    (rows_fine content.rows is.roster) (omega arith) in
    rw (le-leb (length (spelling content)) most_bytes small)
    (rows.1 ∙ orders_read content.rows [] content.orders is.roster is.orders rows.0)
