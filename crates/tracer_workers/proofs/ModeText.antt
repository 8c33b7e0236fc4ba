-- The text of a case traced with a filter, with or without stops before deaths, is that of the case traced plainly,
-- where each script has the same lines and children in both.
use Rattle.std.proofs.Common.{refl, ◌≡◌, ◌&&◌, ℕ, zero, suc, Bool, true, false, Option, Some, None, length, ◌∙◌, ap, sym}
use Rattle.std.specs.List.{flat_map, range_with_len}
use Rattle.stop_history.specs.Roster.{parent_of, row_at}
use Rattle.trace_options.specs.declared.filter.Filter.{Filter}
use Rattle.trace_options.specs.declared.options.Options.{Options}
use Rattle.trace_script.specs.CaseFile.{CaseContent, script_at}
use Rattle.trace_script.specs.Script.{Script}
use Rattle.record_printer.specs.declared.call.show.Show.{Show}
use Rattle.tracer_workers.specs.CaseText.{bears, case_lines, is_born_within, is_borne_of, is_case_born, text_if}
use Rattle.tracer_workers.specs.Config.{filter_of, option_sum, options_of, plain, plan_of, show_of, text_of}
use Rattle.tracer_workers.specs.Modes.{AgreeButFilter, filtered_trace, plain_trace, shown_filter, trace_lines}
use Rattle.tracer_workers.specs.Plan.{row_trace}
use Rattle.tracer_workers.specs.Printing.{printed_lines}
use Rattle.tracer_workers.specs.declared.config.Config.{Config}

-- the options of a case with and without a filter, with or without stops before deaths
sums_agree : (follow some other : Bool)
    → AgreeButFilter (record { 0 = option_sum follow false some }) (record { 0 = option_sum follow true other })
sums_agree true true true = record { off = refl; on = refl; forks = refl; clones = refl; execs = refl }
sums_agree true true false = record { off = refl; on = refl; forks = refl; clones = refl; execs = refl }
sums_agree true false true = record { off = refl; on = refl; forks = refl; clones = refl; execs = refl }
sums_agree true false false = record { off = refl; on = refl; forks = refl; clones = refl; execs = refl }
sums_agree false true true = record { off = refl; on = refl; forks = refl; clones = refl; execs = refl }
sums_agree false true false = record { off = refl; on = refl; forks = refl; clones = refl; execs = refl }
sums_agree false false true = record { off = refl; on = refl; forks = refl; clones = refl; execs = refl }
sums_agree false false false = record { off = refl; on = refl; forks = refl; clones = refl; execs = refl }

-- what the law of scripts says
pub record ScriptsAgree : Type 0 where
  pub lines : (show : Show) (tid ret_data : ℕ) (options more : Options) (other : Filter) (script : Script)
      → AgreeButFilter options more
      → trace_lines show tid (plain_trace tid options other script)
      ≡ trace_lines show tid (filtered_trace tid more (shown_filter show ret_data) script)
  pub children : (show : Show) (tid ret_data : ℕ) (options more : Options) (other : Filter) (script : Script)
      → AgreeButFilter options more → (child : ℕ)
      → bears child (plain_trace tid options other script).stops
      ≡ bears child (filtered_trace tid more (shown_filter show ret_data) script).stops

module _ (agree : ScriptsAgree) (config : Config) (content : CaseContent) (some other : Bool) where
  abbrev unfiltered : Config
  unfiltered = record config { seccomp = false; exits = some }

  abbrev filtered : Config
  filtered = record config { seccomp = true; exits = other }

  children_same : (parent tid : ℕ)
      → bears tid (row_trace (plan_of filtered content) parent).stops
      ≡ bears tid (row_trace (plan_of unfiltered content) parent).stops
  children_same parent tid =
      sym (agree.children (show_of config) (row_at content.rows parent).tid 0 (options_of unfiltered)
      (options_of filtered) (filter_of config) (script_at content.scripts parent)
      (sums_agree config.follow some other) tid)

  borne_same : (n : ℕ) (parent : Option ℕ) (tid : ℕ)
      → ((row : ℕ) → is_born_within (plan_of filtered content) n row
      ≡ is_born_within (plan_of unfiltered content) n row)
      → is_borne_of (plan_of filtered content) (is_born_within (plan_of filtered content) n) parent tid
      ≡ is_borne_of (plan_of unfiltered content) (is_born_within (plan_of unfiltered content) n) parent tid
  borne_same n None tid sooner = refl
  borne_same n (Some parent) tid sooner =
      ap (λ b. b && bears tid (row_trace (plan_of filtered content) parent).stops) (sooner parent)
      ∙ ap (λ b. is_born_within (plan_of unfiltered content) n parent && b) (children_same parent tid)

  within_same : (n row : ℕ)
      → is_born_within (plan_of filtered content) n row ≡ is_born_within (plan_of unfiltered content) n row
  unfolding is_born_within
  within_same zero row = refl
  within_same (suc n) row =
      borne_same n (parent_of content.rows row) (row_at content.rows row).tid (within_same n)

  lines_same : (row : ℕ)
      → case_lines (printed_lines (show_of config)) (plan_of filtered content) row
      ≡ case_lines (printed_lines (show_of config)) (plan_of unfiltered content) row
  lines_same row =
      let tid = (row_at content.rows row).tid in
      ap (λ b. text_if b (trace_lines (show_of config) tid (row_trace (plan_of filtered content) row)))
      (within_same (length content.rows) row)
      ∙ ap (text_if (is_case_born (plan_of unfiltered content) row))
      (sym (agree.lines (show_of config) tid 0 (options_of unfiltered) (options_of filtered) (filter_of config)
      (script_at content.scripts row) (sums_agree config.follow some other)))

  with_filter : text_of filtered content ≡ text_of unfiltered content
  with_filter = ap (λ f. flat_map f (range_with_len 0 (length content.rows))) (λ i row. lines_same row i)

-- without a filter, the text is that of a trace with one, and so that of the plain trace
mode_by : (agree : ScriptsAgree) (config : Config) (content : CaseContent) (seccomp exits : Bool)
    → config.seccomp ≡ seccomp → config.exits ≡ exits → text_of config content ≡ text_of (plain config) content
mode_by agree config content true exits is stops =
    ap (λ b. text_of (record config { seccomp = b }) content) is
    ∙ ap (λ b. text_of (record config { seccomp = true; exits = b }) content) stops
    ∙ with_filter agree config content false exits
mode_by agree config content false exits is stops =
    ap (λ b. text_of (record config { seccomp = b }) content) is
    ∙ ap (λ b. text_of (record config { seccomp = false; exits = b }) content) stops
    ∙ sym (with_filter agree config content exits false)
    ∙ with_filter agree config content false false

pub mode_text : (agree : ScriptsAgree) (config : Config) (content : CaseContent)
    → text_of config content ≡ text_of (plain config) content
mode_text agree config content = mode_by agree config content config.seccomp config.exits refl refl
