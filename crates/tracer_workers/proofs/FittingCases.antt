-- The scripts of a case fit its rows, however the case is traced.
use Rattle.std.proofs.Common.{refl, ◌≡◌, ◌<◌, ◌∷◌, [], ℕ, zero, suc, Bool, true, false, List, Some, length, sym}
use Rattle.std.proofs.Common.{subst, arith, inl, inr, eq-eqb, ne_eqb, slice_get, slice_index_or}
use Rattle.std.proofs.lemmas.Bool.{cases_eq}
use Rattle.std.specs.Int.RustNames.{bit_and}
use Rattle.stop_history.specs.declared.roster.Row.{Row}
use Rattle.stop_history.specs.Roster.{row_at}
use Rattle.trace_options.specs.Options.{AreValidOptions, option_bits}
use Rattle.trace_options.specs.declared.filter.Filter.{Filter}
use Rattle.trace_options.specs.declared.options.Options.{Options}
use Rattle.trace_options.specs.declared.options.TheConstants.Options.{TRACECLONE, TRACEFORK}
use Rattle.trace_script.specs.Script.{Script}
use Rattle.trace_script.specs.Births.{born_by, children_reported}
use Rattle.trace_script.specs.CaseFacts.{AreNext, IsCase, IsScript}
use Rattle.trace_script.specs.CaseFile.{CaseContent, no_script, script_at}
use Rattle.trace_script.specs.StepStops.{acts_of_script}
use Rattle.trace_script.specs.StopTrace.{Policy}
use Rattle.trace_script.proofs.Births.{arriving_in_range, good_script, reported_script, unreported_script}
use Rattle.trace_script.proofs.Cases.{known}
use Rattle.trace_script.proofs.StopNumbers.{opening_within}
use Rattle.tracer_workers.specs.Config.{filter_of, option_sum, options_of, plan_of}
use Rattle.tracer_workers.specs.Modes.{setting}
use Rattle.tracer_workers.specs.Plan.{IsCasePlan, Plan, case_plan}
use Rattle.tracer_workers.specs.declared.config.Config.{Config}
use Rattle.tracer_workers.proofs.Fitting.{IsFitting}

pub get_within : {A : Type 0} (xs : List A) (i : ℕ) (other : A) → i < length xs
    → slice_get xs i ≡ Some (slice_index_or xs i other)
get_within [] i other within = absurd (omega arith)
get_within (x ∷ xs) zero other within = refl
get_within (x ∷ xs) (suc i) other within = get_within xs i other (omega arith)

-- ---- options

no_bit : (bit : ℕ) → 0 < bit → 0 ≡ bit → ⊥
no_bit bit some is = omega (arith, some, is)

-- those of a configuration are ones that a tracer takes
options_taken : (follow seccomp exits : Bool) → AreValidOptions (option_sum follow seccomp exits)
options_taken true true true = record {
  good = refl;
  alike = (λ has. refl, λ has. refl);
  no_vfork = no_bit 0x4 (omega arith);
  no_vfork_done = no_bit 0x20 (omega arith);
}
options_taken true true false = record {
  good = refl;
  alike = (λ has. refl, λ has. refl);
  no_vfork = no_bit 0x4 (omega arith);
  no_vfork_done = no_bit 0x20 (omega arith);
}
options_taken true false true = record {
  good = refl;
  alike = (λ has. refl, λ has. refl);
  no_vfork = no_bit 0x4 (omega arith);
  no_vfork_done = no_bit 0x20 (omega arith);
}
options_taken true false false = record {
  good = refl;
  alike = (λ has. refl, λ has. refl);
  no_vfork = no_bit 0x4 (omega arith);
  no_vfork_done = no_bit 0x20 (omega arith);
}
options_taken false true true = record {
  good = refl;
  alike = (λ has. absurd (no_bit 0x2 (omega arith) has), λ has. absurd (no_bit 0x8 (omega arith) has));
  no_vfork = no_bit 0x4 (omega arith);
  no_vfork_done = no_bit 0x20 (omega arith);
}
options_taken false true false = record {
  good = refl;
  alike = (λ has. absurd (no_bit 0x2 (omega arith) has), λ has. absurd (no_bit 0x8 (omega arith) has));
  no_vfork = no_bit 0x4 (omega arith);
  no_vfork_done = no_bit 0x20 (omega arith);
}
options_taken false false true = record {
  good = refl;
  alike = (λ has. absurd (no_bit 0x2 (omega arith) has), λ has. absurd (no_bit 0x8 (omega arith) has));
  no_vfork = no_bit 0x4 (omega arith);
  no_vfork_done = no_bit 0x20 (omega arith);
}
options_taken false false false = record {
  good = refl;
  alike = (λ has. absurd (no_bit 0x2 (omega arith) has), λ has. absurd (no_bit 0x8 (omega arith) has));
  no_vfork = no_bit 0x4 (omega arith);
  no_vfork_done = no_bit 0x20 (omega arith);
}

-- births are reported in order where children are followed, and otherwise none is reported
children_alike : (rows : List Row) (row tid : ℕ) (options : Options) (filter : Filter) (script : Script)
    → AreValidOptions (option_bits options) → AreNext rows row 0 (born_by script.steps)
    → AreNext rows row 0
    (children_reported (setting tid options filter) (acts_of_script (setting tid options filter) script))
children_alike rows row tid options filter script taken births =
    let s = setting tid options filter in
    let of = bit_and (option_bits options) in
    let fork = option_bits TRACEFORK in
    let clone = option_bits TRACECLONE in
    elim (cases_eq (of fork) fork) [
      | inl has ↦
          subst (AreNext rows row 0)
          (sym (reported_script s script (eq-eqb (of fork) fork has, eq-eqb (of clone) clone (taken.alike.0 has)))) births
      | inr none ↦
          subst (AreNext rows row 0)
          (sym (unreported_script s script
          (ne_eqb (of fork) fork none, ne_eqb (of clone) clone (λ has. none (taken.alike.1 has))))) tt
    ]

-- ---- scripts

script_known : (content : CaseContent) → IsCase content → (row : ℕ) → row < length content.rows
    → IsScript content.rows row (script_at content.scripts row)
script_known content is row within =
    known content row (script_at content.scripts row) is
    (get_within content.scripts row no_script (omega (arith, within, is.each)))

fitting_with : (content : CaseContent) (options : Options) (filter : Filter) (policy : Policy) → IsCase content
    → AreValidOptions (option_bits options) → IsFitting (case_plan content options filter policy)
fitting_with content options filter policy is taken = record {
  good = λ row within.
      good_script ((case_plan content options filter policy).setting row) (script_at content.scripts row)
      (arriving_in_range (script_at content.scripts row).steps (script_known content is row within).signals);
  within = λ row within.
      let opening =
      opening_within ((case_plan content options filter policy).setting row) (script_at content.scripts row) in
      let few = (script_known content is row within).few in
      omega (arith, opening, few);
  children = λ row within.
      children_alike content.rows row (row_at content.rows row).tid options filter (script_at content.scripts row) taken
      (script_known content is row within).births;
}

pub fitting_plan : (plan : Plan) → IsCasePlan plan → IsFitting plan
fitting_plan plan is =
    subst IsFitting (sym is.is_plan) (fitting_with is.content is.options is.filter plan.policy is.is_case is.taken)

-- a row is traced by its own tid
pub plan_tid : (plan : Plan) → IsCasePlan plan → (row : ℕ) → (plan.setting row).tid ≡ (row_at plan.rows row).tid
plan_tid plan is row =
    subst (λ (p : Plan). (p.setting row).tid ≡ (row_at p.rows row).tid) (sym is.is_plan) refl

-- the plan of a configuration
pub config_plan : (config : Config) (content : CaseContent) → IsCase content → IsCasePlan (plan_of config content)
config_plan config content is = record {
  content = content;
  options = options_of config;
  filter = filter_of config;
  is_case = is;
  taken = options_taken config.follow config.seccomp config.exits;
  is_plan = refl;
}

pub fitting_case : (config : Config) (content : CaseContent) → IsCase content → IsFitting (plan_of config content)
fitting_case config content is = fitting_plan (plan_of config content) (config_plan config content is)
