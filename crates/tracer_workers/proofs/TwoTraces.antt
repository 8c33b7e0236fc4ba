-- The same acts traced plainly and with a filter, with or without stops before deaths: what the rest of the two traces
-- adds to two folds ends in the same lines, names the same children, and dies alike.
use Rattle.std.proofs.Common.{refl, ◌≡◌, ◌∷◌, ◌++◌, ◌||◌, ◌==◌, ◌+◌, ◌%◌, [], ℕ, Bool, true, false, List, Option, Some, None}
use Rattle.std.proofs.Common.{Result, Ok, Err, ◌∙◌, sym, ap, subst, map, cond, length}
use Rattle.trace_options.specs.Calls.{has_call}
use Rattle.trace_options.specs.declared.filter.Filter.{Filter}
use Rattle.trace_options.specs.declared.options.Options.{Options}
use Rattle.trace_options.specs.declared.options.TheConstants.Options.{TRACECLONE, TRACEEXEC, TRACEEXIT, TRACEFORK}
use Rattle.trace_pages.specs.declared.fault.Fault.{Fault}
use Rattle.trace_pages.specs.FlatMemory.{run_end, stored}
use Rattle.trace_pages.specs.Memory.{store_answer}
use Rattle.trace_record.specs.Content.{Content, content_by}
use Rattle.trace_record.specs.declared.death.Death.{Death}
use Rattle.trace_record.specs.declared.death.Death.TheVariants.{Exited, Signaled}
use Rattle.trace_record.specs.declared.resume.Kind.{Kind}
use Rattle.trace_record.specs.declared.resume.Kind.TheVariants.{Cont, Syscall}
use Rattle.trace_record.specs.declared.stop.Stop.{Stop}
use Rattle.trace_record.specs.declared.stop.Stop.TheVariants as stop
use Rattle.trace_script.specs.Registers.{first_regs, with_answer, with_call, with_start}
use Rattle.trace_script.specs.Script.{Fill, Image, Script, Step}
use Rattle.trace_script.specs.Script as step
use Rattle.trace_script.specs.StepStops.{Act, Halts, Calls, Becomes, Stores, Answers, Delivers, Exits}
use Rattle.trace_script.specs.StepStops.{Always, Traced, Filtered, ByOption, acts_of, acts_of_steps, answers}
use Rattle.trace_script.specs.StepStops.{last_acts}
use Rattle.trace_script.specs.StopTrace.{Context, Stops, StopsLast, GoesOn as Continues, Ends, Trace, Dead}
use Rattle.trace_script.specs.StopTrace.{context, ended_trace, store_effect, trace_by, trace_from, with_stop}
use Rattle.record_printer.specs.DeathLine.{death_text}
use Rattle.record_printer.specs.Note.{CallStart, Enter, Seccomp}
use Rattle.record_printer.specs.RowFold.{Fold, empty_fold, fold_after, fold_after_all, fold_text}
use Rattle.record_printer.specs.StopNote.{call_end, call_start, hidden_start, kinds_of, printed_start, signal_line, stop_note}
use Rattle.record_printer.specs.declared.call.show.Show.{Show}
use Rattle.tracer_workers.specs.CaseText.{bears, death_of}
use Rattle.tracer_workers.specs.Driven.{fault_death}
use Rattle.tracer_workers.specs.Modes.{AgreeButFilter, asks, filtered_trace, plain_trace, setting}
use Rattle.tracer_workers.specs.Policy.{plain_policy, seccomp_policy, to_its_end}
use Rattle.tracer_workers.proofs.TwoFolds.{Between, Inside, between_empty, between_signal, inside_hidden, inside_shown}
use Rattle.tracer_workers.proofs.TwoFolds.{same_between}

-- the lines of a fold with the rest of a trace
abbrev pub lines_with : Show → ℕ → Fold → Trace → List ℕ
lines_with show tid f t =
    fold_text (fold_after_all f (map (stop_note show) t.stops)) (Some (death_text tid (death_of t.ending)))

pub record Same (show : Show) (tid : ℕ) (f g : Fold) (t u : Trace) : Type 0 where
  pub lines : lines_with show tid f t ≡ lines_with show tid g u
  pub children : (child : ℕ) → bears child t.stops ≡ bears child u.stops
  pub endings : t.ending ≡ u.ending

-- a call that is not shown
hidden_start_by : (b : Bool) (p q : CallStart) → q.shown ≡ false → b ≡ false → (cond b p q).shown ≡ false
hidden_start_by true p q hidden is = cc
hidden_start_by false p q hidden is = hidden

module _ (show : Show) (tid ret_data : ℕ) (options more : Options) (other : Filter)
    (agree : AgreeButFilter options more) where
  abbrev filter : Filter
  filter = record { calls = show.calls; ret_data = ret_data }

  abbrev plain : (number signal : ℕ) → List Act → Context → Trace
  plain number signal acts x =
      trace_from plain_policy (setting tid options other) number (record { kind = Syscall; signal = signal }) acts x

  abbrev filtered : Kind → (number signal : ℕ) → List Act → Context → Trace
  filtered kind number signal acts x =
      trace_from (seccomp_policy show.calls) (setting tid more filter) number (record { kind = kind; signal = signal })
      acts x

  -- from between two calls on
  abbrev Again : List Act → List Act → Type 0
  Again r t =
      (m n i j : ℕ) (x : Context) (f g : Fold) → Between f g → Same show tid f g (plain m i r x) (filtered Cont n j t x)

  -- from inside a call on
  abbrev GoesOn : List Act → List Act → Type 0
  GoesOn r t =
      (shown : Bool) (m n i j : ℕ) (x : Context) (f g : Fold) → has_call show.calls x.regs.orig_rax ≡ shown
      → Inside shown f g → Same show tid f g (plain m i r x) (filtered (to_its_end shown) n j t x)

  -- ---- tests that both make

  ended_alike : (f g : Fold) (death : Death) → ((text : Option (List ℕ)) → fold_text f text ≡ fold_text g text)
      → Same show tid f g (ended_trace (Dead death)) (ended_trace (Dead death))
  ended_alike f g death same = record { lines = same (Some (death_text tid death)); children = λ child. refl; endings = refl }

  store_by : (f g : Fold) (r : Result (Unit {0}) Fault) (y : Context) (c d : Stop → Content) (a b : Content → Trace)
      (m n : Context → Trace) → ((text : Option (List ℕ)) → fold_text f text ≡ fold_text g text)
      → Same show tid f g (m y) (n y)
      → Same show tid f g (trace_by (store_effect r y) c a m) (trace_by (store_effect r y) d b n)
  store_by f g (Ok done) y c d a b m n dies on = on
  store_by f g (Err fault) y c d a b m n dies on = record { lines = dies (Some (death_text tid fault_death)); children = λ child. refl; endings = refl }

  halt_both : (f g : Fold) (p q : Bool) → p ≡ q → (at : Stop) (x : Context) (c d : Stop → Content) (a b : Content → Trace)
      (m n : Context → Trace) → Same show tid f g (with_stop (c at) (a (c at))) (with_stop (d at) (b (d at)))
      → Same show tid f g (m x) (n x)
      → Same show tid f g (trace_by (cond p (Stops at) (Continues x)) c a m)
      (trace_by (cond q (Stops at) (Continues x)) d b n)
  halt_both f g true true same at x c d a b m n stops on = stops
  halt_both f g false false same at x c d a b m n stops on = on
  halt_both f g true false same at x c d a b m n stops on = cc
  halt_both f g false true same at x c d a b m n stops on = cc

  -- the stop before a death has no line, whether either makes it or not
  exit_by : (f g : Fold) (p q : Bool) (death : Death) (m n : ℕ) (x : Context) (a b : Content → Trace)
      (k l : Context → Trace) → ((text : Option (List ℕ)) → fold_text f text ≡ fold_text g text)
      → Same show tid f g
      (trace_by (cond p (StopsLast death) (Ends death)) (λ at. content_by tid (m + 1) at x.regs x.memory) a k)
      (trace_by (cond q (StopsLast death) (Ends death)) (λ at. content_by tid (n + 1) at x.regs x.memory) b l)
  exit_by f g true true death m n x a b k l dies =
      record { lines = dies (Some (death_text tid death)); children = λ child. refl; endings = refl }
  exit_by f g true false death m n x a b k l dies =
      record { lines = dies (Some (death_text tid death)); children = λ child. refl; endings = refl }
  exit_by f g false true death m n x a b k l dies =
      record { lines = dies (Some (death_text tid death)); children = λ child. refl; endings = refl }
  exit_by f g false false death m n x a b k l dies = ended_alike f g death dies

  deliver_by : (f g : Fold) (r p q : Bool) (death : Death) (m n : ℕ) (x : Context) (a b : Content → Trace)
      (k l : Context → Trace) → ((text : Option (List ℕ)) → fold_text f text ≡ fold_text g text)
      → Same show tid f g (k x) (l x)
      → Same show tid f g
      (trace_by (cond r (Continues x) (cond p (StopsLast death) (Ends death)))
      (λ at. content_by tid (m + 1) at x.regs x.memory) a k)
      (trace_by (cond r (Continues x) (cond q (StopsLast death) (Ends death)))
      (λ at. content_by tid (n + 1) at x.regs x.memory) b l)
  deliver_by f g true p q death m n x a b k l dies on = on
  deliver_by f g false p q death m n x a b k l dies on = exit_by f g p q death m n x a b k l dies

  hidden_by : (c : Content) → has_call show.calls c.regs.orig_rax ≡ false → (call_start show c).shown ≡ false
  hidden_by c is =
      hidden_start_by (has_call show.calls c.regs.orig_rax)
      (printed_start show.limit c (kinds_of c.regs.orig_rax)) (hidden_start c.regs.orig_rax) refl is

  -- ---- the end of a call

  answered : (r t : List Act) → Again r t → (a : ℕ)
      → GoesOn (Answers a ∷ Halts Traced stop.Exit ∷ r) (Answers a ∷ Halts Traced stop.Exit ∷ t)
  unfolding trace_from
  answered r t again a true m n i j x f g is inside =
      let y = context (with_answer a x.regs) x.memory in
      let c = content_by tid (m + 1) stop.Exit y.regs y.memory in
      let k = again (m + 1) (n + 1) 0 0 y _ _ (inside.ends (call_end show c)) in
      record { lines = k.lines; children = k.children; endings = k.endings }
  answered r t again a false m n i j x f g is inside =
      let y = context (with_answer a x.regs) x.memory in
      let c = content_by tid (m + 1) stop.Exit y.regs y.memory in
      let k = again (m + 1) n 0 j y _ _ (inside.ends (call_end show c)) in
      record { lines = k.lines; children = k.children; endings = k.endings }

  -- ---- what comes between the entry and the end

  filled : (r t : List Act) → Again r t → (fill : Fill) (a : ℕ)
      → GoesOn (Stores fill ∷ Answers a ∷ Halts Traced stop.Exit ∷ r) (Stores fill ∷ Answers a ∷ Halts Traced stop.Exit ∷ t)
  unfolding trace_from
  filled r t again fill a shown m n i j x f g is inside =
      store_by f g (store_answer (run_end x.memory fill.address (length fill.bytes)))
      (context x.regs (stored x.memory fill.address fill.bytes)) _ _ _ _
      (λ y. plain m i (answers a ++ r) y) (λ y. filtered (to_its_end shown) n j (answers a ++ t) y) inside.dies
      (answered r t again a shown m n i j (context x.regs (stored x.memory fill.address fill.bytes)) f g is inside)

  -- at an event's stop, the filter's policy goes on to the end of a call that is shown
  event_stop : (r t : List Act) → Again r t → (a : ℕ) (shown : Bool) (m n : ℕ) (x : Context) (f g : Fold)
      → has_call show.calls x.regs.orig_rax ≡ shown → Inside shown f g
      → Same show tid f g (plain (m + 1) 0 (answers a ++ r) x)
      (filtered (to_its_end (has_call show.calls x.regs.orig_rax)) (n + 1) 0 (answers a ++ t) x)
  event_stop r t again a shown m n x f g is inside =
      subst (λ b. Same show tid f g (plain (m + 1) 0 (answers a ++ r) x)
      (filtered (to_its_end b) (n + 1) 0 (answers a ++ t) x)) (sym is)
      (answered r t again a shown (m + 1) (n + 1) 0 0 x f g is inside)

  forked : (r t : List Act) → Again r t → (child : ℕ)
      → GoesOn (Halts (ByOption TRACEFORK) (stop.Fork child) ∷ answers child ++ r)
      (Halts (ByOption TRACEFORK) (stop.Fork child) ∷ answers child ++ t)
  unfolding trace_from
  forked r t again child shown m n i j x f g is inside =
      let k = event_stop r t again child shown m n x f g is inside in
      halt_both f g (asks options TRACEFORK) (asks more TRACEFORK) agree.forks (stop.Fork child) x _ _ _ _
      (λ y. plain m i (answers child ++ r) y) (λ y. filtered (to_its_end shown) n j (answers child ++ t) y)
      (record { lines = k.lines; children = λ other. ap (λ b. (child == other) || b) (k.children other); endings = k.endings })
      (answered r t again child shown m n i j x f g is inside)

  cloned : (r t : List Act) → Again r t → (child : ℕ)
      → GoesOn (Halts (ByOption TRACECLONE) (stop.Clone child) ∷ answers child ++ r)
      (Halts (ByOption TRACECLONE) (stop.Clone child) ∷ answers child ++ t)
  unfolding trace_from
  cloned r t again child shown m n i j x f g is inside =
      let k = event_stop r t again child shown m n x f g is inside in
      halt_both f g (asks options TRACECLONE) (asks more TRACECLONE) agree.clones (stop.Clone child) x _ _ _ _
      (λ y. plain m i (answers child ++ r) y) (λ y. filtered (to_its_end shown) n j (answers child ++ t) y)
      (record { lines = k.lines; children = λ other. ap (λ b. (child == other) || b) (k.children other); endings = k.endings })
      (answered r t again child shown m n i j x f g is inside)

  execed : (r t : List Act) → Again r t → (image : Image)
      → GoesOn (Becomes image ∷ Halts (ByOption TRACEEXEC) (stop.Exec tid) ∷ answers 0 ++ r)
      (Becomes image ∷ Halts (ByOption TRACEEXEC) (stop.Exec tid) ∷ answers 0 ++ t)
  unfolding trace_from
  execed r t again image shown m n i j x f g is inside =
      let y = context (with_start image.rip image.rsp x.regs) image.memory in
      let k = event_stop r t again 0 shown m n y f g is inside in
      halt_both f g (asks options TRACEEXEC) (asks more TRACEEXEC) agree.execs (stop.Exec tid) y _ _ _ _
      (λ z. plain m i (answers 0 ++ r) z) (λ z. filtered (to_its_end shown) n j (answers 0 ++ t) z)
      (record { lines = k.lines; children = k.children; endings = k.endings })
      (answered r t again 0 shown m n i j y f g is inside)

  exited : (r t : List Act) (death : Death) → GoesOn (Exits death ∷ r) (Exits death ∷ t)
  unfolding trace_from
  exited r t death shown m n i j x f g is inside =
      exit_by f g (asks options TRACEEXIT) (asks more TRACEEXIT) death m n x _ _ (λ y. plain m i r y)
      (λ y. filtered (to_its_end shown) n j t y) inside.dies

  -- ---- the entry to a call

  -- the filter stops a call that is shown
  entered_by : (r t : List Act) → GoesOn r t → (nr : ℕ) (m n j : ℕ) (y : Context) (f g : Fold) → Between f g
      → y.regs.orig_rax ≡ nr → (shown : Bool) → has_call show.calls nr ≡ shown
      → Same show tid (fold_after f (Enter (call_start show (content_by tid (m + 1) stop.Enter y.regs y.memory)))) g
      (plain (m + 1) 0 r y)
      (trace_by (cond shown (Stops (stop.Seccomp ret_data)) (Continues y))
      (λ at. content_by tid (n + 1) at y.regs y.memory)
      (λ d. trace_from (seccomp_policy show.calls) (setting tid more filter) (n + 1) (seccomp_policy show.calls d) t y)
      (λ z. filtered Cont n j t z))
  entered_by r t goes nr m n j y f g between at true is =
      let start = call_start show (content_by tid (m + 1) stop.Enter y.regs y.memory) in
      let k = goes true (m + 1) (n + 1) 0 0 y (fold_after f (Enter start)) (fold_after g (Seccomp start))
      (ap (has_call show.calls) at ∙ is) (inside_shown f g start between) in
      record { lines = k.lines; children = k.children; endings = k.endings }
  entered_by r t goes nr m n j y f g between at false is =
      let start = call_start show (content_by tid (m + 1) stop.Enter y.regs y.memory) in
      goes false (m + 1) n 0 j y (fold_after f (Enter start)) g (ap (has_call show.calls) at ∙ is)
      (inside_hidden f g start (hidden_by (content_by tid (m + 1) stop.Enter y.regs y.memory)
      (ap (has_call show.calls) at ∙ is)) between)

  entered : (r t : List Act) → GoesOn r t → (nr : ℕ) (arguments : List ℕ)
      → Again (Calls nr arguments ∷ Halts Traced stop.Enter ∷ Halts (Filtered nr) (stop.Seccomp other.ret_data) ∷ r)
      (Calls nr arguments ∷ Halts Traced stop.Enter ∷ Halts (Filtered nr) (stop.Seccomp ret_data) ∷ t)
  unfolding trace_from
  entered r t goes nr arguments m n i j x f g between =
      let y = context (with_call nr arguments x.regs) x.memory in
      let k = entered_by r t goes nr m n j y f g between refl (has_call show.calls nr) refl in
      rw agree.off (rw agree.on (record { lines = k.lines; children = k.children; endings = k.endings }))

  -- ---- a signal

  signalled : (r t : List Act) → Again r t → (signal : ℕ)
      → Again (Halts Always (stop.Signal signal) ∷ r) (Halts Always (stop.Signal signal) ∷ t)
  unfolding trace_from
  signalled r t again signal m n i j x f g between =
      let k = again (m + 1) (n + 1) signal signal x _ _ (between_signal f g (signal_line tid signal) between) in
      record { lines = k.lines; children = k.children; endings = k.endings }

  -- a deadly one kills both, where it is handed over
  delivered : (r t : List Act) → Again r t → (signal m n : ℕ) (x : Context) (f g : Fold) → Between f g
      → Same show tid f g (plain m signal (Delivers ∷ r) x) (filtered Cont n signal (Delivers ∷ t) x)
  unfolding trace_from
  delivered r t again signal m n x f g between =
      deliver_by f g (signal == 0) (asks options TRACEEXIT) (asks more TRACEEXIT) (Signaled signal false) m n x _ _
      (λ y. plain m signal r y) (λ y. filtered Cont n signal t y) (λ text. same_between f g text between)
      (again m n signal signal x f g between)

  killed : (r t : List Act) → Again r t → (signal : ℕ)
      → Again (Halts Always (stop.Signal signal) ∷ Delivers ∷ r) (Halts Always (stop.Signal signal) ∷ Delivers ∷ t)
  unfolding trace_from
  killed r t again signal m n i j x f g between =
      let k = delivered r t again signal (m + 1) (n + 1) x _ _ (between_signal f g (signal_line tid signal) between) in
      record { lines = k.lines; children = k.children; endings = k.endings }

  -- ---- steps

  same_step : (r t : List Act) → Again r t → (one : Step)
      → Again (acts_of (setting tid options other) one ++ r) (acts_of (setting tid more filter) one ++ t)
  same_step r t again (step.Call nr arguments answer None) =
      entered _ _ (answered r t again answer) nr arguments
  same_step r t again (step.Call nr arguments answer (Some fill)) =
      entered _ _ (filled r t again fill answer) nr arguments
  same_step r t again (step.Fork child) = entered _ _ (forked r t again child) _ _
  same_step r t again (step.Thread child) = entered _ _ (cloned r t again child) _ _
  same_step r t again (step.Exec path image) = entered _ _ (execed r t again image) _ _
  same_step r t again (step.Signal signal false) = signalled r t again signal
  same_step r t again (step.Signal signal true) = killed r t again signal
  same_step r t again (step.Exit status) = entered _ _ (exited r t (Exited (status % 256))) _ _

  out_of_steps : Again last_acts last_acts
  unfolding trace_from
  out_of_steps m n i j x f g between =
      exit_by f g (asks options TRACEEXIT) (asks more TRACEEXIT) (Exited 0) m n x _ _ (λ y. plain m i [] y)
      (λ y. filtered Cont n j [] y) (λ text. same_between f g text between)

  same_steps : (steps : List Step)
      → Again (acts_of_steps (setting tid options other) steps) (acts_of_steps (setting tid more filter) steps)
  unfolding acts_of_steps
  same_steps [] = out_of_steps
  same_steps (one ∷ steps) = same_step _ _ (same_steps steps) one

  pub same_script : (script : Script)
      → Same show tid empty_fold empty_fold (plain_trace tid options other script) (filtered_trace tid more filter script)
  unfolding trace_from
  same_script script =
      let y = context (first_regs script.image.rip script.image.rsp) script.image.memory in
      let k = same_steps script.steps 1 1 0 0 y empty_fold empty_fold between_empty in
      record { lines = k.lines; children = k.children; endings = k.endings }
