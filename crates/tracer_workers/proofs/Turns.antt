-- What a tracee's machine answers in its turn, by where the run's history has left the row.
use Rattle.std.proofs.Common.{refl, ◌≡◌, ℕ, List, inl, inr, ◌∙◌, sym, ap}
use Rattle.trace_record.specs.Content.{Content}
use Rattle.trace_record.specs.declared.death.Death.{Death}
use Rattle.trace_record.specs.declared.resume.Resume.{Resume as Restart}
use Rattle.stop_table.specs.Entry.{Entry}
use Rattle.trace_script.specs.Machine.{IsAnswer}
use Rattle.trace_script.specs.StopTrace.{Context, DeathIs, Died, Element, Exiting, FaultIs, Faulted, Outcome}
use Rattle.trace_script.specs.StopTrace.{Position, StopIs}
use Rattle.trace_script.specs.StopTrace.{Stopped, Through, context_of, element_by, next_element, next_position}
use Rattle.trace_script.specs.StopTrace.{outcome_at, position_by}
use Rattle.trace_script.specs.declared.machine.next.Next.TheVariants as next
use Rattle.tracer_workers.specs.Driven.{element_after, position_at, restart_after}
use Rattle.tracer_workers.specs.Plan.{Plan}
use Rattle.tracer_workers.specs.Scheduled.{IsAtRest, IsDying, IsReady, KeptRow}
use Rattle.tracer_workers.specs.Turn.{onward, with_next}

-- after a death, the death comes again
dies_by : (p : Position) (o : Outcome) (d : Death) → element_by p o ≡ DeathIs d → (how : Restart) (x : Context)
    → next_element (position_by p o) how x ≡ DeathIs d
dies_by p (Stopped left at y) d is how x = cc
dies_by p (Exiting death y) d is how x = cc
dies_by p (Through y) d is how x = is
dies_by p (Died death) d is how x = is
dies_by p (Faulted address) d is how x = cc

stays_by : (p : Position) (o : Outcome) (a : ℕ) → element_by p o ≡ FaultIs a → position_by p o ≡ p
stays_by p (Stopped left at y) a is = cc
stays_by p (Exiting death y) a is = cc
stays_by p (Through y) a is = cc
stays_by p (Died death) a is = cc
stays_by p (Faulted address) a is = refl

module _ (plan : Plan) (h : List Entry) (row : ℕ) (k : KeptRow) (how : k.how ≡ restart_after h row)
    (ready : IsReady plan h row k) where
  element : Element
  element = next_element k.position k.how (context_of k.content)

  at_rest : IsAtRest plan h row k → next_element k.position k.how (context_of k.content) ≡ element_after plan h row
  at_rest rest =
      ap (λ p. next_element p k.how (context_of k.content)) rest.position
      ∙ ap (λ r. next_element (position_at plan h row) r (context_of k.content)) how
      ∙ ap (λ (c : Content). next_element (position_at plan h row) (restart_after h row) (context_of c)) rest.content

  onward_is : IsAtRest plan h row k → next_position k.position k.how (context_of k.content) ≡ onward plan h row
  onward_is rest =
      ap (λ p. next_position p k.how (context_of k.content)) rest.position
      ∙ ap (λ r. next_position (position_at plan h row) r (context_of k.content)) how
      ∙ ap (λ (c : Content). next_position (position_at plan h row) (restart_after h row) (context_of c)) rest.content

  -- ---- a stop

  stop_of_answer : (e : Element) (old new : Content) → IsAnswer e next.Stop old new → e ≡ StopIs new
  stop_of_answer (StopIs c) old new is = ap StopIs (sym is.1)
  stop_of_answer (DeathIs d) old new is = cc
  stop_of_answer (FaultIs a) old new is = cc

  pub came_stop : (new : Content) (at : Position)
      → IsAnswer (next_element k.position k.how (context_of k.content)) next.Stop k.content new
      → at ≡ next_position k.position k.how (context_of k.content)
      → (element_after plan h row ≡ StopIs new) × (at ≡ onward plan h row)
  came_stop new at answer to =
      let is = stop_of_answer (next_element k.position k.how (context_of k.content)) k.content new answer in
      elim ready [
        | inl rest ↦ (sym (at_rest rest) ∙ is, to ∙ onward_is rest)
        | inr dying ↦ (let clash : StopIs new ≡ DeathIs dying.death = sym is ∙ dying.again k.how (context_of k.content) in cc)
      ]

  -- ---- a death

  death_of_answer : (e : Element) (old new : Content) (d : Death) → IsAnswer e (next.Death d) old new → e ≡ DeathIs d
  death_of_answer (StopIs c) old new d is = cc
  death_of_answer (DeathIs own) old new d is = let same : d ≡ own = cc in ap DeathIs (sym same)
  death_of_answer (FaultIs a) old new d is = cc

  pub came_death : (new : Content) (at : Position) (d : Death)
      → IsAnswer (next_element k.position k.how (context_of k.content)) (next.Death d) k.content new
      → at ≡ next_position k.position k.how (context_of k.content)
      → (element_after plan h row ≡ DeathIs d) × IsDying plan h row (with_next k new at)
  came_death new at d answer to =
      let is = death_of_answer (next_element k.position k.how (context_of k.content)) k.content new d answer in
      let again : (r : Restart) (x : Context) → next_element at r x ≡ DeathIs d =
      λ r x. ap (λ p. next_element p r x) to
      ∙ dies_by k.position (outcome_at k.position k.how (context_of k.content)) d is r x in
      elim ready [
        | inl rest ↦
            (let due = sym (at_rest rest) ∙ is in (due, record { death = d; due = due; again = again }))
        | inr dying ↦
            (let same : DeathIs dying.death ≡ DeathIs d =
            sym (dying.again k.how (context_of k.content)) ∙ is in
            let due = dying.due ∙ same in (due, record { death = d; due = due; again = again }))
      ]

  -- ---- a fault

  fault_of_answer : (e : Element) (old new : Content) (a : ℕ) → IsAnswer e (next.Fault a) old new
      → (e ≡ FaultIs a) × (new ≡ old)
  fault_of_answer (StopIs c) old new a is = cc
  fault_of_answer (DeathIs own) old new a is = cc
  fault_of_answer (FaultIs own) old new a is = let same : a ≡ own = cc in (ap FaultIs (sym same), is.1)

  pub came_fault : (new : Content) (at : Position) (a : ℕ)
      → IsAnswer (next_element k.position k.how (context_of k.content)) (next.Fault a) k.content new
      → at ≡ next_position k.position k.how (context_of k.content)
      → (element_after plan h row ≡ FaultIs a) × IsAtRest plan h row (with_next k new at)
  came_fault new at a answer to =
      let is = fault_of_answer (next_element k.position k.how (context_of k.content)) k.content new a answer in
      elim ready [
        | inl rest ↦ (
          sym (at_rest rest) ∙ is.0,
          record {
            content = is.1 ∙ rest.content;
            position = to
                ∙ stays_by k.position (outcome_at k.position k.how (context_of k.content)) a is.0
                ∙ rest.position;
          },
        )
        | inr dying ↦
            (let clash : FaultIs a ≡ DeathIs dying.death = sym is.0 ∙ dying.again k.how (context_of k.content) in cc)
      ]
