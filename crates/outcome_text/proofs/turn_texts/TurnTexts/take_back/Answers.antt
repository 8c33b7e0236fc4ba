-- The order and the text of the thread end where they ended before the turn.
use Rattle.std.proofs.Common.{◌≡◌, ◌<◌, ◌≤◌, ◌++◌, ◌∷◌, [], ◌∙◌, Some, ap, arith, inl, inr, refl, slice_get, slice_set, take, length, subst, sym}
use Rattle.std.proofs.lemmas.Bool.{cases_lt}
use Rattle.std.proofs.lemmas.List.{set_past}
use Rattle.std.proofs.lemmas.Option.{slice_get_read}
use Rattle.outcome_text.specs.TurnTexts.{EndsLine, TextsOfTurns, ThreadText}
use Rattle.outcome_text.proofs.TurnTexts.{order_cut, thread_cut, texts_less}
use Rattle.outcome_text.proofs.turn_texts.TurnTexts.take_back.Goals as goal
use Rattle.outcome_text.proofs.turn_texts.TurnTexts.take_back.Goals.{in-Some-get_mut, in_default-get_mut}

pub cut_after_line-requires : goal.cut_after_line-requires
cut_after_line-requires g c =
    let turns_are : c.args.self.now.turns ≡ c.pop.new.self.items ++ c.in-Some.last ∷ [] =
    ap (λ (s : TextsOfTurns). s.turns) (sym c.self.view_is) ∙ c.in-Some.ensures.items in
    subst (λ (s : TextsOfTurns). EndsLine s.order c.in-Some.last.order_len) (sym c.self.view_is)
    (order_cut c.requires.texts.0 c.args.self.now c.pop.new.self.items c.in-Some.last c.requires.texts.1 turns_are)

pub take_back-requires : goal.take_back-requires
take_back-requires g c =
    let thread = c.in-Some.last.turn.thread in
    let threads = c.self.inside.threads in
    let less = c.in-Some-get_mut.ensures.variant.0 refl in
    let owner = c.in-Some-get_mut.so_far.now in
    let turns_are : c.args.self.now.turns ≡ c.pop.new.self.items ++ c.in-Some.last ∷ [] =
    ap (λ (s : TextsOfTurns). s.turns) (sym c.self.view_is) ∙ c.in-Some.ensures.items in
    let is : slice_get threads.items thread ≡ Some owner =
    slice_get_read threads.items threads.len thread owner threads.ok.0 less c.in-Some-get_mut.ensures.value in
    thread_cut c.requires.texts.0 c.args.self.now c.pop.new.self.items c.in-Some.last owner c.requires.texts.1 turns_are
    (ap (λ (s : TextsOfTurns). slice_get s.threads thread) (sym c.self.view_is) ∙ is)

pub returns-clause-texts : goal.returns-clause-texts
returns-clause-texts g c = λ t are.
    let thread = c.in-Some.last.turn.thread in
    let threads = c.self.inside.threads in
    let turns_are : c.args.self.now.turns ≡ c.pop.new.self.items ++ c.in-Some.last ∷ [] =
    ap (λ (s : TextsOfTurns). s.turns) (sym c.self.view_is) ∙ c.in-Some.ensures.items in
    let order_is = c.cut_after_line.ensures ∙ ap (λ (s : TextsOfTurns). take c.in-Some.last.order_len s.order) c.self.view_is in
    elim c.match-get_mut.branch [
      | in-Some-get_mut w ↦
          let owner = w.in-Some-get_mut.so_far.now in
          let less = w.in-Some-get_mut.ensures.variant.0 refl in
          let is : slice_get threads.items thread ≡ Some owner =
          slice_get_read threads.items threads.len thread owner threads.ok.0 less w.in-Some-get_mut.ensures.value in
          rw (w.self-inside-is)
          (texts_less t c.args.self.now _ c.in-Some.last owner are turns_are
          (λ i. slice_set (c.self.view_is i).threads thread (w.take_back.ensures i))
          (λ within. ap (λ (s : TextsOfTurns). slice_get s.threads thread) (sym c.self.view_is) ∙ is) order_is
          (ap (λ (s : TextsOfTurns). s.lines) c.self.view_is))
      | in_default-get_mut w ↦
          let any : ThreadText = record { text = []; next = 0 } in
          let cut_off : ThreadText = record { text = take c.in-Some.last.text_len []; next = c.in-Some.last.next } in
          let past : length threads.items ≤ thread = elim (cases_lt thread threads.len) [
            | inl less ↦ let clash = w.in_default-get_mut.ensures.variant.1 less in cc
            | inr after ↦ omega (arith, after, threads.ok.0)
          ] in
          rw (w.self-inside-is)
          (texts_less t c.args.self.now _ c.in-Some.last any are turns_are
          (sym (set_past threads.items thread cut_off past)
          ∙ ap (λ (s : TextsOfTurns). slice_set s.threads thread cut_off) c.self.view_is)
          (λ within.
          let less : thread < length threads.items =
          subst (λ (s : TextsOfTurns). thread < length s.threads) (sym c.self.view_is) within in
          absurd (omega (arith, less, past))) order_is (ap (λ (s : TextsOfTurns). s.lines) c.self.view_is))
    ]
