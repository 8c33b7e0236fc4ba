-- The reply to a command is the text of the sequential answer, and the World goes on with its event.
use Rattle.std.proofs.Common.{◌∙◌, ◌+◌, ap, codes, sym}
use Rattle.stop_history.specs.Event as event
use Rattle.stop_history.specs.Sequential.{claim_answer, exit_answer, goes_on, publish_answer, resume_answer}
use Rattle.stop_history.specs.State.{last_number, state_after}
use Rattle.replay_files.specs.Replies.{done_text, got_text, history_after_command, published_text, reply_text, state_text}
use Rattle.replay_files.proofs.Written.{has_history, told}
use Rattle.replay_files.proofs.replies.reply.Goals as goal

pub returns-in-Publish-clause-text : goal.returns-in-Publish-clause-text
returns-in-Publish-clause-text g c = λ m s.
    let answered = c.publish.ensures.answer m s
    ∙ ap (λ rows. publish_answer rows m.history c.args.order.row c.in-Publish.stop) (sym c.requires.rows) in
    told _ _ _ _ _
    (ap (published_text c.args.rows.now) answered
    ∙ ap (reply_text c.args.rows.now m.history c.args.order.row) (sym c.in-Publish.is))
    c.write_published.ensures

pub returns-in-Publish-clause-stands : goal.returns-in-Publish-clause-stands
returns-in-Publish-clause-stands g c = λ m s.
    let answered = c.publish.ensures.answer m s
    ∙ ap (λ rows. publish_answer rows m.history c.args.order.row c.in-Publish.stop) (sym c.requires.rows) in
    has_history _ _ _
    (ap (λ r. goes_on r
    (event.Publish c.args.order.row (last_number m.history c.args.order.row + 1) c.in-Publish.stop) m.history)
    answered
    ∙ ap (history_after_command c.args.rows.now m.history c.args.order.row) (sym c.in-Publish.is))
    (c.publish.ensures.stands m s)

pub returns-in-Claim-clause-text : goal.returns-in-Claim-clause-text
returns-in-Claim-clause-text g c = λ m s.
    let answered = c.claim.ensures.answer m s
    ∙ ap (λ rows. claim_answer rows m.history c.args.order.row c.in-Claim.tracer) (sym c.requires.rows) in
    told _ _ _ _ _
    (ap (got_text c.args.rows.now) answered
    ∙ ap (reply_text c.args.rows.now m.history c.args.order.row) (sym c.in-Claim.is)) c.write_got.ensures

pub returns-in-Claim-clause-stands : goal.returns-in-Claim-clause-stands
returns-in-Claim-clause-stands g c = λ m s.
    let answered = c.claim.ensures.answer m s
    ∙ ap (λ rows. claim_answer rows m.history c.args.order.row c.in-Claim.tracer) (sym c.requires.rows) in
    has_history _ _ _
    (ap (λ r. goes_on r (event.Claim c.args.order.row (last_number m.history c.args.order.row) c.in-Claim.tracer)
    m.history) answered
    ∙ ap (history_after_command c.args.rows.now m.history c.args.order.row) (sym c.in-Claim.is))
    (c.claim.ensures.stands m s)

pub returns-in-Resume-clause-text : goal.returns-in-Resume-clause-text
returns-in-Resume-clause-text g c = λ m s.
    let answered = c.resume-answer.ensures.answer m s
    ∙ ap (λ rows. resume_answer rows m.history c.args.order.row c.in-Resume.tracer) (sym c.requires.rows) in
    told _ _ _ _ _
    (ap (done_text (codes "resumed") c.args.rows.now) answered
    ∙ ap (reply_text c.args.rows.now m.history c.args.order.row) (sym c.in-Resume.is)) c.write_done.ensures

pub returns-in-Resume-clause-stands : goal.returns-in-Resume-clause-stands
returns-in-Resume-clause-stands g c = λ m s.
    let answered = c.resume-answer.ensures.answer m s
    ∙ ap (λ rows. resume_answer rows m.history c.args.order.row c.in-Resume.tracer) (sym c.requires.rows) in
    has_history _ _ _
    (ap (λ r. goes_on r
    (event.Resume c.args.order.row (last_number m.history c.args.order.row) c.in-Resume.how
    c.in-Resume.tracer) m.history) answered
    ∙ ap (history_after_command c.args.rows.now m.history c.args.order.row) (sym c.in-Resume.is))
    (c.resume-answer.ensures.stands m s)

pub returns-in-Exit-clause-text : goal.returns-in-Exit-clause-text
returns-in-Exit-clause-text g c = λ m s.
    let answered = c.exit.ensures.answer m s
    ∙ ap (λ rows. exit_answer rows m.history c.args.order.row) (sym c.requires.rows) in
    told _ _ _ _ _
    (ap (done_text (codes "exited") c.args.rows.now) answered
    ∙ ap (reply_text c.args.rows.now m.history c.args.order.row) (sym c.in-Exit.is))
    c.write_done-in-Exit.ensures

pub returns-in-Exit-clause-stands : goal.returns-in-Exit-clause-stands
returns-in-Exit-clause-stands g c = λ m s.
    let answered = c.exit.ensures.answer m s
    ∙ ap (λ rows. exit_answer rows m.history c.args.order.row) (sym c.requires.rows) in
    has_history _ _ _
    (ap (λ r. goes_on r (event.Exit c.args.order.row c.in-Exit.death) m.history) answered
    ∙ ap (history_after_command c.args.rows.now m.history c.args.order.row) (sym c.in-Exit.is))
    (c.exit.ensures.stands m s)

pub returns-in-State-clause-text : goal.returns-in-State-clause-text
returns-in-State-clause-text g c = λ m s.
    let shown = c.state.ensures m s ∙ ap (λ rows. state_after rows m.history c.args.order.row) (sym c.requires.rows) in
    told _ _ _ _ _
    (ap state_text shown ∙ ap (reply_text c.args.rows.now m.history c.args.order.row) (sym c.in-State.is))
    c.write_state.ensures

pub returns-in-State-clause-stands : goal.returns-in-State-clause-stands
returns-in-State-clause-stands g c =
    λ m s. (m, s, ap (history_after_command c.args.rows.now m.history c.args.order.row) (sym c.in-State.is))
