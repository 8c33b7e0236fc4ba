-- The row that is alive is named by its thread id, and nothing follows it.
use Rattle.std.proofs.Common.{◌∙◌, ◌++◌, ap, append-nil, codes, decimal, string_bytes, sym}
use Rattle.replay_files.specs.Replies.{refusal_name}
use Rattle.replay_files.proofs.replies.write_refusal_name.Goals as goal

pub returns-in_ok-write_number-in-GroupAlive : goal.returns-in_ok-write_number-in-GroupAlive
returns-in_ok-write_number-in-GroupAlive g c =
    let old = string_bytes c.args.out.now in
    (c.in_ok-write_number-in-GroupAlive).ensures
    ∙ ap (λ t. old ++ t) (append-nil (codes "GroupAlive " ++ decimal c.tid_at.result))
    ∙ ap (λ tid. old ++ (codes "GroupAlive " ++ decimal tid)) c.tid_at.ensures
    ∙ ap (λ r. old ++ refusal_name c.args.rows.now r) (sym c.in-GroupAlive.is)
