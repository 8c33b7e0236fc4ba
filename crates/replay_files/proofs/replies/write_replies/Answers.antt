-- The replies so far, and those of the commands left, are the text.
use Rattle.std.proofs.Common.{◌∙◌, ◌+◌, ap, drop, string_bytes, sym, ◌++◌}
use Rattle.replay_files.specs.Replies.{replies}
use Rattle.replay_files.proofs.Written.{none_left, one_more}
use Rattle.replay_files.proofs.replies.write_replies.Goals as goal

pub loop-order-preserved : goal.loop-order-preserved
loop-order-preserved g c = record {
  rows = c.loop-order.invariant.rows ∙ sym c.in_ok-reply.ensures.rows;
  tracers = c.in_ok-reply.ensures.tracers ∙ c.loop-order.invariant.tracers;
  so_far = λ start s.
      let at = c.loop-order.invariant.so_far start s in
      let behind = c.in_ok-reply.ensures.stands at.0 at.1 in (
        behind.0,
        behind.1,
        ap (λ h. string_bytes c.reply.new.out ++ replies c.args.rows.now h
            (drop (c.loop-order.order-index + 1) c.args.orders.now)) behind.2
            ∙ one_more c.args.rows.now at.0.history c.args.orders.now c.loop-order.order-index _
            (string_bytes c.loop-order.out) (string_bytes c.reply.new.out) c.loop-order-test.true
            (c.in_ok-reply.ensures.text at.0 at.1)
            ∙ at.2,
      );
}

pub returns : goal.returns
returns g c = λ m s.
    let at = c.loop-order.invariant.so_far m s in
    sym (none_left c.args.rows.now at.0.history c.args.orders.now c.loop-order.order-index
    (string_bytes c.loop-order.out) c.loop-order-test.false) ∙ at.2
