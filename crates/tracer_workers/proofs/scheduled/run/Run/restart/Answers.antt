-- The restart is the policy's for the record that is kept of the row.
use Rattle.std.proofs.Common.{◌≡◌, ◌∙◌, refl, sym, ap, subst, arith, slice_set}
use Rattle.stop_table.specs.Entry.{history_of}
use Rattle.trace_record.specs.Resume.{IsResume}
use Rattle.tracer_workers.specs.Config.{policy_of}
use Rattle.tracer_workers.specs.Scheduled.{KeptRow, RunState}
use Rattle.tracer_workers.specs.Turn.{HasHeld}
use Rattle.tracer_workers.proofs.Claims.{restart_moves, restart_range, restart_taken}
use Rattle.tracer_workers.proofs.TurnEnds.{get_set_other, get_set_same, long_set, there_at}
use Rattle.tracer_workers.proofs.scheduled.run.Run.restart.Goals as goal

pub resume-requires : goal.resume-requires
resume-requires g c =
    let s = subst (λ r. HasHeld c.requires.0 r c.requires.1 c.args.row c.args.tracer) (sym c.self.view_is) c.requires.2 in
    let within = s.within in
    let long = s.made.long in
    let there = there_at c.self.inside.rows.items c.args.row c.index_mut-traced.result.now c.index_mut-traced.ensures.value
    (omega (arith, within, long)) in
    record {
      answer = (
        history_of c.requires.1,
        s.made.world,
        restart_taken c.requires.0 _ c.requires.1 c.args.row c.args.tracer s,
      );
      how = subst IsResume
          (sym (c.policy-how.ensures ∙ ap (λ (k : KeptRow). policy_of c.self.inside.config k.content) c.traced.view_is))
          (restart_range c.requires.0 _ c.requires.1 c.args.row c.args.tracer s c.index_mut-traced.result.now there);
    }

pub returns-clause-restarted : goal.returns-clause-restarted
returns-clause-restarted g c =
    rw (← c.self.view_is) (λ content h s.
    let within = s.within in
    let long = s.made.long in
    let items = c.self.inside.rows.items in
    let how = c.policy-how.result in
    let old : KeptRow = c.index_mut-traced.result.now in
    let there = there_at items c.args.row old c.index_mut-traced.ensures.value (omega (arith, within, long)) in
    let last : KeptRow = record {
      tid = c.traced.inside.tid;
      how = how;
      number = c.traced.inside.number;
      content = c.traced.inside.content;
      position = c.traced.inside.tracee;
    } in
    let run : RunState = record {
      config = c.self.inside.config;
      world = c.self.inside.world;
      folder = c.self.inside.folder;
      rows = items;
    } in
    let new : RunState = record {
      config = c.self.inside.config;
      world = c.resume.new.world;
      folder = c.self.inside.folder;
      rows = slice_set items c.args.row last;
    } in
    let due : how ≡ policy_of c.self.inside.config old.content =
    c.policy-how.ensures ∙ ap (λ (k : KeptRow). policy_of c.self.inside.config k.content) c.traced.view_is in
    restart_moves content run h c.args.row c.args.tracer s new how old there due (record {
      config = refl;
      world = c.resume.ensures.stands (history_of h) s.made.world (restart_taken content run h c.args.row c.args.tracer s);
      world_rows = c.resume.ensures.rows;
      folder = refl;
      long = long_set items c.args.row last;
      others = λ other k apart at. sym (get_set_other items c.args.row other last apart) ∙ at;
      own = λ k at. (
        old,
        there,
        get_set_same items c.args.row last k at ∙ ap (λ (r : KeptRow). record r { how = how }) c.traced.view_is,
        due,
      );
    }))
