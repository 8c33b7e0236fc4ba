-- The closure is handed what the function is.
use Rattle.tracer_workers.proofs.threaded.run_in_scope.Goals as goal

pub scoped-requires : goal.scoped-requires
scoped-requires g c =
    let types = c.type_bounds in
    record {
      at = λ a. (
        (
          types.send-A,
          types.sync-A,
          record { shared = types.sync-R.shared },
          record { shared = types.sync-G.shared },
          types.frees-A-Allocator,
        ),
        (
          c.requires,
          (
            types.send-A,
            types.sync-A,
            record { shared = types.sync-R.shared },
            record { shared = types.sync-G.shared },
            types.frees-A-Allocator,
          ),
        ),
      );
    }
