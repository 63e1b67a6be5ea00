-- What the threads are passed may be sent and shared: part by part.
use Rattle.std.proofs.Common.{rules}
use Rattle.server_workers.proofs.serving.fn.run.scope+FnOnce.call_once.Goals as goal

pub scope-requires : goal.scope-requires
scope-requires g c = (
  search rules,
  (
    search rules,
    (
      search rules,
      (
        search rules,
        (
          search rules,
          (
            search rules,
            (
              search rules,
              (
                search rules,
                (search rules, (search rules, (search rules, (search rules, search rules)))),
              ),
            ),
          ),
        ),
      ),
    ),
  ),
)
