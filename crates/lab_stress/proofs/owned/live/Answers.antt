use Rattle.std.proofs.Common.{of_calls, rules}
use Rattle.lab_stress.proofs.owned.live.Goals as goal

pub in_threads-requires-after_bounds : goal.in_threads-requires-after_bounds
in_threads-requires-after_bounds g c κs within =
    let b = c.type_bounds in
    search (of_calls, rules, b.static-G, b.static-K, b.static-R, b.send-G.owned, b.send-G.leaving, b.send-K.owned, b.send-K.leaving, b.send-R.owned, b.send-R.leaving, b.sync-G.shared, b.sync-R.shared) parts 8
