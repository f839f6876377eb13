-- What an exported trace returns and what its cells hold afterwards, by what the trace answers. Definitions only.
use Rattle.std.specs.Prelude.{ℕ}
use Rattle.nfp_sliding.specs.Calls.{Answer, traces, denied, overfull, too_short}

-- how many points the result has
unfoldable pub points_told : Answer → ℕ → ℕ
points_told (traces points stored passes stop) held = points
points_told (denied r) held = held
points_told (overfull passes) held = held
points_told (too_short passes stop) held = held

-- how many the path has
unfoldable pub stored_told : Answer → ℕ → ℕ
stored_told (traces points stored passes stop) held = stored
stored_told (denied r) held = held
stored_told (overfull passes) held = held
stored_told (too_short passes stop) held = held

-- the passes, which are told with 5 and with 6 as well
unfoldable pub passes_told : Answer → ℕ → ℕ
passes_told (traces points stored passes stop) held = passes
passes_told (denied r) held = held
passes_told (overfull passes) held = passes
passes_told (too_short passes stop) held = passes

-- the stop reason, which is told with 6 as well
unfoldable pub stop_told : Answer → ℕ → ℕ
stop_told (traces points stored passes stop) held = stop
stop_told (denied r) held = held
stop_told (overfull passes) held = held
stop_told (too_short passes stop) held = stop
