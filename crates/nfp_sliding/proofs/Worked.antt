-- A worked example, by computation: docs/SCOPE.md's S and Q with a pass limit of 0. The path is the start alone, so the call
-- answers refusal 6 with 0 passes, and stopped because the passes were used up. Assumes nothing.
use Prim.Native.Nat.{ℕ}
use native.Mathlib.Omega.{arith}
use mathlib.Core.Path.{◌≡◌, refl, subst, sym}
use lib.Ieee.{lt, le, eq, of_bits}
use Rattle.scalar.specs.Float.{float}
use Rattle.refusals.specs.Refusals.{refuse}
use Rattle.refusals.specs.Rows.{of_two_polygons, of_trace}
use Rattle.refusals.specs.Bounds.{coordinate, finite, every, settings_ok}
use Rattle.refusals.specs.declared.Settings.{Settings}
use Rattle.ring.proofs.Worked.{S, Q}
use Rattle.nfp_sliding.specs.Path.{trace_of, trace_from, traced_of}
use Rattle.nfp_sliding.specs.Calls.{too_short, refusal_of, came_to, trace_call}
use Rattle.nfp_sliding.specs.Larger.{UsedUp, Larger}

-- 1e-6, 1e-8 and no pass
abbrev settings : Settings
settings =
    record {
      contact_tolerance = float 0x3eb0_c6f7_a0b5_ed8d;
      min_translation = float 0x3e45_798e_e230_8c3a;
      max_iterations = 0;
    }

no_pass : trace_call S Q settings 20002 20002 ≡ too_short 0 5
unfolding trace_call of_trace of_two_polygons every coordinate finite settings_ok came_to traced_of trace_from trace_of lt le eq of_bits
no_pass = refl

refused : refusal_of (trace_call S Q settings 20002 20002) ≡ refuse 6 0
unfolding refusal_of
refused = rw no_pass refl

-- after that answer the rooms may grow, each by as much as it likes, and the limit may not
may_grow : Larger (trace_call S Q settings 20002 20002) 0 20002 0 20004 30000
may_grow =
    rw no_pass
    (record { higher = omega arith; bounded = omega arith; unless_used = λ used. refl; longer = omega arith; whole = refl; enough = refl })

stays_limited : (limit : ℕ) → Larger (trace_call S Q settings 20002 20002) 0 20002 limit 20004 30000 → limit ≡ 0
stays_limited limit h = h.unless_used (subst UsedUp (sym no_pass) refl)
