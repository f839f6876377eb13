-- `mending::write::write_mended` meets its contract: `proofs/Writing.antt` has the invariant; the measure is what is left of the ring. Assumes nothing.
use mathlib.Core.Path.{◌≡◌, sym, ◌∙◌}
use mathlib.Core.Bool.{true, false}
use Rattle.mending.specs.Mending.{goes_at, why_of}
use Rattle.mending.proofs.Fates.{is_going, is_staying}
use Rattle.mending.proofs.Writing.{start, ring_fits, whys_fit, spots_fit, stay, go, done}
use Rattle.mending.proofs.write.write_mended.Goals as goal
use Rattle.mending.proofs.write.write_mended.Goals.{In-Some, In-None, in-None, in-Some}
use Rattle.mending.proofs.write.write_mended.Lts.View.{up-In-Some, up-In-None}

-- vertex i stays
stayed : (c : In-None)
    → (goes_at c.args.ring.now c.loop-i.i ≡ false)
stayed c = is_staying _ _ (sym c.fate_at.ensures ∙ c.in-None.is)

-- vertex i goes, and why
went : (c : In-Some)
    → ((goes_at c.args.ring.now c.loop-i.i ≡ true)
    × (c.in-Some.why ≡ why_of c.args.ring.now c.loop-i.i))
went c = is_going _ _ (sym c.fate_at.ensures ∙ c.in-Some.is)

pub loop-i-init : goal.loop-i-init
loop-i-init c = start _ _ _ _

pub fate_at-requires : goal.fate_at-requires
fate_at-requires c = record { i_bound = c.loop-i-test.true; by_index = c.requires.by_index }

pub put-requires : goal.put-requires
put-requires c =
    ring_fits _ _ _ _ c.requires.ring_in_bounds c.requires.ring_in_bounds_2 c.requires.ring_in_bounds_3 c.loop-i-test.true c.loop-i.invariant (stayed (up-In-None _ _ _ _ _ _ c.before.before.before))

pub put_why-requires : goal.put_why-requires
put_why-requires c =
    whys_fit _ _ _ _ c.requires.ring_in_bounds c.requires.ring_in_bounds_2 c.requires.ring_in_bounds_3 c.loop-i-test.true c.loop-i.invariant (went (up-In-Some _ _ _ _ _ _ c.before.before)).0

pub put-requires-in-Some : goal.put-requires-in-Some
put-requires-in-Some c =
    spots_fit _ _ _ _ c.requires.ring_in_bounds c.requires.ring_in_bounds_2 c.requires.ring_in_bounds_3 c.loop-i-test.true c.loop-i.invariant (went (up-In-Some _ _ _ _ _ _ c.before.before.before.before.before.before.before)).0

pub loop-i-preserved : goal.loop-i-preserved
loop-i-preserved c =
    let r = c.requires in
    elim c.match-fate_at.branch [
      | in-None w ↦
          rw (w.room-is, w.dropped-is, w.points-is, w.staying-is, w.gone-is)
          (stay _ _ _ _ r.ring_in_bounds r.ring_in_bounds_2 r.ring_in_bounds_3 c.loop-i-test.true c.loop-i.invariant (is_staying _ _ (sym c.fate_at.ensures ∙ w.in-None.is)) w.point_at.ensures w.put.ensures)
      | in-Some w ↦
          let g = is_going _ _ (sym c.fate_at.ensures ∙ w.in-Some.is) in
          rw (w.room-is, w.dropped-is, w.points-is, w.staying-is, w.gone-is)
          (go _ _ _ _ r.ring_in_bounds r.ring_in_bounds_2 r.ring_in_bounds_3 c.loop-i-test.true c.loop-i.invariant g.0 g.1 w.point_at-in-Some.ensures w.put_why.ensures w.put-in-Some.ensures)
    ]

pub shape_of-room : goal.shape_of-room
shape_of-room c = c.loop-i.invariant.ring.same

pub shape_of-dropped : goal.shape_of-dropped
shape_of-dropped c = c.loop-i.invariant.whys.same

pub shape_of-points : goal.shape_of-points
shape_of-points c = c.loop-i.invariant.spots.same

pub returns : goal.returns
returns c =
    let d = done _ _ _ _ c.requires.ring_in_bounds c.requires.ring_in_bounds_2 c.requires.ring_in_bounds_3 c.loop-i-test.false c.loop-i.invariant in
    record { room_after = d.0; dropped_after = d.1; points_after = d.2 }
