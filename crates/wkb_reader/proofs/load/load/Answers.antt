-- `wkb_reader::load::load` meets its contract. The loop's invariant: with the numbers from j on stored at their place, the room is what was asked
-- for. Assumes nothing.
use Prim.Native.Nat.{ℕ, ◌+◌, ◌*◌, ◌-◌}
use native.Mathlib.Omega.{arith}
use mathlib.Core.Path.{◌≡◌, refl, sym, ap, ◌∙◌}
use lib.ListN.{length, set, length-set, length-map, drop}
use lib.Seq.{sets}
use lib.Ieee.{Float, binary64, of_bits}
use Rattle.ring.proofs.Emit.{laid_is}
use Rattle.wkb_layout.specs.Layout.{head_bytes, order_in, numbers_in, open_vertices, open_numbers}
use Rattle.wkb_layout.specs.Reader.{open_ring}
use Rattle.wkb_layout.proofs.Numbers.{length_numbersIn}
use Rattle.wkb_reader.proofs.Checked.{passing}
use Rattle.wkb_reader.proofs.Numbers.{numbers_from, load_start, load_on, load_end}
use Rattle.wkb_reader.proofs.load.load.Goals as goal

pub points-requires : goal.points-requires
points-requires c = omega (arith, (passing c.args.f.now c.requires.f_value).whole)

pub overflow_sub-n : goal.overflow_sub-n
overflow_sub-n c = omega (arith, c.points.ensures.0, (passing c.args.f.now c.requires.f_value).least)

pub loop-j-init : goal.loop-j-init
loop-j-init c =
    (refl, ap (sets c.args.room.now 0) (load_start c.args.f.now (2 * (c.points.result - 1))))

pub overflow_mul-j-end : goal.overflow_mul-j-end
overflow_mul-j-end c = omega (arith, c.points.ensures.0, (passing c.args.f.now c.requires.f_value).most)

pub overflow_mul-j : goal.overflow_mul-j
overflow_mul-j c = omega (arith, c.points.ensures.0, (passing c.args.f.now c.requires.f_value).most)

pub overflow_add-j : goal.overflow_add-j
overflow_add-j c = omega (arith, c.points.ensures.0, (passing c.args.f.now c.requires.f_value).most)

pub number-requires : goal.number-requires
number-requires c =
    let h = passing c.args.f.now c.requires.f_value in
    let e = c.points.ensures.0 in
    ((omega (arith, h.whole)), (omega (arith, e, h.whole)))

pub bounds-room-j : goal.bounds-room-j
bounds-room-j c = omega (arith, c.points.ensures.0)

pub loop-j-preserved : goal.loop-j-preserved
loop-j-preserved c =
    let f = c.args.f.now in
    let n = c.points.result - 1 in (
      length-set c.loop-j.room c.loop-j.j c.number.result ∙ c.loop-j.invariant.0,
      c.loop-j.invariant.1
          ∙ load_on f (2 * n) c.loop-j.j c.loop-j-test.true c.loop-j.room
          ∙ ap (λ (x : Float). sets (set c.loop-j.room c.loop-j.j x) (c.loop-j.j + 1) (numbers_from f (2 * n - (c.loop-j.j + 1)) (c.loop-j.j + 1))) (sym c.number.ensures),
    )

pub returns : goal.returns
unfolding open_numbers
returns c =
    let f = c.args.f.now in
    let n = c.points.result - 1 in
    let e : n ≡ open_vertices f = ap (λ (k : ℕ). k - 1) c.points.ensures.0 in
    let size : length (open_ring f) ≡ 2 * open_vertices f = length-map (numbers_in (order_in f) (2 * open_vertices f) (drop head_bytes f)) (of_bits binary64) ∙ length_numbersIn (order_in f) (2 * open_vertices f) (drop head_bytes f) in record {
      value = e;
      room_after = sym (load_end f (2 * n) c.loop-j.j c.loop-j-test.false c.loop-j.room)
          ∙ sym c.loop-j.invariant.1
          ∙ ap (λ (k : ℕ). sets c.args.room.now 0 (numbers_from f (2 * k) 0)) e
          ∙ laid_is (open_ring f) c.args.room.now (omega (arith, size, c.requires.f_in_bounds));
    }
