-- The corners of a disc put aside by 1 or 2 units, in one of ten ways. All coordinates are moved up by a million, so that the
-- grid is 0 to 2,000,000. Definitions only.
use Rattle.std.specs.Prelude.{ℕ, zero, suc, ◌+◌, ◌*◌, ◌-◌, ◌/◌, ◌≤◌, ◌<◌, ◌≡◌, Bool, true, cond, ◌&&◌, List, [], ◌∷◌, ◌++◌, eqb, leb, ltb, length, set}
use Rattle.ring.specs.Each.{each}
use Rattle.ring.specs.Room.{laid}
use Rattle.shifted.specs.Shifted.{spot_at, Small, SmallRing}
use Rattle.shifted.specs.declared.Spot.{Spot}
use Rattle.put_aside.specs.Middle.{across_of, middle_of}
use Rattle.put_aside.specs.declared.Step.{Step}
use Rattle.put_aside.specs.declared.Rule.{Rule}

-- ---- how: 0 as it is; 1 to 10 the ten ways by 1; 11 to 20 the ten ways by 2

unfoldable pub width_of : ℕ → ℕ
width_of how = cond (eqb how 0) 0 (cond (leb how 10) 1 2)

-- 1 drawn in; 2 drawn in across the move; 3 to 10 set off; 0 as it is
unfoldable pub way_of : ℕ → ℕ
way_of how = cond (leb how 10) how (how - 10)

-- ---- drawn in, with c the middle

-- x - w if c + w < x; x + w if x + w < c; else c
unfoldable pub inward : ℕ → ℕ → ℕ → ℕ
inward w c x = cond (ltb (c + w) x) (x - w) (cond (ltb (x + w) c) (x + w) c)

-- ---- a step: so far to the right, to the left, up, and down

abbrev pub step_by : ℕ → ℕ → ℕ → ℕ → Step
step_by e w n s = record { east = e; west = w; north = n; south = s }

-- none
abbrev pub still : Step
still = step_by 0 0 0 0

-- w (sgn n.x, sgn n.y), with n = (-dy, dx) across the move (dx, dy) from `from` to `to`. That of the move back is the opposite.
abbrev pub if_less : ℕ → ℕ → ℕ → ℕ
if_less a b w = cond (ltb a b) w 0

abbrev pub across_step : ℕ → Spot → Spot → Step
across_step w from to =
    step_by (if_less to.y from.y w) (if_less from.y to.y w) (if_less from.x to.x w) (if_less to.x from.x w)

-- a corner with n·corner above the middle m goes by -w (sgn n.x, sgn n.y), one below by +w (sgn n.x, sgn n.y), one at m stays
unfoldable pub towards : ℕ → Spot → Spot → ℕ → ℕ → Step
towards w from to m k = cond (ltb m k) (across_step w to from) (cond (ltb k m) (across_step w from to) still)

-- set off by (w,0), (0,w), (-w,0), (0,-w), (w,w), (-w,w), (-w,-w), (w,-w)
unfoldable pub set_off : ℕ → ℕ → Step
set_off way w =
    cond (eqb way 3) (step_by w 0 0 0)
    (cond (eqb way 4) (step_by 0 0 w 0)
    (cond (eqb way 5) (step_by 0 w 0 0)
    (cond (eqb way 6) (step_by 0 0 0 w)
    (cond (eqb way 7) (step_by w 0 w 0)
    (cond (eqb way 8) (step_by 0 w w 0)
    (cond (eqb way 9) (step_by 0 w 0 w) (step_by w 0 0 w)))))))

-- ---- where a corner comes to

-- x + plus - minus; 2,000,001, which is off the grid, where that is below zero
unfoldable pub gone : ℕ → ℕ → ℕ → ℕ
gone x plus minus = cond (ltb (x + plus) minus) 2000001 (x + plus - minus)

abbrev pub gone_by : Step → Spot → Spot
gone_by s v = record { x = gone v.x s.east s.west; y = gone v.y s.north s.south }

-- a rule: the way, the width w, the move, and the middles of x, of y, and across the move
abbrev pub rule_of : List ℕ → Spot → Spot → ℕ → Rule
rule_of list from to how =
    record {
      way = way_of how;
      w = width_of how;
      from = from;
      to = to;
      x = middle_of 0 list from to;
      y = middle_of 1 list from to;
      across = middle_of 2 list from to;
    }

-- the step of a corner that is not drawn in
unfoldable pub step_of : Rule → Spot → Step
step_of r v =
    cond (eqb r.way 0) still
    (cond (eqb r.way 2) (towards r.w r.from r.to r.across (across_of r.from r.to v))
    (set_off r.way r.w))

unfoldable pub corner_by : Rule → Spot → Spot
corner_by r v =
    cond (eqb r.way 1) (record { x = inward r.w r.x v.x; y = inward r.w r.y v.y })
    (gone_by (step_of r v) v)

-- ---- all corners of a list x, y, x, y ..

-- the numbers of n points
unfoldable pub spots : (ℕ → Spot) → ℕ → List ℕ
spots f zero = []
spots f (suc n) = spots f n ++ ((f n).x ∷ (f n).y ∷ [])

-- a room whose point i is v
unfoldable pub put_spot : List ℕ → ℕ → Spot → List ℕ
put_spot room i v = set (set room (2 * i) v.x) (2 * i + 1) v.y

-- a point on the grid
unfoldable pub on_grid : Spot → Bool
on_grid v = leb v.x 2000000 && leb v.y 2000000

-- by a rule: the corners put aside, and whether all stay on the grid
abbrev pub aside_by : List ℕ → Rule → List ℕ
aside_by list r = spots (λ i. corner_by r (spot_at list i)) (length list / 2)

unfoldable pub stay_by : List ℕ → Rule → Bool
stay_by list r = each (λ i. on_grid (corner_by r (spot_at list i))) 0 (length list / 2)

-- the corners put aside by `how`, for the move from `from` to `to`
abbrev pub aside : List ℕ → Spot → Spot → ℕ → List ℕ
aside list from to how = aside_by list (rule_of list from to how)

-- all stay on the grid
abbrev pub stays_on : List ℕ → Spot → Spot → ℕ → Bool
stays_on list from to how = stay_by list (rule_of list from to how)

-- what the room holds afterwards: the corners put aside, and then what it held; what it held, where a corner leaves the grid
abbrev pub room_of : List ℕ → Spot → Spot → ℕ → List ℕ → List ℕ
room_of list from to how room = cond (stays_on list from to how) (laid (aside list from to how) room) room

-- ---- what is lent

-- a disc of 1 to 256 corners, and a move, all within the bounds
pub record DiscLent (list : List ℕ) (from to : Spot) : Type 0 where
  pub some : 0 < length list / 2
  pub most : length list ≤ 512
  pub corners_small : SmallRing list
  pub from_small : Small from
  pub to_small : Small to

-- a rule whose sums fit
pub record Ruled (r : Rule) : Type 0 where
  pub narrow : r.w ≤ 2
  pub starts : Small r.from
  pub ends : Small r.to
  pub x_fits : r.x ≤ 16000000000000
  pub y_fits : r.y ≤ 16000000000000

-- ---- what is proved of it (proofs/Off.antt)

-- two points, each coordinate of which is off by at most w
pub record OffBy (w : ℕ) (u v : Spot) : Type 0 where
  pub right : v.x ≤ u.x + w
  pub left : u.x ≤ v.x + w
  pub above : v.y ≤ u.y + w
  pub below : u.y ≤ v.y + w

-- each corner is put aside by at most the width
abbrev pub AsideIsNear : Type 0
AsideIsNear =
    (list : List ℕ) (from to : Spot) (how : ℕ) → stays_on list from to how ≡ true
    → (i : ℕ) → i < length list / 2 → OffBy (width_of how) (spot_at list i) (spot_at (aside list from to how) i)

-- there are as many, and all are on the grid
abbrev pub AsideIsAsLong : Type 0
AsideIsAsLong = (list : List ℕ) (from to : Spot) (how : ℕ) → length (aside list from to how) ≡ 2 * (length list / 2)

abbrev pub AsideIsSmall : Type 0
AsideIsSmall = (list : List ℕ) (from to : Spot) (how : ℕ) → stays_on list from to how ≡ true → SmallRing (aside list from to how)

-- 0 changes nothing, and stays on the grid
abbrev pub AsideAsItIs : Type 0
AsideAsItIs =
    (list : List ℕ) (from to : Spot) (i : ℕ) → i < length list / 2 → spot_at (aside list from to 0) i ≡ spot_at list i

abbrev pub StaysAsItIs : Type 0
StaysAsItIs = (list : List ℕ) (from to : Spot) → SmallRing list → stays_on list from to 0 ≡ true
