-- What the calls answer, and what they leave in the rooms. Definitions only.
use Rattle.std.specs.Prelude.{ℕ, ◌*◌, List, [], ◌∷◌, length, Float}
use Rattle.plane.specs.declared.Point.{Point}
use Rattle.ring.specs.Room.{laid}
use Rattle.refusals.specs.Refusals.{first_of}
use Rattle.refusals.specs.Rows.{of_touching, of_fit, of_rooms}
use Rattle.refusals.specs.Answers.{Outcome, outcome, left}
use Rattle.refusals.specs.Refusals.{Told}
use Rattle.vectors.specs.Vectors.{vectors_of, vector_numbers, sources_of}
use Rattle.vectors.specs.Fit.{fit_of}

-- so many vectors do not fit one of the two rooms
abbrev pub of_vector_rooms : ℕ → ℕ → ℕ → Told
of_vector_rooms n vectors sources = of_rooms (3 * n) vectors n sources

-- 1, 2, 3, then 5
unfoldable pub vectors_refusal : List Float → List Float → Float → ℕ → ℕ → Told
vectors_refusal st orb tol vectors sources =
    first_of (of_touching st orb tol ∷ of_vector_rooms (length (vectors_of st orb tol)) vectors sources ∷ [])

abbrev pub vectors_call : List Float → List Float → Float → ℕ → ℕ → Outcome ℕ
vectors_call st orb tol vectors sources = outcome (vectors_refusal st orb tol vectors sources) (length (vectors_of st orb tol))

abbrev pub vectors_room : List Float → List Float → Float → List Float → List ℕ → List Float
vectors_room st orb tol vectors sources =
    left (vectors_refusal st orb tol (length vectors) (length sources)) (laid (vector_numbers (vectors_of st orb tol)) vectors) vectors

abbrev pub sources_room : List Float → List Float → Float → List Float → List ℕ → List ℕ
sources_room st orb tol vectors sources =
    left (vectors_refusal st orb tol (length vectors) (length sources)) (laid (sources_of (vectors_of st orb tol)) sources) sources

-- the vectors that lead to no visited position: how many, and the tests of the rooms for them
abbrev pub fit_count : List Float → List Float → Point → List Float → Float → ℕ
fit_count st orb from visited tol = length (fit_of st orb from visited tol)

abbrev pub fit_rooms : List Float → List Float → Point → List Float → Float → ℕ → ℕ → Told
fit_rooms st orb from visited tol vectors sources = of_vector_rooms (fit_count st orb from visited tol) vectors sources

-- 1, 2, 3, then 5
unfoldable pub fit_refusal : List Float → List Float → Point → List Float → Float → ℕ → ℕ → Told
fit_refusal st orb from visited tol vectors sources =
    first_of (of_fit st orb from visited tol ∷ fit_rooms st orb from visited tol vectors sources ∷ [])

abbrev pub fit_call : List Float → List Float → Point → List Float → Float → ℕ → ℕ → Outcome ℕ
fit_call st orb from visited tol vectors sources =
    outcome (fit_refusal st orb from visited tol vectors sources) (fit_count st orb from visited tol)

abbrev pub fit_room : List Float → List Float → Point → List Float → Float → List Float → List ℕ → List Float
fit_room st orb from visited tol vectors sources =
    left (fit_refusal st orb from visited tol (length vectors) (length sources)) (laid (vector_numbers (fit_of st orb from visited tol)) vectors) vectors

abbrev pub fit_sources : List Float → List Float → Point → List Float → Float → List Float → List ℕ → List ℕ
fit_sources st orb from visited tol vectors sources =
    left (fit_refusal st orb from visited tol (length vectors) (length sources)) (laid (sources_of (fit_of st orb from visited tol)) sources) sources
