-- Schedules: in which order workers draw numbers.
use Rattle.std.specs.Prelude.{ℕ, ◌+◌, List, [], ◌∷◌, map}

-- a schedule is a list of workers: each entry gives its worker the counter's value, and the counter
-- goes up by one
abbrev pub given_from : ℕ → List ℕ → List (ℕ × ℕ)
given_from counter [] = []
given_from counter (worker ∷ workers) = (worker, counter) ∷ given_from (counter + 1) workers

-- what each entry of a schedule gives, the worker first; the counter starts at 0
abbrev pub given : List ℕ → List (ℕ × ℕ)
given schedule = given_from 0 schedule

-- the numbers given, in order
abbrev pub values : List ℕ → List ℕ
values schedule = map (λ g. g.1) (given schedule)
