-- What a line may hold, in words.
use Rattle.std.specs.Prelude.{ℕ, Bool, ◌&&◌, ◌||◌, not, List, get_or, leb, eqb}
use Rattle.theory.specs.Line.{in_set}

-- may a line hold n for process z, whose latest finished epoch at the cut is `finished`
abbrev pub usable_w : ℕ → ℕ → Bool
usable_w finished n = leb 1 n && leb n finished

abbrev pub may_stay_w : ℕ → ℕ → ℕ → Bool
may_stay_w failed z n = eqb n 32 && not (in_set failed z)

abbrev pub may_hold_w : ℕ → ℕ → ℕ → ℕ → Bool
may_hold_w failed finished z n = usable_w finished n || may_stay_w failed z n

abbrev pub may_w : ℕ → List ℕ → List ℕ → ℕ → Bool
may_w failed finished numbers z = may_hold_w failed (get_or finished z 0) z (get_or numbers z 0)
