-- The turn of the search that finds the LF. (Apart from Lines, so that the edit that fits this law leaves that file as
-- it is.)
use Prim.Native.Nat.{ℕ, ◌<◌}
use mathlib.Core.Path.{◌≡◌}
use mathlib.Core.List.{List}
use lib.ListN.{length, get_or, drop}
use lib.Seq.{drop-cons}
use borrow.Author.Tests.{eq-eqb}
use Rattle.std.specs.Prelude.{Some}
use Rattle.text.specs.Inner.Line.{lf_from}

module _ (text : List ℕ) (at : ℕ) where
  pub lf_here : at < length text → get_or text at 0 ≡ 10 → lf_from at (drop at text) ≡ Some at
  unfolding lf_from
  lf_here h e = rw (drop-cons text at 0 h, eq-eqb (get_or text at 0) 10 e)
