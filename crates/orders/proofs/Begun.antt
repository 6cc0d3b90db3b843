-- What a replay begins with, from what `links::begin` is given and leaves: this is the one place that cites the laws of
-- links.
use mathlib.Core.Path.{◌≡◌}
use mathlib.Core.List.{List}
use Prim.Native.Nat.{ℕ}
use lib.ListN.{length, replicate}
use Rattle.words.specs.Area.{area_words}
use Rattle.theory.specs.Line.{Run}
use Rattle.columns.specs.Inner.Full.{events_w}
use Rattle.columns.specs.Inner.Given.{Given}
use Rattle.machine.specs.Inner.Related.{Started}
use Rattle.machine.specs.Inner.Shapes.{Begun}
use Rattle.links.specs.Inner.Linking.{linked_l, linked_a, begin_a}
use Rattle.links.proofs.Beginning.{begun_in, small_in}

-- no links and no words before; the links and the words after
module _ (cut : ℕ) (full gates l a l' a' : List ℕ) (el : l ≡ replicate 8200 0) (ea : a ≡ replicate area_words 0)
    (e : l' ≡ linked_l full gates cut (events_w full) (events_w full) l a) (f : a' ≡ begin_a full (linked_a full gates cut (events_w full) (events_w full) a)) where
  -- they stand for the first state of every run that is given
  pub started : (R : Run) → Given R cut full gates → Started R full l' gates a'
  started R H = begun_in R cut full gates H l a el ea l' a' e f

  pub begun : (R : Run) → Given R cut full gates → length a' ≡ area_words → Begun full l' gates a'
  begun R H long = record {
    full_long = H.tells.tabled.columns.whole;
    area_long = long;
    small = small_in R cut full gates H l a el ea l' e;
    run = R;
    started = started R H;
  }
