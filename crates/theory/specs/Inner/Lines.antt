-- What the theorems about lines speak of.
use Rattle.std.specs.Prelude.{◌≡◌, Bool, true, ℕ, ◌≤◌, ◌<◌}
use Rattle.trace.specs.Trace.{Trace}
use Rattle.theory.specs.Epochs.{Rule}
use Rattle.theory.specs.Line.{LossFree, recorded, current, Permitted}

module _ (t : Trace) (rule : Rule) (cut : ℕ) where
  -- any set of usable checkpoints that contains the start
  pub record Usable (usable : ℕ → ℕ → Bool) : Type 0 where
    pub start : (z : ℕ) → usable z 1 ≡ true
    pub within : (z e : ℕ) → usable z e ≡ true → (1 ≤ e) × (e ≤ current t rule cut z)

  module _ (usable : ℕ → ℕ → Bool) (failed : ℕ → Bool) where
    -- a permitted line that no permitted line without loss exceeds
    pub record Above (l : ℕ → ℕ) : Type 0 where
      pub permitted : Permitted t rule cut usable failed l
      pub top : (m : ℕ → ℕ) → Permitted t rule cut usable failed m → LossFree (recorded t rule cut m) → (z : ℕ) → z < t.procs → m z ≤ l z
