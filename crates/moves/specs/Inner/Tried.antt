-- A step that is tried: refused, and nothing changes, or done. No public contract cites this.
use Rattle.std.specs.Prelude.{ℕ, ◌≡◌, Bool, true, false, List, Option, IfNone, IfSome}
use Rattle.sets.specs.Inner.Sets.{with_in}

-- `ok`: may the step be done; `done`: the run area that it leaves; `whom`: the process that it may let run. Then the
-- run area and the tree before the trial and after it, and the answer r: none where the step is refused, else the set of
-- `whom` alone
pub record Tried (ok : Bool) (done : List ℕ) (whom : ℕ) (area tree after_area after_tree : List ℕ) (r : Option ℕ) : Type 0 where
  pub refused : IfNone r ((ok ≡ false) × (after_area ≡ area) × (after_tree ≡ tree))
  pub carried : IfSome r (λ w. (ok ≡ true) × (after_area ≡ done))
  pub woken : IfSome r (λ w. w ≡ with_in 0 whom)
