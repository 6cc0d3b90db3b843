-- A first part of some words written anew, the others as they were: by index.
use Prim.Native.Nat.{ℕ, ◌+◌, ◌-◌, ◌<◌, ◌≤◌}
use mathlib.Core.Path.{◌≡◌, ap, ◌∙◌}
use mathlib.Core.List.{List, ◌++◌}
use native.Mathlib.Omega.{arith}
use lib.ListN.{length, get_or, drop, get_or-append}
use lib.Seq.{get_or-drop, get_or-append-add}

module _ (n : ℕ) (part words : List ℕ) (e : length part ≡ n) (k : ℕ) where
  pub part_first : k < n → get_or (part ++ drop n words) k 0 ≡ get_or part k 0
  part_first l = get_or-append part (drop n words) 0 k (omega (arith, e, l))

  pub part_others : n ≤ k → get_or (part ++ drop n words) k 0 ≡ get_or words k 0
  part_others h =
      let s : k ≡ length part + (k - n) = omega (arith, e, h) in
      let i : n + (k - n) ≡ k = omega (arith, h) in
      ap (λ (x : ℕ). get_or (part ++ drop n words) x 0) s ∙ get_or-append-add part (drop n words) (k - n) 0
      ∙ get_or-drop n words (k - n) 0 ∙ ap (λ (x : ℕ). get_or words x 0) i
