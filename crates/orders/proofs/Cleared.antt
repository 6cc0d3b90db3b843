-- A part of an area after a write to it, word by word.
use mathlib.Core.Path.{◌≡◌, ◌∙◌, ap}
use mathlib.Core.List.{List}
use Prim.Native.Nat.{ℕ, ◌+◌, ◌≤◌, ◌<◌}
use lib.ListN.{length, get_or, take, drop, replicate}
use borrow.Rule.Slice.PartMut.{put_mid}
use Rattle.std.proofs.Common.{rules}
use Rattle.std.proofs.lemmas.List.{places}
use Rattle.words.proofs.Cases.{by_lt}

module _ (a k : ℕ) (xs ys : List ℕ) (within : a + k ≤ length xs) (filled : ys ≡ replicate (length (take k (drop a xs))) 0) where
  zeros : ys ≡ replicate k 0
  zeros = filled ∙ ap (λ n. replicate n 0) (search (rules, places))

  pub part_others : (i : ℕ) → (a ≤ i → a + k ≤ i) → get_or (put_mid a k xs ys) i 0 ≡ get_or xs i 0
  part_others i h = by_lt i a (λ l. rw zeros (search (rules, places))) (λ l. let m : a + k ≤ i = h l in rw zeros (search (rules, places)))

  pub part_zeros : (i : ℕ) → a ≤ i → i < a + k → get_or (put_mid a k xs ys) i 0 ≡ 0
  part_zeros i h j = rw zeros (search (rules, places))
