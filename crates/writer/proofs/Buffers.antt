-- Items written one after another: in parts, and from the first place on.
use Prim.Native.Nat.{ℕ, zero, suc, ◌+◌, ◌-◌, ◌<◌, ◌≤◌}
use mathlib.Core.Path.{◌≡◌, refl, sym, ap, ◌∙◌}
use mathlib.Core.List.{List, [], ◌∷◌, ◌++◌, append_assoc}
use mathlib.Core.Bool.{true, false}
use native.Mathlib.Omega.{arith}
use native.Mathlib.Nat.{add-zero}
use native.Mathlib.Numerals.{add-one}
use lib.Dec.{ltb}
use lib.ListN.{length, get_or, set, take, drop, length-append, length-drop, drop_of_length-le, take-append-drop}
use lib.Seq.{take-suc, drop-nil, set-append_seam, length-take-le, take_all}
use borrow.Author.Tests.{lt-ltb, le-ltb}
use borrow.Rule.Slice.PartMut.{put_mid}
use Rattle.words.proofs.Cases.{by_lt}
use Rattle.writer.specs.Inner.Puts.{Laid, put_one, puts, Puts}
use Rattle.writer.specs.Inner.Sinks.{Takes}
use Rattle.writer.specs.declared.Sink.{Sink}
use Rattle.writer.specs.Buffer.{room, written}

module _ {A : Type 0} where
  -- ---- One item

  pub put_in : (b : A) (at : ℕ) (out : List A) → at < length out → Puts (b ∷ []) out at (set out at b) (at + 1)
  unfolding puts put_one
  put_in b at out h = record { is = rw (lt-ltb at (length out) h) }

  pub put_full : (b : A) (at : ℕ) (out : List A) → length out ≤ at → Puts (b ∷ []) out at out at
  unfolding puts put_one
  put_full b at out h = record { is = rw (le-ltb at (length out) h) }

  -- ---- In parts

  puts_append : (xs ys : List A) (s : Laid A) → puts (xs ++ ys) s ≡ puts ys (puts xs s)
  unfolding puts
  puts_append [] ys s = refl
  puts_append (b ∷ xs) ys s = puts_append xs ys (put_one b s)

  puts_full : (bs out : List A) (at : ℕ) → length out ≤ at → puts bs (record { bytes = out; next = at }) ≡ record { bytes = out; next = at }
  unfolding puts put_one
  puts_full [] out at h = refl
  puts_full (b ∷ bs) out at h = rw (le-ltb at (length out) h) (puts_full bs out at h)

  pub none : (out : List A) (at : ℕ) → Puts [] out at out at
  unfolding puts
  none out at = record { is = refl }

  pub then : (xs ys out out' out'' : List A) (at at' at'' : ℕ) → Puts xs out at out' at' → Puts ys out' at' out'' at'' → Puts (xs ++ ys) out at out'' at''
  then xs ys out out' out'' at at' at'' g h = record { is = h.is ∙ ap (puts ys) g.is ∙ sym (puts_append xs ys (record { bytes = out; next = at })) }

  pub same_bytes : (xs ys out out' : List A) (at at' : ℕ) → xs ≡ ys → Puts xs out at out' at' → Puts ys out at out' at'
  same_bytes xs ys out out' at at' e h = record { is = h.is ∙ ap (λ (b : List A). puts b (record { bytes = out; next = at })) e }

  pub full_put : (bs out : List A) (at : ℕ) → length out ≤ at → Puts bs out at out at
  full_put bs out at h = record { is = sym (puts_full bs out at h) }

  -- where none of the items is left to write, all are written
  pub rest_put : (bs before out : List A) (i at next : ℕ) → length bs ≤ i
      → puts (drop i bs) (record { bytes = out; next = next }) ≡ puts bs (record { bytes = before; next = at }) → Puts bs before at out next
  unfolding puts
  rest_put bs before out i at next h e =
      record { is = ap (λ (x : List A). puts x (record { bytes = out; next = next })) (sym (drop_of_length-le bs h)) ∙ e }

  -- the same of sinks
  pub takes_none : (s : Sink A) → Takes [] s s
  takes_none s = record { puts = none s.out.now s.next; same = refl }

  pub takes_then : {xs ys : List A} {a b c : Sink A} → Takes xs a b → Takes ys b c → Takes (xs ++ ys) a c
  takes_then {xs} {ys} g h = record { puts = then xs ys _ _ _ _ _ _ g.puts h.puts; same = h.same ∙ g.same }

  pub takes_same : {xs ys : List A} {a b : Sink A} → xs ≡ ys → Takes xs a b → Takes ys a b
  takes_same e h = rw e at h

  -- where the sink ends, the lender has what was put into it
  pub lent : {xs out : List A} {a b : Sink A} → Takes xs a b → out ≡ b.out.now → Puts xs a.out.now a.next out b.next
  lent t e = rw e t.puts

  -- ---- All at once

  whole_at : (bs pre rest : List A) → puts bs (record { bytes = pre ++ rest; next = length pre })
      ≡ record { bytes = pre ++ (take (length rest) bs ++ drop (length bs) rest); next = length pre + length (take (length rest) bs) }
  unfolding puts put_one
  whole_at [] pre [] = rw (let q : length pre + 0 ≡ length pre = omega arith in q)
  whole_at [] pre (y ∷ ys) = rw (let q : length pre + 0 ≡ length pre = omega arith in q)
  whole_at (b ∷ bs) pre [] =
      let full : ltb (length pre) (length (pre ++ [])) ≡ false = le-ltb (length pre) (length (pre ++ [])) (omega (arith, length-append pre [])) in
      let h = whole_at bs pre [] in
      rw full (rw (drop-nil {A = A} (length bs)) at h)
  whole_at (b ∷ bs) pre (y ∷ ys) =
      let free : ltb (length pre) (length (pre ++ y ∷ ys)) ≡ true = lt-ltb (length pre) (length (pre ++ y ∷ ys)) (omega (arith, length-append pre (y ∷ ys))) in
      let n : length (pre ++ b ∷ []) ≡ length pre + 1 = length-append pre (b ∷ []) in
      let l : (pre ++ b ∷ []) ++ ys ≡ pre ++ b ∷ ys = append_assoc pre (b ∷ []) ys in
      let m : (pre ++ b ∷ []) ++ (take (length ys) bs ++ drop (length bs) ys) ≡ pre ++ b ∷ (take (length ys) bs ++ drop (length bs) ys) = append_assoc pre (b ∷ []) (take (length ys) bs ++ drop (length bs) ys) in
      let h = whole_at bs (pre ++ b ∷ []) ys in
      let k : length pre + 1 + length (take (length ys) bs) ≡ length pre + suc (length (take (length ys) bs)) = omega arith in
      rw (free, set-append_seam pre y ys b) (rw (l, n, m, k) at h)

  spread : (bs out : List A) (at : ℕ) → at ≤ length out → puts bs (record { bytes = out; next = at })
      ≡ record { bytes = take at out ++ (take (length out - at) bs ++ drop (length bs) (drop at out)); next = at + length (take (length out - at) bs) }
  spread bs out at h = rw (take-append-drop at out, length-take-le at out h, length-drop at out) at (whole_at bs (take at out) (drop at out))

  -- what `copy_from_slice` leaves: all items, or the k that there is room for
  pub all_put : (bs out : List A) (at k : ℕ) → at + length bs ≤ length out → k ≡ length bs → Puts bs out at (put_mid at k out bs) (at + length bs)
  all_put bs out at k h e =
      let t : take (length out - at) bs ≡ bs = take_all (length out - at) bs (omega arith) in
      rw e (record { is = sym (rw t at (spread bs out at (omega arith))) })

  pub front_put : (bs out : List A) (at k : ℕ) → at + k ≡ length out → k ≤ length bs → Puts bs out at (put_mid at k out (take k bs)) (at + k)
  front_put bs out at k e l =
      let q : length out - at ≡ k = omega arith in
      let d : drop (length bs) (drop at out) ≡ [] = drop_of_length-le (drop at out) {i = length bs} (omega (arith, length-drop at out)) in
      let f : drop k (drop at out) ≡ [] = drop_of_length-le (drop at out) {i = k} (omega (arith, length-drop at out)) in
      rw f (record { is = sym (rw (q, d, length-take-le k bs l) at (spread bs out at (omega arith))) })

-- ---- Numbers one by one, as many as there is room for

pub words_none : (out : List ℕ) (at : ℕ) → Puts [] out at out (at + 0)
words_none out at = rw add-zero (none out at)

pub words_next : (bs before out : List ℕ) (at from k : ℕ) → k < length bs → at + k < length out → Puts (take k bs) before from out (at + k)
    → Puts (take (k + 1) bs) before from (set out (at + k) (get_or bs k 0)) (at + (k + 1))
words_next bs before out at from k h f p =
    let q : at + (k + 1) ≡ at + k + 1 = omega arith in
    rw (q, add-one k, take-suc bs k 0 h) (then _ _ _ _ _ _ _ _ p (put_in (get_or bs k 0) (at + k) out f))

-- there are no more than k, or no room for more
pub words_all : (bs before out : List ℕ) (at next k : ℕ) → (k < length bs → length out ≤ next) → Puts (take k bs) before at out next → Puts bs before at out next
words_all bs before out at next k h p =
    by_lt k (length bs)
    (λ l. rw take-append-drop at (then (take k bs) (drop k bs) _ _ _ _ _ _ p (full_put (drop k bs) out next (h l))))
    (λ g. let t : take k bs ≡ bs = take_all k bs g in rw t at p)

-- ---- From the first place on

pub whole : (bs before after : List ℕ) (next : ℕ) → Puts bs before 0 after next → (after ≡ written bs before) × (next ≡ length (room bs before))
unfolding room written
whole bs before after next h =
    let e = h.is ∙ whole_at bs [] before in
    let q : 0 + length (take (length before) bs) ≡ length (take (length before) bs) = omega arith in
    (ap (λ (s : Laid ℕ). s.bytes) e, ap (λ (s : Laid ℕ). s.next) e ∙ q)

take_few : (n : ℕ) (l : List ℕ) → length (take n l) ≤ n
take_few zero l = omega arith
take_few (suc n) [] = omega arith
take_few (suc n) (x ∷ xs) = omega (arith, take_few n xs)

-- no place past the buffer is answered
pub room_within : (bs before : List ℕ) → length (room bs before) ≤ length before
unfolding room
room_within bs before = take_few (length before) bs

pub next_within : (bs before after : List ℕ) (next : ℕ) → next ≡ length (room bs before) → length after ≡ length before → next ≤ length after
next_within bs before after next e l = omega (arith, room_within bs before)
