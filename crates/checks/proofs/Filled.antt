-- Laws of patterns: a byte of one more, the last, and that no place past the buffer is answered.
use Prim.Native.Nat.{ℕ, ◌+◌, ◌-◌, ◌<◌, ◌≤◌}
use mathlib.Core.Path.{◌≡◌}
use mathlib.Core.List.{List, [], ◌∷◌, ◌++◌}
use native.Mathlib.Omega.{arith}
use native.Mathlib.Numerals.{add-one}
use lib.ListN.{length, get_or, take, drop, length-set, drop_of_length-le}
use lib.Seq.{drop-cons}
use borrow.Author.Tests.{eq-eqb, ne_eqb, lt-ltb, le-ltb}
use Rattle.words.proofs.Cases.{by_lt}
use Rattle.text.specs.Number.{decimal}
use Rattle.writer.specs.Inner.Puts.{Laid, put_one, puts, Puts}
use Rattle.writer.specs.Buffer.{room}
use Rattle.writer.specs.declared.Sink.{Sink}
use Rattle.writer.specs.Inner.Sinks.{Takes}
use Rattle.writer.proofs.Buffers.{takes_none as sink_none, takes_then, takes_same, lent, whole}
use Rattle.checks.specs.Inner.Filled.{piece, takes, filled, Fills}

pub piece_number : (b v : ℕ) → b ≡ 35 → decimal v ≡ piece b v
unfolding piece
piece_number b v e = rw (eq-eqb b 35 e)

pub piece_byte : (b v : ℕ) → (b ≡ 35 → ⊥) → b ∷ [] ≡ piece b v
unfolding piece
piece_byte b v n = rw (ne_eqb b 35 n)

-- whatever puts the rest of a pattern from byte i on, after what has been put, puts the whole
abbrev pub Rest : (pattern values : List ℕ) (i k : ℕ) (first sink : Sink ℕ) → Type 0
Rest pattern values i k first sink =
    (last : Sink ℕ) → Takes (filled (drop i pattern) values k) sink last → Takes (filled pattern values 0) first last

filled_next : (pattern values : List ℕ) (i k b v t : ℕ) → i < length pattern → b ≡ get_or pattern i 0 → v ≡ get_or values k 0 → t ≡ takes b
    → piece b v ++ filled (drop (i + 1) pattern) values (k + t) ≡ filled (drop i pattern) values k
unfolding filled
filled_next pattern values i k b v t h eb ev et = rw (drop-cons pattern i 0 h, ← eb, ← ev, ← et, add-one i)

pub rest_next : (pattern values : List ℕ) (i k b v t : ℕ) (first sink next : Sink ℕ)
    → i < length pattern → b ≡ get_or pattern i 0 → v ≡ get_or values k 0 → t ≡ takes b → Takes (piece b v) sink next
    → Rest pattern values i k first sink → Rest pattern values (i + 1) (k + t) first next
rest_next pattern values i k b v t first sink next h eb ev et p rest last q =
    rest last (takes_same (filled_next pattern values i k b v t h eb ev et) (takes_then p q))

-- ---- No place past the buffer is answered

within_one : (b d : ℕ) (s : Laid ℕ) → s.next ≤ length s.bytes + d → (put_one b s).next ≤ length (put_one b s).bytes + d
unfolding put_one
within_one b d s h =
    by_lt s.next (length s.bytes)
    (λ l. rw (lt-ltb s.next (length s.bytes) l) (simp length-set (omega arith)))
    (λ g. rw (le-ltb s.next (length s.bytes) g) h)

within : (bs : List ℕ) (d : ℕ) (s : Laid ℕ) → s.next ≤ length s.bytes + d → (puts bs s).next ≤ length (puts bs s).bytes + d
unfolding puts
within [] d s h = h
within (b ∷ bs) d s h = within bs d (put_one b s) (within_one b d s h)

puts_within : (bs before after : List ℕ) (at next : ℕ) → Puts bs before at after next → next ≤ length after + (at - length before)
puts_within bs before after at next p =
    let w = within bs (at - length before) (record { bytes = before; next = at }) (omega arith) in
    rw (← p.is) at w

-- where no byte is left, the lender has the whole
pub rest_end : (pattern values out : List ℕ) (i k : ℕ) (first sink : Sink ℕ) → length pattern ≤ i → out ≡ sink.out.now
    → Rest pattern values i k first sink → Fills pattern values first.out.now first.next out sink.next
unfolding filled
rest_end pattern values out i k first sink h e rest =
    let p = lent (rest sink (rw (drop_of_length-le pattern {i = i} h) (sink_none sink))) e in
    record { is = p; within = puts_within _ _ _ _ _ p }

-- from the first place on, as many bytes as there are or as the buffer has
pub fills_whole : (pattern values before after : List ℕ) (next n : ℕ) → length before ≡ n → Fills pattern values before 0 after next
    → next ≡ length (take n (filled pattern values 0))
unfolding room
fills_whole pattern values before after next n e f = rw (← e) (whole _ _ _ _ f.is).1
