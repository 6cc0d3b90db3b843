-- What a line of the text says. A line is its bytes without the LF that ends it. Quotations are from the requirements
-- (MANUAL 2).
use Rattle.std.specs.Prelude.{ℕ, List, Bool, true, false, cond, length, eqb, Option, Some, None}
use Rattle.text.specs.declared.Numeral.{Numeral}
use Rattle.text.specs.Number.{number_at}
use Rattle.text.specs.Bytes.{bytes_of}
use Rattle.text.specs.Key.{key_at, field_at}
use Rattle.lines.specs.declared.Line.{Line}
use Rattle.lines.specs.declared.Line.TheVariants.{Procs, Send, Recv, Save, Done, Failure, Malformed}

-- the keys, byte for byte, with the space before those that follow another
abbrev pub k_procs : List ℕ
k_procs = bytes_of "procs="

abbrev pub k_send : List ℕ
k_send = bytes_of "ev=send at="

abbrev pub k_to : List ℕ
k_to = bytes_of " to="

abbrev pub k_val : List ℕ
k_val = bytes_of " val="

abbrev pub k_recv : List ℕ
k_recv = bytes_of "ev=recv at="

abbrev pub k_from : List ℕ
k_from = bytes_of " from="

abbrev pub k_save : List ℕ
k_save = bytes_of "ev=save at="

abbrev pub k_done : List ℕ
k_done = bytes_of "ev=done at="

abbrev pub k_fail : List ℕ
k_fail = bytes_of "fail="

abbrev pub k_set : List ℕ
k_set = bytes_of " set="

-- The largest number a key can hold: "4294967295; for `set`, 18446744073709551615"; "`val` now runs to
-- 18446744073709551615", "a zone, step or count above 4294967295 is still 1" (MANUAL 2.2).
abbrev pub most : ℕ
most = 4294967295

abbrev pub most_value : ℕ
most_value = 18446744073709551615

abbrev pub most_set : ℕ
most_set = 18446744073709551615

-- what follows a number that was read, or no line
abbrev pub then_line : Option Numeral → (ℕ → ℕ → Line) → Line
then_line (Some n) next = next n.value n.end
then_line None next = Malformed

-- the line ends here
abbrev pub when_end : Bool → Line → Line
when_end true l = l
when_end false l = Malformed

-- `procs=N`
unfoldable pub procs_said : List ℕ → Line
procs_said l = then_line (number_at l (length k_procs) most) (λ n p. when_end (eqb p (length l)) (Procs n))

-- `ev=send at=A to=B val=V`
unfoldable pub send_said : List ℕ → Line
send_said l =
    then_line (number_at l (length k_send) most) (λ a p.
    then_line (field_at l p k_to most) (λ b q.
    then_line (field_at l q k_val most_value) (λ v r. when_end (eqb r (length l)) (Send a b v))))

-- `ev=recv at=A from=B`
unfoldable pub recv_said : List ℕ → Line
recv_said l =
    then_line (number_at l (length k_recv) most) (λ a p.
    then_line (field_at l p k_from most) (λ b q. when_end (eqb q (length l)) (Recv a b)))

-- `ev=save at=A`; `ev=done at=A`: by the key, and what it says of A
unfoldable pub process_said : List ℕ → (ℕ → Line) → List ℕ → Line
process_said key says l = then_line (number_at l (length key) most) (λ a p. when_end (eqb p (length l)) (says a))

-- `fail=K set=M`
unfoldable pub fail_said : List ℕ → Line
fail_said l =
    then_line (number_at l (length k_fail) most) (λ k p.
    then_line (field_at l p k_set most_set) (λ m q. when_end (eqb q (length l)) (Failure k m)))

unfoldable pub line_said : List ℕ → Line
line_said l =
    cond (key_at l 0 k_send) (send_said l)
    (cond (key_at l 0 k_recv) (recv_said l)
    (cond (key_at l 0 k_save) (process_said k_save Save l)
    (cond (key_at l 0 k_done) (process_said k_done Done l)
    (cond (key_at l 0 k_procs) (procs_said l)
    (cond (key_at l 0 k_fail) (fail_said l) Malformed)))))
