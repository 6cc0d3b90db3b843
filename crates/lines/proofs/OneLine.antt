-- One line: what is read of a line is what stands there, and a rendered line is read as itself. From the laws of
-- fields.
use Prim.Native.Nat.{ℕ, ◌≤◌}
use mathlib.Core.Path.{◌≡◌, refl, ap, sym, ◌∙◌}
use mathlib.Core.List.{List, [], ◌∷◌, ◌++◌, append_assoc, append-nil}
use mathlib.Core.Bool.{true, false}
use native.Mathlib.Omega.{arith}
use Rattle.words.proofs.Cases.{by_bool}
use lib.ListN.{length, get_or}
use Rattle.text.specs.Number.{is_digit, number_at, decimal}
use Rattle.text.specs.Key.{starts_with, key_at, field_at}
use Rattle.text.proofs.Keys.{field_1}
use Rattle.trace.specs.declared.Event.{Event}
use Rattle.trace.specs.declared.Event.TheVariants.{Send, Recv, Save, Done}
use Rattle.lines.specs.declared.Line.{Line}
use Rattle.lines.specs.Line.{k_procs, k_send, k_to, k_val, k_recv, k_from, k_save, k_done, k_fail, k_set, most, most_value, most_set, then_line, procs_said, send_said, recv_said, process_said, fail_said, line_said}
use Rattle.lines.specs.Render.{render_event, render_failure, KeysHold}
use Rattle.lines.proofs.Field.{Behind, behind_start, split_key, read_field, read_end, rendered_field, rendered_end}
use Rattle.lines.specs.declared.Line as line

-- a failure line without its LF, field behind field
abbrev pub failure_text : ℕ → ℕ → List ℕ
failure_text step set = k_fail ++ (decimal step ++ (k_set ++ (decimal set ++ [])))

-- What a line that was read says of its bytes: by cases of the line, so that no form has to be told from another.
abbrev pub Says : List ℕ → Line → Type 0
Says l (line.TheVariants.Procs n) = (l ≡ k_procs ++ decimal n) × (n ≤ most)
Says l (line.TheVariants.Send at to val) = (l ≡ render_event (Send at to val)) × KeysHold (Send at to val)
Says l (line.TheVariants.Recv at from) = (l ≡ render_event (Recv at from)) × KeysHold (Recv at from)
Says l (line.TheVariants.Save at) = (l ≡ render_event (Save at)) × KeysHold (Save at)
Says l (line.TheVariants.Done at) = (l ≡ render_event (Done at)) × KeysHold (Done at)
Says l (line.TheVariants.Failure step set) = (l ≡ failure_text step set) × (step ≤ most) × (set ≤ most_set)
Says l line.TheVariants.Malformed = Unit

-- the rendered lines, field behind field
number_text : (key : List ℕ) (n : ℕ) → key ++ decimal n ≡ key ++ (decimal n ++ [])
number_text key n = simp append-nil

pub send_text : (a b v : ℕ) → render_event (Send a b v) ≡ k_send ++ (decimal a ++ (k_to ++ (decimal b ++ (k_val ++ (decimal v ++ [])))))
unfolding render_event
send_text a b v = simp (append_assoc, append-nil)

pub recv_text : (a b : ℕ) → render_event (Recv a b) ≡ k_recv ++ (decimal a ++ (k_from ++ (decimal b ++ [])))
unfolding render_event
recv_text a b = simp (append_assoc, append-nil)

pub save_text : (a : ℕ) → render_event (Save a) ≡ k_save ++ (decimal a ++ [])
unfolding render_event
save_text a = number_text k_save a

pub done_text : (a : ℕ) → render_event (Done a) ≡ k_done ++ (decimal a ++ [])
unfolding render_event
done_text a = number_text k_done a

-- a failure line and whatever follows its LF
pub failure_text_lem : (step set : ℕ) (rest : List ℕ) → render_failure step set ++ rest ≡ failure_text step set ++ 10 ∷ rest
unfolding render_failure
failure_text_lem step set rest = simp (append_assoc, append-nil)

-- behind a key at the line's start a number is read as a field's is
start_field : (l key : List ℕ) → key_at l 0 key ≡ true → number_at l (length key) most ≡ field_at l 0 key most
start_field l key t = ap (λ (i : ℕ). number_at l i most) (omega arith) ∙ field_1 l 0 key most (key_at l 0 key) refl t

-- ---- what is read is what stands there

-- each form, its key at the line's start
module _ (l : List ℕ) where
  begun : (key : List ℕ) (next : ℕ → ℕ → Line) → key_at l 0 key ≡ true
      → ((v p : ℕ) (rest : List ℕ) → l ≡ key ++ (decimal v ++ rest) → Behind l p rest → v ≤ most → Says l (next v p))
      → Says l (then_line (number_at l (length key) most) next)
  begun key next t good = rw (start_field l key t) (read_field most refl l (Says l) 0 key l next (behind_start l) tt good)

  send_says : key_at l 0 k_send ≡ true → Says l (send_said l)
  unfolding send_said
  send_says t = begun k_send _ t (λ a p x e s h.
      read_field _ refl l (Says l) p k_to x _ s tt (λ b q y f u i.
      read_field _ refl l (Says l) q k_val y _ u tt (λ v r z g w j.
      read_end (Says l) l r z (line.TheVariants.Send a b v) w tt (λ n. (rw (e, f, g, n, send_text), (h, omega arith, omega arith))))))

  recv_says : key_at l 0 k_recv ≡ true → Says l (recv_said l)
  unfolding recv_said
  recv_says t = begun k_recv _ t (λ a p x e s h.
      read_field most refl l (Says l) p k_from x _ s tt (λ b q y f u i.
      read_end (Says l) l q y (line.TheVariants.Recv a b) u tt (λ n. (rw (e, f, n, recv_text), (h, i)))))

  -- a process behind a key, of which the key says something
  process_says : (key : List ℕ) (says : ℕ → Line) → ((a : ℕ) → a ≤ most → Says (key ++ (decimal a ++ [])) (says a)) → key_at l 0 key ≡ true
      → Says l (process_said key says l)
  unfolding process_said
  process_says key says good t = begun key _ t (λ a p x e s h. read_end (Says l) l p x (says a) s tt (λ n. rw (e, n) (good a h)))

  procs_says : key_at l 0 k_procs ≡ true → Says l (procs_said l)
  unfolding procs_said
  procs_says t = begun k_procs _ t (λ a p x e s h. read_end (Says l) l p x (line.TheVariants.Procs a) s tt (λ n. (rw (e, n, append-nil), h)))

  fail_says : key_at l 0 k_fail ≡ true → Says l (fail_said l)
  unfolding fail_said
  fail_says t = begun k_fail _ t (λ k p x e s h.
      read_field most_set refl l (Says l) p k_set x _ s tt (λ m q y f u i.
      read_end (Says l) l q y (line.TheVariants.Failure k m) u tt (λ n. (rw (e, f, n), h, i))))

  pub line_says : Says l (line_said l)
  unfolding line_said
  line_says =
      by_bool (key_at l 0 k_send) (λ t. rw t (send_says t)) (λ f. rw f (
      by_bool (key_at l 0 k_recv) (λ t. rw t (recv_says t)) (λ f. rw f (
      by_bool (key_at l 0 k_save) (λ t. rw t (process_says k_save _ (λ a h. (sym (save_text a), h)) t)) (λ f. rw f (
      by_bool (key_at l 0 k_done) (λ t. rw t (process_says k_done _ (λ a h. (sym (done_text a), h)) t)) (λ f. rw f (
      by_bool (key_at l 0 k_procs) (λ t. rw t (procs_says t)) (λ f. rw f (
      by_bool (key_at l 0 k_fail) (λ t. rw t (fail_says t)) (λ f. rw f tt)))))))))))

-- ---- what is rendered is read

-- a key at a line's start, its number, and no digit behind it
starts : (key : List ℕ) (v : ℕ) (rest : List ℕ) (next : ℕ → ℕ → Line) (said : Line) → v ≤ most → is_digit (get_or rest 0 256) ≡ false
    → ((p : ℕ) → Behind (key ++ (decimal v ++ rest)) p rest → next v p ≡ said) → then_line (number_at (key ++ (decimal v ++ rest)) (length key) most) next ≡ said
starts key v rest next said h n good =
    let l = key ++ (decimal v ++ rest) in
    rw (start_field l key (split_key key (decimal v ++ rest))) (rendered_field most refl l 0 key v rest next said (behind_start l) h n good)

pub procs_line : (n : ℕ) → n ≤ most → line_said (k_procs ++ decimal n) ≡ line.TheVariants.Procs n
unfolding line_said procs_said starts_with is_digit
procs_line n h = ap line_said (number_text k_procs n) ∙ starts k_procs n [] _ _ h refl (λ p s. rendered_end (k_procs ++ (decimal n ++ [])) p _ s)

process_read : (key : List ℕ) (says : ℕ → Line) (a : ℕ) → a ≤ most → process_said key says (key ++ (decimal a ++ [])) ≡ says a
unfolding process_said is_digit
process_read key says a h = starts key a [] _ _ h refl (λ p s. rendered_end (key ++ (decimal a ++ [])) p _ s)

-- an event as a line
abbrev pub line_for : Event → Line
line_for (Send at to val) = line.TheVariants.Send at to val
line_for (Recv at from) = line.TheVariants.Recv at from
line_for (Save at) = line.TheVariants.Save at
line_for (Done at) = line.TheVariants.Done at

pub event_line : (e : Event) → KeysHold e → line_said (render_event e) ≡ line_for e
unfolding line_said send_said recv_said process_said starts_with is_digit
event_line (Send a b v) h =
    let l = k_send ++ (decimal a ++ (k_to ++ (decimal b ++ (k_val ++ (decimal v ++ []))))) in
    ap line_said (send_text a b v)
    ∙ starts k_send a _ _ _ h.0 refl (λ p s.
    rendered_field most refl l p k_to b _ _ _ s h.1 refl (λ q u.
    rendered_field most_value refl l q k_val v _ _ _ u h.2 refl (λ r w. rendered_end l r _ w)))
event_line (Recv a b) h =
    let l = k_recv ++ (decimal a ++ (k_from ++ (decimal b ++ []))) in
    ap line_said (recv_text a b)
    ∙ starts k_recv a _ _ _ h.0 refl (λ p s. rendered_field most refl l p k_from b _ _ _ s h.1 refl (λ q u. rendered_end l q _ u))
event_line (Save a) h = ap line_said (save_text a) ∙ process_read k_save line.TheVariants.Save a h
event_line (Done a) h = ap line_said (done_text a) ∙ process_read k_done line.TheVariants.Done a h

pub failure_line : (step set : ℕ) → step ≤ most → set ≤ most_set → line_said (failure_text step set) ≡ line.TheVariants.Failure step set
unfolding line_said fail_said starts_with is_digit
failure_line step set h i =
    starts k_fail step _ _ _ h refl (λ p s.
    rendered_field most_set refl (failure_text step set) p k_set set _ _ _ s i refl (λ q u. rendered_end (failure_text step set) q _ u))
