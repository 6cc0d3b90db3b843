-- Both ways out of `word_noted`: what is no event's word and value is not fit, and the event that was judged, and noted if
-- it is fit, is the one that they say.
use Prim.Native.Nat.{ℕ}
use mathlib.Core.Path.{◌≡◌, refl, sym, ◌∙◌}
use mathlib.Core.Bool.{Bool, true, false, ◌&&◌}
use lib.Dec.{eqb}
use Rattle.std.specs.Prelude.{Option, None, Some}
use Rattle.words.proofs.Cases.{by_bool}
use Rattle.trace.specs.declared.Event.{Event}
use Rattle.trace.specs.Trace.{value_of}
use Rattle.trace.specs.Table.{word_of}
use Rattle.table.specs.Held.{event_of}
use Rattle.table.specs.Inner.Tested.{word_fits, read_event}

module _ (w v : ℕ) where
  -- are they an event's
  abbrev own : Bool
  own = eqb (word_of (event_of w v)) w && eqb (value_of (event_of w v)) v

  own_fits : (fit : Event → Bool) → word_fits fit w v ≡ (own && fit (event_of w v))
  unfolding word_fits
  own_fits fit = by_bool (eqb (word_of (event_of w v)) w) (λ h. rw h refl) (λ h. rw h refl)

  pub no_event : None ≡ read_event w v → (fit : Event → Bool) → false ≡ word_fits fit w v
  unfolding read_event
  no_event h fit = by_bool own (λ y. let e : None ≡ Some (event_of w v) = rw y at h in absurd (let z : ⊥ = cc in z)) (λ n. sym (own_fits fit ∙ rw n refl))

  pub one_event : (x : Event) → Some x ≡ read_event w v → (x ≡ event_of w v) × ((fit : Event → Bool) → fit x ≡ word_fits fit w v)
  unfolding read_event
  one_event x h = by_bool own
      (λ y. let e : Some x ≡ Some (event_of w v) = rw y at h in let i : x ≡ event_of w v = cc in (i, λ fit. rw i (sym (own_fits fit ∙ rw y refl))))
      (λ n. let e : Some x ≡ None = rw n at h in absurd (let z : ⊥ = cc in z))
