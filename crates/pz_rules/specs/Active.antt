-- The active parts of a term. Only they act, and only the delays among them count.
use Rattle.std.specs.Prelude.{◌≡◌, ◌<◌, ℕ, true, [], ◌∷◌, Ok}
use Rattle.pz_offer.specs.PlaceOrder.{Place}
use Rattle.pz_rules.specs.Terms.{Term, sequence, parallel, select, guarded, frame, abort, idle, handling, count, child, frame_in}
use Rattle.pz_rules.specs.Settings.{Context}
use Rattle.pz_rules.specs.Evaluations.{Tests}

-- The child of this number goes on with the term. The statements behind an open one are no child, a
-- guard lets its body go on where its test is true, and what is interrupted stands still.
abbrev pub Reached : Context → ℕ → Term → ℕ → Type 0
Reached a f (sequence t rest) i = i ≡ 0
Reached a f (parallel ts) i = i < count ts
Reached a f (select ts) i = i < count ts
Reached a f (guarded test at t) i = (i ≡ 0) × Tests a f at test (Ok true)
Reached a f (frame number inputs results t) i = i ≡ 0
Reached a f (abort t u) i = i < 2
Reached a f (idle t u again) i = i < 2
Reached a f (handling t u again) i = i ≡ 1
Reached a f _ i = ⊥

-- In a term that stands in frame f: at this place stands this active part, in frame g.
pub data Active (a : Context) : ℕ → Term → Place → ℕ → Term → Type 0 where
  here : (f : ℕ) (t : Term) → Active a f t [] f t
  inside : (f : ℕ) (t : Term) (i : ℕ) (place : Place) (g : ℕ) (part : Term) → Reached a f t i → Active a (frame_in t f) (child t i) place g part → Active a f t (i ∷ place) g part

-- in the whole term of a process, which stands in no frame
abbrev pub IsActive : Context → Term → Place → ℕ → Term → Type 0
IsActive a t place g part = Active a 0 t place g part
