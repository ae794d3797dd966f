-- What matters of a term for the height of what is around it.
use Rattle.std.specs.Prelude.{◌≡◌, ℕ, suc, false}
use Rattle.pz_rules.specs.pz_state.States.{StateView}
use Rattle.pz_rules.specs.pz_offer.PlaceOrder.{Place}
use Rattle.pz_rules.specs.Terms.{Term, height}
use Rattle.pz_rules.specs.Leaving.{is_done, around, residual}
use Rattle.pz_rules.specs.Settings.{left_by, Home}
use Rattle.pz_part_opening.specs.Bare.{is_bare}
use Rattle.pz_term_outlines.specs.declared.outline.Outline.{Outline}
use Rattle.pz_term_outlines.specs.Capped.{capped}

abbrev pub outline : Term → Outline
outline t = record { height = capped (height t); done = is_done t; bare = is_bare t }

-- the term is neither done nor a frame without outputs, and its greatest part is so high
pub record IsAbove (t : Term) (part : ℕ) : Type 0 where
  pub one_more : height t ≡ suc part
  pub undone : is_done t ≡ false
  pub other : is_bare t ≡ false

-- Where the child of this number has become one of the first outline, the term becomes one of the
-- second.
abbrev pub IsRound : Home → Outline → Term → ℕ → Outline → Type 0
IsRound h left t i result = (f : ℕ) (s : StateView) (x : Term) → left ≡ outline x → result ≡ outline (around h f s t i x).term

-- the same for the part at a place
abbrev pub IsLeft : Home → Outline → Term → Place → Outline → Type 0
IsLeft h part t place result = (f : ℕ) (s : StateView) (x : Term) → part ≡ outline x → result ≡ outline (residual h f t place (left_by s x)).term
