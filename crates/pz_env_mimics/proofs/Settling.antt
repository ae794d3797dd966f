-- What is left round the acting part of the environment once it is done.
use Rattle.std.proofs.Common.{◌≡◌, ◌≤◌, ℕ, Bool, List, [], ◌∷◌, Ok, Err, All, refl, ap, ◌∙◌, arith, if◌then◌else◌}
use Rattle.std.proofs.lemmas.Bool.{le-leb}
use Rattle.std.proofs.lemmas.List.Elements.{All-head, All-tail}
use Rattle.pz_env_tree.specs.pz_syntax.declared.tokens.Pos.{Pos}
use Rattle.pz_env_tree.specs.pz_state.States.{StateView}
use Rattle.pz_env_tree.specs.pz_offer.declared.trouble.Trouble.TheVariants.{High}
use Rattle.pz_env_tree.specs.pz_rules.Terms.{Step, Term, done, leaf, sequence, height}
use Rattle.pz_env_tree.specs.pz_rules.Settings.{Context, Process, left_by, Home, home_of}
use Rattle.pz_env_tree.specs.pz_rules.Opening.{step_opened, enter, opened_all}
use Rattle.pz_env_tree.specs.pz_rules.Leaving.{around, residual, swept, not_too_high, settled}
use Rattle.pz_env_tree.specs.pz_rules.InternalActions.{done_in}
use Rattle.pz_env_tree.specs.pz_env_script.declared.entry.Transfer.{Transfer}
use Rattle.pz_env_tree.specs.pz_env_script.declared.entry.Transfer.TheVariants.{Send, Receive}
use Rattle.pz_env_tree.specs.pz_env_rules.Environment.{Line, wait_of, offers, begins}
use Rattle.pz_env_mimics.specs.Environments.{exchange, waiting, statements}
use Rattle.pz_env_mimics.proofs.Environment.{not_begun, behind, offering, called, IsDoing, finished, waiting_for, place_of}

-- Openings

opens_exchange : (into : Step → StateView → Process) (p : ℕ) (x : Line) (transfer : Transfer) (s : StateView)
    → step_opened into (exchange p x transfer) s ≡ left_by s (leaf (exchange p x transfer))
opens_exchange into p x (Send values) s = refl
opens_exchange into p x (Receive count) s = refl

module _ (port : Line → ℕ) where
  offered_now : (h : Home) (x : Line) (rest : List Line) (s : StateView) → opened_all h (behind port x rest) s ≡ left_by s (offering port x rest)
  offered_now h x [] s = opens_exchange (enter h) (port x) x x.entry.transfer s
  offered_now h x (y ∷ ys) s =
      ap (λ (p : Process). left_by p.state (sequence p.term (statements port (y ∷ ys)))) (opens_exchange (enter h) (port x) x x.entry.transfer s)

  -- all of the environment, where these lines are left
  abbrev pub whole_then : List Line → Term
  whole_then [] = done
  whole_then (y ∷ ys) = called (sequence (leaf (waiting y)) (behind port y ys))

  framed_now : (h : Home) (u : Term) (x : Line) (rest : List Line) (s : StateView)
      → around h 0 s (called u) 0 (offering port x rest) ≡ left_by s (called (offering port x rest))
  framed_now h u x [] s = refl
  framed_now h u x (y ∷ ys) s = refl

  -- the wait is over
  residual_wait : (h : Home) (t : Term) (x : Line) (rest : List Line) (s : StateView)
      → residual h 0 (called (sequence t (behind port x rest))) (0 ∷ 0 ∷ []) (done_in s) ≡ left_by s (called (offering port x rest))
  residual_wait h t x rest s =
      ap (λ (p : Process). around h 0 p.state (called (sequence t (behind port x rest))) 0 p.term) (offered_now h x rest s)
      ∙ framed_now h (sequence t (behind port x rest)) x rest s

  -- the communication is done
  residual_exchange : (h : Home) (x : Line) (rest : List Line) (s : StateView)
      → residual h 0 (called (offering port x rest)) (place_of (offers x rest)) (done_in s) ≡ left_by s (whole_then rest)
  residual_exchange h x [] s = refl
  residual_exchange h x (y ∷ ys) s = refl

  height_offering : (x : Line) (rest : List Line) → height (called (offering port x rest)) ≤ 3
  height_offering x [] = omega arith
  height_offering x (y ∷ ys) = omega arith

  height_then : (rest : List Line) → height (whole_then rest) ≤ 3
  height_then [] = omega arith
  height_then (y ∷ ys) = omega arith

  module _ (a : Context) (tall : 3 ≤ a.setting.limits.height) (at : Pos) where
    settles : (p q : Process) → p ≡ q → height q.term ≤ 3 → not_too_high a at (swept p) ≡ Ok (swept q)
    settles p q is low =
        ap (λ (r : Process). not_too_high a at (swept r)) is
        ∙ ap (λ (b : Bool). if b then Ok (swept q) else Err (High a.process at)) (le-leb (height q.term) a.setting.limits.height (omega (arith, low, tall)))

    pub settled_wait : (t : Term) (x : Line) (rest : List Line) (s : StateView)
        → settled a at (called (sequence t (behind port x rest))) (0 ∷ 0 ∷ []) (done_in s) ≡ Ok (swept (left_by s (called (offering port x rest))))
    settled_wait t x rest s =
        settles (residual (home_of a) 0 (called (sequence t (behind port x rest))) (0 ∷ 0 ∷ []) (done_in s)) (left_by s (called (offering port x rest))) (residual_wait (home_of a) t x rest s) (height_offering x rest)

    pub settled_exchange : (x : Line) (rest : List Line) (s : StateView)
        → settled a at (called (offering port x rest)) (place_of (offers x rest)) (done_in s) ≡ Ok (swept (left_by s (whole_then rest)))
    settled_exchange x rest s =
        settles (residual (home_of a) 0 (called (offering port x rest)) (place_of (offers x rest)) (done_in s)) (left_by s (whole_then rest)) (residual_exchange (home_of a) x rest s) (height_then rest)

pub begins_so : (port : Line → ℕ) (Fit : Line → Type 0) (rest : List Line) → All Fit rest → IsDoing port Fit (begins rest) (whole_then port rest)
begins_so port Fit [] fits = finished
begins_so port Fit (y ∷ ys) fits =
    waiting_for (wait_of y.entry) y ys (leaf (waiting y)) (All-head Fit y ys fits) (All-tail Fit y ys fits) not_begun
