-- How many parts of a term an action passes, makes and drops.
use Rattle.std.specs.Prelude.{ℕ, zero, suc, ◌+◌, [], ◌∷◌, if◌then◌else◌}
use Rattle.pz_rules.specs.pz_state.States.{StateView}
use Rattle.pz_rules.specs.pz_offer.PlaceOrder.{Place}
use Rattle.pz_rules.specs.Terms.{Term, done, sequence, parallel, select, abort, idle, handling, Terms, no_terms, and, child, frame_in}
use Rattle.pz_rules.specs.Settings.{Process, Home}
use Rattle.pz_rules.specs.Opening.{opened, opened_all}
use Rattle.pz_rules.specs.Leaving.{replaced, is_done, residual}
use Rattle.pz_tree_nodes.specs.Planting.{nodes_of, nodes_of_all}

-- how many of these are not done
abbrev pub living : Terms → ℕ
living no_terms = 0
living (and t ts) = (if is_done t then 0 else 1) + living ts

-- how many stand beside child i of a `par`
abbrev pub beside : Term → ℕ → ℕ
beside (parallel ts) i = living (replaced ts i done)
beside t i = 0

-- how many lead from a term to its part at the place, with those beside them
abbrev pub on_way : Term → Place → ℕ
on_way t [] = 1
on_way t (i ∷ place) = suc (beside t i) + on_way (child t i) place

abbrev pub if_done : Term → ℕ → ℕ
if_done x n = if is_done x then n else 0

-- how many open on this level and in this state, once child i has become x: of the statements behind what is done,
-- and of a second part that is done and stands afresh
abbrev pub made : Home → StateView → Term → ℕ → Term → ℕ
made h s (sequence t rest) i x = if_done x (nodes_of (opened_all h rest s).term)
made h s (idle t u again) (suc i) x = if_done x (nodes_of (opened h again s).term)
made h s (handling t u again) i x = if_done x (nodes_of (opened h again s).term)
made h s t i x = 0

-- with those of what the part at the place has become
abbrev pub made_all : Home → ℕ → Term → Place → Process → ℕ
made_all h f t [] x = nodes_of x.term
made_all h f t (i ∷ place) x =
    let inner = residual h (frame_in t f) (child t i) place x in
    made_all h (frame_in t f) (child t i) place x + made h inner.state t i inner.term

-- how many are dropped on this level, once child i has become x
abbrev pub dropped : Term → ℕ → Term → ℕ
dropped (select ts) i x = nodes_of_all (replaced ts i done)
dropped (abort t u) zero x = if_done x (nodes_of u)
dropped (abort t u) (suc i) x = nodes_of t
dropped (idle t u again) zero x = if_done x (nodes_of u)
dropped t i x = 0

-- with those of the part at the place
abbrev pub dropped_all : Home → ℕ → Term → Place → Process → ℕ
dropped_all h f t [] x = nodes_of t
dropped_all h f t (i ∷ place) x =
    let inner = residual h (frame_in t f) (child t i) place x in
    dropped_all h (frame_in t f) (child t i) place x + dropped t i inner.term
