-- Delays that have begun have less than 2^64 clock units left: they are over in time where there is room for as much
-- on the clock, and what is around an action leaves them.
use Rattle.std.proofs.Common.{ℕ, [], ◌∷◌, arith}
use Rattle.pz_rules.specs.pz_state.States.{StateView}
use Rattle.pz_rules.specs.Terms.{Term, done, leaf, wait, sequence, parallel, select, guarded, frame, abort, idle, handling, Terms, no_terms, and}
use Rattle.pz_rules.specs.Settings.{Home, left_by}
use Rattle.pz_rules.specs.Leaving.{around}
use Rattle.pz_rules.specs.Short.{IsShort, AreShort}
use Rattle.pz_rules.proofs.Opened.{residual_short}
use Rattle.pz_tree_nodes.specs.Planting.{EndsInTime, EndInTime}
use Rattle.pz_tree_nodes.specs.pz_tree_standing.Soon.{HasRoom}

-- ---------------------------------------------------------- they end in time

mutual
  pub ends_in_time : (c : ℕ) (t : Term) → HasRoom c → IsShort t → EndsInTime c t
  ends_in_time c done room h = tt
  ends_in_time c (leaf s) room h = tt
  ends_in_time c (wait left at) room h = omega (arith, room, h)
  ends_in_time c (sequence t rest) room h = ends_in_time c t room h
  ends_in_time c (parallel ts) room h = all_end_in_time c ts room h
  ends_in_time c (select ts) room h = all_end_in_time c ts room h
  ends_in_time c (guarded test at t) room h = ends_in_time c t room h
  ends_in_time c (frame number inputs results t) room h = ends_in_time c t room h
  ends_in_time c (abort t u) room h = (ends_in_time c t room h.0, ends_in_time c u room h.1)
  ends_in_time c (idle t u again) room h = (ends_in_time c t room h.0, ends_in_time c u room h.1)
  ends_in_time c (handling t u again) room h = (ends_in_time c t room h.0, ends_in_time c u room h.1)

  all_end_in_time : (c : ℕ) (ts : Terms) → HasRoom c → AreShort ts → EndInTime c ts
  all_end_in_time c no_terms room h = tt
  all_end_in_time c (and t ts) room h = (ends_in_time c t room h.0, all_end_in_time c ts room h.1)

-- ---------------------------------------------------------- what an action leaves around it

pub around_short : (h : Home) (s : StateView) (f : ℕ) (t : Term) (i : ℕ) (x : Term) → IsShort t → IsShort x → IsShort (around h f s t i x).term
around_short h s f t i x k g = residual_short h f t (i ∷ []) (left_by s x) k g
