-- Active parts stand where a part may act.
use Rattle.std.proofs.Common.{ℕ}
use Rattle.pz_rules.specs.Terms.{Term, done, leaf, wait, sequence, parallel, select, guarded, frame, abort, idle, handling}
use Rattle.pz_rules.specs.Settings.{Context}
use Rattle.pz_rules.specs.pz_offer.PlaceOrder.{Place}
use Rattle.pz_rules.specs.Active as active
use Rattle.pz_rules.specs.Active.{Reached, Active}
use Rattle.pz_rules.specs.Places.{MayActIn, MayAct}
use Rattle.pz_term_residual.specs.Laws.{ActivePartsMayAct}

module _ (a : Context) where
  reached : (f : ℕ) (t : Term) (i : ℕ) → Reached a f t i → MayActIn t i
  reached f done i r = r
  reached f (leaf s) i r = r
  reached f (wait left at) i r = r
  reached f (sequence t rest) i r = r
  reached f (parallel ts) i r = r
  reached f (select ts) i r = r
  reached f (guarded test at t) i r = r.0
  reached f (frame number inputs results t) i r = r
  reached f (abort t u) i r = r
  reached f (idle t u again) i r = r
  reached f (handling t u again) i r = r

  may_act : (f : ℕ) (t : Term) (place : Place) (g : ℕ) (x : Term) → Active a f t place g x → MayAct t place
  may_act _ _ _ _ _ (active.here f t) = tt
  may_act _ _ _ _ _ (active.inside f t i place g x r h) = (reached f t i r, may_act _ _ place g x h)

pub active_parts_may_act : ActivePartsMayAct
active_parts_may_act a t place g part h = may_act a 0 t place g part h
