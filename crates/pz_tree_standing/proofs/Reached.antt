-- The children that a node reaches are those that the rules say go on with the term.
use Rattle.std.proofs.Common.{◌≡◌, ◌<◌, ℕ, zero, suc, true, Ok, refl, ap, sym, ◌∙◌, subst, arith}
use Rattle.pz_rules.specs.pz_syntax.declared.tokens.Pos.{Pos}
use Rattle.pz_rules.specs.pz_eval_rules.devices.Laws.{ComputedIsFound}
use Rattle.pz_rules.specs.pz_eval_rules.devices.Outcomes.{outcome_of}
use Rattle.pz_clock.specs.Shifts.{is_running}
use Rattle.pz_nodes_shapes.specs.Rose.{none, gone, more, width}
use Rattle.pz_rules.specs.Terms.{Code, count}
use Rattle.pz_rules.specs.Settings.{Context}
use Rattle.pz_rules.specs.Active.{Reached}
use Rattle.pz_rules.specs.Evaluations.{allowance, Tests}
use Rattle.pz_rules.specs.devices.Computed.{TestsAreComputed}
use Rattle.pz_rules.specs.devices.Found.{reached, found, left, tested}
use Rattle.pz_tree_standing.specs.Heads.{Head, leaf, wait, sequence, parallel, select, guarded, frame, abort, idle, handling, shifted, Shapes, formed}
use Rattle.pz_tree_standing.specs.Standing.{terms_of}
use Rattle.pz_tree_standing.specs.Reached.{reaches, is_true, GateRight}
use Rattle.pz_tree_standing.specs.Whole.{IsNoShift, HasParts}
use Rattle.pz_tree_standing.proofs.Still.{is_ok}

counts : (h : Head) (c i : ℕ) (ss : Shapes) → count (terms_of h c i ss) ≡ width ss
counts h c i none = refl
counts h c i (gone ss) = ap suc (counts h c (suc i) ss)
counts h c i (more s ss) = ap suc (counts h c (suc i) ss)

module _ (only : TestsAreComputed) (computed : ComputedIsFound) (a : Context) (f c : ℕ) where
  is_tested : (at : Pos) (e : Code) → Tests a f at e (tested a f at e)
  is_tested at e = record {
    found = found a f at e;
    left = left a f e;
    gives = record {
      outcome = outcome_of (reached a f e);
      finds = computed a.setting.model a.clock f a.state e (allowance a.setting.limits);
      means = refl;
    };
    means = refl;
  }

  pub reached_goes_on : (h : Head) (ss : Shapes) (i : ℕ) → HasParts h ss → i < width ss → IsNoShift h → GateRight a f h
      → reaches h i ≡ true → Reached a f (formed h c (terms_of h c 0 ss)) i
  reached_goes_on (leaf s) ss i p l n g r = absurd (omega (arith, p, l))
  reached_goes_on (wait due at) ss i p l n g r = absurd (omega (arith, p, l))
  reached_goes_on (sequence rest) ss zero p l n g r = refl
  reached_goes_on (sequence rest) ss (suc i) p l n g r = absurd (omega (arith, p, l))
  reached_goes_on parallel ss i p l n g r = omega (arith, l, counts parallel c 0 ss)
  reached_goes_on select ss i p l n g r = omega (arith, l, counts select c 0 ss)
  reached_goes_on (guarded e at s) ss zero p l n g r = (refl, subst (Tests a f at e) (is_ok a 0 (tested a f at e) (is_running s) g r) (is_tested at e))
  reached_goes_on (guarded e at s) ss (suc i) p l n g r = absurd (omega (arith, p, l))
  reached_goes_on (frame number inputs results) ss zero p l n g r = refl
  reached_goes_on (frame number inputs results) ss (suc i) p l n g r = absurd (omega (arith, p, l))
  reached_goes_on abort ss i p l n g r = omega (arith, p, l)
  reached_goes_on (idle again s) ss i p l n g r = omega (arith, p, l)
  reached_goes_on (handling again s) ss zero p l n g r = absurd cc
  reached_goes_on (handling again s) ss (suc zero) p l n g r = refl
  reached_goes_on (handling again s) ss (suc (suc i)) p l n g r = absurd cc
  reached_goes_on (shifted s) ss i p l n g r = absurd n

  pub what_goes_on : (h : Head) (ss : Shapes) (i : ℕ) → HasParts h ss → i < width ss → IsNoShift h → GateRight a f h
      → Reached a f (formed h c (terms_of h c 0 ss)) i → reaches h i ≡ true
  what_goes_on (leaf s) ss i p l n g r = absurd (omega (arith, p, l))
  what_goes_on (wait due at) ss i p l n g r = absurd (omega (arith, p, l))
  what_goes_on (sequence rest) ss zero p l n g r = refl
  what_goes_on (sequence rest) ss (suc i) p l n g r = absurd (omega (arith, p, l))
  what_goes_on parallel ss i p l n g r = refl
  what_goes_on select ss i p l n g r = refl
  what_goes_on (guarded e at s) ss zero p l n g r = g ∙ ap is_true (sym (only a f at e (Ok true) r.1))
  what_goes_on (guarded e at s) ss (suc i) p l n g r = absurd (omega (arith, p, l))
  what_goes_on (frame number inputs results) ss zero p l n g r = refl
  what_goes_on (frame number inputs results) ss (suc i) p l n g r = absurd (omega (arith, p, l))
  what_goes_on abort ss zero p l n g r = refl
  what_goes_on abort ss (suc zero) p l n g r = refl
  what_goes_on abort ss (suc (suc i)) p l n g r = absurd (omega (arith, p, l))
  what_goes_on (idle again s) ss zero p l n g r = refl
  what_goes_on (idle again s) ss (suc zero) p l n g r = refl
  what_goes_on (idle again s) ss (suc (suc i)) p l n g r = absurd (omega (arith, p, l))
  what_goes_on (handling again s) ss zero p l n g r = absurd (omega (arith, r))
  what_goes_on (handling again s) ss (suc zero) p l n g r = refl
  what_goes_on (handling again s) ss (suc (suc i)) p l n g r = absurd (omega (arith, p, l))
  what_goes_on (shifted s) ss i p l n g r = absurd n
