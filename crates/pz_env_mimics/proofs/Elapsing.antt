-- What the environment becomes as time passes, as a process.
use Rattle.std.proofs.Common.{◌≡◌, ◌-◌, ℕ, true, false, List, [], ◌∷◌, Ok, refl, sym, ap, subst}
use Rattle.pz_env_tree.specs.pz_syntax.declared.exprs.Literal.TheVariants as literal
use Rattle.pz_env_tree.specs.pz_syntax.Expressions as expression
use Rattle.pz_env_tree.specs.pz_rules.Terms.{Term, done, leaf, wait, sequence}
use Rattle.pz_env_tree.specs.pz_rules.Settings.{Context}
use Rattle.pz_env_tree.specs.pz_rules.Delays as delays
use Rattle.pz_env_tree.specs.pz_rules.Delays.{Passes}
use Rattle.pz_env_tree.specs.pz_env_script.declared.entry.Transfer.{Transfer}
use Rattle.pz_env_tree.specs.pz_env_script.declared.entry.Transfer.TheVariants.{Send, Receive}
use Rattle.pz_env_tree.specs.pz_env_rules.Environment.{Line, at_line, wait_of, Doing, offers, later}
use Rattle.pz_env_mimics.specs.Environments.{exchange, statements, IsPlain}
use Rattle.pz_env_mimics.specs.Closing.{MayDrive}
use Rattle.pz_env_mimics.proofs.Environment.{IsWaiting, not_begun, begun, behind, offering, called, IsDoing, finished, waiting_for, offering_it}
use Rattle.pz_env_mimics.proofs.Speaking.{ok_same, plain_number, plain_number_only}

module _ (a : Context) (may : MayDrive a.setting.limits) (port : Line → ℕ) (Fit : Line → Type 0) (plain : (x : Line) → Fit x → IsPlain x) where
  passes_waiting : (d f : ℕ) (x : Line) (left : ℕ) (t u : Term) → IsPlain x → IsWaiting x left t → Passes a d f t u → IsWaiting x (left - d) u
  passes_waiting d f x _ _ _ is not_begun (delays.begins _ at e left lasts) =
      let same : left ≡ wait_of x.entry = ok_same left (wait_of x.entry) (plain_number_only a may f x is (Ok left) lasts) in
      subst (λ (k : ℕ). IsWaiting x (wait_of x.entry - d) (wait (k - d) (at_line x))) (sym same) (begun (wait_of x.entry - d))
  passes_waiting d f x _ _ _ is not_begun (delays.stays _ s timeless) = absurd (false_apart timeless)
    where
      false_apart : false ≡ true → ⊥
      false_apart e = cc
  passes_waiting d f x _ _ _ is (begun left) (delays.goes_on _ _ at) = begun (left - d)

  passes_exchange : (d f p : ℕ) (x : Line) (transfer : Transfer) (u : Term) → Passes a d f (leaf (exchange p x transfer)) u → u ≡ leaf (exchange p x transfer)
  passes_exchange d f p x (Send values) _ (delays.stays _ s timeless) = refl
  passes_exchange d f p x (Receive count) _ (delays.stays _ s timeless) = refl

  exchange_stays : (d f p : ℕ) (x : Line) (transfer : Transfer) → Passes a d f (leaf (exchange p x transfer)) (leaf (exchange p x transfer))
  exchange_stays d f p x (Send values) = delays.stays f (exchange p x (Send values)) refl
  exchange_stays d f p x (Receive count) = delays.stays f (exchange p x (Receive count)) refl

  offering_stays : (d : ℕ) (x : Line) (rest : List Line) (u : Term) → Passes a d 0 (called (offering port x rest)) u → u ≡ called (offering port x rest)
  offering_stays d x [] _ (delays.in_frame _ _ _ _ _ u passes) =
      ap called (passes_exchange d 1 (port x) x x.entry.transfer u passes)
  offering_stays d x (y ∷ ys) _ (delays.in_frame _ _ _ _ _ _ (delays.in_sequence _ _ u _ passes)) =
      ap (λ (t : Term). called (sequence t (statements port (y ∷ ys)))) (passes_exchange d 1 (port x) x x.entry.transfer u passes)

  pub passes_only : (d : ℕ) (doing : Doing) (whole u : Term) → IsDoing port Fit doing whole → Passes a d 0 whole u → IsDoing port Fit (later d doing) u
  passes_only d _ _ _ finished (delays.is_done _) = finished
  passes_only d _ _ _ (waiting_for left x rest t fit fits is) (delays.in_frame _ _ _ _ _ _ (delays.in_sequence _ _ u _ passes)) =
      waiting_for (left - d) x rest u fit fits (passes_waiting d 1 x left t u (plain x fit) is passes)
  passes_only d _ _ u (offering_it x rest fit fits) passes =
      subst (IsDoing port Fit (offers x rest)) (sym (offering_stays d x rest u passes)) (offering_it x rest fit fits)

  waiting_passes : (d f : ℕ) (x : Line) (left : ℕ) (t : Term) → IsPlain x → IsWaiting x left t → (u : Term) × Passes a d f t u
  waiting_passes d f x _ _ is not_begun =
      (wait (wait_of x.entry - d) (at_line x), delays.begins f (at_line x) (expression.literal (at_line x) (literal.Int x.entry.wait)) (wait_of x.entry) (plain_number a may f x is))
  waiting_passes d f x _ _ is (begun left) =
      (wait (left - d) (at_line x), delays.goes_on f left (at_line x))

  offering_passes : (d : ℕ) (x : Line) (rest : List Line) → Passes a d 0 (called (offering port x rest)) (called (offering port x rest))
  offering_passes d x [] =
      delays.in_frame 0 1 0 [] (leaf (exchange (port x) x x.entry.transfer)) (leaf (exchange (port x) x x.entry.transfer)) (exchange_stays d 1 (port x) x x.entry.transfer)
  offering_passes d x (y ∷ ys) =
      delays.in_frame 0 1 0 [] (offering port x (y ∷ ys)) (offering port x (y ∷ ys))
      (delays.in_sequence 1 (leaf (exchange (port x) x x.entry.transfer)) (leaf (exchange (port x) x x.entry.transfer)) (statements port (y ∷ ys)) (exchange_stays d 1 (port x) x x.entry.transfer))

  pub passes_there : (d : ℕ) (doing : Doing) (whole : Term) → IsDoing port Fit doing whole → (u : Term) × Passes a d 0 whole u
  passes_there d _ _ finished = (done, delays.is_done 0)
  passes_there d _ _ (waiting_for left x rest t fit fits is) =
      let h = waiting_passes d 1 x left t (plain x fit) is in (
        called (sequence h.0 (behind port x rest)),
        delays.in_frame 0 1 0 [] (sequence t (behind port x rest)) (sequence h.0 (behind port x rest)) (delays.in_sequence 1 t h.0 (behind port x rest) h.1),
      )
  passes_there d _ _ (offering_it x rest fit fits) = (called (offering port x rest), offering_passes d x rest)
