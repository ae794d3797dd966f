-- What an evaluation gives is what is computed, and there is nothing else.
use Rattle.std.proofs.Common.{◌≡◌, ℕ, Bool, List, Result, refl, ap, ◌∙◌}
use Rattle.pz_bind_rules.specs.pz_syntax.declared.tokens.Pos.{Pos}
use Rattle.pz_bind_rules.specs.pz_syntax.Expressions.{Part, left_out, written}
use Rattle.pz_bind_rules.specs.pz_value.declared.value.ClassId.{ClassId}
use Rattle.pz_bind_rules.specs.pz_value.declared.value.Value.{Value}
use Rattle.pz_bind_rules.specs.pz_classes_code.declared.slot.Slot.{Slot}
use Rattle.pz_offer.specs.pz_state.States.{StateView}
use Rattle.pz_offer.specs.declared.trouble.Trouble.{Trouble}
use Rattle.pz_eval_rules.specs.devices.Outcomes.{outcome_of, listed_of}
use Rattle.pz_eval_rules.proofs.Exact as exact
use Rattle.pz_rules.specs.Terms.{Code, Codes}
use Rattle.pz_rules.specs.Settings.{Context}
use Rattle.pz_rules.specs.Meanings.{and_then, truth, duration}
use Rattle.pz_rules.specs.Evaluations.{allowance, value_or_trouble, values_or_trouble, Gives, GivesAll, GivesPart, Tests, Lasts}
use Rattle.pz_rules.specs.devices.Found.{reached, reached_all, found, left, found_all, left_all, found_part, left_part, tested, lasting}

module _ (a : Context) (f : ℕ) (at : Pos) where
  pub gives_found : (e : Code) → Gives a f at e (found a f at e) (left a f e)
  gives_found e = record {
    outcome = outcome_of (reached a f e);
    finds = exact.found a.setting.model a.clock f a.state e (allowance a.setting.limits);
    means = refl;
  }

  pub gives_only : (e : Code) (r : Result Value Trouble) (s : StateView) → Gives a f at e r s → (r ≡ found a f at e) × (s ≡ left a f e)
  gives_only e r s g =
      let only = exact.only_found a.setting.model a.clock f a.state e (allowance a.setting.limits) g.finds in
      (g.means ∙ ap (value_or_trouble a.process at) only.0, only.1)

  pub gives_all_found : (es : Codes) → GivesAll a f at es (found_all a f at es) (left_all a f es)
  gives_all_found es = record {
    outcome = listed_of (reached_all a f es);
    finds = exact.found_list a.setting.model a.clock f a.state es (allowance a.setting.limits);
    means = refl;
  }

  pub gives_all_only : (es : Codes) (r : Result (List Value) Trouble) (s : StateView) → GivesAll a f at es r s → (r ≡ found_all a f at es) × (s ≡ left_all a f es)
  gives_all_only es r s g =
      let only = exact.only_found_list a.setting.model a.clock f a.state es (allowance a.setting.limits) g.finds in
      (g.means ∙ ap (values_or_trouble a.process at) only.0, only.1)

  pub gives_part_found : (es : Part Slot ClassId) → GivesPart a f at es (found_part a f at es) (left_part a f es)
  gives_part_found left_out = (refl, refl)
  gives_part_found (written es) = gives_all_found es

  pub gives_part_only : (es : Part Slot ClassId) (r : Result (List Value) Trouble) (s : StateView) → GivesPart a f at es r s → (r ≡ found_part a f at es) × (s ≡ left_part a f es)
  gives_part_only left_out r s g = g
  gives_part_only (written es) r s g = gives_all_only es r s g

  pub tests_found : (e : Code) → Tests a f at e (tested a f at e)
  tests_found e = record { found = found a f at e; left = left a f e; gives = gives_found e; means = refl }

  pub tests_only : (e : Code) (r : Result Bool Trouble) → Tests a f at e r → r ≡ tested a f at e
  tests_only e r t = t.means ∙ ap (λ (x : Result Value Trouble). and_then x (truth a.process at)) (gives_only e t.found t.left t.gives).0

  pub lasts_found : (e : Code) → Lasts a f at e (lasting a f at e)
  lasts_found e = record { found = found a f at e; left = left a f e; gives = gives_found e; means = refl }

  pub lasts_only : (e : Code) (r : Result ℕ Trouble) → Lasts a f at e r → r ≡ lasting a f at e
  lasts_only e r t = t.means ∙ ap (λ (x : Result Value Trouble). and_then x (duration a.process at)) (gives_only e t.found t.left t.gives).0
