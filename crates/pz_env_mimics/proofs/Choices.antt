-- Events of both are the same, and so is what is chosen and what it leads to.
use Rattle.std.proofs.Common.{◌≡◌, ℕ, [], Result, Ok, Err, refl, sym, subst, ◌∙◌, arith}
use Rattle.std.proofs.lemmas.List.Elements.{length_all_zip}
use Rattle.pz_env_tree.specs.pz_syntax.Classes.{ModelTree}
use Rattle.pz_env_tree.specs.pz_offer.declared.end.End.{End}
use Rattle.pz_env_tree.specs.pz_offer.PlaceOrder.{Place}
use Rattle.pz_env_tree.specs.pz_offer.declared.trouble.Trouble.{Trouble}
use Rattle.pz_env_tree.specs.pz_rules.declared.action.Action.{Action}
use Rattle.pz_env_tree.specs.pz_rules.Configurations.{Config}
use Rattle.pz_env_tree.specs.pz_rules.Runs.{acted, passed, IsChoice}
use Rattle.pz_env_tree.specs.pz_env_rules.Joining.{Driving}
use Rattle.pz_env_tree.specs.pz_env_rules.Driven.{Driven}
use Rattle.pz_env_tree.specs.pz_env_rules.Offers.{DrivenOffers}
use Rattle.pz_env_tree.specs.pz_env_rules.Runs.{IsDrivenChoice}
use Rattle.pz_env_mimics.specs.Closing as closing
use Rattle.pz_env_mimics.specs.Closing.{Closes, closed, SameEnd, SameAction, SameEvent, SameEvents}
use Rattle.pz_env_mimics.proofs.Known.{Known}
use Rattle.pz_env_mimics.proofs.Mimics as mimics
use Rattle.pz_env_mimics.proofs.Mimics.{Mimics}
use Rattle.pz_env_mimics.proofs.Matching as matching
use Rattle.pz_env_mimics.proofs.Matching.{SameEnds, of_system, of_env, SameActions, at_number}
use Rattle.pz_env_mimics.proofs.Parts as parts
use Rattle.pz_env_mimics.proofs.Offers as both
use Rattle.pz_env_mimics.proofs.Outcomes.{SameNext, goes, fails}

module _ (known : Known) (g : Driving) (n : ModelTree) (closes : Closes g n) where
  abbrev env : ℕ
  env = mimics.env known g n closes

  abbrev Both : Driven → Config → Type 0
  Both = Mimics known g n closes

  -- Events

  same_end : (q : Place) (a b : End) → SameEnds env [] q a b → SameEnd g a b
  same_end q _ _ (of_system e low) = record { process = refl; place = λ h. refl }
  same_end q _ _ of_env = record { process = refl; place = λ h. absurd (omega (arith, h)) }

  same_action : (q : Place) (a b : Action) → SameActions env [] q a b → SameAction g a b
  same_action q _ _ (matching.internal a b kind pos is) = closing.internal a b kind pos (same_end q a b is)
  same_action q _ _ (matching.communication w s t r u message parcel is are) =
      closing.communication w s t r u message parcel (same_end q s t is) (same_end q r u are)

  pub same_acted : (q : Place) (at clock k number : ℕ) (a b : Action) → at ≡ clock → SameActions env [] q a b
      → SameEvent g (acted clock k number a) (acted at k number b)
  same_acted q at clock k number a b e is =
      subst (λ (t : ℕ). SameEvent g (acted clock k number a) (acted t k number b)) (sym e) (closing.acted clock k number a b (same_action q a b is))

  pub same_passed : (at clock time : ℕ) → at ≡ clock → SameEvent g (passed clock time) (passed at time)
  same_passed at clock time e =
      subst (λ (t : ℕ). SameEvent g (passed clock time) (passed t time)) (sym e) (closing.passed clock time)

  module _ (d : Driven) (c : Config) (m : Both d c) where
    abbrev here : Place
    here = parts.here known g n closes d c m

    clocks : c.clock ≡ d.system.clock
    clocks = m.both.clock

    -- Choices

    pub record ChoiceOn (count k : ℕ) (a : Action) : Type 0 where
      pub action : Action
      pub is : IsChoice (closed g n) c count k action
      pub same : SameActions env [] here a action

    pub choice_on : (count k : ℕ) (a : Action) → IsDrivenChoice g d count k a → ChoiceOn count k a
    choice_on count k a is =
        let o = both.offers_on known g n closes d c m is.offers is.all in
        let at = at_number env [] here is.offers o.others k a o.same is.chosen in
        record {
          action = at.other;
          is = record { offers = o.others; all = o.are; count = is.count ∙ length_all_zip (SameActions env [] here) is.offers o.others o.same; chosen = at.there };
          same = at.same;
        }

    pub record ChoiceBack (count k : ℕ) (b : Action) : Type 0 where
      pub action : Action
      pub is : IsDrivenChoice g d count k action
      pub offers_it : DrivenOffers g d action
      pub same : SameActions env [] here action b

    pub choice_back : (count k : ℕ) (b : Action) → IsChoice (closed g n) c count k b → ChoiceBack count k b
    choice_back count k b is =
        let o = both.offers_back known g n closes d c m is.offers is.all in
        let at = at_number env here [] is.offers o.others k b o.same is.chosen in
        record {
          action = at.other;
          is = record { offers = o.others; all = o.are; count = is.count ∙ length_all_zip (SameActions env here []) is.offers o.others o.same; chosen = at.there };
          offers_it = matching.all_at (DrivenOffers g d) o.others k at.other o.are.derivable at.there;
          same = matching.action_back env here [] b at.other at.same;
        }

  -- Steps that lead on

  pub record GoesOn (next : Driven) (r : Result Config Trouble) : Type 0 where
    pub config : Config
    pub is : r ≡ Ok config
    pub same : Both next config

  pub goes_on : (x : Result Driven Trouble) (next : Driven) (r : Result Config Trouble) → x ≡ Ok next → SameNext known g n closes x r → GoesOn next r
  goes_on _ next _ e (goes d c same) = record { config = c; is = refl; same = subst (λ (k : Driven). Both k c) (ok_same d next e) same }
    where
      ok_same : (x y : Driven) → (let r : Result Driven Trouble = Ok x in r ≡ Ok y) → x ≡ y
      ok_same x y e = cc
  goes_on _ next _ e (fails t) = absurd (apart t e)
    where
      apart : (t : Trouble) → (let r : Result Driven Trouble = Err t in r ≡ Ok next) → ⊥
      apart t e = cc

  pub record GoesBack (next : Config) (x : Result Driven Trouble) : Type 0 where
    pub driven : Driven
    pub is : x ≡ Ok driven
    pub same : Both driven next

  pub goes_back : (x : Result Driven Trouble) (next : Config) (r : Result Config Trouble) → r ≡ Ok next → SameNext known g n closes x r → GoesBack next x
  goes_back _ next _ e (goes d c same) = record { driven = d; is = refl; same = subst (Both d) (ok_same c next e) same }
    where
      ok_same : (x y : Config) → (let r : Result Config Trouble = Ok x in r ≡ Ok y) → x ≡ y
      ok_same x y e = cc
  goes_back _ next _ e (fails t) = absurd (apart t e)
    where
      apart : (t : Trouble) → (let r : Result Config Trouble = Err t in r ≡ Ok next) → ⊥
      apart t e = cc

  pub fails_on : (x : Result Driven Trouble) (t : Trouble) (r : Result Config Trouble) → x ≡ Err t → SameNext known g n closes x r → r ≡ Err t
  fails_on _ t _ e (goes d c same) = cc
  fails_on _ t _ e (fails u) = cc

  pub fails_back : (x : Result Driven Trouble) (t : Trouble) (r : Result Config Trouble) → r ≡ Err t → SameNext known g n closes x r → x ≡ Err t
  fails_back _ t _ e (goes d c same) = cc
  fails_back _ t _ e (fails u) = cc
