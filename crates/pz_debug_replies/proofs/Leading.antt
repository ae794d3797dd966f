-- The steps that a reply leaves lead somewhere.
use Rattle.std.proofs.Common.{ℕ, List, [], ◌∷◌, ◌++◌, Option}
use Rattle.pz_rules.specs.pz_classes_rules.Soundness.{IsSound}
use Rattle.pz_rules.specs.Settings.{Setting}
use Rattle.pz_term_simulator.specs.Simulations.{Simulation}
use Rattle.pz_debug_commands.specs.Commands.{Command}
use Rattle.pz_debug_session.specs.declared.step.Step.{Step}
use Rattle.pz_debug_session.specs.declared.step.Step.TheVariants.{Pick, Pass}
use Rattle.pz_debug_session.specs.Steps.{StandsAfter}
use Rattle.pz_debug_replies.specs.Advancing.{Advances, used_up, held, passes, acts, found}
use Rattle.pz_debug_replies.specs.Replies as replies
use Rattle.pz_debug_replies.specs.Replies.{Replies}
use Rattle.pz_debug_replies.specs.devices.Known.{Known}
use Rattle.pz_debug_replies.proofs.Places.{some_passing, some_choosing, some_first, offer_within}

module _ (known : Known) (setting : Setting) (sound : IsSound setting.model) where
  abbrev Leads : List Step → Type 0
  Leads ys = (t : Simulation) × StandsAfter setting ys t

  advance_leads : (wanted : Option (List ℕ)) (n : ℕ) (xs : List Step) (text : List ℕ) (ys : List Step) (s : Simulation) → StandsAfter setting xs s → Advances setting wanted n xs text ys → Leads ys
  advance_leads wanted _ _ _ _ s x (used_up xs) = (s, x)
  advance_leads wanted _ _ _ _ s x (held n xs t m at is acts_not waits_not) = (s, x)
  advance_leads wanted _ _ _ _ s x (passes n d xs ys text t at is more) =
      let u = some_passing known setting sound xs t d at is in
      advance_leads wanted n (xs ++ Pass ∷ []) text ys u.0 (known.passed setting xs t u.0 at u.1) more
  advance_leads wanted _ _ _ _ s x (acts n k a xs ys text t at is offers wants more) =
      let u = some_choosing known setting sound xs t k 0 at is (some_first known setting xs t k at is) in
      advance_leads wanted n (xs ++ Pick 0 ∷ []) text ys u.0 (known.chosen setting xs 0 t u.0 at u.1) more
  advance_leads wanted _ _ _ _ s x (found n k a xs t at is offers wants) =
      let u = some_choosing known setting sound xs t k 0 at is (some_first known setting xs t k at is) in
      (u.0, known.chosen setting xs 0 t u.0 at u.1)

  pub reply_leads : (line : ℕ) (xs : List Step) (c : Command) (text : List ℕ) (ys : List Step) (s : Simulation) → StandsAfter setting xs s → Replies setting line xs c text ys → Leads ys
  reply_leads line _ _ _ _ s x (replies.offered xs t n actions at is are) = (s, x)
  reply_leads line _ _ _ _ s x (replies.waiting xs t d at is) = (s, x)
  reply_leads line _ _ _ _ s x (replies.over xs t m e at is ends) = (s, x)
  reply_leads line _ _ _ _ s x (replies.picks xs t n k a at is offers) =
      let u = some_choosing known setting sound xs t n k at is (offer_within known t n k a is offers) in
      (u.0, known.chosen setting xs k t u.0 at u.1)
  reply_leads line _ _ _ _ s x (replies.no_offer xs t k m at is few) = (s, x)
  reply_leads line _ _ _ _ s x (replies.passes xs t d at is) =
      let u = some_passing known setting sound xs t d at is in
      (u.0, known.passed setting xs t u.0 at u.1)
  reply_leads line _ _ _ _ s x (replies.no_passing xs t m at is other) = (s, x)
  reply_leads line _ _ _ _ s x (replies.runs n xs ys text advances) = advance_leads _ n xs text ys s x advances
  reply_leads line _ _ _ _ s x (replies.runs_until message n xs ys text advances) = advance_leads _ n xs text ys s x advances
  reply_leads line _ _ _ _ s x (replies.goes_back n xs t within at) = (t, at)
  reply_leads line _ _ _ _ s x (replies.too_far n xs past) = (s, x)
  reply_leads line _ _ _ _ s x (replies.shows xs c standing word name i v parcel at is holds) = (s, x)
  reply_leads line _ _ _ _ s x (replies.shows_none xs word name absent) = (s, x)
  reply_leads line _ _ _ _ s x (replies.is_unknown xs) = (s, x)
