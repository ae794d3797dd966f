use Rattle.std.proofs.Common.{◌∙◌, List, refl, ap, slice_get}
use Rattle.std.specs.Option.{option_or}
use Rattle.std.proofs.lemmas.Result.{on_ok_weaker}
use Rattle.pz_rules.specs.pz_offer.declared.trouble.Trouble.{Trouble}
use Rattle.pz_term_enabled.specs.devices.Adding.{least_of}
use Rattle.pz_term_enabled.proofs.adding.add_found.Goals as goal

pub returns : goal.returns
returns c = λ m wired sends receives.
    on_ok_weaker c.add_receivers.result (λ added. record {
      internal = c.in_ok-add_actions.ensures;
      senders = c.in_ok-add_senders.ensures m wired sends;
      receivers = added;
      least = c.least_of-survey.ensures ∙ ap (λ (xs : List _). least_of c.args.survey.now.least xs) c.as_slice.ensures.value;
      trouble = c.first_of-survey.ensures ∙ ap (λ (xs : List Trouble). option_or c.args.survey.now.trouble (slice_get xs 0)) c.as_slice-2.ensures.value;
      done = refl;
    }) (c.add_receivers.ensures m wired receives)
