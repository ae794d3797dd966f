use Rattle.std.proofs.Common.{◌≡◌, ◌∙◌, subst}
use Rattle.pz_classes_mentions.specs.declared.local_scope.LocalScope.{LocalScope}
use Rattle.pz_classes_mentions.specs.Words.{told}
use Rattle.pz_check_violations.specs.Least.{least_from}
use Rattle.pz_check_names.specs.devices.Scopes.{model_of, decl_of}
use Rattle.pz_check_names.specs.devices.Misuses.{at_word}
use Rattle.pz_check_names.proofs.Told.{told_least}
use Rattle.pz_check_names.proofs.least.least_of_part.Goals as goal

pub returns : goal.returns
returns c =
    let m = model_of c.args.declared.now in
    let at = at_word m c.args.scope.now.class.0 (decl_of c.args.scope.now) in
    let part = c.args.part.now in
    let heard = subst (λ (p : LocalScope). c.tell.result ≡ told (λ least x. least_from least (at p.locals x)) c.args.before part.mentions)
    c.in_ok-stretch.ensures.part c.tell.ensures in
    heard ∙ told_least (at part.locals) c.args.before part.mentions
