use Rattle.std.proofs.Common.{◌≡◌, Ok, Err, sym, ap, ◌∙◌, subst}
use Rattle.pz_syntax.specs.ClassView.{model_view}
use Rattle.pz_parser.specs.devices.Models as models
use Rattle.pz_parser.specs.Cuts.{Refuses}
use Rattle.pz_parser.proofs.Parses as parses
use Rattle.pz_parser.proofs.Refusing as refusing
use Rattle.pz_parser.proofs.parser.parse_within.Goals as goal

pub returns-in-Ok-clause-found : goal.returns-in-Ok-clause-found
returns-in-Ok-clause-found c = parses.found c.args.limit c.args.tokens.now (model_view c.in-Ok.model) c.model.new.cursor (ap (models.model c.args.limit) (sym c.new-cursor.ensures.all) ∙ c.in-Ok.ensures.reads)

pub returns-in-Ok-clause-only : goal.returns-in-Ok-clause-only
returns-in-Ok-clause-only c = λ t f. parses.only c.args.limit c.args.tokens.now t (model_view c.in-Ok.model) c.model.new.cursor (ap (models.model c.args.limit) (sym c.new-cursor.ensures.all) ∙ c.in-Ok.ensures.reads) f

pub returns-in-Ok-clause-places : goal.returns-in-Ok-clause-places
returns-in-Ok-clause-places c = parses.in_place c.args.limit c.args.tokens.now (model_view c.in-Ok.model) c.model.new.cursor (ap (models.model c.args.limit) (sym c.new-cursor.ensures.all) ∙ c.in-Ok.ensures.reads)

pub returns-in-Err-clause-only : goal.returns-in-Err-clause-only
returns-in-Err-clause-only c = λ t f. c.error_of.ensures ∙ parses.no_refusal c.args.limit c.args.tokens.now c.args.end t c.in-Err.refusal (λ h. ap (models.model c.args.limit) (sym c.new-cursor.ensures.all) ∙ c.in-Err.ensures.reads h) f

pub returns-in-Err-clause-exact : goal.returns-in-Err-clause-exact
returns-in-Err-clause-exact c = subst (Refuses c.args.limit c.args.tokens.now c.args.end) (sym c.error_of.ensures) (refusing.refuses c.args.limit c.args.tokens.now c.args.end c.in-Err.refusal (λ h. ap (models.model c.args.limit) (sym c.new-cursor.ensures.all) ∙ c.in-Err.ensures.reads h))
