use Rattle.std.proofs.Common.{refl, ap, ◌∙◌, ◌∷◌, Option}
use Rattle.pz_classes.specs.pz_syntax.declared.tokens.Pos.{Pos}
use Rattle.pz_check_violations.specs.Least.{least_from}
use Rattle.pz_check_duplicates.specs.devices.Names.{id_of}
use Rattle.pz_check_duplicates.specs.devices.Again.{later_of}
use Rattle.pz_check_duplicates.proofs.Known.{known_first, knows_noted}
use Rattle.pz_check_duplicates.proofs.declaring.declare.Goals as goal

pub returns-clause-known : goal.returns-clause-known
returns-clause-known c = λ own outer kept.
    let first = known_first (own ∷ outer) c.args.known.now c.args.name.now.key c.get-first.result kept c.get-first.ensures.value in
    knows_noted own outer c.args.name.now.key (id_of c.args.name.now) c.earlier_place.result c.get-first.result c.args.known.now c.note.new.self refl c.earlier_place.ensures first c.in_ok-note.ensures.noted kept

pub returns-clause-found : goal.returns-clause-found
returns-clause-found c = λ names kept.
    let first = known_first names c.args.known.now c.args.name.now.key c.get-first.result kept c.get-first.ensures.value in
    c.least_later.ensures ∙ ap (λ (place : Option Pos). least_from c.args.before (later_of 4 place c.args.name.now.place)) first
