-- The first pair that has a trouble.
use Rattle.std.proofs.Common.{◌∙◌, sym}
use Rattle.std.specs.Prelude.{map}
use Rattle.pz_match.specs.devices.Kept.{kept, pairs_on}
use Rattle.pz_match.proofs.Troubles.{trouble_none, trouble_found}
use Rattle.pz_match.proofs.seeking.trouble_on.Goals as goal

pub returns-in-Some : goal.returns-in-Some
returns-in-Some c =
    c.trouble_of.ensures ∙ sym (trouble_found (pairs_on (map kept c.args.all.now) c.args.wire) _ c.in-Some.ensures.at)

pub returns-in-None : goal.returns-in-None
returns-in-None c = sym (trouble_none (pairs_on (map kept c.args.all.now) c.args.wire) c.in-None.ensures)
