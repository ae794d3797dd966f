use Rattle.std.proofs.Common.{sym, subst, List, ◌∷◌}
use Rattle.pz_classes.specs.pz_syntax.declared.names.Id.{Id}
use Rattle.pz_check_duplicates.specs.devices.Knowing.{spread, Knows}
use Rattle.pz_check_duplicates.proofs.NameSteps.{so_far, one_longer, found_further}
use Rattle.pz_check_duplicates.proofs.declaring.declare_all.Goals as goal

pub loop-name-preserved : goal.loop-name-preserved
loop-name-preserved c =
    let things = c.args.names.now in
    let i = c.loop-name.name-index in
    record {
      known = λ own outer kept.
          subst (λ (names : List Id). Knows (names ∷ outer) c.declare.new.known) (sym (one_longer own things i _ c.loop-name-test.true))
          (c.in_ok-least.ensures.known (so_far own things i) outer (c.loop-name.invariant.known own outer kept));
      found = λ own outer kept.
          let one = c.in_ok-least.ensures.found (so_far own things i ∷ outer) (c.loop-name.invariant.known own outer kept) in
          found_further own things i _ c.loop-name-test.true (spread outer) c.loop-name.least c.in_ok-least.least _ one (c.loop-name.invariant.found own outer kept);
    }
