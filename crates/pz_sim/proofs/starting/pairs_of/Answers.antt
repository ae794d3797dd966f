use Rattle.std.proofs.Common.{◌∙◌, List, length, sym, ap, subst}
use Rattle.std.specs.Prelude.{All, map}
use Rattle.pz_bind.specs.pz_classes.CheckedView.{checked_model}
use Rattle.pz_tree.specs.declared.tree.Tree.{Tree}
use Rattle.pz_sim.specs.Members.{member_of}
use Rattle.pz_sim.specs.devices.Speaking.{CanBeAsked}
use Rattle.pz_sim.specs.devices.Tables.{IsTable, hushed}
use Rattle.pz_sim.proofs.Spoken.{silent_table}
use Rattle.pz_sim.proofs.starting.pairs_of.Goals as goal

pub tell_all-requires-clause-count : goal.tell_all-requires-clause-count
tell_all-requires-clause-count g c = c.requires.count ∙ ap (λ (ts : List Tree). length ts) (sym c.as_mut_slice-slice.ensures.value)

pub tell_all-requires-clause-asked : goal.tell_all-requires-clause-asked
tell_all-requires-clause-asked g c =
    subst (λ (ts : List Tree). ∥ All (CanBeAsked (checked_model c.args.checked.now) c.args.clock) ts ∥₁) (sym c.as_mut_slice-slice.ensures.value) c.requires.asked

pub tell_all-requires-clause-silent : goal.tell_all-requires-clause-silent
tell_all-requires-clause-silent g c =
    subst (λ (ts : List Tree). IsTable (map (λ (t : Tree). hushed (member_of (checked_model c.args.checked.now) t)) ts) c.in_ok-pairs.pairs) (sym c.as_mut_slice-slice.ensures.value)
    (silent_table (checked_model c.args.checked.now) c.args.trees.now.items c.args.count c.requires.count c.in_ok-pairs.pairs c.in_ok-pairs.ensures.senders c.in_ok-pairs.ensures.receivers c.in_ok-pairs.ensures.pairs c.in_ok-pairs.ensures.there)
