use Rattle.std.proofs.Common.{◌≡◌, ◌∙◌, sym, ap, subst, List, length}
use Rattle.std.specs.Prelude.{All, map}
use Rattle.std.proofs.Math.Logic.{∥∥₁_map}
use Rattle.pz_bind.specs.pz_classes.CheckedView.{checked_model}
use Rattle.pz_tree.specs.pz_term_processes.Standing.{setting_of}
use Rattle.pz_rules.specs.pz_syntax.Classes.{ModelTree}
use Rattle.pz_sim_laws.specs.Deciding.{total_of}
use Rattle.pz_tree.specs.declared.tree.Tree.{Tree}
use Rattle.pz_tree.specs.Trees.{IsFresh}
use Rattle.pz_sim.specs.Members.{member_of}
use Rattle.pz_sim.proofs.Spoken.{count_of, fresh_each, may_be_asked, there_still, kept_so}
use Rattle.pz_sim.proofs.starting.kept_of.Goals as goal

pub totals_in-requires-clause-count : goal.totals_in-requires-clause-count
totals_in-requires-clause-count c =
    count_of (setting_of (checked_model c.args.checked.now) c.args.limits) 0 c.in_ok-trees.trees.items c.args.net.now c.processes-count.result c.requires.of_model c.processes-count.ensures.counted c.in_ok-trees.ensures.trees
    ∙ ap (λ (ts : List Tree). length ts) (sym c.as_slice.ensures.value)

pub totals_in-requires-clause-fresh : goal.totals_in-requires-clause-fresh
totals_in-requires-clause-fresh c =
    subst (λ (ts : List Tree). All (λ (t : Tree). ∥ ((m : ModelTree) × IsFresh m t) ∥₁) ts) (sym c.as_slice.ensures.value)
    (fresh_each (setting_of (checked_model c.args.checked.now) c.args.limits) 0 c.in_ok-trees.trees.items c.in_ok-trees.ensures.trees)

pub pairs_of-requires-clause-count : goal.pairs_of-requires-clause-count
pairs_of-requires-clause-count c =
    count_of (setting_of (checked_model c.args.checked.now) c.args.limits) 0 c.in_ok-trees.trees.items c.args.net.now c.processes-count.result c.requires.of_model c.processes-count.ensures.counted c.in_ok-trees.ensures.trees

pub pairs_of-requires-clause-asked : goal.pairs_of-requires-clause-asked
pairs_of-requires-clause-asked c = ∥∥₁_map c.in_ok-trees.ensures.trees (may_be_asked (setting_of (checked_model c.args.checked.now) c.args.limits) 0 c.in_ok-trees.trees.items)

pub decide-requires : goal.decide-requires
decide-requires c = there_still _ c.in_ok-pairs.pairs c.in_ok-pairs.ensures.table

pub returns-clause-kept : goal.returns-clause-kept
returns-clause-kept c =
    kept_so (setting_of (checked_model c.args.checked.now) c.args.limits) 0 c.in_ok-trees.trees.items c.pairs_of.new.trees.items c.in_ok-totals.totals c.in_ok-pairs.pairs c.in_ok-moment.moment c.in_ok-pairs.ensures.trees c.in_ok-trees.ensures.trees
    (λ m fresh. subst (λ (ts : List Tree). All (IsFresh m) ts → c.in_ok-totals.totals ≡ map (λ (t : Tree). total_of t.clock (member_of m t)) ts) c.as_slice.ensures.value (c.in_ok-totals.ensures.totals m) fresh)
    c.in_ok-pairs.ensures.table c.in_ok-moment.ensures
