-- One tally is replaced, and the count of its wire with it.
use Rattle.std.proofs.Common.{◌<◌, sym, ◌∙◌, ap, subst, refl, length, arith}
use Rattle.pz_match.specs.devices.Tallies.{GroupsView, with_tally}
use Rattle.pz_match.proofs.Grouped.{set_tally, changed, listed_set}
use Rattle.pz_match.proofs.groups.Groups.change.Goals as goal

pub invariant_of-self-2 : goal.invariant_of-self-2
invariant_of-self-2 c =
    let lt : c.args.number < length c.self.inside.groups.items = subst (λ (v : GroupsView). c.args.number < length v.groups) (sym c.self.view_is) c.requires in
    record {
      hold =
          changed c.self.inside.groups.items c.self.inside.counts c.self.inside.troubles c.self.invariant.hold c.args.number c.args.tally lt
          c.index.result.now c.index-2.result.now c.index-3.result.now c.index_mut.result.now c.put.new.self c.in-Some-checked_sub.others c.in-Some-checked_add.taken c.in-Some-checked_sub-2.untroubled c.in-Some-checked_add-2.troubles
          c.index.ensures c.index-2.ensures c.index-3.ensures c.index_mut.ensures.value c.in_ok-put.ensures.ok
          (let before = c.in-Some.ensures in let at = c.at.ensures in let left = c.in-Some-checked_sub.ensures in omega (arith, before, at, left.0, left.1))
          (let after = c.in-Some-taken.ensures in let more = c.in-Some-checked_add.ensures in omega (arith, after, more.1))
          (let left = c.in-Some-checked_sub-2.ensures in omega (arith, left.0, left.1))
          (let more = c.in-Some-checked_add-2.ensures in omega (arith, more.1));
      listed = listed_set c.self.inside.groups.items c.self.inside.numbers c.args.number c.index_mut.result.now _ c.self.invariant.listed lt c.index_mut.ensures.value refl;
    }

pub returns-clause-groups : goal.returns-clause-groups
returns-clause-groups c =
    let lt : c.args.number < length c.self.inside.groups.items = subst (λ (v : GroupsView). c.args.number < length v.groups) (sym c.self.view_is) c.requires in
    set_tally c.self.inside.groups.items c.args.number c.index_mut.result.now c.args.tally lt c.index_mut.ensures.value
    ∙ ap (λ (v : GroupsView). with_tally v.groups c.args.number c.args.tally) c.self.view_is
