-- A further group keeps what the groups keep.
use Rattle.std.proofs.Common.{◌+◌, ℕ, sym, ap, subst, refl, length, arith}
use Rattle.std.specs.Prelude.{Contains}
use Rattle.pz_match_lists.specs.Increasing.{list_at}
use Rattle.pz_match.specs.devices.Tallies.{GroupsView, HasKey, Follows, Alike, tally_at}
use Rattle.pz_match.proofs.Grouped.{holds_added, holds_reached, listed_push, reached_long, key_added, follows_push, tallies_push}
use Rattle.pz_match.proofs.groups.Groups.add.Goals as goal

pub invariant_of-self-in_err-push : goal.invariant_of-self-in_err-push
invariant_of-self-in_err-push c =
    record {
      hold = rw (c.in_err-push.ensures.items, c.in_ok-reach.ensures.ok) (holds_reached c.self.inside.groups.items c.self.inside.counts c.self.inside.troubles c.self.invariant.hold (c.args.wire + 1));
      listed = rw c.in_err-push.ensures.items (λ g x is. c.add.ensures.keeps x.wire g (c.self.invariant.listed g x is));
    }

pub invariant_of-self-2 : goal.invariant_of-self-2
invariant_of-self-2 c =
    record {
      hold =
          rw (c.in_ok-push.ensures.items, c.in_ok-reach.ensures.ok)
          (holds_added c.self.inside.groups.items c.self.inside.counts c.self.inside.troubles c.self.invariant.hold (c.args.wire + 1) _ c.args.message.now refl (omega arith) c.in_ok-message.ensures
          (subst (λ (v : GroupsView). (g : ℕ) → ¬ HasKey v.groups g c.args.wire c.args.message.now c.args.count) (sym c.self.view_is) c.requires));
      listed =
          rw c.in_ok-push.ensures.items
          (listed_push c.self.inside.groups.items c.self.inside.numbers c.add.new.self _ c.self.invariant.listed c.add.ensures.keeps
          (subst (λ n. Contains (list_at c.add.new.self c.args.wire) n) (ap length c.as_slice-number.ensures.value) c.in_ok-add.ensures.has));
    }

pub invariant_of-self-in_err-add : goal.invariant_of-self-in_err-add
invariant_of-self-in_err-add c =
    record {
      hold = rw c.in_ok-reach.ensures.ok (holds_reached c.self.inside.groups.items c.self.inside.counts c.self.inside.troubles c.self.invariant.hold (c.args.wire + 1));
      listed = λ g x is. c.add.ensures.keeps x.wire g (c.self.invariant.listed g x is);
    }

pub returns-clause-found : goal.returns-clause-found
returns-clause-found c =
    rw c.in_ok-push.ensures.items
    (key_added c.self.inside.groups.items _ (length c.as_slice-number.result.now) c.args.message.now (ap length c.as_slice-number.ensures.value) c.in_ok-message.ensures)

pub returns-clause-follows : goal.returns-clause-follows
returns-clause-follows c =
    subst (λ (v : GroupsView). Follows v (record { groups = c.push.new.self.items; wires = length c.reach.new.self })) c.self.view_is
    (rw (c.in_ok-push.ensures.items, c.in_ok-reach.ensures.ok)
    (follows_push c.self.inside.groups.items _ (length c.self.inside.counts) _ (reached_long c.self.inside.groups.items c.self.inside.counts c.self.inside.troubles c.self.invariant.hold (c.args.wire + 1)).0))

pub returns-clause-tallies : goal.returns-clause-tallies
returns-clause-tallies c =
    subst (λ (v : GroupsView). (g : ℕ) → Alike (tally_at c.push.new.self.items g) (tally_at v.groups g)) c.self.view_is
    (rw c.in_ok-push.ensures.items (tallies_push c.self.inside.groups.items _ refl))
