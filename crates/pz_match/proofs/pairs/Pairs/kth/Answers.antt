-- By its wire, and there.
use Rattle.std.proofs.Common.{◌∙◌, sym, ap, subst, ℕ, List, arith}
use Rattle.std.specs.Prelude.{map}
use Rattle.std.specs.List.{slice_get}
use Rattle.std.proofs.lemmas.Result.{IfOk-weaker}
use Rattle.pz_match_lists.specs.Increasing.{list_at}
use Rattle.pz_match.specs.Pairs.{taken, offered}
use Rattle.pz_match.specs.Table.{Table}
use Rattle.pz_match.specs.declared.kept.Offers.{Offers}
use Rattle.pz_match.specs.devices.Kept.{kept, pairs_on, all_pairs}
use Rattle.pz_match.specs.devices.Holding.{Holds}
use Rattle.pz_match.specs.devices.Users.{AreUsers, AreBlocks}
use Rattle.pz_match.specs.devices.Sharing.{Shared}
use Rattle.pz_match.proofs.Sought.{total_is, at_wire}
use Rattle.pz_match.proofs.Ends.{offered_none, offered_same}
use Rattle.pz_match.proofs.pairs.Pairs.kth.Goals as goal

pub returns-in-None : goal.returns-in-None
returns-in-None c =
    let there = ap (λ (t : Table). t.lost) c.self.view_is ∙ c.requires in
    let all = map kept c.self.inside.offers.items in
    let total = total_is c.self.inside.groups all (c.self.invariant there).stands.holds c.self.inside.groups.wires in
    sym (ap (λ (t : Table). slice_get (map offered (taken t.pairs)) c.args.k) (sym c.self.view_is) ∙ offered_none (taken (all_pairs all c.self.inside.groups.wires)) c.args.k (omega (arith, total, c.in-None.ensures)))

pub pair_on-requires-clause-holds : goal.pair_on-requires-clause-holds
pair_on-requires-clause-holds c =
    let there = ap (λ (t : Table). t.lost) c.self.view_is ∙ c.requires in
    subst (λ (xs : List Offers). Holds c.self.inside.groups (map kept xs)) (sym c.as_slice-offers.ensures.value) (c.self.invariant there).stands.holds

pub pair_on-requires-clause-users : goal.pair_on-requires-clause-users
pair_on-requires-clause-users c =
    let there = ap (λ (t : Table). t.lost) c.self.view_is ∙ c.requires in
    subst (λ (xs : List Offers). AreUsers c.list-senders.result.now c.list-receivers.result.now (map kept xs) c.in-Some.wire) (sym c.as_slice-offers.ensures.value)
    (subst (λ (ss : List ℕ). AreUsers ss c.list-receivers.result.now (map kept c.self.inside.offers.items) c.in-Some.wire) (sym c.list-senders.ensures.list)
    (subst (λ (rs : List ℕ). AreUsers (list_at c.self.inside.users.senders c.in-Some.wire) rs (map kept c.self.inside.offers.items) c.in-Some.wire) (sym c.list-receivers.ensures.list) ((c.self.invariant there).used c.in-Some.wire)))

pub pair_on-requires-clause-shared : goal.pair_on-requires-clause-shared
pair_on-requires-clause-shared c =
    let there = ap (λ (t : Table). t.lost) c.self.view_is ∙ c.requires in
    subst (λ (xs : List Offers). Shared c.self.inside.shares (map kept xs)) (sym c.as_slice-offers.ensures.value) (c.self.invariant there).shared

pub pair_on-requires-clause-blocks : goal.pair_on-requires-clause-blocks
pair_on-requires-clause-blocks c =
    let there = ap (λ (t : Table). t.lost) c.self.view_is ∙ c.requires in
    subst (λ (xs : List Offers). AreBlocks c.list-blocks.result.now (map kept xs) c.in-Some.wire) (sym c.as_slice-offers.ensures.value)
    (subst (λ (bs : List ℕ). AreBlocks bs (map kept c.self.inside.offers.items) c.in-Some.wire) (sym c.list-blocks.ensures.list) ((c.self.invariant there).in_blocks c.in-Some.wire))

pub returns-in-Some : goal.returns-in-Some
returns-in-Some c =
    let there = ap (λ (t : Table). t.lost) c.self.view_is ∙ c.requires in
    let groups = c.self.inside.groups in
    let all = map kept c.self.inside.offers.items in
    let found = c.in-Some.ensures in
    let same = at_wire groups all (c.self.invariant there).stands.holds groups.wires c.in-Some.wire c.in-Some.rest c.args.k found.0 found.1 found.2 in
    let moved = ap (λ (xs : List Offers). slice_get (map offered (taken (pairs_on (map kept xs) c.in-Some.wire))) c.in-Some.rest) c.as_slice-offers.ensures.value in
    let shown = ap (λ (t : Table). slice_get (map offered (taken t.pairs)) c.args.k) c.self.view_is in
    IfOk-weaker c.pair_on.result _ _ (λ pair is. is ∙ (moved ∙ (offered_same (taken (all_pairs all groups.wires)) (taken (pairs_on all c.in-Some.wire)) c.args.k c.in-Some.rest same ∙ shown))) c.pair_on.ensures
