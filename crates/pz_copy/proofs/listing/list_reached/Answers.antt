use Rattle.std.proofs.Common.{◌≡◌, sym, ◌∙◌, ap, subst, ℕ, suc, ◌+◌, ◌≤◌, List, [], length, arith}
use Rattle.pz_state.specs.pz_value.declared.value.Value.{Value}
use Rattle.pz_state.specs.Objects.{ObjectView}
use Rattle.pz_state.specs.States.{object}
use Rattle.pz_copy.specs.References.{references}
use Rattle.pz_copy.specs.devices.Gathering.{gathered, IsGathered}
use Rattle.pz_copy.proofs.Listings.{begun, gathered_on, gathered_whole, gathered_few, gathered_all, next_there, one_listing, inside}
use Rattle.pz_copy.proofs.listing.list_reached.Goals as goal

pub loop-next-init : goal.loop-next-init
loop-next-init c =
    let empty = c.new-listed.ensures.empty in
    let all : c.list_references.new.listed.keys ≡ gathered c.new-listed.result.keys (references c.args.values.now) = c.in_ok-list_references.ensures in
    let start : c.list_references.new.listed.keys ≡ gathered [] (references c.args.values.now) = all ∙ ap (λ l. gathered l (references c.args.values.now)) empty in
    subst (λ (l : List ℕ). IsGathered c.args.state.now.held c.args.values.now 0 l) (sym start) (begun c.args.state.now.held c.args.values.now)

pub object-requires : goal.object-requires
object-requires c = next_there c.args.state.now.held c.objects-count.ensures.contained c.args.values.now c.requires c.loop-next.next c.loop-next.listed.keys c.index-r.result.now c.loop-next.invariant c.index-r.ensures

pub loop-next-smaller : goal.loop-next-smaller
loop-next-smaller c =
    let few : length c.loop-next.listed.keys ≤ length c.args.state.now.held.objects = gathered_few c.args.state.now.held c.objects-count.ensures.contained c.args.values.now c.requires c.loop-next.next c.loop-next.listed.keys c.loop-next.invariant in
    omega (arith, few, c.loop-next-test.true, c.len.ensures.len)

pub loop-next-preserved : goal.loop-next-preserved
loop-next-preserved c =
    let more : suc c.loop-next.next ≡ c.loop-next.next + 1 = omega arith in
    let all : c.list_references-in-loop-next.new.listed.keys ≡ gathered c.loop-next.listed.keys (references c.items.result.now) = c.in_ok-list_references-2.ensures in
    let items : c.items.result.now ≡ (object c.args.state.now.held c.index-r.result.now).items = c.items.ensures ∙ ap (λ (o : ObjectView). o.items) c.object.ensures.value in
    let same : gathered c.loop-next.listed.keys (inside c.args.state.now.held c.index-r.result.now) ≡ c.list_references-in-loop-next.new.listed.keys = ap (λ (vs : List Value). gathered c.loop-next.listed.keys (references vs)) (sym items) ∙ sym all in
    let next : IsGathered c.args.state.now.held c.args.values.now (suc c.loop-next.next) (gathered c.loop-next.listed.keys (inside c.args.state.now.held c.index-r.result.now)) = gathered_on c.args.state.now.held c.args.values.now c.loop-next.next c.loop-next.listed.keys c.index-r.result.now c.loop-next.invariant c.index-r.ensures in
    subst (λ (n : ℕ). IsGathered c.args.state.now.held c.args.values.now n c.list_references-in-loop-next.new.listed.keys) more
    (subst (IsGathered c.args.state.now.held c.args.values.now (suc c.loop-next.next)) same next)

pub returns-clause-listing : goal.returns-clause-listing
returns-clause-listing c = gathered_whole c.args.state.now.held c.args.values.now c.loop-next.next c.loop-next.listed.keys c.loop-next.invariant (omega (arith, c.loop-next-test.false, c.len.ensures.len))

pub returns-clause-few : goal.returns-clause-few
returns-clause-few c =
    let few : length c.loop-next.listed.keys ≤ length c.args.state.now.held.objects = gathered_few c.args.state.now.held c.objects-count.ensures.contained c.args.values.now c.requires c.loop-next.next c.loop-next.listed.keys c.loop-next.invariant in
    omega (arith, few, c.objects-count.ensures.count, c.objects-count.ensures.limit)

pub returns-clause-there : goal.returns-clause-there
returns-clause-there c = gathered_all c.args.state.now.held c.objects-count.ensures.contained c.args.values.now c.requires c.loop-next.next c.loop-next.listed.keys c.loop-next.invariant

pub returns-in_err-list_references-clause-one : goal.returns-in_err-list_references-clause-one
returns-in_err-list_references-clause-one c = one_listing c.args.state.now.held c.objects-count.ensures.contained c.args.values.now c.requires

pub returns-in_err-list_references-2-clause-one : goal.returns-in_err-list_references-2-clause-one
returns-in_err-list_references-2-clause-one c = one_listing c.args.state.now.held c.objects-count.ensures.contained c.args.values.now c.requires

pub returns-clause-one : goal.returns-clause-one
returns-clause-one c = one_listing c.args.state.now.held c.objects-count.ensures.contained c.args.values.now c.requires
