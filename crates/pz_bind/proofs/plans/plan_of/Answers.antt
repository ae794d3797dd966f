use Rattle.std.proofs.Common.{◌≡◌, ◌∙◌, ap, map, List, ℕ}
use Rattle.pz_bind_rules.specs.pz_syntax.declared.clusters.Instance.{Instance}
use Rattle.pz_bind_rules.specs.pz_syntax.declared.clusters.Channel.{Channel}
use Rattle.pz_classes.specs.CheckedView.{checked_model}
use Rattle.pz_bind_rules.specs.Nest.{instances_in, channels_in}
use Rattle.pz_bind_rules.specs.devices.Layouts.{part_of, outer_from, linked_by, links_from}
use Rattle.pz_bind.proofs.PlanSteps.{same_layout, instances_fit}
use Rattle.pz_bind.proofs.plans.plan_of.Goals as goal

pub returns : goal.returns
returns c =
    let m = checked_model c.args.checked.now in
    let instances : c.instances_in-instances.result.now ≡ instances_in m c.args.class = c.instances_in-instances.ensures in
    let channels : c.channels_in-channels.result.now ≡ channels_in m c.args.class = c.channels_in-channels.ensures in
    let parts : c.in_ok-parts.parts ≡ map (part_of m) c.instances_in-instances.result.now = c.in_ok-parts.ensures in
    let linked : (i p : ℕ) → _ = λ i p. c.in_ok-links.ensures (c.as_slice.ensures ∙ parts) i p in
    same_layout _ _
    (parts ∙ ap (map (part_of m)) instances)
    (c.in_ok-outer.ensures ∙ ap (map (λ (h : Channel). outer_from m c.args.class h.ends)) channels)
    (λ i p. linked i p ∙ (ap (λ (xs : List Instance). linked_by (links_from m xs 0 c.channels_in-channels.result.now) i p) instances ∙ ap (λ (hs : List Channel). linked_by (links_from m (instances_in m c.args.class) 0 hs) i p) channels))

pub links_of-requires : goal.links_of-requires
links_of-requires c = rw c.instances_in-instances.ensures (instances_fit (checked_model c.args.checked.now) c.requires.numbers c.args.class)
