use Rattle.std.proofs.Common.{◌∙◌, ◌++◌, refl, ap, List, arith}
use Rattle.std.specs.List.{flat_map}
use Rattle.pz_classes_code.specs.pz_syntax.declared.clusters.Channel.{Channel}
use Rattle.pz_classes_code.specs.pz_syntax.declared.clusters.ChannelEnd.{ChannelEnd}
use Rattle.pz_classes_code.specs.pz_syntax.ClassView.{decl_view, model_view}
use Rattle.pz_classes.specs.pz_check_violations.declared.violation.Violation.{Violation}
use Rattle.pz_classes.specs.pz_check_violations.Least.{least_from}
use Rattle.pz_classes.specs.pz_classes_rules.Instances.{channels}
use Rattle.pz_classes.proofs.pz_classes_rules_proofs.FewMarks.{instances_few}
use Rattle.pz_check_instances.specs.devices.Ends.{Wanted, missing_at, wanted_at}
use Rattle.pz_check_instances.specs.devices.Search.{wanted_of}
use Rattle.pz_check_instances.proofs.Steps.{joined_each, list_step, least_step, list_done}
use Rattle.pz_check_instances.proofs.channel_ends.Search.add_decl.Goals as goal

pub places_of-requires : goal.places_of-requires
places_of-requires c = rw c.instances_of.ensures (omega (arith, instances_few (decl_view c.args.decl.now), c.requires.marks))

pub loop-channel-init : goal.loop-channel-init
loop-channel-init c =
    let m = model_view c.args.model.now in
    let d = decl_view c.args.decl.now in
    rw c.channels_of-channel-items.ensures (record {
      counted = refl;
      asked = λ k. ap (λ (ws : List Wanted). wanted_of c.args.self.now k ++ ws) (joined_each (wanted_at m k c.args.number d) (λ (h : Channel). h.ends) (channels d));
      least = ap (λ (vs : List Violation). least_from c.args.self.now.least vs) (joined_each (missing_at m c.args.number d) (λ (h : Channel). h.ends) (channels d));
    })

pub loop-channel-preserved : goal.loop-channel-preserved
loop-channel-preserved c =
    let m = model_view c.args.model.now in
    let d = decl_view c.args.decl.now in
    let n = c.args.number in
    record {
      counted = c.in_ok-add_ends.ensures.counted ∙ c.loop-channel.invariant.counted;
      asked = λ k. list_step (λ (h : Channel). flat_map (wanted_at m k n d) h.ends) _ c.channel-item.result _ _ (wanted_of c.loop-channel.self k) (wanted_of c.add_ends.new.self k) _
          c.loop-channel-test.true c.channel-item.is (omega arith)
          (c.in_ok-add_ends.ensures.asked k ∙ ap (λ (es : List ChannelEnd). wanted_of c.loop-channel.self k ++ flat_map (wanted_at m k n d) es) c.as_slice.ensures)
          (c.loop-channel.invariant.asked k);
      least = least_step (λ (h : Channel). flat_map (missing_at m n d) h.ends) _ c.channel-item.result _ _ _ _ _
          c.loop-channel-test.true c.channel-item.is (omega arith)
          (c.in_ok-add_ends.ensures.least ∙ ap (λ (es : List ChannelEnd). least_from c.loop-channel.self.least (flat_map (missing_at m n d) es)) c.as_slice.ensures)
          c.loop-channel.invariant.least;
    }

pub returns-clause-asked : goal.returns-clause-asked
returns-clause-asked c = λ k.
    list_done (λ (h : Channel). flat_map (wanted_at (model_view c.args.model.now) k c.args.number (decl_view c.args.decl.now)) h.ends) c.channels_of-channel-items.result.now c.loop-channel.channel-index
    (wanted_of c.loop-channel.self k) _ (omega arith) (c.loop-channel.invariant.asked k)
