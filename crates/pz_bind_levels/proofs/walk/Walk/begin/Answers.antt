use Rattle.std.proofs.Common.{sym, ap, ◌∙◌, ◌-◌}
use Rattle.std.proofs.lemmas.List.{length-map}
use Rattle.pz_bind_levels.specs.devices.Walking.{layout_of, layouts_of}
use Rattle.pz_bind_levels.proofs.Walked.{begun}
use Rattle.pz_bind_levels.proofs.walk.Walk.begin.Goals as goal

pub returns : goal.returns
returns c = begun (layouts_of c.args.plans.now) c.args.system c.requires _ c.enter.new.self _ (c.saturating_sub.ensures ∙ ap (λ n. n - 1) (sym (length-map c.args.plans.now layout_of))) c.new.ensures c.new-2.ensures c.new-3.ensures c.new-4.ensures.items c.in_ok-enter.ensures
